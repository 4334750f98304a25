use Rattle.store.proofs.Among.{contained, in_contained}
use Rattle.store.proofs.IndexRows.{place_from, place_there, rows_ascend}
use Rattle.store.proofs.laws.rows_by_key.Goals as goal

pub returns : goal.returns
returns c =
    record {
      ascending = rows_ascend;
      there = λ fields db p i. place_from fields db p (in_contained _ p i);
      whole = λ fields db p h. contained _ p (place_there fields db p h);
    }
