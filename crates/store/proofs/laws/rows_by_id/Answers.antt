use Rattle.store.proofs.Among.{contained, in_contained}
use Rattle.store.proofs.IdRows.{id_page_ascends, id_row_from, id_row_there}
use Rattle.store.proofs.laws.rows_by_id.Goals as goal

pub returns : goal.returns
returns c =
    record {
      ascending = id_page_ascends;
      there = λ range db r i. id_row_from range db r (in_contained _ r i);
      whole = λ range db r none no_skip h. contained _ r (id_row_there range db r none no_skip h);
    }
