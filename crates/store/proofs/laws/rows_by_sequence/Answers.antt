use Rattle.std.proofs.Common.{refl}
use Rattle.store.proofs.Among.{contained, in_contained}
use Rattle.store.proofs.RowOrders.{page_ascends}
use Rattle.store.proofs.Rows.{page_within, row_from, row_there}
use Rattle.store.proofs.laws.rows_by_sequence.Goals as goal

pub returns : goal.returns
returns c =
    record {
      ascending = page_ascends;
      there = λ range db r i. row_from range db r (in_contained _ r i);
      whole = λ range db id d h none is after. contained _ _ (row_there range db id d h none is after);
      first = λ range db n. refl;
      within = page_within;
    }
