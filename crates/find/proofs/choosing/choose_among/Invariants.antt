use Rattle.std.proofs.Common.{◌≡◌, Some}
use Rattle.std.specs.FinMap as finite
use Rattle.std.specs.Prelude.{IfSome}
use Rattle.store.specs.Calls.{OnlyReads}
use Rattle.store.specs.Database.{Database}
use Rattle.find.specs.inner.Planning.{IsReadIn}
use Rattle.find.proofs.choosing.choose_among.Given as goal

abbrev pub invariant-loop-row : goal.invariant-loop-row
invariant-loop-row g l = record {
  read : g.S.Store.is_honest l.store → (d : Database) → finite.get (g.S.Store.contents l.initial.store) l.db ≡ Some d → IfSome l.chosen (λ c. IsReadIn c d);
  reads : OnlyReads g.S.Store l.initial.store l.store;
}
