use Rattle.index.proofs.Common.{Entries, Bool, IndexFault, List, Ok, declared, map, true, ◌||◌, ◌≡◌, ℕ}
use Rattle.index.specs.Filling.{numbers_of}
use Rattle.index.specs.inner.Gathering.{HasEntriesBeside, IsToGatherRange, entry_of, without_documents}
use Rattle.index.specs.Steps.{Steps}
use Rattle.tables.specs.Listings.{is_between}
use Rattle.index.proofs.filling.gather_range.Given as goal

-- the same transaction, and the documents that come next in the range are missing
abbrev pub invariant-loop-part : goal.invariant-loop-part
invariant-loop-part g l = record {
  same : l.tx.conn.ghost_name ≡ l.initial.tx.conn.ghost_name;
  inside : (id : List ℕ) → is_between l.from.items l.high id ≡ true → is_between l.low l.high id ≡ true;
  so_far : (left : List ℕ → Bool) (due : Entries)
      → Steps {X = Unit {0}} {E = IndexFault} g.S.Store (IsToGatherRange l.db (map declared l.declarations) l.low l.high left (map entry_of l.initial.gathered.entries.items) due)
      (HasEntriesBeside (without_documents due (numbers_of (map declared l.declarations)) (λ id. is_between l.from.items l.high id || left id)) (map entry_of l.gathered.entries.items)) l.initial.tx.conn.now l.tx.conn.now (Ok tt);
}
