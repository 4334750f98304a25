use Rattle.std.proofs.Common.{◌≡◌, ◌++◌, Some, drop, map}
use Rattle.std.specs.FinMap as finite
use Rattle.std.specs.Prelude.{IfSome, is_some}
use Rattle.store.specs.Calls.{OnlyReads}
use Rattle.store.specs.Database.{Database, history_at}
use Rattle.tree.specs.Outline.{outline_of}
use Rattle.read.specs.OpenRevisions.{open_revision}
use Rattle.read.proofs.open_revisions.read_elements.Given as goal

-- the elements so far, with those of the revisions that are left, are all
abbrev pub invariant-loop-rev : goal.invariant-loop-rev
invariant-loop-rev g l = record {
  shown : g.S.Store.is_honest l.store → (d : Database) → finite.get (g.S.Store.contents l.initial.store) l.db ≡ Some d → IfSome l.paths (λ outline. outline ≡ outline_of (history_at d l.id))
      → l.elements ++ map (open_revision l.id (history_at d l.id) (is_some l.paths)) (drop l.rev-index l.asked) ≡ map (open_revision l.id (history_at d l.id) (is_some l.paths)) l.asked;
  reads : OnlyReads g.S.Store l.initial.store l.store;
}
