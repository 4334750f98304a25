use Rattle.std.proofs.Common.{◌≡◌, Some, drop}
use Rattle.std.specs.FinMap as finite
use Rattle.couch_json.specs.Value.{no_members}
use Rattle.couch_json.specs.View.{members_view}
use Rattle.store.specs.Calls.{OnlyReads}
use Rattle.store.specs.Database.{Database}
use Rattle.read.specs.Differences.{with_differences}
use Rattle.read.specs.DifferencesAsked.{all_asked}
use Rattle.read.proofs.differences.find_differences.Given as goal

abbrev pub invariant-loop-document : goal.invariant-loop-document
invariant-loop-document g l = record {
  found : g.S.Store.is_honest l.store → (d : Database) → finite.get (g.S.Store.contents l.initial.store) l.db ≡ Some d
      → with_differences d (members_view l.members.entries) (all_asked (drop l.document-index l.asked)) ≡ with_differences d no_members (all_asked l.asked);
  reads : OnlyReads g.S.Store l.initial.store l.store;
}
