use Rattle.std.proofs.Common.{◌≡◌, All, map, reverse, Some}
use Rattle.std.specs.FinMap as finite
use Rattle.std.specs.Vec.Iter.{into_iter_items}
use Rattle.couch_json.specs.View.{view}
use Rattle.store.specs.Calls.{OnlyReads}
use Rattle.store.specs.Database.{Database}
use Rattle.store.specs.Writing.{additions}
use Rattle.write.specs.BulkResults.{IsOwnOutcome, told_of}
use Rattle.write.specs.inner.Repeats.{repeats}
use Rattle.write.proofs.Judgings.{IsJudged}
use Rattle.write.proofs.bulk_writes.judge_all.Given as goal

abbrev pub invariant-loop-document : goal.invariant-loop-document
invariant-loop-document g l = record {
  judged : g.S.Store.is_honest l.store → (d : Database) → finite.get (g.S.Store.contents l.initial.store) l.db ≡ Some d
      → IsJudged l.initial.terms l.new_edits d (map view l.fn.documents.items) (map view (into_iter_items l.document-iterator)) l.histories (additions l.writes.items) (map told_of l.results.items);
  terms : l.terms ≡ l.initial.terms;
  marks : l.repeats.items ≡ reverse (repeats (map view (into_iter_items l.document-iterator)));
  own : All (λ r. IsOwnOutcome r.outcome) l.results.items;
  reads : OnlyReads g.S.Store l.initial.store l.store;
}
