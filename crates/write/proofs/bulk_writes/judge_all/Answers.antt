use Rattle.std.proofs.Common.{◌≡◌, ◌∷◌, ◌∙◌, [], ap, map, refl, reverse, rules, subst, sym, arith}
use Rattle.std.proofs.lemmas.Grind.{common_steps}
use Rattle.std.proofs.lemmas.List.{map-append}
use Rattle.std.proofs.lemmas.List.Elements.{All-push}
use Rattle.std.specs.Prelude.{codes}
use Rattle.std.specs.FinMap as finite
use Rattle.std.specs.Vec.Iter.{into_iter_items}
use Rattle.couch_json.specs.View.{view}
use Rattle.store.specs.Contents.{Contents}
use Rattle.store.specs.Writing.{additions}
use Rattle.store.proofs.Calls.{reads_nothing, reads_then}
use Rattle.write.specs.BulkResults.{IsOwnOutcome, told_of}
use Rattle.write.specs.Document.{member_text}
use Rattle.write.specs.inner.Repeats.{is_named_if_any, repeats}
use Rattle.write.specs.declared.planned.DocumentResult.{DocumentResult}
use Rattle.write.proofs.Repetitions.{marks_cons}
use Rattle.write.specs.Terms.{Terms}
use Rattle.write.proofs.Judgings.{IsJudged, begun, judged_draft, judged_results, judged_writes}
use Rattle.write.proofs.bulk_writes.judge_all.Goals as goal

pub loop-document-init : goal.loop-document-init
loop-document-init g c = record {
  judged = λ honest d there.
      begun c.args.terms.now c.args.new_edits d (map view c.args.documents.items) _ c.new-histories.result _ _ c.new-histories.ensures.empty
      (ap (map view) c.into_iter-document-iterator.ensures.into_iter_gives.0) (ap additions c.in_ok-writes.ensures.items) (ap (map told_of) c.in_ok-results.ensures.items);
  terms = refl;
  marks =
      let all : c.deref.result.now ≡ into_iter_items c.into_iter-document-iterator.result = search rules in
      c.in_ok-repeats.ensures ∙ ap (λ vs. reverse (repeats (map view vs))) all;
  own = grind (arith, common_steps);
  reads = reads_nothing g.S.Store c.args.store.now;
}

pub loop-document-preserved : goal.loop-document-preserved
loop-document-preserved g c =
    let l = c.loop-document in
    let left = into_iter_items c.next.new.self in
    let document = view c.in-Some.document in
    let first : into_iter_items l.document-iterator ≡ c.in-Some.document ∷ left = search rules in
    let mark = c.take_mark-again.ensures (reverse (repeats (map view left))) (is_named_if_any (member_text (codes "_id") document) (map view left))
    (l.invariant.marks ∙ ap (λ vs. reverse (repeats (map view vs))) first ∙ marks_cons document (map view left)) in
    record {
      judged = λ honest d there.
          let before = c.in_ok-load.ensures.reads.goes_on.honest honest in
          let Judged : Terms → Type 0 = λ t. IsJudged t c.args.new_edits d (map view c.args.documents.items) (map view (into_iter_items l.document-iterator)) l.histories (additions l.writes.items) (map told_of l.results.items) in
          let JudgedNext : Terms → Type 0 = λ t. IsJudged t c.args.new_edits d (map view c.args.documents.items) (map view left) c.judge_one.new.histories (additions c.judge_one.new.writes.items) (map told_of c.push.new.self.items) in
          subst JudgedNext l.invariant.terms (judged_draft l.terms c.args.new_edits c.take_mark-again.result d (map view c.args.documents.items) (map view (into_iter_items l.document-iterator)) (map view left) document
          c.in_ok-draft.draft.label c.in_ok-draft.draft.id c.in_ok-draft.draft.request
          l.histories c.load.new.histories c.judge_one.new.histories (additions l.writes.items) (additions c.judge_one.new.writes.items)
          (map told_of l.results.items) (map told_of c.push.new.self.items) (told_of c.in_ok-judge_one.field-0)
          (ap (map view) first) (subst Judged (sym l.invariant.terms) (l.invariant.judged before d there))
          (c.in_ok-load.ensures.ok honest d (ap (λ (x : Contents). finite.get x c.args.db.now) (l.invariant.reads.same before) ∙ there))
          mark.0
          c.in_ok-draft.ensures.id c.in_ok-draft.ensures.label_id c.in_ok-draft.ensures.label_rev c.in_ok-draft.ensures.outcome
          c.in_ok-judge_one.ensures.told c.in_ok-judge_one.ensures.histories c.in_ok-judge_one.ensures.writes
          (ap (map told_of) c.in_ok-push.ensures.items ∙ map-append told_of l.results.items (c.in_ok-judge_one.field-0 ∷ [])));
      terms = c.in_ok-judge_one.ensures.terms ∙ l.invariant.terms;
      marks = mark.1;
      own = rw c.in_ok-push.ensures.items
          (All-push (λ (r : DocumentResult). IsOwnOutcome r.outcome) l.results.items c.in_ok-judge_one.field-0 l.invariant.own c.in_ok-judge_one.ensures.own);
      reads = reads_then g.S.Store c.args.store.now l.store c.load.new.store l.invariant.reads c.in_ok-load.ensures.reads;
    }

pub returns-clause-writes : goal.returns-clause-writes
returns-clause-writes g c = λ honest d there.
    let l = c.loop-document in
    let none : into_iter_items l.document-iterator ≡ [] = grind (arith, common_steps) in
    judged_writes c.args.terms.now c.args.new_edits d (map view c.args.documents.items) (map view (into_iter_items l.document-iterator)) l.histories (additions l.writes.items) (map told_of l.results.items)
    (ap (map view) none) (l.invariant.judged honest d there)

pub returns-clause-results : goal.returns-clause-results
returns-clause-results g c = λ honest d there.
    let l = c.loop-document in
    let none : into_iter_items l.document-iterator ≡ [] = grind (arith, common_steps) in
    judged_results c.args.terms.now c.args.new_edits d (map view c.args.documents.items) (map view (into_iter_items l.document-iterator)) l.histories (additions l.writes.items) (map told_of l.results.items)
    (ap (map view) none) (l.invariant.judged honest d there)
