use Rattle.std.proofs.Common.{◌∷◌, [], ◌+◌, drop, map, sym, ◌∙◌}
use Rattle.std.proofs.lemmas.List.{drop_more}
use Rattle.couch_json.specs.View.{view}
use Rattle.repl.specs.Replies.{missing_reports}
use Rattle.repl.specs.Taken.{opened_of}
use Rattle.repl.proofs.MadeLemmas.{reports_parted, made_of_one}
use Rattle.repl.proofs.opened_parts.missing_reports.Goals as goal

pub loop-revision-preserved : goal.loop-revision-preserved
loop-revision-preserved c =
    let id = c.args.id.now in
    let rs = c.args.opened.now in
    let i = c.loop-revision.revision-index in
    let r = c.revision-item.result in
    let first = drop_more rs i r c.loop-revision-test.true ∙ (λ k. sym c.revision-item.is k ∷ drop (i + 1) rs) in
    made_of_one (λ os. missing_reports id (map opened_of os)) r (drop i rs) (drop (i + 1) rs) (missing_reports id (opened_of r ∷ []))
    (map view c.loop-revision.reports.items) (map view c.push_report.new.reports.items)
    first (reports_parted id (opened_of r) (map opened_of (drop (i + 1) rs))) c.in_ok-push_report.ensures
    ∙ c.loop-revision.invariant
