-- What an outline doesn't know its history doesn't.
use Rattle.std.proofs.Common.{ap, string_bytes, ◌∙◌}
use Rattle.std.specs.Prelude.{map}
use Rattle.couch_json.specs.View.{members_view, view}
use Rattle.tree.specs.History.{HistoryContent}
use Rattle.read.specs.Differences.{history_by, missing_texts, with_missing}
use Rattle.read.proofs.Outlines.{missing_same}
use Rattle.read.proofs.differences.put_difference.Goals as goal

pub returns-clause-ok : goal.returns-clause-ok
returns-clause-ok g c honest d there =
    let ms = members_view c.args.members.now.entries in
    let id = string_bytes c.args.asked.now.id in
    let revs = c.deref.result.now in
    c.in_ok-put_missing.ensures.ok
    ∙ ap (λ i. with_missing i (map view c.in_ok-missing.missing.items) ms) c.as_str-2.ensures.value
    ∙ ap (λ vs. with_missing id vs ms)
    (c.in_ok-missing.ensures
    ∙ ap (λ (h : HistoryContent). missing_texts h revs) (c.in_ok-outline.ensures.ok honest d there)
    ∙ missing_same (history_by d c.as_str.result.now) revs
    ∙ ap (λ i. missing_texts (history_by d i) revs) c.as_str.ensures.value
    ∙ ap (missing_texts (history_by d id)) c.deref.ensures.value)
