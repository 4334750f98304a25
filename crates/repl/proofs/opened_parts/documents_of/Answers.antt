use Rattle.std.proofs.Common.{◌∷◌, [], ◌+◌, drop, map, sym, ◌∙◌}
use Rattle.std.proofs.lemmas.List.{drop_more}
use Rattle.couch_json.specs.View.{view}
use Rattle.repl.specs.Replies.{documents_of_opened}
use Rattle.repl.specs.Taken.{opened_of}
use Rattle.repl.proofs.MadeLemmas.{documents_parted, made_of_one}
use Rattle.repl.proofs.opened_parts.documents_of.Goals as goal

pub loop-revision-preserved : goal.loop-revision-preserved
loop-revision-preserved c =
    let rs = c.args.opened.now in
    let i = c.loop-revision.revision-index in
    let r = c.revision-item.result in
    let first = drop_more rs i r c.loop-revision-test.true ∙ (λ k. sym c.revision-item.is k ∷ drop (i + 1) rs) in
    made_of_one (λ os. documents_of_opened (map opened_of os)) r (drop i rs) (drop (i + 1) rs) (documents_of_opened (opened_of r ∷ []))
    (map view c.loop-revision.documents.items) (map view c.push_document.new.documents.items)
    first (documents_parted (opened_of r) (map opened_of (drop (i + 1) rs))) c.in_ok-push_document.ensures
    ∙ c.loop-revision.invariant
