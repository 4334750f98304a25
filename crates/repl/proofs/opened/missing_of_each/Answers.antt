use Rattle.std.proofs.Common.{◌≡◌, ◌∷◌, [], ◌++◌, ◌+◌, ℕ, List, drop, map, string_bytes, sym, ap, ◌∙◌}
use Rattle.std.proofs.lemmas.List.{drop_more}
use Rattle.couch_json.specs.View.{view}
use Rattle.repl.specs.Listed.{revisions_of}
use Rattle.repl.specs.Replies.{groups_from, missing_of, missing_of_each, of_document}
use Rattle.repl.proofs.GroupLemmas.{of_document_before}
use Rattle.repl.proofs.MadeLemmas.{made_of_one}
use Rattle.repl.proofs.opened.missing_of_each.Goals as goal

pub loop-document-preserved : goal.loop-document-preserved
loop-document-preserved c =
    let ds = c.args.listed.now in
    let i = c.loop-document.document-index in
    let d = c.document-item.result in
    let v = view c.args.value.now in
    let id = (revisions_of d).id in
    let before = map revisions_of c.loop-document.missing.items in
    let texts : map string_bytes c.deref.result.now ≡ missing_of id v =
    ap (map string_bytes) c.deref.ensures.value ∙ c.in_ok-revisions.ensures ∙ ap (λ (name : List ℕ). missing_of name v) c.as_str.ensures.value in
    let first = drop_more ds i d c.loop-document-test.true ∙ (λ k. sym c.document-item.is k ∷ drop (i + 1) ds) in
    made_of_one (λ ls. missing_of_each v (map revisions_of ls)) d (drop i ds) (drop (i + 1) ds) (of_document id (groups_from [] (missing_of id v)) [])
    before (map revisions_of c.push_groups.new.missing.items)
    first (sym (of_document_before id (groups_from [] (missing_of id v)) (missing_of_each v (map revisions_of (drop (i + 1) ds)))))
    (c.in_ok-push_groups.ensures
    ∙ ap (λ (name : List ℕ). before ++ of_document name (groups_from [] (map string_bytes c.deref.result.now)) []) c.as_str-in-loop-document.ensures.value
    ∙ ap (λ (ts : List (List ℕ)). before ++ of_document id (groups_from [] ts) []) texts)
    ∙ c.loop-document.invariant
