use Rattle.index.proofs.Common.{List, [], ap, arith, drop, length, refl, rules, sym, ◌++◌, ◌+◌, ◌∙◌, ◌∷◌, ◌≡◌}
use Rattle.couch_json.specs.Value.{Items, array, item, no_items, text}
use Rattle.couch_json.specs.View.{items_view, view}
use Rattle.couch_json.specs.declared.value.Json.{Json}
use Rattle.index.proofs.Declared.{before_paths}
use Rattle.index.specs.Rows.{path_items}
use Rattle.std.proofs.Common.{string_bytes, ◌≤◌}
use Rattle.std.proofs.lemmas.List.{drop_all, drop_more}
use Rattle.index.proofs.declaring.list_fields.Goals as goal

before_push : (vs : List Json) (v : Json) (us : Items) → before_paths (items_view (vs ++ v ∷ [])) us ≡ before_paths (items_view vs) (item (view v) us)
before_push [] v us = refl
before_push (w ∷ vs) v us = ap (item (view w)) (before_push vs v us)

before_none : (us : Items) → before_paths us no_items ≡ us
before_none no_items = refl
before_none (item u us) = ap (item u) (before_none us)

pub loop-field-preserved : goal.loop-field-preserved
loop-field-preserved c =
    let fields = c.args.fields.now in
    let i = c.loop-field.field-index in
    let path = c.field-item.result in
    let items = c.loop-field.items.items in
    let rest = path_items (drop (i + 1) fields) in
    let told : string_bytes c.in_ok-path.path ≡ c.field-item.result = search rules in
    ap (λ l. before_paths (items_view l) rest) c.in_ok-push.ensures.items ∙ before_push items c.make_text.result rest
    ∙ ap (λ v. before_paths (items_view items) (item v rest)) (c.make_text.ensures ∙ ap text told)
    ∙ ap (λ l. before_paths (items_view items) (path_items l)) (sym (drop_more fields i path c.loop-field-test.true ∙ (λ j. sym c.field-item.is j ∷ drop (i + 1) fields))) ∙ c.loop-field.invariant

pub returns : goal.returns
returns c =
    let fields = c.args.fields.now in
    let i = c.loop-field.field-index in
    let none : length fields ≤ i = omega (arith, c.loop-field-test.false) in
    c.make_list.ensures
    ∙ ap array
    (sym (before_none (items_view c.loop-field.items.items)) ∙ ap (λ l. before_paths (items_view c.loop-field.items.items) (path_items l)) (sym (drop_all i fields none)) ∙ c.loop-field.invariant)
