-- The roles are asked text by text.
use Rattle.std.proofs.Common.{◌≡◌, ◌+◌, ◌∷◌, ◌∙◌, [], ap, sym, drop, arith}
use Rattle.std.specs.Prelude.{option_to_list}
use Rattle.std.proofs.lemmas.Grind.{common_steps}
use Rattle.couch_json.specs.Parts.{text_in}
use Rattle.couch_json.specs.View.{view, items_view}
use Rattle.policy.specs.Security.{item_texts}
use Rattle.policy.proofs.RolesListed.{any_among, none_among, role-found, role-missed}
use Rattle.policy.proofs.group.has_role.Goals as goal

pub returns-then-is_role : goal.returns-then-is_role
returns-then-is_role c =
    let i = c.loop-role.role-index in
    let roles = c.args.roles.now in
    let item : drop i roles ≡ c.role-item.result ∷ drop (i + 1) roles = grind (arith, common_steps) in
    role-found (option_to_list (text_in (view c.role-item.result))) (item_texts (items_view (drop (i + 1) roles))) (item_texts (items_view (drop i roles))) (item_texts (items_view roles))
    c.args.caller.now.roles c.is_role.result c.is_role.ensures c.if-is_role.true (ap (λ js. item_texts (items_view js)) item) c.loop-role.invariant

pub loop-role-preserved : goal.loop-role-preserved
loop-role-preserved c =
    let i = c.loop-role.role-index in
    let roles = c.args.roles.now in
    let item : drop i roles ≡ c.role-item.result ∷ drop (i + 1) roles = grind (arith, common_steps) in
    role-missed (option_to_list (text_in (view c.role-item.result))) (item_texts (items_view (drop (i + 1) roles))) (item_texts (items_view (drop i roles))) (item_texts (items_view roles))
    c.args.caller.now.roles c.is_role.result c.is_role.ensures c.if-is_role.false (ap (λ js. item_texts (items_view js)) item) c.loop-role.invariant

pub returns : goal.returns
returns c =
    let roles = c.args.roles.now in
    let none : drop c.loop-role.role-index roles ≡ [] = grind (arith, common_steps) in
    sym (none_among c.args.caller.now.roles)
    ∙ ap (λ js. any_among (item_texts (items_view js)) c.args.caller.now.roles) (sym none)
    ∙ c.loop-role.invariant
