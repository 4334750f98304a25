-- The role that is put in is one of those to come.
use Rattle.std.proofs.Common.{◌≡◌, ◌||◌, ◌+◌, ◌∷◌, ◌∙◌, ap, sym, List, ℕ, drop, map, string_bytes, rules, arith}
use Rattle.std.proofs.lemmas.Grind.{common_steps}
use Rattle.std.proofs.lemmas.Map.Text.{btree_set_updates_text}
use Rattle.std.specs.BTreeSet.{contains_text}
use Rattle.auth.specs.Roles.{is_among}
use Rattle.auth.proofs.RoleLemmas.{HasRoles-step}
use Rattle.auth.proofs.roles.collect_roles.Goals as goal

pub loop-role-preserved : goal.loop-role-preserved
loop-role-preserved c =
    let l = c.loop-role in
    let roles = c.args.roles.now in
    let role = string_bytes c.in_ok-clone.field-0 in
    let left = map string_bytes (drop (l.role-index + 1) roles) in
    let same : role ≡ string_bytes c.role-item.result = search rules in
    let item : drop l.role-index roles ≡ c.role-item.result ∷ drop (l.role-index + 1) roles = grind (arith, common_steps) in
    let steps : map string_bytes (drop l.role-index roles) ≡ role ∷ left = ap (map string_bytes) item ∙ ap (λ r. r ∷ left) (sym same) in
    HasRoles-step l.known c.insert.new.self role left (map string_bytes roles)
    (btree_set_updates_text role l.known c.insert.new.self _ c.in_ok-insert.ensures.updates)
    (λ q. ap (λ (rs : List (List ℕ)). contains_text l.known q || is_among q rs) (sym steps) ∙ l.invariant q)
