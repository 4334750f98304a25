use Rattle.std.proofs.Common.{◌≡◌, drop}
use Rattle.std.specs.List.{list_any}
use Rattle.auth.specs.Roles.{is_among}
use Rattle.couch_json.specs.View.{items_view}
use Rattle.policy.specs.Security.{item_texts}
use Rattle.policy.proofs.group.has_role.Given as goal

abbrev pub invariant-loop-role : goal.invariant-loop-role
invariant-loop-role l =
    list_any (λ role. is_among role (item_texts (items_view (drop l.role-index l.roles)))) l.caller.roles
    ≡ list_any (λ role. is_among role (item_texts (items_view l.roles))) l.caller.roles
