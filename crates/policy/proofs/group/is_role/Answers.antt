-- No role is among no texts.
use Rattle.std.proofs.Common.{◌≡◌, ◌∙◌, ap, sym, None, rules}
use Rattle.std.specs.Prelude.{option_to_list}
use Rattle.couch_json.specs.Parts.{text_in}
use Rattle.couch_json.specs.View.{view}
use Rattle.policy.proofs.RolesListed.{any_among, none_among}
use Rattle.policy.proofs.group.is_role.Goals as goal

pub returns-in-None : goal.returns-in-None
returns-in-None c =
    let roles = c.args.caller.now.roles in
    let none : text_in (view c.args.item.now) ≡ None = search rules in
    sym (ap (λ text. any_among (option_to_list text) roles) none ∙ none_among roles)
