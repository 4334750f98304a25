use Rattle.std.proofs.Common.{sym, ap, ◌∙◌, option_map}
use Rattle.couch_json.specs.Value.{member_of}
use Rattle.couch_json.specs.View.{view}
use Rattle.couch_json.proofs.Objects.{view-lookup, view_of_reference, view-Object}
use Rattle.couch_json.proofs.value.Json.member.Goals as goal

pub returns-in-Object : goal.returns-in-Object
returns-in-Object c =
    let name = c.args.name.now in
    let members = c.in-Object.members in
    view_of_reference c.get.result ∙ ap (option_map view) c.get.ensures ∙ view-lookup name members.entries
    ∙ sym (ap (λ v. member_of (view v) name) c.in-Object.is ∙ ap (λ v. member_of v name) (view-Object members))
