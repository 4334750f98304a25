use Rattle.std.proofs.Common.{ap, option_map, sym, ◌∙◌}
use Rattle.couch_json.specs.Value.{member_of, object}
use Rattle.couch_json.specs.View.{members_view, view}
use Rattle.couch_json.proofs.Objects.{view-Object, view-lookup}
use Rattle.write.specs.Document.{without_member}
use Rattle.write.proofs.Ancestries.{members_view-remove_entry}
use Rattle.write.proofs.ancestry.take_member.Goals as goal

pub returns-in-Object-clause-taken : goal.returns-in-Object-clause-taken
returns-in-Object-clause-taken c =
    ap (option_map view) c.remove-taken.ensures.value ∙ view-lookup c.args.name.now c.in-Object.members.entries
    ∙ sym (ap (λ v. member_of v c.args.name.now) (ap view c.in-Object.is ∙ view-Object c.in-Object.members))

pub returns-in-Object-clause-rest : goal.returns-in-Object-clause-rest
returns-in-Object-clause-rest c =
    view-Object c.remove-taken.new.self
    ∙ ap object (ap members_view c.remove-taken.ensures.entries ∙ members_view-remove_entry c.args.name.now c.in-Object.members.entries)
    ∙ sym (ap (without_member c.args.name.now) (ap view c.in-Object.is ∙ view-Object c.in-Object.members))
