use Rattle.std.proofs.Common.{Some, ap, option_map, sym, ◌∙◌}
use Rattle.couch_json.specs.View.{members_view, view}
use Rattle.couch_json.proofs.Objects.{view-Object}
use Rattle.write.specs.IndexWrites.{members_if}
use Rattle.write.proofs.index_writes.into_members.Goals as goal

pub returns-in-Some-Object : goal.returns-in-Some-Object
returns-in-Some-Object c =
    (λ i. members_view (c.in-Some-Object.members-is i).entries)
    ∙ sym ((λ i. members_if (option_map view (c.in-Some-Object.is i))) ∙ (λ i. members_if (Some (view (c.in-Some-Object.field-0-is i)))) ∙ ap (λ v. members_if (Some v)) (view-Object c.in-Some-Object.members))
