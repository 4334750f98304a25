use Rattle.std.proofs.Common.{◌≡◌, string_bytes, ap, ◌∙◌}
use Rattle.couch_json.specs.Value.{put}
use Rattle.couch_json.specs.View.{view, members_view}
use Rattle.couch_json.proofs.Objects.{members_view-insert_entry}
use Rattle.couch_json.proofs.members.put_member.Goals as goal

pub returns-clause-ok : goal.returns-clause-ok
returns-clause-ok c =
    let before = c.args.members.now.entries in
    let named : string_bytes c.in_ok-from_str.field-0 ≡ c.args.name.now = c.in_ok-from_str.ensures.ok in
    ap members_view c.in_ok-insert.ensures.entries ∙ members_view-insert_entry before c.in_ok-from_str.field-0 c.args.value
    ∙ ap (λ name. put name (view c.args.value) (members_view before)) named
