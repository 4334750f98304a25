use Rattle.std.proofs.Common.{◌≡◌, ap, codes, option_map, string_bytes, ◌∙◌}
use Rattle.couch_json.specs.Value.{member_at, put}
use Rattle.couch_json.specs.View.{members_view, view}
use Rattle.couch_json.specs.declared.value.Json.{Null}
use Rattle.couch_json.proofs.Objects.{members_view-insert_entry, view-lookup}
use Rattle.write.specs.IndexWrites.{members_if}
use Rattle.write.proofs.IndexMembers.{view-Null}
use Rattle.write.proofs.index_writes.take_indexes.Goals as goal

pub returns-clause-value : goal.returns-clause-value
returns-clause-value c =
    let before = c.args.members.now.entries in
    let named : string_bytes c.in_ok-name.name ≡ codes "indexes" = c.in_ok-name.ensures.ok in
    c.into_members.ensures
    ∙ ap members_if (ap (option_map view) c.in_ok-indexes.ensures.old ∙ view-lookup (string_bytes c.in_ok-name.name) before ∙ ap (λ n. member_at n (members_view before)) named)

pub returns-clause-null : goal.returns-clause-null
returns-clause-null c =
    let before = c.args.members.now.entries in
    let named : string_bytes c.in_ok-name.name ≡ codes "indexes" = c.in_ok-name.ensures.ok in
    ap members_view c.in_ok-indexes.ensures.entries ∙ members_view-insert_entry before c.in_ok-name.name Null
    ∙ ap (λ name. put name (view Null) (members_view before)) named ∙ ap (λ v. put (codes "indexes") v (members_view before)) view-Null
