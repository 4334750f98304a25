use Rattle.std.proofs.Common.{ap, codes, option_map, ◌∙◌}
use Rattle.couch_json.specs.Value.{put}
use Rattle.couch_json.specs.View.{members_view, view}
use Rattle.couch_json.proofs.Objects.{view-Object}
use Rattle.write.proofs.IndexMembers.{with_one_more}
use Rattle.write.proofs.index_writes.build_document.Goals as goal

pub returns : goal.returns
returns c =
    view-Object c.put_member-2.new.members
    ∙ with_one_more c.args.name.now (view c.args.index) (option_map view c.args.body) _ _ _ _ _ c.into_members-members.ensures c.in_ok-indexes.ensures.value c.in_ok-indexes.ensures.null c.in_ok-put_member.ensures.ok
    (c.in_ok-put_member-2.ensures.ok ∙ ap (λ v. put (codes "indexes") v (members_view c.take_indexes.new.members.entries)) (view-Object c.put_member.new.members))
