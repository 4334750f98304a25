use Rattle.std.proofs.Common.{rules, ◌∙◌, ap}
use Rattle.std.proofs.lemmas.Fn.{filter_same}
use Rattle.couch_json.specs.View.{members_view}
use Rattle.write.proofs.Bodies.{is_plain, members_view-filter}
use Rattle.write.proofs.document.without_special.Goals as goal

pub returns : goal.returns
returns c =
    ap members_view (c.without_room.ensures ∙ filter_same _ is_plain _ (λ e b f' t. search rules) _ _ c.retain.ensures)
    ∙ members_view-filter c.args.members.entries
