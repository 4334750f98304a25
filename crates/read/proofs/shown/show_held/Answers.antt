-- What is held of a revision, with its path by the outline, is what the history shows of it.
use Rattle.std.proofs.Common.{Some, ap, is_some, option_map, sym, ◌∙◌}
use Rattle.couch_json.proofs.Objects.{view-Object}
use Rattle.couch_json.specs.Value.{object}
use Rattle.tree.specs.ShownDocument.{shown_members}
use Rattle.tree.specs.declared.entry.Held.{Held}
use Rattle.read.proofs.Outlines.{paths_of}
use Rattle.read.specs.Path.{with_revisions}
use Rattle.read.proofs.shown.show_held.Goals as goal

pub returns : goal.returns
returns c h same held =
    let id = c.args.id.now in
    let rev = c.args.rev.now in
    let revs = is_some c.args.paths.now in
    ap Some (view-Object c.put_revisions.new.members)
    ∙ ap (λ ms. Some (object ms))
    (c.in_ok-put_revisions.ensures ∙ paths_of h c.args.paths.now rev _ same
    ∙ ap (with_revisions revs h rev) c.in_ok-members.ensures)
    ∙ sym (ap (option_map (λ (k : Held). object (with_revisions revs h rev (shown_members id rev k)))) held)
