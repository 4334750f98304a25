-- The pieces of the text are those of the canonical text.
use Rattle.std.proofs.Common.{◌∙◌}
use Rattle.couch_json.specs.View.{view}
use Rattle.tree.proofs.EditText.{edit_pieces}
use Rattle.tree.proofs.next_revision.edit_text.Goals as goal

pub returns : goal.returns
returns c =
    let piece = rw c.in_ok-body.ensures.text at c.in_ok-format.ensures.ok in
    piece ∙ edit_pieces c.args.number c.args.hash.now c.args.deleted (view c.args.body.now) c.requires
