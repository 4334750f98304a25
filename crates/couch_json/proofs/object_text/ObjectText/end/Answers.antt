use Rattle.std.proofs.Common.{◌∙◌}
use Rattle.couch_json.specs.Value.{object}
use Rattle.couch_json.proofs.Said.{ended_object, is_text, said_by}
use Rattle.couch_json.proofs.object_text.ObjectText.end.Goals as goal

pub from_string-requires : goal.from_string-requires
from_string-requires c =
    let whole = ended_object _ _ _ c.args.self c.self.invariant c.self.view_is c.in_ok-push_str.ensures.bytes in
    is_text _ (object c.args.self) whole.0 whole.1

pub returns : goal.returns
returns c =
    let whole = ended_object _ _ _ c.args.self c.self.invariant c.self.view_is c.in_ok-push_str.ensures.bytes in
    c.from_string.ensures ∙ said_by _ (object c.args.self) whole.0 whole.1
