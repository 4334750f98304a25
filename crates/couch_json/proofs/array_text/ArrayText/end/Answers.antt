use Rattle.std.proofs.Common.{◌∙◌}
use Rattle.couch_json.specs.Value.{array}
use Rattle.couch_json.specs.View.{items_of}
use Rattle.couch_json.proofs.Said.{ended_array, is_text, said_by}
use Rattle.couch_json.proofs.array_text.ArrayText.end.Goals as goal

pub from_string-requires : goal.from_string-requires
from_string-requires c =
    let whole = ended_array _ _ _ c.args.self c.self.invariant c.self.view_is c.in_ok-push_str.ensures.bytes in
    is_text _ (array (items_of c.args.self)) whole.0 whole.1

pub returns : goal.returns
returns c =
    let whole = ended_array _ _ _ c.args.self c.self.invariant c.self.view_is c.in_ok-push_str.ensures.bytes in
    c.from_string.ensures ∙ said_by _ (array (items_of c.args.self)) whole.0 whole.1
