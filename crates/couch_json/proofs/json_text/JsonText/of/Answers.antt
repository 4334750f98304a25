use Rattle.couch_json.proofs.Said.{is_text, said_by}
use Rattle.couch_json.proofs.json_text.JsonText.of.Goals as goal

pub invariant_of-result : goal.invariant_of-result
invariant_of-result c = is_text _ _ c.in_ok-text.ensures.text c.in_ok-text.ensures.lawful

pub returns : goal.returns
returns c = said_by _ _ c.in_ok-text.ensures.text c.in_ok-text.ensures.lawful
