use Rattle.std.proofs.Common.{[], refl}
use Rattle.couch_json.proofs.Said.{array_begun, elements_said_by}
use Rattle.couch_json.proofs.array_text.ArrayText.new.Goals as goal

pub invariant_of-result : goal.invariant_of-result
invariant_of-result c = array_begun _ _ [] (c.in_ok-text.ensures.ok, refl, tt)

pub returns : goal.returns
returns c = elements_said_by _ _ [] (c.in_ok-text.ensures.ok, refl, tt)
