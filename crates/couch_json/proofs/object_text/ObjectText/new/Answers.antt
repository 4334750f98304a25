use Rattle.std.proofs.Common.{refl}
use Rattle.couch_json.specs.Value.{no_members}
use Rattle.couch_json.proofs.Said.{object_begun, members_said_by}
use Rattle.couch_json.proofs.object_text.ObjectText.new.Goals as goal

pub invariant_of-result : goal.invariant_of-result
invariant_of-result c = object_begun _ _ no_members (c.in_ok-text.ensures.ok, refl, (tt, tt))

pub returns : goal.returns
returns c = members_said_by _ _ no_members (c.in_ok-text.ensures.ok, refl, (tt, tt))
