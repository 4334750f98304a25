-- Members that stay the same keep what stands behind the documents.
use Rattle.std.proofs.Common.{◌≡◌, ap, ◌∙◌}
use Rattle.couch_json.specs.Value.{Members}
use Rattle.policy.specs.ArgumentMembers.{KeepsCircumstances, behind_two}

pub keeps : (ms ns : Members) → ns ≡ ms → KeepsCircumstances ms ns
keeps ms ns same has = (record { new = has.new; old = has.old; rest = has.rest; is = same ∙ has.is }, ap behind_two same)
