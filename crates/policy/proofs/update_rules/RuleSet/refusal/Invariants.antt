use Rattle.std.proofs.Common.{◌≡◌}
use Rattle.couch_json.specs.View.{view}
use Rattle.policy.specs.UpdateRules.{first_broken, update_refusal}
use Rattle.policy.proofs.update_rules.RuleSet.refusal.Given as goal

abbrev pub invariant-loop-id : goal.invariant-loop-id
invariant-loop-id l = first_broken l.id-iterator (view l.argument) ≡ update_refusal l.self (view l.argument)
