use Rattle.std.proofs.Common.{◌≡◌, drop, map}
use Rattle.couch_json.specs.View.{view}
use Rattle.policy.specs.UpdateRules.{rules_of, with_rules}
use Rattle.policy.proofs.update_rules.RuleSet.of.Given as goal

abbrev pub invariant-loop-id : goal.invariant-loop-id
invariant-loop-id l =
    with_rules l.rules (map (λ d. (d.0, view d.1)) (drop l.id-index l.documents)) ≡ rules_of (map (λ d. (d.0, view d.1)) l.documents)
