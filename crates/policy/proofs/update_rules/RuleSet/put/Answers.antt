-- What is put among the entries is put among the rules.
use Rattle.std.proofs.Common.{ap, ◌∙◌}
use Rattle.std.specs.FinMap.{insert}
use Rattle.couch_json.specs.View.{view}
use Rattle.policy.specs.UpdateRules.{Rules}
use Rattle.policy.proofs.RuleEntries.{rule_put, rules_insert, sorted_insert}
use Rattle.policy.proofs.update_rules.RuleSet.put.Goals as goal

pub invariant_of-self-2 : goal.invariant_of-self-2
invariant_of-self-2 c = sorted_insert c.self.inside.rules.entries c.insert.new.self.entries c.args.id.now c.in_ok-rule.rule (search (c.in_ok-insert.ensures.entries, c.in_ok-id.ensures)) c.self.invariant

pub returns-clause-ok : goal.returns-clause-ok
returns-clause-ok c =
    rules_insert c.self.inside.rules.entries c.insert.new.self.entries c.args.id.now c.in_ok-rule.rule (search (c.in_ok-insert.ensures.entries, c.in_ok-id.ensures)) c.self.invariant
    ∙ ap (λ (rules : Rules). insert rules c.args.id.now c.in_ok-rule.rule) c.self.view_is
    ∙ rule_put c.args.self.now c.args.id.now c.in_ok-rule.rule (view c.args.body.now) (view c.in-Some.value.now) (search c.in-Some.ensures) c.in_ok-rule.ensures
