-- Where there are no rules, none refuses.
use Rattle.std.proofs.Common.{sym, ◌∙◌}
use Rattle.write.proofs.Unruled.{no_refusal}
use Rattle.write.proofs.denial.find_rule_refusal.Goals as goal

pub returns-then-has_no_rules-clause-answer : goal.returns-then-has_no_rules-clause-answer
returns-then-has_no_rules-clause-answer c =
    sym (no_refusal c.args.terms.now c.args.id.now c.args.history.now c.args.sent.now c.args.rev (sym c.has_no_rules.ensures ∙ c.if-has_no_rules.true))
