-- The entries of the map are those of the rules.
use Rattle.std.proofs.Common.{sym, ap, ◌∙◌}
use Rattle.couch_json.specs.View.{view}
use Rattle.policy.specs.UpdateRules.{Rules, first_broken, update_refusal}
use Rattle.policy.proofs.RuleEntries.{entries_of}
use Rattle.policy.proofs.update_rules.RuleSet.refusal.Goals as goal

pub loop-id-init : goal.loop-id-init
loop-id-init c =
    ap (λ rules. first_broken rules (view c.args.argument.now))
    (c.into_iter-id-iterator.ensures.into_iter_gives ∙ c.iter-id-items.ensures.rest ∙ sym (entries_of c.self.inside.rules.entries c.self.invariant))
    ∙ ap (λ (rules : Rules). update_refusal rules (view c.args.argument.now)) c.self.view_is
