-- There are as many rules as entries.
use Rattle.std.proofs.Common.{sym, ap, ◌∙◌, nat_eq}
use Rattle.std.specs.FinMap.{len}
use Rattle.policy.specs.UpdateRules.{Rules}
use Rattle.policy.proofs.RuleEntries.{len_of}
use Rattle.policy.proofs.update_rules.RuleSet.is_empty.Goals as goal

pub returns : goal.returns
returns c = ap (λ n. nat_eq n 0) (c.len.ensures.len ∙ sym (len_of c.self.inside.rules.entries c.self.invariant) ∙ ap (λ (rules : Rules). len rules) c.self.view_is)
