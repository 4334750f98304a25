use Rattle.std.proofs.Common.{ap, sym, subst}
use Rattle.std.proofs.lemmas.Grind.{merely}
use Rattle.store.specs.Contents.{Contents}
use Rattle.store.specs.Lawful.{AllEndAtLast, AreLawful, EndsAtLast}
use Rattle.store.specs.Plain.{contents_of}
use Rattle.store.proofs.Lawfuls.{all_none, lawful_none}
use Rattle.store.proofs.plain_store.PlainStore.new.Goals as goal

pub invariant_of-result : goal.invariant_of-result
invariant_of-result c =
    let none = sym (ap contents_of c.new.ensures.items) in
    record {
      lawful = subst (λ (x : Contents). ∥ AreLawful x ∥₁) none (merely lawful_none);
      ends = subst (λ (x : Contents). ∥ AllEndAtLast x ∥₁) none (merely (all_none EndsAtLast));
    }
