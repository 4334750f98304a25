use Rattle.std.proofs.Common.{◌≡◌, true, is_some, sym, subst, rules}
use Rattle.std.proofs.Math.Logic.{∥∥₁_map}
use Rattle.store.specs.Lawful.{AllEndAtLast, AreLawful, EndsAtLast}
use Rattle.store.specs.Plain.{contents_of}
use Rattle.store.proofs.Lawfuls.{all_remove, lawful_remove}
use Rattle.store.proofs.Plains.{there}
use Rattle.store.proofs.plain_store.PlainStoreStore.remove.Goals as goal

pub returns-clause-there : goal.returns-clause-there
returns-clause-there c =
    let found : is_some c.place_of.result ≡ true = search rules in
    λ _. there c.args.self.now.databases.items c.args.name.now c.place_of.result c.place_of.ensures.place found

pub invariant_of-self : goal.invariant_of-self
invariant_of-self c =
    let old = contents_of c.args.self.now.databases.items in
    let name = c.args.name.now in
    record {
      lawful = ∥∥₁_map c.args.self.now.lawful (λ h. subst AreLawful (sym c.remove.ensures) (lawful_remove old name h));
      ends = ∥∥₁_map c.args.self.now.ends (λ h. subst AllEndAtLast (sym c.remove.ensures) (all_remove EndsAtLast old name h));
    }
