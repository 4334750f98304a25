use Rattle.std.proofs.Common.{refl}
use Rattle.std.proofs.Math.Logic.{∥∥₁_map}
use Rattle.std.specs.FinMap as map
use Rattle.store.specs.Contents.{with_security}
use Rattle.store.specs.Lawful.{EndsAtLast, IsLawfulDatabase}
use Rattle.store.specs.Plain.{contents_of}
use Rattle.store.proofs.Lasts.{ends_secured}
use Rattle.store.proofs.Lawfuls.{all_change, lawful_secured}
use Rattle.store.proofs.plain_store.PlainStoreStore.set_security.Goals as goal

pub invariant_of-self-2 : goal.invariant_of-self-2
invariant_of-self-2 c =
    let old = contents_of c.args.self.now.databases.items in
    let new = contents_of c.secure.new.databases.items in
    let name = c.args.name.now in
    let security = c.in_ok-copy.field-0 in
    record {
      lawful = ∥∥₁_map c.args.self.now.lawful
          (all_change IsLawfulDatabase old new name (map.get old name) (λ db. with_security db security) refl c.secure.ensures (λ db at h. lawful_secured db security h));
      ends = ∥∥₁_map c.args.self.now.ends (all_change EndsAtLast old new name (map.get old name) (λ db. with_security db security) refl c.secure.ensures (λ db at h. ends_secured db security h));
    }
