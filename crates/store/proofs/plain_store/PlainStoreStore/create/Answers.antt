use Rattle.std.proofs.Common.{◌≡◌, true, is_some, sym, subst, rules}
use Rattle.policy.specs.Security.{closed_security}
use Rattle.std.specs.FinMap as map
use Rattle.store.specs.Contents.{new_database}
use Rattle.store.specs.Lawful.{AllEndAtLast, AreLawful, EndsAtLast, IsLawfulDatabase}
use Rattle.store.specs.Plain.{contents_of}
use Rattle.store.proofs.Lasts.{ends_empty}
use Rattle.store.proofs.Lawfuls.{all_after, all_insert, lawful_empty, lawful_insert}
use Rattle.store.proofs.Plains.{there}
use Rattle.store.proofs.plain_store.PlainStoreStore.create.Goals as goal

pub returns-then-is_some-clause-exists : goal.returns-then-is_some-clause-exists
returns-then-is_some-clause-exists c =
    let found : is_some c.place_of.result ≡ true = search rules in
    λ _ _. there c.args.self.now.databases.items c.args.name.now c.place_of.result c.place_of.ensures.place found

pub invariant_of-self : goal.invariant_of-self
invariant_of-self c =
    let old = contents_of c.args.self.now.databases.items in
    let name = c.args.name.now in
    let new = contents_of c.add.new.databases.items in
    record {
      lawful = all_after IsLawfulDatabase c.add.result old new (contents_of c.add.new.databases.items ≡ map.insert (contents_of c.args.self.now.databases.items) c.args.name.now new_database) c.add.ensures.ok c.add.ensures.err
          (λ made h. subst AreLawful (sym made) (lawful_insert old name new_database h (lawful_empty closed_security))) c.args.self.now.lawful;
      ends = all_after EndsAtLast c.add.result old new (contents_of c.add.new.databases.items ≡ map.insert (contents_of c.args.self.now.databases.items) c.args.name.now new_database) c.add.ensures.ok c.add.ensures.err
          (λ made h. subst AllEndAtLast (sym made) (all_insert EndsAtLast old name new_database h (ends_empty closed_security))) c.args.self.now.ends;
    }
