use Rattle.std.proofs.Common.{◌≡◌, Some, option_map, refl}
use Rattle.std.specs.FinMap as map
use Rattle.store.specs.Database.{with_all}
use Rattle.store.specs.Lawful.{EndsAtLast, IsLawfulDatabase}
use Rattle.store.specs.Plain.{contents_of}
use Rattle.store.specs.Writing.{additions, writings_in}
use Rattle.store.proofs.Lasts.{ends_by_all}
use Rattle.store.proofs.Lawfuls.{all_after, all_change, lawful_commit}
use Rattle.store.proofs.plain_store.PlainStoreStore.commit.Goals as goal

pub invariant_of-self : goal.invariant_of-self
invariant_of-self c =
    let old = contents_of c.args.self.now.databases.items in
    let new = contents_of c.append.new.databases.items in
    let all = additions c.args.writes.now in
    let name = c.args.name.now in
    record {
      lawful = all_after IsLawfulDatabase c.append.result old new
          (option_map (λ db. map.insert (contents_of c.args.self.now.databases.items) c.args.name.now (with_all db (writings_in db (additions c.args.writes.now)))) (map.get (contents_of c.args.self.now.databases.items) c.args.name.now) ≡ Some (contents_of c.append.new.databases.items))
          c.append.ensures.ok c.append.ensures.err (lawful_commit old new name all (c.requires tt)) c.args.self.now.lawful;
      ends = all_after EndsAtLast c.append.result old new
          (option_map (λ db. map.insert (contents_of c.args.self.now.databases.items) c.args.name.now (with_all db (writings_in db (additions c.args.writes.now)))) (map.get (contents_of c.args.self.now.databases.items) c.args.name.now) ≡ Some (contents_of c.append.new.databases.items))
          c.append.ensures.ok c.append.ensures.err (λ made. all_change EndsAtLast old new name (map.get old name) (λ db. with_all db (writings_in db all)) refl made (λ db at h. ends_by_all (writings_in db all) db h)) c.args.self.now.ends;
    }
