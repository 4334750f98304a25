use Rattle.std.proofs.Common.{◌≡◌, Some, option_map, refl}
use Rattle.std.specs.FinMap as map
use Rattle.store.specs.Contents.{with_local}
use Rattle.store.specs.Lawful.{EndsAtLast, IsLawfulDatabase}
use Rattle.store.specs.Plain.{contents_of}
use Rattle.store.proofs.Lasts.{ends_local}
use Rattle.store.proofs.Lawfuls.{all_after, all_change, lawful_write_local}
use Rattle.store.proofs.plain_store.PlainStoreStore.set_local.Goals as goal

pub invariant_of-self : goal.invariant_of-self
invariant_of-self c =
    let old = contents_of c.args.self.now.databases.items in
    let new = contents_of c.write_local.new.databases.items in
    let name = c.args.name.now in
    record {
      lawful = all_after IsLawfulDatabase c.write_local.result old new
          (option_map (λ db. map.insert (contents_of c.args.self.now.databases.items) c.args.name.now (with_local db c.args.id.now c.args.document.now)) (map.get (contents_of c.args.self.now.databases.items) c.args.name.now) ≡ Some (contents_of c.write_local.new.databases.items))
          c.write_local.ensures.ok c.write_local.ensures.err (lawful_write_local old new name c.args.id.now c.args.document.now (c.requires tt)) c.args.self.now.lawful;
      ends = all_after EndsAtLast c.write_local.result old new
          (option_map (λ db. map.insert (contents_of c.args.self.now.databases.items) c.args.name.now (with_local db c.args.id.now c.args.document.now)) (map.get (contents_of c.args.self.now.databases.items) c.args.name.now) ≡ Some (contents_of c.write_local.new.databases.items))
          c.write_local.ensures.ok c.write_local.ensures.err (λ made. all_change EndsAtLast old new name (map.get old name) (λ db. with_local db c.args.id.now c.args.document.now) refl made (λ db at h. ends_local db c.args.id.now c.args.document.now h)) c.args.self.now.ends;
    }
