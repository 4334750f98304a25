use Rattle.std.proofs.Common.{◌<◌, ap, length, rules}
use Rattle.store.specs.Contents.{with_security}
use Rattle.store.specs.Writing.{additions}
use Rattle.store.specs.Plain.{locals_of}
use Rattle.store.proofs.Contents.{content-with_security, with_locals}
use Rattle.store.proofs.Plains.{changed_at, is_first, place_within}
use Rattle.store.proofs.databases.secure.Goals as goal

pub index_mut-requires : goal.index_mut-requires
index_mut-requires c =
    let es = c.args.databases.now.items in
    let within : c.args.at < length c.args.databases.now.items = place_within es c.args.at c.args.name.now (is_first es c.args.at c.args.name.now c.requires) in
    search rules

pub returns : goal.returns
returns c =
    let e = c.index_mut.result.now in
    changed_at c.args.databases.now.items c.args.at c.args.name.now e (record { writes = e.1.writes; security = c.args.security; locals = e.1.locals }) (λ db. with_security db c.args.security) c.requires
    c.index_mut.ensures.value (ap (λ db. with_locals db (locals_of e.1.locals.entries)) (content-with_security e.1.security c.args.security (additions e.1.writes.items)))
