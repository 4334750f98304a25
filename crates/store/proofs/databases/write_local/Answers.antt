use Rattle.std.proofs.Common.{◌<◌, length, ap, rules}
use Rattle.std.specs.FinMap as map
use Rattle.store.specs.Contents.{with_local}
use Rattle.store.specs.Plain.{locals_of, written_content}
use Rattle.store.specs.Writing.{additions}
use Rattle.store.specs.declared.plain.PlainDatabase.{PlainDatabase}
use Rattle.store.proofs.Contents.{with_locals}
use Rattle.store.proofs.Plains.{changed_at, unchanged_at, is_first, place_within, if_made, if_refused}
use Rattle.store.proofs.databases.write_local.Goals as goal

pub index_mut-requires : goal.index_mut-requires
index_mut-requires c =
    let es = c.args.databases.now.items in
    let within : c.args.at < length c.args.databases.now.items = place_within es c.args.at c.args.name.now (is_first es c.args.at c.args.name.now c.requires) in
    search rules

pub returns-clause-ok : goal.returns-clause-ok
returns-clause-ok c =
    let e = c.index_mut.result.now in
    let d : PlainDatabase = record { writes = e.1.writes; security = e.1.security; locals = c.put_local.new.locals } in
    if_made c.put_local.result c.put_local.ensures.ok
    (λ made. changed_at c.args.databases.now.items c.args.at c.args.name.now e d (λ db. with_local db c.args.id.now c.args.document.now) c.requires
    c.index_mut.ensures.value (ap (with_locals (written_content e.1.security (additions e.1.writes.items))) made))

pub returns-clause-err : goal.returns-clause-err
returns-clause-err c =
    let e = c.index_mut.result.now in
    let d : PlainDatabase = record { writes = e.1.writes; security = e.1.security; locals = c.put_local.new.locals } in
    if_refused c.put_local.result c.put_local.ensures.err
    (λ kept. ap map.from_entries (unchanged_at c.args.databases.now.items c.args.at e d c.index_mut.ensures.value
    (ap (λ ls. with_locals (written_content e.1.security (additions e.1.writes.items)) (locals_of ls)) kept)))
