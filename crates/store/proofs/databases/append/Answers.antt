use Rattle.std.proofs.Common.{◌≡◌, ◌<◌, ◌++◌, List, length, ap, sym, ◌∙◌, rules}
use Rattle.std.specs.FinMap as map
use Rattle.store.specs.Database.{with_all, empty_database}
use Rattle.store.specs.Plain.{content, locals_of, written_content}
use Rattle.store.specs.Writing.{Addition, additions, writings_in}
use Rattle.store.specs.declared.plain.PlainDatabase.{PlainDatabase}
use Rattle.store.proofs.Contents.{additions-append, with_all-with_locals, with_all-writings_in, with_locals}
use Rattle.store.proofs.Plains.{changed_at, unchanged_at, is_first, place_within, whatever}
use Rattle.store.proofs.databases.append.Goals as goal

pub index_mut-requires : goal.index_mut-requires
index_mut-requires c =
    let es = c.args.databases.now.items in
    let within : c.args.at < length c.args.databases.now.items = place_within es c.args.at c.args.name.now (is_first es c.args.at c.args.name.now c.requires) in
    search rules

pub returns-in_err-append-clause-err : goal.returns-in_err-append-clause-err
returns-in_err-append-clause-err c =
    let e = c.index_mut.result.now in
    let d : PlainDatabase = record { writes = c.append.new.self; security = e.1.security; locals = e.1.locals } in
    let kept : c.append.new.self.items ≡ c.index_mut.result.now.1.writes.items = search rules in
    whatever _ (ap map.from_entries (unchanged_at c.args.databases.now.items c.args.at e d c.index_mut.ensures.value (ap (λ ws. with_locals (written_content e.1.security (additions ws)) (locals_of e.1.locals.entries)) kept)))

pub returns-clause-ok : goal.returns-clause-ok
returns-clause-ok c =
    let e = c.index_mut.result.now in
    let s = e.1.security in
    let more = c.in_ok-more.more.items in
    let old = e.1.writes.items in
    let l = locals_of e.1.locals.entries in
    let d : PlainDatabase = record { writes = c.append.new.self; security = s; locals = e.1.locals } in
    let appended : c.append.new.self.items ≡ c.index_mut.result.now.1.writes.items ++ c.in_ok-more.more.items = search rules in
    let logged = λ (all : List Addition). with_locals (written_content s all) l in
    let made : content d ≡ with_all (content e.1) (writings_in (content e.1) (additions c.args.writes.now)) =
    ap (λ ws. logged (additions ws)) appended ∙ ap logged (additions-append old more) ∙ ap (λ db. with_locals db l) (with_all-writings_in (empty_database s) (additions old) (additions more))
    ∙ sym (with_all-with_locals (written_content s (additions old)) l (additions more))
    ∙ ap (λ all. with_all (content e.1) (writings_in (content e.1) all)) c.in_ok-more.ensures in
    changed_at c.args.databases.now.items c.args.at c.args.name.now e d (λ db. with_all db (writings_in db (additions c.args.writes.now))) c.requires c.index_mut.ensures.value made
