use Rattle.std.specs.FinMap as finite
use Rattle.store.specs.PageStructs.{id_page_of}
use Rattle.find.proofs.Takings.{documents_known, documents_taken}
use Rattle.find.proofs.source.take_documents.Goals as goal

pub returns-clause-ok : goal.returns-clause-ok
returns-clause-ok g c = λ honest.
    documents_taken c.args.descending c.args.reached.now c.args.limit c.in_ok-range.range (finite.get (g.S.Store.contents c.args.store.now) c.args.db.now) (id_page_of c.in_ok-page.page)
    c.deref.result.now c.in_ok-make_candidates.field-0.items c.in_ok-range.ensures (c.in_ok-page.ensures.answer honest) c.deref.ensures.value c.in_ok-make_candidates.ensures

pub returns-clause-known : goal.returns-clause-known
returns-clause-known g c = λ honest d there.
    documents_known c.in_ok-range.range (finite.get (g.S.Store.contents c.args.store.now) c.args.db.now) (id_page_of c.in_ok-page.page) c.deref.result.now c.in_ok-make_candidates.field-0.items
    (c.in_ok-page.ensures.answer honest) c.deref.ensures.value c.in_ok-make_candidates.ensures d there
