-- The rows of the range give the rules.
use Rattle.std.proofs.Common.{ap}
use Rattle.std.specs.FinMap as finite
use Rattle.store.specs.Contents.{Contents}
use Rattle.store.specs.PageStructs.{id_page_of}
use Rattle.write.proofs.DesignRows.{rules_read}
use Rattle.write.proofs.terms.read_rules.Goals as goal

pub returns-clause-rules : goal.returns-clause-rules
returns-clause-rules g c = λ honest.
    let before = c.take_rules.ensures.reads.goes_on.honest honest in
    rules_read (finite.get (g.S.Store.contents c.args.store.now) c.args.db.now) (finite.get (g.S.Store.contents c.page_by_id.new.self) c.args.db.now)
    c.in_ok-range.range (id_page_of c.in_ok-page.page) c.deref.result.now c.take_rules.result (ap (λ (x : Contents). finite.get x c.args.db.now) (c.in_ok-page.ensures.reads.same before)) c.in_ok-range.ensures
    c.deref.ensures.value (c.in_ok-page.ensures.answer before) (c.take_rules.ensures.rules honest)
