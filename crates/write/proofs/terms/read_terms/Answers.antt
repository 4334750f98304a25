-- The terms are read one after the other.
use Rattle.std.proofs.Common.{ap, refl}
use Rattle.std.specs.FinMap as finite
use Rattle.store.specs.Contents.{Contents}
use Rattle.write.proofs.DesignRows.{terms_read}
use Rattle.write.proofs.terms.read_terms.Goals as goal

pub returns-clause-terms : goal.returns-clause-terms
returns-clause-terms g c = λ honest.
    let before = c.in_ok-rules.ensures.reads.goes_on.honest honest in
    terms_read (finite.get (g.S.Store.contents c.args.store.now) c.args.db.now) (finite.get (g.S.Store.contents c.security.new.self) c.args.db.now)
    c.args.caller.now c.args.db.now _ (ap (λ (x : Contents). finite.get x c.args.db.now) (c.in_ok-security.ensures.reads.same before)) refl refl
    (c.in_ok-security.ensures.answer before) (c.in_ok-rules.ensures.rules honest)
