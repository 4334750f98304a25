use Rattle.tables.proofs.Lemmas.{document_advance_stays, advances_document, alters, rules}
use Rattle.tables.proofs.documents.advance_document.Goals as goal

pub returns-clause-alters : goal.returns-clause-alters
returns-clause-alters g c =
    alters g.S.Store _ _ _ _ (λ has fit. advances_document _ _ has fit c.args.db.now c.args.id.now c.args.sequence.now c.args.winner.now c.args.deleted c.change.result) (λ has. document_advance_stays _ _ has _ c.change.result)
    c.change.ensures.ok (search rules) c.change.ensures.inside c.change.ensures.proceeds
