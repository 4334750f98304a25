use Rattle.tables.proofs.Lemmas.{advances_database, alters, rules, advances_stay}
use Rattle.tables.proofs.databases.advance_database.Goals as goal

pub returns-clause-alters : goal.returns-clause-alters
returns-clause-alters g c =
    alters g.S.Store _ _ _ _ (λ has fit. advances_database _ _ has fit c.args.number.now c.args.sequence.now c.change.result) (λ has. advances_stay _ _ has _ c.change.result)
    c.change.ensures.ok (search rules) c.change.ensures.inside c.change.ensures.proceeds
