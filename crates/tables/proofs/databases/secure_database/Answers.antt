use Rattle.tables.proofs.Lemmas.{alters, rules, secures_database, secures_stay}
use Rattle.tables.proofs.databases.secure_database.Goals as goal

pub returns-clause-alters : goal.returns-clause-alters
returns-clause-alters g c =
    alters g.S.Store _ _ _ _ (λ has fit. secures_database _ _ has fit c.args.number.now c.args.security.now c.change.result) (λ has. secures_stay _ _ has _ c.change.result)
    c.change.ensures.ok (search rules) c.change.ensures.inside c.change.ensures.proceeds
