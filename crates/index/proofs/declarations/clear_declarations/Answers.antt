use Rattle.tables.proofs.Writes.{delete_stays}
use Rattle.index.proofs.Common.{Int, [], alters, decls_plain, decls_table, deletes_where, is_at_home, refl, rules, ◌∷◌, schema}
use Rattle.index.proofs.DeclarationStatements.{clears_declarations, numbered_declarations, tests_home}
use Rattle.index.proofs.declarations.clear_declarations.Goals as goal

pub returns-clause-alters : goal.returns-clause-alters
returns-clause-alters g c =
    alters g.S.Store _ _ _ _
    (λ has fit. deletes_where 5 decls_table decls_plain _ _ has clears_declarations (Int c.args.db.now ∷ []) (is_at_home c.args.db.now) refl (numbered_declarations _ fit) (tests_home _ _ fit) c.change.result) (λ has. delete_stays schema 5 decls_table decls_plain _ _ has clears_declarations _ c.change.result)
    c.change.ensures.ok (search rules) c.change.ensures.inside c.change.ensures.proceeds
