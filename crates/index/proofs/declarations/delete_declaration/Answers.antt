use Rattle.tables.proofs.Writes.{delete_stays}
use Rattle.index.proofs.Common.{Int, [], alters, decls_plain, decls_table, deletes_where, has_number, refl, rules, tests_number, ◌∷◌, schema}
use Rattle.index.proofs.DeclarationStatements.{deletes_declaration, numbered_declarations}
use Rattle.index.proofs.declarations.delete_declaration.Goals as goal

pub returns-clause-alters : goal.returns-clause-alters
returns-clause-alters g c =
    alters g.S.Store _ _ _ _
    (λ has fit. deletes_where 5 decls_table decls_plain _ _ has deletes_declaration (Int c.args.number.now ∷ []) (has_number c.args.number.now) refl (numbered_declarations _ fit) (tests_number _ [] _ (numbered_declarations _ fit)) c.change.result) (λ has. delete_stays schema 5 decls_table decls_plain _ _ has deletes_declaration _ c.change.result)
    c.change.ensures.ok (search rules) c.change.ensures.inside c.change.ensures.proceeds
