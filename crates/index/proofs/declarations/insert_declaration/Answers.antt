use Rattle.tables.proofs.Writes.{insert_stays}
use Rattle.index.proofs.Common.{Blob, Int, Text, [], alters, decls_plain, decls_table, inserts_row, refl, rules, ◌∷◌, schema}
use Rattle.index.proofs.DeclarationStatements.{cast_declaration, inserts_declaration, numbered_declarations}
use Rattle.index.proofs.declarations.insert_declaration.Goals as goal

pub returns-clause-alters : goal.returns-clause-alters
returns-clause-alters g c =
    let given = Int c.args.db.now ∷ Blob c.args.design.now ∷ Blob c.args.name.now ∷ Text c.args.fields.now ∷ [] in
    alters g.S.Store _ _ _ _ (λ has fit. inserts_row 5 decls_table decls_plain _ _ has inserts_declaration given _ (cast_declaration _ _ _ _) (numbered_declarations _ fit) refl c.change.result) (λ has. insert_stays schema 5 decls_table decls_plain _ _ has inserts_declaration _ c.change.result)
    c.change.ensures.ok (search rules) c.change.ensures.inside c.change.ensures.proceeds
