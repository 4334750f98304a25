use Rattle.tables.proofs.Lemmas.{local_cells, alters, cast_local, inserts_local, inserts_row, locals_plain, locals_table, numbered_from_keyed, refl, rules, insert_stays, schema}
use Rattle.tables.proofs.locals.insert_local.Goals as goal

pub returns-clause-alters : goal.returns-clause-alters
returns-clause-alters g c =
    let given = local_cells c.args.db.now c.args.id.now c.args.number c.args.body.now in
    alters g.S.Store _ _ _ _ (λ has fit. inserts_row 4 locals_table locals_plain _ _ has inserts_local given _ (cast_local _ _ _ _) (numbered_from_keyed _ fit) refl c.change.result) (λ has. insert_stays schema 4 locals_table locals_plain _ _ has inserts_local _ c.change.result)
    c.change.ensures.ok (search rules) c.change.ensures.inside c.change.ensures.proceeds
