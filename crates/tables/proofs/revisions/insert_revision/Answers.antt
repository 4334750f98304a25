use Rattle.tables.proofs.Lemmas.{None, Option, Some, Text, alters, as_text, cast_revision, given_cells, inserts_revision, inserts_row, numbered_from_keyed, refl, revs_plain, revs_table, rules, ◌≡◌, insert_stays, schema}
use Rattle.sqlite.specs.Values.{bound_value, or_null}
use Rattle.tables.proofs.revisions.insert_revision.Goals as goal

text_kept : {X : Type 0} (f : X → _) (o : Option X) → as_text (or_null (λ s. Text (f s)) o) ≡ or_null (λ s. Text (f s)) o
text_kept f None = refl
text_kept f (Some x) = refl

text_bound : {X : Type 0} (f : X → _) (o : Option X) → bound_value (or_null (λ s. Text (f s)) o) ≡ or_null (λ s. Text (f s)) o
text_bound f None = refl
text_bound f (Some x) = refl

pub returns-clause-alters : goal.returns-clause-alters
returns-clause-alters g c =
    let given = given_cells c.args.db.now c.args.id.now c.args.number c.args.hash.now (or_null (λ s. Text s.now) c.args.parent) c.args.held c.args.deleted (or_null (λ s. Text s.now) c.args.body) in
    alters g.S.Store _ _ _ _
    (λ has fit. inserts_row 3 revs_table revs_plain _ _ has inserts_revision given _ (cast_revision _ _ _ _ _ _ _ _ (text_kept (λ s. s.now) c.args.parent) (text_kept (λ s. s.now) c.args.body)) (numbered_from_keyed _ fit) refl c.change.result) (λ has. insert_stays schema 3 revs_table revs_plain _ _ has inserts_revision _ c.change.result)
    c.change.ensures.ok (search (rules, text_bound)) c.change.ensures.inside c.change.ensures.proceeds
