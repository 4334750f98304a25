-- What the statements on a file of the first version make of it.
use Rattle.tables.proofs.Common.{AreNumbered, Changes, Database, Delete, Err, IsFirstStore, IsRenewed, List, Ok, OnOk, Result, Row, [], ap, arith, codes, col, count_cell, decls_tree, entries_tree, everything, meta_tree, refl, schema, subst, sym, understood, version_row, with_cells, ◌∙◌, ◌∷◌, ◌≡◌}
use Rattle.tables.proofs.Queries.{program_on}
use Rattle.tables.proofs.Rests.{HoldSame, laid_over, leaves, rows_hold}
use Rattle.tables.proofs.Writes.{IsCommand}

pub clears_declarations : IsCommand schema (codes "DELETE FROM decls") (Delete 5 (program_on decls_tree [] (col 1 0 ∷ []) []))
unfolding understood everything
clears_declarations = record { is = refl; plain = (refl, refl); unlisted = refl }

pub clears_entries : IsCommand schema (codes "DELETE FROM entries") (Delete 6 (program_on entries_tree [] (col 1 0 ∷ []) []))
unfolding understood everything
clears_entries = record { is = refl; plain = (refl, refl); unlisted = refl }

-- the version is taken out and another put in, and then the rows of indexes are taken out
renewed_after : (a b c d e : Database) → IsFirstStore a → Changes meta_tree [] a b → Changes meta_tree (with_cells (b.trees meta_tree) (count_cell 2 ∷ [])) b c → Changes decls_tree [] c d → Changes entries_tree [] d e → IsRenewed a e
renewed_after a b c d e was first second third fourth =
    let b-is = first.schema ∙ was.schema_is in
    let c-is = second.schema ∙ b-is in
    let d-is = third.schema ∙ c-is in
    let one = leaves meta_tree _ a b was.schema_is first in
    let two = leaves meta_tree _ b c b-is second in
    let three = leaves decls_tree _ c d c-is third in
    let four = leaves entries_tree _ d e d-is fourth in
    let same : HoldSame a.trees e.trees = record {
      dbs = four.dbs (omega arith) ∙ three.dbs (omega arith) ∙ two.dbs (omega arith) ∙ one.dbs (omega arith);
      docs = four.docs (omega arith) ∙ three.docs (omega arith) ∙ two.docs (omega arith) ∙ one.docs (omega arith);
      revs = four.revs (omega arith) ∙ three.revs (omega arith) ∙ two.revs (omega arith) ∙ one.revs (omega arith);
      locals = four.locals (omega arith) ∙ three.locals (omega arith) ∙ two.locals (omega arith) ∙ one.locals (omega arith);
    } in
    let version = four.meta (omega arith) ∙ three.meta (omega arith) ∙ second.rows ∙ ap (λ l. with_cells l (count_cell 2 ∷ [])) first.rows in
    record {
      store = record { schema_is = fourth.schema ∙ d-is; laid = laid_over a.trees e.trees same 1 2 version was.laid };
      decls = four.decls (omega arith) ∙ third.rows;
      entries = fourth.rows;
      contents = rows_hold a.trees e.trees same;
    }

meta_numbered : (rows : List Row) → rows ≡ version_row 1 ∷ [] → AreNumbered rows
meta_numbered rows is = subst AreNumbered (sym is) (record { numbers = (refl, tt); rising = (tt, tt) })

none_numbered : (rows : List Row) → rows ≡ [] → AreNumbered rows
none_numbered rows is = subst AreNumbered (sym is) (record { numbers = tt; rising = tt })

-- the same of four statements, each of which changes its table where that is fit for it
pub renewed_if : {X E : Type 0} (a b c d e : Database) → IsFirstStore a → (a.schema ≡ schema → AreNumbered (a.trees meta_tree) → Changes meta_tree [] a b)
    → (b.schema ≡ schema → AreNumbered (b.trees meta_tree) → Changes meta_tree (with_cells (b.trees meta_tree) (count_cell 2 ∷ [])) b c) → (c.schema ≡ schema → AreNumbered (c.trees decls_tree) → Changes decls_tree [] c d)
    → (r : Result X E) → (d.schema ≡ schema → AreNumbered (d.trees entries_tree) → OnOk r (Changes entries_tree [] d e)) → OnOk r (IsRenewed a e)
renewed_if a b c d e was first second third (Err fault) fourth = tt
renewed_if a b c d e was first second third (Ok x) fourth =
    let one = first was.schema_is (meta_numbered _ was.laid.version) in
    let b-is = one.schema ∙ was.schema_is in
    let two = second b-is (none_numbered _ one.rows) in
    let c-is = two.schema ∙ b-is in
    let at-b = leaves meta_tree _ a b was.schema_is one in
    let at-c = leaves meta_tree _ b c b-is two in
    let three = third c-is (subst AreNumbered (sym (at-c.decls (omega arith) ∙ at-b.decls (omega arith))) was.decls_numbered) in
    let d-is = three.schema ∙ c-is in
    let at-d = leaves decls_tree _ c d c-is three in
    let four = fourth d-is (subst AreNumbered (sym (at-d.entries (omega arith) ∙ at-c.entries (omega arith) ∙ at-b.entries (omega arith))) was.entries_numbered) in
    renewed_after a b c d e was one two three four
