use Rattle.index.proofs.Common.{AreDeclarationRows, AreEntryRows, Changes, Error, List, None, Ok, Row, decls_tree, entries_tree, filter, has_number, is_entry_in, not, schema, state, subst, sym, ◌∙◌, ◌≡◌, arith}
use Rattle.index.proofs.StepLemmas.{steps_alter, steps_then}
use Rattle.index.proofs.Undeclared.{undeclared}
use Rattle.index.specs.Declaring.{IsDeclared, IsRebuilt, with_index}
use Rattle.index.specs.Rows.{design_of, database_of_declaration, index_name_of_row}
use Rattle.tables.proofs.Rests.{leaves}
use Rattle.index.proofs.declaring.undeclare.Goals as goal

pub returns-clause-undeclares : goal.returns-clause-undeclares
returns-clause-undeclares g c declares sees d =
    let n = c.args.number.now in
    let a = c.args.tx.now.conn.now in
    let b = c.clear_entries.new.tx.conn.now in
    let e = c.delete_declaration.new.tx.conn.now in
    let out = λ (rows : List Row). filter (λ r. not (is_entry_in n r)) rows in
    let gone = λ (rows : List Row). filter (λ r. not (has_number n r)) rows in
    steps_then g.S.Store {E = Error} (IsDeclared declares sees n d) (λ p. (p.schema ≡ schema) × AreDeclarationRows (p.trees decls_tree)) (λ p q. Changes entries_tree (out (p.trees entries_tree)) p q) (λ p q. Changes decls_tree (gone (p.trees decls_tree)) p q)
    (IsRebuilt (with_index declares (database_of_declaration d) (design_of d) (index_name_of_row d) None) sees) a b e c.in_ok-clear_entries.field-0 c.delete_declaration.result
    (steps_alter g.S.Store (IsDeclared declares sees n d) entries_tree AreEntryRows out a b (Ok c.in_ok-clear_entries.field-0) c.in_ok-clear_entries.ensures.alters (λ fit. (fit.store.schema_is, fit.indexed.entries.laid)))
    (steps_alter g.S.Store (λ p. (p.schema ≡ schema) × AreDeclarationRows (p.trees decls_tree)) decls_tree AreDeclarationRows gone b e c.delete_declaration.result c.delete_declaration.ensures.alters (λ fit. fit))
    (λ was fit first. (first.schema ∙ fit.store.schema_is, subst AreDeclarationRows (sym ((leaves entries_tree _ (state g.S.Store a).now (state g.S.Store b).now fit.store.schema_is first).decls (omega arith))) fit.indexed.decls))
    (λ was fit first second. undeclared declares sees n d (state g.S.Store a).now (state g.S.Store b).now (state g.S.Store e).now fit first second)
