use Rattle.std.proofs.Common.{None, Ok, Some, ap, rules, string_bytes, subst, sym, ◌≡◌, ◌∙◌}
use Rattle.std.proofs.Common.{of_z, to_z, to_z-of_z, w64}
use Rattle.std.specs.Prelude.{IfSome, option_map}
use Rattle.sqlite.specs.Held.{state}
use Rattle.sqlite_value.specs.Order.{column}
use Rattle.tables.specs.Layout.{IsStore}
use Rattle.tables.specs.Listings.{SpellsId}
use Rattle.index.specs.Meaning.{declares_in}
use Rattle.index.specs.Rows.{design_of, database_of_declaration, index_name_of_row}
use Rattle.file_check.proofs.CheckSteps.{checks_none, checks_so}
use Rattle.file_check.proofs.DeclaredRows.{spells_nothing, spells_stored, unnamed_undeclared}
use Rattle.file_check.specs.inner.IndexRows.{IsNextRow}
use Rattle.file_check.specs.declared.indexes.indexed.Indexed.TheVariants.{Declarations}
use Rattle.file_check.specs.Indexes.{Spells}
use Rattle.file_check.proofs.indexes.declared.spell_stored.Goals as goal

pub returns-in_default : goal.returns-in_default
returns-in_default g c r =
    let trees = (state g.S.Store c.args.conn.now).now.trees in
    let none : c.in_ok-design.field-0 ≡ None = search rules in
    checks_none g.S.Store (IsNextRow Declarations c.args.row.now r) (λ trees text. Spells (declares_in trees (database_of_declaration r) (design_of r) (index_name_of_row r)) (option_map string_bytes text)) c.args.conn.now (Ok None)
    (λ fit.
    let cell = ap (λ x. column x 2) fit.shown_is ∙ ap (λ x. column x 3) fit.row in
    spells_nothing (declares_in trees (database_of_declaration r) (design_of r) (index_name_of_row r))
    (unnamed_undeclared trees fit.ready.store.laid (database_of_declaration r) (design_of r) (index_name_of_row r) (λ h. c.in_ok-design.ensures.none none (subst SpellsId (sym cell) h))))

pub returns : goal.returns
returns g c r =
    let trees = (state g.S.Store c.args.conn.now).now.trees in
    let found : c.in_ok-design.field-0 ≡ Some c.in-Some.design = search rules in
    checks_so g.S.Store (IsNextRow Declarations c.args.row.now r) IsStore (λ trees text. Spells (declares_in trees (database_of_declaration r) (design_of r) (index_name_of_row r)) (option_map string_bytes text)) c.in_ok-history.ensures (λ fit. fit.ready.store)
    (λ fit is.
    spells_stored trees (database_of_declaration r) (to_z w64 (of_z w64 c.whole_in.result)) (design_of r) c.in-Some.design (index_name_of_row r) c.blob_in.result.now c.in_ok-history.history (option_map string_bytes c.in_ok-spell_index.field-0) c.in_ok-spell_index.ensures.text c.in_ok-spell_index.ensures.paths is
    (to_z-of_z {w = w64} {z = c.whole_in.result} (record { sfits = c.whole_in.type_inv }) ∙ c.whole_in.ensures (database_of_declaration r) (ap (λ x. column x 1) fit.shown_is ∙ ap (λ x. column x 2) fit.row))
    (subst (λ o. IfSome o (λ id. id ≡ design_of r)) found (c.in_ok-design.ensures.some (design_of r) (ap (λ x. column x 2) fit.shown_is ∙ ap (λ x. column x 3) fit.row)))
    (c.blob_in.ensures (index_name_of_row r) (ap (λ x. column x 3) fit.shown_is ∙ ap (λ x. column x 4) fit.row)))
