use Rattle.std.proofs.Common.{Err, None, Some, ap, refl, rules, string_bytes, subst, ◌≡◌, ◌∙◌}
use Rattle.std.specs.Prelude.{bytes_eq, option_map}
use Rattle.sqlite.specs.Held.{state}
use Rattle.sqlite_value.specs.Order.{bytes, column}
use Rattle.index.specs.Meaning.{declares_in}
use Rattle.index.specs.Rows.{design_of, database_of_declaration, index_name_of_row}
use Rattle.file_check.proofs.CheckSteps.{checks_so, checks_stop}
use Rattle.file_check.proofs.DeclaredRows.{spelled_none, spelled_so}
use Rattle.file_check.specs.inner.IndexRows.{IsNextRow}
use Rattle.file_check.specs.declared.indexes.indexed.Indexed.TheVariants.{Declarations}
use Rattle.file_check.specs.Indexes.{IsAnswer, IsOwnDeclaration, Spells}
use Rattle.file_check.proofs.indexes.declared.is_declared.Goals as goal

pub returns-in_err-text : goal.returns-in_err-text
returns-in_err-text g c r =
    let e = c.in_err-text.field-0.0 in
    let is : c.from_residual.result ≡ Err e = search rules in
    checks_stop g.S.Store e c.from_residual.result is (c.in_err-text.ensures r)

pub returns-in-Some : goal.returns-in-Some
returns-in-Some g c r =
    let trees = (state g.S.Store c.args.conn.now).now.trees in
    let F = IsNextRow Declarations c.args.row.now r in
    let fields = declares_in trees (database_of_declaration r) (design_of r) (index_name_of_row r) in
    let t = string_bytes c.in-Some.text in
    let found : option_map string_bytes c.in_ok-text.field-0 ≡ Some t = search rules in
    let read : c.as_bytes.result.now ≡ t = search rules in
    checks_so g.S.Store F F (λ trees is. IsAnswer (IsOwnDeclaration trees r) is) (c.in_ok-text.ensures r) (λ fit. fit)
    (λ fit h.
    let cell : c.text_in.result.now ≡ bytes (column r 5) = c.text_in.ensures (bytes (column r 5)) (ap (λ x. column x 4) fit.shown_is ∙ ap (λ x. column x 5) fit.row) in
    spelled_so trees r fit.row fields t c.are_same.result refl (subst (Spells fields) found h) (c.are_same.ensures ∙ (λ j. bytes_eq (read j) (cell j))))

pub returns-in-None : goal.returns-in-None
returns-in-None g c r =
    let trees = (state g.S.Store c.args.conn.now).now.trees in
    let F = IsNextRow Declarations c.args.row.now r in
    let fields = declares_in trees (database_of_declaration r) (design_of r) (index_name_of_row r) in
    let found : option_map string_bytes c.in_ok-text.field-0 ≡ None = search rules in
    checks_so g.S.Store F F (λ trees is. IsAnswer (IsOwnDeclaration trees r) is) (c.in_ok-text.ensures r) (λ fit. fit)
    (λ fit h. spelled_none trees r fit.row fields refl (subst (Spells fields) found h))
