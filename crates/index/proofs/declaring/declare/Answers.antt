use Rattle.index.proofs.Common.{AreDeclarationRows, Changes, Database, Err, Error, HasCleanDisk, IfErr, IndexFault, IsRefused, List, Ok, Result, Row, arith, declaration_cells, decls_tree, fields_text, schema, state, subst, sym, with_cells, ℕ, ℤ, ◌∙◌, ◌≡◌}
use Rattle.index.proofs.Declared.{added, added_says, declared_found, declared_rows}
use Rattle.index.proofs.Going.{if_err, if_ok}
use Rattle.index.proofs.Refusals.{refused_any}
use Rattle.index.proofs.StepLemmas.{steps_alter, steps_read, steps_then}
use Rattle.index.specs.Declaring.{HasDeclared, IsMissing}
use Rattle.index.specs.Steps.{AreFit}
use Rattle.index.proofs.declaring.declare.Goals as goal

err_each : {A X : Type 0} (P : A → IndexFault → Type 0) (r : Result X IndexFault) → ((d : A) → IfErr r (P d)) → IfErr r (λ e. (d : A) → P d e)
err_each P (Ok x) h = tt
err_each P (Err e) h = h

-- the row that is put in has the fields as they are spelled
spelled_change : (db : ℤ) (design name text : List ℕ) (fields : List (List ℕ)) (old mid : Database) → text ≡ fields_text fields → Changes decls_tree (with_cells (old.trees decls_tree) (declaration_cells db design name text)) old mid
    → Changes decls_tree (with_cells (old.trees decls_tree) (declaration_cells db design name (fields_text fields))) old mid
spelled_change db design name text fields old mid spelled change = subst (λ t. Changes decls_tree (with_cells (old.trees decls_tree) (declaration_cells db design name t)) old mid) spelled change

pub returns-clause-declares : goal.returns-clause-declares
returns-clause-declares g c =
    let a = c.args.tx.now.conn.now in
    let b = c.insert_declaration.new.tx.conn.now in
    let e = c.find_declared.new.tx.conn.now in
    let old = (state g.S.Store a).now in
    let db = c.args.db.now in
    let design = c.args.design.now in
    let name = c.args.name.now in
    let fields = c.args.fields.now in
    let text : List ℕ = c.as_str.result.now in
    let spelled : text ≡ fields_text fields = c.as_str.ensures.value ∙ c.in_ok-text.ensures in
    let add = λ (t : List ℕ) (rows : List Row). with_cells rows (declaration_cells db design name t) in
    steps_then g.S.Store {E = Error} (IsMissing db design name) (λ p. p.schema ≡ schema) (λ p q. Changes decls_tree (add text (p.trees decls_tree)) p q) (λ p q. q ≡ p) (λ p q. Changes decls_tree (add (fields_text fields) (p.trees decls_tree)) p q)
    a b e c.in_ok-insert_declaration.field-0 c.find_declared.result
    (steps_alter g.S.Store (IsMissing db design name) decls_tree AreDeclarationRows (add text) a b (Ok c.in_ok-insert_declaration.field-0) c.in_ok-insert_declaration.ensures.alters (λ fit. (fit.rows.schema_is, fit.rows.decls)))
    (steps_read g.S.Store (λ p. p.schema ≡ schema) b e c.find_declared.result c.find_declared.ensures.stands c.find_declared.ensures.looks c.find_declared.ensures.asks (λ fit. fit))
    (λ was fit change. change.schema ∙ fit.rows.schema_is)
    (λ was fit change same. subst (λ t. Changes decls_tree (add t (old.trees decls_tree)) old (state g.S.Store e).now) spelled (subst (λ z. Changes decls_tree (add text (old.trees decls_tree)) old z) (sym same) change))

pub returns-clause-tells : goal.returns-clause-tells
returns-clause-tells g c clean fit =
    let old = (state g.S.Store c.args.tx.now.conn.now).now in
    let mid = (state g.S.Store c.insert_declaration.new.tx.conn.now).now in
    let db = c.args.db.now in
    let design = c.args.design.now in
    let name = c.args.name.now in
    let was : HasCleanDisk (state g.S.Store c.insert_declaration.new.tx.conn.now) = omega (arith, c.find_declared.ensures.asks.survives.clean, clean) in
    let change = spelled_change db design name c.as_str.result.now c.args.fields.now old mid (c.as_str.ensures.value ∙ c.in_ok-text.ensures) (c.in_ok-insert_declaration.ensures.alters.ok was fit.rows.schema_is fit.rows.decls) in
    let rows = declared_rows db design name c.args.fields.now c.walk_fields.ensures old mid fit change in
    let there = declared_found db design name c.args.fields.now c.walk_fields.ensures old mid fit change in
    let add = added db design name c.args.fields.now c.walk_fields.ensures old mid fit change in
    if_ok c.find_declared.result (λ x is. is ∙ added_says db design name c.args.fields.now c.walk_fields.ensures old mid fit change) (c.find_declared.ensures.finds clean rows add there)

pub returns-clause-err : goal.returns-clause-err
returns-clause-err g c =
    let b = c.insert_declaration.new.tx.conn.now in
    let e = c.find_declared.new.tx.conn.now in
    let fields = c.args.fields.now in
    let paths = c.walk_fields.ensures in
    if_err c.find_declared.result
    (λ why h. refused_any Row (λ d. AreFit g.S.Store (HasDeclared c.args.db.now c.args.design.now c.args.name.now d) b e) (AreFit g.S.Store (IsMissing c.args.db.now c.args.design.now c.args.name.now) c.args.tx.now.conn.now e) why
    (λ it.
    let old = (state g.S.Store c.args.tx.now.conn.now).now in
    let mid = (state g.S.Store b).now in
    let db = c.args.db.now in
    let design = c.args.design.now in
    let name = c.args.name.now in
    let fit = it.1 in
    let was : HasCleanDisk (state g.S.Store b) = omega (arith, c.find_declared.ensures.asks.survives.clean, it.0) in
    let change = spelled_change db design name c.as_str.result.now c.args.fields.now old mid (c.as_str.ensures.value ∙ c.in_ok-text.ensures) (c.in_ok-insert_declaration.ensures.alters.ok was fit.rows.schema_is fit.rows.decls) in (
      added db design name fields paths old mid fit change,
      (it.0, record { rows = declared_rows db design name fields paths old mid fit change; found = declared_found db design name fields paths old mid fit change }),
    ))
    h)
    (err_each (λ d. IsRefused (AreFit g.S.Store (HasDeclared c.args.db.now c.args.design.now c.args.name.now d) b e)) c.find_declared.result c.find_declared.ensures.err)
