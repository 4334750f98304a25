use Rattle.index.proofs.Common.{AllByRecursion, Declared, Err, IsShownDeclaration, None, Some, ap, declared, declared_at, declared_shown, decls_tree, filter, is_declaration_of, map, option_map, rules, shown_declaration, slice_get, state, ◌∙◌, ◌≡◌}
use Rattle.index.proofs.Refusals.{refused_as, shown_some}
use Rattle.index.proofs.SeenDocuments.{first_of}
use Rattle.index.proofs.ShownDeclarations.{refused_of}
use Rattle.index.specs.Declaring.{HasDeclared}
use Rattle.index.specs.Steps.{AreFit}
use Rattle.sqlite_keyed.proofs.ListLemmas.{slice_get-filter}
use Rattle.tree.proofs.Shown.{inside}
use Rattle.index.proofs.declaring.find_declared.Goals as goal

not_there : (x : Declared) → None ≡ Some x → ⊥
not_there x is = cc

pub returns-in-Some-clause-finds : goal.returns-in-Some-clause-finds
returns-in-Some-clause-finds g c clean fit d is =
    let decls = (state g.S.Store c.args.tx.now.conn.now).now.trees decls_tree in
    let home = filter (is_declaration_of c.args.db.now c.args.design.now c.args.name.now) decls in
    let rows : c.deref.result.now ≡ map shown_declaration home = c.deref.ensures.value ∙ c.in_ok-rows.ensures.reads.found clean fit in
    let says : option_map declared_shown (slice_get c.deref.result.now 0) ≡ Some (declared_at d) =
    ap (λ l. option_map declared_shown (slice_get l 0)) rows ∙ first_of shown_declaration declared_shown home
    ∙ ap (option_map declared_at) (slice_get-filter (is_declaration_of c.args.db.now c.args.design.now c.args.name.now) decls ∙ is) in
    let told : Some (declared c.in-Some.declaration) ≡ option_map declared_shown (slice_get c.deref.result.now 0) = search rules in
    inside (declared c.in-Some.declaration) (declared_at d) (told ∙ says)

pub returns-in_err-declaration-clause-err : goal.returns-in_err-declaration-clause-err
returns-in_err-declaration-clause-err g c d =
    let first = c.args.tx.now.conn.now in
    let last = c.rows_of_index_in.new.tx.conn.now in
    let db = c.args.db.now in
    let design = c.args.design.now in
    let name = c.args.name.now in
    let fit = AreFit g.S.Store (HasDeclared db design name d) first last in
    let why = c.in_err-declaration.field-0.0 in
    let is : c.from_residual-in_err-declaration.result ≡ Err why = search rules in
    refused_as fit c.from_residual-in_err-declaration.result why is
    (refused_of (AllByRecursion IsShownDeclaration c.deref.result.now) fit why
    (λ it. shown_some (state g.S.Store first).now it.1.rows (is_declaration_of db design name) c.deref.result.now (c.deref.ensures.value ∙ c.in_ok-rows.ensures.reads.found it.0 it.1.rows)) c.in_err-declaration.ensures.err)

pub returns-clause-err : goal.returns-clause-err
returns-clause-err g c d it =
    let decls = (state g.S.Store c.args.tx.now.conn.now).now.trees decls_tree in
    let is = is_declaration_of c.args.db.now c.args.design.now c.args.name.now in
    let rows : c.deref.result.now ≡ map shown_declaration (filter is decls) = c.deref.ensures.value ∙ c.in_ok-rows.ensures.reads.found it.0 it.1.rows in
    let says : option_map declared_shown (slice_get c.deref.result.now 0) ≡ Some (declared_at d) =
    ap (λ l. option_map declared_shown (slice_get l 0)) rows ∙ first_of shown_declaration declared_shown (filter is decls) ∙ ap (option_map declared_at) (slice_get-filter is decls ∙ it.1.found) in
    let told : None ≡ option_map declared_shown (slice_get c.deref.result.now 0) = search rules in
    not_there (declared_at d) (told ∙ says)
