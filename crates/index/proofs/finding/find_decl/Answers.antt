use Rattle.index.proofs.Common.{AllByRecursion, IsDeclarationRow, IsShownDeclaration, all-filter, all_map, ap, declared_at, declared_shown, decls_tree, filter, find, is_declaration_of, map, option_map, shown_declaration, slice_get, state, subst, sym, ◌∙◌, ◌≡◌}
use Rattle.index.proofs.Going.{if_err, if_ok}
use Rattle.index.proofs.SeenDocuments.{first_of}
use Rattle.index.proofs.ShownDeclarations.{refused_of, shown_rows}
use Rattle.sqlite_keyed.proofs.ListLemmas.{slice_get-filter}
use Rattle.index.proofs.finding.find_decl.Goals as goal

pub returns-clause-ok : goal.returns-clause-ok
returns-clause-ok g c clean fit =
    let decls = (state g.S.Store c.args.conn.now).now.trees decls_tree in
    let is = is_declaration_of c.args.db.now c.args.design.now c.args.name.now in
    let rows : c.deref.result.now ≡ map shown_declaration (filter (is_declaration_of c.args.db.now c.args.design.now c.args.name.now) decls) = c.deref.ensures.value ∙ c.in_ok-rows.ensures.found clean fit in
    let says : option_map declared_shown (slice_get c.deref.result.now 0) ≡ option_map declared_at (find (is_declaration_of c.args.db.now c.args.design.now c.args.name.now) decls) =
    ap (λ l. option_map declared_shown (slice_get l 0)) rows ∙ first_of shown_declaration declared_shown (filter (is_declaration_of c.args.db.now c.args.design.now c.args.name.now) decls)
    ∙ ap (option_map declared_at) (slice_get-filter (is_declaration_of c.args.db.now c.args.design.now c.args.name.now) decls) in
    if_ok c.first_declaration.result (λ found told. told ∙ says) c.first_declaration.ensures.ok

pub returns-clause-err : goal.returns-clause-err
returns-clause-err g c =
    let decls = (state g.S.Store c.args.conn.now).now.trees decls_tree in
    let is = is_declaration_of c.args.db.now c.args.design.now c.args.name.now in
    if_err c.first_declaration.result
    (λ e. refused_of (AllByRecursion IsShownDeclaration c.deref.result.now) _ e
    (λ it.
    let fit = it.1 (c.in_ok-rows.ensures.served it.0) in
    subst (AllByRecursion IsShownDeclaration) (sym (c.deref.ensures.value ∙ c.in_ok-rows.ensures.found it.0 fit))
    (all_map IsShownDeclaration shown_declaration (filter is decls) (shown_rows (filter is decls) (all-filter IsDeclarationRow is decls fit.decls.each)))))
    c.first_declaration.ensures.err
