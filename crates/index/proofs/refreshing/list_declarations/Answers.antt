use Rattle.index.proofs.Common.{AllByRecursion, IsDeclarationRow, IsShownDeclaration, all-filter, all_map, ap, declared_at, declared_shown, decls_tree, filter, is_at_home, map, map-map, shown_declaration, state, subst, sym, ◌∙◌, ◌≡◌}
use Rattle.index.proofs.Going.{if_err, if_ok}
use Rattle.index.proofs.ShownDeclarations.{refused_of, shown_rows}
use Rattle.index.proofs.refreshing.list_declarations.Goals as goal

pub returns-clause-ok : goal.returns-clause-ok
returns-clause-ok g c clean fit =
    let home = filter (is_at_home c.args.db.now) ((state g.S.Store c.args.tx.now.conn.now).now.trees decls_tree) in
    let rows : c.deref.result.now ≡ map shown_declaration home = c.deref.ensures.value ∙ c.in_ok-rows.ensures.reads.found clean fit in
    let says : map declared_shown c.deref.result.now ≡ map declared_at home = ap (map declared_shown) rows ∙ map-map declared_shown shown_declaration home in
    if_ok c.read_declarations.result (λ ds is. is ∙ says) c.read_declarations.ensures.ok

pub returns-clause-err : goal.returns-clause-err
returns-clause-err g c =
    let decls = (state g.S.Store c.args.tx.now.conn.now).now.trees decls_tree in
    let home = is_at_home c.args.db.now in
    if_err c.read_declarations.result
    (λ e. refused_of (AllByRecursion IsShownDeclaration c.deref.result.now) _ e
    (λ it.
    let fit = it.1 (c.in_ok-rows.ensures.reads.served it.0) in
    subst (AllByRecursion IsShownDeclaration) (sym (c.deref.ensures.value ∙ c.in_ok-rows.ensures.reads.found it.0 fit))
    (all_map IsShownDeclaration shown_declaration (filter home decls) (shown_rows (filter home decls) (all-filter IsDeclarationRow home decls fit.decls.each)))))
    c.read_declarations.ensures.err
