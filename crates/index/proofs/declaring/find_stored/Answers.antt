use Rattle.index.proofs.Common.{AllByRecursion, IsShownDeclaration, ap, declared_at, declared_shown, decls_tree, filter, find, is_declaration_of, map, option_map, shown_declaration, slice_get, state, ◌∙◌, ◌≡◌}
use Rattle.index.proofs.Going.{if_err, if_ok}
use Rattle.index.proofs.Refusals.{shown_some}
use Rattle.index.proofs.ShownDeclarations.{refused_of}
use Rattle.index.proofs.SeenDocuments.{first_of}
use Rattle.sqlite_keyed.proofs.ListLemmas.{slice_get-filter}
use Rattle.index.proofs.declaring.find_stored.Goals as goal

pub returns-clause-finds : goal.returns-clause-finds
returns-clause-finds g c clean fit =
    let decls = (state g.S.Store c.args.tx.now.conn.now).now.trees decls_tree in
    let home = filter (is_declaration_of c.args.db.now c.args.design.now c.args.name.now) decls in
    let rows : c.deref.result.now ≡ map shown_declaration home = c.deref.ensures.value ∙ c.in_ok-rows.ensures.reads.found clean fit in
    let says : option_map declared_shown (slice_get c.deref.result.now 0) ≡ option_map declared_at (find (is_declaration_of c.args.db.now c.args.design.now c.args.name.now) decls) =
    ap (λ l. option_map declared_shown (slice_get l 0)) rows ∙ first_of shown_declaration declared_shown home
    ∙ ap (option_map declared_at) (slice_get-filter (is_declaration_of c.args.db.now c.args.design.now c.args.name.now) decls) in
    if_ok c.first_declaration.result (λ found told. told ∙ says) c.first_declaration.ensures.ok

pub returns-clause-err : goal.returns-clause-err
returns-clause-err g c =
    let a = (state g.S.Store c.args.tx.now.conn.now).now in
    let is = is_declaration_of c.args.db.now c.args.design.now c.args.name.now in
    if_err c.first_declaration.result
    (λ e. refused_of (AllByRecursion IsShownDeclaration c.deref.result.now) _ e (λ it. shown_some a it.1 is c.deref.result.now (c.deref.ensures.value ∙ c.in_ok-rows.ensures.reads.found it.0 it.1)))
    c.first_declaration.ensures.err
