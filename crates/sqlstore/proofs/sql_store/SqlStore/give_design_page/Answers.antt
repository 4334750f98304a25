use Rattle.sqlstore.proofs.Common.{IfSome, Option, Vec, Global}
use Rattle.sqlstore.proofs.Designs.{design_page, page_of_designs}
use Rattle.sqlstore.proofs.Lemmas.{IdRow, None, Some, Trees, ap, id_page_of, listed_by_id, live_rows, stands_same, subst, sym, trees_of, was_honest, ∥∥₁_elim, ◌∙◌, ◌≡◌}
use Rattle.sqlstore.proofs.ListedRows.{id_rows_set}
use Rattle.sqlstore.specs.inner.Designs.{design_rows}
use Rattle.sqlstore.proofs.sql_store.SqlStore.give_design_page.Goals as goal

pub returns-in-Some-clause-answer : goal.returns-in-Some-clause-answer
returns-in-Some-clause-answer g c honest =
    let s = c.args.self.now in
    let trees = trees_of g.S.Store s in
    let all = live_rows (listed_by_id trees c.args.number.now) in
    let rows : c.in-Some.rows.items ≡ design_rows all =
    ∥∥₁_elim (s.standing.known_so honest.0 honest.1) (id_rows_set _ _)
    (λ known. subst (λ (o : Option (Vec IdRow Global)). IfSome o (λ rows. rows.items ≡ design_rows all)) c.in-Some.is (c.known_rows.ensures trees known)) in
    ap Some (design_page c.args.range.now all c.requires ∙ (λ i. record { rows = sym rows i; counts = None }))

pub learn_designs-requires : goal.learn_designs-requires
learn_designs-requires g c honest =
    let s = c.args.self.now in
    let mid = c.find_page_by_id.new.self in
    let n = c.args.number.now in
    let said = c.in_ok-page.ensures.answer honest in
    c.deref.ensures.value
    ∙ page_of_designs c.args.range.now (live_rows (listed_by_id (trees_of g.S.Store s) n)) (id_page_of c.in_ok-page.page) c.requires said
    ∙ ap (λ (t : Trees). design_rows (live_rows (listed_by_id t n))) (sym (stands_same g.S.Store s mid c.find_page_by_id.ensures.stands))

pub returns-clause-answer : goal.returns-clause-answer
returns-clause-answer g c honest =
    c.in_ok-page.ensures.answer (was_honest g.S.Store c.find_page_by_id.new.self c.learn_designs.new.self c.learn_designs.ensures.stands honest)
