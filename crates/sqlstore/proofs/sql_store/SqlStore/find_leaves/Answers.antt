use Rattle.sqlstore.proofs.Lemmas.{IsPermutation, List, Some, ap, filter, hashes_intact, is_row_of_document, laid, leaf_rows_lost, map, path_end_alone, revs_set, revs_tree, rules, subst, sym, trees_of, was_honest, ℕ, ∥∥₁_elim, [], ◌∙◌, ◌∷◌, ◌≡◌}
use Rattle.std.specs.Prelude.{IfSome, Option}
use Rattle.tables.specs.Rows.{shown_hash}
use Rattle.tree.specs.Revision.{Revision}
use Rattle.sqlstore.specs.inner.Reading.{EndsPath}
use Rattle.sqlstore.proofs.sql_store.SqlStore.find_leaves.Goals as goal

pub returns-in_err-rev-clause-answer : goal.returns-in_err-rev-clause-answer
returns-in_err-rev-clause-answer g c =
    let s = c.args.self.now in
    let end = c.hash_rows.new.self in
    let n = c.args.number.now in
    let shown = λ (k : List ℕ). map shown_hash (filter (is_row_of_document n k) (trees_of g.S.Store s revs_tree)) in
    leaf_rows_lost g.S.Store s end _ _ _ c.in_err-rev.field-0.0 c.from_residual-in_err-rev.result (search rules) c.in_err-rev.ensures.err
    (λ honest none.
    ∥∥₁_elim (laid g.S.Store s (was_honest g.S.Store s end c.hash_rows.ensures.stands honest)) (λ p q. absurd p) (λ l.
    ∥∥₁_elim (c.in_ok-rows.ensures.found honest) (λ p q. absurd p) (λ same.
    none (hashes_intact (trees_of g.S.Store s) (is_row_of_document n c.args.id.now) _ l
    (subst (IsPermutation (shown c.args.id.now)) (sym c.deref.ensures.value) (subst (λ l. IsPermutation l c.in_ok-rows.rows.items) (ap shown (c.as_bytes.ensures.value ∙ c.as_str.ensures.text)) same))))))

pub returns-in-Some-clause-answer : goal.returns-in-Some-clause-answer
returns-in-Some-clause-answer g c honest =
    let s = c.args.self.now in
    let end = c.hash_rows.new.self in
    let n = c.args.number.now in
    let shown = λ (k : List ℕ). map shown_hash (filter (is_row_of_document n k) (trees_of g.S.Store s revs_tree)) in
    let one : c.push.new.self.items ≡ c.in-Some.rev ∷ [] = search rules in
    ∥∥₁_elim (laid g.S.Store s (was_honest g.S.Store s end c.hash_rows.ensures.stands honest)) (revs_set _ _) (λ l.
    ∥∥₁_elim (c.in_ok-rows.ensures.found honest) (revs_set _ _) (λ same.
    path_end_alone (trees_of g.S.Store s) n c.args.id.now c.deref.result.now c.in-Some.rev l
    (subst (IsPermutation (shown c.args.id.now)) (sym c.deref.ensures.value) (subst (λ l. IsPermutation l c.in_ok-rows.rows.items) (ap shown (c.as_bytes.ensures.value ∙ c.as_str.ensures.text)) same))
    (subst (λ (o : Option Revision). IfSome o (λ rev. EndsPath rev c.deref.result.now)) c.in-Some.is c.in_ok-rev.ensures.ok)))
    ∙ ap Some (sym one)
