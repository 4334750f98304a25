use Rattle.sqlstore.proofs.Common.{Coded-set, IfSome, IsKnown, Option, ap₂, coded_ℕ}
use Rattle.sqlstore.proofs.IdRows.{all_counted}
use Rattle.sqlstore.proofs.Lemmas.{Some, ap, inside, known_so, laid, state, subst, sym, trees_of, was_honest, ∥∥₁_elim, ∥∥₁_map, ∥∥₁_prop, ◌∙◌, ◌≡◌}
use Rattle.sqlstore.specs.inner.Listing.{all_count}
use Rattle.sqlstore.specs.declared.document_count.DocumentCount.{DocumentCount}
use Rattle.tables.specs.Listings.{marked_count}
use Rattle.tables.specs.Schema.{docs_tree}
use Rattle.sqlstore.proofs.sql_store.SqlStore.count_all.Goals as goal

pub returns-in-Some-clause-answer : goal.returns-in-Some-clause-answer
returns-in-Some-clause-answer g c honest =
    let s = c.args.self.now in
    let trees = trees_of g.S.Store s in
    let counted = all_count trees c.args.number.now c.args.deleted in
    ap Some
    (∥∥₁_elim (s.standing.known_so honest.0 honest.1) (Coded-set coded_ℕ _ _)
    (λ known. sym (subst (λ (o : Option DocumentCount). IfSome o (λ (n : DocumentCount). n.value ≡ counted)) c.in-Some.is (c.find_count.ensures trees known))))

pub invariant_of-self : goal.invariant_of-self
invariant_of-self g c =
    let s = c.args.self.now in
    let mid = c.count_marked.new.self in
    let n = c.args.number.now in
    let trees = trees_of g.S.Store s in
    let stands = c.count_marked.ensures.stands in
    record {
      standing = known_so g.S.Store s mid c.keep_count.new.known stands (λ honest.
          ∥∥₁_elim (laid g.S.Store s (was_honest g.S.Store s mid stands honest)) ∥∥₁_prop (λ l.
          let counted = ap₂ (λ a b. marked_count n c.args.deleted a b (trees docs_tree)) (c.deref.ensures.value ∙ c.new-start.ensures.items) (c.deref-2.ensures.value ∙ c.in_ok-end.ensures) ∙ all_counted trees n l c.args.deleted in
          ∥∥₁_map (subst (λ h. ∥ IsKnown (state g.S.Store h).now.trees mid.known ∥₁) stands.last (mid.standing.known_so honest.0 honest.1))
          (λ known. c.keep_count.ensures trees known (sym (inside _ _ (c.in_ok-value.ensures.answer honest)) ∙ counted))));
    }

pub returns-clause-answer : goal.returns-clause-answer
returns-clause-answer g c honest =
    let s = c.args.self.now in
    let mid = c.count_marked.new.self in
    let n = c.args.number.now in
    let trees = trees_of g.S.Store s in
    ap Some
    (∥∥₁_elim (laid g.S.Store s (was_honest g.S.Store s mid c.count_marked.ensures.stands honest)) (Coded-set coded_ℕ _ _) (λ l.
    sym (ap₂ (λ a b. marked_count n c.args.deleted a b (trees docs_tree)) (c.deref.ensures.value ∙ c.new-start.ensures.items) (c.deref-2.ensures.value ∙ c.in_ok-end.ensures) ∙ all_counted trees n l c.args.deleted))
    ∙ inside _ _ (c.in_ok-value.ensures.answer honest))
