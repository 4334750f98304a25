use Rattle.sqlstore.proofs.Lemmas.{List, Some, answered, ap, filter, laid, map, revision_found, revision_intact, revs_tree, rules, shown_revision, sym, trees_of, was_honest, ℕ, ∥∥₁_elim, ◌∙◌, ◌≡◌}
use Rattle.std.specs.Prelude.{option_map, slice_get}
use Rattle.transactions.specs.Reading.{known_shown}
use Rattle.tables.specs.Rows.{is_revision_of}
use Rattle.tree.specs.Revision.{Revision}
use Rattle.sqlstore.proofs.sql_store.SqlStore.load_revision.Goals as goal

pub returns-clause-answer : goal.returns-clause-answer
returns-clause-answer g c =
    let s = c.args.self.now in
    let end = c.one_revision_rows.new.self in
    let trees = trees_of g.S.Store s in
    let n = c.args.number.now in
    let id = c.args.id.now in
    let shown = λ (k : List ℕ) (q : Revision). map shown_revision (filter (is_revision_of n k q) (trees_of g.S.Store s revs_tree)) in
    answered g.S.Store s end (λ v. v) _ _ _ c.first_revision.result c.first_revision.ensures
    (λ honest.
    let rows : c.deref.result.now ≡ shown id c.args.rev.now = c.deref.ensures.value ∙ c.in_ok-rows.ensures.found honest ∙ search rules in
    let lay = laid g.S.Store s (was_honest g.S.Store s end c.one_revision_rows.ensures.stands honest) in (
      (λ none. ∥∥₁_elim lay (λ p q. absurd p) (λ l. none (revision_intact trees _ _ l rows))),
      ap Some (sym (ap (λ rs. option_map known_shown (slice_get rs 0)) rows ∙ revision_found trees n id c.args.rev.now)),
    ))
