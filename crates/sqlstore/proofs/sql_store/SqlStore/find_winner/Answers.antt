use Rattle.sqlstore.proofs.Lemmas.{List, Some, answered, ap, documents_intact, filter, is_row_of_document, laid, map, sym, trees_of, was_honest, winner_found, winner_set, ℕ, ∥∥₁_elim, ◌∙◌, ◌≡◌}
use Rattle.std.specs.Prelude.{option_and_then, slice_get}
use Rattle.tables.specs.Rows.{listed_document}
use Rattle.tables.specs.Schema.{docs_tree}
use Rattle.transactions.specs.Reading.{winner_shown}
use Rattle.sqlstore.proofs.sql_store.SqlStore.find_winner.Goals as goal

pub returns-clause-answer : goal.returns-clause-answer
returns-clause-answer g c =
    let s = c.args.self.now in
    let end = c.document_rows.new.self in
    let trees = trees_of g.S.Store s in
    let n = c.args.number.now in
    let id = c.args.id.now in
    let shown = λ (k : List ℕ). map listed_document (filter (is_row_of_document n k) (trees_of g.S.Store s docs_tree)) in
    answered g.S.Store s end (λ v. v) _ _ _ c.first_winner.result c.first_winner.ensures
    (λ honest.
    let rows : c.deref.result.now ≡ shown id = c.deref.ensures.value ∙ c.in_ok-rows.ensures.found honest ∙ ap shown (c.as_bytes.ensures.value ∙ c.as_str.ensures.text) in
    let lay = laid g.S.Store s (was_honest g.S.Store s end c.document_rows.ensures.stands honest) in (
      (λ none. ∥∥₁_elim lay (λ p q. absurd p) (λ l. none (documents_intact trees n id l _ rows))),
      ∥∥₁_elim lay (winner_set _ _) (λ l. ap Some (sym (ap (λ rs. option_and_then winner_shown (slice_get rs 0)) rows ∙ winner_found trees n id l))),
    ))
