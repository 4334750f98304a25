use Rattle.sqlstore.proofs.Lemmas.{Some, Trees, answered, ap, inside, laid, listed_by_sequence, sequence_page_of, sequences_intact, stands_same, subst, trees_of, was_honest, ∥∥₁_elim}
use Rattle.sqlstore.proofs.Enough.{page_of_enough}
use Rattle.sqlstore.proofs.sql_store.SqlStore.find_page_by_sequence.Goals as goal

pub returns-clause-answer : goal.returns-clause-answer
returns-clause-answer g c =
    let s = c.args.self.now in
    let mid = c.count_documents.new.self in
    let end = c.rows_for_page_by_sequence.new.self in
    let trees = trees_of g.S.Store s in
    let n = c.args.number.now in
    let range = c.args.range.now in
    answered g.S.Store s end sequence_page_of _ _ _ c.read_page_by_sequence.result c.read_page_by_sequence.ensures.page
    (λ honest.
    let at_mid = was_honest g.S.Store mid end c.rows_for_page_by_sequence.ensures.stands honest in
    let same = stands_same g.S.Store s mid c.count_documents.ensures.stands in
    let enough = subst (λ (t : Trees). Rattle.sqlstore.specs.inner.Listing.AreEnoughBySequence range (listed_by_sequence t n) c.in_ok-rows.rows.items) same (c.in_ok-rows.ensures.found honest) in
    let counts = inside _ _ (c.in_ok-counts.ensures.answer at_mid) in
    let lay = laid g.S.Store s (was_honest g.S.Store s mid c.count_documents.ensures.stands at_mid) in (
      λ none. ∥∥₁_elim lay (λ p q. absurd p) (λ l. none (enough.intact (sequences_intact trees n l))),
      ap Some (page_of_enough range c.args.sequence (listed_by_sequence trees n) c.in_ok-rows.rows.items c.in_ok-counts.counts enough counts),
    ))
