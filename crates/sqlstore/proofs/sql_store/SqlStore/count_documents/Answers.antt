use Rattle.sqlstore.proofs.Common.{Trees, if_counted, listed_counts}
use Rattle.sqlstore.proofs.Lemmas.{Some, ap, false, inside, listed_by_sequence, stands_same, sym, trees_of, true, was_honest, ◌∙◌, ◌≡◌}
use Rattle.sqlstore.specs.inner.Listing.{all_count}
use Rattle.sqlstore.proofs.sql_store.SqlStore.count_documents.Goals as goal

pub returns-clause-answer : goal.returns-clause-answer
returns-clause-answer g c k =
    let s = c.args.self.now in
    let one = c.count_all.new.self in
    let n = c.args.number.now in
    let trees = trees_of g.S.Store s in
    let live : all_count trees n false ≡ c.in_ok-documents.documents = inside _ _ (c.in_ok-documents.ensures.answer (was_honest g.S.Store one c.count_all-2.new.self c.count_all-2.ensures.stands k)) in
    let gone : all_count trees n true ≡ c.in_ok-deleted.deleted = ap (λ (t : Trees). all_count t n true) (sym (stands_same g.S.Store s one c.count_all.ensures.stands)) ∙ inside _ _ (c.in_ok-deleted.ensures.answer k) in
    ap Some (ap (λ b. if_counted b (listed_counts (listed_by_sequence trees n))) c.if-not-counted.false ∙ (λ i. Some (record { documents = live i; deleted = gone i })))
