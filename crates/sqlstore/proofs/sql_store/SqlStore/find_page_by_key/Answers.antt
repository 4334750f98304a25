use Rattle.index.specs.Places.{AreEntriesAt}
use Rattle.sqlstore.proofs.Common.{Some, key_page, ℤ}
use Rattle.sqlstore.proofs.KeyRanking.{answers_later}
use Rattle.sqlstore.proofs.Lemmas.{subst, to_z-of_z, trees_of, w64, ◌∙◌}
use Rattle.sqlstore.specs.inner.ByKey.{AnswersOf}
use Rattle.sqlstore.specs.Model.{fault_count, is_honest}
use Rattle.store.specs.KeyPageStructs.{key_page_of}
use Rattle.tables.specs.Schema.{entries_tree}
use Rattle.sqlstore.proofs.sql_store.SqlStore.find_page_by_key.Goals as goal

pub returns-clause-answer : goal.returns-clause-answer
returns-clause-answer g c places =
    let s = c.args.self.now in
    let mid = c.make_key_ranks.new.self in
    let end = c.find_page_of-2.new.self in
    let n = c.args.declaration.number in
    let page = key_page c.args.range.now places in
    let same = to_z-of_z {w = w64} {z = c.copy_number-index.result} (record { sfits = c.copy_number-index.type_inv }) ∙ c.copy_number-index.ensures in
    answers_later (λ x. is_honest g.S.Store x × AreEntriesAt n places (trees_of g.S.Store x entries_tree)) (fault_count g.S.Store) s mid end key_page_of (Some page) c.find_page_of-2.result c.make_key_ranks.ensures.counted
    (subst (λ (m : ℤ). AnswersOf g.S.Store m places mid end key_page_of page c.find_page_of-2.result) same (c.find_page_of-2.ensures.answer places))
