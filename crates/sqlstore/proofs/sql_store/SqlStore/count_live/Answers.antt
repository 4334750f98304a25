use Rattle.sqlstore.proofs.Lemmas.{Some, Trees, afterwards, ap, false, stands_same, sym}
use Rattle.tables.specs.Listings.{marked_count}
use Rattle.tables.specs.Schema.{docs_tree}
use Rattle.sqlstore.proofs.sql_store.SqlStore.count_live.Goals as goal

pub returns-in-None-clause-answer : goal.returns-in-None-clause-answer
returns-in-None-clause-answer g c =
    let s = c.args.self.now in
    let mid = c.count_by_ranks.new.self in
    let end = c.count_marked.new.self in
    let count = λ (t : Trees). marked_count c.args.number.now false c.args.low.now c.args.high.now (t docs_tree) in
    afterwards g.S.Store s mid end (λ n. n) _ _ c.count_marked.result c.count_by_ranks.ensures.stands
    (λ honest. ap (λ (t : Trees). Some (count t)) (sym (stands_same g.S.Store s mid c.count_by_ranks.ensures.stands))) c.count_marked.ensures.answer
