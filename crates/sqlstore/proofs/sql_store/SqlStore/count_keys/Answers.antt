use Rattle.sqlstore.proofs.Lemmas.{Some, Trees, afterwards, ap, stands_same, sym}
use Rattle.index.specs.Rows.{count_of}
use Rattle.tables.specs.Schema.{entries_tree}
use Rattle.sqlstore.proofs.sql_store.SqlStore.count_keys.Goals as goal

pub returns-in-None-clause-answer : goal.returns-in-None-clause-answer
returns-in-None-clause-answer g c =
    let s = c.args.self.now in
    let mid = c.count_by_key_ranks.new.self in
    let end = c.count_between.new.self in
    let count = λ (t : Trees). count_of c.args.declaration.now c.args.low.now c.args.high.now (t entries_tree) in
    afterwards g.S.Store s mid end (λ n. n) _ _ c.count_between.result c.count_by_key_ranks.ensures.stands
    (λ honest. ap (λ (t : Trees). Some (count t)) (sym (stands_same g.S.Store s mid c.count_by_key_ranks.ensures.stands))) c.count_between.ensures.answer
