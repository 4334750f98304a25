use Rattle.sqlstore.proofs.KeyEntries.{entries_before, skipped_counted}
use Rattle.sqlstore.proofs.Lemmas.{Some, ap, inside, sym, trees_of, ◌∙◌}
use Rattle.store.proofs.PageStructs.{smaller}
use Rattle.tables.specs.Schema.{entries_tree}
use Rattle.sqlstore.proofs.sql_store.SqlStore.count_skipped_keys.Goals as goal

pub returns-clause-answer : goal.returns-clause-answer
returns-clause-answer g c places lows highs k =
    let s = c.args.self.now in
    let end = c.count_keys.new.self in
    let n = c.args.declaration.now in
    let range = c.args.range.now in
    let h = entries_before g.S.Store s end n places c.count_keys.ensures.stands k.1 in
    let within = inside _ _ (c.in_ok-within.ensures.answer k.0) in
    ap Some
    (skipped_counted n places (trees_of g.S.Store s entries_tree) h range c.args.low.now c.args.high.now lows highs c.in_ok-within.within within ∙ sym (c.min.ensures ∙ smaller range.skip c.in_ok-within.within))
