use Rattle.sqlstore.proofs.Common.{Coded-set, coded_ℕ}
use Rattle.sqlstore.proofs.IdRows.{within_counted}
use Rattle.sqlstore.proofs.Lemmas.{Some, ap, inside, laid, sym, trees_of, was_honest, ∥∥₁_elim, ◌∙◌}
use Rattle.std.proofs.Common.{min}
use Rattle.store.proofs.PageStructs.{smaller}
use Rattle.sqlstore.proofs.sql_store.SqlStore.count_skipped_ids.Goals as goal

pub returns-clause-answer : goal.returns-clause-answer
returns-clause-answer g c k =
    let s = c.args.self.now in
    let end = c.count_live.new.self in
    let trees = trees_of g.S.Store s in
    let range = c.args.range.now in
    let within =
    ∥∥₁_elim (laid g.S.Store s (was_honest g.S.Store s end c.count_live.ensures.stands k)) (Coded-set coded_ℕ _ _)
    (λ l. sym (within_counted trees c.args.db.now l range c.args.low.now c.args.high.now c.requires.low c.requires.high)) ∙ inside _ _ (c.in_ok-within.ensures.answer k) in
    ap Some (ap (min range.skip) within ∙ sym (c.min.ensures ∙ smaller range.skip c.in_ok-within.within))
