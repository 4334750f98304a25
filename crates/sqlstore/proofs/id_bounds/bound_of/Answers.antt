use Rattle.sqlstore.proofs.IdRows.{bound_above, bound_without_end}
use Rattle.sqlstore.proofs.KeyEntries.{also_ok}
use Rattle.sqlstore.proofs.Lemmas.{◌∙◌}
use Rattle.sqlstore.proofs.id_bounds.bound_of.Goals as goal

pub returns-in-Some : goal.returns-in-Some
returns-in-Some c = also_ok c.bound_at.result (λ bound is id u. bound_above c.args.end.now _ c.in-Some.end bound.items id c.args.behind c.args.above_all c.in-Some.is (c.as_bytes.ensures.value ∙ c.as_str.ensures) is) c.bound_at.ensures

pub returns-in-None : goal.returns-in-None
returns-in-None c = also_ok c.above_all_ids.result (λ bound is id u. bound_without_end c.args.end.now bound.items id c.args.behind c.args.above_all c.in-None.is c.if-above_all.true is u) c.above_all_ids.ensures
