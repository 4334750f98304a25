use Rattle.sqlstore.proofs.IdRows.{low_down, low_up}
use Rattle.sqlstore.proofs.KeyEntries.{also_ok}
use Rattle.sqlstore.proofs.Lemmas.{refl, ◌∙◌}
use Rattle.sqlstore.proofs.id_bounds.low_id_bound.Goals as goal

pub returns-then-range : goal.returns-then-range
returns-then-range c = also_ok c.bound_of.result (λ bound h id u. h id u ∙ low_down c.args.range.now c.args.range.now.end c.args.range.now.inclusive_end id refl refl c.if-range.true) c.bound_of.ensures

pub returns-else-range : goal.returns-else-range
returns-else-range c = also_ok c.bound_of-else-range.result (λ bound h id u. h id u ∙ low_up c.args.range.now c.args.range.now.start id refl c.if-range.false) c.bound_of-else-range.ensures
