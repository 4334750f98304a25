-- What a loss makes of a pass.
use Rattle.std.proofs.Common.{◌+◌, Bool, true, false, cond, leb}
use Rattle.repl.specs.Passes.{Pass, lost_in, most_losses, phase_after_loss, stopped_at}
use Rattle.repl.specs.declared.phase.Phase.{Phase}
use Rattle.repl.specs.declared.phase.Phase.TheVariants.{ReadSource, ReadTarget, ListChanges, Compare, Open, Push, WriteSource, WriteTarget, RereadSource, RereadTarget, Done, Stopped}
use Rattle.repl.specs.declared.why.Why.TheVariants.{Lost}

-- a pass that goes on, with one loss more
abbrev pub counted : Pass → Pass
counted p = record p { phase = phase_after_loss p.phase; losses = p.losses + 1 }

either_loss : (P : Pass → Type 0) (b : Bool) (p : Pass) → P (stopped_at p Lost) → P (counted p) → P (cond b (stopped_at p Lost) (counted p))
either_loss P true p stops goes = stops
either_loss P false p stops goes = goes

-- what holds of the pass itself, of it stopped, and of it with one loss more
pub lost_by : (P : Pass → Type 0) (f : Phase) (p : Pass) → P p → P (stopped_at p Lost) → P (counted p) → P (lost_in f p)
lost_by P ReadSource p same stops goes = either_loss P (leb most_losses p.losses) p stops goes
lost_by P ReadTarget p same stops goes = either_loss P (leb most_losses p.losses) p stops goes
lost_by P ListChanges p same stops goes = either_loss P (leb most_losses p.losses) p stops goes
lost_by P Compare p same stops goes = either_loss P (leb most_losses p.losses) p stops goes
lost_by P Open p same stops goes = either_loss P (leb most_losses p.losses) p stops goes
lost_by P Push p same stops goes = either_loss P (leb most_losses p.losses) p stops goes
lost_by P WriteSource p same stops goes = either_loss P (leb most_losses p.losses) p stops goes
lost_by P WriteTarget p same stops goes = either_loss P (leb most_losses p.losses) p stops goes
lost_by P RereadSource p same stops goes = either_loss P (leb most_losses p.losses) p stops goes
lost_by P RereadTarget p same stops goes = either_loss P (leb most_losses p.losses) p stops goes
lost_by P Done p same stops goes = same
lost_by P (Stopped why) p same stops goes = same
