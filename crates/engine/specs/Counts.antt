-- How many connections are accepted and opened, and how many are open at once.
-- This project's own.
use Rattle.std.specs.Prelude.{◌≡◌, ◌≤◌, ℕ, suc, List, [], ◌∷◌, Result, OnOk}
use Rattle.std.specs.FinMap.{FinMap, empty, len}
use Rattle.std.specs.Ordering.{nat_cmp}
use Rattle.store.specs.declared.store.Store.{Ghosts}
use Rattle.engine.specs.Acts.{Act, Logs, accepted, opened, brought, took, closed}
use Rattle.engine.specs.Desks.{Deed, Desk, Does, Moment, acts_in, new_desk}
use Rattle.engine.specs.Standing.{Standing}
use Rattle.engine.specs.declared.limits.Limits.{Limits}

-- how many connections are accepted by these acts
abbrev pub accepted_in : List Act → ℕ
accepted_in [] = 0
accepted_in (accepted ∷ acts) = suc (accepted_in acts)
accepted_in (opened conn ∷ acts) = accepted_in acts
accepted_in (brought conn bytes ∷ acts) = accepted_in acts
accepted_in (took conn bytes ∷ acts) = accepted_in acts
accepted_in (closed conn ∷ acts) = accepted_in acts

-- how many are opened
abbrev pub opened_count : List Act → ℕ
opened_count [] = 0
opened_count (accepted ∷ acts) = opened_count acts
opened_count (opened conn ∷ acts) = suc (opened_count acts)
opened_count (brought conn bytes ∷ acts) = opened_count acts
opened_count (took conn bytes ∷ acts) = opened_count acts
opened_count (closed conn ∷ acts) = opened_count acts

-- Deeds, one after another, as `Runs` says; before each of them and after the last one at most so many connections are open. So where that
-- is 1, none is opened while another one is open.
abbrev pub RunsWithin : {S : Type 0} → Ghosts S → ℕ → Desk S → List Deed → Desk S → Type 0
RunsWithin g most old [] new = (len old.standings ≤ most) × (new ≡ old)
RunsWithin {S} g most old (d ∷ deeds) new =
    (between : Desk S) × (len old.standings ≤ most) × Does g old d.act d.words between × RunsWithin g most between deeds new

-- A hub was served within these limits from one moment to the other: these deeds were logged, where the log is known, and lead from the one
-- hub to the other. No more connections are open at once than may be, and no more are accepted, or opened, than are to be served. Where the
-- answer is `Ok` just so many were accepted, and none is open any more.
pub record ServesWithin {S A E : Type 0} (g : Ghosts S) (limits : Limits) (result : Result A E) (old new : Moment S) : Type 0 where
  pub deeds : List Deed
  pub standings : FinMap nat_cmp Standing
  pub logs : Logs old.log new.log (acts_in deeds)
  pub runs : RunsWithin g limits.at_once (new_desk old.hub) deeds (record { hub = new.hub; standings = standings })
  pub accepts : accepted_in (acts_in deeds) ≤ limits.conns
  pub opens : opened_count (acts_in deeds) ≤ accepted_in (acts_in deeds)
  pub ends : OnOk result ((accepted_in (acts_in deeds) ≡ limits.conns) × (standings ≡ empty))
