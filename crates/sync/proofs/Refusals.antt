-- What a turn leaves that broke off, or that nobody was told of.
use Rattle.std.proofs.Common.{◌≡◌, ◌≤◌, ◌++◌, ◌∙◌, ◌∷◌, [], ℕ, zero, suc, List, length, map, take, inl, inr, ap, sym, subst, arith, length-append}
use Rattle.store.specs.declared.store.Store.{Ghosts}
use Rattle.hub.specs.Answering.{StoreSteps}
use Rattle.hub.specs.Connections.{ConnectionTable}
use Rattle.repl.specs.Passes.{Asked}
use Rattle.std.specs.Prelude.{◌&&◌, Some, false, nat_le}
use Rattle.world.specs.Happening.{Happening, Sight, comes, exchanges}
use Rattle.world.specs.Network.{Network, Transfer}
use Rattle.world.specs.Playing.{Plays}
use Rattle.world.specs.Leaving.{LeavesPlayed, StandAs}
use Rattle.world.specs.Service.{alike}
use Rattle.world.specs.OneEvent.{IsUnknownAt, happening_of, is_known, was_started}
use Rattle.world.specs.declared.event.Event.TheVariants.{Exchange}
use Rattle.world.specs.declared.fate.Fate.TheVariants.{Answered, ReplyLost}
use Rattle.world.specs.declared.fault.WorldFaultKind.{WorldFaultKind}
use Rattle.sync.specs.Passing.{HasTurn, BreaksOff}
use Rattle.sync.specs.Sides.{Answering, Between, Breaking}
use Rattle.sync.specs.Sides as sides

-- the number of the first event, where that is an exchange
abbrev number_first : List Happening → ℕ
number_first [] = 0
number_first (comes piece ∷ hs) = 0
number_first (exchanges number fate ∷ hs) = number

lost_by : (number : ℕ) (stood earlier : List Happening) (other : ℕ) → exchanges number Answered ∷ [] ≡ earlier ++ exchanges other Answered ∷ [] → stood ≡ earlier ++ exchanges other ReplyLost ∷ []
    → stood ≡ exchanges number ReplyLost ∷ []
lost_by number stood [] other asked lost = lost ∙ ap (λ (n : ℕ). exchanges n ReplyLost ∷ []) (sym (ap number_first asked))
lost_by number stood (e ∷ es) other asked lost =
    let many : 1 ≡ suc (length (es ++ exchanges other Answered ∷ [])) = ap length asked in
    absurd (omega (arith, many, length-append es (exchanges other Answered ∷ [])))

lost_none : (earlier : List Happening) (h : Happening) → [] ≡ earlier ++ h ∷ [] → ⊥
lost_none earlier h e =
    let none : 0 ≡ length (earlier ++ h ∷ []) = ap length e in
    omega (arith, none, length-append earlier (h ∷ []))

module _ {S : Type 0} (g : Ghosts S) (number : ℕ) (kind : WorldFaultKind) (before after : Network S) (stood : List Happening) (seen : List Sight) where
  none_stands : StandAs kind [] stood → Plays (alike (StoreSteps g)) before stood seen after → BreaksOff g number before after
  none_stands (inl e) left = inl ((subst (λ (hs : List Happening). Plays (alike (StoreSteps g)) before hs seen after) e left).1)
  none_stands (inr l) left = absurd (lost_none l.1.earlier (exchanges l.1.number Answered) l.1.asked)

  one_stands : StandAs kind (exchanges number Answered ∷ []) stood → Plays (alike (StoreSteps g)) before stood seen after → BreaksOff g number before after
  one_stands (inl e) left = inr ((Answered, (λ h. absurd cc), (seen, subst (λ (hs : List Happening). Plays (alike (StoreSteps g)) before hs seen after) e left)))
  one_stands (inr l) left =
      let is = lost_by number stood l.1.earlier l.1.number l.1.asked l.1.lost in
      inr ((ReplyLost, (λ h. absurd cc), (seen, subst (λ (hs : List Happening). Plays (alike (StoreSteps g)) before hs seen after) is left)))

-- a refusal of one exchange
pub breaks_off : {S : Type 0} (g : Ghosts S) (number : ℕ) (kind : WorldFaultKind) (before after : Network S) (played : ℕ) → played ≤ 1
    → LeavesPlayed (alike (StoreSteps g)) kind before (map happening_of (take played (Exchange number ∷ []))) after → BreaksOff g number before after
breaks_off g number kind before after zero within s = none_stands g number kind before after s.stood s.seen s.kept s.left
breaks_off g number kind before after (suc zero) within s = one_stands g number kind before after s.stood s.seen s.kept s.left
breaks_off g number kind before after (suc (suc n)) within s = absurd (omega (arith, within))

-- a turn in which the pass said that it has ended, which nobody was told
pub end_breaks_off : {S : Type 0} (g : Ghosts S) (number : ℕ) (before after : Network S) (asked : Asked) → HasTurn g number before (Some asked) after → BreaksOff g number before after
end_breaks_off g number before after asked turn = inr ((Answered, (λ h. absurd cc), (turn.0, turn.1)))

-- the same between two sides
pub sides_end_break_off : {F T : Type 0} (source : Answering F) (source_breaks : Breaking F) (target : Answering T) (target_breaks : Breaking T) (before after : Between F T) (asked : Asked)
    → sides.HasTurn source target before (Some asked) after → sides.BreaksOff source source_breaks target target_breaks before after
sides_end_break_off source source_breaks target target_breaks before after asked turn = inl turn.2

-- only a pass that was never started is unknown
pub was_never_started : (table : ConnectionTable) (transfers : List Transfer) (number played : ℕ) → IsUnknownAt table transfers (exchanges number Answered ∷ []) played → was_started transfers number ≡ false
was_never_started table transfers number zero u = subst (λ (h : Happening). is_known table transfers h ≡ false) (sym (same u)) u.2
  where
    same : IsUnknownAt table transfers (exchanges number Answered ∷ []) zero → exchanges number Answered ≡ u.0
    same unknown = cc
was_never_started table transfers number (suc n) u = absurd cc

-- nor was it before, where the passes were as many
pub never_started_before : (old new : List Transfer) (number : ℕ) → length new ≡ length old → was_started new number ≡ false → was_started old number ≡ false
never_started_before old new number many never = subst (λ (n : ℕ). (nat_le 1 number && nat_le number n) ≡ false) many never
