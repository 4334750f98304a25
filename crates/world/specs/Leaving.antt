-- What a refusal leaves of the events that were to be played.
-- This project's own.
use Rattle.std.specs.Prelude.{◌≡◌, ◌⊎◌, ℕ, List, [], ◌∷◌, ◌++◌}
use Rattle.world.specs.Happening.{Happening, Sight, exchanges}
use Rattle.world.specs.Network.{Network}
use Rattle.world.specs.Playing.{Plays}
use Rattle.world.specs.Service.{Handling}
use Rattle.world.specs.declared.fate.Fate.TheVariants.{Answered, ReplyLost}
use Rattle.world.specs.declared.fault.WorldFaultKind.{WorldFaultKind}
use Rattle.world.specs.declared.fault.WorldFaultKind.TheVariants.{Memory}

-- the last of these events is an exchange, and it stands as one whose reply was lost
pub record EndsInLoss (played stood : List Happening) : Type 0 where
  pub earlier : List Happening
  pub number : ℕ
  pub asked : played ≡ earlier ++ exchanges number Answered ∷ []
  pub lost : stood ≡ earlier ++ exchanges number ReplyLost ∷ []

-- How the events stand that a refusal of this kind counts as played: as they were asked; or, where there was no memory to take a
-- reply in, the last of them as a loss.
abbrev pub StandAs : WorldFaultKind → List Happening → List Happening → Type 0
StandAs kind played stood = (stood ≡ played) ⊎ ((kind ≡ Memory) × EndsInLoss played stood)

-- a refusal of this kind, which counts these events as played, leaves what comes of them as they stand
pub record LeavesPlayed {S : Type 0} (handling : Handling S) (kind : WorldFaultKind) (old : Network S) (played : List Happening) (new : Network S) : Type 0 where
  pub stood : List Happening
  pub kept : StandAs kind played stood
  pub seen : List Sight
  pub left : Plays handling old stood seen new
