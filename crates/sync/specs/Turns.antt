-- How a pass comes to its end by turns, whatever a turn changes: what is between two turns is of any type.
-- CouchDB manual, replication/protocol; how many exchanges a pass may make is this project's own.
use Rattle.std.specs.Prelude.{◌≡◌, ◌≤◌, ◌⊎◌, ◌+◌, ◌^◌, ℕ, zero, suc, Option, Some, None}
use Rattle.command_line.specs.declared.fault.ProgramFault.{ProgramFault}
use Rattle.command_line.specs.declared.fault.ProgramFault.TheVariants.{File, Line, Memory, Socket}
use Rattle.repl.specs.Passes.{Asked}

-- what a turn makes of what is before it: an exchange, or what the pass says where it has ended
abbrev pub TurnOf : Type 0 → Type 1
TurnOf A = A → Option Asked → A → Type 0

-- it makes so many exchanges, a turn each, and goes on
abbrev pub GoesThrough : {A : Type 0} → TurnOf A → ℕ → A → A → Type 0
GoesThrough turn zero before after = after ≡ before
GoesThrough {A} turn (suc count) before after = (between : A) × GoesThrough turn count before between × turn between None after

-- how many exchanges a pass may make before it has ended
abbrev pub most_exchanges : ℕ
most_exchanges = 2 ^ 32

-- the pass says this at its end, to which it came in time
pub record ComesToEnd {A : Type 0} (turn : TurnOf A) (before : A) (asked : Asked) (after : A) : Type 0 where
  pub count : ℕ
  pub in_time : count ≤ most_exchanges
  pub between : A
  pub goes : GoesThrough turn count before between
  pub ends : turn between (Some asked) after

-- the pass has not ended after as many exchanges as it may make: it made one more
pub record RunsOut {A : Type 0} (turn : TurnOf A) (before after : A) : Type 0 where
  pub count : ℕ
  pub one_more : count ≡ most_exchanges + 1
  pub goes : GoesThrough turn count before after

-- a turn broke off in time: the exchanges before it stand, and so does what it left
pub record StopsInTurn {A : Type 0} (turn : TurnOf A) (breaks_off : A → A → Type 0) (before after : A) : Type 0 where
  pub count : ℕ
  pub in_time : count ≤ most_exchanges
  pub between : A
  pub goes : GoesThrough turn count before between
  pub last : breaks_off between after

-- the pass ended early, before its end was told
abbrev pub EndsEarly : {A : Type 0} → TurnOf A → (A → A → Type 0) → A → A → Type 0
EndsEarly turn breaks_off before after = StopsInTurn turn breaks_off before after ⊎ RunsOut turn before after

-- what a fault says of a pass whose end was not reached: memory ran out in a turn, or no turn was left
abbrev pub EndsBy : {A : Type 0} → TurnOf A → (A → A → Type 0) → A → A → ProgramFault → Type 0
EndsBy turn breaks_off before after Memory = StopsInTurn turn breaks_off before after
EndsBy turn breaks_off before after File = RunsOut turn before after
EndsBy turn breaks_off before after Socket = ⊥
EndsBy turn breaks_off before after (Line n) = ⊥
