-- A pass that goes on with smaller batches where one is too long for its target.
-- RFC 9110, section 15.5.14, for the status; that a quarter of the batch follows is this project's own.
use Rattle.std.specs.Prelude.{◌≡◌, ◌⊎◌, ◌==◌, ◌&&◌, ◌/◌, ℕ, zero, suc, Bool, false, max, nat_lt, Option, Some, None, if◌then◌else◌}
use Rattle.command_line.specs.Plan.{SyncAsked}
use Rattle.repl.specs.Passes.{Asked, Pass, Summary, done, first_pass, joined, stopped_by, to_source, to_target}
use Rattle.repl.specs.declared.why.Why.{Why}
use Rattle.repl.specs.declared.why.Why.TheVariants.{Status, Reply, Lost}
use Rattle.sync.specs.Configuring.{configuration_with}
use Rattle.sync.specs.Sides.{Answering, Between, Breaking, BreaksOff, HasTurn}
use Rattle.sync.specs.Turns.{ComesToEnd, EndsEarly}
use Rattle.sync.specs.declared.series.Manner.{Manner}

-- the status that says that a request is too long
abbrev pub too_long : ℕ
too_long = 413

-- how a pass goes on: with a quarter of the batch, or one change, and from 0 if it began there and has written no checkpoint
abbrev pub narrowed : Manner → ℕ → Manner
narrowed m reached = record { batch = max (m.batch / 4) 1; is_from_start = m.is_from_start && reached == 0 }

-- what a pass says at its end, together with what was reported before
abbrev pub joined_end : Option Summary → Asked → Asked
joined_end None end = end
joined_end (Some earlier) (to_source m) = to_source m
joined_end (Some earlier) (to_target m) = to_target m
joined_end (Some earlier) (done s) = done (joined earlier s)
joined_end (Some earlier) (stopped_by why s) = stopped_by why (joined earlier s)

-- the target refused a batch as too long, and there is a smaller one
abbrev pub is_too_long : ℕ → Why → Bool
is_too_long batch (Status status) = status == too_long && nat_lt 1 batch
is_too_long batch Reply = false
is_too_long batch Lost = false

-- what was reported so far, where a pass that ended so goes on with a smaller batch
abbrev pub reported_before : ℕ → Asked → Option Summary
reported_before batch (to_source m) = None
reported_before batch (to_target m) = None
reported_before batch (done s) = None
reported_before batch (stopped_by why s) = if is_too_long batch why then Some s else None

-- two sides between which no pass is under way
pub record Pair (F T : Type 0) : Type 0 where
  pub source : F
  pub target : T

-- a pass of this manner that begins between two sides
abbrev pub begun : {F T : Type 0} → SyncAsked → Manner → Pair F T → Between F T
begun asked manner pair = record {
  source = pair.source;
  target = pair.target;
  pass = first_pass (configuration_with asked manner.batch manner.is_from_start);
}

-- the two sides of a pass
abbrev pub pair_of : {F T : Type 0} → Between F T → Pair F T
pair_of between = record { source = between.source; target = between.target }

-- One pass more, and what follows it. The pass comes to its end by turns of both sides. If it stopped at a batch that was too long, the next
-- one follows; else this is the end.
abbrev pub Follows : {F T : Type 0} → (Manner → Option Summary → Pair F T → Asked → Pair F T → Type 0) → Manner → Asked → Option Summary → Between F T → Asked → Pair F T → Type 0
Follows next manner said None between end after = (end ≡ said) × (after ≡ pair_of between)
Follows next manner said (Some earlier) between end after = next (narrowed manner between.pass.since) (Some earlier) (pair_of between) end after

-- At most so many passes one after another: what they say together, and the sides then.
abbrev pub IsSeries : {F T : Type 0} → Answering F → Answering T → SyncAsked → ℕ → Manner → Option Summary → Pair F T → Asked → Pair F T → Type 0
IsSeries source target asked zero manner earlier before end after = ⊥
IsSeries {F} {T} source target asked (suc count) manner earlier before end after =
    (said : Asked) × (between : Between F T) × ComesToEnd (HasTurn source target) (begun asked manner before) said between
    × Follows (IsSeries source target asked count) manner (joined_end earlier said) (reported_before manner.batch (joined_end earlier said)) between end after

-- What follows a pass that came to its end ended early, where something does.
abbrev pub FollowsEarly : {F T : Type 0} → (Manner → Option Summary → Pair F T → Pair F T → Type 0) → Manner → Option Summary → Between F T → Pair F T → Type 0
FollowsEarly next manner None between after = ⊥
FollowsEarly next manner (Some earlier) between after = next (narrowed manner between.pass.since) (Some earlier) (pair_of between) after

-- At most so many passes one after another, which ended early: the first of them did, or it came to its end and those that follow it did. Where no pass may follow,
-- the sides are as they were.
abbrev pub EndsSeriesEarly : {F T : Type 0} → Answering F → Breaking F → Answering T → Breaking T → SyncAsked → ℕ → Manner → Option Summary → Pair F T → Pair F T → Type 0
EndsSeriesEarly source source_breaks target target_breaks asked zero manner earlier before after = after ≡ before
EndsSeriesEarly {F} {T} source source_breaks target target_breaks asked (suc count) manner earlier before after =
    ((between : Between F T) × EndsEarly (HasTurn source target) (BreaksOff source source_breaks target target_breaks) (begun asked manner before) between × (after ≡ pair_of between))
    ⊎ ((said : Asked) × (between : Between F T) × ComesToEnd (HasTurn source target) (begun asked manner before) said between
    × FollowsEarly (EndsSeriesEarly source source_breaks target target_breaks asked count) manner (reported_before manner.batch (joined_end earlier said)) between after)
