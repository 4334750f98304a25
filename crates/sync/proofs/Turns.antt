-- Turns of a pass, one after another.
use Rattle.std.proofs.Common.{◌≡◌, ◌<◌, ◌≤◌, ◌+◌, ℕ, suc, Option, Some, None, inl, subst, sym, arith}
use Rattle.std.specs.Prelude.{IfErr, IsErrAnd, OnErr, Result, Ok, Err, option_map}
use Rattle.command_line.specs.declared.fault.ProgramFault.{ProgramFault}
use Rattle.command_line.specs.declared.fault.ProgramFault.TheVariants.{Memory}
use Rattle.repl.specs.Asks.{ask_of}
use Rattle.repl.specs.Passes.{Asked}
use Rattle.repl.specs.declared.ask.Ask.{Ask}
use Rattle.sync.specs.Turns.{ComesToEnd, EndsBy, GoesThrough, RunsOut, StopsInTurn, TurnOf, most_exchanges}

-- a turn that there may be has as many exchanges before it as there may be, or fewer
in_time_before : (count most : ℕ) → count < most + 1 → count ≤ most
in_time_before count most before = omega (arith, before)

meets_most : (most count : ℕ) → count ≤ most → most ≤ count → count ≡ most
meets_most most count within all = omega (arith, within, all)

module _ {A : Type 0} (turn : TurnOf A) (count : ℕ) (start now after : A) (said : Option Ask) where
  -- the last turn
  pub comes_to_end : (ask : Ask) → count < most_exchanges + 1 → GoesThrough turn count start now → turn now (option_map ask_of said) after → said ≡ Some ask → ComesToEnd turn start (ask_of ask) after
  comes_to_end ask in_time gone has is = record {
    count = count;
    in_time = in_time_before count most_exchanges in_time;
    between = now;
    goes = gone;
    ends = subst (λ (s : Option Ask). turn now (option_map ask_of s) after) is has;
  }

  -- one that isn't
  pub goes_further : GoesThrough turn count start now → turn now (option_map ask_of said) after → said ≡ None → GoesThrough turn (count + 1) start after
  goes_further gone has is =
      let more : count + 1 ≡ suc count = omega arith in
      rw more ((now, gone, subst (λ (s : Option Ask). turn now (option_map ask_of s) after) is has))

-- what holds at a refusal, where it holds
pub on_err : {A E X : Type 0} (r : Result A E) → X → OnErr r X
on_err (Ok a) x = tt
on_err (Err e) x = x

-- no turn is left, and each was an exchange
pub runs_out : {A : Type 0} (turn : TurnOf A) (count : ℕ) (start now : A) → count ≤ most_exchanges + 1 → most_exchanges + 1 ≤ count → GoesThrough turn count start now → RunsOut turn start now
runs_out turn count start now within all gone = record { count = count; one_more = meets_most (most_exchanges + 1) count within all; goes = gone }

module _ {A : Type 0} (turn : TurnOf A) (breaks : A → A → Type 0) where
  -- a turn that broke off
  pub stops_in_turn : (count : ℕ) (start now after : A) → count < most_exchanges + 1 → GoesThrough turn count start now → breaks now after → StopsInTurn turn breaks start after
  stops_in_turn count start now after in_time gone left =
      record { count = count; in_time = in_time_before count most_exchanges in_time; between = now; goes = gone; last = left }

  -- a pass that came to its end, which nobody was told
  pub stops_at_end : ((before after : A) (asked : Asked) → turn before (Some asked) after → breaks before after)
      → (start after : A) (asked : Asked) → ComesToEnd turn start asked after → StopsInTurn turn breaks start after
  stops_at_end may start after asked end = record {
    count = end.count;
    in_time = end.in_time;
    between = end.between;
    goes = end.goes;
    last = may end.between after asked end.ends;
  }

  -- memory ran out in a turn
  pub by_memory : {X : Type 0} (r : Result X ProgramFault) (start after : A) → IsErrAnd r (λ fault. fault ≡ Memory) → StopsInTurn turn breaks start after → IfErr r (EndsBy turn breaks start after)
  by_memory (Ok x) start after is stops = tt
  by_memory (Err fault) start after is stops = subst (λ (f : ProgramFault). EndsBy turn breaks start after f) (sym is) stops
