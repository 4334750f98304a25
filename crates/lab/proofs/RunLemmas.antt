-- Exchanges of a pass, one after another.
use Rattle.std.proofs.Common.{◌≡◌, ℕ, zero, suc, ◌<◌, ◌≤◌, ◌-◌, ◌+◌, ◌++◌, true, false, List, [], Option, sym, subst, refl, append_assoc, inl, inr, arith}
use Rattle.std.specs.Io.KnownBytes.{Appends}
use Rattle.std.proofs.KnownBytes.{Appends-nil}
use Rattle.store.specs.declared.store.Store.{Ghosts}
use Rattle.world.specs.Happening.{Sight, exchanges}
use Rattle.world.specs.Network.{Network}
use Rattle.world.specs.declared.fate.Fate.TheVariants.{Answered}
use Rattle.lab.specs.Replies.{IsShown, Runs, SaysItsEnd, says_end}
use Rattle.lab.proofs.ReplyLemmas.{Appends-then}

-- Some exchanges were made and printed, none of which was the last: what is made of the rest is made of all.
pub record HasRun {S : Type 0} (g : Ghosts S) (most left : ℕ) (number : ℕ) (name : List ℕ) (start now : Network S) (old new : Option (List ℕ)) : Type 0 where
  pub shown : List ℕ
  pub appended : Appends old new shown
  pub goes_on : (rest : List ℕ) (after : Network S) → Runs g left now number name rest after → Runs g most start number name (shown ++ rest) after

pub run_none : {S : Type 0} (g : Ghosts S) (most number : ℕ) (name : List ℕ) (start : Network S) (old : Option (List ℕ)) → HasRun g most (most - 0) number name start start old old
run_none {S} g most number name start old =
    let all : most - 0 ≡ most = omega arith in
    record { shown = []; appended = Appends-nil old; goes_on = λ rest after p. subst (λ (n : ℕ). Runs g n start number name rest after) all p }

-- the last exchange
runs_end : {S : Type 0} (g : Ghosts S) (left number : ℕ) (name printed : List ℕ) (seen : List Sight) (now after : Network S) → 0 < left
    → IsShown g now (exchanges number Answered) name seen printed after → says_end seen ≡ true → Runs g left now number name printed after
runs_end g zero number name printed seen now after some shown is = absurd (omega (arith, some))
runs_end g (suc n) number name printed seen now after some shown is = (seen, printed, after, shown, inl (is, refl, refl))

-- one that isn't
runs_more : {S : Type 0} (g : Ghosts S) (left number : ℕ) (name printed rest : List ℕ) (seen : List Sight) (now between after : Network S) → 0 < left
    → IsShown g now (exchanges number Answered) name seen printed between → says_end seen ≡ false → Runs g (left - 1) between number name rest after
    → Runs g left now number name (printed ++ rest) after
runs_more g zero number name printed rest seen now between after some shown is p = absurd (omega (arith, some))
runs_more {S} g (suc n) number name printed rest seen now between after some shown is p =
    let left : suc n - 1 ≡ n = omega arith in
    (seen, printed, between, shown, inr (is, (rest, subst (λ (k : ℕ). Runs g k between number name rest after) left p, refl)))

pub run_ended : {S : Type 0} (g : Ghosts S) (most turn number : ℕ) (name printed : List ℕ) (seen : List Sight) (start now after : Network S) (old between new : Option (List ℕ))
    → HasRun g most (most - turn) number name start now old between → turn < most → IsShown g now (exchanges number Answered) name seen printed after → says_end seen ≡ true
    → Appends between new printed → (shown : List ℕ) × Runs g most start number name shown after × Appends old new shown
run_ended g most turn number name printed seen start now after old between new p inside shown is appended = (
  p.shown ++ printed,
  p.goes_on printed after (runs_end g (most - turn) number name printed seen now after (omega (arith, inside)) shown is),
  Appends-then old between new p.shown printed p.appended appended,
)

pub run_on : {S : Type 0} (g : Ghosts S) (most turn number : ℕ) (name printed : List ℕ) (seen : List Sight) (start now after : Network S) (old between new : Option (List ℕ))
    → HasRun g most (most - turn) number name start now old between → turn < most → IsShown g now (exchanges number Answered) name seen printed after → says_end seen ≡ false
    → Appends between new printed → HasRun g most (most - (turn + 1)) number name start after old new
run_on {S} g most turn number name printed seen start now after old between new p inside shown is appended =
    let left : most - (turn + 1) ≡ most - turn - 1 = omega arith in
    record {
      shown = p.shown ++ printed;
      appended = Appends-then old between new p.shown printed p.appended appended;
      goes_on = λ rest end q. subst (λ (xs : List ℕ). Runs g most start number name xs end) (sym (append_assoc p.shown printed rest))
          (p.goes_on (printed ++ rest) end
          (runs_more g (most - turn) number name printed rest seen now after end (omega (arith, inside)) shown is
          (subst (λ (n : ℕ). Runs g n after number name rest end) left q)));
    }

pub run_over : {S : Type 0} (g : Ghosts S) (most turn number : ℕ) (name printed : List ℕ) (start now after : Network S) (old between new : Option (List ℕ))
    → HasRun g most (most - turn) number name start now old between → most ≤ turn → SaysItsEnd g now number name printed after → Appends between new printed
    → (shown : List ℕ) × Runs g most start number name shown after × Appends old new shown
run_over {S} g most turn number name printed start now after old between new p le said appended =
    let none : most - turn ≡ 0 = omega (arith, le) in (
      p.shown ++ printed,
      p.goes_on printed after (subst (λ (n : ℕ). Runs g n now number name printed after) (sym none) said),
      Appends-then old between new p.shown printed p.appended appended,
    )
