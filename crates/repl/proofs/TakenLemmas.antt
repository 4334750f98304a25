-- What a reply says that a pass takes in.
use Rattle.std.proofs.Common.{◌≡◌, Bool, true, false, cond, Result, Ok, Err, refl}
use Rattle.repl.specs.Passes.{where_answers}
use Rattle.repl.specs.declared.why.Why.{Why}
use Rattle.repl.specs.declared.why.Why.TheVariants.{Reply}

abbrev fine : {A : Type 0} → A → Result A Why
fine a = Ok a

abbrev ill : {A : Type 0} → Why → Result A Why
ill why = Err why

-- what is taken in is what the reply says
pub was_said : {A : Type 0} (answers : A → Bool) (r : Result A Why) (a : A) → where_answers answers r ≡ Ok a → r ≡ Ok a
was_said {A} answers (Ok b) a e = by (answers b) e
  where
    by : (t : Bool) → cond t (fine b) (ill Reply) ≡ fine a → fine b ≡ fine a
    by true k = k
    by false k = absurd cc
was_said answers (Err why) a e = absurd cc
