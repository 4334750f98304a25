-- Calls one after another.
use Rattle.std.proofs.Common.{◌∙◌, Result, Ok, Err, arith, refl}
use Rattle.store.specs.Calls.{ChangesWhole, GoesOn, OnlyReads}
use Rattle.store.specs.declared.store.Store.{Ghosts}

pub goes_on_itself : {S : Type 0} (g : Ghosts S) (a : S) → GoesOn g a a
goes_on_itself g a = record { counted = omega arith; honest = λ h. h; clean = λ h. h; steady = λ h k. h }

pub goes_on_then : {S : Type 0} (g : Ghosts S) (a b c : S) → GoesOn g a b → GoesOn g b c → GoesOn g a c
goes_on_then g a b c x y =
    record {
      counted = omega (arith, x.counted, y.counted);
      honest = λ h. x.honest (y.honest h);
      clean = λ h. x.clean (y.clean h);
      steady = λ h k. y.steady (x.steady h (y.clean k)) k;
    }

pub reads_nothing : {S : Type 0} (g : Ghosts S) (a : S) → OnlyReads g a a
reads_nothing g a = record { goes_on = goes_on_itself g a; same = λ h. refl; room = λ h name ws k. k; numbers = λ h k. k }

pub reads_then : {S : Type 0} (g : Ghosts S) (a b c : S) → OnlyReads g a b → OnlyReads g b c → OnlyReads g a c
reads_then g a b c x y =
    record {
      goes_on = goes_on_then g a b c x.goes_on y.goes_on;
      same = λ h. y.same h ∙ x.same (y.goes_on.honest h);
      room = λ h name ws k. x.room (y.goes_on.honest h) name ws (y.room h name ws k);
      numbers = λ h k. x.numbers (y.goes_on.honest h) (y.numbers h k);
    }

-- a change that only reads come before
pub changes_after : {S X F : Type 0} (g : Ghosts S) (a b c : S) (r : Result X F) → OnlyReads g a b → ChangesWhole g b c r → ChangesWhole g a c r
changes_after g a b c (Ok v) x y = record { goes_on = goes_on_then g a b c x.goes_on y.goes_on; refused = λ h. tt }
changes_after g a b c (Err e) x y = record { goes_on = goes_on_then g a b c x.goes_on y.goes_on; refused = λ h. y.refused h ∙ x.same (y.goes_on.honest h) }
