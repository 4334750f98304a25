-- The id that a path names, where it is of the kind that is asked for.
use Rattle.std.proofs.Common.{◌≡◌, ℕ, Bool, true, false, List, Option, Some, None, option_and_then, Result, Ok, Err, refl, sym, ap, ◌∙◌, subst}
use Rattle.api.specs.Paths.{text_if}
use Rattle.api.specs.Refusals.{there_or}
use Rattle.api.specs.RequestReading.{Says}
use Rattle.api.specs.declared.fault.RequestFault.{RequestFault}
use Rattle.api.specs.declared.fault.RequestFault.TheVariants.{Refused, Memory}
use Rattle.api.specs.declared.refusal.Refusal.TheVariants.{Id}

-- the id, where it passes the test
abbrev pub sifted : (List ℕ → Bool) → Option (List ℕ) → Option (List ℕ)
sifted test o = option_and_then (λ id. text_if (test id) id) o

-- what is refused without the test is refused with it
pub says_refused : (test : List ℕ → Bool) (o : Option (List ℕ)) (fault : RequestFault) → Says {A = List ℕ} (λ id. id) (Err fault) (there_or Id o)
    → Says {A = List ℕ} (λ id. id) (Err fault) (there_or Id (sifted test o))
says_refused test o Memory h = tt
says_refused test None (Refused refusal) h = h
says_refused test (Some id) (Refused refusal) h = absurd cc

pub says_all_refused : (test : List ℕ → Bool) (o : Option (List ℕ)) (r : Result (List ℕ) RequestFault) (fault : RequestFault) → r ≡ Err fault → Says {A = List ℕ} (λ id. id) (Err fault) (there_or Id o)
    → Says {A = List ℕ} (λ id. id) r (there_or Id (sifted test o))
says_all_refused test o r fault is h = subst (λ (x : Result (List ℕ) RequestFault). Says (λ id. id) x (there_or Id (sifted test o))) (sym is) (says_refused test o fault h)

tested : (b : Bool) (id : List ℕ) → b ≡ true → text_if b id ≡ Some id
tested true id e = refl
tested false id e = absurd cc

untested : (b : Bool) (id : List ℕ) → b ≡ false → text_if b id ≡ None
untested true id e = absurd cc
untested false id e = refl

pub sifted_in : (test : List ℕ → Bool) (o : Option (List ℕ)) (id : List ℕ) → there_or Id o ≡ Ok id → test id ≡ true → there_or Id (sifted test o) ≡ Ok id
sifted_in test None id e h = absurd cc
sifted_in test (Some a) id e h =
    let same : a ≡ id = cc in
    ap (λ (x : List ℕ). there_or Id (text_if (test x) x)) same ∙ ap (there_or Id) (tested (test id) id h)

pub sifted_out : (test : List ℕ → Bool) (o : Option (List ℕ)) (id : List ℕ) → there_or Id o ≡ Ok id → test id ≡ false → there_or Id (sifted test o) ≡ Err Id
sifted_out test None id e h = absurd cc
sifted_out test (Some a) id e h =
    let same : a ≡ id = cc in
    ap (λ (x : List ℕ). there_or Id (text_if (test x) x)) same ∙ ap (there_or Id) (untested (test id) id h)
