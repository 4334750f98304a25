-- Places in lists: of nodes and of passes.
use Rattle.std.proofs.Common.{◌≡◌, ◌≢◌, ℕ, zero, suc, List, [], ◌∷◌, ◌++◌, length, Option, Some, refl, ap, arith}
use Rattle.std.specs.Prelude.{slice_set}
use Rattle.std.specs.List.{slice_get}
use Rattle.std.proofs.lemmas.Grind.{common_steps}
use Rattle.std.proofs.lemmas.Option.{gets}
use Rattle.world.specs.Network.{Transfer, transfer_at, with_transfer}

pub set_here : {A : Type 0} (xs : List A) (i : ℕ) (x y : A) → slice_get xs i ≡ Some x → slice_get (slice_set xs i y) i ≡ Some y
set_here xs i x y e = grind (arith, common_steps, gets)

pub set_elsewhere : {A : Type 0} (xs : List A) (i j : ℕ) (y : A) → j ≢ i → slice_get (slice_set xs i y) j ≡ slice_get xs j
set_elsewhere xs i j y apart = grind (arith, common_steps, gets)

pub got_before : {A : Type 0} (xs ys : List A) (i : ℕ) (x : A) → slice_get xs i ≡ Some x → slice_get (xs ++ ys) i ≡ Some x
got_before [] ys i x e = absurd cc
got_before (z ∷ xs) ys zero x e = e
got_before (z ∷ xs) ys (suc i) x e = got_before xs ys i x e

pub got_last : {A : Type 0} (xs : List A) (x : A) → slice_get (xs ++ x ∷ []) (length xs) ≡ Some x
got_last [] x = refl
got_last (z ∷ xs) x = got_last xs x

pub set_before : {A : Type 0} (xs ys : List A) (i : ℕ) (x y : A) → slice_get xs i ≡ Some x → slice_set (xs ++ ys) i y ≡ slice_set xs i y ++ ys
set_before [] ys i x y e = absurd cc
set_before (z ∷ xs) ys zero x y e = refl
set_before (z ∷ xs) ys (suc i) x y e = ap (λ zs. z ∷ zs) (set_before xs ys i x y e)

-- ---- passes

pub passed_here : (ts : List Transfer) (n : ℕ) (t u : Transfer) → transfer_at ts n ≡ Some t → transfer_at (with_transfer ts n u) n ≡ Some u
passed_here ts zero t u e = absurd cc
passed_here ts (suc k) t u e = set_here ts k t u e

pub passed_elsewhere : (ts : List Transfer) (m n : ℕ) (u : Transfer) → n ≢ m → transfer_at (with_transfer ts m u) n ≡ transfer_at ts n
passed_elsewhere ts zero n u apart = refl
passed_elsewhere ts (suc k) zero u apart = refl
passed_elsewhere ts (suc k) (suc n) u apart = set_elsewhere ts k n u (λ e. apart (ap suc e))

pub one_transfer : (a b : Transfer) → (let x : Option Transfer = Some a in x) ≡ Some b → a ≡ b
one_transfer a b e = cc
