-- Ids that are taken chunk by chunk give what all of them give.
use Rattle.std.proofs.Common.{◌≡◌, ℕ, zero, suc, ◌+◌, ◌<◌, Bool, true, false, List, [], ◌∷◌, ◌++◌, drop, length, take, refl, sym, ap, subst, ◌∙◌, append-nil, arith}
use Rattle.std.proofs.Math.Seq.{drop-nil, take-nil}
use Rattle.std.proofs.lemmas.Bool.Decides.{nat_tests}
use Rattle.std.proofs.lemmas.List.{drop-drop, take-append-drop}
use Rattle.std.specs.Prelude.{nat_lt}
use Rattle.couch_json.specs.Value.{Value}
use Rattle.find.specs.inner.Matching.{completion}
use Rattle.find.specs.inner.Sources.{ids_unless}
use Rattle.find.specs.declared.part.Part.{Part}

-- ---- one chunk

is_less : (m n : ℕ) → nat_lt m n ≡ true → m < n
is_less m n h = grind (arith, nat_tests, h)

short : {X : Type 0} (n : ℕ) (xs : List X) → length (take n xs) < n → drop n xs ≡ []
short zero xs lt = absurd (omega (arith, lt))
short (suc n) [] lt = refl
short (suc n) (x ∷ xs) lt = short n xs (omega (arith, lt))

-- a chunk, and what is left behind it: nothing where it is short
pub chunk_taken : (all ids : List (List ℕ)) (taken most : ℕ) (done : Bool) → ids ≡ take most (drop taken all) → nat_lt (length ids) most ≡ done
    → drop taken all ≡ ids ++ ids_unless done (drop (taken + most) all)
chunk_taken all ids taken most true is few =
    let none = short most (drop taken all) (subst (λ xs. length xs < most) is (is_less (length ids) most few)) in
    sym (take-append-drop most (drop taken all)) ∙ (λ i. sym is i ++ none i)
chunk_taken all ids taken most false is many =
    sym (take-append-drop most (drop taken all)) ∙ (λ i. sym is i ++ drop-drop most taken all i)

-- ---- no more chunks

pub none_left : (part : Part) → completion part [] ≡ part.documents
none_left part =
    (λ i. part.documents ++ take part.limit (drop-nil {A = Value} part.skip i)) ∙ ap (λ vs. part.documents ++ vs) (take-nil {A = Value} part.limit)
    ∙ append-nil part.documents
