-- Each id of a design document lies between the ends of their range.
use Rattle.std.proofs.Common.{◌≡◌, ℕ, true, false, not, ◌||◌, nat_eq, List, [], ◌∷◌, ◌++◌, Option, Some, eqb-true, refl, sym, ◌∙◌}
use Rattle.std.specs.Prelude.{codes}
use Rattle.std.specs.List.{starts_with}
use Rattle.std.specs.Cmp.{first_so, second_so}
use Rattle.tree.specs.DocumentId.{is_design_id}
use Rattle.store.specs.Pages.{is_after_end_of, is_before_start_of}

pub behind : (prefix text : List ℕ) → starts_with nat_eq text prefix ≡ true → (rest : List ℕ) × (text ≡ prefix ++ rest)
behind [] text h = (text, refl)
behind (p ∷ prefix) [] h = cc
behind (p ∷ prefix) (t ∷ text) h =
    let more = behind prefix text (second_so (nat_eq p t) _ h) in
    let first : t ≡ p = sym (eqb-true p t (first_so (nat_eq p t) _ h)) in
    (more.0, λ i. first i ∷ more.1 i)

prefixed_within : (rest : List ℕ) → not (is_before_start_of false (Some (codes "_design/")) (codes "_design/" ++ rest) || is_after_end_of false false (Some (codes "_design0")) (codes "_design/" ++ rest)) ≡ true
prefixed_within [] = refl
prefixed_within (b ∷ bs) = refl

pub design_within : (start end : Option (List ℕ)) (id : List ℕ) → start ≡ Some (codes "_design/") → end ≡ Some (codes "_design0") → is_design_id id ≡ true → not (is_before_start_of false start id || is_after_end_of false false end id) ≡ true
design_within start end id s e h =
    let b = behind (codes "_design/") id (first_so _ _ h) in
    (λ i. not (is_before_start_of false (s i) (b.1 i) || is_after_end_of false false (e i) (b.1 i))) ∙ prefixed_within b.0
