-- The roles of pieces that are taken one at a time.
use Rattle.std.proofs.Common.{◌≡◌, ◌||◌, ℕ, ◌==◌, Bool, true, false, not, bytes_eq, cond, List, [], ◌∷◌, ◌++◌, length, map, refl, sym, ◌∙◌, ap, String, Global}
use Rattle.std.specs.BTreeSet.{BTreeSet, contains_text}
use Rattle.std.specs.List.{filter}
use Rattle.std.proofs.lemmas.List.{map-append}
use Rattle.std.proofs.lemmas.List.Elements.{filter-append}
use Rattle.auth.specs.Roles.{is_among, without_blanks}

-- the roles of some pieces: what they are when trimmed, without what is empty
abbrev pub roles_of_pieces : List (List ℕ) → List (List ℕ)
roles_of_pieces pieces = filter (λ role. not (length role == 0)) (map without_blanks pieces)

append_empty : (xs : List (List ℕ)) → xs ≡ xs ++ []
append_empty [] = refl
append_empty (x ∷ xs) = ap (λ t. x ∷ t) (append_empty xs)

added : (is_empty : Bool) (before : List (List ℕ)) (role : List ℕ) → cond is_empty before (before ++ role ∷ []) ≡ before ++ cond (not is_empty) (role ∷ []) []
added true before role = append_empty before
added false before role = refl

pub roles_of_pieces-push : (pieces : List (List ℕ)) (piece role : List ℕ) (before after : List (List ℕ)) → before ≡ roles_of_pieces pieces → role ≡ without_blanks piece → after ≡ cond (length role == 0) before (before ++ role ∷ []) → after ≡ roles_of_pieces (pieces ++ piece ∷ [])
roles_of_pieces-push pieces piece role before after so_far is pushed =
    let one = λ (r : List ℕ). cond (not (length r == 0)) (r ∷ []) [] in
    let parts = ap (filter (λ r. not (length r == 0))) (map-append without_blanks pieces (piece ∷ []))
    ∙ filter-append (λ r. not (length r == 0)) (map without_blanks pieces) (without_blanks piece ∷ []) in
    pushed ∙ (added (length role == 0) before role ∙ (ap (λ b. b ++ one role) so_far
    ∙ (ap (λ r. roles_of_pieces pieces ++ one r) is ∙ sym parts)))

-- one role more in the set is one fewer to come
pub HasRoles-step : (known more : BTreeSet (String Global)) (role : List ℕ) (left all : List (List ℕ))
    → ((q : List ℕ) → contains_text more q ≡ cond (bytes_eq role q) true (contains_text known q))
    → ((q : List ℕ) → contains_text known q || is_among q (role ∷ left) ≡ is_among q all)
    → (q : List ℕ) → contains_text more q || is_among q left ≡ is_among q all
HasRoles-step known more role left all put before q = ap (λ b. b || is_among q left) (put q) ∙ moved (bytes_eq role q) (contains_text known q) (is_among q left) ∙ before q
  where
    moved : (a b c : Bool) → cond a true b || c ≡ b || (a || c)
    moved true true c = refl
    moved true false c = refl
    moved false b c = refl
