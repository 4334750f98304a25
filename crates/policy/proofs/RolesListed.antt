-- Whether one of the roles is among texts, asked text by text.
use Rattle.std.proofs.Common.{◌≡◌, ℕ, ◌||◌, Bool, true, false, List, [], ◌∷◌, ◌++◌, bytes_eq, refl, sym, ap, ◌∙◌}
use Rattle.std.specs.List.{list_any}
use Rattle.std.proofs.lemmas.Slice.Eq.{bytes_eq-Decides}
use Rattle.auth.specs.Roles.{is_among}

-- one of the roles is among the texts
abbrev pub any_among : List (List ℕ) → List (List ℕ) → Bool
any_among texts roles = list_any (λ role. is_among role texts) roles

or_assoc : (a b c : Bool) → a || (b || c) ≡ (a || b) || c
or_assoc true b c = refl
or_assoc false b c = refl

or_crossed : (a b c d : Bool) → (a || b) || (c || d) ≡ (a || c) || (b || d)
or_crossed true b c d = refl
or_crossed false true true d = refl
or_crossed false true false d = refl
or_crossed false false c d = refl

or_false : (b : Bool) → b || false ≡ b
or_false true = refl
or_false false = refl

both_ways : (a b : Bool) → (a ≡ true → b ≡ true) → (b ≡ true → a ≡ true) → a ≡ b
both_ways true b f g = sym (f refl)
both_ways false true f g = g refl
both_ways false false f g = refl

-- two texts are the same, whichever is asked for
bytes_eq-turned : (xs ys : List ℕ) → bytes_eq xs ys ≡ bytes_eq ys xs
bytes_eq-turned xs ys =
    both_ways (bytes_eq xs ys) (bytes_eq ys xs)
    (λ e. (bytes_eq-Decides ys xs).1 (sym ((bytes_eq-Decides xs ys).0 e)))
    (λ e. (bytes_eq-Decides xs ys).1 (sym ((bytes_eq-Decides ys xs).0 e)))

pub none_among : (roles : List (List ℕ)) → any_among [] roles ≡ false
none_among [] = refl
none_among (r ∷ rs) = none_among rs

among-append : (role : List ℕ) (xs ys : List (List ℕ)) → is_among role (xs ++ ys) ≡ is_among role xs || is_among role ys
among-append role [] ys = refl
among-append role (x ∷ xs) ys = ap (λ b. bytes_eq x role || b) (among-append role xs ys) ∙ or_assoc (bytes_eq x role) (is_among role xs) (is_among role ys)

pub any-append : (xs ys roles : List (List ℕ)) → any_among (xs ++ ys) roles ≡ any_among xs roles || any_among ys roles
any-append xs ys [] = refl
any-append xs ys (r ∷ rs) =
    (λ i. among-append r xs ys i || any-append xs ys rs i) ∙ or_crossed (is_among r xs) (is_among r ys) (any_among xs rs) (any_among ys rs)

pub one_among : (text : List ℕ) (roles : List (List ℕ)) → any_among (text ∷ []) roles ≡ is_among text roles
one_among text [] = refl
one_among text (r ∷ rs) = λ i. (or_false (bytes_eq text r) ∙ bytes_eq-turned text r) i || one_among text rs i

-- ---- a step of the loop over the texts

pub role-found : (one rest texts all roles : List (List ℕ)) (found : Bool) → found ≡ any_among one roles → found ≡ true → texts ≡ one ++ rest
    → any_among texts roles ≡ any_among all roles → true ≡ any_among all roles
role-found one rest texts all roles found is here steps left =
    sym (ap (λ b. b || any_among rest roles) (sym is ∙ here)) ∙ sym (any-append one rest roles) ∙ ap (λ ts. any_among ts roles) (sym steps) ∙ left

pub role-missed : (one rest texts all roles : List (List ℕ)) (found : Bool) → found ≡ any_among one roles → found ≡ false → texts ≡ one ++ rest
    → any_among texts roles ≡ any_among all roles → any_among rest roles ≡ any_among all roles
role-missed one rest texts all roles found is here steps left =
    sym (ap (λ b. b || any_among rest roles) (sym is ∙ here)) ∙ sym (any-append one rest roles) ∙ ap (λ ts. any_among ts roles) (sym steps) ∙ left
