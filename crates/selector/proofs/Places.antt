-- The places of selectors in their list, and what decides a list at them.
use Rattle.std.proofs.Common.{◌≡◌, ℕ, zero, suc, ◌<◌, ◌≤◌, List, [], ◌∷◌, ◌++◌, Bool, true, false, ◌||◌, ◌&&◌, Option, Some, None, Bor, take, length, refl, sym, ap, ap₂, ◌∙◌, arith}
use Rattle.std.specs.Prelude.{option_copied, slice_get}
use Rattle.std.specs.List.{HoldsAt, list_any}
use Rattle.std.specs.Slice.{IsItemAt}
use Rattle.couch_json.specs.Parts.{is_there_and}
use Rattle.couch_json.specs.Value.{Value}
use Rattle.selector.specs.Lookup.{group_decides, some_group_decides, some_place_has}
use Rattle.selector.specs.declared.lookup.Group.{Group}
use Rattle.selector.proofs.Decided.{or_assoc, or_crossed, or_false, or_turned}

-- ---- the loop over places

pub places-begun : (decides : ℕ → Bool) (walked : List ℕ) (drafts all : Bool) → walked ≡ [] → drafts ≡ false → all ≡ (drafts || list_any decides walked) || all
places-begun decides walked drafts all empty none = ap₂ (λ b ps. (b || list_any decides ps) || all) (sym none) (sym empty)

-- all the places pass, by what was found of some and what is left; one of those that are left is added
pub places-next : (test : Value → Bool) (selectors : List Value) (places left rest : List ℕ) (this : ℕ) (before after : Bool) → left ≡ this ∷ rest
    → some_place_has test selectors places ≡ before || some_place_has test selectors left
    → after ≡ is_there_and test (slice_get selectors this) || before
    → some_place_has test selectors places ≡ after || some_place_has test selectors rest
places-next test selectors places left rest this before after steps so_far added =
    so_far ∙ ap (λ ps. before || some_place_has test selectors ps) steps
    ∙ or_crossed before (is_there_and test (slice_get selectors this)) (some_place_has test selectors rest)
    ∙ ap (λ b. b || some_place_has test selectors rest) (sym added)

pub places-done : (test : Value → Bool) (selectors : List Value) (places left : List ℕ) (before groups walked : Bool) → left ≡ []
    → some_place_has test selectors places ≡ (before || walked) || some_place_has test selectors left
    → groups ≡ before → groups || walked ≡ some_place_has test selectors places
places-done test selectors places left before groups walked none so_far same =
    ap (λ b. b || walked) same ∙ or_false (before || walked) ∙ sym (so_far ∙ ap (λ ps. (before || walked) || some_place_has test selectors ps) none)

-- a selector more in the drafts
pub drafts_more : (now before walked this added : Bool) → now ≡ (added && this) || before → added ≡ true → now || walked ≡ this || (before || walked)
drafts_more now before walked this added is holds =
    ap (λ b. b || walked) (is ∙ ap (λ a. (a && this) || before) holds) ∙ sym (or_assoc this before walked)

-- in the group that is open
pub open_more : (now added draft groups before : Bool) → now ≡ added || draft → draft || groups ≡ before → now || groups ≡ added || before
open_more now added draft groups before is same =
    ap (λ b. b || groups) is ∙ sym (or_assoc added draft groups) ∙ ap (λ b. added || b) same

-- a group more
pub group_more : (groups : List Group) (group : Group) (current : Option Value)
    → some_group_decides (groups ++ group ∷ []) current ≡ group_decides group current || some_group_decides groups current
group_more [] group current = refl
group_more (g ∷ gs) group current =
    ap (λ b. group_decides g current || b) (group_more gs group current)
    ∙ or_crossed (group_decides g current) (group_decides group current) (some_group_decides gs current)
    ∙ sym (or_assoc (group_decides group current) (group_decides g current) (some_group_decides gs current))

-- the group that was open has ended
pub ended : (groups after : List Group) (group : Group) (opened before : Bool) (current : Option Value) → after ≡ groups ++ group ∷ [] → opened ≡ false
    → group_decides group current ≡ before → opened || some_group_decides after current ≡ before || some_group_decides groups current
ended groups after group opened before current is none same =
    ap₂ (λ b gs. b || some_group_decides gs current) none is ∙ group_more groups group current ∙ ap (λ b. b || some_group_decides groups current) same

-- a place more among those that are asked
pub walked_more : (decides : ℕ → Bool) (before after : List ℕ) (at : ℕ) (drafts now : Bool) → after ≡ before ++ at ∷ [] → now ≡ drafts
    → now || list_any decides after ≡ decides at || (drafts || list_any decides before)
walked_more decides before after at drafts now is same =
    ap₂ (λ b ps. b || list_any decides ps) same is ∙ ap (λ b. drafts || b) (walked before)
    ∙ turn drafts (list_any decides before) (decides at)
  where
    walked : (ps : List ℕ) → list_any decides (ps ++ at ∷ []) ≡ list_any decides ps || decides at
    walked [] = sym (or_false (decides at))
    walked (p ∷ ps) = ap (λ b. decides p || b) (walked ps) ∙ or_assoc (decides p) (list_any decides ps) (decides at)

    turn : (a b c : Bool) → a || (b || c) ≡ c || (a || b)
    turn true true true = refl
    turn true true false = refl
    turn true false true = refl
    turn true false false = refl
    turn false b c = or_turned b c

-- ---- the places of all selectors

pub place-next : (test : Value → Bool) (selectors : List Value) (n : ℕ)
    → list_any test (take n selectors) || is_there_and test (slice_get selectors n) ≡ list_any test (take (suc n) selectors)
place-next test [] zero = refl
place-next test [] (suc n) = refl
place-next test (s ∷ ss) zero = or_false (test s)
place-next test (s ∷ ss) (suc n) =
    sym (or_assoc (test s) (list_any test (take n ss)) (is_there_and test (slice_get ss n))) ∙ ap (λ b. test s || b) (place-next test ss n)

pub place-pushed : (test : Value → Bool) (selectors : List Value) (places : List ℕ) (this : ℕ)
    → some_place_has test selectors (places ++ this ∷ []) ≡ some_place_has test selectors places || is_there_and test (slice_get selectors this)
place-pushed test selectors [] this = sym (or_false (is_there_and test (slice_get selectors this)))
place-pushed test selectors (p ∷ ps) this =
    ap (λ b. is_there_and test (slice_get selectors p) || b) (place-pushed test selectors ps this)
    ∙ or_assoc (is_there_and test (slice_get selectors p)) (some_place_has test selectors ps) (is_there_and test (slice_get selectors this))

-- ---- the selector at a place

past : {X : Type 0} (xs : List X) (i : ℕ) → length xs ≤ i → slice_get xs i ≡ None
past [] i le = refl
past (x ∷ xs) zero le = absurd (omega (arith, le))
past (x ∷ xs) (suc i) le = past xs i (omega (arith, le))

here : {X : Type 0} (xs : List X) (i : ℕ) (y : X) → i < length xs → HoldsAt (λ z. y ≡ z) xs i → Some y ≡ slice_get xs i
here [] i y lt is = absurd (omega (arith, lt))
here (x ∷ xs) zero y lt is = ap Some (is x)
here (x ∷ xs) (suc i) y lt is = here xs i y (omega (arith, lt)) (λ d. is d)

pub item_get : {X : Type 0} (xs : List X) (i : ℕ) (r : Option (Bor X)) → IsItemAt xs i r → option_copied r ≡ slice_get xs i
item_get xs i None is = sym (past xs i is.3)
item_get xs i (Some x) is = here xs i x.now is.3.0 is.3.1
