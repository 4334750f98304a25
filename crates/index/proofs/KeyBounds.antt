-- The bounds of bytes at which cuts lie.
use Rattle.index.proofs.Common.{Err, IfOk, List, None, Ok, Option, Result, Some, [], ap, arith, false, length, refl, sym, take, true, ℕ, ◌++◌, ◌∙◌, ◌∷◌, ◌≡◌}
use Rattle.std.proofs.Common.{append_assoc, ◌-◌}
use Rattle.std.proofs.Math.Seq.{take-append_seam}
use Rattle.std.proofs.lemmas.List.{length-append}
use Rattle.couch_json.proofs.KeyCuts.{above-bound_above_all, above-bound_after, above-bound_after_prefix, above-bound_before, above-bound_below_all}
use Rattle.couch_json.specs.Key.{items_key, key}
use Rattle.couch_json.specs.KeyCuts as cuts
use Rattle.couch_json.specs.KeyCuts.{bound_after_prefix, lies_above_cut}
use Rattle.couch_json.specs.Lawful.{IsLawful}
use Rattle.couch_json.specs.Parts.{items_in}
use Rattle.couch_json.specs.Value.{Items, Value, array, item, no_items, null, object, text, truth, whole}
use Rattle.std.specs.Prelude.{is_some, option_map}
use Rattle.store.specs.KeyPages.{lies_above}
use Rattle.store.specs.declared.index_page.CutSide.TheVariants.{After, AfterPrefix, Before}

-- the bound of a cut on each side of a key
pub bound_before : (k v : Value) (bound : List ℕ) → bound ≡ key k → IsLawful k → IsLawful v → lies_above_cut bound (key v) ≡ lies_above Before k v
bound_before k v bound is lawful own = ap (λ b. lies_above_cut b (key v)) is ∙ above-bound_before v k own lawful

pub bound_after : (k v : Value) (bound : List ℕ) → bound ≡ key k ++ 0 ∷ [] → IsLawful k → IsLawful v → lies_above_cut bound (key v) ≡ lies_above After k v
bound_after k v bound is lawful own = ap (λ b. lies_above_cut b (key v)) is ∙ above-bound_after v k own lawful

pub bound_behind : (k v : Value) (bound : List ℕ) → bound ≡ bound_after_prefix k → IsLawful k → IsLawful v → lies_above_cut bound (key v) ≡ lies_above AfterPrefix k v
bound_behind k v bound is lawful own = ap (λ b. lies_above_cut b (key v)) is ∙ above-bound_after_prefix v k own lawful

-- where nothing is cut off
pub none_below : (v : Value) (bound : List ℕ) → bound ≡ [] → lies_above_cut bound (key v) ≡ true
none_below v bound is = ap (λ b. lies_above_cut b (key v)) is ∙ above-bound_below_all v

pub none_above : (v : Value) (bound : List ℕ) → bound ≡ 8 ∷ [] → lies_above_cut bound (key v) ≡ false
none_above v bound is = ap (λ b. lies_above_cut b (key v)) is ∙ above-bound_above_all v

-- ---- an array's key ends in a byte 0, and the bound behind all arrays that begin with it has 8 in its place

items_end : (us : Items) → items_key us ≡ cuts.items_front us ++ 0 ∷ []
items_end no_items = refl
items_end (item u us) = ap (λ bytes. key u ++ bytes) (items_end us) ∙ sym (append_assoc (key u) (cuts.items_front us) (0 ∷ []))

without_last : (xs : List ℕ) (x : ℕ) (all : List ℕ) → all ≡ xs ++ x ∷ [] → take (length all - 1) all ≡ xs
without_last xs x all is =
    let long : length all - 1 ≡ length xs = omega (arith, ap length is, length-append xs (x ∷ [])) in
    ap (λ n. take n all) long ∙ ap (take (length xs)) is ∙ take-append_seam xs (x ∷ [])

pub prefix_passed : (us : Items) (old popped new : List ℕ) → old ≡ key (array us) → popped ≡ take (length old - 1) old → new ≡ popped ++ 8 ∷ [] → new ≡ bound_after_prefix (array us)
prefix_passed us old popped new is cut made =
    made ∙ ap (λ bytes. bytes ++ 8 ∷ []) (cut ∙ without_last (6 ∷ cuts.items_front us) 0 old (is ∙ ap (λ bytes. 6 ∷ bytes) (items_end us)))

-- a value with elements is their array
array_of : (v : Value) (vs : Items) → items_in v ≡ Some vs → v ≡ array vs
array_of null vs e = absurd (cc)
array_of (truth b) vs e = absurd (cc)
array_of (whole n) vs e = absurd (cc)
array_of (text s) vs e = absurd (cc)
array_of (array ws) vs e = let same : ws ≡ vs = cc in ap array same
array_of (object ms) vs e = absurd (cc)

pub behind_array : (v : Value) (o : Option Items) (old popped new : List ℕ) → items_in v ≡ o → is_some o ≡ true → old ≡ key v → popped ≡ take (length old - 1) old → new ≡ popped ++ 8 ∷ [] → new ≡ bound_after_prefix v
behind_array v None old popped new has some is cut made = absurd (cc)
behind_array v (Some vs) old popped new has some is cut made =
    let own = array_of v vs has in
    prefix_passed vs old popped new (is ∙ ap key own) cut made ∙ sym (ap bound_after_prefix own)

pub behind_other : (v : Value) (old new : List ℕ) → is_some (items_in v) ≡ false → old ≡ key v → new ≡ old ++ 0 ∷ [] → new ≡ bound_after_prefix v
behind_other v old new none is made = made ∙ ap (λ l. l ++ 0 ∷ []) is ∙ by v none
  where
    by : (w : Value) → is_some (items_in w) ≡ false → key w ++ 0 ∷ [] ≡ bound_after_prefix w
    by null e = refl
    by (truth b) e = refl
    by (whole n) e = refl
    by (text s) e = refl
    by (array ws) e = absurd (cc)
    by (object ms) e = refl

pub some_of : {A B : Type 0} (o : Option A) (f : A → B) → is_some o ≡ true → is_some (option_map f o) ≡ true
some_of None f e = absurd (cc)
some_of (Some x) f e = refl

-- what is so of an answer
pub any_ok : {X E : Type 0} {P Q : X → Type 0} (r : Result X E) → ((x : X) → P x → Q x) → IfOk r P → IfOk r Q
any_ok (Ok x) weaker p = weaker x p
any_ok (Err e) weaker p = tt
