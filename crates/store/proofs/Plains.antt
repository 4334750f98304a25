-- A list of named databases beside the map that it stands for.
use Rattle.std.proofs.Common.{◌≡◌, ℕ, zero, suc, ◌+◌, ◌<◌, List, [], ◌∷◌, ◌++◌, length, get_or, set, Bool, true, false, cond, Option, Some, None, Result, Ok, Err, OnErr, OnOk, is_some, option_map, nat_cmp, not, filter, map as list_map, refl, sym, ap, ◌∙◌, subst, arith}
use Rattle.std.proofs.lemmas.Bool.{false≢true}
use Rattle.std.proofs.lemmas.Cmp.{nat_list_cmp_total}
use Rattle.std.proofs.lemmas.Map.Text.{is_eq-slice_cmp}
use Rattle.std.proofs.lemmas.Slice.Eq.{bytes_eq-Decides}
use Rattle.std.specs.Cmp.Lexicographic.{slice_cmp}
use Rattle.std.specs.Cmp.{eq_by_cmp_equiv}
use Rattle.std.specs.Ordering.{eq_by_cmp}
use Rattle.std.specs.FinMap as map
use Rattle.std.specs.FinMap.{find, slice_cmp-IsAntisymmetric, nat_cmp-IsAntisymmetric}
use Rattle.std.specs.FinMap.Entries.{where_key, find-where_key}
use Rattle.store.specs.Database.{Database}
use Rattle.store.specs.declared.plain.PlainDatabase.{PlainDatabase}
use Rattle.store.specs.Plain.{Named, content, database_entries, contents_of, place_from, keys_put}
use Rattle.store.proofs.Orders.{same_keys_put}

abbrev eq : List ℕ → List ℕ → Bool
eq = eq_by_cmp (slice_cmp nat_cmp)

abbrev lookup : List ℕ → List Named → Option Database
lookup name es = find (slice_cmp nat_cmp) name (database_entries es)

pub get-contents_of : (es : List Named) (name : List ℕ) → map.get (contents_of es) name ≡ lookup name es
get-contents_of es name = map.get-from_entries nat_list_cmp_total (database_entries es) name

-- ---- the first place of a name

-- a database of this name stands at i, and none before
abbrev IsFirst : List Named → List ℕ → ℕ → Type 0
IsFirst [] name i = ⊥
IsFirst (e ∷ es) name zero = eq name e.0 ≡ true
IsFirst (e ∷ es) name (suc i) = (eq name e.0 ≡ false) × IsFirst es name i

abbrev Found : ℕ → List ℕ → List Named → ℕ → Type 0
Found n name es at = (i : ℕ) × (at ≡ n + i) × IsFirst es name i

first_or_later : (b : Bool) (n at : ℕ) (name : List ℕ) (e : Named) (es : List Named) → eq name e.0 ≡ b → (place_from (n + 1) name es ≡ Some at → Found (n + 1) name es at)
    → cond b (Some n) (place_from (n + 1) name es) ≡ Some at → Found n name (e ∷ es) at
first_or_later true n at name e es is later h = let here : n ≡ at = cc in (0, omega arith, is)
first_or_later false n at name e es is later h = let found = later h in (suc found.0, omega (arith, found.1), (is, found.2))

found_from : (es : List Named) (n at : ℕ) (name : List ℕ) → place_from n name es ≡ Some at → Found n name es at
found_from [] n at name h = absurd (cc)
found_from (e ∷ es) n at name h = first_or_later _ n at name e es refl (found_from es (n + 1) at name) h

pub is_first : (es : List Named) (at : ℕ) (name : List ℕ) → place_from 0 name es ≡ Some at → IsFirst es name at
is_first es at name h = let found = found_from es 0 at name h in let same : found.0 ≡ at = omega (arith, found.1) in subst (IsFirst es name) same found.2

none_or_later : (b : Bool) (n : ℕ) (name : List ℕ) (e : Named) (es : List Named) → eq name e.0 ≡ b → (place_from (n + 1) name es ≡ None → lookup name es ≡ None)
    → cond b (Some n) (place_from (n + 1) name es) ≡ None → cond b (Some (content e.1)) (lookup name es) ≡ None
none_or_later true n name e es is later h = absurd (cc)
none_or_later false n name e es is later h = later h

pub not_found : (es : List Named) (n : ℕ) (name : List ℕ) → place_from n name es ≡ None → lookup name es ≡ None
not_found [] n name h = refl
not_found (e ∷ es) n name h = none_or_later _ n name e es refl (not_found es (n + 1) name) h

pub place_within : (es : List Named) (at : ℕ) (name : List ℕ) → IsFirst es name at → at < length es
place_within [] at name h = absurd h
place_within (e ∷ es) zero name h = omega arith
place_within (e ∷ es) (suc at) name h = let more = place_within es at name h.1 in omega arith

pub looked_up : (es : List Named) (at : ℕ) (name : List ℕ) (d : Named) → IsFirst es name at → lookup name es ≡ Some (content (get_or es at d).1)
looked_up [] at name d h = absurd h
looked_up (e ∷ es) zero name d h = rw h
looked_up (e ∷ es) (suc at) name d h = rw h.0 (looked_up es at name d h.1)

some_database : (es : List Named) (at : ℕ) (name : List ℕ) → IsFirst es name at → (db : Database) × (lookup name es ≡ Some db)
some_database [] at name h = absurd h
some_database (e ∷ es) zero name h = (content e.1, rw h)
some_database (e ∷ es) (suc at) name h = let more = some_database es at name h.1 in (more.0, rw h.0 more.1)

-- where a place is, there is a database
pub there : (es : List Named) (name : List ℕ) (place : Option ℕ) → place ≡ place_from 0 name es → is_some place ≡ true → is_some (map.get (contents_of es) name) ≡ true
there es name None is h = absurd (false≢true h)
there es name (Some at) is h = ap is_some (get-contents_of es name ∙ (some_database es at name (is_first es at name (sym is))).1)

same_text : (a b : List ℕ) → eq a b ≡ true → a ≡ b
same_text a b h = (bytes_eq-Decides a b).0 (sym (is_eq-slice_cmp a b) ∙ h)

apart : (q a name : List ℕ) → eq q a ≡ true → eq name a ≡ false → eq q name ≡ false
apart q a name same other = ap (λ k. eq k name) (same_text q a same) ∙ (eq_by_cmp_equiv nat_list_cmp_total).symm a name ∙ other

pub named_at : (es : List Named) (at : ℕ) (name : List ℕ) (d : Named) → IsFirst es name at → name ≡ (get_or es at d).0
named_at [] at name d h = absurd h
named_at (e ∷ es) zero name d h = same_text name e.0 h
named_at (e ∷ es) (suc at) name d h = named_at es at name d h.1

-- ---- a database put in the place of another

put_here : (b : Bool) (x y o : Option Database) → cond b x o ≡ cond b x (cond b y o)
put_here true x y o = refl
put_here false x y o = refl

put_later : (q : List ℕ) (e : Named) (es : List Named) (name : List ℕ) (x o p : Option Database) (b : Bool) → eq q e.0 ≡ b → eq name e.0 ≡ false → p ≡ cond (eq q name) x o
    → cond b (Some (content e.1)) p ≡ cond (eq q name) x (cond b (Some (content e.1)) o)
put_later q e es name x o p true is other later = rw (apart q e.0 name is other)
put_later q e es name x o p false is other later = later

replaced : (es : List Named) (at : ℕ) (name : List ℕ) (d : PlainDatabase) (q : List ℕ) → IsFirst es name at
    → lookup q (set es at (name, d)) ≡ cond (eq q name) (Some (content d)) (lookup q es)
replaced [] at name d q h = absurd h
replaced (e ∷ es) zero name d q h =
    let same : e.0 ≡ name = sym (same_text name e.0 h) in
    put_here (eq q name) (Some (content d)) (Some (content e.1)) (lookup q es) ∙ ap (λ k. cond (eq q name) (Some (content d)) (cond (eq q k) (Some (content e.1)) (lookup q es))) (sym same)
replaced (e ∷ es) (suc at) name d q h = put_later q e es name (Some (content d)) (lookup q es) _ (eq q e.0) refl h.0 (replaced es at name d q h.1)

pub exact : map.IsAntisymmetric (slice_cmp nat_cmp)
exact = slice_cmp-IsAntisymmetric nat_cmp-IsAntisymmetric

pub contents_of-set : (es : List Named) (at : ℕ) (name : List ℕ) (d : PlainDatabase) → IsFirst es name at
    → contents_of (set es at (name, d)) ≡ map.insert (contents_of es) name (content d)
contents_of-set es at name d h =
    map.same_map nat_list_cmp_total exact _ _
    (λ q. get-contents_of (set es at (name, d)) q ∙ replaced es at name d q h
    ∙ sym (map.get-insert nat_list_cmp_total (contents_of es) name (content d) q ∙ ap (λ o. cond (eq q name) (Some (content d)) o) (get-contents_of es q)))

-- the database of the name changes, and no other
pub changed_at : (es : List Named) (at : ℕ) (name : List ℕ) (e : Named) (d : PlainDatabase) (change : Database → Database) → place_from 0 name es ≡ Some at → e ≡ get_or es at e
    → content d ≡ change (content e.1)
    → option_map (λ db. map.insert (contents_of es) name (change db)) (map.get (contents_of es) name) ≡ Some (contents_of (set es at (e.0, d)))
changed_at es at name e d change place is made =
    let first = is_first es at name place in
    let there = get-contents_of es name ∙ looked_up es at name e first ∙ ap (λ f. Some (content f.1)) (sym is) in
    let named = named_at es at name e first ∙ ap (λ f. f.0) (sym is) in
    ap (option_map (λ db. map.insert (contents_of es) name (change db))) there
    ∙ ap Some (ap (map.insert (contents_of es) name) (sym made) ∙ sym (contents_of-set es at name d first) ∙ ap (λ n. contents_of (set es at (n, d))) named)

-- a database of the same content changes nothing
pub unchanged_at : (es : List Named) (at : ℕ) (e : Named) (d : PlainDatabase) → e ≡ get_or es at e → content d ≡ content e.1 → database_entries (set es at (e.0, d)) ≡ database_entries es
unchanged_at [] at e d is same = refl
unchanged_at (f ∷ es) zero e d is same = ap (λ c. (e.0, c) ∷ database_entries es) same ∙ ap (λ g. (g.0, content g.1) ∷ database_entries es) is
unchanged_at (f ∷ es) (suc at) e d is same = ap (λ r. (f.0, content f.1) ∷ r) (unchanged_at es at e d is same)

listed-push : (es : List Named) (e : Named) → database_entries (es ++ e ∷ []) ≡ database_entries es ++ (e.0, content e.1) ∷ []
listed-push [] e = refl
listed-push (f ∷ es) e = ap (λ r. (f.0, content f.1) ∷ r) (listed-push es e)

-- a new name at the end
pub contents_of-push : (es : List Named) (name : List ℕ) (d : PlainDatabase) → map.get (contents_of es) name ≡ None → contents_of (es ++ (name, d) ∷ []) ≡ map.insert (contents_of es) name (content d)
contents_of-push es name d none =
    ap map.from_entries (listed-push es (name, d)) ∙ map.from_entries_push nat_list_cmp_total exact (database_entries es) name (content d) (sym (get-contents_of es name) ∙ none)

-- ---- a name taken out

kept : (p : List ℕ → Bool) (e : Named) (es : List Named) (b : Bool) → database_entries (filter (λ f. p f.0) es) ≡ where_key (slice_cmp nat_cmp) p (database_entries es)
    → database_entries (cond b (e ∷ filter (λ f. p f.0) es) (filter (λ f. p f.0) es)) ≡ cond b ((e.0, content e.1) ∷ where_key (slice_cmp nat_cmp) p (database_entries es)) (where_key (slice_cmp nat_cmp) p (database_entries es))
kept p e es true h = ap (λ r. (e.0, content e.1) ∷ r) h
kept p e es false h = h

listed-filter : (p : List ℕ → Bool) (es : List Named) → database_entries (filter (λ e. p e.0) es) ≡ where_key (slice_cmp nat_cmp) p (database_entries es)
listed-filter p [] = refl
listed-filter p (e ∷ es) = kept p e es (p e.0) (listed-filter p es)

turned : (b : Bool) (o : Option Database) → cond (not b) o None ≡ cond b None o
turned true o = refl
turned false o = refl

pub contents_of-without : (es : List Named) (name : List ℕ) → contents_of (filter (λ e. not (eq name e.0)) es) ≡ map.remove (contents_of es) name
contents_of-without es name =
    let p = λ (k : List ℕ). not (eq name k) in
    map.same_map nat_list_cmp_total exact _ _
    (λ q. get-contents_of (filter (λ e. not (eq name e.0)) es) q ∙ ap (find (slice_cmp nat_cmp) q) (listed-filter p es)
    ∙ find-where_key (slice_cmp nat_cmp) p q (λ x t. ap p (sym (exact q x t))) (database_entries es)
    ∙ turned (eq name q) (lookup q es)
    ∙ ap (λ b. cond b None (lookup q es)) ((eq_by_cmp_equiv nat_list_cmp_total).symm name q)
    ∙ sym (map.get-remove nat_list_cmp_total (contents_of es) name q ∙ ap (cond (eq q name) None) (get-contents_of es q)))

-- ---- the names

no_length : {A : Type 0} (xs : List A) → length xs ≡ 0 → xs ≡ []
no_length [] e = refl
no_length (x ∷ xs) e = absurd (omega arith)

pub keys-contents_of : (es : List Named) → list_map (λ e. e.0) (keys_put (slice_cmp nat_cmp) es []) ≡ map.keys (contents_of es)
keys-contents_of [] =
    let none : map.entries (contents_of []) ≡ [] = no_length _ (sym (map.len-entries (contents_of [])) ∙ map.len-empty (slice_cmp nat_cmp) Database) in
    ap (list_map (λ e. e.0)) (sym none)
keys-contents_of (e ∷ es) =
    same_keys_put (slice_cmp nat_cmp) e.0 tt (content e.1) (keys_put (slice_cmp nat_cmp) es []) (map.entries (contents_of es)) (keys-contents_of es)
    ∙ ap (list_map (λ f. f.0)) (sym (map.entries-insert nat_list_cmp_total (contents_of es) e.0 (content e.1)))

-- a fact that holds whatever the answer
pub whatever : {T E P : Type 0} (r : Result T E) → P → OnErr r P
whatever (Ok v) p = tt
whatever (Err e) p = p

-- what follows from an answer where it was made, and where it was refused
pub if_made : {T E P Q : Type 0} (r : Result T E) → OnOk r P → (P → Q) → OnOk r Q
if_made (Ok v) p f = f p
if_made (Err e) p f = tt

pub if_refused : {T E P Q : Type 0} (r : Result T E) → OnErr r P → (P → Q) → OnErr r Q
if_refused (Ok v) p f = tt
if_refused (Err e) p f = f p
