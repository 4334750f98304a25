-- The places of an index and its entries, in the same order: they are the same.
use Rattle.index.proofs.Common.{AllByRecursion, Bool, Equal, IsAscending, List, Ordering, Row, [], all_both, and_from, and_parts, ap, ap₂, arith, ascending-append, ascending-filter, cond, entry_id, false, filter, insert_sorted, is_entry_of, is_eq, is_gt, key_of, list_any, map, refl, same_int, sort_by, subst, suc, sym, true, ℕ, ℤ, ◌++◌, ◌∙◌, ◌∷◌, ◌≡◌, ◌||◌, ◌⊎◌, inl, inr}
use Rattle.sqlite_keyed.proofs.ListLemmas.{ascending-map}
use Rattle.std.proofs.Common.{AllPairs, Greater, Less, reverse, zero}
use Rattle.std.proofs.lemmas.List.Elements.{recursion_from_All}
use Rattle.std.specs.Cmp.{IsTotalOrder, back_total, on_total, then_total}
use Rattle.std.specs.Cmp.Lexicographic.{nat_list_cmp_total, slice_cmp}
use Rattle.std.specs.Ordering.{nat_cmp, ordering_reverse, ordering_then}
use Rattle.couch_json.specs.Key.{key}
use Rattle.couch_json.proofs.KeyOrder.{keys_in_order}
use Rattle.store.specs.Indexes.{IndexPlace, place_order}
use Rattle.store.specs.Pages as store
use Rattle.store.proofs.Among.{contained, from_filter, from_map, in_contained, in_filter, in_map}
use Rattle.store.proofs.Directed.{reverse-cons}
use Rattle.store.proofs.Listings.{In}
use Rattle.tables.proofs.RowMaps.{passing}
use Rattle.tables.proofs.Sorted.{AtMost, both_in, rises}
use Rattle.index.proofs.EntryChanges.{entry_from, of_entry, same_number}
use Rattle.index.proofs.RangeStatements.{untied}
use Rattle.index.specs.Places.{AreEntriesAt, IsReadable, Spot, spot_at, spot_of}
use Rattle.tables.specs.Listings.{is_between}
use Rattle.index.specs.Rows.{by_place, declaration_of, is_entry_between, is_entry_in}

-- ---- what is among the elements of a list

pub at_in : {X : Type 0} (P : X → Type 0) (xs : List X) (x : X) → AllByRecursion P xs → In xs x → P x
at_in P [] x all i = absurd i
at_in P (y ∷ ys) x all (inl e) = subst P e all.0
at_in P (y ∷ ys) x all (inr i) = at_in P ys x all.1 i

pub each_in : {X : Type 0} (P : X → Type 0) (xs : List X) → ((x : X) → In xs x → P x) → AllByRecursion P xs
each_in P [] h = tt
each_in P (x ∷ xs) h = (h x (inl refl), each_in P xs (λ y i. h y (inr i)))

pub any_in : {X : Type 0} (p : X → Bool) (xs : List X) → list_any p xs ≡ true → (x : X) × In xs x × (p x ≡ true)
any_in p [] h = absurd (cc)
any_in {X} p (x ∷ xs) h = go (p x) refl (any_in p xs) h
  where
    go : (b : Bool) → p x ≡ b → (list_any p xs ≡ true → (y : X) × In xs y × (p y ≡ true)) → (b || list_any p xs) ≡ true → (y : X) × In (x ∷ xs) y × (p y ≡ true)
    go true is rest more = (x, inl refl, is)
    go false is rest more = let found = rest more in (found.0, inr found.1, found.2)

or_left : (a b : Bool) → a ≡ true → (a || b) ≡ true
or_left true b h = refl
or_left false b h = absurd (cc)

or_right : (a b : Bool) → b ≡ true → (a || b) ≡ true
or_right true b h = refl
or_right false b h = h

pub in_any : {X : Type 0} (p : X → Bool) (xs : List X) (x : X) → In xs x → p x ≡ true → list_any p xs ≡ true
in_any p [] x i h = absurd i
in_any p (y ∷ ys) x (inl e) h = or_left (p y) (list_any p ys) (ap p e ∙ h)
in_any p (y ∷ ys) x (inr i) h = or_right (p y) (list_any p ys) (in_any p ys x i h)

in_insert : {X : Type 0} (b : Bool) (new r x : X) (rest later : List X) → (In (new ∷ rest) x → In later x) → In (new ∷ r ∷ rest) x → In (cond b (r ∷ later) (new ∷ r ∷ rest)) x
in_insert true new r x rest later h (inl e) = inr (h (inl e))
in_insert true new r x rest later h (inr (inl e)) = inl e
in_insert true new r x rest later h (inr (inr i)) = inr (h (inr i))
in_insert false new r x rest later h i = i

in_inserted : (cmp : Row → Row → Ordering) (new : Row) (rows : List Row) (x : Row) → In (new ∷ rows) x → In (insert_sorted cmp new rows) x
in_inserted cmp new [] x i = i
in_inserted cmp new (r ∷ rows) x i = in_insert (is_gt (cmp new r)) new r x rows (insert_sorted cmp new rows) (in_inserted cmp new rows x) i

later_in : {X : Type 0} (x y : X) (xs ys : List X) → (In xs y → In ys y) → In (x ∷ xs) y → In (x ∷ ys) y
later_in x y xs ys h (inl e) = inl e
later_in x y xs ys h (inr i) = inr (h i)

in_sorted : (cmp : Row → Row → Ordering) (rows : List Row) (x : Row) → In rows x → In (sort_by cmp rows) x
in_sorted cmp [] x i = i
in_sorted cmp (r ∷ rows) x i = in_inserted cmp r (sort_by cmp rows) x (later_in r x rows (sort_by cmp rows) (in_sorted cmp rows x) i)

from_insert : {X : Type 0} (b : Bool) (new r x : X) (rest later : List X) → (In later x → In (new ∷ rest) x) → In (cond b (r ∷ later) (new ∷ r ∷ rest)) x → In (new ∷ r ∷ rest) x
from_insert {X} true new r x rest later h (inl e) = inr (inl e)
from_insert {X} true new r x rest later h (inr i) = go (h i)
  where
    go : In (new ∷ rest) x → In (new ∷ r ∷ rest) x
    go (inl e) = inl e
    go (inr j) = inr (inr j)
from_insert false new r x rest later h i = i

from_inserted : (cmp : Row → Row → Ordering) (new : Row) (rows : List Row) (x : Row) → In (insert_sorted cmp new rows) x → In (new ∷ rows) x
from_inserted cmp new [] x i = i
from_inserted cmp new (r ∷ rows) x i = from_insert (is_gt (cmp new r)) new r x rows (insert_sorted cmp new rows) (from_inserted cmp new rows x) i

from_sorted : (cmp : Row → Row → Ordering) (rows : List Row) (x : Row) → In (sort_by cmp rows) x → In rows x
from_sorted cmp [] x i = i
from_sorted cmp (r ∷ rows) x i = later_in r x (sort_by cmp rows) rows (from_sorted cmp rows x) (from_inserted cmp r (sort_by cmp rows) x i)

in_front : {X : Type 0} (xs ys : List X) (x : X) → In xs x → In (xs ++ ys) x
in_front [] ys x i = absurd i
in_front (y ∷ xs) ys x (inl e) = inl e
in_front (y ∷ xs) ys x (inr i) = inr (in_front xs ys x i)

in_behind : {X : Type 0} (xs ys : List X) (x : X) → In ys x → In (xs ++ ys) x
in_behind [] ys x i = i
in_behind (y ∷ xs) ys x i = inr (in_behind xs ys x i)

from_both : {X : Type 0} (xs ys : List X) (x : X) → In (xs ++ ys) x → In xs x ⊎ In ys x
from_both [] ys x i = inr i
from_both (y ∷ xs) ys x (inl e) = inl (inl e)
from_both {X} (y ∷ xs) ys x (inr i) = go (from_both xs ys x i)
  where
    go : In xs x ⊎ In ys x → In (y ∷ xs) x ⊎ In ys x
    go (inl j) = inl (inr j)
    go (inr j) = inr j

in_reverse : {X : Type 0} (xs : List X) (x : X) → In xs x → In (reverse xs) x
in_reverse [] x i = absurd i
in_reverse (y ∷ ys) x (inl e) = subst (λ l. In l x) (sym (reverse-cons y ys)) (in_behind (reverse ys) (y ∷ []) x (inl e))
in_reverse (y ∷ ys) x (inr i) = subst (λ l. In l x) (sym (reverse-cons y ys)) (in_front (reverse ys) (y ∷ []) x (in_reverse ys x i))

from_reverse : {X : Type 0} (xs : List X) (x : X) → In (reverse xs) x → In xs x
from_reverse [] x i = absurd i
from_reverse {X} (y ∷ ys) x i = go (from_reverse ys x) (from_both (reverse ys) (y ∷ []) x (subst (λ l. In l x) (reverse-cons y ys) i))
  where
    go : (In (reverse ys) x → In ys x) → In (reverse ys) x ⊎ In (y ∷ []) x → In (y ∷ ys) x
    go rest (inl j) = inr (rest j)
    go rest (inr (inl e)) = inl e
    go rest (inr (inr j)) = absurd j

-- ---- two ascending lists of the same elements are one

module _ {X : Type 0} (R : X → X → Type 0) (strict : (x y : X) → R x y → R y x → ⊥) where
  pub one_list : (xs ys : List X) → IsAscending R xs → IsAscending R ys → ((z : X) → In xs z → In ys z) → ((z : X) → In ys z → In xs z) → xs ≡ ys
  one_list [] [] p q f g = refl
  one_list [] (y ∷ ys) p q f g = absurd (g y (inl refl))
  one_list (x ∷ xs) [] p q f g = absurd (f x (inl refl))
  one_list (x ∷ xs) (y ∷ ys) p q f g =
      let head : x ≡ y = heads (f x (inl refl)) (g y (inl refl)) in
      ap₂ (λ z zs. z ∷ zs) head (one_list xs ys p.1 q.1 (λ z i. left x y z ys (at_in (R x) xs z p.0 i) (sym head) (f z (inr i))) (λ z i. left y x z xs (at_in (R y) ys z q.0 i) head (g z (inr i))))
    where
      heads : In (y ∷ ys) x → In (x ∷ xs) y → x ≡ y
      heads (inl e) j = sym e
      heads (inr i) (inl e) = e
      heads (inr i) (inr j) = absurd (strict x y (at_in (R x) xs y p.0 j) (at_in (R y) ys x q.0 i))

      left : (a b z : X) (zs : List X) → R a z → b ≡ a → In (b ∷ zs) z → In zs z
      left a b z zs r same (inl e) = let here : a ≡ z = sym same ∙ e in let own : R a a = subst (R a) (sym here) r in absurd (strict a a own own)
      left a b z zs r same (inr i) = i

-- ---- the order of places and of entries

abbrev pub spot_order : Spot → Spot → Ordering
spot_order a b = ordering_then (slice_cmp nat_cmp a.0 b.0) (slice_cmp nat_cmp a.1 b.1)

spot_total : IsTotalOrder spot_order
spot_total = then_total (on_total (λ (s : Spot). s.0) nat_list_cmp_total) (on_total (λ (s : Spot). s.1) nat_list_cmp_total)

-- in this direction
abbrev pub directed : Bool → Spot → Spot → Ordering
directed true a b = spot_order b a
directed false a b = spot_order a b

directed_total : (descending : Bool) → IsTotalOrder (directed descending)
directed_total true = back_total spot_total
directed_total false = spot_total

not_both : (a b : Ordering) → a ≡ ordering_reverse b → a ≡ Less → b ≡ Less → ⊥
not_both a b turned p q = let never : a ≡ Greater = turned ∙ ap ordering_reverse q in absurd (cc)

strict : (descending : Bool) (a b : Spot) → directed descending a b ≡ Less → directed descending b a ≡ Less → ⊥
strict descending a b = not_both (directed descending a b) (directed descending b a) ((directed_total descending).antisymm a b)

-- ---- entries that are sorted ascend

module _ (descending : Bool) where
  abbrev pub by : Row → Row → Ordering
  by a b = directed descending (spot_at a) (spot_at b)

  by_total : IsTotalOrder by
  by_total = on_total spot_at (directed_total descending)

  abbrev Untied : Row → Row → Type 0
  Untied a b = is_eq (by a b) ≡ false

  reversed_eq : (o : Ordering) → is_eq (ordering_reverse o) ≡ is_eq o
  reversed_eq Less = refl
  reversed_eq Equal = refl
  reversed_eq Greater = refl

  turned : (a b : Row) → Untied a b → Untied b a
  turned a b h = ap is_eq (by_total.antisymm b a) ∙ reversed_eq (by a b) ∙ h

  untied_inserted : (new : Row) (rows : List Row) → AllByRecursion (Untied new) rows → IsAscending Untied rows → IsAscending Untied (insert_sorted by new rows)
  untied_inserted new [] all up = (tt, tt)
  untied_inserted new (r ∷ rows) all up = go (is_gt (by new r)) (untied_inserted new rows all.1 up.1)
    where
      go : (b : Bool) → IsAscending Untied (insert_sorted by new rows) → IsAscending Untied (cond b (r ∷ insert_sorted by new rows) (new ∷ r ∷ rows))
      go true rest = (each_in (Untied r) (insert_sorted by new rows) (λ x i. at_in (Untied r) (new ∷ rows) x (turned new r all.0, up.0) (from_inserted by new rows x i)), rest)
      go false rest = (all, up)

  untied_sorted : (rows : List Row) → IsAscending Untied rows → IsAscending Untied (sort_by by rows)
  untied_sorted [] up = tt
  untied_sorted (r ∷ rows) up =
      untied_inserted r (sort_by by rows) (each_in (Untied r) (sort_by by rows) (λ x i. at_in (Untied r) rows x up.0 (from_sorted by rows x i))) (untied_sorted rows up.1)

  less_of : (o : Ordering) → is_gt o ≡ false → is_eq o ≡ false → o ≡ Less
  less_of Less p q = refl
  less_of Equal p q = absurd (cc)
  less_of Greater p q = absurd (cc)

  both_ascend : (rows : List Row) → IsAscending (AtMost by by_total) rows → IsAscending Untied rows → IsAscending (λ a b. by a b ≡ Less) rows
  both_ascend [] p q = tt
  both_ascend (r ∷ rows) p q = (all_both (AtMost by by_total r) (Untied r) (λ b. by r b ≡ Less) (λ b k l. less_of (by r b) k l) rows p.0 q.0, both_ascend rows p.1 q.1)

  sorted_ascend : (rows : List Row) → IsAscending Untied rows → IsAscending (λ a b. by a b ≡ Less) (sort_by by rows)
  sorted_ascend rows up = both_ascend (sort_by by rows) (rises by by_total rows) (untied_sorted rows up)

-- which way round two entries stand does not tell whether they tie
tied_either : (descending : Bool) (a b : Row) → is_eq (by_place a b) ≡ false → is_eq (directed descending (spot_at a) (spot_at b)) ≡ false
tied_either false a b h = h
tied_either true a b h = ap is_eq (spot_total.antisymm (spot_at b) (spot_at a)) ∙ reversed_eq true (by_place a b) ∙ h

-- ---- places ascend as their spots do

pairs_ascend : {X : Type 0} (R : X → X → Type 0) (xs : List X) → AllPairs R xs → IsAscending R xs
pairs_ascend R [] h = tt
pairs_ascend R (x ∷ xs) h = (
  recursion_from_All (R x) xs (λ k d within. h zero (suc k) d (omega arith) (omega arith)),
  pairs_ascend R xs (λ i j d lt within. h (suc i) (suc j) d (omega arith) (omega arith)),
)

spots_ordered : (p q : IndexPlace) → IsReadable p → IsReadable q → spot_order (spot_of p) (spot_of q) ≡ place_order p q
spots_ordered p q k l = ap (λ o. ordering_then o (slice_cmp nat_cmp p.id q.id)) (keys_in_order p.key q.key k.lawful l.lawful)

spots_ascend : (ps : List IndexPlace) → AllByRecursion IsReadable ps → IsAscending (λ p q. place_order p q ≡ Less) ps → IsAscending (λ p q. spot_order (spot_of p) (spot_of q) ≡ Less) ps
spots_ascend [] all up = tt
spots_ascend (p ∷ ps) all up = (
  all_both IsReadable (λ q. place_order p q ≡ Less) (λ q. spot_order (spot_of p) (spot_of q) ≡ Less) (λ q k lt. spots_ordered p q all.0 k ∙ lt) ps all.1 up.0,
  spots_ascend ps all.1 up.1,
)

reverse_ascends : {X : Type 0} (R : X → X → Type 0) (xs : List X) → IsAscending R xs → IsAscending (λ a b. R b a) (reverse xs)
reverse_ascends R [] up = tt
reverse_ascends R (x ∷ xs) up =
    subst (IsAscending (λ a b. R b a)) (sym (reverse-cons x xs))
    (ascending-append (λ a b. R b a) (reverse xs) (x ∷ []) (reverse_ascends R xs up.1) (tt, tt) (each_in (λ a. AllByRecursion (λ b. R b a) (x ∷ [])) (reverse xs) (λ a i. (at_in (R x) xs a up.0 (from_reverse xs a i), tt))))

directed_ascend : (descending : Bool) (ps : List IndexPlace) → IsAscending (λ p q. spot_order (spot_of p) (spot_of q) ≡ Less) ps
    → IsAscending (λ p q. directed descending (spot_of p) (spot_of q) ≡ Less) (store.in_direction descending ps)
directed_ascend true ps up = reverse_ascends (λ p q. spot_order (spot_of p) (spot_of q) ≡ Less) ps up
directed_ascend false ps up = up

in_directed : {X : Type 0} (descending : Bool) (xs : List X) (x : X) → In xs x → In (store.in_direction descending xs) x
in_directed true xs x i = in_reverse xs x i
in_directed false xs x i = i

pub from_directed : {X : Type 0} (descending : Bool) (xs : List X) (x : X) → In (store.in_direction descending xs) x → In xs x
from_directed true xs x i = from_reverse xs x i
from_directed false xs x i = i

-- ---- the places between two bounds are the entries between them

module _ (declaration : ℤ) (places : List IndexPlace) (rows : List Row) (h : AreEntriesAt declaration places rows) (descending : Bool) (low high : List ℕ) where
  abbrev found : List Row
  found = filter (is_entry_between declaration low high) rows

  untied_found : IsAscending (Untied descending) found
  untied_found =
      both_in (λ r. is_entry_between declaration low high r ≡ true) (λ a b. declaration_of a ≡ declaration_of b → key_of a ≡ key_of b → entry_id a ≡ entry_id b → ⊥) (Untied descending)
      (λ a b k l apart. tied_either descending a b (untied declaration low high a b k l apart)) found (passing (is_entry_between declaration low high) rows) (ascending-filter _ (is_entry_between declaration low high) rows h.laid.apart)

  abbrev listed : List Row
  listed = sort_by (by descending) found

  abbrev shown : List IndexPlace
  shown = filter (λ p. is_between low high (key p.key)) (store.in_direction descending places)

  into : (z : Spot) → In (map spot_of shown) z → In (map spot_at listed) z
  into z i =
      let m = from_map spot_of shown z i in
      let p = m.0 in
      let f = from_filter (λ q. is_between low high (key q.key)) (store.in_direction descending places) p m.1 in
      let own = contained places p (from_directed descending places p f.0) in
      let e = any_in (is_entry_of declaration (key p.key) p.id) rows (h.there p own) in
      let r = e.0 in
      let is = of_entry declaration (key p.key) p.id r e.2 in
      let passes = and_from (is_entry_in declaration r) (is_between low high (key_of r)) (same_number (declaration_of r) declaration is.0) (ap (is_between low high) is.1 ∙ f.1) in
      let there = in_map spot_at listed r (in_sorted (by descending) found r (in_filter (is_entry_between declaration low high) rows r e.1 passes)) in
      let spot : spot_at r ≡ z = (λ j. (is.1 j, is.2 j)) ∙ m.2 in
      subst (In (map spot_at listed)) spot there

  back : (z : Spot) → In (map spot_at listed) z → In (map spot_of shown) z
  back z i =
      let m = from_map spot_at listed z i in
      let r = m.0 in
      let f = from_filter (is_entry_between declaration low high) rows r (from_sorted (by descending) found r m.1) in
      let parts = and_parts (is_entry_in declaration r) (is_between low high (key_of r)) f.1 in
      let e = in_any (is_entry_of declaration (key_of r) (entry_id r)) rows r f.0 (entry_from declaration (key_of r) (entry_id r) r (same_int_of r parts.0) refl refl) in
      let o = h.only (key_of r) (entry_id r) e in
      let p = o.0 in
      let passes : is_between low high (key p.key) ≡ true = ap (λ (s : Spot). is_between low high s.0) o.2 ∙ parts.1 in
      let there = in_map spot_of shown p (in_filter (λ q. is_between low high (key q.key)) (store.in_direction descending places) p (in_directed descending places p (in_contained places p o.1)) passes) in
      subst (In (map spot_of shown)) (o.2 ∙ m.2) there
    where
      same_int_of : (r : Row) → is_entry_in declaration r ≡ true → declaration_of r ≡ declaration
      same_int_of r is = same_int (declaration_of r) declaration is

  places_ascend : IsAscending (λ a b. directed descending a b ≡ Less) (map spot_of shown)
  places_ascend =
      ascending-map (λ a b. directed descending a b ≡ Less) spot_of shown
      (ascending-filter (λ p q. directed descending (spot_of p) (spot_of q) ≡ Less) (λ p. is_between low high (key p.key)) (store.in_direction descending places)
      (directed_ascend descending places (spots_ascend places h.readable (pairs_ascend (λ p q. place_order p q ≡ Less) places h.ascending))))

  entries_ascend : IsAscending (λ a b. directed descending a b ≡ Less) (map spot_at listed)
  entries_ascend = ascending-map (λ a b. directed descending a b ≡ Less) spot_at listed (sorted_ascend descending found untied_found)

  pub same_spots : map spot_of shown ≡ map spot_at listed
  same_spots = one_list (λ a b. directed descending a b ≡ Less) (strict descending) (map spot_of shown) (map spot_at listed) places_ascend entries_ascend into back
