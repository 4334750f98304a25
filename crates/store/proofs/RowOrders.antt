-- The rows of a page by sequence ascend.
use Rattle.std.proofs.Common.{◌≡◌, ℕ, ◌<◌, List, [], ◌∷◌, AllPairs, get_or, map, filter, nat_lt, take, true, Option, Some, None, Ordering, nat_cmp, refl, sym, ap, ◌∙◌, inl, inr, arith}
use Rattle.std.proofs.lemmas.Bool.Decides.{nat_tests}
use Rattle.std.proofs.lemmas.List.{get_or-take, length-take}
use Rattle.std.proofs.lemmas.List.Kept.{AllPairs-cons, AllPairs-filter}
use Rattle.std.specs.declared.cmp.Ordering.TheVariants.{Less, Equal, Greater}
use Rattle.std.specs.Cmp.{first_so, second_so}
use Rattle.std.specs.FinMap.{entries, is_sorted, put}
use Rattle.std.specs.FinMap.Entries.{below_all, by_order}
use Rattle.tree.proofs.SortedEntries.{less}
use Rattle.store.specs.Database.{Database}
use Rattle.store.specs.Pages.{SequenceRow, in_sequence, up_to_limit, page_by_sequence, put_in_sequence, rows_of}
use Rattle.store.specs.declared.listing.SeqRange.{SeqRange}
use Rattle.store.proofs.Among.{all_in, from_map}
use Rattle.store.proofs.Listings.{In, ascending}

abbrev Keyed : List (ℕ × SequenceRow) → Type 0
Keyed es = (e : ℕ × SequenceRow) → In es e → e.0 ≡ e.1.sequence

equal_is : (n m : ℕ) → nat_cmp n m ≡ Equal → n ≡ m
equal_is n m h = grind (arith, nat_tests, h)

keyed_by : (o : Ordering) (r : SequenceRow) (e : ℕ × SequenceRow) (es later : List (ℕ × SequenceRow)) → nat_cmp r.sequence e.0 ≡ o → Keyed (e ∷ es) → Keyed later
    → Keyed (by_order o ((r.sequence, r) ∷ e ∷ es) ((e.0, r) ∷ es) (e ∷ later))
keyed_by Less r e es later is h k x (inl i) = ap (λ (y : ℕ × SequenceRow). y.0) (sym i) ∙ ap (λ (y : ℕ × SequenceRow). y.1.sequence) i
keyed_by Less r e es later is h k x (inr i) = h x i
keyed_by Equal r e es later is h k x (inl i) =
    ap (λ (y : ℕ × SequenceRow). y.0) (sym i) ∙ sym (equal_is r.sequence e.0 is) ∙ ap (λ (y : ℕ × SequenceRow). y.1.sequence) i
keyed_by Equal r e es later is h k x (inr i) = h x (inr i)
keyed_by Greater r e es later is h k x (inl i) = h x (inl i)
keyed_by Greater r e es later is h k x (inr i) = k x i

keyed_put : (r : SequenceRow) (es : List (ℕ × SequenceRow)) → Keyed es → Keyed (put nat_cmp r.sequence r es)
keyed_put r [] h x (inl i) = ap (λ (y : ℕ × SequenceRow). y.0) (sym i) ∙ ap (λ (y : ℕ × SequenceRow). y.1.sequence) i
keyed_put r [] h x (inr i) = absurd i
keyed_put r (e ∷ es) h x i = keyed_by (nat_cmp r.sequence e.0) r e es (put nat_cmp r.sequence r es) refl h (keyed_put r es (λ y j. h y (inr j))) x i

keyed : (rs : List SequenceRow) → Keyed (put_in_sequence rs [])
keyed [] = λ x i. absurd i
keyed (r ∷ rs) = keyed_put r (put_in_sequence rs []) (keyed rs)

below_in : (k : ℕ) (es : List (ℕ × SequenceRow)) (x : ℕ × SequenceRow) → below_all nat_cmp k es ≡ true → In es x → k < x.0
below_in k [] x h i = absurd i
below_in k (e ∷ es) x h (inl i) =
    let is : nat_cmp k e.0 ≡ Less = less _ (first_so _ _ h) in
    let lt : k < e.0 = grind (arith, nat_tests, is) in
    omega (arith, lt, ap (λ (y : ℕ × SequenceRow). y.0) i)
below_in k (e ∷ es) x h (inr i) = below_in k es x (second_so _ _ h) i

rows_ascend : (es : List (ℕ × SequenceRow)) → is_sorted nat_cmp es ≡ true → Keyed es → AllPairs (λ a b. a.sequence < b.sequence) (map (λ e. e.1) es)
rows_ascend [] h k = λ i j d lt within. absurd (omega arith)
rows_ascend (e ∷ es) h k =
    AllPairs-cons (λ (a b : SequenceRow). a.sequence < b.sequence) e.1 (map (λ f. f.1) es)
    (all_in (λ (b : SequenceRow). e.1.sequence < b.sequence) (map (λ f. f.1) es)
    (λ b i. let f = from_map (λ (x : ℕ × SequenceRow). x.1) es b i in
    omega (arith, below_in e.0 es f.0 (first_so _ _ h) f.1, k e (inl refl), k f.0 (inr f.1), ap (λ (x : SequenceRow). x.sequence) f.2)))
    (rows_ascend es (second_so _ _ h) (λ x i. k x (inr i)))

pub pairs_take : {X : Type 0} (R : X → X → Type 0) (n : ℕ) (xs : List X) → AllPairs R xs → AllPairs R (take n xs)
pairs_take R n xs h = λ i j d lt within.
    let long = length-take n xs in
    let a : get_or (take n xs) i d ≡ get_or xs i d = get_or-take n xs i d (omega arith) in
    let b : get_or (take n xs) j d ≡ get_or xs j d = get_or-take n xs j d (omega arith) in
    rw (a, b) (h i j d lt (omega arith))

pub pairs_limited : {X : Type 0} (R : X → X → Type 0) (limit : Option ℕ) (xs : List X) → AllPairs R xs → AllPairs R (up_to_limit limit xs)
pairs_limited R None xs h = h
pairs_limited R (Some n) xs h = pairs_take R n xs h

pub page_ascends : (range : SeqRange) (db : Database) → AllPairs (λ a b. a.sequence < b.sequence) (page_by_sequence range db).rows
page_ascends range db =
    let all = rows_of range.all_leaves (entries db.documents) in
    let R = λ (a b : SequenceRow). a.sequence < b.sequence in
    let later = λ (r : SequenceRow). nat_lt range.since r.sequence in
    pairs_limited R range.limit (filter later (in_sequence all)) (AllPairs-filter R later (in_sequence all) (rows_ascend (put_in_sequence all []) (ascending all) (keyed all)))
