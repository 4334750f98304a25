-- Of places that are put in one by one, those that more than so many others stand before may go at once.
use Rattle.std.proofs.Common.{◌≡◌, ℕ, zero, suc, ◌+◌, ◌-◌, ◌≤◌, ◌<◌, Bool, true, false, List, [], ◌∷◌, Ordering, Option, Some, None, drop, length, reverse, take, refl, sym, ap, ◌∙◌, arith}
use Rattle.std.proofs.lemmas.Bool.Decides.{nat_tests}
use Rattle.std.proofs.lemmas.List.{length-reverse, take-append-le, take-take, take_all}
use Rattle.std.specs.BTreeSet.{insert_key}
use Rattle.std.specs.Cmp.{IsTotalOrder}
use Rattle.std.specs.Ordering.{match_ordering, ordering_reverse}
use Rattle.std.specs.Prelude.{IfNone, IfSome, nat_lt, ⊤}
use Rattle.std.specs.declared.cmp.Ordering.TheVariants.{Less, Equal, Greater}
use Rattle.couch_json.specs.Value.{Items, Value, array}
use Rattle.store.proofs.Directed.{reverse-cons}
use Rattle.store.specs.Database.{Database}
use Rattle.store.specs.Indexes.{IndexPlace, field_values, place_order}
use Rattle.store.specs.PlaceOrder.{place_order_total}
use Rattle.store.specs.Pages.{in_direction}
use Rattle.find.specs.inner.Candidates.{put_place, put_place_at, put_places}
use Rattle.find.specs.inner.Kept.{first_ones, keep_place, keep_place_at, keep_places, kept_of}
use Rattle.find.specs.inner.Matching.{match_in}
use Rattle.find.specs.declared.query.Query.{Query}

-- ---- the first ones

few : (m n : ℕ) (b : Bool) → nat_lt m n ≡ b → b ≡ true → m < n
few m n b is h = grind (arith, nat_tests, is, h)

many : (m n : ℕ) (b : Bool) → nat_lt m n ≡ b → b ≡ false → n ≤ m
many m n b is h = grind (arith, nat_tests, is, h)

last_more : {X : Type 0} (n : ℕ) (x : X) (xs : List X) → n ≤ length xs → first_ones true n (x ∷ xs) ≡ first_ones true n xs
last_more n x xs h = let more : suc (length xs) - n ≡ suc (length xs - n) = omega (arith, h) in ap (λ m. drop m (x ∷ xs)) more

last_all : {X : Type 0} (n : ℕ) (xs : List X) → length xs ≤ n → first_ones true n xs ≡ xs
last_all n xs h = let none : length xs - n ≡ 0 = omega (arith, h) in ap (λ m. drop m xs) none

-- the last of those that go up is the first to go
pub kept_behind : {X : Type 0} (first : Option X) (old new : List X) → IfSome first (λ x. old ≡ x ∷ new) → IfNone first (new ≡ old) → (n : ℕ) → n < length old → first_ones true n new ≡ first_ones true n old
kept_behind None old new some none n h = ap (first_ones true n) none
kept_behind (Some x) old new some none n h = sym (last_more n x new (omega (arith, ap length some, h))) ∙ ap (first_ones true n) (sym some)

-- ---- a key among them

module _ {K : Type 0} (R : K → K → Ordering) where
  again : (n : ℕ) (x : K) (xs : List K) → take n (x ∷ xs) ≡ take n (x ∷ take n xs)
  again zero x xs = refl
  again (suc n) x xs = ap (λ ys. x ∷ ys) (sym (take-take n (suc n) xs (omega arith)))

  take_insert : (n : ℕ) (xs : List K) (k : K) → take n (insert_key R xs k) ≡ take n (insert_key R (take n xs) k)
  take_insert zero xs k = refl
  take_insert (suc n) [] k = refl
  take_insert (suc n) (x ∷ xs) k = by (take_insert n xs k) (R k x)
    where
      by : take n (insert_key R xs k) ≡ take n (insert_key R (take n xs) k) → (o : Ordering)
          → take (suc n) (match_ordering o (k ∷ x ∷ xs) (x ∷ xs) (x ∷ insert_key R xs k)) ≡ take (suc n) (match_ordering o (k ∷ x ∷ take n xs) (x ∷ take n xs) (x ∷ insert_key R (take n xs) k))
      by later Less = ap (λ ys. k ∷ ys) (again n x xs)
      by later Equal = ap (λ ys. x ∷ ys) (sym (take-take n n xs (omega arith)))
      by later Greater = ap (λ ys. x ∷ ys) later

  -- the key comes before the first of these
  abbrev IsBefore : K → List K → Type 0
  IsBefore k [] = ⊤
  IsBefore k (x ∷ xs) = R k x ≡ Less

  abbrev Ascend : List K → Type 0
  Ascend [] = ⊤
  Ascend (x ∷ xs) = IsBefore x xs × Ascend xs

  longer : (xs : List K) (k : K) → length xs ≤ length (insert_key R xs k)
  longer [] k = omega arith
  longer (x ∷ xs) k = by (longer xs k) (R k x)
    where
      by : length xs ≤ length (insert_key R xs k) → (o : Ordering) → suc (length xs) ≤ length (match_ordering o (k ∷ x ∷ xs) (x ∷ xs) (x ∷ insert_key R xs k))
      by later Less = omega arith
      by later Equal = omega arith
      by later Greater = omega (arith, later)

  in_front : (xs : List K) (k : K) → IsBefore k xs → insert_key R xs k ≡ k ∷ xs
  in_front [] k h = refl
  in_front (x ∷ xs) k h = ap (λ o. match_ordering o (k ∷ x ∷ xs) (x ∷ xs) (x ∷ insert_key R xs k)) h

  before_put : (x k : K) (xs : List K) → R x k ≡ Less → IsBefore x xs → IsBefore x (insert_key R xs k)
  before_put x k [] h b = h
  before_put x k (y ∷ ys) h b = by (R k y)
    where
      by : (o : Ordering) → IsBefore x (match_ordering o (k ∷ y ∷ ys) (y ∷ ys) (y ∷ insert_key R ys k))
      by Less = h
      by Equal = b
      by Greater = b

  module _ (total : IsTotalOrder R) where
    turned : (k x : K) → R k x ≡ Greater → R x k ≡ Less
    turned k x h = total.antisymm x k ∙ ap ordering_reverse h

    ascend_put : (xs : List K) (k : K) → Ascend xs → Ascend (insert_key R xs k)
    ascend_put [] k h = (tt, tt)
    ascend_put (x ∷ xs) k h = by (ascend_put xs k h.1) (R k x) refl
      where
        by : Ascend (insert_key R xs k) → (o : Ordering) → R k x ≡ o → Ascend (match_ordering o (k ∷ x ∷ xs) (x ∷ xs) (x ∷ insert_key R xs k))
        by later Less is = (is, h)
        by later Equal is = h
        by later Greater is = (before_put x k xs (turned k x is) h.0, later)

    before_all : (k x : K) (xs : List K) → R k x ≡ Less → IsBefore x xs → IsBefore k xs
    before_all k x [] h b = tt
    before_all k x (y ∷ ys) h b = total.trans k x y h b

    tied_before : (k x : K) (xs : List K) → R k x ≡ Equal → IsBefore x xs → IsBefore k xs
    tied_before k x [] h b = tt
    tied_before k x (y ∷ ys) h b = total.congr k x y h ∙ b

    -- a key that goes in front of as many as are kept is not kept
    passed : (n : ℕ) (xs : List K) (k : K) → n ≤ length xs → IsBefore k xs → first_ones true n (insert_key R xs k) ≡ first_ones true n xs
    passed n xs k h b = ap (first_ones true n) (in_front xs k b) ∙ last_more n k xs h

    last_insert : (n : ℕ) (xs : List K) (k : K) → Ascend xs → first_ones true n (insert_key R xs k) ≡ first_ones true n (insert_key R (first_ones true n xs) k)
    last_insert n [] k h = ap (λ ys. first_ones true n (insert_key R ys k)) (sym (last_all {X = K} n [] (omega arith)))
    last_insert n (x ∷ xs) k h = by (last_insert n xs k h.1) (nat_lt (length xs) n) refl
      where
        put : n ≤ length xs → (o : Ordering) → R k x ≡ o → first_ones true n (match_ordering o (k ∷ x ∷ xs) (x ∷ xs) (x ∷ insert_key R xs k)) ≡ first_ones true n (insert_key R xs k)
        put e Less is = last_more n k (x ∷ xs) (omega (arith, e)) ∙ last_more n x xs e ∙ sym (passed n xs k e (before_all k x xs is h.0))
        put e Equal is = last_more n x xs e ∙ sym (passed n xs k e (tied_before k x xs is h.0))
        put e Greater is = last_more n x (insert_key R xs k) (omega (arith, e, longer xs k))

        by : first_ones true n (insert_key R xs k) ≡ first_ones true n (insert_key R (first_ones true n xs) k) → (b : Bool) → nat_lt (length xs) n ≡ b
            → first_ones true n (insert_key R (x ∷ xs) k) ≡ first_ones true n (insert_key R (first_ones true n (x ∷ xs)) k)
        by later true is = ap (λ ys. first_ones true n (insert_key R ys k)) (sym (last_all n (x ∷ xs) (omega (arith, few (length xs) n true is refl))))
        by later false is =
            let enough : n ≤ length xs = many (length xs) n false is refl in
            put enough (R k x) refl ∙ later ∙ ap (λ ys. first_ones true n (insert_key R ys k)) (sym (last_more n x xs enough))

    first_insert : (descending : Bool) (n : ℕ) (xs : List K) (k : K) → Ascend xs → first_ones descending n (insert_key R xs k) ≡ first_ones descending n (insert_key R (first_ones descending n xs) k)
    first_insert true n xs k h = last_insert n xs k h
    first_insert false n xs k h = take_insert n xs k

-- ---- the places of documents

abbrev Ascending : List IndexPlace → Type 0
Ascending ps = Ascend place_order ps

ascending-put : (fields : List (List ℕ)) (id : List ℕ) (o : Option Value) (ps : List IndexPlace) → Ascending ps → Ascending (put_place fields id o ps)
ascending-put fields id None ps h = h
ascending-put fields id (Some v) ps h = by (field_values fields v)
  where
    by : (values : Option Items) → Ascending (put_place_at id values ps)
    by None = h
    by (Some values) = ascend_put place_order place_order_total ps (record { key = array values; id = id }) h

kept_put : (fields : List (List ℕ)) (query : Query) (id : List ℕ) (o : Option Value) (ps : List IndexPlace) → Ascending ps → keep_place fields query id o (kept_of query ps) ≡ kept_of query (put_place fields id o ps)
kept_put fields query id None ps h = refl
kept_put fields query id (Some v) ps h = by (field_values fields v)
  where
    by : (values : Option Items) → keep_place_at query id values (kept_of query ps) ≡ kept_of query (put_place_at id values ps)
    by None = refl
    by (Some values) = sym (first_insert place_order place_order_total query.descending (query.skip + query.limit) ps (record { key = array values; id = id }) h)

kept_all : (fields : List (List ℕ)) (query : Query) (d : Database) (ids : List (List ℕ)) (ps : List IndexPlace) → Ascending ps → keep_places fields query d ids (kept_of query ps) ≡ kept_of query (put_places fields query.selector d ids ps)
kept_all fields query d [] ps h = refl
kept_all fields query d (id ∷ ids) ps h =
    ap (keep_places fields query d ids) (kept_put fields query id (match_in query.selector d id) ps h)
    ∙ kept_all fields query d ids (put_place fields id (match_in query.selector d id) ps) (ascending-put fields id (match_in query.selector d id) ps h)

no_ones : {X : Type 0} (descending : Bool) (n : ℕ) → first_ones {X = X} descending n [] ≡ []
no_ones {X} true n = last_all {X = X} n [] (omega arith)
no_ones false zero = refl
no_ones false (suc n) = refl

-- what is kept is what would be kept of all
pub kept_places : (fields : List (List ℕ)) (query : Query) (d : Database) (ids : List (List ℕ)) → keep_places fields query d ids [] ≡ kept_of query (put_places fields query.selector d ids [])
kept_places fields query d ids = ap (keep_places fields query d ids) (sym (no_ones {X = IndexPlace} query.descending (query.skip + query.limit))) ∙ kept_all fields query d ids [] tt

-- ---- in a direction

turned_last : {X : Type 0} (n : ℕ) (xs : List X) → reverse (first_ones true n xs) ≡ take n (reverse xs)
turned_last {X} n [] = ap reverse (last_all {X = X} n [] (omega arith)) ∙ sym (no_ones {X = X} false n)
turned_last {X} n (x ∷ xs) = by (turned_last n xs) (nat_lt (length xs) n) refl
  where
    by : reverse (first_ones true n xs) ≡ take n (reverse xs) → (b : Bool) → nat_lt (length xs) n ≡ b → reverse (first_ones true n (x ∷ xs)) ≡ take n (reverse (x ∷ xs))
    by later true is =
        let all : suc (length xs) ≤ n = omega (arith, few (length xs) n true is refl) in
        ap reverse (last_all n (x ∷ xs) all) ∙ sym (take_all n (reverse (x ∷ xs)) (omega (arith, length-reverse (x ∷ xs), all)))
    by later false is =
        let enough : n ≤ length xs = many (length xs) n false is refl in
        ap reverse (last_more n x xs enough) ∙ later ∙ sym (take-append-le n (reverse xs) (x ∷ []) (omega (arith, length-reverse xs, enough))) ∙ ap (take n) (sym (reverse-cons x xs))

pub first_directed : {X : Type 0} (descending : Bool) (n : ℕ) (xs : List X) → in_direction descending (first_ones descending n xs) ≡ take n (in_direction descending xs)
first_directed true n xs = turned_last n xs
first_directed false n xs = refl
