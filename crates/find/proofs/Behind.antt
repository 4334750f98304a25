-- The documents behind the last one that was taken are those that are left.
use Rattle.std.proofs.Common.{◌≡◌, ◌≤◌, ◌<◌, ◌+◌, ◌-◌, ℕ, zero, suc, Bool, true, false, not, cond, List, [], ◌∷◌, ◌++◌, AllPairs, Option, Some, None, Ordering, drop, filter, length, map, nat_cmp, nat_lt, option_map, take, refl, sym, ap, subst, ◌∙◌, inl, inr, arith}
use Rattle.std.proofs.lemmas.Bool.Decides.{nat_tests}
use Rattle.std.proofs.lemmas.Cmp.{nat_list_cmp_total}
use Rattle.std.proofs.lemmas.List.{length-map, length-take}
use Rattle.std.proofs.lemmas.List.Kept.{AllPairs-filter}
use Rattle.std.specs.declared.cmp.Ordering.TheVariants.{Less, Equal, Greater}
use Rattle.std.specs.Cmp.{tied_itself}
use Rattle.std.specs.Cmp.Lexicographic.{slice_cmp}
use Rattle.std.specs.Ordering.{is_lt, ordering_reverse}
use Rattle.std.specs.Prelude.{slice_get}
use Rattle.tree.proofs.Shown.{inside}
use Rattle.store.proofs.Among.{contained, from_filter}
use Rattle.store.proofs.Directed.{pairs_drop}
use Rattle.store.proofs.IdRows.{id_page_ascends}
use Rattle.store.proofs.Listings.{In}
use Rattle.store.specs.Database.{Database}
use Rattle.store.specs.Pages.{comes_before}
use Rattle.store.specs.declared.listing.IdRow.{IdRow}
use Rattle.find.proofs.ByChunk.{chunk_taken}
use Rattle.find.proofs.Finding.{every_row, rows_of_page}
use Rattle.find.proofs.Takings.{drop_map}
use Rattle.find.specs.inner.Sources.{documents_by_id, documents_from, ids_ahead, ids_beyond, ids_in, ids_of, ids_unless, last_id, last_of, passed_count}
use Rattle.find.specs.declared.candidate.Candidate.{Candidate}
use Rattle.find.specs.declared.plan.Plan.{Plan}
use Rattle.find.specs.declared.reached.Reached.{Reached}
use Rattle.find.specs.declared.source.Source.{Source}
use Rattle.find.specs.declared.source.Source.TheVariants.{Documents, Index}

-- ---- which id comes before which

below_not_above : (o p : Ordering) → p ≡ ordering_reverse o → is_lt o ≡ true → is_lt p ≡ false
below_not_above Less p is lt = ap is_lt is
below_not_above Equal p is lt = absurd cc
below_not_above Greater p is lt = absurd cc

asymmetric : (descending : Bool) (a b : List ℕ) → comes_before descending a b ≡ true → comes_before descending b a ≡ false
asymmetric true a b lt = below_not_above (slice_cmp nat_cmp b a) (slice_cmp nat_cmp a b) (nat_list_cmp_total.antisymm a b) lt
asymmetric false a b lt = below_not_above (slice_cmp nat_cmp a b) (slice_cmp nat_cmp b a) (nat_list_cmp_total.antisymm b a) lt

irreflexive : (descending : Bool) (a : List ℕ) → comes_before descending a a ≡ false
irreflexive true a = ap is_lt (tied_itself nat_list_cmp_total a)
irreflexive false a = ap is_lt (tied_itself nat_list_cmp_total a)

is_less : (o : Ordering) → is_lt o ≡ true → o ≡ Less
is_less Less lt = refl
is_less Equal lt = absurd cc
is_less Greater lt = absurd cc

up : (r p l : List ℕ) (o : Ordering) → slice_cmp nat_cmp r p ≡ Less → slice_cmp nat_cmp l p ≡ o → is_lt o ≡ false → slice_cmp nat_cmp r l ≡ Less
up r p l Less lt is above = absurd cc
up r p l Equal lt is above = nat_list_cmp_total.antisymm r l ∙ ap ordering_reverse (nat_list_cmp_total.congr l p r is) ∙ sym (nat_list_cmp_total.antisymm r p) ∙ lt
up r p l Greater lt is above = nat_list_cmp_total.trans r p l lt (nat_list_cmp_total.antisymm p l ∙ ap ordering_reverse is)

down : (r p l : List ℕ) (o : Ordering) → slice_cmp nat_cmp p r ≡ Less → slice_cmp nat_cmp p l ≡ o → is_lt o ≡ false → slice_cmp nat_cmp l r ≡ Less
down r p l Less lt is above = absurd cc
down r p l Equal lt is above = sym (nat_list_cmp_total.congr p l r is) ∙ lt
down r p l Greater lt is above = nat_list_cmp_total.trans l p r (nat_list_cmp_total.antisymm l p ∙ ap ordering_reverse is) lt

-- what comes before one comes before each that does not
before_later : (descending : Bool) (r p l : List ℕ) → comes_before descending r p ≡ true → comes_before descending l p ≡ false → comes_before descending r l ≡ true
before_later true r p l lt above = ap is_lt (down r p l (slice_cmp nat_cmp p l) (is_less _ lt) refl above)
before_later false r p l lt above = ap is_lt (up r p l (slice_cmp nat_cmp l p) (is_less _ lt) refl above)

-- ---- rows in order

abbrev Ascend : Bool → List IdRow → Type 0
Ascend descending rows = AllPairs (λ (a b : IdRow). comes_before descending a.id b.id ≡ true) rows

first_before : {X : Type 0} (R : X → X → Type 0) (x : X) (xs : List X) → AllPairs R (x ∷ xs) → (y : X) → In xs y → R x y
first_before R x xs h y i = let c = contained xs y i in subst (R x) c.2 (h 0 (suc c.0) y (omega arith) (omega (arith, c.1)))

all_kept : {X : Type 0} (p : X → Bool) (xs : List X) → ((x : X) → In xs x → p x ≡ true) → filter p xs ≡ xs
all_kept p [] h = refl
all_kept p (x ∷ xs) h = ap (λ b. cond b (x ∷ filter p xs) (filter p xs)) (h x (inl refl)) ∙ ap (λ ys. x ∷ ys) (all_kept p xs (λ y i. h y (inr i)))

in_middle : {X : Type 0} (before : List X) (x : X) (later : List X) → In (before ++ x ∷ later) x
in_middle [] x later = inl refl
in_middle (y ∷ before) x later = inr (in_middle before x later)

not_before : (descending : Bool) (l : IdRow) (later : List IdRow) → Ascend descending (l ∷ later) → (r : IdRow) → In (l ∷ later) r → not (comes_before descending r.id l.id) ≡ true
not_before descending l later h r (inl e) = ap not (ap (λ (x : IdRow). comes_before descending x.id l.id) (sym e) ∙ irreflexive descending l.id)
not_before descending l later h r (inr i) =
    ap not (asymmetric descending l.id r.id (first_before (λ (a b : IdRow). comes_before descending a.id b.id ≡ true) l later h r i))

-- from one row on
from_one : (descending : Bool) (before : List IdRow) (l : IdRow) (later : List IdRow) → Ascend descending (before ++ l ∷ later)
    → filter (λ r. not (comes_before descending r.id l.id)) (before ++ l ∷ later) ≡ l ∷ later
from_one descending [] l later h = all_kept (λ (r : IdRow). not (comes_before descending r.id l.id)) (l ∷ later) (not_before descending l later h)
from_one descending (p ∷ before) l later h =
    let R = λ (a b : IdRow). comes_before descending a.id b.id ≡ true in
    let rest = filter (λ (r : IdRow). not (comes_before descending r.id l.id)) (before ++ l ∷ later) in
    ap (λ b. cond (not b) (p ∷ rest) rest) (first_before R p (before ++ l ∷ later) h l (in_middle before l later))
    ∙ from_one descending before l later (pairs_drop R 1 (p ∷ before ++ l ∷ later) h)

narrowed : {X : Type 0} (f g : X → Bool) (xs : List X) → ((x : X) → f x ≡ true → g x ≡ true) → filter f (filter g xs) ≡ filter f xs
narrowed f g [] h = refl
narrowed f g (x ∷ xs) h = by (g x) (f x) refl refl (narrowed f g xs h)
  where
    by : (b c : Bool) → g x ≡ b → f x ≡ c → filter f (filter g xs) ≡ filter f xs → filter f (cond b (x ∷ filter g xs) (filter g xs)) ≡ cond c (x ∷ filter f xs) (filter f xs)
    by true c wide is rest = ap (λ e. cond e (x ∷ filter f (filter g xs)) (filter f (filter g xs))) is ∙ ap (λ ys. cond c (x ∷ ys) ys) rest
    by false true wide is rest = let never = sym wide ∙ h x is in absurd cc
    by false false wide is rest = rest

-- ---- one row of a list

split_at : {X : Type 0} (k : ℕ) (xs : List X) (x : X) → slice_get xs k ≡ Some x → xs ≡ take k xs ++ x ∷ drop (suc k) xs
split_at k [] x is = absurd cc
split_at zero (y ∷ xs) x is = ap (λ z. z ∷ xs) (inside y x is)
split_at (suc k) (y ∷ xs) x is = ap (λ ys. y ∷ ys) (split_at k xs x is)

get_taken : {X : Type 0} (k : ℕ) (xs : List X) → slice_get (take (suc k) xs) k ≡ slice_get xs k
get_taken k [] = refl
get_taken zero (x ∷ xs) = refl
get_taken (suc k) (x ∷ xs) = get_taken k xs

get_dropped : {X : Type 0} (n k : ℕ) (xs : List X) → slice_get (drop n xs) k ≡ slice_get xs (n + k)
get_dropped zero k xs = let place : k ≡ 0 + k = omega arith in ap (slice_get xs) place
get_dropped (suc n) k [] = refl
get_dropped (suc n) k (x ∷ xs) = let place : suc (n + k) ≡ suc n + k = omega arith in get_dropped n k xs ∙ ap (slice_get (x ∷ xs)) place

get_mapped : {X Y : Type 0} (f : X → Y) (k : ℕ) (xs : List X) → slice_get (map f xs) k ≡ option_map f (slice_get xs k)
get_mapped f k [] = refl
get_mapped f zero (x ∷ xs) = refl
get_mapped f (suc k) (x ∷ xs) = get_mapped f k xs

there_at : {X : Type 0} (xs : List X) (k : ℕ) → k < length xs → (x : X) × (slice_get xs k ≡ Some x)
there_at [] k lt = absurd (omega (arith, lt))
there_at (x ∷ xs) zero lt = (x, refl)
there_at (x ∷ xs) (suc k) lt = there_at xs k (omega (arith, lt))

from_mapped : {X Y : Type 0} (f : X → Y) (o : Option X) (y : Y) → option_map f o ≡ Some y → (x : X) × (o ≡ Some x) × (f x ≡ y)
from_mapped f None y e = absurd cc
from_mapped f (Some x) y e = (x, refl, inside (f x) y e)

-- ---- the documents that a chunk is taken from

abbrev rows_beyond : Bool → Option (List ℕ) → Database → List IdRow
rows_beyond descending None d = documents_by_id descending d
rows_beyond descending (Some last) d = documents_from descending last d

as_rows : (descending : Bool) (last : Option (List ℕ)) (count : ℕ) (d : Database)
    → ids_beyond (Documents descending) last count d ≡ drop (passed_count last count) (map (λ r. r.id) (rows_beyond descending last d))
as_rows descending None count d = refl
as_rows descending (Some last) count d = refl

documents_ascend : (descending : Bool) (d : Database) → Ascend descending (documents_by_id descending d)
documents_ascend descending d = subst (Ascend descending) (rows_of_page descending d) (id_page_ascends (every_row descending) d)

rows_ascend : (descending : Bool) (last : Option (List ℕ)) (d : Database) → Ascend descending (rows_beyond descending last d)
rows_ascend descending None d = documents_ascend descending d
rows_ascend descending (Some last) d =
    AllPairs-filter (λ (a b : IdRow). comes_before descending a.id b.id ≡ true) (λ (r : IdRow). not (comes_before descending r.id last)) (documents_by_id descending d) (documents_ascend descending d)

is_not : (b : Bool) → not b ≡ true → b ≡ false
is_not true e = absurd cc
is_not false e = refl

-- from one of these rows on
from_row : (descending : Bool) (last : Option (List ℕ)) (d : Database) (l : IdRow) → In (rows_beyond descending last d) l
    → filter (λ r. not (comes_before descending r.id l.id)) (rows_beyond descending last d) ≡ documents_from descending l.id d
from_row descending None d l i = refl
from_row descending (Some last) d l i =
    narrowed (λ (r : IdRow). not (comes_before descending r.id l.id)) (λ (r : IdRow). not (comes_before descending r.id last)) (documents_by_id descending d)
    (λ r keeps. by r (comes_before descending r.id last) refl keeps)
  where
    above : comes_before descending l.id last ≡ false
    above = is_not _ (from_filter (λ (r : IdRow). not (comes_before descending r.id last)) (documents_by_id descending d) l i).1

    by : (r : IdRow) (b : Bool) → comes_before descending r.id last ≡ b → not (comes_before descending r.id l.id) ≡ true → not b ≡ true
    by r true is keeps = let never = sym (is_not _ keeps) ∙ before_later descending r.id last l.id is above in absurd cc
    by r false is keeps = refl

-- behind one of these rows
behind_row : (descending : Bool) (last : Option (List ℕ)) (d : Database) (k : ℕ) (l : IdRow) → slice_get (rows_beyond descending last d) k ≡ Some l
    → drop 1 (documents_from descending l.id d) ≡ drop (suc k) (rows_beyond descending last d)
behind_row descending last d k l is =
    let rows = rows_beyond descending last d in
    let cut : rows ≡ take k rows ++ l ∷ drop (suc k) rows = split_at k rows l is in
    let there : In rows l = subst (λ (rs : List IdRow). In rs l) (sym cut) (in_middle (take k rows) l (drop (suc k) rows)) in
    ap (drop 1)
    (sym (from_row descending last d l there) ∙ ap (filter (λ (r : IdRow). not (comes_before descending r.id l.id))) cut
    ∙ from_one descending (take k rows) l (drop (suc k) rows) (subst (Ascend descending) cut (rows_ascend descending last d)))

ids_behind_row : (descending : Bool) (last : Option (List ℕ)) (d : Database) (k : ℕ) (l : IdRow) → slice_get (rows_beyond descending last d) k ≡ Some l
    → drop 1 (map (λ r. r.id) (documents_from descending l.id d)) ≡ drop (suc k) (map (λ r. r.id) (rows_beyond descending last d))
ids_behind_row descending last d k l is =
    drop_map (λ (r : IdRow). r.id) 1 (documents_from descending l.id d) ∙ ap (map (λ (r : IdRow). r.id)) (behind_row descending last d k l is)
    ∙ sym (drop_map (λ (r : IdRow). r.id) (suc k) (rows_beyond descending last d))

-- ---- a chunk of documents

not_less : (m n : ℕ) → nat_lt m n ≡ false → n ≤ m
not_less m n h = grind (arith, nat_tests, h)

full : (ids : List (List ℕ)) (all : List (List ℕ)) (most : ℕ) → ids ≡ take most all → nat_lt (length ids) most ≡ false → length ids ≡ most
full ids all most is many = let a = ap length is in let b = length-take most all in let c = not_less (length ids) most many in omega (arith, a, b, c)

-- what lies behind the last one of a chunk that is full
behind_chunk : (descending : Bool) (last : Option (List ℕ)) (count m : ℕ) (d : Database) (cs : List Candidate) (next : Option (List ℕ)) (further : ℕ)
    → ids_of cs ≡ take (suc m) (drop (passed_count last count) (map (λ r. r.id) (rows_beyond descending last d))) → length cs ≡ suc m → next ≡ last_id cs
    → drop (passed_count last count + suc m) (map (λ r. r.id) (rows_beyond descending last d)) ≡ ids_beyond (Documents descending) next further d
behind_chunk descending last count m d cs next further is long at =
    let n = passed_count last count in
    let rows = rows_beyond descending last d in
    let all = map (λ (r : IdRow). r.id) rows in
    let c = there_at cs m (omega (arith, long)) in
    let place : length cs - 1 ≡ m = omega (arith, long) in
    let found : next ≡ Some c.0.id = at ∙ ap (λ k. option_map (λ (x : Candidate). x.id) (slice_get cs k)) place ∙ ap (option_map (λ (x : Candidate). x.id)) c.1 in
    let same : option_map (λ (r : IdRow). r.id) (slice_get rows (n + m)) ≡ Some c.0.id =
    sym (get_mapped (λ (r : IdRow). r.id) (n + m) rows) ∙ sym (get_dropped n m all) ∙ sym (get_taken m (drop n all)) ∙ ap (λ ids. slice_get ids m) (sym is)
    ∙ get_mapped (λ (x : Candidate). x.id) m cs ∙ ap (option_map (λ (x : Candidate). x.id)) c.1 in
    let l = from_mapped (λ (r : IdRow). r.id) (slice_get rows (n + m)) c.0.id same in
    let further_on : n + suc m ≡ suc (n + m) = omega arith in
    ap (λ k. drop k all) further_on ∙ sym (ids_behind_row descending last d (n + m) l.0 l.1)
    ∙ ap (λ o. ids_beyond (Documents descending) o further d) (sym (found ∙ ap Some (sym l.2)))

documents_left : (descending : Bool) (last : Option (List ℕ)) (count most : ℕ) (done : Bool) (d : Database) (cs : List Candidate) (next : Option (List ℕ)) (further : ℕ) → 1 ≤ most
    → ids_of cs ≡ take most (ids_beyond (Documents descending) last count d) → nat_lt (length cs) most ≡ done → next ≡ last_id cs
    → ids_beyond (Documents descending) last count d ≡ ids_of cs ++ ids_unless done (ids_beyond (Documents descending) next further d)
documents_left descending last count zero done d cs next further some is few at = absurd (omega (arith, some))
documents_left descending last count (suc m) true d cs next further some is few at =
    let all = map (λ (r : IdRow). r.id) (rows_beyond descending last d) in
    let rows = as_rows descending last count d in
    rows ∙ chunk_taken all (ids_of cs) (passed_count last count) (suc m) true (is ∙ ap (take (suc m)) rows) (ap (λ n. nat_lt n (suc m)) (length-map cs (λ (x : Candidate). x.id)) ∙ few)
documents_left descending last count (suc m) false d cs next further some is many at =
    let all = map (λ (r : IdRow). r.id) (rows_beyond descending last d) in
    let rows = as_rows descending last count d in
    let these = is ∙ ap (take (suc m)) rows in
    let counted = length-map cs (λ (x : Candidate). x.id) in
    let more = ap (λ n. nat_lt n (suc m)) counted ∙ many in
    let long : length cs ≡ suc m = sym counted ∙ full (ids_of cs) (drop (passed_count last count) all) (suc m) these more in
    rows ∙ chunk_taken all (ids_of cs) (passed_count last count) (suc m) false these more
    ∙ ap (λ ids. ids_of cs ++ ids) (behind_chunk descending last count m d cs next further these long at)

-- ---- a chunk of any source

-- the rows of an index, wherever the last one stands
pub index_ahead : (plan : Plan) (last : Option (List ℕ)) (count : ℕ) (d : Database) → ids_beyond (Index plan) last count d ≡ drop count (ids_in (Index plan) d)
index_ahead plan None count d = refl
index_ahead plan (Some last) count d = refl

pub chunk_left : (source : Source) (reached after : Reached) (most : ℕ) (done : Bool) (d : Database) (cs : List Candidate) → 1 ≤ most
    → ids_of cs ≡ take most (ids_ahead source reached d) → nat_lt (length cs) most ≡ done → after.last ≡ last_of source cs → after.count ≡ reached.count + most
    → ids_ahead source reached d ≡ ids_of cs ++ ids_unless done (ids_ahead source after d)
chunk_left (Documents descending) reached after most done d cs some is few at count =
    documents_left descending reached.last reached.count most done d cs after.last after.count some is few at
chunk_left (Index plan) reached after most done d cs some is few at count =
    let rows = index_ahead plan reached.last reached.count d in
    rows ∙ chunk_taken (ids_in (Index plan) d) (ids_of cs) reached.count most done (is ∙ ap (take most) rows) (ap (λ n. nat_lt n most) (length-map cs (λ (x : Candidate). x.id)) ∙ few)
    ∙ ap (λ ids. ids_of cs ++ ids_unless done ids) (sym (index_ahead plan after.last after.count d ∙ ap (λ n. drop n (ids_in (Index plan) d)) count))
