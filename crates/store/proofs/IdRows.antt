-- The rows of a page by id beside the documents of the database.
use Rattle.std.proofs.Common.{◌≡◌, List, [], ◌∷◌, AllPairs, Bool, true, false, Option, Some, None, nat_cmp, refl, sym, ap, subst, ◌∙◌, inl, inr, arith}
use Rattle.std.proofs.lemmas.List.Kept.{AllPairs-cons, AllPairs-filter}
use Rattle.std.specs.declared.cmp.Ordering.TheVariants.{Less}
use Rattle.std.specs.Ordering.{is_lt}
use Rattle.std.specs.Cmp.{first_so, second_so}
use Rattle.std.specs.Cmp.Lexicographic.{slice_cmp}
use Rattle.std.specs.FinMap as finite
use Rattle.std.specs.FinMap.{is_sorted}
use Rattle.tree.specs.Revision.{Revision}
use Rattle.tree.proofs.Kept.{true_from_T}
use Rattle.store.specs.Database.{Database}
use Rattle.store.specs.Pages.{IsIdRowOf, comes_before, in_direction, is_within, live_rev, live_rows, page_of_ids, with_row}
use Rattle.store.specs.declared.listing.IdRange.{IdRange}
use Rattle.store.specs.declared.listing.IdRow.{IdRow}
use Rattle.store.proofs.Among.{all_in, from_filter, from_limited, in_filter}
use Rattle.store.proofs.Directed.{from_directed, from_drop, in_directed, pairs_drop, pairs_reverse}
use Rattle.store.proofs.Listings.{Entry, In, below_in, found_in, in_found}
use Rattle.store.proofs.RowOrders.{pairs_limited}

-- ---- a row for each entry whose winner lives

-- the entry whose row it is
pub record IsRowIn (es : List Entry) (r : IdRow) : Type 0 where
  pub entry : Entry
  pub among : In es entry
  pub key : entry.0 ≡ r.id
  pub live : live_rev entry.1.history ≡ Some r.rev

from_row : (e : Entry) (o : Option Revision) (es : List Entry) (r : IdRow) → live_rev e.1.history ≡ o → (In (live_rows es) r → IsRowIn es r) → In (with_row e.0 o (live_rows es)) r → IsRowIn (e ∷ es) r
from_row e None es r is rest i = let k = rest i in record { entry = k.entry; among = inr k.among; key = k.key; live = k.live }
from_row e (Some v) es r is rest (inl i) = record { entry = e; among = inl refl; key = ap (λ (x : IdRow). x.id) i; live = is ∙ ap (λ (x : IdRow). Some x.rev) i }
from_row e (Some v) es r is rest (inr i) = let k = rest i in record { entry = k.entry; among = inr k.among; key = k.key; live = k.live }

from_live : (es : List Entry) (r : IdRow) → In (live_rows es) r → IsRowIn es r
from_live [] r i = absurd i
from_live (e ∷ es) r i = from_row e (live_rev e.1.history) es r refl (from_live es r) i

row_first : (e : Entry) (o : Option Revision) (rs : List IdRow) (v : Revision) → o ≡ Some v → In (with_row e.0 o rs) (record { id = e.0; rev = v })
row_first e None rs v is = cc
row_first e (Some u) rs v is = inl (ap (λ (x : Option Revision). record { id = e.0; rev = or u x }) is)
  where
    or : Revision → Option Revision → Revision
    or u None = u
    or u (Some w) = w

row_later : (e : Entry) (o : Option Revision) (rs : List IdRow) (r : IdRow) → In rs r → In (with_row e.0 o rs) r
row_later e None rs r i = i
row_later e (Some v) rs r i = inr i

in_live : (es : List Entry) (e : Entry) (v : Revision) → In es e → live_rev e.1.history ≡ Some v → In (live_rows es) (record { id = e.0; rev = v })
in_live [] e v i is = absurd i
in_live (f ∷ es) e v (inl i) is = subst (λ (x : Entry). In (live_rows (f ∷ es)) (record { id = x.0; rev = v })) i (row_first f (live_rev f.1.history) (live_rows es) v (ap (λ (x : Entry). live_rev x.1.history) i ∙ is))
in_live (f ∷ es) e v (inr i) is = row_later f (live_rev f.1.history) (live_rows es) _ (in_live es e v i is)

-- ---- both ways

pub id_row_from : (range : IdRange) (db : Database) (r : IdRow) → In (page_of_ids range db).rows r → IsIdRowOf range db r
id_row_from range db r i =
    let es = finite.entries db.documents in
    let within = from_filter (λ (q : IdRow). is_within range q.id) (in_direction range.descending (live_rows es)) r (from_drop range.skip _ r (from_limited range.limit _ r i)) in
    let k = from_live es r (from_directed range.descending (live_rows es) r within.0) in
    let there = finite.get-entries db.documents k.entry.0 ∙ in_found es k.entry (true_from_T _ (finite.entries_sorted db.documents)) k.among in
    record { document = k.entry.1; there = ap (finite.get db.documents) (sym k.key) ∙ there; live = k.live; within = within.1 }

pub id_row_there : (range : IdRange) (db : Database) (r : IdRow) → range.limit ≡ None → range.skip ≡ 0 → IsIdRowOf range db r → In (page_of_ids range db).rows r
id_row_there range db r none no_skip h =
    let es = finite.entries db.documents in
    let i = found_in es r.id h.document (sym (finite.get-entries db.documents r.id) ∙ h.there) in
    let live = in_directed range.descending (live_rows es) r (in_live es (r.id, h.document) r.rev i h.live) in
    let within = in_filter (λ (q : IdRow). is_within range q.id) (in_direction range.descending (live_rows es)) r live h.within in
    rw (none, no_skip) within

-- ---- in order

live_ascends : (es : List Entry) → is_sorted (slice_cmp nat_cmp) es ≡ true → AllPairs (λ (a b : IdRow). slice_cmp nat_cmp a.id b.id ≡ Less) (live_rows es)
live_ascends [] h = λ i j d lt within. absurd (omega arith)
live_ascends (e ∷ es) h = by (live_rev e.1.history) (live_ascends es (second_so _ _ h))
  where
    by : (o : Option Revision) → AllPairs (λ (a b : IdRow). slice_cmp nat_cmp a.id b.id ≡ Less) (live_rows es) → AllPairs (λ (a b : IdRow). slice_cmp nat_cmp a.id b.id ≡ Less) (with_row e.0 o (live_rows es))
    by None rest = rest
    by (Some v) rest =
        AllPairs-cons (λ (a b : IdRow). slice_cmp nat_cmp a.id b.id ≡ Less) (record { id = e.0; rev = v }) (live_rows es)
        (all_in (λ (b : IdRow). slice_cmp nat_cmp e.0 b.id ≡ Less) (live_rows es)
        (λ b i. let k = from_live es b i in ap (slice_cmp nat_cmp e.0) (sym k.key) ∙ below_in e.0 es k.entry (first_so _ _ h) k.among)) rest

pairs_weaker : {X : Type 0} (R S : X → X → Type 0) (xs : List X) → ((a b : X) → R a b → S a b) → AllPairs R xs → AllPairs S xs
pairs_weaker R S xs k h = λ i j d lt within. k _ _ (h i j d lt within)

directed_ascends : (descending : Bool) (rs : List IdRow) → AllPairs (λ (a b : IdRow). slice_cmp nat_cmp a.id b.id ≡ Less) rs → AllPairs (λ (a b : IdRow). comes_before descending a.id b.id ≡ true) (in_direction descending rs)
directed_ascends true rs h =
    pairs_reverse (λ (a b : IdRow). comes_before true a.id b.id ≡ true) rs
    (pairs_weaker (λ (a b : IdRow). slice_cmp nat_cmp a.id b.id ≡ Less) (λ (a b : IdRow). comes_before true b.id a.id ≡ true) rs (λ a b e. ap is_lt e) h)
directed_ascends false rs h = pairs_weaker (λ (a b : IdRow). slice_cmp nat_cmp a.id b.id ≡ Less) (λ (a b : IdRow). comes_before false a.id b.id ≡ true) rs (λ a b e. ap is_lt e) h

pub id_page_ascends : (range : IdRange) (db : Database) → AllPairs (λ (a b : IdRow). comes_before range.descending a.id b.id ≡ true) (page_of_ids range db).rows
id_page_ascends range db =
    let es = finite.entries db.documents in
    pairs_limited (λ (a b : IdRow). comes_before range.descending a.id b.id ≡ true) range.limit _
    (pairs_drop (λ (a b : IdRow). comes_before range.descending a.id b.id ≡ true) range.skip _
    (AllPairs-filter (λ (a b : IdRow). comes_before range.descending a.id b.id ≡ true) _ _ (directed_ascends range.descending (live_rows es) (live_ascends es (true_from_T _ (finite.entries_sorted db.documents))))))
