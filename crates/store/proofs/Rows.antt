-- The rows of a page by sequence beside the documents of the database.
use Rattle.std.proofs.Common.{◌≡◌, ℕ, ◌<◌, ◌≤◌, List, [], ◌∷◌, min, nat_lt, true, Some, None, refl, sym, ap, ◌∙◌, inl, inr, arith}
use Rattle.std.proofs.lemmas.Bool.Decides.{nat_tests}
use Rattle.std.specs.List.{All}
use Rattle.std.specs.FinMap as finite
use Rattle.tree.proofs.Kept.{true_from_T}
use Rattle.store.specs.Database.{Database, Document, HasSequences}
use Rattle.store.specs.Pages.{IsRowOf, SequenceRow, in_sequence, last_sequence, page_by_sequence, put_in_sequence, row_of, rows_of}
use Rattle.store.specs.declared.listing.SeqRange.{SeqRange}
use Rattle.store.proofs.Among.{all_in, from_filter, from_limited, from_map, from_put, in_filter, in_found_at}
use Rattle.store.proofs.Listings.{Entry, In, each_has_its_row, in_found}

from_sequence : (rs : List SequenceRow) (r : SequenceRow) → In (in_sequence rs) r → In rs r
from_sequence [] r i = absurd i
from_sequence (q ∷ rs) r i = elim (from_put q.sequence q (put_in_sequence rs []) r i) as (λ _. In (q ∷ rs) r) [ inl e ↦ inl e | inr k ↦ inr (from_sequence rs r k) ]

entry_there : (db : Database) (e : Entry) → In (finite.entries db.documents) e → finite.get db.documents e.0 ≡ Some e.1
entry_there db e i = finite.get-entries db.documents e.0 ∙ in_found (finite.entries db.documents) e (true_from_T _ (finite.entries_sorted db.documents)) i

pub row_from : (range : SeqRange) (db : Database) (r : SequenceRow) → In (page_by_sequence range db).rows r → IsRowOf range db r
row_from range db r i =
    let all = rows_of range.all_leaves (finite.entries db.documents) in
    let later = from_filter (λ q. nat_lt range.since q.sequence) (in_sequence all) r (from_limited range.limit _ r i) in
    let e = from_map (row_of range.all_leaves) (finite.entries db.documents) r (from_sequence all r later.0) in
    let key : e.0.0 ≡ r.id = ap (λ (q : SequenceRow). q.id) e.2 in
    let after : range.since < r.sequence = grind (arith, nat_tests, later.1) in
    record {
      document = e.0.1;
      there = ap (finite.get db.documents) (sym key) ∙ entry_there db e.0 e.1;
      later = omega (arith, after, ap (λ (q : SequenceRow). q.sequence) e.2);
      is = ap (λ k. row_of range.all_leaves (k, e.0.1)) (sym key) ∙ e.2;
    }

pub row_there : (range : SeqRange) (db : Database) (id : List ℕ) (d : Document) → HasSequences db → range.limit ≡ None → finite.get db.documents id ≡ Some d → range.since < d.sequence
    → In (page_by_sequence range db).rows (row_of range.all_leaves (id, d))
row_there range db id d h none there after =
    let r = row_of range.all_leaves (id, d) in
    let all = rows_of range.all_leaves (finite.entries db.documents) in
    let placed = in_found_at d.sequence (put_in_sequence all []) r (each_has_its_row range.all_leaves db id d h there) in
    let late : nat_lt range.since d.sequence ≡ true = grind (arith, nat_tests, after) in
    let i = in_filter (λ q. nat_lt range.since q.sequence) (in_sequence all) r placed late in
    rw none i

-- ---- no sequence is above the length

pub rows_within : (range : SeqRange) (db : Database) → HasSequences db → All (λ r. r.sequence ≤ db.length) (page_by_sequence range db).rows
rows_within range db h =
    all_in (λ r. r.sequence ≤ db.length) (page_by_sequence range db).rows
    (λ r i. let row = row_from range db r i in omega (arith, ap (λ (q : SequenceRow). q.sequence) row.is, h.within r.id row.document row.there))

last_within : (n otherwise : ℕ) (rs : List SequenceRow) → otherwise ≤ n → ((r : SequenceRow) → In rs r → r.sequence ≤ n) → last_sequence otherwise rs ≤ n
last_within n otherwise [] le h = le
last_within n otherwise (r ∷ rs) le h = last_within n r.sequence rs (h r (inl refl)) (λ q i. h q (inr i))

least : (a b : ℕ) → min a b ≤ b
least a b = omega arith

pub page_within : (range : SeqRange) (db : Database) → HasSequences db → (page_by_sequence range db).last ≤ db.length
page_within range db h =
    last_within db.length (min range.since db.length) (page_by_sequence range db).rows (least range.since db.length)
    (λ r i. let row = row_from range db r i in omega (arith, ap (λ (q : SequenceRow). q.sequence) row.is, h.within r.id row.document row.there))
