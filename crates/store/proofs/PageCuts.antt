-- The page that is cut from rows by sequence.
use Rattle.std.proofs.Common.{◌≡◌, ℕ, ◌<◌, ◌^◌, List, [], ◌∷◌, min, nat_lt, Option, IfSome, is_some, suc, refl, sym, ap, subst, ◌∙◌, inl, inr, arith}
use Rattle.std.specs.List.{All}
use Rattle.store.specs.Pages.{SequencePage, SequenceRow, last_sequence, later_rows, sequence_page}
use Rattle.store.specs.PageStructs.{AreBounded, IsBounded, sequence_page_of, sequence_row_of, sequence_rows}
use Rattle.store.specs.declared.listing.DocumentCounts.{DocumentCounts}
use Rattle.store.specs.declared.listing.PageBySeq.{PageBySeq}
use Rattle.store.specs.declared.listing.SeqRange.{SeqRange}
use Rattle.store.specs.declared.listing.SeqRow.{SeqRow}
use Rattle.store.proofs.Among.{all_in, from_filter, from_limited, from_map, in_map}
use Rattle.store.proofs.Listings.{In}

pub cut_made : (range : SeqRange) (n last : ℕ) (counts : Option DocumentCounts) (all cut : List SequenceRow) → cut ≡ later_rows range all → last ≡ last_sequence (min range.since n) cut
    → record { rows = cut; last = last; sequence = n; counts = counts } ≡ sequence_page range n counts all
cut_made range n last counts all cut made at =
    let end = at ∙ ap (last_sequence (min range.since n)) made in
    λ i. record { rows = made i; last = end i; sequence = n; counts = counts }

-- ---- bounds

from_all : {X : Type 0} (P : X → Type 0) (xs : List X) → All P xs → (x : X) → In xs x → P x
from_all P [] h x i = absurd i
from_all P (y ∷ ys) h x (inl e) = subst P e (h 0 y (omega arith))
from_all P (y ∷ ys) h x (inr i) = from_all P ys (λ k d lt. h (suc k) d (omega (arith, lt))) x i

last_below : (n otherwise : ℕ) (rs : List SequenceRow) → otherwise < n → ((r : SequenceRow) → In rs r → r.sequence < n) → last_sequence otherwise rs < n
last_below n otherwise [] lt h = lt
last_below n otherwise (r ∷ rs) lt h = last_below n r.sequence rs (h r (inl refl)) (λ q i. h q (inr i))

least_below : (a b n : ℕ) → b < n → min a b < n
least_below a b n lt = omega (arith, lt)

row_below : (range : SeqRange) (n : ℕ) (rows : List SeqRow) → All (λ r. r.sequence < n) rows → (r : SequenceRow) → In (later_rows range (sequence_rows rows)) r → r.sequence < n
row_below range n rows all r i =
    let later = from_filter (λ q. nat_lt range.since q.sequence) (sequence_rows rows) r (from_limited range.limit _ r i) in
    let e = from_map sequence_row_of rows r later.0 in
    subst (λ k. k < n) (ap (λ (q : SequenceRow). q.sequence) e.2) (from_all (λ q. q.sequence < n) rows all e.0 e.1)

pub cut_bounded : (range : SeqRange) (n : ℕ) (counts : Option DocumentCounts) (rows : List SeqRow) (p : PageBySeq) → sequence_page_of p ≡ sequence_page range n counts (sequence_rows rows)
    → AreBounded range n counts rows → IsBounded range p
cut_bounded range n counts rows p is b =
    let below = row_below range (2 ^ 63) rows b.rows in
    let same : sequence_rows p.rows.items ≡ later_rows range (sequence_rows rows) = ap (λ (q : SequencePage). q.rows) is in
    let told : p.counts ≡ counts = ap (λ (q : SequencePage). q.counts) is in
    let last : p.last_seq ≡ last_sequence (min range.since n) (later_rows range (sequence_rows rows)) = ap (λ (q : SequencePage). q.last) is in
    record {
      sequence = omega (arith, ap (λ (q : SequencePage). q.sequence) is, b.sequence);
      last = omega (arith, last, last_below (2 ^ 63) (min range.since n) (later_rows range (sequence_rows rows)) (least_below range.since n (2 ^ 63) b.sequence) below);
      rows = all_in (λ r. r.sequence < 2 ^ 63) p.rows.items (λ r i. below (sequence_row_of r) (subst (λ qs. In qs (sequence_row_of r)) same (in_map sequence_row_of p.rows.items r i)));
      counted = ap is_some told ∙ b.counted;
      counts = subst (λ (o : Option DocumentCounts). IfSome {T = DocumentCounts} o (λ c. (c.documents < 2 ^ 63) × (c.deleted < 2 ^ 63))) (sym told) b.counts;
    }
