-- Rows that are taken page by page are the rows.
use Rattle.std.proofs.Common.{◌≡◌, ℕ, zero, suc, ◌+◌, ◌-◌, ◌<◌, ◌≤◌, ◌^◌, List, [], ◌∷◌, ◌++◌, Bool, true, false, not, filter, length, map, min, take, drop, Option, Some, None, refl, sym, ap, subst, ◌∙◌, arith, append_assoc}
use Rattle.std.proofs.lemmas.List.{drop-drop, length-drop, length-reverse, length-take, map-append, take_all}
use Rattle.std.proofs.lemmas.List.Filters.{length-filter_both}
use Rattle.std.specs.FinMap.{entries}
use Rattle.std.specs.Prelude.{Ok, option_map}
use Rattle.couch_json.specs.Value.{Value}
use Rattle.store.specs.Database.{Database}
use Rattle.store.specs.Indexes.{IndexPlace, index_rows}
use Rattle.store.specs.KeyPages.{KeyPage, is_key_within, key_counts, key_page, key_rows_within}
use Rattle.store.specs.Pages.{in_direction, is_within, live_rows, up_to_limit}
use Rattle.store.specs.declared.index_page.KeyRange.{KeyRange}
use Rattle.store.specs.declared.listing.IdRange.{IdRange}
use Rattle.store.specs.declared.listing.IdRow.{IdRow}
use Rattle.store.specs.declared.listing.RowCounts.{RowCounts}
use Rattle.tree.proofs.Shown.{inside}
use Rattle.read.specs.Listing.{listing_of}
use Rattle.read.specs.inner.RowsSoFar.{AreCountable, whole_list, greatest_number, page_size, rows_by_fields, rows_by_id, rows_wanted}
use Rattle.read.specs.Shown.{found}
use Rattle.read.specs.Views.{key_listing, key_row_object}
use Rattle.read.specs.declared.listing_pages.RowsSoFar.{RowsSoFar}
use Rattle.read.proofs.ChangePages.{take_parts}

-- ---- how many there are

directed : {X : Type 0} (descending : Bool) (rows : List X) → length (in_direction descending rows) ≡ length rows
directed true rows = length-reverse rows
directed false rows = refl

fewer : {X : Type 0} (keeps : X → Bool) (rows : List X) → length (filter keeps rows) ≤ length rows
fewer keeps rows = omega (arith, length-filter_both keeps (λ x. not (keeps x)) (λ x. refl) rows)

pub few_by_id : (range : IdRange) (d : Database) → AreCountable (live_rows (entries d.documents)) → AreCountable (rows_by_id range d)
few_by_id range d h =
    let rows = live_rows (entries d.documents) in
    omega (arith, h, directed range.descending rows, fewer (λ (r : IdRow). is_within range r.id) (in_direction range.descending rows))

pub few_by_key : (range : KeyRange) (rows : List IndexPlace) → AreCountable rows → AreCountable (key_rows_within range rows)
few_by_key range rows h =
    omega (arith, h, directed range.descending rows, fewer (λ (r : IndexPlace). is_key_within range r.key) (in_direction range.descending rows))

-- no limit asks for all rows
pub unlimited : {X : Type 0} (limit : Option ℕ) (skip : ℕ) (rows : List X) → AreCountable rows → take (rows_wanted limit) (drop skip rows) ≡ up_to_limit limit (drop skip rows)
unlimited None skip rows h = take_all greatest_number (drop skip rows) (omega (arith, h, length-drop skip rows))
unlimited (Some n) skip rows h = refl

-- ---- a list of an index

-- the range with another part of its rows
abbrev pub part_of : KeyRange → ℕ → ℕ → Bool → KeyRange
part_of range skip most counted = record { low = range.low; high = range.high; descending = range.descending; skip = skip; limit = Some most; counted = counted }

-- before any row has come, all rows are to come
pub begun : (range : KeyRange) (d : Database) (declared : Option (List (List ℕ))) (so_far : RowsSoFar) (page : KeyPage) (counts : RowCounts)
    → option_map (λ fields. key_page (part_of range range.skip 0 true) (index_rows fields d)) declared ≡ Some page → page.counts ≡ Some counts → counts.total < 2 ^ 63
    → so_far ≡ record { skip = range.skip; left = rows_wanted range.limit; rows = [] }
    → AreCountable (rows_by_fields range d declared) × (Ok (listing_of (whole_list key_row_object (rows_by_fields range d declared) so_far) counts) ≡ found (option_map (key_listing range d) declared))
begun range d None so_far page counts paged is bounded fresh = absurd cc
begun range d (Some fields) so_far page counts paged is bounded fresh =
    let rows = index_rows fields d in
    let all = key_rows_within range rows in
    let counted : key_counts range rows ≡ counts = inside _ _ (ap (λ (p : KeyPage). p.counts) (inside _ _ paged) ∙ is) in
    let countable : AreCountable all = few_by_key range rows (subst (λ n. n < 2 ^ 63) (sym (ap (λ (k : RowCounts). k.total) counted)) bounded) in
    let listed : whole_list key_row_object all so_far ≡ map key_row_object (key_page range rows).rows =
    ap (whole_list key_row_object all) fresh ∙ ap (map key_row_object) (unlimited range.limit range.skip all countable) in
    (countable, λ i. Ok (listing_of (listed i) (sym counted i)))

pub next_by_key : (range : KeyRange) (skip most : ℕ) (counted : Bool) (d : Database) (declared : Option (List (List ℕ))) (page : KeyPage)
    → option_map (λ fields. key_page (part_of range skip most counted) (index_rows fields d)) declared ≡ Some page → page.rows ≡ take most (drop skip (rows_by_fields range d declared))
next_by_key range skip most counted d None page paged = absurd cc
next_by_key range skip most counted d (Some fields) page paged = sym (ap (λ (p : KeyPage). p.rows) (inside _ _ paged))

-- ---- one more page

drop_taken : {X : Type 0} (k : ℕ) (rows : List X) → drop k rows ≡ drop (length (take k rows)) rows
drop_taken zero rows = refl
drop_taken (suc k) [] = refl
drop_taken (suc k) (y ∷ ys) = drop_taken k ys

-- the rows of a page end where there are rows
bounded : {X : Type 0} (k s : ℕ) (all rows : List X) → rows ≡ take k (drop s all) → AreCountable all → 0 < length rows → min (s + length rows) greatest_number ≡ s + length rows
bounded k s all rows are h some =
    omega (arith, ap length are, length-take k (drop s all), length-drop s all, h, some)

pub advanced : {X : Type 0} (shown : X → Value) (all rows : List X) (before after : RowsSoFar) → AreCountable all → rows ≡ take (page_size before) (drop before.skip all) → 0 < length rows
    → after.rows ≡ before.rows ++ map shown rows → after.left ≡ before.left - length rows → after.skip ≡ min (before.skip + length rows) greatest_number
    → whole_list shown all after ≡ whole_list shown all before
advanced shown all rows before after h are some listed left skip =
    let s = before.skip in
    let k = page_size before in
    let come = take (before.left - length rows) (drop (s + length rows) all) in
    let coming : take after.left (drop after.skip all) ≡ come = λ i. take (left i) (drop ((skip ∙ bounded k s all rows are h some) i) all) in
    let behind : take (before.left - length (take k (drop s all))) (drop k (drop s all)) ≡ come =
    ap (take (before.left - length (take k (drop s all)))) (drop_taken k (drop s all) ∙ drop-drop (length (take k (drop s all))) s all)
    ∙ (λ i. take (before.left - length (sym are i)) (drop (s + length (sym are i)) all)) in
    let to_come : take before.left (drop s all) ≡ rows ++ come =
    take_parts before.left k (drop s all) (omega arith) ∙ (λ i. sym are i ++ behind i) in
    (λ i. listed i ++ map shown (coming i)) ∙ append_assoc before.rows (map shown rows) (map shown come)
    ∙ ap (λ vs. before.rows ++ vs) (sym (map-append shown rows come) ∙ sym (ap (map shown) to_come))
