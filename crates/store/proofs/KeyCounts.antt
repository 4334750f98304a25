-- The pages by key: what is counted, and what the contents of a plain store list.
use Rattle.std.proofs.Common.{◌≡◌, ◌+◌, ◌≤◌, ℕ, List, [], length, min, drop, Bool, true, false, cond, not, ◌&&◌, Option, option_map, refl, ap, ap₂, ◌∙◌, arith}
use Rattle.std.proofs.lemmas.List.{drop_min}
use Rattle.std.proofs.lemmas.List.Sums.{length-filter}
use Rattle.std.specs.FinMap as finite
use Rattle.std.specs.List.{count_by}
use Rattle.couch_json.specs.Value.{Value}
use Rattle.store.specs.Indexes.{IndexPlace, index_fields_of}
use Rattle.store.specs.KeyPages.{is_above, is_key_before, is_key_within, key_page, key_rows_within, page_of_keys}
use Rattle.store.specs.Pages.{if_counted, in_direction, up_to_limit}
use Rattle.store.specs.Plain.{content, gathered_after, history_after, places_over}
use Rattle.store.specs.Writing.{additions}
use Rattle.store.specs.declared.index_page.KeyRange.{KeyRange}
use Rattle.store.specs.declared.listing.RowCounts.{RowCounts}
use Rattle.store.specs.declared.plain.PlainDatabase.{PlainDatabase}
use Rattle.store.proofs.Contents.{history_at-content}
use Rattle.store.proofs.PageStructs.{apart, count-directed, entries-content, length-directed}

not_both : (descending low high : Bool) → cond descending high (not low) ≡ true → (low && not high) ≡ false
not_both true true true h = refl
not_both true true false h = absurd cc
not_both true false high h = refl
not_both false true high h = absurd cc
not_both false false high h = refl

before_not_within : (range : KeyRange) (key : Value) → is_key_before range key ≡ true → is_key_within range key ≡ false
before_not_within range key h = not_both range.descending (is_above true range.low key) (is_above false range.high key) h

-- the rows before the range and those of the range are not more than there are
pub counted_key_within : (range : KeyRange) (rs : List IndexPlace) → count_by (λ r. is_key_before range r.key) rs + length (key_rows_within range rs) ≤ length rs
counted_key_within range rs =
    let ds = in_direction range.descending rs in
    let p = λ (r : IndexPlace). is_key_before range r.key in
    let before = length-filter p ds ∙ count-directed range.descending p rs in
    omega (arith, before, apart p (λ r. is_key_within range r.key) (λ r. before_not_within range r.key) ds, length-directed range.descending rs)

pub key_page_made : (range : KeyRange) (before skipped total : ℕ) (counts : Option RowCounts) (all within cut rs : List IndexPlace) → all ≡ rs → before ≡ count_by (λ r. is_key_before range r.key) all
    → within ≡ key_rows_within range all → skipped ≡ min range.skip (length within) → cut ≡ up_to_limit range.limit (drop skipped within) → total ≡ length all
    → counts ≡ if_counted range.counted (record { offset = before + skipped; total = total })
    → record { rows = cut; counts = counts } ≡ key_page range rs
key_page_made range before skipped total counts all within cut rs is count made least at sum told =
    let counted = count ∙ ap (count_by (λ r. is_key_before range r.key)) is in
    let rows = made ∙ ap (key_rows_within range) is in
    let left = least ∙ ap (λ ws. min range.skip (length ws)) rows in
    let page = at ∙ ap (λ n. up_to_limit range.limit (drop n within)) least ∙ ap (up_to_limit range.limit) (drop_min range.skip within) ∙ ap (λ ws. up_to_limit range.limit (drop range.skip ws)) rows in
    let summed = sum ∙ ap length is in
    λ i. record { rows = page i; counts = (told ∙ (λ j. if_counted range.counted (record { offset = counted j + left j; total = summed j }))) i }

-- the page of what a plain store holds
pub page_of_keys-content : (range : KeyRange) (design name : List ℕ) (d : PlainDatabase) → page_of_keys range design name (content d)
    ≡ option_map (λ fields. key_page range (places_over fields (gathered_after 0 [] (additions d.writes.items)))) (index_fields_of design (history_after finite.empty design (additions d.writes.items)) name)
page_of_keys-content range design name d =
    ap₂ (λ es h. option_map (λ fields. key_page range (places_over fields es)) (index_fields_of design h name)) (entries-content d) (history_at-content d design)
