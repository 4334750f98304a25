-- Rows whose numbers rise, and what puts one in or takes some out.
use Rattle.tables.proofs.Common.{AllByRecursion, AreKeyed, AreNumbered, Bool, Int, IsPermutation, IsPermutation-map, List, Row, Value, [], all-filter, all_of, all_weaker, ap, ap₂, arith, filter, filter_all, filter_same, fold, has_rowid, id_in, ids_of, int_cmp, int_eq, is_eq, list_any, list_any-IsPermutation, map, map-map, map_same, match_ordering, nat_tests, next_rowid, not, number_of, pos, put_row, refl, rowid, same, sym, true, value_cmp, value_cmp-Int, whole_in_cell, without_all, without_key, without_rowid, ℤ, ◌&&◌, ◌++◌, ◌+ℤ◌, ◌||◌, ◌∙◌, ◌∷◌, ◌≡◌}
use Rattle.sqlite_keyed.specs.Keyed.{insert_by, next_key}
use Rattle.sqlite_keyed.proofs.SliceLemmas.{insert_next}
use Rattle.sqlite_keyed.proofs.WriteLemmas.{removes_delete}
use Rattle.sqlite_trees.proofs.ListLemmas.{filter_same as filter_on}
use Rattle.tables.proofs.RowMaps.{filter_both}

pub same_whole : (v : Value) → id_in v ≡ whole_in_cell v
same_whole (Int n) = refl
same_whole v = refl

next_same : (start : ℤ) (rows : List Row) → fold (λ _ r. id_in (rowid r) +ℤ pos 1) start rows ≡ fold (λ _ r. number_of r +ℤ pos 1) start rows
next_same start [] = refl
next_same start (r ∷ rows) = ap (λ n. fold (λ _ q. id_in (rowid q) +ℤ pos 1) (n +ℤ pos 1) rows) (same_whole (rowid r)) ∙ next_same (number_of r +ℤ pos 1) rows

pub next_is : (rows : List Row) → next_rowid rows ≡ next_key number_of rows
next_is rows = next_same (pos 1) rows

-- a row that is put in comes in by its number
pub put_same : (new : Row) (rows : List Row) → AllByRecursion (λ r. rowid r ≡ Int (number_of r)) rows → rowid new ≡ Int (number_of new) → put_row new rows ≡ insert_by number_of rows new
put_same new [] all own = refl
put_same new (r ∷ rows) all own =
    let tests : value_cmp (rowid r) (rowid new) ≡ int_cmp (number_of r) (number_of new) = ap₂ value_cmp all.0 own ∙ value_cmp-Int (number_of r) (number_of new) in
    ap (λ o. match_ordering o (r ∷ put_row new rows) (new ∷ rows) (new ∷ r ∷ rows)) tests
    ∙ ap (λ l. match_ordering (int_cmp (number_of r) (number_of new)) (r ∷ l) (new ∷ rows) (new ∷ r ∷ rows)) (put_same new rows all.1 own)

-- a row of the next number stands behind all others
pub appends : (rows : List Row) (cells : Row) → AreNumbered rows → put_row (Int (next_rowid rows) ∷ cells) rows ≡ rows ++ (Int (next_rowid rows) ∷ cells) ∷ []
appends rows cells h = put_same _ rows h.numbers refl ∙ insert_next number_of rows (Int (next_rowid rows) ∷ cells) h.rising (next_is rows)

pub numbered_from_keyed : (rows : List Row) → AreKeyed rows → AreNumbered rows
numbered_from_keyed rows h = record { numbers = all_weaker _ (λ r. rowid r ≡ Int (number_of r)) (λ r k. k.number) rows h.keyed; rising = h.rising }

-- ---- rows that are taken out

-- the rows whose number is not among these
without_filter : (rows : List Row) (ids : List ℤ) → without_all rows ids ≡ filter (λ r. not (list_any (λ id. has_rowid id r) ids)) rows
without_filter rows [] = sym (filter_all (λ r. true) rows (all_of (λ r. true ≡ true) (λ r. refl) rows))
without_filter rows (id ∷ ids) =
    without_filter (without_rowid id rows) ids ∙ filter_both (λ r. not (list_any (λ i. has_rowid i r) ids)) (λ r. not (has_rowid id r)) rows
    ∙ filter_same (λ r. not (has_rowid id r) && not (list_any (λ i. has_rowid i r) ids)) (λ r. not (has_rowid id r || list_any (λ i. has_rowid i r) ids)) (λ r. grind (arith, nat_tests)) rows

in_any_order : (rows : List Row) (ids others : List ℤ) → IsPermutation ids others → without_all rows ids ≡ without_all rows others
in_any_order rows ids others same =
    without_filter rows ids ∙ filter_same _ _ (λ r. ap not (list_any-IsPermutation (λ id. has_rowid id r) ids others same)) rows ∙ sym (without_filter rows others)

has_same : (id : ℤ) (r : Row) → rowid r ≡ Int (number_of r) → not (has_rowid id r) ≡ not (int_eq (number_of r) id)
has_same id r own = ap (λ v. not (is_eq (value_cmp v (Int id)))) own ∙ ap (λ o. not (is_eq o)) (value_cmp-Int (number_of r) id)

without_same : (rows : List Row) (ids : List ℤ) → AllByRecursion (λ r. rowid r ≡ Int (number_of r)) rows → without_all rows ids ≡ fold (without_key number_of) rows ids
without_same rows [] all = refl
without_same rows (id ∷ ids) all =
    ap (λ l. without_all l ids) (filter_on (λ r. not (has_rowid id r)) (λ r. not (int_eq (number_of r) id)) rows (all_weaker _ (λ r. not (has_rowid id r) ≡ not (int_eq (number_of r) id)) (λ r own. has_same id r own) rows all))
    ∙ without_same (without_key number_of rows id) ids (all-filter _ _ rows all)

-- to take out the rows that a query found is to keep the others
pub removes_by : (show : Row → Row) → ((r : Row) → rowid (show r) ≡ rowid r) → (p : Row → Bool) (rows found : List Row) → AreNumbered rows → IsPermutation (map show (filter p rows)) found
    → without_all rows (ids_of found) ≡ filter (λ r. not (p r)) rows
removes_by show keeps p rows found h same =
    let moved : IsPermutation (ids_of (map show (filter p rows))) (ids_of found) = IsPermutation-map (λ r. id_in (rowid r)) _ _ same in
    let ids : ids_of (map show (filter p rows)) ≡ map number_of (filter p rows) =
    map-map (λ r. id_in (rowid r)) show (filter p rows) ∙ map_same _ _ (λ r. ap id_in (keeps r) ∙ same_whole (rowid r)) (filter p rows) in
    sym (in_any_order rows _ _ moved) ∙ ap (without_all rows) ids ∙ without_same rows (map number_of (filter p rows)) h.numbers ∙ removes_delete number_of p rows h.rising

pub removes : (p : Row → Bool) (rows found : List Row) → AreNumbered rows → IsPermutation (map (λ r. rowid r ∷ []) (filter p rows)) found → without_all rows (ids_of found) ≡ filter (λ r. not (p r)) rows
removes = removes_by (λ r. rowid r ∷ []) (λ r. refl)
