-- The histories that the rows hold once the new revisions of a write are put in.
use Rattle.tables.proofs.Common.{AllByRecursion, Bool, Entry, HistoryContent, IsAscending, List, Node, None, Option, Revision, Row, Some, [], all-append, all_both, all_kept, all_unmap, all_weaker, ap, append-nil, append_assoc, ascending-append, both_ways, bytes_eq, cond, db_of, entry_of, eq_by_cmp, false, filter, find-append, from_entries, get, get-from_entries, get-with_entries, history_in_rows, id_of, int_eq, is_known, is_row_of_document, is_some, map, next_number, none_from_any, not, or, refl, revision_cells, revision_cmp, revision_cmp_exact, revision_cmp_total, revision_of_row, revision_row, same_map, sym, tied, true, with_cells, with_entries, with_revisions, ℕ, ℤ, ◌&&◌, ◌++◌, ◌∙◌, ◌∷◌, ◌≡◌, ◌≢◌}
use Rattle.std.specs.FinMap.{find}
use Rattle.std.specs.FinMap.Entries.{find-where_key, is_some-find}
use Rattle.sqlite_keyed.proofs.SliceLemmas.{slice-push_mine, slice-push_other}
use Rattle.tables.proofs.ReplacedRows.{is_own}

abbrev node : Row → Node
node r = (revision_of_row r, entry_of r)

-- ---- histories alone

entries_more : (xs ys : List Node) → from_entries {R = revision_cmp} (xs ++ ys) ≡ with_entries (from_entries xs) ys
entries_more xs ys =
    same_map revision_cmp_total revision_cmp_exact _ _ (λ q.
    get-from_entries revision_cmp_total (xs ++ ys) q ∙ find-append q xs ys ∙ ap (λ o. or o (find revision_cmp q ys)) (sym (get-from_entries revision_cmp_total xs q)) ∙ sym (get-with_entries (from_entries xs) ys q))

-- to leave out what is known changes nothing
module _ (h : HistoryContent) where
  abbrev is_new : Node → Bool
  is_new e = not (is_known h e.0)

  pub with_new_entries : (es : List Node) → with_entries h (filter is_new es) ≡ with_entries h es
  with_new_entries es = same_map revision_cmp_total revision_cmp_exact _ _ (λ q.
      get-with_entries h (filter is_new es) q
      ∙ ap (or (get h q)) (find-where_key revision_cmp (λ k. not (is_known h k)) q (λ k tie. ap (λ p. not (is_known h p)) (sym (revision_cmp_exact q k tie))) es) ∙ by (get h q) (find revision_cmp q es) ∙ sym (get-with_entries h es q))
    where
      by : (o x : Option Entry) → or o (cond (not (is_some o)) x None) ≡ or o x
      by None x = refl
      by (Some e) x = refl

-- ---- the rows that are put in

pub all-with_revisions : (P : Row → Type 0) (es : List Node) (rows : List Row) (db : ℤ) (id : List ℕ) → AllByRecursion (λ e. (k : ℤ) → P (revision_row k db id e.0 e.1)) es → AllByRecursion P rows
    → AllByRecursion P (with_revisions rows db id es)
all-with_revisions P [] rows db id new old = old
all-with_revisions P (e ∷ es) rows db id new old =
    all-with_revisions P es (with_cells rows (revision_cells db id e.0 e.1)) db id new.1 (all-append P rows _ old (new.0 (next_number rows), tt))

rows_own : (es : List Node) (rows : List Row) (db : ℤ) (id : List ℕ) → AllByRecursion (λ e. (k : ℤ) → entry_of (revision_row k db id e.0 e.1) ≡ e.1) es
    → map node (filter (is_row_of_document db id) (with_revisions rows db id es)) ≡ map node (filter (is_row_of_document db id) rows) ++ es
rows_own [] rows db id again = sym (append-nil (map node (filter (is_row_of_document db id) rows)))
rows_own (e ∷ es) rows db id again =
    let new : Row = revision_row (next_number rows) db id e.0 e.1 in
    let old : List Node = map node (filter (is_row_of_document db id) rows) in
    let one : map node (filter (is_row_of_document db id) (rows ++ new ∷ [])) ≡ old ++ e ∷ [] = slice-push_mine (is_row_of_document db id) node rows new (is_own db id new refl refl) ∙ ap (λ (x : Entry). old ++ (e.0, x) ∷ []) (again.0 (next_number rows)) in
    rows_own es (with_cells rows (revision_cells db id e.0 e.1)) db id again.1 ∙ ap (λ l. l ++ es) one ∙ append_assoc old (e ∷ []) es

rows_others : (q : Row → Bool) (es : List Node) (rows : List Row) (db : ℤ) (id : List ℕ) → ((k : ℤ) (e : Node) → q (revision_row k db id e.0 e.1) ≡ false) → map node (filter q (with_revisions rows db id es)) ≡ map node (filter q rows)
rows_others q [] rows db id out = refl
rows_others q (e ∷ es) rows db id out =
    rows_others q es (with_cells rows (revision_cells db id e.0 e.1)) db id out ∙ slice-push_other q node rows (revision_row (next_number rows) db id e.0 e.1) (out (next_number rows) e)

-- the document's history has the entries, and that of each other document is as it was
pub history_own : (es : List Node) (rows : List Row) (db : ℤ) (id : List ℕ) → AllByRecursion (λ e. (k : ℤ) → entry_of (revision_row k db id e.0 e.1) ≡ e.1) es
    → history_in_rows (with_revisions rows db id es) db id ≡ with_entries (history_in_rows rows db id) es
history_own es rows db id again = ap from_entries (rows_own es rows db id again) ∙ entries_more (map node (filter (is_row_of_document db id) rows)) es

pub history_others : (es : List Node) (rows : List Row) (db : ℤ) (id : List ℕ) (other : ℤ) (name : List ℕ) → (int_eq db other && bytes_eq id name) ≡ false
    → history_in_rows (with_revisions rows db id es) other name ≡ history_in_rows rows other name
history_others es rows db id other name apart = ap from_entries (rows_others (is_row_of_document other name) es rows db id (λ k e. apart))

-- ---- no revision has two rows

abbrev pub IsOther : ℤ → List ℕ → Revision → Row → Type 0
IsOther db id q x = db_of x ≡ db → id_of x ≡ id → revision_of_row x ≢ q

abbrev pub AreApart : Row → Row → Type 0
AreApart a b = db_of a ≡ db_of b → id_of a ≡ id_of b → revision_of_row a ≢ revision_of_row b

pub unknown_apart : (rows : List Row) (db : ℤ) (id : List ℕ) (q : Revision) → is_known (history_in_rows rows db id) q ≡ false → AllByRecursion (IsOther db id q) rows
unknown_apart rows db id q unknown =
    let mine : List Row = filter (is_row_of_document db id) rows in
    let none = sym (is_some-find revision_cmp q (map node mine)) ∙ ap is_some (sym (get-from_entries revision_cmp_total (map node mine) q)) ∙ unknown in
    let keys = none_from_any (eq_by_cmp revision_cmp q) (map (λ (e : Node). e.0) (map node mine)) none in
    let each = all_unmap (λ (e : Node). eq_by_cmp revision_cmp q e.0 ≡ false) node mine (all_unmap (λ (k : Revision). eq_by_cmp revision_cmp q k ≡ false) (λ (e : Node). e.0) (map node mine) keys) in
    all_weaker (λ x. is_row_of_document db id x ≡ true → eq_by_cmp revision_cmp q (revision_of_row x) ≡ false) (IsOther db id q)
    (λ x out here there is. both_ways (eq_by_cmp revision_cmp q (revision_of_row x)) (out (is_own db id x here there)) (tied q (revision_of_row x) (sym is)))
    rows (all_kept (λ x. eq_by_cmp revision_cmp q (revision_of_row x) ≡ false) (is_row_of_document db id) rows each)

pub revisions_stay_apart : (es : List Node) (rows : List Row) (db : ℤ) (id : List ℕ) → IsAscending AreApart rows → AllByRecursion (λ e. AllByRecursion (IsOther db id e.0) rows) es → IsAscending (λ a b. a.0 ≢ b.0) es
    → IsAscending AreApart (with_revisions rows db id es)
revisions_stay_apart [] rows db id up new distinct = up
revisions_stay_apart (e ∷ es) rows db id up new distinct =
    let row : Row = revision_row (next_number rows) db id e.0 e.1 in
    let over = all_weaker (IsOther db id e.0) (λ x. AllByRecursion (AreApart x) (row ∷ [])) (λ x k. (k, tt)) rows new.0 in
    let still = all_both (λ (f : Node). e.0 ≢ f.0) (λ f. AllByRecursion (IsOther db id f.0) rows) (λ f. AllByRecursion (IsOther db id f.0) (rows ++ row ∷ []))
    (λ f differs k. all-append (IsOther db id f.0) rows (row ∷ []) k ((λ _ _. differs), tt)) es distinct.0 new.1 in
    revisions_stay_apart es (rows ++ row ∷ []) db id (ascending-append AreApart rows (row ∷ []) up (tt, tt) over) still distinct.1
