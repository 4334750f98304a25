-- Rows of one id in a database, with one new row in their place.
use Rattle.tables.proofs.Common.{AllByRecursion, Decides-int_eq, IsAscending, List, Row, [], all_of, and_from, ap, ap₂, ascending-append, ascending-filter, both_ways, bytes_eq, bytes_eq-Decides, cond, db_of, false, filter, id_of, int_eq, is_row_of_database, is_row_of_document, map, nat_cmp, nat_list_cmp_total, not, slice_cmp, sym, true, ℕ, ℤ, ◌++◌, ◌∙◌, ◌∷◌, ◌≡◌, ◌≢◌}
use Rattle.std.proofs.lemmas.Bool.{and_right}
use Rattle.std.proofs.lemmas.List.Elements.{filter-append}
use Rattle.std.specs.FinMap as finite
use Rattle.sqlite_keyed.proofs.KeyedLemmas.{int_eq_apart}
use Rattle.sqlite_keyed.proofs.SliceLemmas.{slice-delete_other, slice-push_other}
use Rattle.tables.proofs.RowMaps.{all_left, filter_left, rows_replaced, text_exact, text_tests}
use Rattle.tables.proofs.Tables.{of_these}

-- two numbers that are apart are so the other way round
pub apart_turned : (m n : ℤ) → int_eq m n ≡ false → int_eq n m ≡ false
apart_turned m n apart = int_eq_apart n m (λ same. both_ways (int_eq m n) apart ((Decides-int_eq m n).1 (sym same)))

pub is_own : (db : ℤ) (id : List ℕ) (r : Row) → db_of r ≡ db → id_of r ≡ id → is_row_of_document db id r ≡ true
is_own db id r own this = and_from (is_row_of_database db r) (bytes_eq (id_of r) id) ((Decides-int_eq (db_of r) db).1 own) ((bytes_eq-Decides (id_of r) id).1 this)

module _ (rows : List Row) (db : ℤ) (id : List ℕ) (new : Row) (own : db_of new ≡ db) (this : id_of new ≡ id) where
  abbrev left : List Row
  left = filter (λ r. not (is_row_of_document db id r)) rows

  pub ids_stay_apart : IsAscending (λ a b. db_of a ≡ db_of b → id_of a ≢ id_of b) rows → IsAscending (λ a b. db_of a ≡ db_of b → id_of a ≢ id_of b) (left ++ new ∷ [])
  ids_stay_apart apart =
      ascending-append (λ a b. db_of a ≡ db_of b → id_of a ≢ id_of b) left (new ∷ []) (ascending-filter (λ a b. db_of a ≡ db_of b → id_of a ≢ id_of b) (λ r. not (is_row_of_document db id r)) rows apart) (tt, tt)
      (all_left (λ r. AllByRecursion (λ b. db_of r ≡ db_of b → id_of r ≢ id_of b) (new ∷ [])) (is_row_of_document db id) rows
      (all_of (λ r. is_row_of_document db id r ≡ false → AllByRecursion (λ b. db_of r ≡ db_of b → id_of r ≢ id_of b) (new ∷ [])) (λ r out. (λ same alike. both_ways (is_row_of_document db id r) out (is_own db id r (same ∙ own) (alike ∙ this)), tt)) rows))

  module _ {X : Type 0} (v : Row → X) where
    -- the values at the ids of the database: the new row's is put in, where the others keep theirs
    pub own_values : (w : Row → X) → ((r : Row) → is_row_of_document db id r ≡ false → v r ≡ w r)
        → finite.from_entries {R = slice_cmp nat_cmp} (map (λ r. (id_of r, v r)) (filter (is_row_of_database db) (left ++ new ∷ []))) ≡ finite.insert (finite.from_entries (map (λ r. (id_of r, w r)) (filter (is_row_of_database db) rows))) id (v new)
    own_values w alike =
        let mine : List Row = filter (is_row_of_database db) rows in
        let found : filter (is_row_of_database db) (left ++ new ∷ []) ≡ filter (λ r. not (bytes_eq (id_of r) (id_of new))) mine ++ new ∷ [] =
        filter-append (is_row_of_database db) left (new ∷ []) ∙ ap₂ (λ l b. l ++ cond b (new ∷ []) []) (filter_left (is_row_of_database db) (λ r. bytes_eq (id_of r) id) rows) ((Decides-int_eq (db_of new) db).1 own)
        ∙ ap (λ (k : List ℕ). filter (λ r. not (bytes_eq (id_of r) k)) mine ++ new ∷ []) (sym this) in
        ap (λ l. finite.from_entries (map (λ r. (id_of r, v r)) l)) found
        ∙ rows_replaced nat_list_cmp_total text_exact id_of (λ q r. bytes_eq (id_of r) q) (text_tests id_of) v w mine new
        (all_of (λ r. bytes_eq (id_of r) (id_of new) ≡ false → v r ≡ w r) (λ r out. alike r (and_right (is_row_of_database db r) (bytes_eq (id_of r) id) (ap (bytes_eq (id_of r)) (sym this) ∙ out))) mine)
        ∙ ap (λ k. finite.insert (finite.from_entries (map (λ r. (id_of r, w r)) mine)) k (v new)) this

    -- those of another database stay
    pub other_values : (m : ℤ) → int_eq m db ≡ false → map {B = List ℕ × X} (λ r. (id_of r, v r)) (filter (is_row_of_database m) (left ++ new ∷ [])) ≡ map (λ r. (id_of r, v r)) (filter (is_row_of_database m) rows)
    other_values m apart =
        let away = apart_turned m db apart in
        slice-push_other (is_row_of_database m) (λ r. (id_of r, v r)) left new (ap (λ n. int_eq n m) own ∙ away)
        ∙ slice-delete_other (is_row_of_database m) (λ r. (id_of r, v r)) (is_row_of_document db id) (λ r here. ap (λ n. int_eq n m) (of_these db id r here).0 ∙ away) rows
