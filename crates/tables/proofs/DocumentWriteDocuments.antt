-- The documents' rows, where the one of this id has become another, or is put in behind all others.
use Rattle.tables.proofs.Common.{AllByRecursion, AreNumbered, Bool, Decides-int_eq, Int, IsAscending, List, Row, [], all-append, all-filter, all_both, all_map, all_of, all_weaker, and_from, and_parts, any_is_found, ap, ap₂, arith, ascending-append, ascending-map, ascending_weaker, both_ways, bytes_eq, bytes_eq-Decides, cond, cond_both, db_of, document_cells, document_row, false, false_from_ne_true, filter, filter-map, filter_same, id_of, if◌then◌else◌, int_eq, is_row_of_database, is_row_of_document, is_some, list_any, map, map-map, map_same, nat_cmp, nat_list_cmp_total, next_number, none_from_any, number_of, pos, refl, row_with_winner, rowid, rows_with_document, sequence_of_row, slice_cmp, slice_get, slice_get-filter, subst, sym, true, ℕ, ℤ, ◌&&◌, ◌++◌, ◌<◌, ◌||◌, ◌∙◌, ◌∷◌, ◌≡◌, ◌≢◌}
use Rattle.std.proofs.lemmas.Bool.{and_right, cond-false, cond-true, or_left, or_right}
use Rattle.std.proofs.lemmas.List.Elements.{filter-append}
use Rattle.std.proofs.lemmas.List.Folds.{list_any-append}
use Rattle.std.specs.FinMap as finite
use Rattle.sqlite_keyed.proofs.KeyedLemmas.{IsKeyedBy-update_where}
use Rattle.sqlite_keyed.proofs.SliceLemmas.{slice-push_other, slice-update_other}
use Rattle.tables.proofs.Kept.{numbered-with_cells}
use Rattle.tables.proofs.ReplacedRows.{apart_turned, is_own}
use Rattle.tables.proofs.RowMaps.{all_passing, filter_both, rows_alike, rows_changed, rows_pushed, text_exact, text_tests}
use Rattle.tables.proofs.Tables.{of_these}

-- the tests of a row's key against this one, and of this one against the row's
pub apart_of : (db : ℤ) (id : List ℕ) (x : Row) → is_row_of_document db id x ≡ false → (int_eq db (db_of x) && bytes_eq id (id_of x)) ≡ false
apart_of db id x out = false_from_ne_true _ (λ same.
    let both = and_parts (int_eq db (db_of x)) _ same in
    both_ways (is_row_of_document db id x) out (is_own db id x (sym ((Decides-int_eq db (db_of x)).0 both.0)) (sym ((bytes_eq-Decides id (id_of x)).0 both.1))))

any_kept : (p : Row → Bool) (f : Row → Row) → ((r : Row) → p (f r) ≡ p r) → (rows : List Row) → list_any p (map f rows) ≡ list_any p rows
any_kept p f same [] = refl
any_kept p f same (r ∷ rows) = ap₂ ◌||◌ (same r) (any_kept p f same rows)

abbrev AreIdsApart : Row → Row → Type 0
AreIdsApart a b = db_of a ≡ db_of b → id_of a ≢ id_of b

abbrev AreSequencesApart : Row → Row → Type 0
AreSequencesApart a b = db_of a ≡ db_of b → sequence_of_row a ≢ sequence_of_row b

-- the documents' rows after a write
module _ (rows : List Row) (db : ℤ) (id : List ℕ) (sequence : ℕ) (text : List ℕ) (gone : Bool) where
  abbrev change : Row → Row
  change = row_with_winner (pos sequence) text gone

  abbrev one : Row → Row
  one r = if is_row_of_document db id r then change r else r

  abbrev new_row : Row
  new_row = document_row (next_number rows) db id (pos sequence) text gone

  abbrev placed : List Row
  placed = rows_with_document db id (pos sequence) text gone rows

  -- the row of the id has become another, or there was none and the new one stands behind all
  either : (P : List Row → Type 0) → (list_any (is_row_of_document db id) rows ≡ true → P (map one rows)) → (AllByRecursion (λ r. is_row_of_document db id r ≡ false) rows → P (rows ++ new_row ∷ [])) → P placed
  either P changed put = cond_both (list_any (is_row_of_document db id) rows) (map one rows) (rows ++ new_row ∷ []) P changed (λ out. put (none_from_any (is_row_of_document db id) rows out))

  db_kept : (r : Row) → db_of (one r) ≡ db_of r
  db_kept r = cond_both (is_row_of_document db id r) (change r) r (λ x. db_of x ≡ db_of r) (λ here. refl) (λ out. refl)

  id_kept : (r : Row) → id_of (one r) ≡ id_of r
  id_kept r = cond_both (is_row_of_document db id r) (change r) r (λ x. id_of x ≡ id_of r) (λ here. refl) (λ out. refl)

  change_is : (r : Row) → is_row_of_document db id r ≡ true → change r ≡ document_row (number_of r) db id (pos sequence) text gone
  change_is r here = let own = of_these db id r here in ap₂ (λ (n : ℤ) (i : List ℕ). document_row (number_of r) n i (pos sequence) text gone) own.0 own.1

  -- ---- the layout

  pub all_placed : (P : Row → Type 0) → AllByRecursion (λ r. is_row_of_document db id r ≡ false → P r) rows → ((k : ℤ) → P (document_row k db id (pos sequence) text gone)) → AllByRecursion P placed
  all_placed P others own =
      either (AllByRecursion P)
      (λ there. all_map P one rows (all_weaker (λ r. is_row_of_document db id r ≡ false → P r) (λ r. P (one r)) (λ r k. cond_both (is_row_of_document db id r) (change r) r P (λ here. subst P (sym (change_is r here)) (own (number_of r))) k) rows others))
      (λ none. all-append P rows (new_row ∷ []) (all_both (λ r. is_row_of_document db id r ≡ false) (λ r. is_row_of_document db id r ≡ false → P r) P (λ r out k. k out) rows none others) (own (next_number rows), tt))

  pub numbered_placed : AreNumbered rows → AreNumbered placed
  numbered_placed h =
      either AreNumbered
      (λ there. record {
        numbers = all_map (λ r. rowid r ≡ Int (number_of r)) one rows
            (all_weaker (λ r. rowid r ≡ Int (number_of r)) (λ r. rowid (one r) ≡ Int (number_of (one r))) (λ r k. cond_both (is_row_of_document db id r) (change r) r (λ x. rowid x ≡ Int (number_of x)) (λ here. refl) (λ out. k)) rows h.numbers);
        rising = IsKeyedBy-update_where number_of (is_row_of_document db id) change (λ x. refl) rows h.rising;
      })
      (λ none. numbered-with_cells rows (document_cells db id (pos sequence) text gone) h)

  pub ids_stay_apart : IsAscending AreIdsApart rows → IsAscending AreIdsApart placed
  ids_stay_apart apart =
      either (IsAscending AreIdsApart)
      (λ there. ascending-map AreIdsApart one rows (ascending_weaker AreIdsApart (λ a b. AreIdsApart (one a) (one b)) (λ a b h same alike. h (sym (db_kept a) ∙ same ∙ db_kept b) (sym (id_kept a) ∙ alike ∙ id_kept b)) rows apart))
      (λ none. ascending-append AreIdsApart rows (new_row ∷ []) apart (tt, tt)
      (all_weaker (λ r. is_row_of_document db id r ≡ false) (λ r. AllByRecursion (AreIdsApart r) (new_row ∷ [])) (λ r out. (λ same alike. both_ways (is_row_of_document db id r) out (is_own db id r same alike), tt)) rows none))

  abbrev IsBelow : Row → Type 0
  IsBelow r = db_of r ≡ db → sequence_of_row r < sequence

  changed_apart : (a b : Row) → IsBelow a → IsBelow b → AreIdsApart a b → AreSequencesApart a b → AreSequencesApart (one a) (one b)
  changed_apart a b low_a low_b ids apart =
      cond_both (is_row_of_document db id a) (change a) a (λ x. AreSequencesApart x (one b))
      (λ here. cond_both (is_row_of_document db id b) (change b) b (λ y. AreSequencesApart (change a) y)
      (λ there same e. let p = of_these db id a here in let q = of_these db id b there in ids (p.0 ∙ sym q.0) (p.1 ∙ sym q.1))
      (λ away same e. let less = low_b (sym same ∙ (of_these db id a here).0) in omega (arith, less, e)))
      (λ out. cond_both (is_row_of_document db id b) (change b) b (λ y. AreSequencesApart a y)
      (λ there same e. let less = low_a (same ∙ (of_these db id b there).0) in omega (arith, less, e))
      (λ away. apart))

  all_apart : (xs : List Row) → AllByRecursion IsBelow xs → IsAscending AreIdsApart xs → IsAscending AreSequencesApart xs → IsAscending (λ a b. AreSequencesApart (one a) (one b)) xs
  all_apart [] below ids apart = tt
  all_apart (a ∷ xs) below ids apart = (
    all_both IsBelow (λ b. AreIdsApart a b × AreSequencesApart a b) (λ b. AreSequencesApart (one a) (one b)) (λ b low k. changed_apart a b below.0 low k.0 k.1) xs below.1
        (all_both (AreIdsApart a) (AreSequencesApart a) (λ b. AreIdsApart a b × AreSequencesApart a b) (λ b h k. (h, k)) xs ids.0 apart.0),
    all_apart xs below.1 ids.1 apart.1,
  )

  pub sequences_stay_apart : AllByRecursion IsBelow rows → IsAscending AreIdsApart rows → IsAscending AreSequencesApart rows → IsAscending AreSequencesApart placed
  sequences_stay_apart below ids apart =
      either (IsAscending AreSequencesApart) (λ there. ascending-map AreSequencesApart one rows (all_apart rows below ids apart))
      (λ none. ascending-append AreSequencesApart rows (new_row ∷ []) apart (tt, tt)
      (all_weaker IsBelow (λ r. AllByRecursion (AreSequencesApart r) (new_row ∷ [])) (λ r low. (λ here same. let less = low here in omega (arith, less, same), tt)) rows below))

  -- ---- each document has its row still, and this one has one

  same_test : (other : ℤ) (name : List ℕ) (r : Row) → is_row_of_document other name (one r) ≡ is_row_of_document other name r
  same_test other name r = cond_both (is_row_of_document db id r) (change r) r (λ x. is_row_of_document other name x ≡ is_row_of_document other name r) (λ here. refl) (λ out. refl)

  pub row_stays : (other : ℤ) (name : List ℕ) → list_any (is_row_of_document other name) rows ≡ true → list_any (is_row_of_document other name) placed ≡ true
  row_stays other name any =
      either (λ l. list_any (is_row_of_document other name) l ≡ true) (λ there. any_kept (is_row_of_document other name) one (same_test other name) rows ∙ any)
      (λ none. list_any-append (is_row_of_document other name) rows (new_row ∷ []) ∙ or_left (list_any (is_row_of_document other name) rows) _ any)

  pub own_row : list_any (is_row_of_document db id) placed ≡ true
  own_row =
      either (λ l. list_any (is_row_of_document db id) l ≡ true) (λ there. any_kept (is_row_of_document db id) one (same_test db id) rows ∙ there)
      (λ none. list_any-append (is_row_of_document db id) rows (new_row ∷ []) ∙ or_right (list_any (is_row_of_document db id) rows) _ (or_left (is_row_of_document db id new_row) false (is_own db id new_row refl refl)))

  -- ---- the values of rows

  module _ {X : Type 0} (v : Row → X) where
    abbrev entry : Row → List ℕ × X
    entry r = (id_of r, v r)

    -- those of another database stay
    pub other_values : (m : ℤ) → int_eq m db ≡ false → map entry (filter (is_row_of_database m) placed) ≡ map entry (filter (is_row_of_database m) rows)
    other_values m apart =
        let away = apart_turned m db apart in
        either (λ l. map entry (filter (is_row_of_database m) l) ≡ map entry (filter (is_row_of_database m) rows))
        (λ there. slice-update_other (is_row_of_database m) entry (is_row_of_document db id) (λ r here. ap (λ n. int_eq n m) (of_these db id r here).0 ∙ away) change (λ r. refl) rows)
        (λ none. slice-push_other (is_row_of_database m) entry rows new_row away)

    -- the values at the ids of the database: the document's is put in, where the others keep theirs
    module _ (w : Row → X) (x : X) (own : (k : ℤ) → v (document_row k db id (pos sequence) text gone) ≡ x) (alike : (r : Row) → is_row_of_document db id r ≡ false → v r ≡ w r) where
      abbrev mine : List Row
      mine = filter (is_row_of_database db) rows

      abbrev at : List ℕ → Row → Bool
      at q r = bytes_eq (id_of r) q

      abbrev Are : List Row → Type 0
      Are l = finite.from_entries {R = slice_cmp nat_cmp} (map entry (filter (is_row_of_database db) l)) ≡ finite.insert (finite.from_entries (map (λ r. (id_of r, w r)) mine)) id x

      found : list_any (is_row_of_document db id) rows ≡ true → list_any (at id) mine ≡ true
      found there =
          any_is_found (at id) mine ∙ ap is_some (sym (slice_get-filter (at id) mine)) ∙ ap (λ l. is_some (slice_get l 0)) (filter_both (at id) (is_row_of_database db) rows)
          ∙ ap is_some (slice_get-filter (is_row_of_document db id) rows) ∙ sym (any_is_found (is_row_of_document db id) rows) ∙ there

      entries_kept : map entry (filter (is_row_of_database db) (map one rows)) ≡ map (λ r. (id_of r, v (one r))) mine
      entries_kept =
          ap (map entry) (filter-map (is_row_of_database db) one rows ∙ ap (map one) (filter_same (λ r. is_row_of_database db (one r)) (is_row_of_database db) (λ r. ap (λ n. int_eq n db) (db_kept r)) rows))
          ∙ map-map entry one mine ∙ map_same (λ r. entry (one r)) (λ r. (id_of r, v (one r))) (λ r. ap (λ k. (k, v (one r))) (id_kept r)) mine

      values_changed : AllByRecursion (λ r. (at id r ≡ true → v (one r) ≡ x) × (at id r ≡ false → v (one r) ≡ w r)) mine
      values_changed =
          all_passing (λ r. (at id r ≡ true → v (one r) ≡ x) × (at id r ≡ false → v (one r) ≡ w r)) (is_row_of_database db) rows
          (all_of (λ r. is_row_of_database db r ≡ true → (at id r ≡ true → v (one r) ≡ x) × (at id r ≡ false → v (one r) ≡ w r)) (λ r there. (
            (λ here.
                let is = and_from (is_row_of_database db r) (at id r) there here in
                ap v (cond-true (is_row_of_document db id r) (change r) r is ∙ change_is r is) ∙ own (number_of r)),
            (λ out.
                let away = and_right (is_row_of_database db r) (at id r) out in
                ap v (cond-false (is_row_of_document db id r) (change r) r away) ∙ alike r away),
          )) rows)

      put_in : AllByRecursion (λ r. is_row_of_document db id r ≡ false) rows → Are (rows ++ new_row ∷ [])
      put_in none =
          let behind : filter (is_row_of_database db) (rows ++ new_row ∷ []) ≡ mine ++ new_row ∷ [] = filter-append (is_row_of_database db) rows (new_row ∷ []) ∙ ap (λ b. mine ++ cond b (new_row ∷ []) []) ((Decides-int_eq db db).1 refl) in
          let fresh : AllByRecursion (λ r. at id r ≡ false) mine =
          all_passing (λ r. at id r ≡ false) (is_row_of_database db) rows (all_weaker (λ r. is_row_of_document db id r ≡ false) (λ r. is_row_of_database db r ≡ true → at id r ≡ false)
          (λ r out there. false_from_ne_true (at id r) (λ here. both_ways (is_row_of_document db id r) out (and_from (is_row_of_database db r) (at id r) there here))) rows none) in
          ap (λ l. finite.from_entries (map entry l)) behind
          ∙ rows_pushed nat_list_cmp_total text_exact id_of at (text_tests id_of) v mine new_row fresh
          ∙ ap₂ (λ m y. finite.insert m id y) (rows_alike nat_list_cmp_total text_exact id_of at (text_tests id_of) v w mine (all-filter (λ r. v r ≡ w r) (is_row_of_database db) rows (all_weaker (λ r. is_row_of_document db id r ≡ false) (λ r. v r ≡ w r) alike rows none))) (own (next_number rows))

      pub own_values : Are placed
      own_values =
          either Are
          (λ there. ap finite.from_entries entries_kept ∙ rows_changed nat_list_cmp_total text_exact id_of at (text_tests id_of) w (λ r. v (one r)) id x mine values_changed (found there))
          put_in
