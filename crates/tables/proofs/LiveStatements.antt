-- What the statements on documents whose ids lie between two bounds mean.
use Rattle.tables.proofs.Common.{AllByRecursion, Binary, Blob, Bool, Equal, IfOk, Int, IsStore, Key, List, Result, Row, Select, Shown, State, Term, [], all_weaker, and_parts, ap, codes, col, column, cond, db_of, docs_tree, everything, false, flag, holds, id_of, is_eq, is_gone_row, is_row_of_database, list_all, listed_document, pos, refl, schema, subst, sym, true, understood, ℕ, ℤ, ◌∙◌, ◌∷◌, ◌≡◌, ◌≢◌, nat_list_cmp_total, ordering_then, value_cmp}
use Rattle.sqlite_sql.specs.declared.ops.CompareOp.TheVariants.{Eq, Ge, Lt}
use Rattle.sqlite_typed.proofs.TestLemmas.{int_test, last_term, then_term}
use Rattle.tables.proofs.Cells.{blob_by, blobs_agree, compares, int_by}
use Rattle.tables.proofs.Counts.{count_program, counts}
use Rattle.tables.proofs.DocumentStatements.{IsOne, headings, listed, ones, same_db}
use Rattle.tables.proofs.Pages.{lists_page, page_of}
use Rattle.tables.proofs.Queries.{page_program}
use Rattle.tables.proofs.RowMaps.{text_exact, untied}
use Rattle.tables.proofs.Writes.{IsCommand}
use Rattle.tables.specs.Listings.{by_id_in, has_mark, is_marked_between, live_range, marked_count, shown_count}

abbrev by_bounds : List Term
by_bounds = compares Eq 1 0 ∷ compares Eq 5 1 ∷ compares Ge 2 2 ∷ compares Lt 2 3 ∷ []

abbrev mark : Bool → ℤ
mark b = cond b (pos 1) (pos 0)

same_mark : (gone deleted : Bool) → int_test Eq (mark gone) (mark deleted) ≡ has_mark deleted gone
same_mark true true = refl
same_mark true false = refl
same_mark false true = refl
same_mark false false = refl

tests_bounds : (db : ℤ) (deleted : Bool) (low high : List ℕ) (rest : Row) (rows : List Row) → AllByRecursion IsOne rows
    → AllByRecursion (λ r. list_all (holds ((Int db ∷ flag deleted ∷ Blob low ∷ Blob high ∷ rest) ∷ r ∷ [])) by_bounds ≡ is_marked_between db deleted low high r) rows
tests_bounds db deleted low high rest rows all =
    all_weaker IsOne (λ r. list_all (holds ((Int db ∷ flag deleted ∷ Blob low ∷ Blob high ∷ rest) ∷ r ∷ [])) by_bounds ≡ is_marked_between db deleted low high r)
    (λ r k. then_term (int_by Eq (column r 1) (db_of r) db (ap (λ x. column x 1) k))
    (then_term (int_by Eq (column r 5) (mark (is_gone_row r)) (mark deleted) (ap (λ x. column x 5) k) ∙ same_mark (is_gone_row r) deleted)
    (then_term (blob_by Ge (column r 2) (id_of r) low (ap (λ x. column x 2) k)) (last_term (blob_by Lt (column r 2) (id_of r) high (ap (λ x. column x 2) k)))))) rows all

-- ---- the statements

abbrev id_order : Bool → List (Term × Key)
id_order down = (col 1 2, record { collation = Binary; descending = down }) ∷ []

abbrev pub live_up_text : List ℕ
live_up_text = codes "SELECT id, seq, winner, del FROM docs WHERE db = ?1 AND del = ?2 AND id >= ?3 AND id < ?4 ORDER BY id LIMIT ?5 OFFSET ?6"

abbrev pub live_down_text : List ℕ
live_down_text = codes "SELECT id, seq, winner, del FROM docs WHERE db = ?1 AND del = ?2 AND id >= ?3 AND id < ?4 ORDER BY id DESC LIMIT ?5 OFFSET ?6"

abbrev pub marked_text : List ℕ
marked_text = codes "SELECT COUNT(*) FROM docs WHERE db = ?1 AND del = ?2 AND id >= ?3 AND id < ?4"

pub live_up_are : IsCommand schema live_up_text (Select (page_program docs_tree by_bounds listed (id_order false) (col 0 4) (col 0 5)) headings)
unfolding understood everything
live_up_are = record { is = refl; plain = (refl, refl); unlisted = refl }

pub live_down_are : IsCommand schema live_down_text (Select (page_program docs_tree by_bounds listed (id_order true) (col 0 4) (col 0 5)) headings)
unfolding understood everything
live_down_are = record { is = refl; plain = (refl, refl); unlisted = refl }

pub marked_is : IsCommand schema marked_text (Select (count_program docs_tree by_bounds) (codes "COUNT(*)" ∷ []))
unfolding understood everything
marked_is = record { is = refl; plain = (refl, refl); unlisted = refl }

ids_agree : (a b : Row) → IsOne a → IsOne b → ordering_then (value_cmp (column a 2) (column b 2)) Equal ≡ by_id_in false a b
ids_agree a b k l = blobs_agree (column a 2) (column b 2) (id_of a) (id_of b) (ap (λ x. column x 2) k) (ap (λ x. column x 2) l)

-- two documents of a database don't tie
ids_untied : (db : ℤ) (low high : List ℕ) (a b : Row) → is_marked_between db false low high a ≡ true → is_marked_between db false low high b ≡ true → (db_of a ≡ db_of b → id_of a ≢ id_of b) → is_eq (by_id_in false a b) ≡ false
ids_untied db low high a b x y apart =
    let p = and_parts (is_row_of_database db a) _ x in
    let q = and_parts (is_row_of_database db b) _ y in
    untied nat_list_cmp_total text_exact (id_of a) (id_of b) (apart (same_db db a b p.0 q.0))

abbrev given : ℤ → List ℕ → List ℕ → ℤ → ℤ → Row
given db low high most skip = Int db ∷ flag false ∷ Blob low ∷ Blob high ∷ Int most ∷ Int skip ∷ []

module _ {X E : Type 0} (old new : State) (is : IsStore old.now) (db : ℤ) (low high : List ℕ) where
  pub lists_live_up : (most skip : ℤ) (r : Result X E) (items : X → List Row) → IfOk r (λ x. Shown live_up_text (given db low high most skip) old new (items x))
      → IfOk r (λ x. items x ≡ live_range false db low high most skip (old.now.trees docs_tree))
  lists_live_up most skip r items h =
      subst (λ l. IfOk r (λ x. items x ≡ l)) (page_of most skip _)
      (lists_page old new is.schema_is live_up_are (given db low high most skip) (is_marked_between db false low high) listed_document IsOne (by_id_in false) (λ a b. db_of a ≡ db_of b → id_of a ≢ id_of b)
      ids_agree (λ a b k l. ids_untied db low high a b) refl (λ x. refl) (tests_bounds db false low high (Int most ∷ Int skip ∷ []) _ (ones old is)) (ones old is) is.laid.ids_apart r items h)

  pub lists_live_down : (most skip : ℤ) (r : Result X E) (items : X → List Row) → IfOk r (λ x. Shown live_down_text (given db low high most skip) old new (items x))
      → IfOk r (λ x. items x ≡ live_range true db low high most skip (old.now.trees docs_tree))
  lists_live_down most skip r items h =
      subst (λ l. IfOk r (λ x. items x ≡ l)) (page_of most skip _)
      (lists_page old new is.schema_is live_down_are (given db low high most skip) (is_marked_between db false low high) listed_document IsOne (by_id_in true) (λ a b. db_of a ≡ db_of b → id_of a ≢ id_of b)
      (λ a b k l. ids_agree b a l k) (λ a b k l x y apart. ids_untied db low high b a y x (λ same own. apart (sym same) (sym own))) refl (λ x. refl)
      (tests_bounds db false low high (Int most ∷ Int skip ∷ []) _ (ones old is)) (ones old is) is.laid.ids_apart r items h)

  pub counts_marked : (deleted : Bool) (r : Result X E) (items : X → List Row) → IfOk r (λ x. Shown marked_text (Int db ∷ flag deleted ∷ Blob low ∷ Blob high ∷ []) old new (items x))
      → IfOk r (λ x. items x ≡ shown_count (marked_count db deleted low high (old.now.trees docs_tree)) ∷ [])
  counts_marked deleted =
      counts old new is.schema_is marked_is (Int db ∷ flag deleted ∷ Blob low ∷ Blob high ∷ []) (is_marked_between db deleted low high) refl (tests_bounds db deleted low high [] _ (ones old is))
