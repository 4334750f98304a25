-- What the statements on a range of entries mean.
use Rattle.index.proofs.Common.{AllByRecursion, AreEntryRows, Binary, Blob, Bool, Eq, Equal, HasIndexRows, IfOk, Int, IsCommand, IsEntryRow, Key, List, Ordering, Result, Row, Select, Shown, State, Term, [], all_weaker, and_parts, ap, ap₂, codes, col, column, compares, declaration_of, entries_tree, entry_id, everything, false, holds, int_by, is_entry_in, is_eq, key_of, last_term, list_all, refl, same_int, schema, shown_entry, subst, sym, then_term, true, understood, value_cmp, ℕ, ℤ, ◌∙◌, ◌∷◌, ◌≡◌, ◌≢◌}
use Rattle.tables.proofs.Pages.{lists_page, page_of}
use Rattle.tables.proofs.Queries.{page_program}
use Rattle.index.specs.Rows.{by_place, in_direction, is_entry_between, range_of}
use Rattle.sqlite_sql.specs.declared.ops.CompareOp.TheVariants.{Ge, Lt}
use Rattle.sqlite_value.proofs.OrderLemmas.{value_cmp-Blob}
use Rattle.std.proofs.Common.{Greater, Less}
use Rattle.std.proofs.lemmas.Bool.{false_from_ne_true}
use Rattle.std.specs.Cmp.{Equal-is}
use Rattle.std.specs.Cmp.Lexicographic.{slice_cmp}
use Rattle.std.specs.Ordering.{nat_cmp, ordering_then}
use Rattle.tables.proofs.Cells.{blob_by, blobs_agree}
use Rattle.tables.proofs.RowMaps.{text_exact}

abbrev pub by_bounds : List Term
by_bounds = compares Eq 1 0 ∷ compares Ge 2 1 ∷ compares Lt 2 2 ∷ []

pub tests_bounds : (declaration : ℤ) (low high : List ℕ) (rest : Row) (rows : List Row) → AreEntryRows rows
    → AllByRecursion (λ r. list_all (holds ((Int declaration ∷ Blob low ∷ Blob high ∷ rest) ∷ r ∷ [])) by_bounds ≡ is_entry_between declaration low high r) rows
tests_bounds declaration low high rest rows h =
    all_weaker IsEntryRow (λ r. list_all (holds ((Int declaration ∷ Blob low ∷ Blob high ∷ rest) ∷ r ∷ [])) by_bounds ≡ is_entry_between declaration low high r)
    (λ r is. then_term (int_by Eq (column r 1) (declaration_of r) declaration (ap (λ x. column x 1) is))
    (then_term (blob_by Ge (column r 2) (key_of r) low (ap (λ x. column x 2) is)) (last_term (blob_by Lt (column r 2) (key_of r) high (ap (λ x. column x 2) is))))) rows h.each

-- ---- the order

agrees : (a b : Row) → IsEntryRow a → IsEntryRow b → ordering_then (value_cmp (column a 2) (column b 2)) (ordering_then (value_cmp (column a 3) (column b 3)) Equal) ≡ by_place a b
agrees a b k l =
    ap₂ ordering_then (ap₂ value_cmp (ap (λ x. column x 2) k) (ap (λ x. column x 2) l) ∙ value_cmp-Blob (key_of a) (key_of b))
    (blobs_agree (column a 3) (column b 3) (entry_id a) (entry_id b) (ap (λ x. column x 3) k) (ap (λ x. column x 3) l))

both_tie : (x y : Ordering) → is_eq (ordering_then x y) ≡ true → (is_eq x ≡ true) × (is_eq y ≡ true)
both_tie Less y is = absurd (cc)
both_tie Greater y is = absurd (cc)
both_tie Equal y is = (refl, is)

-- two entries of a declaration don't tie
pub untied : (declaration : ℤ) (low high : List ℕ) (a b : Row) → is_entry_between declaration low high a ≡ true → is_entry_between declaration low high b ≡ true
    → (declaration_of a ≡ declaration_of b → key_of a ≡ key_of b → entry_id a ≢ entry_id b) → is_eq (by_place a b) ≡ false
untied declaration low high a b x y apart =
    let p = and_parts (is_entry_in declaration a) _ x in
    let q = and_parts (is_entry_in declaration b) _ y in
    false_from_ne_true (is_eq (by_place a b))
    (λ tied.
    let both = both_tie (slice_cmp nat_cmp (key_of a) (key_of b)) (slice_cmp nat_cmp (entry_id a) (entry_id b)) tied in
    apart (same_int (declaration_of a) declaration p.0 ∙ sym (same_int (declaration_of b) declaration q.0))
    (text_exact (key_of a) (key_of b) ((Equal-is (slice_cmp nat_cmp (key_of a) (key_of b))).0 both.0))
    (text_exact (entry_id a) (entry_id b) ((Equal-is (slice_cmp nat_cmp (entry_id a) (entry_id b))).0 both.1)))

-- ---- the statements

abbrev shown : List Term
shown = col 1 2 ∷ col 1 3 ∷ []

abbrev headings : List (List ℕ)
headings = codes "k" ∷ codes "id" ∷ []

abbrev place_order : Bool → List (Term × Key)
place_order down = (col 1 2, record { collation = Binary; descending = down }) ∷ (col 1 3, record { collation = Binary; descending = down }) ∷ []

abbrev pub up_text : List ℕ
up_text = codes "SELECT k, id FROM entries WHERE decl = ?1 AND k >= ?2 AND k < ?3 ORDER BY k, id LIMIT ?4 OFFSET ?5"

abbrev pub down_text : List ℕ
down_text = codes "SELECT k, id FROM entries WHERE decl = ?1 AND k >= ?2 AND k < ?3 ORDER BY k DESC, id DESC LIMIT ?4 OFFSET ?5"

pub up_are : IsCommand schema up_text (Select (page_program entries_tree by_bounds shown (place_order false) (col 0 3) (col 0 4)) headings)
unfolding understood everything
up_are = record { is = refl; plain = (refl, refl); unlisted = refl }

pub down_are : IsCommand schema down_text (Select (page_program entries_tree by_bounds shown (place_order true) (col 0 3) (col 0 4)) headings)
unfolding understood everything
down_are = record { is = refl; plain = (refl, refl); unlisted = refl }

abbrev given : ℤ → List ℕ → List ℕ → ℤ → ℤ → Row
given declaration low high most skip = Int declaration ∷ Blob low ∷ Blob high ∷ Int most ∷ Int skip ∷ []

module _ {X E : Type 0} (old new : State) (is : HasIndexRows old.now) (declaration : ℤ) (low high : List ℕ) (most skip : ℤ) where
  pub lists_up : (r : Result X E) (items : X → List Row) → IfOk r (λ x. Shown up_text (given declaration low high most skip) old new (items x)) → IfOk r (λ x. items x ≡ range_of false declaration low high most skip (old.now.trees entries_tree))
  lists_up r items h =
      subst (λ l. IfOk r (λ x. items x ≡ l)) (page_of most skip _)
      (lists_page old new is.schema_is up_are (given declaration low high most skip) (is_entry_between declaration low high) shown_entry IsEntryRow (in_direction false) (λ a b. declaration_of a ≡ declaration_of b → key_of a ≡ key_of b → entry_id a ≢ entry_id b)
      agrees (λ a b k l. untied declaration low high a b) refl (λ x. refl) (tests_bounds declaration low high (Int most ∷ Int skip ∷ []) _ is.entries) is.entries.each is.entries.apart r items h)

  pub lists_down : (r : Result X E) (items : X → List Row) → IfOk r (λ x. Shown down_text (given declaration low high most skip) old new (items x)) → IfOk r (λ x. items x ≡ range_of true declaration low high most skip (old.now.trees entries_tree))
  lists_down r items h =
      subst (λ l. IfOk r (λ x. items x ≡ l)) (page_of most skip _)
      (lists_page old new is.schema_is down_are (given declaration low high most skip) (is_entry_between declaration low high) shown_entry IsEntryRow (in_direction true) (λ a b. declaration_of a ≡ declaration_of b → key_of a ≡ key_of b → entry_id a ≢ entry_id b)
      (λ a b k l. agrees b a l k) (λ a b k l x y apart. untied declaration low high b a y x (λ same alike own. apart (sym same) (sym alike) (sym own))) refl (λ x. refl)
      (tests_bounds declaration low high (Int most ∷ Int skip ∷ []) _ is.entries) is.entries.each is.entries.apart r items h)
