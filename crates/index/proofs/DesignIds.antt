-- The documents whose ids do not begin as those of design documents do: the statements that list them, and what they leave out.
use Rattle.index.proofs.Common.{AllByRecursion, Binary, Blob, Bool, Eq, IfOk, Int, IsAscending, IsCommand, Key, List, None, Ordering, Result, Row, Select, Shown, State, Term, Trees, [], all_weaker, and_from, and_parts, ap, arith, ascending_weaker, bytes_eq, bytes_eq-Decides, codes, col, column, compares, cond, everything, false, filter, holds, if◌then◌else◌, int_by, is_eq, last_term, list_all, list_any, lists, map, nat_tests, program_on, refl, schema, sees_in, sort_by, subst, sym, then_term, true, understood, value_cmp, ℕ, ℤ, ◌&&◌, ◌||◌, ◌∙◌, ◌∷◌, ◌≡◌, ◌≢◌}
use Rattle.index.proofs.EntryChanges.{bytes_eq-sym}
use Rattle.index.proofs.Filled.{any_in_order, ascending-sorted, unwritten_unseen}
use Rattle.index.proofs.IdBounds.{above_texts, none_below}
use Rattle.index.specs.inner.Seen.{documents_between, ids_between, is_in_range}
use Rattle.sqlite_sql.specs.declared.ops.CompareOp.TheVariants.{Ge, Lt}
use Rattle.std.specs.Cmp.{second_so}
use Rattle.std.specs.Cmp.Lexicographic.{slice_cmp}
use Rattle.std.specs.Ordering.{is_le, is_lt, nat_cmp, ordering_then}
use Rattle.std.specs.Prelude.{IsUtf8, length, nat_le, not}
use Rattle.std.specs.declared.cmp.Ordering.TheVariants.{Equal, Greater, Less}
use Rattle.store.specs.Indexes.{shown_by}
use Rattle.store.specs.Pages.{live_rev}
use Rattle.tables.proofs.Cells.{blob_by, blobs_agree}
use Rattle.tables.proofs.Common.{IsKeyed, IsStore, docs_tree, nat_list_cmp_total}
use Rattle.tables.proofs.DocumentStatements.{IsOne, ones, same_db}
use Rattle.tables.proofs.Pages.{lists_page, page_of}
use Rattle.tables.proofs.Queries.{page_program}
use Rattle.tables.specs.Listings.{is_between}
use Rattle.tables.proofs.ListingOrders.{ascending_within}
use Rattle.tables.proofs.RowMaps.{text_exact, untied}
use Rattle.tables.proofs.Sorted.{all_sorted}
use Rattle.tables.proofs.Tables.{docs_keyed, of_these}
use Rattle.tables.specs.Layout.{IsDocumentRow, IsWellFormed}
use Rattle.tables.specs.Rows.{by_id, db_of, history_in_rows, id_of, is_row_of_database, is_row_of_document, listed_document}
use Rattle.tables.specs.Schema.{revs_tree}
use Rattle.tree.specs.DocumentId.{is_design_id, is_document_id}

-- ---- the statements

abbrev listed : List Term
listed = col 1 2 ∷ col 1 3 ∷ col 1 4 ∷ col 1 5 ∷ []

abbrev headings : List (List ℕ)
headings = codes "id" ∷ codes "seq" ∷ codes "winner" ∷ codes "del" ∷ []

abbrev id_order : List (Term × Key)
id_order = (col 1 2, record { collation = Binary; descending = false }) ∷ []

abbrev between_text : List ℕ
between_text = codes "SELECT id, seq, winner, del FROM docs WHERE db = ?1 AND id >= ?2 AND id < ?3 ORDER BY id"

abbrev bound_text : List ℕ
bound_text = codes "SELECT id FROM docs WHERE db = ?1 AND id >= ?2 AND id < ?3 ORDER BY id LIMIT ?4 OFFSET ?5"

abbrev by_bounds : List Term
by_bounds = compares Eq 1 0 ∷ compares Ge 2 1 ∷ compares Lt 2 2 ∷ []

pub between_are : IsCommand schema between_text (Select (program_on docs_tree by_bounds listed id_order) headings)
unfolding understood everything
between_are = record { is = refl; plain = (refl, refl); unlisted = refl }

pub bound_are : IsCommand schema bound_text (Select (page_program docs_tree by_bounds (col 1 2 ∷ []) id_order (col 0 3) (col 0 4)) (codes "id" ∷ []))
unfolding understood everything
bound_are = record { is = refl; plain = (refl, refl); unlisted = refl }

tests_bounds : (db : ℤ) (low high : List ℕ) (rest : Row) (rows : List Row) → AllByRecursion IsKeyed rows → AllByRecursion (λ x. list_all (holds ((Int db ∷ Blob low ∷ Blob high ∷ rest) ∷ x ∷ [])) by_bounds ≡ is_in_range db low high x) rows
tests_bounds db low high rest rows keyed =
    all_weaker IsKeyed (λ x. list_all (holds ((Int db ∷ Blob low ∷ Blob high ∷ rest) ∷ x ∷ [])) by_bounds ≡ is_in_range db low high x)
    (λ x k. then_term (int_by Eq (column x 1) (db_of x) db k.db) (then_term (blob_by Ge (column x 2) (id_of x) low k.id) (last_term (blob_by Lt (column x 2) (id_of x) high k.id)))) rows keyed

module _ {X E : Type 0} (old new : State) (is : IsStore old.now) (db : ℤ) (low high : List ℕ) (r : Result X E) (items : X → List Row) where
  mine : (x : Row) → is_in_range db low high x ≡ true → is_row_of_database db x ≡ true
  mine x k = (and_parts (is_row_of_database db x) _ k).0

  agree : (a b : Row) → IsOne a → IsOne b → ordering_then (value_cmp (column a 2) (column b 2)) Equal ≡ by_id a b
  agree a b k l = blobs_agree (column a 2) (column b 2) (id_of a) (id_of b) (ap (λ x. column x 2) k) (ap (λ x. column x 2) l)

  untied_ids : (a b : Row) → IsOne a → IsOne b → is_in_range db low high a ≡ true → is_in_range db low high b ≡ true → (db_of a ≡ db_of b → id_of a ≢ id_of b) → is_eq (by_id a b) ≡ false
  untied_ids a b k l x y apart = untied nat_list_cmp_total text_exact (id_of a) (id_of b) (apart (same_db db a b (mine a x) (mine b y)))

  pub lists_between : IfOk r (λ x. Shown between_text (Int db ∷ Blob low ∷ Blob high ∷ []) old new (items x)) → IfOk r (λ x. items x ≡ map listed_document (documents_between db low high (old.now.trees docs_tree)))
  lists_between =
      lists old new is.schema_is between_are (Int db ∷ Blob low ∷ Blob high ∷ []) (is_in_range db low high) listed_document IsOne by_id (λ a b. db_of a ≡ db_of b → id_of a ≢ id_of b) agree untied_ids refl (λ x. refl)
      (tests_bounds db low high [] _ (docs_keyed old.now.trees is.laid).keyed) (ones old is) is.laid.ids_apart r items

  pub lists_bound : (most skip : ℤ) → IfOk r (λ x. Shown bound_text (Int db ∷ Blob low ∷ Blob high ∷ Int most ∷ Int skip ∷ []) old new (items x)) → IfOk r (λ x. items x ≡ ids_between db low high most skip (old.now.trees docs_tree))
  lists_bound most skip h =
      subst (λ l. IfOk r (λ x. items x ≡ l)) (page_of most skip _)
      (lists_page old new is.schema_is bound_are (Int db ∷ Blob low ∷ Blob high ∷ Int most ∷ Int skip ∷ []) (is_in_range db low high) (λ x. column x 2 ∷ []) IsOne by_id (λ a b. db_of a ≡ db_of b → id_of a ≢ id_of b) agree untied_ids refl (λ x. refl)
      (tests_bounds db low high (Int most ∷ Int skip ∷ []) _ (docs_keyed old.now.trees is.laid).keyed) (ones old is) is.laid.ids_apart r items h)

-- ---- ids

-- the id is below those that begin with `_d`
abbrev is_low : List ℕ → Bool
is_low i = is_lt (slice_cmp nat_cmp i (codes "_d"))

-- or above them
abbrev is_high : List ℕ → Bool
is_high i = is_le (slice_cmp nat_cmp (codes "_e") i)

tied : (a b : ℕ) → nat_cmp a b ≡ Equal → a ≡ b
tied a b is = grind (arith, nat_tests)

-- no id is both
not_both : (i : List ℕ) → is_low i ≡ true → is_high i ≡ true → ⊥
not_both [] low high = cc
not_both (b ∷ []) low high = by (nat_cmp b 95) refl (nat_cmp 95 b) refl low high
  where
    by : (o : Ordering) → nat_cmp b 95 ≡ o → (p : Ordering) → nat_cmp 95 b ≡ p → is_lt (ordering_then o Less) ≡ true → is_le (ordering_then p Greater) ≡ true → ⊥
    by Greater is p at low high = cc
    by Less is Less at low high = grind (arith, nat_tests)
    by Less is Equal at low high = cc
    by Less is Greater at low high = cc
    by Equal is Less at low high = grind (arith, nat_tests)
    by Equal is Equal at low high = cc
    by Equal is Greater at low high = cc
not_both (b ∷ c ∷ more) low high = by (nat_cmp b 95) refl (nat_cmp 95 b) refl low high
  where
    second : (o : Ordering) → nat_cmp c 100 ≡ o → (p : Ordering) → nat_cmp 101 c ≡ p → (q s : Ordering) → is_lt (ordering_then o q) ≡ true → is_le (ordering_then p s) ≡ true → ⊥
    second Greater is p at q s low high = cc
    second Less is Less at q s low high = grind (arith, nat_tests)
    second Less is Equal at q s low high = grind (arith, nat_tests)
    second Less is Greater at q s low high = cc
    second Equal is Less at q s low high = grind (arith, nat_tests)
    second Equal is Equal at q s low high = grind (arith, nat_tests)
    second Equal is Greater at q s low high = cc

    by : (o : Ordering) → nat_cmp b 95 ≡ o → (p : Ordering) → nat_cmp 95 b ≡ p → is_lt (ordering_then o (slice_cmp nat_cmp (c ∷ more) (100 ∷ []))) ≡ true → is_le (ordering_then p (slice_cmp nat_cmp (101 ∷ []) (c ∷ more))) ≡ true → ⊥
    by Greater is p at low high = cc
    by Less is Less at low high = grind (arith, nat_tests)
    by Less is Equal at low high = grind (arith, nat_tests)
    by Less is Greater at low high = cc
    by Equal is Less at low high = grind (arith, nat_tests)
    by Equal is Greater at low high = grind (arith, nat_tests)
    by Equal is Equal at low high = second (nat_cmp c 100) refl (nat_cmp 101 c) refl (slice_cmp nat_cmp more []) (slice_cmp nat_cmp [] more) low high

reserved_design : (b : Bool) → (not true || b || false) ≡ true → b ≡ true
reserved_design true is = refl
reserved_design false is = is

-- an id that is neither, and may name a document, is that of a design document
neither_design : (i : List ℕ) → is_document_id i ≡ true → is_low i ≡ false → is_high i ≡ false → is_design_id i ≡ true
neither_design [] named low high = cc
neither_design (b ∷ []) named low high = by (nat_cmp b 95) refl (nat_cmp 95 b) refl low high
  where
    by : (o : Ordering) → nat_cmp b 95 ≡ o → (p : Ordering) → nat_cmp 95 b ≡ p → is_lt (ordering_then o Less) ≡ false → is_le (ordering_then p Greater) ≡ false → is_design_id (b ∷ []) ≡ true
    by Less is p at low high = cc
    by Equal is p at low high = cc
    by Greater is Less at low high = cc
    by Greater is Equal at low high = absurd (grind (arith, nat_tests))
    by Greater is Greater at low high = absurd (grind (arith, nat_tests))
neither_design (b ∷ c ∷ more) named low high = by (nat_cmp b 95) refl (nat_cmp 95 b) refl low high
  where
    own : b ≡ 95 → c ≡ 100 → is_design_id (b ∷ c ∷ more) ≡ true
    own first second =
        let id : b ∷ c ∷ more ≡ 95 ∷ 100 ∷ more = λ j. first j ∷ second j ∷ more in
        let lawful : is_document_id (95 ∷ 100 ∷ more) ≡ true = ap is_document_id (sym id) ∙ named in
        ap is_design_id id ∙ reserved_design (is_design_id (95 ∷ 100 ∷ more)) (second_so (nat_le 1 (length (95 ∷ 100 ∷ more)) && nat_le (length (95 ∷ 100 ∷ more)) 256) _ lawful)

    second : (o : Ordering) → nat_cmp c 100 ≡ o → (p : Ordering) → nat_cmp 101 c ≡ p → is_lt (ordering_then o (slice_cmp nat_cmp more [])) ≡ false → is_le (ordering_then p (slice_cmp nat_cmp [] more)) ≡ false → c ≡ 100
    second Less is p at low high = cc
    second Equal is p at low high = tied c 100 is
    second Greater is Less at low high = cc
    second Greater is Equal at low high = by more high
      where
        by : (l : List ℕ) → is_le (slice_cmp nat_cmp [] l) ≡ false → c ≡ 100
        by [] h = cc
        by (x ∷ l) h = cc
    second Greater is Greater at low high = absurd (grind (arith, nat_tests))

    by : (o : Ordering) → nat_cmp b 95 ≡ o → (p : Ordering) → nat_cmp 95 b ≡ p → is_lt (ordering_then o (slice_cmp nat_cmp (c ∷ more) (100 ∷ []))) ≡ false → is_le (ordering_then p (slice_cmp nat_cmp (101 ∷ []) (c ∷ more))) ≡ false → is_design_id (b ∷ c ∷ more) ≡ true
    by Less is p at low high = cc
    by Greater is Less at low high = cc
    by Greater is Equal at low high = absurd (grind (arith, nat_tests))
    by Greater is Greater at low high = absurd (grind (arith, nat_tests))
    by Equal is Less at low high = cc
    by Equal is Greater at low high = absurd (grind (arith, nat_tests))
    by Equal is Equal at low high = own (tied b 95 is) (second (nat_cmp c 100) refl (nat_cmp 101 c) refl low high)

-- ---- the rows that are listed

-- a document of this id has a row of the kind, where it has one at all
any_of_kind : (db : ℤ) (i : List ℕ) (p : Row → Bool) → ((r : Row) → is_row_of_document db i r ≡ true → p r ≡ true) → (rows : List Row) → list_any (bytes_eq i) (map id_of (sort_by by_id (filter p rows))) ≡ false → list_any (is_row_of_document db i) rows ≡ false
any_of_kind db i p kind rows out = within rows (sym (any_in_order i (filter p rows)) ∙ out)
  where
    within : (rows : List Row) → list_any (λ r. bytes_eq i (id_of r)) (filter p rows) ≡ false → list_any (is_row_of_document db i) rows ≡ false
    within [] out = refl
    within (r ∷ rows) out = by (is_row_of_document db i r) refl (p r) refl out (within rows)
      where
        by : (x : Bool) → is_row_of_document db i r ≡ x → (y : Bool) → p r ≡ y → list_any (λ s. bytes_eq i (id_of s)) (cond y (r ∷ filter p rows) (filter p rows)) ≡ false
            → (list_any (λ s. bytes_eq i (id_of s)) (filter p rows) ≡ false → list_any (is_row_of_document db i) rows ≡ false) → (x || list_any (is_row_of_document db i) rows) ≡ false
        by true own true at out more =
            absurd (let named = bytes_eq-sym i (id_of r) ∙ (and_parts (is_row_of_database db r) _ own).1 in let here = sym (ap (λ b. b || list_any (λ s. bytes_eq i (id_of s)) (filter p rows)) named) ∙ out in cc)
        by true own false at out more = absurd (let here = sym (kind r own) ∙ at in cc)
        by false own true at out more = more (last_of (bytes_eq i (id_of r)) out)
          where
            last_of : (b : Bool) {c : Bool} → (b || c) ≡ false → c ≡ false
            last_of true is = absurd (cc)
            last_of false is = is
        by false own false at out more = more out

-- a document that has a row has a text for its id, which may name a document
named_there : (trees : Trees) (db : ℤ) (i : List ℕ) (rows : List Row) → AllByRecursion (IsDocumentRow trees) rows → list_any (is_row_of_document db i) rows ≡ true → (is_document_id i ≡ true) × IsUtf8 i
named_there trees db i [] all there = absurd (cc)
named_there trees db i (r ∷ rows) all there = by (named_there trees db i rows all.1) (is_row_of_document db i r) refl there
  where
    by : (list_any (is_row_of_document db i) rows ≡ true → (is_document_id i ≡ true) × IsUtf8 i) → (x : Bool) → is_row_of_document db i r ≡ x → (x || list_any (is_row_of_document db i) rows) ≡ true → (is_document_id i ≡ true) × IsUtf8 i
    by rest true own there = let id : i ≡ id_of r = sym (of_these db i r own).1 in (ap is_document_id id ∙ all.0.named, subst IsUtf8 (sym id) all.0.text)
    by rest false own there = rest there

-- of a document whose id lies in neither range nothing is seen
pub outside_unseen : (trees : Trees) → IsWellFormed trees → (db : ℤ) (i : List ℕ) → is_between [] (codes "_d") i ≡ false → is_between (codes "_e") (255 ∷ []) i ≡ false → sees_in trees db i ≡ None
outside_unseen trees l db i low high = by (list_any (is_row_of_document db i) (trees docs_tree)) refl
  where
    by : (b : Bool) → list_any (is_row_of_document db i) (trees docs_tree) ≡ b → sees_in trees db i ≡ None
    by false none = unwritten_unseen trees l db i none
    by true there =
        let it = named_there trees db i (trees docs_tree) l.docs there in
        let is : is_design_id i ≡ true = neither_design i it.0 (sym (ap (λ b. b && is_low i) (none_below i)) ∙ low) (sym (and_true (is_high i)) ∙ ap (λ b. is_high i && b) (sym (above_texts i it.1)) ∙ high) in
        ap (λ b. if b then None else shown_by i (history_in_rows (trees revs_tree) db i) (live_rev (history_in_rows (trees revs_tree) db i))) is
      where
        and_true : (b : Bool) → (b && true) ≡ b
        and_true true = refl
        and_true false = refl

-- no id lies in both
pub ranges_apart : (i : List ℕ) → is_between [] (codes "_d") i ≡ true → is_between (codes "_e") (255 ∷ []) i ≡ false
ranges_apart i low = by (is_between (codes "_e") (255 ∷ []) i) refl
  where
    by : (b : Bool) → is_between (codes "_e") (255 ∷ []) i ≡ b → is_between (codes "_e") (255 ∷ []) i ≡ false
    by false out = out
    by true high = absurd (not_both i (and_parts (is_le (slice_cmp nat_cmp [] i)) (is_low i) low).1 (and_parts (is_high i) (is_lt (slice_cmp nat_cmp i (255 ∷ []))) high).0)

module _ (trees : Trees) (l : IsWellFormed trees) (db : ℤ) (low high : List ℕ) where
  abbrev found : List Row
  found = filter (is_in_range db low high) (trees docs_tree)

  -- what holds of each row of a document in a range holds of each that is listed
  pub all_listed : (P : Row → Type 0) → ((r : Row) → IsDocumentRow trees r → is_in_range db low high r ≡ true → P r) → AllByRecursion P (documents_between db low high (trees docs_tree))
  all_listed P holds_of = all_sorted P by_id found (go (trees docs_tree) l.docs)
    where
      go : (rows : List Row) → AllByRecursion (IsDocumentRow trees) rows → AllByRecursion P (filter (is_in_range db low high) rows)
      go [] all = tt
      go (r ∷ rows) all = by (go rows all.1) (is_in_range db low high r) refl
        where
          by : AllByRecursion P (filter (is_in_range db low high) rows) → (b : Bool) → is_in_range db low high r ≡ b → AllByRecursion P (cond b (r ∷ filter (is_in_range db low high) rows) (filter (is_in_range db low high) rows))
          by rest true is = (holds_of r all.0 is, rest)
          by rest false is = rest

  -- no two rows that are listed are of one document
  pub listed_apart : IsAscending (λ c d. id_of c ≢ id_of d) (documents_between db low high (trees docs_tree))
  listed_apart =
      ascending-sorted (λ c d. id_of c ≢ id_of d) (λ c d away same. away (sym same)) by_id found
      (ascending_within (is_in_range db low high) (λ c d. id_of c ≢ id_of d) (trees docs_tree)
      (ascending_weaker (λ c d. db_of c ≡ db_of d → id_of c ≢ id_of d) (λ c d. is_in_range db low high c ≡ true → is_in_range db low high d ≡ true → id_of c ≢ id_of d)
      (λ c d away x y. away (same_db db c d (and_parts (is_row_of_database db c) _ x).0 (and_parts (is_row_of_database db d) _ y).0)) (trees docs_tree) l.ids_apart))

  -- a document that is listed has its id in the range
  pub listed_within : (i : List ℕ) → list_any (bytes_eq i) (map id_of (documents_between db low high (trees docs_tree))) ≡ true → is_between low high i ≡ true
  listed_within i there = within (trees docs_tree) (sym (any_in_order i found) ∙ there)
    where
      within : (rows : List Row) → list_any (λ r. bytes_eq i (id_of r)) (filter (is_in_range db low high) rows) ≡ true → is_between low high i ≡ true
      within [] there = absurd (cc)
      within (r ∷ rows) there = by (is_in_range db low high r) refl there (within rows)
        where
          here : (b : Bool) → bytes_eq i (id_of r) ≡ b → is_in_range db low high r ≡ true → (b || list_any (λ s. bytes_eq i (id_of s)) (filter (is_in_range db low high) rows)) ≡ true
              → (list_any (λ s. bytes_eq i (id_of s)) (filter (is_in_range db low high) rows) ≡ true → is_between low high i ≡ true) → is_between low high i ≡ true
          here true own is there more = ap (is_between low high) ((bytes_eq-Decides i (id_of r)).0 own) ∙ (and_parts (is_row_of_database db r) _ is).1
          here false own is there more = more there

          by : (b : Bool) → is_in_range db low high r ≡ b → list_any (λ s. bytes_eq i (id_of s)) (cond b (r ∷ filter (is_in_range db low high) rows) (filter (is_in_range db low high) rows)) ≡ true
              → (list_any (λ s. bytes_eq i (id_of s)) (filter (is_in_range db low high) rows) ≡ true → is_between low high i ≡ true) → is_between low high i ≡ true
          by true is there more = here (bytes_eq i (id_of r)) refl is there more
          by false is there more = more there

  -- of one in the range that is not listed nothing is seen
  pub unlisted_unseen : (i : List ℕ) → is_between low high i ≡ true → list_any (bytes_eq i) (map id_of (documents_between db low high (trees docs_tree))) ≡ false → sees_in trees db i ≡ None
  unlisted_unseen i within out =
      unwritten_unseen trees l db i
      (any_of_kind db i (is_in_range db low high)
      (λ r own. let it = and_parts (is_row_of_database db r) _ own in and_from (is_row_of_database db r) _ it.0 (ap (is_between low high) ((bytes_eq-Decides (id_of r) i).0 it.1) ∙ within)) (trees docs_tree) out)
