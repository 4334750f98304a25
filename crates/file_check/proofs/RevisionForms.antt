-- When the row of a revision is sound, by its cells.
use Rattle.tables.proofs.Common.{Blob, Bool, Entry, Int, IsRevisionRow, IsTrue, List, None, Null, Option, Real, Revision, Row, Some, Text, Trees, Value, [], and_parts, ap, arith, bytes, bytes_eq, bytes_eq-Decides, column, cond, count_in_cell, db_of, docs_tree, entry_of, eq_by_cmp, false, filter, history_in_rows, id_of, inl, inr, int_eq, is_row_of_database, is_known, is_row_of_document, is_revision, is_some, list_any, map, nat_le, nat_tests, Decides-int_eq, number_of, parent_cell, parent_in, pos, refl, revision_cmp, revision_cmp_total, revision_of_row, revision_row, revs_tree, same, same_int, subst, sym, tied, true, whole_in_cell, ℕ, ℤ, ◌&&◌, ◌-◌, ◌||◌, ◌∙◌, ◌∷◌, ◌≡◌, ◌≢◌, ◌≤◌, Result, Ok, Err, IfOk, greatest_number}
use Rattle.std.proofs.Common.{negsuc, suc, zero}
use Rattle.std.specs.Prelude.{IsUtf8}
use Rattle.tree.proofs.RevisionText.{IsUtf8-revision}
use Rattle.std.proofs.lemmas.Bool.{false≢true}
use Rattle.std.specs.FinMap as finite
use Rattle.tree.specs.Revision.{is_hash}
use Rattle.file_check.proofs.Assembled.{parent_number}
use Rattle.file_check.specs.inner.Rows.{IsFollowing, IsHeldSo, IsWholeRevision}
use Rattle.file_check.specs.Tables.{HasRevisionCells}
use Rattle.file_check.specs.inner.Queries.{Judges, is_stored}
use Rattle.file_check.specs.declared.finding.CheckFault.{CheckFault}
use Rattle.file_check.specs.declared.finding.Wrong.{Wrong}

-- what is no text is no revision's hash
pub no_revision : (n : ℕ) (hash : List ℕ) → ¬ IsUtf8 hash → false ≡ is_revision (record { number = n; hash = hash })
no_revision n hash out = by (is_revision (record { number = n; hash = hash })) refl
  where
    by : (b : Bool) → is_revision (record { number = n; hash = hash }) ≡ b → false ≡ b
    by true is = absurd (out (IsUtf8-revision (record { number = n; hash = hash }) is))
    by false is = refl

module _ (r : Row) (n : ℕ) (known : Bool) (number : column r 3 ≡ Int (pos n)) where
  counted : count_in_cell (column r 3) ≡ n
  counted = ap count_in_cell number

  parent_is : IsFollowing r n known → column r 5 ≡ parent_cell (entry_of r).parent
  parent_is (inl first) = first.0 ∙ ap (λ v. parent_cell (parent_in (count_in_cell (column r 3)) v)) (sym first.0)
  parent_is (inr later) = later.0 ∙ ap (λ v. parent_cell (parent_in (count_in_cell (column r 3)) v)) (sym later.0)

  first_is : IsFollowing r n known → (((entry_of r).parent ≡ None) → (revision_of_row r).number ≡ 1) × ((revision_of_row r).number ≡ 1 → (entry_of r).parent ≡ None)
  first_is (inl first) = ((λ none. counted ∙ first.1), (λ one. ap (parent_in (count_in_cell (column r 3))) first.0))
  first_is (inr later) = (
    (λ none. absurd (let z : Some (record { number = count_in_cell (column r 3) - 1; hash = bytes (column r 5) }) ≡ None = sym (ap (parent_in (count_in_cell (column r 3))) later.0) ∙ none in cc)),
    (λ one. absurd (later.1 (sym counted ∙ one))),
  )

  known_is : IsFollowing r n known → (p : Revision) → (entry_of r).parent ≡ Some p → known ≡ true
  known_is (inl first) p up = absurd (let z : None ≡ Some p = sym (ap (parent_in (count_in_cell (column r 3))) first.0) ∙ up in cc)
  known_is (inr later) p up = later.2

  pub revision_sound : (there : Bool) → HasRevisionCells r → there ≡ true → IsTrue (is_revision (record { number = n; hash = bytes (column r 4) })) → IsFollowing r n known → IsHeldSo r → IsWholeRevision r there known
  revision_sound there cells there_is lawful following held =
      let whole : whole_in_cell (column r 3) ≡ pos (count_in_cell (column r 3)) = ap whole_in_cell number ∙ ap pos (sym counted) in
      let up = parent_is following in
      record {
        lawful = record {
          is = cells.is ∙ (λ i. Int (number_of r) ∷ Int (db_of r) ∷ Blob (id_of r) ∷ Int (whole i) ∷ Text (bytes (column r 4)) ∷ up i ∷ Int (whole_in_cell (held.held i)) ∷ Int (whole_in_cell (held.mark i)) ∷ held.text i ∷ []);
          lawful = ap (λ m. is_revision (record { number = m; hash = bytes (column r 4) })) counted ∙ lawful;
          first = first_is following;
          body = held.body;
          spelled = held.spelled;
        };
        there_is = there_is;
        follows = known_is following;
      }

  pub revision_unlawful : (there : Bool) → is_revision (record { number = n; hash = bytes (column r 4) }) ≡ false → ¬ IsWholeRevision r there known
  revision_unlawful there out k = false≢true (sym out ∙ ap (λ m. is_revision (record { number = m; hash = bytes (column r 4) })) (sym counted) ∙ k.lawful.lawful)

  -- the row of a revision says what it follows
  following : (there : Bool) → IsWholeRevision r there known → IsFollowing r n known
  following there k = by (entry_of r).parent refl
    where
      cell : column r 5 ≡ parent_cell (entry_of r).parent
      cell = ap (λ x. column x 5) k.lawful.is

      by : (o : Option Revision) → (entry_of r).parent ≡ o → IsFollowing r n known
      by None is = inl (cell ∙ ap parent_cell is, sym counted ∙ k.lawful.first.0 is)
      by (Some p) is =
          let text : column r 5 ≡ Text p.hash = cell ∙ ap parent_cell is in
          inr (text ∙ ap Text (sym (ap bytes text)), (λ one. absurd (let z : None ≡ Some p = sym (k.lawful.first.1 (counted ∙ one)) ∙ is in cc)), k.follows p is)

  pub revision_unfollowing : (there : Bool) → ¬ IsFollowing r n known → ¬ IsWholeRevision r there known
  revision_unfollowing there out k = out (following there k)

pub revision_unowned : (r : Row) (there known : Bool) → there ≡ false → ¬ IsWholeRevision r there known
revision_unowned r there known out k = false≢true (sym out ∙ k.there_is)

pub revision_uncounted : (r : Row) (there known : Bool) → ((n : ℕ) → column r 3 ≢ Int (pos n)) → ¬ IsWholeRevision r there known
revision_uncounted r there known out k = out (revision_of_row r).number (ap (λ x. column x 3) k.lawful.is)

pub revision_unheld : (r : Row) (there known : Bool) → ¬ IsHeldSo r → ¬ IsWholeRevision r there known
revision_unheld r there known out k =
    out (record {
      held = ap (λ x. column x 6) k.lawful.is;
      mark = ap (λ x. column x 7) k.lawful.is;
      text = ap (λ x. column x 8) k.lawful.is;
      body = k.lawful.body;
      spelled = k.lawful.spelled;
    })

-- ---- a row that is found is a known revision

abbrev known_entry : Row → Revision × Entry
known_entry r = (revision_of_row r, entry_of r)

count_is : (v : Value) (m : ℕ) → whole_in_cell v ≡ pos m → count_in_cell v ≡ m
count_is Null m is = cc
count_is (Int n) m is = ap (λ k. count_in_cell (Int k)) is
count_is (Real x) m is = cc
count_is (Text t) m is = cc
count_is (Blob b) m is = cc

whole_is : (v : Value) (m : ℕ) → 1 ≤ m → count_in_cell v ≡ m → whole_in_cell v ≡ pos m
whole_is Null m low is = absurd (omega (arith, low, is))
whole_is (Int (pos n)) m low is = ap pos is
whole_is (Int (negsuc n)) m low is = absurd (omega (arith, low, is))
whole_is (Real x) m low is = absurd (omega (arith, low, is))
whole_is (Text t) m low is = absurd (omega (arith, low, is))
whole_is (Blob b) m low is = absurd (omega (arith, low, is))

module _ (db : ℤ) (id : List ℕ) (q : Revision) where
  abbrev found_in : List Row → Option Entry
  found_in rows = finite.find revision_cmp q (map known_entry (filter (is_row_of_document db id) rows))

  stored_is : (r : Row) → is_stored db id (pos q.number) q.hash r ≡ true → (is_row_of_document db id r ≡ true) × (eq_by_cmp revision_cmp q (revision_of_row r) ≡ true)
  stored_is r is =
      let a = and_parts (is_row_of_database db r) (bytes_eq (id_of r) id && (int_eq (whole_in_cell (column r 3)) (pos q.number) && bytes_eq (bytes (column r 4)) q.hash)) is in
      let b = and_parts (bytes_eq (id_of r) id) (int_eq (whole_in_cell (column r 3)) (pos q.number) && bytes_eq (bytes (column r 4)) q.hash) a.1 in
      let c = and_parts (int_eq (whole_in_cell (column r 3)) (pos q.number)) (bytes_eq (bytes (column r 4)) q.hash) b.1 in
      let number = count_is (column r 3) q.number (same_int (whole_in_cell (column r 3)) (pos q.number) c.0) in
      let hash = (bytes_eq-Decides (bytes (column r 4)) q.hash).0 c.1 in
      (rw (a.0, b.0) refl, tied q (revision_of_row r) (λ i. record { number = sym number i; hash = sym hash i }))

  known_in : (rows : List Row) → list_any (is_stored db id (pos q.number) q.hash) rows ≡ true → is_some (found_in rows) ≡ true
  known_in [] any = absurd cc
  known_in (r ∷ rows) any = by (known_in rows) (is_stored db id (pos q.number) q.hash r) refl any
    where
      kept : (b : Bool) → is_some (found_in rows) ≡ true → is_some (finite.find revision_cmp q (map known_entry (cond b (r ∷ filter (is_row_of_document db id) rows) (filter (is_row_of_document db id) rows)))) ≡ true
      kept true some = elim (eq_by_cmp revision_cmp q (revision_of_row r)) as (λ c. is_some (cond c (Some (entry_of r)) (found_in rows)) ≡ true) [ true ↦ refl | false ↦ some ]
      kept false some = some

      by : (list_any (is_stored db id (pos q.number) q.hash) rows ≡ true → is_some (found_in rows) ≡ true) → (b : Bool) → is_stored db id (pos q.number) q.hash r ≡ b
          → (b || list_any (is_stored db id (pos q.number) q.hash) rows) ≡ true → is_some (found_in (r ∷ rows)) ≡ true
      by rest true is h =
          let own = stored_is r is in
          ap (λ b. is_some (finite.find revision_cmp q (map known_entry (cond b (r ∷ filter (is_row_of_document db id) rows) (filter (is_row_of_document db id) rows))))) own.0
          ∙ ap (λ c. is_some (cond c (Some (entry_of r)) (found_in rows))) own.1
      by rest false is h = kept (is_row_of_document db id r) (rest h)

  stored_known : (rows : List Row) → list_any (is_stored db id (pos q.number) q.hash) rows ≡ true → is_known (history_in_rows rows db id) q ≡ true
  stored_known rows any = ap is_some (finite.get-from_entries revision_cmp_total (map known_entry (filter (is_row_of_document db id) rows)) q) ∙ known_in rows any

  -- and a known revision is a row that is found
  is_stored_where : 1 ≤ q.number → (r : Row) → is_row_of_document db id r ≡ true → eq_by_cmp revision_cmp q (revision_of_row r) ≡ true → is_stored db id (pos q.number) q.hash r ≡ true
  is_stored_where low r own tie =
      let one = same q (revision_of_row r) tie in
      let a = and_parts (is_row_of_database db r) (bytes_eq (id_of r) id) own in
      let number = whole_is (column r 3) q.number low (ap (λ (x : Revision). x.number) (sym one)) in
      let hash = ap (λ (x : Revision). x.hash) (sym one) in
      rw (a.0, a.1, (Decides-int_eq (whole_in_cell (column r 3)) (pos q.number)).1 number, (bytes_eq-Decides (bytes (column r 4)) q.hash).1 hash) refl

  stored_in : 1 ≤ q.number → (rows : List Row) → is_some (found_in rows) ≡ true → list_any (is_stored db id (pos q.number) q.hash) rows ≡ true
  stored_in low [] some = absurd cc
  stored_in low (r ∷ rows) some = by (stored_in low rows) (is_row_of_document db id r) refl some
    where
      rest : Bool
      rest = list_any (is_stored db id (pos q.number) q.hash) rows

      later : rest ≡ true → (is_stored db id (pos q.number) q.hash r || rest) ≡ true
      later more = elim (is_stored db id (pos q.number) q.hash r) as (λ b. (b || list_any (is_stored db id (pos q.number) q.hash) rows) ≡ true) [ true ↦ refl | false ↦ more ]

      tied_by : (is_some (found_in rows) ≡ true → rest ≡ true) → is_row_of_document db id r ≡ true → (c : Bool) → eq_by_cmp revision_cmp q (revision_of_row r) ≡ c → is_some (cond c (Some (entry_of r)) (found_in rows)) ≡ true
          → (is_stored db id (pos q.number) q.hash r || rest) ≡ true
      tied_by ih own true tie h = ap (λ b. b || rest) (is_stored_where low r own tie)
      tied_by ih own false tie h = later (ih h)

      by : (is_some (found_in rows) ≡ true → rest ≡ true) → (b : Bool) → is_row_of_document db id r ≡ b → is_some (finite.find revision_cmp q (map known_entry (cond b (r ∷ filter (is_row_of_document db id) rows) (filter (is_row_of_document db id) rows)))) ≡ true
          → (is_stored db id (pos q.number) q.hash r || rest) ≡ true
      by ih true own h = tied_by ih own (eq_by_cmp revision_cmp q (revision_of_row r)) refl h
      by ih false own h = later (ih h)

  known_stored : 1 ≤ q.number → (rows : List Row) → is_known (history_in_rows rows db id) q ≡ true → list_any (is_stored db id (pos q.number) q.hash) rows ≡ true
  known_stored low rows known = stored_in low rows (ap is_some (sym (finite.get-from_entries revision_cmp_total (map known_entry (filter (is_row_of_document db id) rows)) q)) ∙ known)

first_number : (q : Revision) → is_revision q ≡ true → 1 ≤ q.number
first_number q h =
    let low : nat_le 1 q.number ≡ true = (and_parts (nat_le 1 q.number) (nat_le q.number greatest_number) (and_parts (nat_le 1 q.number && nat_le q.number greatest_number) (is_hash q.hash) h).0).0 in
    grind (arith, nat_tests, low)

above_first : (n : ℕ) → 1 ≤ n → n ≢ 1 → 1 ≤ n - 1
above_first zero low other = absurd (omega (arith, low))
above_first (suc zero) low other = absurd (other refl)
above_first (suc (suc m)) low other = omega arith

module _ (trees : Trees) (r : Row) (there known : Bool) (number : ℤ) (number_is : (n : ℕ) → column r 3 ≡ Int (pos n) → 1 ≤ n → number ≡ pos (n - 1)) (there_is : there ≡ list_any (is_row_of_document (db_of r) (id_of r)) (trees docs_tree))
    (known_is : known ≡ list_any (is_stored (db_of r) (id_of r) number (bytes (column r 5))) (trees revs_tree)) where
  -- what was looked for is the parent that the row names
  looked_for : r ≡ revision_row (number_of r) (db_of r) (id_of r) (revision_of_row r) (entry_of r) → IsTrue (is_revision (revision_of_row r)) → (p : Revision) → (entry_of r).parent ≡ Some p
      → list_any (is_stored (db_of r) (id_of r) number (bytes (column r 5))) (trees revs_tree) ≡ list_any (is_stored (db_of r) (id_of r) (pos p.number) p.hash) (trees revs_tree)
  looked_for is lawful p up =
      let hash : bytes (column r 5) ≡ p.hash = ap bytes (ap (λ x. column x 5) is ∙ ap parent_cell up) in
      let at : number ≡ pos p.number = number_is (revision_of_row r).number (ap (λ x. column x 3) is) (first_number (revision_of_row r) lawful) ∙ ap pos (sym (parent_number (count_in_cell (column r 3)) (column r 5) p up)) in
      λ i. list_any (is_stored (db_of r) (id_of r) (at i) (hash i)) (trees revs_tree)

  revision_of_document : IsWholeRevision r there known → IsRevisionRow trees r
  revision_of_document k = record {
    is = k.lawful.is;
    there = sym there_is ∙ k.there_is;
    lawful = k.lawful.lawful;
    first = k.lawful.first;
    follows = λ p up. stored_known (db_of r) (id_of r) p (trees revs_tree) (sym (looked_for k.lawful.is k.lawful.lawful p up) ∙ sym known_is ∙ k.follows p up);
    body = k.lawful.body;
    spelled = k.lawful.spelled;
  }

  whole_where_sound : IsRevisionRow trees r → IsWholeRevision r there known
  whole_where_sound k = record {
    lawful = record { is = k.is; lawful = k.lawful; first = k.first; body = k.body; spelled = k.spelled };
    there_is = there_is ∙ k.there;
    follows = λ p up.
        let number = parent_number (count_in_cell (column r 3)) (column r 5) p up in
        let above = above_first (revision_of_row r).number (first_number (revision_of_row r) k.lawful) (λ one. absurd (let z : None ≡ Some p = sym (k.first.1 one) ∙ up in cc)) in
        known_is ∙ looked_for k.is k.lawful p up ∙ known_stored (db_of r) (id_of r) p (subst (λ m. 1 ≤ m) (sym number) above) (trees revs_tree) (k.follows p up);
  }

pub judged_revision : (trees : Trees) (r : Row) (there known : Bool) (number : ℤ) → ((n : ℕ) → column r 3 ≡ Int (pos n) → 1 ≤ n → number ≡ pos (n - 1))
    → known ≡ list_any (is_stored (db_of r) (id_of r) number (bytes (column r 5))) (trees revs_tree) → (judged : Result (Option Wrong) CheckFault) → (HasRevisionCells r → IfOk judged (Judges (IsWholeRevision r there known)))
    → IfOk judged (λ found. HasRevisionCells r → there ≡ list_any (is_row_of_document (db_of r) (id_of r)) (trees docs_tree) → Judges (IsRevisionRow trees r) found)
judged_revision trees r there known number number_is known_is (Err e) judge = tt
judged_revision trees r there known number number_is known_is (Ok (Some w)) judge = λ cells there_is k. judge cells (whole_where_sound trees r there known number number_is there_is known_is k)
judged_revision trees r there known number number_is known_is (Ok None) judge = λ cells there_is. revision_of_document trees r there known number number_is there_is known_is (judge cells)

-- what says of the row of a revision whether it is sound
pub ruleset revision_forms = (revision_sound, revision_unowned, revision_uncounted, revision_unlawful, revision_unfollowing, revision_unheld)
