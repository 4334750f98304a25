-- What index rows say, and when they say the same of something else.
use Rattle.index.proofs.Common.{AllByRecursion, AreDeclarationRows, AreEntryRows, AreIndexed, Declarations, Documents, IsIndexed, List, None, Option, Row, Some, Trees, [], all_both, and_from, ap, bytes_eq, bytes_eq-Decides, cond, declaration_at, declared_by, decls_tree, design_of, entries_tree, fields_of, find, find_found, find_passes, has_entry, has_number, database_of_declaration, index_name_of_row, int_eq, is_declaration_of, is_due, is_due_by, is_key, key_if_seen, number_of, option_map, refl, subst, sym, true, ℕ, ℤ, ◌∙◌, ◌∷◌, ◌≡◌, ◌≢◌}
use Rattle.index.proofs.DeclarationStatements.{of_index}
use Rattle.index.proofs.EntryChanges.{same_bytes, same_number}
use Rattle.index.proofs.Following.{found_each}
use Rattle.index.specs.Entries.{IsDeclaredAs, IsEntryOf}
use Rattle.std.proofs.lemmas.Bool.{false_from_ne_true}
use Rattle.store.specs.Indexes.{index_fields_of, queried_document}
use Rattle.tables.proofs.RowMaps.{mapped_some}
use Rattle.tables.specs.Rows.{history_in_rows}
use Rattle.tables.specs.Schema.{revs_tree}

-- ---- rows that are found

own_index : (r : Row) → is_declaration_of (database_of_declaration r) (design_of r) (index_name_of_row r) r ≡ true
own_index r =
    and_from (int_eq (database_of_declaration r) (database_of_declaration r)) _ (same_number (database_of_declaration r) (database_of_declaration r) refl)
    (and_from (bytes_eq (design_of r) (design_of r)) (bytes_eq (index_name_of_row r) (index_name_of_row r)) (same_bytes (design_of r) (design_of r) refl) (same_bytes (index_name_of_row r) (index_name_of_row r) refl))

-- each row is the one that is found for its index
pub index_found : (rows : List Row) → AreDeclarationRows rows → AllByRecursion (λ r. find (is_declaration_of (database_of_declaration r) (design_of r) (index_name_of_row r)) rows ≡ Some r) rows
index_found [] h = tt
index_found (r ∷ rows) h = (
  ap (λ b. cond b (Some r) (find (is_declaration_of (database_of_declaration r) (design_of r) (index_name_of_row r)) rows)) (own_index r),
  all_both (λ s. database_of_declaration r ≡ database_of_declaration s → design_of r ≡ design_of s → index_name_of_row r ≢ index_name_of_row s) (λ s. find (is_declaration_of (database_of_declaration s) (design_of s) (index_name_of_row s)) rows ≡ Some s)
      (λ s. find (is_declaration_of (database_of_declaration s) (design_of s) (index_name_of_row s)) (r ∷ rows) ≡ Some s)
      (λ s away found.
      let out = false_from_ne_true (is_declaration_of (database_of_declaration s) (design_of s) (index_name_of_row s) r) (λ here. let e = of_index (database_of_declaration s) (design_of s) (index_name_of_row s) r here in away e.0 e.1 e.2) in
      ap (λ b. cond b (Some r) (find (is_declaration_of (database_of_declaration s) (design_of s) (index_name_of_row s)) rows)) out ∙ found) rows h.apart.0
      (index_found rows (record { each = h.each.1; rising = h.rising.1; apart = h.apart.1 })),
)

pub key_is : (key : Option (List ℕ)) (k : List ℕ) → is_key key k ≡ true → key ≡ Some k
key_is None k is = absurd (cc)
key_is (Some found) k is = ap Some ((bytes_eq-Decides found k).0 is)

module _ (declares : Declarations) (sees : Documents) (trees : Trees) (h : AreIndexed declares sees trees) where
  -- what is found by a number declares its index
  declared_at_number : (n : ℤ) (d : Row) → declaration_at (trees decls_tree) n ≡ Some d → declares (database_of_declaration d) (design_of d) (index_name_of_row d) ≡ Some (fields_of d)
  declared_at_number n d is =
      let found = find_found (λ r. find (is_declaration_of (database_of_declaration r) (design_of r) (index_name_of_row r)) (trees decls_tree) ≡ Some r) (has_number n) (trees decls_tree) d (index_found (trees decls_tree) h.decls) is in
      sym (h.declared (database_of_declaration d) (design_of d) (index_name_of_row d)) ∙ ap (option_map fields_of) found.0

  pub there : (n : ℤ) (k id : List ℕ) → has_entry (trees entries_tree) n k id ≡ true → IsEntryOf declares sees trees n k id
  there n k id is = go (declaration_at (trees decls_tree) n) refl (sym (h.entries.exact n k id) ∙ is)
    where
      go : (o : Option Row) → declaration_at (trees decls_tree) n ≡ o → is_due_by sees o k id ≡ true → IsEntryOf declares sees trees n k id
      go None found due = absurd (cc)
      go (Some d) found due = record {
        db = database_of_declaration d;
        design = design_of d;
        name = index_name_of_row d;
        fields = fields_of d;
        declared = declared_at_number n d found;
        row = record { row = d; found = found; home = refl; design_is = refl; name_is = refl; fields_are = refl };
        key = key_is (key_if_seen (fields_of d) (sees (database_of_declaration d) id)) k due;
      }

  pub whole : (db : ℤ) (design name : List ℕ) (fields : List (List ℕ)) → declares db design name ≡ Some fields
      → (n : ℤ) × IsDeclaredAs trees n db design name fields × ((k id : List ℕ) → key_if_seen fields (sees db id) ≡ Some k → has_entry (trees entries_tree) n k id ≡ true)
  whole db design name fields is =
      let p = is_declaration_of db design name in
      let found = mapped_some fields_of (find (is_declaration_of db design name) (trees decls_tree)) fields (h.declared db design name ∙ is) in
      let d = found.0 in
      let own = of_index db design name d (find_passes (is_declaration_of db design name) (trees decls_tree) d found.1) in
      let number = find_found (λ r. declaration_at (trees decls_tree) (number_of r) ≡ Some r) (is_declaration_of db design name) (trees decls_tree) d (found_each (trees decls_tree) h.decls.rising) found.1 in (
        number_of d,
        record { row = d; found = number.0; home = own.0; design_is = own.1; name_is = own.2; fields_are = found.2 },
        λ k id key.
            h.entries.exact (number_of d) k id ∙ ap (λ o. is_due_by sees o k id) number.0 ∙ (λ j. is_key (key_if_seen (found.2 j) (sees (own.0 j) id)) k)
            ∙ ap (λ o. is_key o k) key ∙ same_bytes k k refl,
      )

  -- ---- what says the same

  pub alike : (others : Declarations) (seen : Documents) → ((db : ℤ) (design name : List ℕ) → declares db design name ≡ others db design name) → ((db : ℤ) (id : List ℕ) → sees db id ≡ seen db id)
      → AreIndexed others seen trees
  alike others seen said same = record {
    decls = h.decls;
    declared = λ db design name. h.declared db design name ∙ said db design name;
    entries = record { laid = h.entries.laid; exact = λ m k i. h.entries.exact m k i ∙ due (declaration_at (trees decls_tree) m) k i };
  }
    where
      due : (o : Option Row) (k i : List ℕ) → is_due_by sees o k i ≡ is_due_by seen o k i
      due None k i = refl
      due (Some d) k i = ap (λ v. is_key (key_if_seen (fields_of d) v) k) (same (database_of_declaration d) i)

  pub unseen : (seen : Documents) (db : ℤ) → ((design name : List ℕ) → declares db design name ≡ None) → ((d : ℤ) (id : List ℕ) → d ≢ db → sees d id ≡ seen d id) → AreIndexed declares seen trees
  unseen seen db none same = record {
    decls = h.decls;
    declared = h.declared;
    entries = record { laid = h.entries.laid; exact = λ m k i. h.entries.exact m k i ∙ due m k i (declaration_at (trees decls_tree) m) refl };
  }
    where
      due : (m : ℤ) (k i : List ℕ) (o : Option Row) → declaration_at (trees decls_tree) m ≡ o → is_due_by sees o k i ≡ is_due_by seen o k i
      due m k i None found = refl
      due m k i (Some d) found =
          ap (λ v. is_key (key_if_seen (fields_of d) v) k)
          (same (database_of_declaration d) i
          (λ home. let both = sym (none (design_of d) (index_name_of_row d)) ∙ sym (ap (λ x. declares x (design_of d) (index_name_of_row d)) home) ∙ declared_at_number m d found in absurd (cc)))

pub same_rows : (a b : Trees) → b revs_tree ≡ a revs_tree → b decls_tree ≡ a decls_tree → b entries_tree ≡ a entries_tree → IsIndexed a → IsIndexed b
same_rows a b revs decls entries h = record {
  decls = subst AreDeclarationRows (sym decls) h.decls;
  declared = λ db design name. ap (λ rows. declared_by rows db design name) decls ∙ h.declared db design name ∙ sym (ap (λ rows. index_fields_of design (history_in_rows rows db design) name) revs);
  entries = record {
    laid = subst AreEntryRows (sym entries) h.entries.laid;
    exact = λ m k i.
        ap (λ rows. has_entry rows m k i) entries ∙ h.entries.exact m k i ∙ (λ j. is_due (λ db id. queried_document id (history_in_rows (sym revs j) db id)) (sym decls j) m k i);
  };
}
