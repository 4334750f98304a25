-- The rows of indexes are those of what is stored if and only if each of them is, and none is missing.
use Rattle.index.proofs.Common.{AllByRecursion, AreDeclarationRows, AreEntryRows, Bool, IsDeclarationRow, IsIndexed, List, None, Option, Row, Some, Text, Trees, [], all_both, all_of, all_weaker, ap, cond, declaration_at, declaration_of, declares_in, decls_tree, design_of, entries_tree, entry_id, false, fields_in_cell, fields_of, fields_text, find, find_found, has_entry, has_number, database_of_declaration, index_name_of_row, is_declaration_of, is_due, is_due_by, is_entry_of, is_key, key_if_seen, key_of, list_any, number_of, option_map, refl, same_int, sees_in, subst, sym, true, inl, inr, ℕ, ℤ, ◌||◌, ◌∙◌, ◌∷◌, ◌≡◌, column}
use Rattle.couch_json.specs.FieldPath.{is_field_path}
use Rattle.sqlite_value.specs.Order.{bytes}
use Rattle.std.specs.FinMap.{empty}
use Rattle.std.specs.Prelude.{IsUtf8, if◌then◌else◌}
use Rattle.index.proofs.Alike.{index_found, key_is}
use Rattle.index.proofs.Declared.{fields_back}
use Rattle.index.proofs.DeclarationStatements.{of_index}
use Rattle.index.proofs.EntryChanges.{entry_from, of_entry, same_bytes, same_test}
use Rattle.index.proofs.Filled.{unwritten_unseen}
use Rattle.index.proofs.Following.{found_each}
use Rattle.index.proofs.Spots.{any_in, at_in}
use Rattle.store.proofs.Winnings.{no_winner}
use Rattle.store.specs.Indexes.{index_fields_of, declared_fields, winning_body}
use Rattle.store.specs.Pages.{live_rev, live_rev_by}
use Rattle.tables.proofs.Lookups.{unwritten}
use Rattle.tables.proofs.Tables.{of_these}
use Rattle.tables.specs.Layout.{IsWellFormed}
use Rattle.tables.specs.Rows.{db_of, id_of, is_row_of_document}
use Rattle.tables.specs.Schema.{docs_tree}
use Rattle.tree.specs.DocumentId.{is_design_id}
use Rattle.file_check.specs.Indexes.{AreDeclarationCells, AreIndexRows, HasDeclarationCells, HasItsKey, IsFinding, IsIndexFinding, IsIndexedDocument, IsOwnDeclaration, IsOwnEntry}
use Rattle.file_check.specs.declared.finding.Finding.{Finding}
use Rattle.file_check.specs.declared.finding.Table.{Table}

-- ---- lists

none_any : {A : Type 0} (p : A → Bool) (xs : List A) → find p xs ≡ None → list_any p xs ≡ false
none_any p [] none = refl
none_any p (x ∷ xs) none = go (p x) none (none_any p xs)
  where
    go : (b : Bool) → cond b (Some x) (find p xs) ≡ None → (find p xs ≡ None → list_any p xs ≡ false) → (b || list_any p xs) ≡ false
    go true out more = absurd (cc)
    go false out more = more out

any_none : {A : Type 0} (p : A → Bool) (xs : List A) → list_any p xs ≡ false → find p xs ≡ None
any_none p [] out = refl
any_none p (x ∷ xs) out = go (p x) out (any_none p xs)
  where
    go : (b : Bool) → (b || list_any p xs) ≡ false → (list_any p xs ≡ false → find p xs ≡ None) → cond b (Some x) (find p xs) ≡ None
    go true out more = absurd (cc)
    go false out more = more out

some_any : {A : Type 0} (p : A → Bool) (xs : List A) (x : A) → find p xs ≡ Some x → list_any p xs ≡ true
some_any p [] x is = absurd (cc)
some_any p (y ∷ xs) x is = go (p y) is (some_any p xs x)
  where
    go : (b : Bool) → cond b (Some y) (find p xs) ≡ Some x → (find p xs ≡ Some x → list_any p xs ≡ true) → (b || list_any p xs) ≡ true
    go true here more = refl
    go false out more = more out

-- each passes its own test among them
each_any : {A : Type 0} (p : A → A → Bool) → ((x : A) → p x x ≡ true) → (xs : List A) → AllByRecursion (λ x. list_any (p x) xs ≡ true) xs
each_any p own [] = tt
each_any p own (x ∷ xs) = (
  ap (λ b. b || list_any (p x) xs) (own x),
  all_weaker (λ y. list_any (p y) xs ≡ true) (λ y. list_any (p y) (x ∷ xs) ≡ true) (λ y more. later (p y x) more) xs (each_any p own xs),
)
  where
    later : (b : Bool) {c : Bool} → c ≡ true → (b || c) ≡ true
    later true more = refl
    later false more = more

-- ---- what was never written declares nothing

declares_nothing : (design name : List ℕ) → index_fields_of design empty name ≡ None
declares_nothing design name = ap (λ r. if is_design_id design then Rattle.std.specs.Prelude.option_and_then (λ body. declared_fields body name) (option_map (λ held. held.body) (Rattle.store.specs.Indexes.held_by empty r)) else None) no_live ∙ hidden (is_design_id design)
  where
    no_live : live_rev empty ≡ None
    no_live = ap (live_rev_by empty) no_winner

    hidden : (b : Bool) → ◌≡◌ {A = Option (List (List ℕ))} (if b then None else None) None
    hidden true = refl
    hidden false = refl

pub undeclared : (trees : Trees) → IsWellFormed trees → (db : ℤ) (design name : List ℕ) → list_any (is_row_of_document db design) (trees docs_tree) ≡ false → declares_in trees db design name ≡ None
undeclared trees l db design name none = ap (λ h. index_fields_of design h name) (unwritten trees db design l (any_none (is_row_of_document db design) (trees docs_tree) none)) ∙ declares_nothing design name

-- ---- one declaration

-- the text of a row of a declaration is that of its fields
pub own_text : (r : Row) → IsDeclarationRow r → bytes (column r 5) ≡ fields_text (fields_of r)
own_text r k = ap (λ x. bytes (column x 5)) k.is

-- where a row spells the fields of an index, it is laid out and says them
pub spelled : (trees : Trees) (r : Row) (fields : List (List ℕ)) → HasDeclarationCells r → AllByRecursion (λ path. (is_field_path path ≡ true) × IsUtf8 path) fields → bytes (column r 5) ≡ fields_text fields
    → declares_in trees (database_of_declaration r) (design_of r) (index_name_of_row r) ≡ Some fields → IsOwnDeclaration trees r
spelled trees r fields cells paths same declared =
    let cell : column r 5 ≡ Text (fields_text fields) = ap (λ x. column x 5) cells ∙ ap Text same in
    let back : fields_of r ≡ fields = ap fields_in_cell cell ∙ fields_back fields paths in
    record {
      row = record {
        is = cells ∙ ap (λ t. Rattle.index.specs.Rows.declaration_row (number_of r) (database_of_declaration r) (design_of r) (index_name_of_row r) t) (same ∙ ap fields_text (sym back));
        paths = subst (AllByRecursion (λ path. (is_field_path path ≡ true) × IsUtf8 path)) (sym back) paths;
      };
      declared = declared ∙ ap Some (sym back);
    }

-- ---- each row is, so all are

module _ (trees : Trees) (l : IsWellFormed trees) (cells : AreDeclarationCells (trees decls_tree)) where
  pub declaration_rows : AllByRecursion (IsOwnDeclaration trees) (trees decls_tree) → AreDeclarationRows (trees decls_tree)
  declaration_rows own = record {
    each = all_weaker (IsOwnDeclaration trees) IsDeclarationRow (λ r k. k.row) (trees decls_tree) own;
    rising = cells.rising;
    apart = cells.apart;
  }

  module _ (entries : AreEntryRows (trees entries_tree)) (h : AreIndexRows trees) where
    abbrev decls : List Row
    decls = trees decls_tree

    -- an index that has no row is not declared
    rowless : (db : ℤ) (design name : List ℕ) → find (is_declaration_of db design name) decls ≡ None → declares_in trees db design name ≡ None
    rowless db design name none = by (list_any (is_row_of_document db design) (trees docs_tree)) refl (declares_in trees db design name) refl
      where
        by : (b : Bool) → list_any (is_row_of_document db design) (trees docs_tree) ≡ b → (o : Option (List (List ℕ))) → declares_in trees db design name ≡ o → declares_in trees db design name ≡ None
        by false out o is = undeclared trees l db design name out
        by true here None is = is
        by true here (Some fields) is =
            let d = any_in (is_row_of_document db design) (trees docs_tree) here in
            let keys = of_these db design d.0 d.2 in
            let has = at_in (IsIndexedDocument trees) (trees docs_tree) d.0 h.documents d.1 in
            let row : list_any (is_declaration_of db design name) decls ≡ true =
            subst (λ i. list_any (is_declaration_of db i name) decls ≡ true) keys.1
            (subst (λ n. list_any (is_declaration_of n (id_of d.0) name) decls ≡ true) keys.0
            (has.declared name fields ((λ j. declares_in trees (keys.0 j) (keys.1 j) name) ∙ is))) in
            absurd (let never = sym row ∙ none_any (is_declaration_of db design name) decls none in cc)

    says : (db : ℤ) (design name : List ℕ) (o : Option Row) → find (is_declaration_of db design name) decls ≡ o → option_map fields_of o ≡ declares_in trees db design name
    says db design name None is = sym (rowless db design name is)
    says db design name (Some r) is =
        let found = find_found (IsOwnDeclaration trees) (is_declaration_of db design name) decls r h.decls is in
        let keys = of_index db design name r found.1 in
        sym ((λ j. declares_in trees (sym keys.0 j) (sym keys.1 j) (sym keys.2 j)) ∙ found.0.declared)

    -- an entry that is to be there is there
    entered : (m : ℤ) (k id : List ℕ) (o : Option Row) → declaration_at decls m ≡ o → is_due_by (sees_in trees) o k id ≡ true → has_entry (trees entries_tree) m k id ≡ true
    entered m k id None is due = absurd (cc)
    entered m k id (Some d) is due = by (list_any (is_row_of_document (database_of_declaration d) id) (trees docs_tree)) refl
      where
        key : key_if_seen (fields_of d) (sees_in trees (database_of_declaration d) id) ≡ Some k
        key = key_is (key_if_seen (fields_of d) (sees_in trees (database_of_declaration d) id)) k due

        by : (b : Bool) → list_any (is_row_of_document (database_of_declaration d) id) (trees docs_tree) ≡ b → has_entry (trees entries_tree) m k id ≡ true
        by false out = absurd (let never = sym (ap (key_if_seen (fields_of d)) (unwritten_unseen trees l (database_of_declaration d) id out)) ∙ key in cc)
        by true here =
            let x = any_in (is_row_of_document (database_of_declaration d) id) (trees docs_tree) here in
            let keys = of_these (database_of_declaration d) id x.0 x.2 in
            let all = at_in (IsIndexedDocument trees) (trees docs_tree) x.0 h.documents x.1 in
            let own = find_found (λ r. database_of_declaration r ≡ db_of x.0 → HasItsKey (id_of x.0) (sees_in trees (db_of x.0) (id_of x.0)) trees r) (has_number m) decls d all.entered is in
            let number = same_int (number_of d) m own.1 in
            subst (λ n. has_entry (trees entries_tree) n k id ≡ true) number
            ((subst (λ i. HasItsKey i (sees_in trees (database_of_declaration d) i) trees d) keys.1 (subst (λ h. HasItsKey (id_of x.0) (sees_in trees h (id_of x.0)) trees d) keys.0 (own.0 (sym keys.0)))) k key)

    -- an entry that is there is to be there
    owned : (m : ℤ) (k id : List ℕ) → has_entry (trees entries_tree) m k id ≡ true → is_due (sees_in trees) decls m k id ≡ true
    owned m k id has =
        let e = any_in (is_entry_of m k id) (trees entries_tree) has in
        let keys = of_entry m k id e.0 e.2 in
        let own = at_in (IsOwnEntry trees) (trees entries_tree) e.0 h.entries e.1 in
        (λ j. is_due (sees_in trees) decls (sym keys.0 j) (sym keys.1 j) (sym keys.2 j)) ∙ own

    pub indexed : IsIndexed trees
    indexed = record {
      decls = declaration_rows h.decls;
      declared = λ db design name. says db design name (find (is_declaration_of db design name) decls) refl;
      entries = record {
        laid = entries;
        exact = λ m k id. same_test (has_entry (trees entries_tree) m k id) (is_due (sees_in trees) decls m k id) (owned m k id) (entered m k id (declaration_at decls m) refl);
      };
    }

-- ---- all are, so each row is

module _ (trees : Trees) (h : IsIndexed trees) where
  abbrev rows : List Row
  rows = trees decls_tree

  each_declared : AllByRecursion (IsOwnDeclaration trees) rows
  each_declared =
      all_both IsDeclarationRow (λ r. find (is_declaration_of (database_of_declaration r) (design_of r) (index_name_of_row r)) rows ≡ Some r) (IsOwnDeclaration trees)
      (λ r k found. record { row = k; declared = sym (h.declared (database_of_declaration r) (design_of r) (index_name_of_row r)) ∙ ap (option_map fields_of) found }) rows h.decls.each (index_found rows h.decls)

  has_row : (db : ℤ) (design name : List ℕ) (fields : List (List ℕ)) (o : Option Row) → find (is_declaration_of db design name) rows ≡ o → option_map fields_of o ≡ Some fields → list_any (is_declaration_of db design name) rows ≡ true
  has_row db design name fields None is says = absurd (cc)
  has_row db design name fields (Some r) is says = some_any (is_declaration_of db design name) rows r is

  has_its : (db : ℤ) (id : List ℕ) (r : Row) → declaration_at rows (number_of r) ≡ Some r → database_of_declaration r ≡ db → HasItsKey id (sees_in trees db id) trees r
  has_its db id r found home k key =
      h.entries.exact (number_of r) k id ∙ ap (λ o. is_due_by (sees_in trees) o k id) found ∙ ap (λ n. is_key (key_if_seen (fields_of r) (sees_in trees n id)) k) home ∙ ap (λ o. is_key o k) key ∙ same_bytes k k refl

  one_document : (d : Row) → IsIndexedDocument trees d
  one_document d = record {
    declared = λ name fields says. has_row (db_of d) (id_of d) name fields (find (is_declaration_of (db_of d) (id_of d) name) rows) refl (h.declared (db_of d) (id_of d) name ∙ says);
    entered = all_weaker (λ r. declaration_at rows (number_of r) ≡ Some r) (λ r. database_of_declaration r ≡ db_of d → HasItsKey (id_of d) (sees_in trees (db_of d) (id_of d)) trees r) (λ r found home. has_its (db_of d) (id_of d) r found home) rows (found_each rows h.decls.rising);
  }

  each_entry : AllByRecursion (IsOwnEntry trees) (trees entries_tree)
  each_entry =
      all_weaker (λ e. has_entry (trees entries_tree) (declaration_of e) (key_of e) (entry_id e) ≡ true) (IsOwnEntry trees)
      (λ e has. sym (h.entries.exact (declaration_of e) (key_of e) (entry_id e)) ∙ has) (trees entries_tree)
      (each_any (λ e. is_entry_of (declaration_of e) (key_of e) (entry_id e)) (λ e. entry_from (declaration_of e) (key_of e) (entry_id e) e refl refl refl) (trees entries_tree))

  pub index_rows : AreIndexRows trees
  index_rows = record {
    decls = each_declared;
    documents = all_of (IsIndexedDocument trees) one_document (trees docs_tree);
    entries = each_entry;
  }

pub never_fails : (of : Table) (rows : List Row) (Is : Row → Type 0) (f : Finding) → AllByRecursion Is rows → IsFinding of rows Is f → ⊥
never_fails of rows Is f all h = let found = find_found Is (has_number f.key) rows h.fails.row all h.fails.there in h.fails.fails found.0

-- what is found tells that the rows of indexes are not those of what is stored
pub not_indexed : (trees : Trees) (f : Finding) → IsIndexFinding trees f → ¬ IsIndexed trees
not_indexed trees f (inl p) h = never_fails _ (trees decls_tree) (IsOwnDeclaration trees) f (each_declared trees h) p
not_indexed trees f (inr (inl p)) h = never_fails _ (trees docs_tree) (IsIndexedDocument trees) f (all_of (IsIndexedDocument trees) (one_document trees h) (trees docs_tree)) p
not_indexed trees f (inr (inr p)) h = never_fails _ (trees entries_tree) (IsOwnEntry trees) f (each_entry trees h) p
