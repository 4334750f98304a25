-- What is told of one row of an entry.
use Rattle.index.proofs.Common.{Blob, Bool, HasIndexRows, Int, IsDeclarationRow, List, None, Option, Row, Some, Trees, ap, bytes_eq, column, declaration_at, declaration_of, declared, declared_at, decls_tree, design_of, entry_id, false, fields_of, find, find_found, has_number, database_of_declaration, index_name_of_row, is_declaration_of, is_due, is_due_by, is_key, key_at, key_if_seen, key_of, list_any, option_map, refl, sees_in, sym, true, ℕ, ℤ, ◌∙◌, ◌≡◌}
use Rattle.couch_json.specs.Value.{Value}
use Rattle.index.proofs.Alike.{index_found}
use Rattle.index.proofs.Filled.{unwritten_unseen}
use Rattle.index.proofs.Spots.{any_in, at_in}
use Rattle.index.specs.declared.declaration.Declaration.{Declaration}
use Rattle.sqlite.specs.Effect.{Database}
use Rattle.store.proofs.Winnings.{queried_alone}
use Rattle.store.specs.Indexes.{queried_document}
use Rattle.store.specs.Winning.{winner_alone}
use Rattle.tables.proofs.Tables.{of_these}
use Rattle.tables.specs.Layout.{IsDocumentRow, IsWellFormed}
use Rattle.tables.specs.Listings.{SpellsId}
use Rattle.tables.specs.Rows.{history_in_rows, id_of, is_row_of_document}
use Rattle.tables.specs.Schema.{docs_tree, revs_tree}
use Rattle.tree.proofs.Shown.{inside}
use Rattle.tree.specs.History.{HistoryContent}
use Rattle.file_check.specs.inner.IndexRows.{IsEntryUnder, shown_index}
use Rattle.file_check.specs.Indexes.{IsAnswer, IsOwnEntry}

-- what is no id of a document is not seen
pub unnamed_unseen : (trees : Trees) → IsWellFormed trees → (db : ℤ) (id : List ℕ) → ¬ SpellsId (Blob id) → sees_in trees db id ≡ None
unnamed_unseen trees l db id out = by (list_any (is_row_of_document db id) (trees docs_tree)) refl
  where
    by : (b : Bool) → list_any (is_row_of_document db id) (trees docs_tree) ≡ b → sees_in trees db id ≡ None
    by false none = unwritten_unseen trees l db id none
    by true here =
        let d = any_in (is_row_of_document db id) (trees docs_tree) here in
        let row = at_in (IsDocumentRow trees) (trees docs_tree) d.0 l.docs d.1 in
        let same = (of_these db id d.0 d.2).1 in
        absurd (out (id_of d.0, row.named, row.text, ap Blob (sym same)))

module _ (trees : Trees) (e : Row) where
  answered : (b : Bool) → is_due (sees_in trees) (trees decls_tree) (declaration_of e) (key_of e) (entry_id e) ≡ b → IsAnswer (IsOwnEntry trees e) b
  answered true is = is
  answered false is = λ own. let never = is in let also = own in cc

  -- there is no such declaration
  pub undeclared_entry : declaration_at (trees decls_tree) (declaration_of e) ≡ None → IsAnswer (IsOwnEntry trees e) false
  undeclared_entry none = answered false (ap (λ o. is_due_by (sees_in trees) o (key_of e) (entry_id e)) none)

  module _ (d : Row) (there : declaration_at (trees decls_tree) (declaration_of e) ≡ Some d) where
    due_by : (o : Option Value) → sees_in trees (database_of_declaration d) (entry_id e) ≡ o → is_due (sees_in trees) (trees decls_tree) (declaration_of e) (key_of e) (entry_id e) ≡ is_key (key_if_seen (fields_of d) o) (key_of e)
    due_by o is = ap (λ x. is_due_by (sees_in trees) x (key_of e) (entry_id e)) there ∙ ap (λ v. is_key (key_if_seen (fields_of d) v) (key_of e)) is

    -- its document is not seen
    pub unseen_entry : sees_in trees (database_of_declaration d) (entry_id e) ≡ None → IsAnswer (IsOwnEntry trees e) false
    unseen_entry none = answered false (due_by None none)

    -- it has no key there
    pub keyless_entry : (seen : Value) → sees_in trees (database_of_declaration d) (entry_id e) ≡ Some seen → key_at (fields_of d) seen ≡ None → IsAnswer (IsOwnEntry trees e) false
    keyless_entry seen is none = answered false (due_by (Some seen) is ∙ ap (λ o. is_key o (key_of e)) none)

    -- it has this one
    pub key_entry : (seen : Value) (key : List ℕ) (b : Bool) → sees_in trees (database_of_declaration d) (entry_id e) ≡ Some seen → key_at (fields_of d) seen ≡ Some key → b ≡ bytes_eq key (key_of e) → IsAnswer (IsOwnEntry trees e) b
    key_entry seen key b is at same = answered b (due_by (Some seen) is ∙ ap (λ o. is_key o (key_of e)) at ∙ sym same)

-- what was read is what is seen
seen_told : (trees : Trees) {o : Option Value} {h : HistoryContent} {n db : ℤ} {i id : List ℕ} → o ≡ queried_document i h → h ≡ winner_alone (history_in_rows (trees revs_tree) n i) → n ≡ db → i ≡ id → sees_in trees db id ≡ o
seen_told trees {n = n} {i = i} says is numbered named =
    sym (says ∙ ap (queried_document i) is ∙ queried_alone (history_in_rows (trees revs_tree) n i) i ∙ (λ j. queried_document (named j) (history_in_rows (trees revs_tree) (numbered j) (named j))))

-- what is found of the index of an entry is what the row of its declaration says
index_says : (db : Database) → HasIndexRows db → (d e : Row) → declaration_at (db.trees decls_tree) (declaration_of e) ≡ Some d → (index : Row) → index ≡ shown_index d → {n : ℤ} {design name : List ℕ}
    → ((z : ℤ) → column index 0 ≡ Int z → n ≡ z) → ((b : List ℕ) → column index 1 ≡ Blob b → design ≡ b) → ((b : List ℕ) → column index 2 ≡ Blob b → name ≡ b)
    → (n ≡ database_of_declaration d) × (find (is_declaration_of n design name) (db.trees decls_tree) ≡ Some d)
index_says db fit d e there index shown {n = n} {design = design} {name = name} number designed named =
    let decls = db.trees decls_tree in
    let row : IsDeclarationRow d = (find_found IsDeclarationRow (has_number (declaration_of e)) decls d fit.decls.each there).0 in
    let at = (find_found (λ x. find (is_declaration_of (database_of_declaration x) (design_of x) (index_name_of_row x)) decls ≡ Some x) (has_number (declaration_of e)) decls d (index_found decls fit.decls) there).0 in
    let a : n ≡ database_of_declaration d = number (database_of_declaration d) (ap (λ x. column x 0) shown ∙ ap (λ x. column x 2) row.is) in
    let b : design ≡ design_of d = designed (design_of d) (ap (λ x. column x 1) shown ∙ ap (λ x. column x 3) row.is) in
    let c : name ≡ index_name_of_row d = named (index_name_of_row d) (ap (λ x. column x 2) shown ∙ ap (λ x. column x 4) row.is) in
    (a, (λ j. find (is_declaration_of (a j) (b j) (c j)) decls) ∙ at)

-- it is found
index_there : (d : Row) {o : Option Declaration} {r : Option Row} → option_map declared o ≡ option_map declared_at r → r ≡ Some d → o ≡ None → ⊥
index_there d says there none = let never = sym (ap (option_map declared) none) ∙ says ∙ ap (option_map declared_at) there in cc

-- with these fields
fields_told : (d : Row) {o : Option Declaration} {r : Option Row} {declaration : Declaration} → option_map declared o ≡ option_map declared_at r → r ≡ Some d → o ≡ Some declaration → declaration.fields.items ≡ fields_of d
fields_told d {declaration = declaration} says there is =
    ap (λ x. x.fields) (inside (declared declaration) (declared_at d) (sym (ap (option_map declared) is) ∙ says ∙ ap (option_map declared_at) there))

-- what was found of the index of an entry, and what was read of its document, is what is stored
module _ (db : Database) (index d shown e : Row) (fit : IsEntryUnder index d shown e db) {n : ℤ} {design name : List ℕ}
    (number : (z : ℤ) → column index 0 ≡ Int z → n ≡ z) (designed : (b : List ℕ) → column index 1 ≡ Blob b → design ≡ b) (named : (b : List ℕ) → column index 2 ≡ Blob b → name ≡ b) where
  says : (n ≡ database_of_declaration d) × (find (is_declaration_of n design name) (db.trees decls_tree) ≡ Some d)
  says = index_says db fit.entry.ready.rows d e fit.found index fit.index_is number designed named

  pub entry_index : {o : Option Declaration} → option_map declared o ≡ option_map declared_at (find (is_declaration_of n design name) (db.trees decls_tree)) → o ≡ None → ⊥
  entry_index told none = index_there d told says.1 none

  pub entry_fields : {o : Option Declaration} {declaration : Declaration} → option_map declared o ≡ option_map declared_at (find (is_declaration_of n design name) (db.trees decls_tree)) → o ≡ Some declaration → declaration.fields.items ≡ fields_of d
  entry_fields told there = fields_told d told says.1 there

  pub entry_seen : {o : Option Value} {h : HistoryContent} {i : List ℕ} → o ≡ queried_document i h → h ≡ winner_alone (history_in_rows (db.trees revs_tree) n i) → ((b : List ℕ) → column shown 3 ≡ Blob b → i ≡ b)
      → sees_in db.trees (database_of_declaration d) (entry_id e) ≡ o
  entry_seen told is identified = seen_told db.trees told is says.0 (identified (entry_id e) (ap (λ x. column x 3) fit.entry.shown_is ∙ ap (λ x. column x 3) fit.entry.row))
