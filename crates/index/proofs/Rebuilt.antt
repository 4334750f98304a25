-- One index within a change of several.
use Rattle.index.proofs.Common.{AllByRecursion, Bool, ChangesIndexes, Database, Declarations, Declared, Documents, List, None, Option, Row, Schema, Some, [], all_both, all_of, and_from, ap, arith, bytes_eq, bytes_eq-Decides, declaration_at, declared_at, declared_by, decls_tree, design_of, entries_tree, false, fields_of, find, find_found, find_passes, database_of_declaration, if◌then◌else◌, index_name_of_row, int_eq, is_declaration_of, list_any, list_any-append, number_of, option_map, refl, schema, sees_in, subst, sym, true, ℕ, ℤ, ◌&&◌, ◌++◌, ◌||◌, ◌∙◌, ◌∷◌, ◌≡◌, ◌≢◌}
use Rattle.index.proofs.Alike.{alike}
use Rattle.index.proofs.DeclarationStatements.{of_index}
use Rattle.index.proofs.EntryChanges.{same_bytes, same_number}
use Rattle.index.proofs.Following.{found_each}
use Rattle.index.specs.Declaring.{IsCleared, IsDeclared, IsFoundIn, IsRebuildable, IsRebuilt, with_index}
use Rattle.index.specs.Rebuilding.{AreCleared}
use Rattle.std.specs.Prelude.{unwrap_or}
use Rattle.store.specs.Indexes.{queried_document}
use Rattle.tables.proofs.Rests.{AreSame, store_of}
use Rattle.tables.specs.Layout.{IsStore}
use Rattle.tables.specs.Rows.{history_in_rows}

-- ---- the tables beside those of indexes

pub same_beside : (a b : Database) → a.schema ≡ schema → ChangesIndexes a b → AreSame a.trees b.trees
same_beside a b has h =
    let others = subst (λ (s : Schema). AllByRecursion (λ t. t.tree ≢ decls_tree → t.tree ≢ entries_tree → b.trees t.tree ≡ a.trees t.tree) s.tables) has h.others in
    record {
      meta = others.0 (omega arith) (omega arith);
      dbs = others.1.0 (omega arith) (omega arith);
      docs = others.1.1.0 (omega arith) (omega arith);
      revs = others.1.1.1.0 (omega arith) (omega arith);
      locals = others.1.1.1.1.0 (omega arith) (omega arith);
    }

pub store_rebuilt : (a b : Database) → IsStore a → ChangesIndexes a b → IsStore b
store_rebuilt a b store h = store_of a.trees b (h.schema ∙ store.schema_is) (same_beside a b store.schema_is h) store.laid

pub seen_rebuilt : (a b : Database) → a.schema ≡ schema → ChangesIndexes a b → (db : ℤ) (id : List ℕ) → sees_in b.trees db id ≡ sees_in a.trees db id
seen_rebuilt a b has h db id = ap (λ rows. queried_document id (history_in_rows rows db id)) (same_beside a b has h).revs

pub indexes_itself : (a : Database) → ChangesIndexes a a
indexes_itself a = record { schema = refl; others = all_of (λ t. t.tree ≢ decls_tree → t.tree ≢ entries_tree → a.trees t.tree ≡ a.trees t.tree) (λ t one two. refl) a.schema.tables }

pub indexes_then : (a b c : Database) → ChangesIndexes a b → ChangesIndexes b c → ChangesIndexes a c
indexes_then a b c h k =
    let later = subst (λ (s : Schema). AllByRecursion (λ t. t.tree ≢ decls_tree → t.tree ≢ entries_tree → c.trees t.tree ≡ b.trees t.tree) s.tables) h.schema k.others in
    record {
      schema = k.schema ∙ h.schema;
      others = all_both (λ t. t.tree ≢ decls_tree → t.tree ≢ entries_tree → b.trees t.tree ≡ a.trees t.tree) (λ t. t.tree ≢ decls_tree → t.tree ≢ entries_tree → c.trees t.tree ≡ b.trees t.tree)
          (λ t. t.tree ≢ decls_tree → t.tree ≢ entries_tree → c.trees t.tree ≡ a.trees t.tree) (λ t before after one two. after one two ∙ before one two) a.schema.tables h.others later;
    }

-- ---- one index

module _ (declares : Declarations) (db : ℤ) (design name : List ℕ) where
  pub own_then : (fields : Option (List (List ℕ))) → with_index declares db design name fields db design name ≡ fields
  own_then fields =
      ap (λ b. if b then fields else declares db design name)
      (and_from (int_eq db db) _ (same_number db db refl) (and_from (bytes_eq design design) (bytes_eq name name) (same_bytes design design refl) (same_bytes name name refl)))

  -- ---- what is found

  pub found_by : (found : Option Declared) (rows : List Row) → found ≡ option_map declared_at (find (is_declaration_of db design name) rows) → option_map (λ (x : Declared). x.fields) found ≡ declared_by rows db design name
  found_by found rows is = ap (option_map (λ (x : Declared). x.fields)) is ∙ fields_at (find (is_declaration_of db design name) rows)
    where
      fields_at : (o : Option Row) → option_map (λ (x : Declared). x.fields) (option_map declared_at o) ≡ option_map fields_of o
      fields_at None = refl
      fields_at (Some r) = refl

  -- where it has these fields, or is not declared and is not to be, nothing is done
  pub unchanged : (sees : Documents) (fields : Option (List (List ℕ))) (found : Option Declared) (a : Database) → IsFoundIn declares sees db design name found a → option_map (λ (x : Declared). x.fields) found ≡ fields
      → IsCleared declares sees db design name fields a a
  unchanged sees fields found a fit same = record {
    rebuilt = record { indexed = record { decls = fit.fit.indexed.decls; declared = λ d o n. refl; entries = fit.fit.indexed.entries }; only = indexes_itself a };
    others = λ d o n out. fit.fit.indexed.declared d o n;
    own = λ has is. sym same ∙ found_by found (a.trees decls_tree) fit.found_is ∙ is;
  }

  -- and where it was taken out, it is not declared
  pub taken : (sees : Documents) (fields : Option (List (List ℕ))) (a b : Database) → IsRebuilt (with_index declares db design name None) sees a b → IsCleared declares sees db design name fields a b
  taken sees fields a b out = record {
    rebuilt = record { indexed = record { decls = out.indexed.decls; declared = λ d o n. refl; entries = out.indexed.entries }; only = out.only };
    others = λ d o n other. out.indexed.declared d o n ∙ ap (λ c. if c then None else declares d o n) other;
    own = λ has is. absurd (let gone = sym (own_then None) ∙ sym (out.indexed.declared db design name) ∙ is in cc);
  }

  -- the row that was found, by its number
  row_found : (o : Option Row) (x : Declared) → Some x ≡ option_map declared_at o → (d : Row) × (o ≡ Some d) × (number_of d ≡ x.number)
  row_found None x is = absurd (cc)
  row_found (Some d) x is = let same : declared_at d ≡ x = cc in (d, refl, ap (λ (y : Declared). y.number) same)

  abbrev pub the_row : List Row → Row
  the_row rows = unwrap_or (find (is_declaration_of db design name) rows) []

  -- it is declared, under the number that was found
  pub found_declared : (sees : Documents) (x : Declared) (a : Database) → IsFoundIn declares sees db design name (Some x) a → IsDeclared declares sees x.number (the_row (a.trees decls_tree)) a
  found_declared sees x a fit =
      let decls = a.trees decls_tree in
      let at = row_found (find (is_declaration_of db design name) (a.trees decls_tree)) x fit.found_is in
      let is : the_row (a.trees decls_tree) ≡ at.0 = ap (λ o. unwrap_or o []) at.1 in
      let number = find_found (λ r. declaration_at (a.trees decls_tree) (number_of r) ≡ Some r) (is_declaration_of db design name) (a.trees decls_tree) at.0 (found_each (a.trees decls_tree) fit.fit.indexed.decls.rising) at.1 in
      record { store = fit.fit.store; indexed = fit.fit.indexed; found = ap (declaration_at (a.trees decls_tree)) (sym at.2) ∙ number.0 ∙ ap Some (sym is) }

  pub found_own : (sees : Documents) (x : Declared) (a : Database) → IsFoundIn declares sees db design name (Some x) a
      → (database_of_declaration (the_row (a.trees decls_tree)) ≡ db) × (design_of (the_row (a.trees decls_tree)) ≡ design) × (index_name_of_row (the_row (a.trees decls_tree)) ≡ name)
  found_own sees x a fit =
      let at = row_found (find (is_declaration_of db design name) (a.trees decls_tree)) x fit.found_is in
      let is : the_row (a.trees decls_tree) ≡ at.0 = ap (λ o. unwrap_or o []) at.1 in
      let e = of_index db design name at.0 (find_passes (is_declaration_of db design name) (a.trees decls_tree) at.0 at.1) in
      (ap database_of_declaration is ∙ e.0, ap design_of is ∙ e.1, ap index_name_of_row is ∙ e.2)

-- ---- several names

pub rebuildable : (declares others : Declarations) (sees : Documents) (db : ℤ) (a b : Database) → IsRebuildable declares sees db a → IsRebuilt others sees a b → IsRebuildable others sees db b
rebuildable declares others sees db a b fit made = record {
  store = store_rebuilt a b fit.store made.only;
  indexed = made.indexed;
  seen = λ id. fit.seen id ∙ sym (seen_rebuilt a b fit.store.schema_is made.only db id);
}

pub rebuilt_as : (declares others : Declarations) (sees : Documents) (a b : Database) → ((d : ℤ) (o n : List ℕ) → declares d o n ≡ others d o n) → IsRebuilt declares sees a b → IsRebuilt others sees a b
rebuilt_as declares others sees a b same h = record { indexed = alike declares sees b.trees h.indexed others sees same (λ d id. refl); only = h.only }

-- ---- those that have other fields are taken out

module _ (declares : Declarations) (sees : Documents) (db : ℤ) (design : List ℕ) (fields : List ℕ → Option (List (List ℕ))) where
  pub cleared_none : (a : Database) → IsRebuildable declares sees db a → AreCleared declares sees db design fields [] a a
  cleared_none a fit = record {
    rebuilt = record { indexed = record { decls = fit.indexed.decls; declared = λ d o n. refl; entries = fit.indexed.entries }; only = indexes_itself a };
    others = λ d o n out. fit.indexed.declared d o n;
    own = λ n is. absurd (cc);
  }

  -- what is left is fit for the next
  pub cleared_fit : (names : List (List ℕ)) (a b : Database) → IsRebuildable declares sees db a → AreCleared declares sees db design fields names a b → IsRebuildable (declared_by (b.trees decls_tree)) sees db b
  cleared_fit names a b fit made = rebuildable declares (declared_by (b.trees decls_tree)) sees db a b fit made.rebuilt

  -- one name more
  pub cleared_more : (names : List (List ℕ)) (name : List ℕ) (a b c : Database) → AreCleared declares sees db design fields names a b → IsCleared (declared_by (b.trees decls_tree)) sees db design name (fields name) b c
      → AreCleared declares sees db design fields (names ++ name ∷ []) a c
  cleared_more names name a b c first later = record {
    rebuilt = record { indexed = later.rebuilt.indexed; only = indexes_then a b c first.rebuilt.only later.rebuilt.only };
    others = λ d o n out.
        let parts = apart (int_eq d db) (bytes_eq o design) (list_any (bytes_eq n) names) (bytes_eq n name) (sym (ap (λ w. int_eq d db && (bytes_eq o design && w)) (list_any-append (bytes_eq n) names (name ∷ []))) ∙ out) in
        later.others d o n parts.1 ∙ first.others d o n parts.0;
    own = λ n is has there. go n has there (bytes_eq n name) refl (sym (list_any-append (bytes_eq n) names (name ∷ [])) ∙ is);
  }
    where
      apart : (x y z w : Bool) → (x && (y && (z || (w || false)))) ≡ false → ((x && (y && z)) ≡ false) × ((x && (y && w)) ≡ false)
      apart false y z w out = (refl, refl)
      apart true false z w out = (refl, refl)
      apart true true true w out = absurd (cc)
      apart true true false true out = absurd (cc)
      apart true true false false out = (refl, refl)

      other_name : (x y : Bool) → (x && (y && false)) ≡ false
      other_name true true = refl
      other_name true false = refl
      other_name false y = refl

      go : (n : List ℕ) (has : List (List ℕ)) → declared_by (c.trees decls_tree) db design n ≡ Some has → (w : Bool) → bytes_eq n name ≡ w → (list_any (bytes_eq n) names || (w || false)) ≡ true → fields n ≡ Some has
      go n has there true own is =
          let same : n ≡ name = (bytes_eq-Decides n name).0 own in
          ap fields same ∙ later.own has ((λ j. declared_by (c.trees decls_tree) db design (sym same j)) ∙ there)
      go n has there false own is =
          let out = ap (λ w. int_eq db db && (bytes_eq design design && w)) own ∙ other_name (int_eq db db) (bytes_eq design design) in
          first.own n (or_none (list_any (bytes_eq n) names) is) has (sym (later.others db design n out) ∙ there)
        where
          or_none : (z : Bool) → (z || (false || false)) ≡ true → z ≡ true
          or_none true is = refl
          or_none false is = is
