-- What one declaration more makes of the index rows.
use Rattle.index.proofs.Common.{AllByRecursion, AreDeclarationRows, AreEntriesOf, AreEntryRows, Bool, Changes, ChangesIndexes, Database, Declarations, Declared, Documents, HasEntries, HasIndexRows, Int, IsDeclarationRow, List, None, Option, Row, Some, Text, [], all-append, all_weaker, and_from, and_parts, ap, arith, ascending-append, bytes_eq, bytes_eq-Decides, cases_Bool, cond, declaration_at, declaration_cells, declaration_row, declared_at, declared_by, decls_tree, design_of, entries_tree, false, fields_in_cell, fields_of, fields_text, find, has_number, database_of_declaration, if◌then◌else◌, index_name_of_row, inl, inr, int_eq, ints, is_declaration_of, is_due, is_due_by, is_key, key_if_seen, list_any, list_any-append, map-append, next_number, not, number_of, numbered-with_cells, option_map, refl, same_int, sees_in, subst, sym, true, with_cells, without_numbers, ⊤, ℕ, ℤ, ◌&&◌, ◌++◌, ◌<ℤ◌, ◌||◌, ◌∙◌, ◌∷◌, ◌≡◌, ◌≢◌}
use Rattle.couch_json.specs.Value.{Items, array, item, no_items}
use Rattle.couch_json.specs.FieldPath.{is_field_path}
use Rattle.couch_json.proofs.ReadingBack.{reading-canonical}
use Rattle.index.proofs.DeclarationStatements.{numbered_declarations}
use Rattle.index.proofs.Dropped.{find_none}
use Rattle.index.proofs.EntryChanges.{bytes_eq-sym, entries_as, int_eq-sym, same_bytes, same_number}
use Rattle.index.proofs.ShownDeclarations.{flat, lawful_paths}
use Rattle.index.proofs.Going.{declarations_stay}
use Rattle.index.specs.Filling.{AreBare, numbers_of}
use Rattle.store.specs.Indexes.{queried_document}
use Rattle.tables.specs.Schema.{revs_tree}
use Rattle.index.specs.Declaring.{ArePartly, HasItsRow, IsMissing, IsRebuilt, with_index}
use Rattle.index.specs.Rebuilding.{AreUnfilled}
use Rattle.index.specs.Rows.{path_items}
use Rattle.std.proofs.lemmas.Bool.{false_from_ne_true}
use Rattle.std.specs.Prelude.{IsUtf8}
use Rattle.store.specs.Indexes.{paths_in}
use Rattle.tables.proofs.Kept.{below_next}
use Rattle.tables.proofs.Rests.{leaves, store_of}
use Rattle.tables.specs.Layout.{IsStore}
use Rattle.tables.specs.Rows.{history_in_rows, read_or_null}
use Rattle.couch_json.specs.Parts.{items_in, items_or_none}

-- these elements, and then those
abbrev pub before_paths : Items → Items → Items
before_paths no_items vs = vs
before_paths (item u us) vs = item u (before_paths us vs)

-- ---- the fields read back

paths_back : (fields : List (List ℕ)) → paths_in (path_items fields) ≡ fields
paths_back [] = refl
paths_back (path ∷ fields) = ap (λ l. path ∷ l) (paths_back fields)

pub fields_back : (fields : List (List ℕ)) → AllByRecursion (λ path. (is_field_path path ≡ true) × IsUtf8 path) fields → fields_in_cell (Text (fields_text fields)) ≡ fields
fields_back fields all =
    let none = flat fields in
    ap (λ r. paths_in (items_or_none (items_in (read_or_null r)))) (reading-canonical (array (path_items fields)) (lawful_paths fields all) (omega (arith, none))) ∙ paths_back fields

-- ---- one row more

find_pushed : (p : Row → Bool) (rows : List Row) (new : Row) → find p rows ≡ None → p new ≡ true → find p (rows ++ new ∷ []) ≡ Some new
find_pushed p [] new none own = ap (λ b. cond b (Some new) None) own
find_pushed p (r ∷ rows) new none own = go (p r) none (find_pushed p rows new)
  where
    go : (b : Bool) → cond b (Some r) (find p rows) ≡ None → (find p rows ≡ None → p new ≡ true → find p (rows ++ new ∷ []) ≡ Some new) → cond b (Some r) (find p (rows ++ new ∷ [])) ≡ Some new
    go true none more = absurd (cc)
    go false none more = more none own

find_other : (p : Row → Bool) (rows : List Row) (new : Row) → p new ≡ false → find p (rows ++ new ∷ []) ≡ find p rows
find_other p [] new out = ap (λ b. cond b (Some new) None) out
find_other p (r ∷ rows) new out = ap (cond (p r) (Some r)) (find_other p rows new out)

all_fail : (p : Row → Bool) (rows : List Row) → find p rows ≡ None → AllByRecursion (λ r. p r ≡ false) rows
all_fail p [] none = tt
all_fail p (r ∷ rows) none = go (p r) refl none (all_fail p rows)
  where
    go : (b : Bool) → p r ≡ b → cond b (Some r) (find p rows) ≡ None → (find p rows ≡ None → AllByRecursion (λ s. p s ≡ false) rows) → (p r ≡ false) × AllByRecursion (λ s. p s ≡ false) rows
    go true is none more = absurd (cc)
    go false is none more = (is, more none)

no_row : (o : Option Row) → option_map fields_of o ≡ None → o ≡ None
no_row None is = refl
no_row (Some r) is = absurd (cc)

module _ (rows : List Row) (laid : AreDeclarationRows rows) (db : ℤ) (design name : List ℕ) (fields : List (List ℕ)) (paths : AllByRecursion (λ path. (is_field_path path ≡ true) × IsUtf8 path) fields) where
  abbrev pub next : ℤ
  next = next_number rows

  abbrev pub new : Row
  new = Int (next_number rows) ∷ declaration_cells db design name (fields_text fields)

  abbrev pub more : List Row
  more = with_cells rows (declaration_cells db design name (fields_text fields))

  pub new_fields : fields_of new ≡ fields
  new_fields = fields_back fields paths

  pub no_number : find (has_number next) rows ≡ None
  no_number =
      find_none (has_number next) rows
      (all_weaker (λ r. number_of r <ℤ next) (λ r. has_number next r ≡ false) (λ r below. false_from_ne_true (has_number next r) (λ same. let e = same_int (number_of r) next same in omega (arith, ints))) rows (below_next rows laid.rising))

  own_index : is_declaration_of db design name new ≡ true
  own_index = and_from (int_eq db db) _ (same_number db db refl) (and_from (bytes_eq design design) (bytes_eq name name) (same_bytes design design refl) (same_bytes name name refl))

  pub found_number : declaration_at more next ≡ Some new
  found_number = find_pushed (has_number next) rows new no_number (same_number next next refl)

  module _ (none : declared_by rows db design name ≡ None) where
    no_index : find (is_declaration_of db design name) rows ≡ None
    no_index = no_row (find (is_declaration_of db design name) rows) none

    pub found_index : find (is_declaration_of db design name) more ≡ Some new
    found_index = find_pushed (is_declaration_of db design name) rows new no_index own_index

    pub more_laid : AreDeclarationRows more
    more_laid = record {
      each = all-append IsDeclarationRow rows _ laid.each (
        record {
          is = ap (λ fs. declaration_row next db design name (fields_text fs)) (sym new_fields);
          paths = subst (AllByRecursion (λ path. (is_field_path path ≡ true) × IsUtf8 path)) (sym new_fields) paths;
        },
        tt,
      );
      rising = (numbered-with_cells rows (declaration_cells db design name (fields_text fields)) (numbered_declarations rows laid)).rising;
      apart = ascending-append (λ a b. database_of_declaration a ≡ database_of_declaration b → design_of a ≡ design_of b → index_name_of_row a ≢ index_name_of_row b) rows _ laid.apart (tt, tt)
          (all_weaker (λ r. is_declaration_of db design name r ≡ false) _
          (λ r out. (λ a b c. absurd (let here = and_from (int_eq (database_of_declaration r) db) _ (same_number _ _ a) (and_from (bytes_eq (design_of r) design) (bytes_eq (index_name_of_row r) name) (same_bytes _ _ b) (same_bytes _ _ c)) in cc), tt)) rows
          (all_fail (is_declaration_of db design name) rows no_index));
    }

    pub more_declared : (declares : Declarations) → ((d : ℤ) (o n : List ℕ) → declared_by rows d o n ≡ declares d o n) → (d : ℤ) (o n : List ℕ) → declared_by more d o n ≡ with_index declares db design name (Some fields) d o n
    more_declared declares said d o n = elim (cases_Bool (int_eq d db && (bytes_eq o design && bytes_eq n name))) [
      | inl same ↦
          let p = and_parts (int_eq d db) _ same in
          let q = and_parts (bytes_eq o design) _ p.1 in
          (λ j. declared_by more (same_int d db p.0 j) ((bytes_eq-Decides o design).0 q.0 j) ((bytes_eq-Decides n name).0 q.1 j))
          ∙ ap (option_map fields_of) found_index ∙ ap Some new_fields ∙ sym (ap (λ b. if b then Some fields else declares d o n) same)
      | inr other ↦
          ap (option_map fields_of)
          (find_other (is_declaration_of d o n) rows new ((λ j. int_eq-sym db d j && (bytes_eq-sym design o j && bytes_eq-sym name n j)) ∙ other))
          ∙ said d o n ∙ sym (ap (λ b. if b then Some fields else declares d o n) other)
    ]

  -- the entries that were there are those of all indexes but the new one
  pub still_due : (sees : Documents) (m : ℤ) (k i : List ℕ) → is_due sees rows m k i ≡ without_numbers (is_due sees more) (next ∷ []) m k i
  still_due sees m k i = elim (cases_Bool (int_eq m next)) [
    | inl same ↦
        (λ j. is_due sees rows (same_int m next same j) k i) ∙ ap (λ o. is_due_by sees o k i) no_number ∙ sym (ap (λ b. is_due sees more m k i && not (b || false)) same ∙ no (is_due sees more m k i))
    | inr other ↦
        sym (ap (λ b. is_due sees more m k i && not (b || false)) other ∙ yes (is_due sees more m k i) ∙ ap (λ o. is_due_by sees o k i) (find_other (has_number m) rows new (int_eq-sym next m ∙ other)))
  ]
    where
      no : (b : Bool) → (b && not (true || false)) ≡ false
      no true = refl
      no false = refl

      yes : (b : Bool) → (b && not (false || false)) ≡ b
      yes true = refl
      yes false = refl

  pub new_due : (sees : Documents) (k i : List ℕ) → is_due sees more next k i ≡ is_key (key_if_seen fields (sees db i)) k
  new_due sees k i = ap (λ o. is_due_by sees o k i) found_number ∙ ap (λ fs. is_key (key_if_seen fs (sees db i)) k) new_fields

-- the store stays as the declarations change
pub store_declared : (a b : Database) (now : List Row) → IsStore a → Changes decls_tree now a b → IsStore b
store_declared a b now store h =
    let kept = leaves decls_tree now a b store.schema_is h in
    store_of a.trees b (h.schema ∙ store.schema_is)
    (record { meta = kept.meta (omega arith); dbs = kept.dbs (omega arith); docs = kept.docs (omega arith); revs = kept.revs (omega arith); locals = kept.locals (omega arith) }) store.laid

-- ---- the tables

module _ (declares : Declarations) (db : ℤ) (design name : List ℕ) where
  own_index_of : (d : ℤ) (o n : List ℕ) → (int_eq d db && (bytes_eq o design && bytes_eq n name)) ≡ true → (d ≡ db) × (o ≡ design) × (n ≡ name)
  own_index_of d o n is =
      let p = and_parts (int_eq d db) _ is in
      let q = and_parts (bytes_eq o design) _ p.1 in
      (same_int d db p.0, (bytes_eq-Decides o design).0 q.0, (bytes_eq-Decides n name).0 q.1)

-- an index that is neither this one nor among those
neither : (x y z w : Bool) → (x && (y && z)) ≡ false → (x && (y && w)) ≡ false → (x && (y && (z || w))) ≡ false
neither false y z w one two = refl
neither true false z w one two = refl
neither true true true w one two = one
neither true true false w one two = two

-- what was found stays, with one row more
find_kept : (p : Row → Bool) (rows : List Row) (r new : Row) → find p rows ≡ Some r → find p (rows ++ new ∷ []) ≡ Some r
find_kept p [] r new is = absurd (cc)
find_kept p (s ∷ rows) r new is = go (p s) is (find_kept p rows r new)
  where
    go : (b : Bool) → cond b (Some s) (find p rows) ≡ Some r → (find p rows ≡ Some r → find p (rows ++ new ∷ []) ≡ Some r) → cond b (Some s) (find p (rows ++ new ∷ [])) ≡ Some r
    go true is more = is
    go false is more = more is

-- one declaration more has no entries
one_without : (c a b : Bool) → ((c && not (b || false)) && not a) ≡ (c && not (a || (b || false)))
one_without false a b = refl
one_without true true true = refl
one_without true true false = refl
one_without true false true = refl
one_without true false false = refl

module _ (declares : Declarations) (sees : Documents) (db : ℤ) (design name : List ℕ) (f : List ℕ → Option (List (List ℕ))) (left : List (List ℕ)) (fresh : List Declared) (a : Database)
    (fit : ArePartly declares sees db design f (name ∷ left) fresh a) where
  -- an index that is declared as it is to be, or is not and is not to be, is left no more
  pub settled : declared_by (a.trees decls_tree) db design name ≡ declares db design name → ArePartly declares sees db design f left fresh a
  settled same = record {
    store = fit.store;
    decls = fit.decls;
    rest = λ d o n out. go d o n out (int_eq d db && (bytes_eq o design && bytes_eq n name)) refl;
    part = fit.part;
    due = fit.due.1;
    rows = fit.rows;
    numbers = fit.numbers;
    entries = fit.entries;
    seen = fit.seen;
  }
    where
      go : (d : ℤ) (o n : List ℕ) → (int_eq d db && (bytes_eq o design && list_any (bytes_eq n) left)) ≡ false → (b : Bool) → (int_eq d db && (bytes_eq o design && bytes_eq n name)) ≡ b → declared_by (a.trees decls_tree) d o n ≡ declares d o n
      go d o n out true is =
          let e = own_index_of declares db design name d o n is in
          (λ j. declared_by (a.trees decls_tree) (e.0 j) (e.1 j) (e.2 j)) ∙ same ∙ (λ j. declares (sym e.0 j) (sym e.1 j) (sym e.2 j))
      go d o n out false is = fit.rest d o n (neither (int_eq d db) (bytes_eq o design) (bytes_eq n name) (list_any (bytes_eq n) left) is out)

  -- what is not to be declared is not
  pub settled_none : declares db design name ≡ None → declared_by (a.trees decls_tree) db design name ≡ declares db design name
  settled_none none = go (declared_by (a.trees decls_tree) db design name) refl
    where
      go : (o : Option (List (List ℕ))) → declared_by (a.trees decls_tree) db design name ≡ o → declared_by (a.trees decls_tree) db design name ≡ declares db design name
      go None is = is ∙ sym none
      go (Some has) is = absurd (let there = fit.part name has is in cc)

  pub settled_some : (has : List (List ℕ)) → declared_by (a.trees decls_tree) db design name ≡ Some has → declared_by (a.trees decls_tree) db design name ≡ declares db design name
  settled_some has is = is ∙ sym (fit.part name has is)

  pub rows_fit : HasIndexRows a
  rows_fit = record { schema_is = fit.store.schema_is; decls = fit.decls; entries = fit.entries.laid }

  module _ (fields : List (List ℕ)) (paths : AllByRecursion (λ path. (is_field_path path ≡ true) × IsUtf8 path) fields) (wanted : declares db design name ≡ Some fields)
      (none : declared_by (a.trees decls_tree) db design name ≡ None) (b : Database) (change : Changes decls_tree (with_cells (a.trees decls_tree) (declaration_cells db design name (fields_text fields))) a b) where
    abbrev rows : List Row
    rows = a.trees decls_tree

    abbrev all : List Row
    all = more (a.trees decls_tree) fit.decls db design name fields paths

    abbrev row : Row
    row = new (a.trees decls_tree) fit.decls db design name fields paths

    abbrev pub one : Declared
    one = record { number = next_number (a.trees decls_tree); fields = fields }

    entries_stay : b.trees entries_tree ≡ a.trees entries_tree
    entries_stay = (leaves decls_tree _ a b fit.store.schema_is change).entries (omega arith)

    said : (d : ℤ) (o n : List ℕ) → declared_by all d o n ≡ with_index (declared_by rows) db design name (Some fields) d o n
    said d o n = more_declared rows fit.decls db design name fields paths none (declared_by rows) (λ d' o' n'. refl) d o n

    others_declared : (d : ℤ) (o n : List ℕ) → (int_eq d db && (bytes_eq o design && list_any (bytes_eq n) left)) ≡ false → declared_by all d o n ≡ declares d o n
    others_declared d o n out = said d o n ∙ go (int_eq d db && (bytes_eq o design && bytes_eq n name)) refl
      where
        go : (c : Bool) → (int_eq d db && (bytes_eq o design && bytes_eq n name)) ≡ c → (if c then Some fields else declared_by rows d o n) ≡ declares d o n
        go true is = let e = own_index_of declares db design name d o n is in sym wanted ∙ (λ j. declares (sym e.0 j) (sym e.1 j) (sym e.2 j))
        go false is = fit.rest d o n (neither (int_eq d db) (bytes_eq o design) (bytes_eq n name) (list_any (bytes_eq n) left) is out)

    own_declared : (n : List ℕ) (has : List (List ℕ)) → declared_by all db design n ≡ Some has → declares db design n ≡ Some has
    own_declared n has is = go (int_eq db db && (bytes_eq design design && bytes_eq n name)) refl (sym (said db design n) ∙ is)
      where
        go : (c : Bool) → (int_eq db db && (bytes_eq design design && bytes_eq n name)) ≡ c → ◌≡◌ {A = Option (List (List ℕ))} (if c then Some fields else declared_by rows db design n) (Some has) → declares db design n ≡ Some has
        go true own same = let e = own_index_of declares db design name db design n own in (λ j. declares db design (e.2 j)) ∙ wanted ∙ same
        go false own same = fit.part n has same

    row_kept : (y : Declared) → HasItsRow db rows y → HasItsRow db all y
    row_kept y h = record { row = h.row; found = find_kept (has_number y.number) rows h.row row h.found; says = h.says; own = h.own }

    number_apart : (y : Declared) → HasItsRow db rows y → (y.number ≢ next_number (a.trees decls_tree)) × ⊤
    number_apart y h = (λ same. absurd (let lost = sym (no_number rows fit.decls db design name fields paths) ∙ ap (declaration_at rows) (sym same) ∙ h.found in cc), tt)

    still_without : (m : ℤ) (k i : List ℕ) → without_numbers (is_due sees rows) (numbers_of fresh) m k i ≡ without_numbers (is_due sees all) (numbers_of (fresh ++ one ∷ [])) m k i
    still_without m k i =
        ap (λ c. c && not (list_any (int_eq m) (numbers_of fresh))) (still_due rows fit.decls db design name fields paths sees m k i)
        ∙ one_without (is_due sees all m k i) (list_any (int_eq m) (numbers_of fresh)) (int_eq m (next_number (a.trees decls_tree)))
        ∙ sym (ap (λ c. is_due sees all m k i && not c)
        (ap (list_any (int_eq m)) (map-append (λ (y : Declared). y.number) fresh (one ∷ [])) ∙ list_any-append (int_eq m) (numbers_of fresh) (next_number (a.trees decls_tree) ∷ [])))

    -- with its row it is left no more, and is one of the fresh ones
    pub declared_one : ArePartly declares sees db design f left (fresh ++ one ∷ []) b
    declared_one =
        let revs : b.trees revs_tree ≡ a.trees revs_tree = (leaves decls_tree _ a b fit.store.schema_is change).revs (omega arith) in
        record {
          store = store_declared a b _ fit.store change;
          decls = subst AreDeclarationRows (sym change.rows) (more_laid rows fit.decls db design name fields paths none);
          rest = λ d o n out. ap (λ l. declared_by l d o n) change.rows ∙ others_declared d o n out;
          part = λ n has is. own_declared n has (sym (ap (λ l. declared_by l db design n) change.rows) ∙ is);
          due = fit.due.1;
          rows = subst (λ l. AllByRecursion (HasItsRow db l) (fresh ++ one ∷ [])) (sym change.rows)
              (all-append (HasItsRow db all) fresh (one ∷ []) (all_weaker (HasItsRow db rows) (HasItsRow db all) row_kept fresh fit.rows)
              (record { row = row; found = found_number rows fit.decls db design name fields paths; says = λ j. record { number = next_number (a.trees decls_tree); fields = new_fields rows fit.decls db design name fields paths j }; own = refl }, tt));
          numbers = ascending-append (λ (x : Declared) (y : Declared). x.number ≢ y.number) fresh (one ∷ []) fit.numbers (tt, tt)
              (all_weaker (HasItsRow db rows) (λ y. (y.number ≢ next_number (a.trees decls_tree)) × ⊤) number_apart fresh fit.rows);
          entries = subst (λ l. AreEntriesOf (without_numbers (is_due sees l) (numbers_of (fresh ++ one ∷ []))) (b.trees entries_tree)) (sym change.rows)
              (subst (AreEntriesOf (without_numbers (is_due sees all) (numbers_of (fresh ++ one ∷ [])))) (sym entries_stay)
              (entries_as (without_numbers (is_due sees rows) (numbers_of fresh)) (without_numbers (is_due sees all) (numbers_of (fresh ++ one ∷ []))) (a.trees entries_tree) still_without fit.entries));
          seen = λ id. fit.seen id ∙ sym (ap (λ l. queried_document id (history_in_rows l db id)) revs);
        }

    pub declared_only : ChangesIndexes a b
    declared_only = record {
      schema = change.schema;
      others = all_weaker (λ t. t.tree ≢ decls_tree → b.trees t.tree ≡ a.trees t.tree) (λ t. t.tree ≢ decls_tree → t.tree ≢ entries_tree → b.trees t.tree ≡ a.trees t.tree) (λ t h out other. h out) a.schema.tables change.others;
    }

-- ---- the new row, and what is found of it

module _ (db : ℤ) (design name : List ℕ) (fields : List (List ℕ)) (paths : AllByRecursion (λ path. (is_field_path path ≡ true) × IsUtf8 path) fields) (a b : Database) (fit : IsMissing db design name a)
    (change : Changes decls_tree (with_cells (a.trees decls_tree) (declaration_cells db design name (fields_text fields))) a b) where
  abbrev pub added : Row
  added = new (a.trees decls_tree) fit.rows.decls db design name fields paths

  pub declared_rows : HasIndexRows b
  declared_rows = record {
    schema_is = change.schema ∙ fit.rows.schema_is;
    decls = subst AreDeclarationRows (sym change.rows) (more_laid (a.trees decls_tree) fit.rows.decls db design name fields paths fit.none);
    entries = subst AreEntryRows (sym ((leaves decls_tree _ a b fit.rows.schema_is change).entries (omega arith))) fit.rows.entries;
  }

  pub declared_found : find (is_declaration_of db design name) (b.trees decls_tree) ≡ Some (new (a.trees decls_tree) fit.rows.decls db design name fields paths)
  declared_found = ap (find (is_declaration_of db design name)) change.rows ∙ found_index (a.trees decls_tree) fit.rows.decls db design name fields paths fit.none

  pub added_says : ◌≡◌ {A = Declared} (declared_at (new (a.trees decls_tree) fit.rows.decls db design name fields paths)) (record { number = next_number (a.trees decls_tree); fields = fields })
  added_says = λ j. record { number = next_number (a.trees decls_tree); fields = new_fields (a.trees decls_tree) fit.rows.decls db design name fields paths j }

-- ---- once none is left

module _ (declares : Declarations) (sees : Documents) (db : ℤ) (fresh : List Declared) (b : Database) where
  none_left : (x y : Bool) → (x && (y && false)) ≡ false
  none_left true true = refl
  none_left true false = refl
  none_left false y = refl

  -- all is as it is to be, but that the fresh indexes have no entries
  pub unfilled : (design : List ℕ) (f : List ℕ → Option (List (List ℕ))) → ArePartly declares sees db design f [] fresh b → AreUnfilled declares sees db fresh b
  unfilled design f fit = record {
    store = fit.store;
    decls = fit.decls;
    declared = λ d o n. fit.rest d o n (none_left (int_eq d db) (bytes_eq o design));
    rows = fit.rows;
    numbers = fit.numbers;
    entries = fit.entries;
    seen = fit.seen;
  }

module _ (declares : Declarations) (sees : Documents) (db : ℤ) (fresh : List Declared) (b : Database) (fit : AreUnfilled declares sees db fresh b) where
  -- the fresh indexes have no entries
  pub bare : AreBare db fresh (is_due sees (b.trees decls_tree)) b
  bare = record {
    store = fit.store;
    numbers = fit.numbers;
    entries = fit.entries;
    says = λ id. all_weaker (HasItsRow db (b.trees decls_tree)) (λ (x : Declared). (k : List ℕ) → is_due sees (b.trees decls_tree) x.number k id ≡ is_key (key_if_seen x.fields (sees_in b.trees db id)) k)
        (λ x h k. ap (λ o. is_due_by sees o k id) h.found ∙ (λ j. is_key (key_if_seen ((h.says j).fields) (sees (h.own j) id)) k) ∙ ap (λ v. is_key (key_if_seen x.fields v) k) (fit.seen id)) fresh fit.rows;
  }

  -- and once they are filled, all is as it is to be
  pub filled : (e : Database) → HasEntries (is_due sees (b.trees decls_tree)) b e → IsRebuilt declares sees b e
  filled e made =
      let same : e.trees decls_tree ≡ b.trees decls_tree = declarations_stay b e fit.store.schema_is made.only in
      record {
        indexed = record {
          decls = subst AreDeclarationRows (sym same) fit.decls;
          declared = λ d o n. ap (λ l. declared_by l d o n) same ∙ fit.declared d o n;
          entries = record { laid = made.entries.laid; exact = λ m k i. made.entries.exact m k i ∙ sym (ap (λ l. is_due sees l m k i) same) };
        };
        only = record {
          schema = made.only.schema;
          others = all_weaker (λ t. t.tree ≢ entries_tree → e.trees t.tree ≡ b.trees t.tree) (λ t. t.tree ≢ decls_tree → t.tree ≢ entries_tree → e.trees t.tree ≡ b.trees t.tree) (λ t h out other. h other) b.schema.tables made.only.others;
        };
      }
