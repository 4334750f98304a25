-- Changes that index rows need not follow, and the removal of a database, which they follow.
use Rattle.transactions.proofs.Common.{Bool, Changes, Clears, Database, HasCleanDisk, Held, IsStore, KeepsCommit, List, None, Option, Row, ap, arith, dbs_tree, docs_tree, entry_of, false, filter, history_in_rows, is_row_of_database, is_row_of_document, locals_tree, map, not, refl, Replaces, revision_of_row, revs_tree, schema, state, sym, true, ℕ, ℤ, ◌∙◌, ◌≡◌, ◌≢◌}
use Rattle.std.specs.Prelude.{◌&&◌, bytes_eq, if◌then◌else◌, option_and_then, option_map}
use Rattle.std.specs.FinMap.{empty, from_entries}
use Rattle.std.specs.Ordering.{int_eq}
use Rattle.std.proofs.lemmas.Bool.{false_from_ne_true}
use Rattle.store.proofs.Winnings.{no_winner}
use Rattle.store.specs.Indexes.{declared_fields, held_by, index_fields_of, queried_document}
use Rattle.store.specs.Pages.{live_rev_by}
use Rattle.tree.specs.DocumentId.{is_design_id}
use Rattle.index.specs.Calls.{IsDropped, IsRefused}
use Rattle.index.specs.Layout.{HasIndexRows}
use Rattle.index.specs.declared.fault.IndexFault.{IndexFault}
use Rattle.index.specs.declared.fault.IndexFault.TheVariants as index
use Rattle.transactions.specs.Commits.{IsUnwritten}
use Rattle.transactions.specs.Indexing.{of_index_fault}
use Rattle.index.specs.Indexed.{AreIndexed, IsIndexed}
use Rattle.index.specs.Meaning.{declares_in, sees_in, without_declared}
use Rattle.index.proofs.Alike.{alike, same_rows, unseen}
use Rattle.sqlite_keyed.proofs.ListLemmas.{all_weaker, filter_none}
use Rattle.tables.proofs.Common.{Decides-int_eq, and_parts, same_int}
use Rattle.tables.proofs.Rests.{leaves}
use Rattle.tables.proofs.RowMaps.{filter_apart, passing}
use Rattle.tables.specs.Rows.{db_of, id_of}
use Rattle.tables.specs.Schema.{decls_tree, entries_tree}
use Rattle.transactions.proofs.IndexSteps.{indexed_still, same_tables}
use Rattle.sqlite.proofs.InsideLemmas.{keeps_then}
use Rattle.sqlite_trees.specs.declared.store.Store.{Ghosts}
use Rattle.tables.specs.Calls.{AsksInside, LooksInside, Proceeds}

-- ---- other tables

-- a table that index rows don't look at is changed
pub other_indexed : (tree : ℕ) (rows : List Row) (a b : Database) → a.schema ≡ schema → revs_tree ≢ tree → decls_tree ≢ tree → entries_tree ≢ tree → Changes tree rows a b → IsIndexed a.trees → IsIndexed b.trees
other_indexed tree rows a b is revs decls entries change was =
    let left = leaves tree rows a b is change in
    same_rows a.trees b.trees (left.revs revs) (left.decls decls) (left.entries entries) was

-- a row of a database is put in, or changed
pub database_indexed : (rows : List Row) (a b : Database) → a.schema ≡ schema → Changes dbs_tree rows a b → IsIndexed a.trees → IsIndexed b.trees
database_indexed rows a b is change was = other_indexed dbs_tree rows a b is (omega arith) (omega arith) (omega arith) change was

-- a local document is written
pub replaced_indexed : (db : ℤ) (id : List ℕ) (number : ℕ) (body : List ℕ) (a b : Database) → a.schema ≡ schema → Replaces db id number body a b → IsIndexed a.trees → IsIndexed b.trees
replaced_indexed db id number body a b is h was =
    other_indexed locals_tree _ h.mid b (h.out.schema ∙ is) (omega arith) (omega arith) (omega arith) h.put (other_indexed locals_tree _ a h.mid is (omega arith) (omega arith) (omega arith) h.out was)

-- ---- a database is removed

-- what a database that is taken out leaves of what index rows look at
pub record Remaining (db : ℤ) (old new : Database) : Type 0 where
  pub schema_is : new.schema ≡ schema
  pub revs : new.trees revs_tree ≡ filter (λ r. not (is_row_of_database db r)) (old.trees revs_tree)
  pub decls : new.trees decls_tree ≡ old.trees decls_tree
  pub entries : new.trees entries_tree ≡ old.trees entries_tree

pub remaining : (db : ℤ) (a b : Database) → a.schema ≡ schema → Clears db a b → Remaining db a b
remaining db a b is h =
    let first = h.documents.schema ∙ is in
    let second = h.revisions.schema ∙ first in
    let third = h.locals.schema ∙ second in
    let docs = leaves docs_tree _ a h.undocumented is h.documents in
    let revs = leaves revs_tree _ h.undocumented h.unwritten first h.revisions in
    let locals = leaves locals_tree _ h.unwritten h.bare second h.locals in
    let dbs = leaves dbs_tree _ h.bare b third h.row in
    record {
      schema_is = h.row.schema ∙ third;
      revs = dbs.revs (omega arith) ∙ locals.revs (omega arith) ∙ h.revisions.rows ∙ ap (filter (λ r. not (is_row_of_database db r))) (docs.revs (omega arith));
      decls = dbs.decls (omega arith) ∙ locals.decls (omega arith) ∙ revs.decls (omega arith) ∙ docs.decls (omega arith);
      entries = dbs.entries (omega arith) ∙ locals.entries (omega arith) ∙ revs.entries (omega arith) ∙ docs.entries (omega arith);
    }

-- the index rows of it are still those of before
pub remaining_indexed : (db : ℤ) (a b : Database) → Remaining db a b → IsIndexed a.trees → AreIndexed (declares_in a.trees) (sees_in a.trees) b.trees
remaining_indexed db a b h was = indexed_still (declares_in a.trees) (sees_in a.trees) a.trees b.trees h.decls h.entries was

-- the histories of another database are the same
history_away : (db : ℤ) (revs : List Row) (n : ℤ) (id : List ℕ) → n ≢ db → history_in_rows (filter (λ r. not (is_row_of_database db r)) revs) n id ≡ history_in_rows revs n id
history_away db revs n id apart =
    ap (λ l. from_entries (map (λ r. (revision_of_row r, entry_of r)) l))
    (filter_apart (is_row_of_document n id) (is_row_of_database db)
    (λ r passes. false_from_ne_true (is_row_of_database db r) (λ own. apart (sym (same_int (db_of r) n (and_parts (int_eq (db_of r) n) (bytes_eq (id_of r) id) passes).0) ∙ same_int (db_of r) db own)))
    revs)

off : (b : Bool) → not b ≡ true → b ≡ false
off true h = sym h
off false h = refl

-- and those of its own are empty
history_gone : (db : ℤ) (revs : List Row) (id : List ℕ) → history_in_rows (filter (λ r. not (is_row_of_database db r)) revs) db id ≡ empty
history_gone db revs id =
    ap (λ l. from_entries (map (λ r. (revision_of_row r, entry_of r)) l))
    (filter_none (is_row_of_document db id) (filter (λ r. not (is_row_of_database db r)) revs)
    (all_weaker (λ r. not (is_row_of_database db r) ≡ true) (λ r. is_row_of_document db id r ≡ false) (λ r kept. ap (λ b. b && bytes_eq (id_of r) id) (off (is_row_of_database db r) kept)) (filter (λ r. not (is_row_of_database db r)) revs) (passing (λ r. not (is_row_of_database db r)) revs)))

neither : {A : Type 0} (b : Bool) → if◌then◌else◌ {A = Option A} b None None ≡ None
neither true = refl
neither false = refl

-- an empty history declares nothing
pub nothing_there : (design name : List ℕ) → index_fields_of design empty name ≡ None
nothing_there design name =
    ap (λ w. if is_design_id design then option_and_then (λ body. declared_fields body name) (option_map (λ held. held.body) (held_by empty (live_rev_by empty w))) else None) no_winner ∙ neither (is_design_id design)

-- A database was taken out, and what it declared: the index rows are those of what is left.
pub removed_indexed : (db : ℤ) (a b c : Database) → Remaining db a b → IsDropped (declares_in a.trees) (sees_in a.trees) db b c → IsIndexed c.trees
removed_indexed db a b c left dropped =
    alike (without_declared (declares_in a.trees) db) (sees_in c.trees) c.trees
    (unseen (without_declared (declares_in a.trees) db) (sees_in a.trees) c.trees dropped.indexed (sees_in c.trees) db
    (λ design name. ap (λ b. if b then None else declares_in a.trees db design name) ((Decides-int_eq db db).1 refl))
    (λ n id apart. ap (queried_document id) (sym (away n id apart))))
    (declares_in c.trees) (sees_in c.trees) declares (λ n id. refl)
  where
    revs : c.trees revs_tree ≡ filter (λ r. not (is_row_of_database db r)) (a.trees revs_tree)
    revs = (same_tables b c left.schema_is dropped.only).revs ∙ left.revs

    away : (n : ℤ) (id : List ℕ) → n ≢ db → history_in_rows (c.trees revs_tree) n id ≡ history_in_rows (a.trees revs_tree) n id
    away n id apart = ap (λ rows. history_in_rows rows n id) revs ∙ history_away db (a.trees revs_tree) n id apart

    declares : (n : ℤ) (design name : List ℕ) → without_declared (declares_in a.trees) db n design name ≡ declares_in c.trees n design name
    declares n design name = by (int_eq n db) refl
      where
        by : (b : Bool) → int_eq n db ≡ b → (if b then None else declares_in a.trees n design name) ≡ declares_in c.trees n design name
        by true is =
            sym
            (ap (λ m. index_fields_of design (history_in_rows (c.trees revs_tree) m design) name) (same_int n db is)
            ∙ ap (λ rows. index_fields_of design (history_in_rows rows db design) name) revs ∙ ap (λ h. index_fields_of design h name) (history_gone db (a.trees revs_tree) design)
            ∙ nothing_there design name)
        by false is = ap (λ h. index_fields_of design h name) (sym (away n design (λ same. let yes = (Decides-int_eq n db).1 same in cc)))

-- ---- answers

-- a fault of indexes tells the same as one of a commit
pub refused_of : (sound other : Type 0) (fault : IndexFault) → (other → sound) → IsRefused sound fault → IsUnwritten other (of_index_fault fault)
refused_of sound other (index.Sqlite e) f h = tt
refused_of sound other index.Memory f h = tt
refused_of sound other index.Damaged f h = λ o. h (f o)

-- the rows of indexes of what is left are laid out
pub remaining_rows : (db : ℤ) (a b : Database) → Remaining db a b → IsIndexed a.trees → HasIndexRows b
remaining_rows db a b h was = let still = remaining_indexed db a b h was in record { schema_is = h.schema_is; decls = still.decls; entries = still.entries.laid }

-- what is left behind the first of the two statements
module _ {S : Type 0} (g : Ghosts S) (db : ℤ) (first between last : Held S) (asks : AsksInside g between last) (clears : HasCleanDisk (state g between) → IsStore (state g first).now → Clears db (state g first).now (state g between).now) where
  pub cleared_clean : HasCleanDisk (state g last) → HasCleanDisk (state g between)
  cleared_clean clean = omega (arith, asks.survives.clean, clean)

  pub rows_left : HasCleanDisk (state g last) → IsStore (state g first).now → Remaining db (state g first).now (state g between).now
  rows_left clean store = remaining db (state g first).now (state g between).now store.schema_is (clears (cleared_clean clean) store)

  pub clear_kept : Proceeds g first between → LooksInside g between last → HasCleanDisk (state g last) → IsStore (state g first).now → KeepsCommit (state g first) (state g last)
  clear_kept proceeds looks clean store = keeps_then (state g first) (state g between) (state g last) (proceeds.kept (cleared_clean clean)) ((looks (rows_left clean store).schema_is).kept clean)
