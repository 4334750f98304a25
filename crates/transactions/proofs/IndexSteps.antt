-- Tables of which the index rows alone have changed; and what one write leaves of what is declared and of what queries see.
use Rattle.transactions.proofs.Common.{Bool, HasWritten, HistoryContent, IsStore, List, None, Option, Row, Some, Trees, ap, arith, bytes_eq-Decides, database_of_row, dbs_tree, docs_tree, false, filter, history_in_rows, length, number_of, refl, revs_tree, schema, slice_get, subst, sym, true, ℕ, ℤ, ◌∙◌, ◌≡◌, ◌≢◌}
use Rattle.std.specs.Prelude.{◌&&◌, bytes_eq, if◌then◌else◌}
use Rattle.std.specs.Ordering.{int_eq}
use Rattle.couch_json.specs.Value.{Value}
use Rattle.sqlite.specs.Effect as sqlite
use Rattle.store.specs.Database.{DocumentWrite}
use Rattle.std.proofs.Common.{Bor, IfOk, ap₂}
use Rattle.tree.specs.DocumentId.{is_design_id}
use Rattle.store.specs.Indexes.{index_fields_of, queried_document, winning_body}
use Rattle.index.specs.Calls.{AreUpToDate, ChangesIndexes, ChangesOnly, HasEntries}
use Rattle.index.specs.Indexed.{AreIndexed, IsIndexed, is_due}
use Rattle.index.specs.Layout.{AreDeclarationRows, AreEntryRows, HasIndexRows}
use Rattle.std.proofs.lemmas.List.{nil_from_length}
use Rattle.std.proofs.lemmas.Bool.Decides.{nat_tests}
use Rattle.index.specs.Rows.{declared_by, design_of, fields_of, has_entry, index_name_of_row, is_at_home, is_declaration_of}
use Rattle.index.specs.Shown.{Declared, declared_at}
use Rattle.index.proofs.Going.{declarations_stay, refreshed}
use Rattle.sqlite_keyed.proofs.ListLemmas.{all_weaker}
use Rattle.store.specs.Writing.{Addition}
use Rattle.transactions.specs.Indexing.{AreAllIndexes, IsFollowed, IsIndexedBut, IsIndexedStore, IsIndexedStoreBut, write_in}
use Rattle.transactions.proofs.Common.{Err, Ok, OnOk, Result, [], cond, ◌∷◌}
use Rattle.std.specs.Prelude.{◌==◌, find}
use Rattle.index.proofs.Common.{all_of}
use Rattle.std.specs.Prelude.{map, option_copied, option_map}
use Rattle.couch_json.specs.View.{view}
use Rattle.couch_json.specs.declared.value.Json.{Json}
use Rattle.index.specs.Meaning.{Declarations, Documents, declared_if, declares_in, sees_in, with_declared, with_seen}
use Rattle.index.proofs.Rebuilt.{same_beside, store_rebuilt}
use Rattle.index.proofs.Alike.{alike, unseen}
use Rattle.tables.proofs.Common.{Decides-int_eq, and_parts, same_int}
use Rattle.tables.proofs.DocumentWriteHistories.{history_others}
use Rattle.tables.proofs.DocumentWriteSteps.{revisions_changed}
use Rattle.tables.proofs.Rests.{AreSame, contents_same, leaves}
use Rattle.tables.specs.Edits.{IsWrite, history_before, new_entries}
use Rattle.tables.specs.Rows.{documents_in_rows, is_named, sequence_of_database, locals_in, security_of}
use Rattle.tables.specs.Edits.{row_after}
use Rattle.tables.specs.Schema.{decls_tree, entries_tree}

-- ---- tables of which the index rows alone have changed

pub same_tables : (old new : sqlite.Database) → old.schema ≡ schema → ChangesIndexes old new → AreSame old.trees new.trees
same_tables old new is h = same_beside old new is h

pub store_still : (old new : sqlite.Database) → IsStore old → ChangesIndexes old new → IsStore new
store_still old new is h = store_rebuilt old new is h

pub database_still : (a b : Trees) (r : Row) → AreSame a b → database_of_row b r ≡ database_of_row a r
database_still a b r same =
    λ i. record { length = sequence_of_database r; security = security_of r; locals = locals_in (same.locals i) (number_of r); documents = documents_in_rows (same.docs i) (same.revs i) (number_of r) }

pub written_still : (ws : List DocumentWrite) (name : List ℕ) (r : Row) (a b c : sqlite.Database) → HasWritten ws name r a b → ChangesIndexes b c → HasWritten ws name r a c
written_still ws name r a b c h only =
    let same = same_tables b c h.store.schema_is only in
    record {
      store = store_still b c h.store only;
      row = ap (λ rows. slice_get (filter (is_named name) rows) 0) same.dbs ∙ h.row;
      database = database_still b.trees c.trees (row_after r (length ws)) same ∙ h.database;
      contents = contents_same b.trees c.trees same ∙ h.contents;
    }

-- ---- one write

-- what a write leaves of the index rows, and of the histories of other documents
pub record Leaving (db : ℤ) (id : List ℕ) (old new : Trees) : Type 0 where
  pub decls : new decls_tree ≡ old decls_tree
  pub entries : new entries_tree ≡ old entries_tree
  pub others : (n : ℤ) (other : List ℕ) → (int_eq db n && bytes_eq id other) ≡ false → history_in_rows (new revs_tree) n other ≡ history_in_rows (old revs_tree) n other

pub write_leaves : (r : Row) (w : DocumentWrite) (a e : sqlite.Database) → a.schema ≡ schema → IsWrite r w a e → Leaving (number_of r) w.id a.trees e.trees
write_leaves r w a e is h =
    let one = revisions_changed (new_entries (history_before a.trees r w) w.write) (number_of r) w.id a h.inserted h.revisions in
    let schema_b = one.schema ∙ is in
    let b = leaves revs_tree _ a h.inserted is one in
    let c = leaves docs_tree _ h.inserted h.placed schema_b h.places in
    let d = leaves dbs_tree _ h.placed e (h.places.schema ∙ schema_b) h.advances in
    let revs : e.trees revs_tree ≡ h.inserted.trees revs_tree = d.revs (omega arith) ∙ c.revs (omega arith) in
    record {
      decls = d.decls (omega arith) ∙ c.decls (omega arith) ∙ b.decls (omega arith);
      entries = d.entries (omega arith) ∙ c.entries (omega arith) ∙ b.entries (omega arith);
      others = λ n other apart.
          ap (λ rows. history_in_rows rows n other) (revs ∙ one.rows)
          ∙ history_others (new_entries (history_before a.trees r w) w.write) (a.trees revs_tree) (number_of r) w.id n other apart;
    }

-- index rows are those of the same over other tables with these rows
pub indexed_still : (declares : Declarations) (sees : Documents) (a b : Trees) → b decls_tree ≡ a decls_tree → b entries_tree ≡ a entries_tree → AreIndexed declares sees a → AreIndexed declares sees b
indexed_still declares sees a b decls entries h =
    record {
      decls = subst AreDeclarationRows (sym decls) h.decls;
      declared = λ db design name. ap (λ rows. declared_by rows db design name) decls ∙ h.declared db design name;
      entries = record {
        laid = subst AreEntryRows (sym entries) h.entries.laid;
        exact = λ n k id. ap (λ rows. has_entry rows n k id) entries ∙ h.entries.exact n k id ∙ ap (λ rows. is_due sees rows n k id) (sym decls);
      };
    }

-- the document and the database are those, or not
pub same_place : (db : ℤ) (id : List ℕ) (n : ℤ) (other : List ℕ) → (int_eq n db && bytes_eq other id) ≡ true → (n ≡ db) × (other ≡ id)
same_place db id n other is = let parts = and_parts (int_eq n db) (bytes_eq other id) is in (same_int n db parts.0, (bytes_eq-Decides other id).0 parts.1)

-- the test of one place, either way
pub other_place : (db : ℤ) (id : List ℕ) (n : ℤ) (other : List ℕ) → (int_eq n db && bytes_eq other id) ≡ false → (int_eq db n && bytes_eq id other) ≡ false
other_place db id n other apart = by (int_eq db n && bytes_eq id other) refl
  where
    by : (b : Bool) → (int_eq db n && bytes_eq id other) ≡ b → b ≡ false
    by true is =
        let place = same_place n other db id is in
        let here : (int_eq n db && bytes_eq other id) ≡ true = rw ((Decides-int_eq n db).1 (sym place.0), (bytes_eq-Decides other id).1 (sym place.1)) refl in
        sym here ∙ apart
    by false is = refl

module _ (db : ℤ) (id : List ℕ) (old new : Trees) (left : Leaving db id old new) where
  -- what is seen is what was seen, but for this document
  pub sees_after : (n : ℤ) (other : List ℕ) → with_seen (sees_in old) db id (sees_in new db id) n other ≡ sees_in new n other
  sees_after n other = by (int_eq n db && bytes_eq other id) refl
    where
      by : (b : Bool) → (int_eq n db && bytes_eq other id) ≡ b → (if b then sees_in new db id else sees_in old n other) ≡ sees_in new n other
      by true is = let place = same_place db id n other is in ap₂ (sees_in new) (sym place.0) (sym place.1)
      by false is = ap (queried_document other) (sym (left.others n other (other_place db id n other is)))

  -- and so of what is declared
  pub declares_after : (n : ℤ) (design name : List ℕ) → with_declared (declares_in old) db id (λ x. declares_in new db id x) n design name ≡ declares_in new n design name
  declares_after n design name = by (int_eq n db && bytes_eq design id) refl
    where
      by : (b : Bool) → (int_eq n db && bytes_eq design id) ≡ b → (if b then declares_in new db id name else declares_in old n design name) ≡ declares_in new n design name
      by true is = let place = same_place db id n design is in ap₂ (λ m i. declares_in new m i name) (sym place.0) (sym place.1)
      by false is = ap (λ h. index_fields_of design h name) (sym (left.others n design (other_place db id n design is)))

-- ---- the index rows after a write

-- a document that is no design document declares nothing, before a write and after it
document_declares : (db : ℤ) (id : List ℕ) (old written : Trees) → is_design_id id ≡ false → Leaving db id old written → (n : ℤ) (design name : List ℕ) → declares_in old n design name ≡ declares_in written n design name
document_declares db id old written plain left n design name = by (int_eq n db && bytes_eq design id) refl
  where
    none : (trees : Trees) (name : List ℕ) → declares_in trees db id name ≡ None
    none trees name = rw (plain) refl

    by : (b : Bool) → (int_eq n db && bytes_eq design id) ≡ b → declares_in old n design name ≡ declares_in written n design name
    by true is =
        let place = same_place db id n design is in
        ap₂ (λ m i. declares_in old m i name) place.0 place.1 ∙ none old name ∙ sym (none written name) ∙ ap₂ (λ m i. declares_in written m i name) (sym place.0) (sym place.1)
    by false is = ap (λ h. index_fields_of design h name) (sym (left.others n design (other_place db id n design is)))

-- A document that is no design document was written, and the index rows follow it.
pub document_followed : (db : ℤ) (ids : List (List ℕ)) (id : List ℕ) (old written new : Trees) → is_design_id id ≡ false → IsIndexedBut db ids old → Leaving db id old written → new decls_tree ≡ old decls_tree → new revs_tree ≡ written revs_tree
    → AreIndexed (declared_by (old decls_tree)) (with_seen (sees_in old) db id (sees_in written db id)) new → IsIndexedBut db ids new
document_followed db ids id old written new plain was left decls same h = record {
  indexed = alike (declared_by (old decls_tree)) (with_seen (sees_in old) db id (sees_in written db id)) new h (declared_by (new decls_tree)) (sees_in new)
      (λ n design name. ap (λ rows. declared_by rows n design name) (sym decls))
      (λ n other. sees_after db id old written left n other ∙ ap (λ rows. queried_document other (history_in_rows rows n other)) (sym same));
  declared = λ n design name out.
      ap (λ rows. declared_by rows n design name) decls ∙ was.declared n design name out ∙ document_declares db id old written plain left n design name
      ∙ ap (λ rows. index_fields_of design (history_in_rows rows n design) name) (sym same);
  designs = was.designs;
}

-- queries see the same after a design document was written
pub design_unseen : (db : ℤ) (id : List ℕ) (old written : Trees) → is_design_id id ≡ true → Leaving db id old written → (n : ℤ) (other : List ℕ) → sees_in old n other ≡ sees_in written n other
design_unseen db id old written design left n other = by (int_eq n db && bytes_eq other id) refl
  where
    none : (trees : Trees) → sees_in trees db id ≡ None
    none trees = rw (design) refl

    by : (b : Bool) → (int_eq n db && bytes_eq other id) ≡ b → sees_in old n other ≡ sees_in written n other
    by true is =
        let place = same_place db id n other is in
        ap₂ (sees_in old) place.0 place.1 ∙ none old ∙ sym (none written) ∙ ap₂ (sees_in written) (sym place.0) (sym place.1)
    by false is = ap (queried_document other) (sym (left.others n other (other_place db id n other is)))

-- A document was written where nothing is declared.
pub nothing_followed : (db : ℤ) (ids : List (List ℕ)) (id : List ℕ) (old written : Trees) → is_design_id id ≡ false → IsIndexedBut db ids old → Leaving db id old written → ((design name : List ℕ) → declared_by (old decls_tree) db design name ≡ None)
    → IsIndexedBut db ids written
nothing_followed db ids id old written plain was left none =
    document_followed db ids id old written written plain was left left.decls refl
    (unseen (declared_by (old decls_tree)) (sees_in old) written (indexed_still (declared_by (old decls_tree)) (sees_in old) old written left.decls left.entries was.indexed) (with_seen (sees_in old) db id (sees_in written db id)) db none
    (λ n other apart. sym (away n other apart)))
  where
    away : (n : ℤ) (other : List ℕ) → n ≢ db → with_seen (sees_in old) db id (sees_in written db id) n other ≡ sees_in old n other
    away n other apart = by (int_eq n db) refl
      where
        by : (b : Bool) → int_eq n db ≡ b → (if (b && bytes_eq other id) then sees_in written db id else sees_in old n other) ≡ sees_in old n other
        by true is = absurd (apart (same_int n db is))
        by false is = refl

-- ---- rows of indexes of which none is postponed

pub none_postponed : (db : ℤ) (trees : Trees) → IsIndexed trees → IsIndexedBut db [] trees
none_postponed db trees was = record {
  indexed = alike (declares_in trees) (sees_in trees) trees was (declared_by (trees decls_tree)) (sees_in trees) (λ n design name. sym (was.declared n design name)) (λ n id. refl);
  declared = λ n design name out. was.declared n design name;
  designs = λ id is. absurd (cc);
}

pub all_indexed : (db : ℤ) (trees : Trees) → IsIndexedBut db [] trees → IsIndexed trees
all_indexed db trees h = alike (declared_by (trees decls_tree)) (sees_in trees) trees h.indexed (declares_in trees) (sees_in trees) (λ n design name. h.declared n design name (none (int_eq n db))) (λ n id. refl)
  where
    none : (b : Bool) → (b && false) ≡ false
    none true = refl
    none false = refl

-- ---- the indexes of a database follow a document

indexes_alone : (a b : sqlite.Database) → ChangesOnly entries_tree a b → ChangesIndexes a b
indexes_alone a b h = record {
  schema = h.schema;
  others = all_weaker (λ t. t.tree ≢ entries_tree → b.trees t.tree ≡ a.trees t.tree) (λ t. t.tree ≢ decls_tree → t.tree ≢ entries_tree → b.trees t.tree ≡ a.trees t.tree) (λ t only declared entered. only entered) a.schema.tables h.others;
}

-- a document that is no design document was written, and all indexes of its database followed it
pub seen_followed : (r : Row) (a : Addition) (db : ℤ) (ids : List (List ℕ)) (all : List Declared) (before after : Option Value) (old written new : sqlite.Database) → IsIndexedStoreBut db ids old → AreAllIndexes all db old.trees → is_design_id a.id ≡ false
    → db ≡ number_of r → IsWrite r (write_in old.trees r a) old written → IsStore written → before ≡ sees_in old.trees db a.id → after ≡ sees_in written.trees db a.id
    → ((decls : List Row) (sees : Documents) → AreUpToDate db all a.id before decls sees (written.trees entries_tree) → HasEntries (is_due (with_seen sees db a.id after) decls) written new)
    → IsFollowed db ids r (write_in old.trees r a) old new × AreAllIndexes all db new.trees
seen_followed r a db ids all before after old written new was every plain numbered write store first seen_is follows =
    let declares = declared_by (old.trees decls_tree) in
    let sees = sees_in old.trees in
    let left : Leaving db a.id old.trees written.trees = subst (λ n. Leaving n a.id old.trees written.trees) (sym numbered) (write_leaves r (write_in old.trees r a) old written was.store.schema_is write) in
    let still = indexed_still declares sees old.trees written.trees left.decls left.entries was.indexed.indexed in
    let made = follows (written.trees decls_tree) sees (record { laid = still.decls; own = every ∙ ap (λ rows. map declared_at (filter (is_at_home db) rows)) (sym left.decls); due = still.entries; now = sym first }) in
    let both = refreshed declares sees (with_seen sees db a.id after) written new store.schema_is still made in
    let only = indexes_alone written new both.1 in
    let decls = declarations_stay written new store.schema_is made.only ∙ left.decls in
    let at_home : List Row → List Declared = λ rows. map declared_at (filter (is_at_home db) rows) in (
      record {
        written = written;
        write = write;
        only = only;
        indexed = document_followed db ids a.id old.trees written.trees new.trees plain was.indexed left decls (same_tables written new store.schema_is only).revs
            (subst (λ seen. AreIndexed declares (with_seen sees db a.id seen) new.trees) seen_is both.0);
      },
      every ∙ ap at_home (sym decls),
    )

-- the value that is behind a reference, which may be none
pub seen_copied : (r : Option (Bor Json)) → option_map (λ v. view v.now) r ≡ option_map view (option_copied r)
seen_copied None = refl
seen_copied (Some v) = refl

-- what the body of the winner declares is what the history says
pub declared_by_winner : (id name : List ℕ) (h : HistoryContent) (body : Option Value) → is_design_id id ≡ true → body ≡ winning_body h → declared_if body name ≡ index_fields_of id h name
declared_by_winner id name h body design is = rw design (ap (λ b. declared_if b name) is)

-- the same of what is declared with it
pub with_winner : (declares : Declarations) (sees : Documents) (db : ℤ) (id bytes : List ℕ) (h : HistoryContent) (body : Option Value) (trees : Trees) → is_design_id id ≡ true → bytes ≡ id → body ≡ winning_body h
    → AreIndexed (with_declared declares db bytes (λ name. declared_if body name)) sees trees → AreIndexed (with_declared declares db id (λ name. index_fields_of id h name)) sees trees
with_winner declares sees db id bytes h body trees design named is indexed =
    alike (with_declared declares db bytes (λ name. declared_if body name)) sees trees indexed (with_declared declares db id (λ name. index_fields_of id h name)) sees
    (λ n other name.
    ap (λ i. with_declared declares db i (λ x. declared_if body x) n other name) named
    ∙ ap (λ (fields : Option (List (List ℕ))). if (int_eq n db && bytes_eq other id) then fields else declares n other name) (declared_by_winner id name h body design is))
    (λ n other. refl)

-- ---- answers

pub on_done : {X E P : Type 0} (r : Result X E) → P → OnOk r P
on_done (Ok x) p = p
on_done (Err e) p = tt

-- ---- a database that declares nothing

none_home : (db : ℤ) (design name : List ℕ) (rows : List Row) → filter (is_at_home db) rows ≡ [] → find (is_declaration_of db design name) rows ≡ None
none_home db design name [] is = refl
none_home db design name (r ∷ rows) is = by (is_at_home db r) refl is (none_home db design name rows)
  where
    by : (b : Bool) → is_at_home db r ≡ b → cond b (r ∷ filter (is_at_home db) rows) (filter (is_at_home db) rows) ≡ []
        → (filter (is_at_home db) rows ≡ [] → find (is_declaration_of db design name) rows ≡ None) → find (is_declaration_of db design name) (r ∷ rows) ≡ None
    by true home none more = absurd (cc)
    by false away none more =
        ap (λ b. cond (b && (bytes_eq (design_of r) design && bytes_eq (index_name_of_row r) name)) (Some r) (find (is_declaration_of db design name) rows)) away ∙ more none

map_none : {A B : Type 0} (f : A → B) (xs : List A) → map f xs ≡ [] → xs ≡ []
map_none f [] is = refl
map_none f (x ∷ xs) is = absurd (cc)

-- where all indexes of a database are none, its rows declare nothing
pub none_declared : (db : ℤ) (all : List Declared) (trees : Trees) → AreAllIndexes all db trees → all ≡ [] → (design name : List ℕ) → declared_by (trees decls_tree) db design name ≡ None
none_declared db all trees every none design name =
    ap (option_map fields_of) (none_home db design name (trees decls_tree) (map_none declared_at (filter (is_at_home db) (trees decls_tree)) (sym every ∙ none)))

indexes_itself : (a : sqlite.Database) → ChangesIndexes a a
indexes_itself a = record { schema = refl; others = all_of (λ t. t.tree ≢ decls_tree → t.tree ≢ entries_tree → a.trees t.tree ≡ a.trees t.tree) (λ t declared entered. refl) a.schema.tables }

-- a document that is no design document was written in a database that declares nothing
pub plain_followed : (r : Row) (a : Addition) (db : ℤ) (ids : List (List ℕ)) (all : List Declared) (old new : sqlite.Database) → IsIndexedStoreBut db ids old → AreAllIndexes all db old.trees → all ≡ [] → is_design_id a.id ≡ false
    → db ≡ number_of r → IsWrite r (write_in old.trees r a) old new → IsFollowed db ids r (write_in old.trees r a) old new × AreAllIndexes all db new.trees
plain_followed r a db ids all old new was every none plain numbered write =
    let left : Leaving db a.id old.trees new.trees = subst (λ n. Leaving n a.id old.trees new.trees) (sym numbered) (write_leaves r (write_in old.trees r a) old new was.store.schema_is write) in (
      record {
        written = new;
        write = write;
        only = indexes_itself new;
        indexed = nothing_followed db ids a.id old.trees new.trees plain was.indexed left (none_declared db all old.trees every none);
      },
      every ∙ ap (λ rows. map declared_at (filter (is_at_home db) rows)) (sym left.decls),
    )

-- no declarations
pub no_items : {A B : Type 0} (f : A → B) (xs : List A) → (length xs == 0) ≡ true → map f xs ≡ []
no_items f xs is = ap (map f) (nil_from_length xs (count is))
  where
    count : (length xs == 0) ≡ true → length xs ≡ 0
    count e = grind (arith, nat_tests)

-- the tables that index rows are read of
pub rows_of : (d : sqlite.Database) → IsIndexedStore d → HasIndexRows d
rows_of d h = record { schema_is = h.store.schema_is; decls = h.indexed.decls; entries = h.indexed.entries.laid }

-- ---- answers of two kinds

pub if_both : {X E P : Type 0} {Q R : X → Type 0} (r : Result X E) → ((x : X) → P → Q x → R x) → OnOk r P → IfOk r Q → IfOk r R
if_both (Ok x) f p q = f x p q
if_both (Err e) f p q = tt

pub on_both : {X E P Q R : Type 0} (r : Result X E) → OnOk r P → OnOk r Q → (P → Q → R) → OnOk r R
on_both (Ok x) p q f = f p q
on_both (Err e) p q f = tt

pub on_some : {X E R : Type 0} {Q : X → Type 0} (r : Result X E) → ((x : X) → Q x → R) → IfOk r Q → OnOk r R
on_some (Ok x) f q = f x q
on_some (Err e) f q = tt
