-- What each change makes of the tables, whose rows are those that the last change left.
use Rattle.index.specs.Shown.{declared}
use Rattle.index.specs.declared.declaration.Declaration.{Declaration}
use Rattle.transactions.specs.Indexing.{AreAllIndexes}
use Rattle.sqlstore.proofs.KnownCounts.{uncounted}
use Rattle.sqlstore.proofs.Common.{Addition, AreDue, Changes, Clears, Database, FoundValues, Global, HasNumber, HasWritten, IfSome, IsKnown, IsLawful, IsTrue, KnownDatabase, List, LocalDocument, None, Option, Replaces, Some, Trees, Vec, ap, ap₂, at_sequence, canonical, closed_security, contents_in, database_cells, database_of_row, dbs_tree, filter, found_in, get, insert, inside, is_database_name, is_document_id, is_named, is_security, known_values, length, sequence_of_database, map, new_database, option_map, pos, refl, remove, rows_with_security, slice_get, subst, sym, with_all, with_cells, with_local, with_security, writings_in, ℕ, ℤ, ◌+◌, ◌∙◌, ◌≡◌}
use Rattle.couch_json.specs.Value.{Value}
use Rattle.std.proofs.lemmas.Bool.{false_from_ne_true}
use Rattle.std.proofs.lemmas.Slice.Eq.{bytes_eq-Decides}
use Rattle.std.specs.Prelude.{bytes_eq}
use Rattle.sqlite_keyed.proofs.ListLemmas.{all-filter, filter-filter}
use Rattle.sqlstore.proofs.Common.{AllByRecursion, Bool, Row, [], arith, cond, docs_tree, false, has_number, locals_tree, not, number_of, revs_tree, schema, ◌++◌, ◌∷◌, ◌≢◌}
use Rattle.sqlstore.proofs.OtherKnown.{all_still, inserted_other, one_still, others_known, removed_other}
use Rattle.sqlstore.specs.Standing.{AreKnown}
use Rattle.tables.proofs.Changed.{named_changed}
use Rattle.tables.proofs.Lookups.{by_number}
use Rattle.tables.proofs.RowMaps.{mapped_some}
use Rattle.tables.proofs.Rests.{Leaves, leaves}
use Rattle.tables.specs.Rows.{row_with_security}
use Rattle.tables.specs.Schema.{decls_tree, entries_tree}
use Rattle.transactions.proofs.OtherRows.{changed_others, other_rows}
use Rattle.transactions.specs.Commits.{KeepsOthers}
use Rattle.tables.proofs.Lookups.{database_there}
use Rattle.tables.proofs.LocalChanges.{written_store}
use Rattle.tables.proofs.NewDatabases.{new_store}
use Rattle.tables.proofs.Removed.{removed_store}
use Rattle.tables.proofs.Secured.{secured_store}
use Rattle.tables.proofs.Rests.{contents_same}
use Rattle.index.specs.Indexed.{IsIndexed}
use Rattle.transactions.proofs.Committing.{length-writings_in}
use Rattle.transactions.proofs.IndexRests.{database_indexed, replaced_indexed}
use Rattle.transactions.proofs.IndexSteps.{same_tables, store_still}
use Rattle.transactions.specs.Indexing.{IsIndexedStore, IsRemoved as Removes}
use Rattle.store.specs.Database as store
use Rattle.store.specs.Lawful.{AllEndAtLast, EndsAtLast, IsLocalDocument}
use Rattle.store.proofs.Lasts.{ends_by_all, ends_empty, ends_local, ends_secured}
use Rattle.store.proofs.Lawfuls.{all_change, all_insert, all_remove}
use Rattle.sqlstore.proofs.Standing.{Follows}

-- the last row is left out
without_last : (p : Row → Bool) (rows : List Row) (r : Row) → p r ≡ false → filter p (rows ++ r ∷ []) ≡ filter p rows
without_last p [] r out = ap (λ b. cond b (r ∷ []) []) out
without_last p (x ∷ rows) r out = ap (λ l. cond (p x) (x ∷ l) l) (without_last p rows r out)

module _ (new : Database) (name : List ℕ) where
  -- a new database was put in
  abbrev pub IsAdded : Database → Type 0
  IsAdded old = contents_in new.trees ≡ insert (contents_in old.trees) name new_database

  -- the database has another security object
  abbrev pub IsSecured : Value → Database → Type 0
  IsSecured v old = option_map (λ db. insert (contents_in old.trees) name (with_security db v)) (get (contents_in old.trees) name) ≡ Some (contents_in new.trees)

  -- it was taken out
  abbrev pub IsRemoved : Database → Type 0
  IsRemoved old = contents_in new.trees ≡ remove (contents_in old.trees) name

  -- it has this local document
  abbrev pub HasLocal : List ℕ → LocalDocument → Database → Type 0
  HasLocal id document old = option_map (λ db. insert (contents_in old.trees) name (with_local db id document)) (get (contents_in old.trees) name) ≡ Some (contents_in new.trees)

  -- it has the writes
  abbrev pub IsWritten : List Addition → Database → Type 0
  IsWritten all old = option_map (λ db. insert (contents_in old.trees) name (with_all db (writings_in db all))) (get (contents_in old.trees) name) ≡ Some (contents_in new.trees)

  module _ (old : Database) (last : Trees) (was : IsIndexedStore old) (same : old.trees ≡ last) where
    -- a change of the database that keeps the end of each
    changed : (change : store.Database → store.Database) → ((db : store.Database) → EndsAtLast db → EndsAtLast (change db))
        → option_map (λ db. insert (contents_in old.trees) name (change db)) (get (contents_in old.trees) name) ≡ Some (contents_in new.trees) → AllEndAtLast (contents_in old.trees) → AllEndAtLast (contents_in new.trees)
    changed change keeps is = all_change EndsAtLast (contents_in old.trees) (contents_in new.trees) name (get (contents_in old.trees) name) change refl is (λ db at. keeps db)

    pub adds : (given text : List ℕ) → IsTrue (is_database_name name) → get (contents_in last) name ≡ None → given ≡ name → text ≡ canonical closed_security
        → Changes dbs_tree (with_cells (old.trees dbs_tree) (database_cells given text (pos 0))) old new → Follows old new × IsAdded old
    adds given text lawful none named spelled change =
        let free = ap (λ trees. get (contents_in trees) name) same ∙ none in
        let row = subst (λ t. Changes dbs_tree (with_cells (old.trees dbs_tree) (database_cells name t (pos 0))) old new) spelled
        (subst (λ n. Changes dbs_tree (with_cells (old.trees dbs_tree) (database_cells n text (pos 0))) old new) named change) in
        let made = new_store old new name was.store lawful free row in
        (record { rows = record { store = made.0; indexed = database_indexed _ old new was.store.schema_is row was.indexed }; ends = λ ends. subst AllEndAtLast (sym made.1) (all_insert EndsAtLast (contents_in old.trees) name new_database ends (ends_empty closed_security)) }, made.1)

    module _ (number : ℤ) (has : HasNumber last name number) where
      there : HasNumber old.trees name number
      there = subst (λ trees. HasNumber trees name number) (sym same) has

      pub secures : (v : Value) (text : List ℕ) → IsTrue (is_security v) → IsLawful v → text ≡ canonical v → Changes dbs_tree (rows_with_security number text (old.trees dbs_tree)) old new
          → Follows old new × IsSecured v old
      secures v text security lawful spelled change =
          let row = subst (λ k. Changes dbs_tree (rows_with_security k (canonical v) (old.trees dbs_tree)) old new) (sym there.numbered)
          (subst (λ t. Changes dbs_tree (rows_with_security number t (old.trees dbs_tree)) old new) spelled change) in
          let made = secured_store old new name there.row v was.store there.first security lawful row in
          (record { rows = record { store = made.0; indexed = database_indexed _ old new was.store.schema_is row was.indexed }; ends = changed (λ db. with_security db v) (λ db. ends_secured db v) made.1 }, made.1)

      pub clears : Removes number old new → Follows old new × IsRemoved old
      clears change =
          let c = subst (λ n. Clears n old change.cleared) (sym there.numbered) change.clears in
          let made = removed_store old c.undocumented c.unwritten c.bare change.cleared name there.row was.store there.first c.documents c.revisions c.locals c.row in
          let same = same_tables change.cleared new made.0.schema_is change.only in
          let removed = contents_same change.cleared.trees new.trees same ∙ made.1 in
          (record { rows = record { store = store_still change.cleared new made.0 change.only; indexed = change.indexed }; ends = λ ends. subst AllEndAtLast (sym removed) (all_remove EndsAtLast (contents_in old.trees) name ends) }, removed)

      pub puts : (id given text : List ℕ) (document : LocalDocument) → IsTrue (is_document_id id) → IsLocalDocument id document → IsLawful document.body → given ≡ id → text ≡ canonical document.body
          → Replaces number given document.number text old new → Follows old new × HasLocal id document old
      puts id given text document named local lawful same_id spelled change =
          let c = subst (λ k. Replaces k id document.number (canonical document.body) old new) (sym there.numbered)
          (subst (λ x. Replaces number x document.number (canonical document.body) old new) same_id (subst (λ x. Replaces number given document.number x old new) spelled change)) in
          let made = written_store old c.mid new name there.row id document was.store there.first named local lawful c.out c.put in
          (record { rows = record { store = made.0; indexed = replaced_indexed _ _ _ _ old new was.store.schema_is c was.indexed }; ends = changed (λ db. with_local db id document) (λ db. ends_local db id document) made.1 }, made.1)

    pub appends : {X : Type 0} (all : List Addition) (number : ℤ) (sequence : ℕ) → AreDue all name number sequence last
        → ((due : AreDue all name number sequence old.trees) → HasWritten (writings_in (database_of_row old.trees due.row) all) name due.row old new × IsIndexed new.trees × X) → Follows old new × IsWritten all old
    appends all number sequence due writes =
        let here = subst (AreDue all name number sequence) (sym same) due in
        let w = (writes here).0 in
        let written = ap (option_map (λ db. insert (contents_in old.trees) name (with_all db (writings_in db all)))) (database_there old.trees was.store.laid name here.row here.first) ∙ ap Some (sym w.contents) in
        (record { rows = record { store = w.store; indexed = (writes here).1 }; ends = changed (λ db. with_all db (writings_in db all)) (λ db. ends_by_all (writings_in db all) db) written }, written)

    -- ---- what is known of the others

    module _ (ks : List KnownDatabase) (apart : AllByRecursion (λ k. k.name ≢ name) ks) (known : AreKnown last ks) where
      keep : IsIndexedStore new → ((other : List ℕ) → other ≢ name → filter (is_named other) (new.trees dbs_tree) ≡ filter (is_named other) (old.trees dbs_tree))
          → ((other : List ℕ) → other ≢ name → get (contents_in new.trees) other ≡ get (contents_in old.trees) other) → AreKnown new.trees ks
      keep made rows contents = others_known old.trees new.trees was.store.laid made.store.laid name ks apart rows contents (subst (λ trees. AreKnown trees ks) (sym same) known)

      -- the rows of other names, where the database has a row of its number before and after
      kept_rows : (number : ℤ) (d e : Row) → IsIndexedStore new → slice_get (filter (is_named name) (old.trees dbs_tree)) 0 ≡ Some d → slice_get (filter (is_named name) (new.trees dbs_tree)) 0 ≡ Some e
          → number_of d ≡ number → number_of e ≡ number → KeepsOthers number old new → (other : List ℕ) → other ≢ name → filter (is_named other) (new.trees dbs_tree) ≡ filter (is_named other) (old.trees dbs_tree)
      kept_rows number d e made found there first second kept other out =
          other_rows number name other (old.trees dbs_tree) (new.trees dbs_tree) out
          (subst (λ n. AllByRecursion (λ r. is_named name r ≡ has_number n r) (old.trees dbs_tree)) first (by_number old.trees was.store.laid name d found))
          (subst (λ n. AllByRecursion (λ r. is_named name r ≡ has_number n r) (new.trees dbs_tree)) second (by_number new.trees made.store.laid name e there)) kept

      pub adds_beside : (given text : List ℕ) → IsTrue (is_database_name name) → get (contents_in last) name ≡ None → given ≡ name → text ≡ canonical closed_security
          → Changes dbs_tree (with_cells (old.trees dbs_tree) (database_cells given text (pos 0))) old new → AreKnown new.trees ks
      adds_beside given text lawful none named spelled change =
          let made = adds given text lawful none named spelled change in
          keep made.0.rows
          (λ other out.
          ap (filter (is_named other)) change.rows
          ∙ without_last (is_named other) (old.trees dbs_tree) _ (false_from_ne_true (bytes_eq given other) (λ here. out (sym ((bytes_eq-Decides given other).0 here) ∙ named))))
          (λ other out. ap (λ m. get m other) made.1 ∙ inserted_other (contents_in old.trees) name other new_database out)

      module _ (number : ℤ) (has : HasNumber last name number) where
        abbrev own : HasNumber old.trees name number
        own = subst (λ trees. HasNumber trees name number) (sym same) has

        pub secures_beside : (v : Value) (text : List ℕ) → IsTrue (is_security v) → IsLawful v → text ≡ canonical v → Changes dbs_tree (rows_with_security number text (old.trees dbs_tree)) old new → AreKnown new.trees ks
        secures_beside v text security lawful spelled change =
            let made = secures number has v text security lawful spelled change in
            let d = own.row in
            let by = row_with_security text in
            let changed : new.trees dbs_tree ≡ rows_with_security (number_of d) text (old.trees dbs_tree) = change.rows ∙ ap (λ n. rows_with_security n text (old.trees dbs_tree)) (sym own.numbered) in
            let secured = mapped_some (λ db. insert (contents_in old.trees) name (with_security db v)) (get (contents_in old.trees) name) (contents_in new.trees) made.1 in
            keep made.0.rows
            (kept_rows number d (by d) made.0.rows own.first (ap (λ rows. slice_get (filter (is_named name) rows) 0) changed ∙ named_changed old.trees was.store.laid name d own.first by (λ r. refl) (λ r. refl)) own.numbered own.numbered
            (ap (filter (λ r. not (has_number number r))) change.rows ∙ changed_others number by (λ r. refl) (old.trees dbs_tree)))
            (λ other out. ap (λ m. get m other) (sym secured.2) ∙ inserted_other (contents_in old.trees) name other (with_security secured.0 v) out)

        pub clears_beside : Removes number old new → AreKnown new.trees ks
        clears_beside change =
            let made = clears number has change in
            let c = change.clears in
            let d = own.row in
            let has_b = c.documents.schema ∙ was.store.schema_is in
            let has_c = c.revisions.schema ∙ has_b in
            let has_d = c.locals.schema ∙ has_c in
            let bare : c.bare.trees dbs_tree ≡ old.trees dbs_tree =
            (leaves locals_tree _ c.unwritten c.bare has_c c.locals).dbs (omega arith) ∙ (leaves revs_tree _ c.undocumented c.unwritten has_b c.revisions).dbs (omega arith)
            ∙ (leaves docs_tree _ old c.undocumented was.store.schema_is c.documents).dbs (omega arith) in
            let rows : new.trees dbs_tree ≡ filter (λ r. not (has_number number r)) (old.trees dbs_tree) =
            (same_tables change.cleared new (c.row.schema ∙ has_d) change.only).dbs ∙ c.row.rows ∙ ap (filter (λ r. not (has_number number r))) bare in
            let all : AllByRecursion (λ r. is_named name r ≡ has_number number r) (old.trees dbs_tree) =
            subst (λ n. AllByRecursion (λ r. is_named name r ≡ has_number n r) (old.trees dbs_tree)) own.numbered (by_number old.trees was.store.laid name d own.first) in
            keep made.0.rows
            (λ other out.
            other_rows number name other (old.trees dbs_tree) (new.trees dbs_tree) out all
            (subst (AllByRecursion (λ r. is_named name r ≡ has_number number r)) (sym rows) (all-filter (λ r. is_named name r ≡ has_number number r) (λ r. not (has_number number r)) (old.trees dbs_tree) all))
            (ap (filter (λ r. not (has_number number r))) rows ∙ filter-filter (λ r. not (has_number number r)) (λ r. not (has_number number r)) (λ r other. other) (old.trees dbs_tree)))
            (λ other out. ap (λ m. get m other) made.1 ∙ removed_other (contents_in old.trees) name other out)

      pub appends_beside : (all : List Addition) (number : ℤ) (sequence : ℕ) (due : AreDue all name number sequence old.trees)
          → HasWritten (writings_in (database_of_row old.trees due.row) all) name due.row old new × IsIndexed new.trees → KeepsOthers number old new → AreKnown new.trees ks
      appends_beside all number sequence due writes kept =
          let w = writes.0 in
          let made : IsIndexedStore new = record { store = w.store; indexed = writes.1 } in
          keep made (kept_rows number due.row _ made due.first w.row due.numbered due.numbered kept)
          (λ other out. ap (λ m. get m other) w.contents ∙ inserted_other (contents_in old.trees) name other _ out)

    -- what was known of the database is known of it at its new sequence, with its indexes
    pub advances : (all : List Addition) (number : ℤ) (sequence : ℕ) (to : Vec Declaration Global) → AreDue all name number sequence last
        → ((due : AreDue all name number sequence old.trees) → HasWritten (writings_in (database_of_row old.trees due.row) all) name due.row old new × IsIndexed new.trees × AreAllIndexes (map declared to.items) number new.trees)
        → (k : KnownDatabase) → k.name ≡ name → IsKnown last (Some k) → IsKnown new.trees (Some (at_sequence (sequence + length all) to k))
    advances all number sequence to due writes k named known =
        let here = subst (AreDue all name number sequence) (sym same) due in
        let w = (writes here).0 in
        let known_row : Some (found_in here.row) ≡ Some (known_values k) =
        ap (option_map found_in) (sym here.first) ∙ ap₂ (λ (t : Trees) n. option_map found_in (slice_get (filter (is_named n) (t dbs_tree)) 0)) same (sym named) ∙ known.row in
        let values : found_in here.row ≡ known_values k = inside _ _ known_row in
        let count : sequence_of_database here.row + length (writings_in (database_of_row old.trees here.row) all) ≡ sequence + length all = ap₂ ◌+◌ here.counted (length-writings_in (database_of_row old.trees here.row) all) in
        record {
          row = ap (λ n. option_map found_in (slice_get (filter (is_named n) (new.trees dbs_tree)) 0)) named ∙ ap (option_map found_in) w.row ∙ (λ i. Some ((values i).0, (values i).1, count i));
          counts = uncounted new.trees (at_sequence (sequence + length all) to k) refl refl;
          ranked = tt;
          indexes = subst (λ n. AreAllIndexes (map declared to.items) n new.trees) (sym here.numbered ∙ ap (λ (v : FoundValues). v.0) values) (writes here).2;
          index_ranked = tt;
          designed = tt;
        }

-- a local document says nothing of what is known
module _ (old new : Database) (number : ℤ) (id : List ℕ) (revision : ℕ) (body : List ℕ) (is : old.schema ≡ schema) (change : Replaces number id revision body old new) where
  left : (tree : ℕ) → ((a b : Trees) → Leaves locals_tree a b → b tree ≡ a tree) → new.trees tree ≡ old.trees tree
  left tree which =
      which change.mid.trees new.trees (leaves locals_tree _ change.mid new (change.out.schema ∙ is) change.put)
      ∙ which old.trees change.mid.trees (leaves locals_tree _ old change.mid is change.out)

  dbs_left : new.trees dbs_tree ≡ old.trees dbs_tree
  dbs_left = left dbs_tree (λ a b l. l.dbs (omega arith))

  docs_left : new.trees docs_tree ≡ old.trees docs_tree
  docs_left = left docs_tree (λ a b l. l.docs (omega arith))

  revs_left : new.trees revs_tree ≡ old.trees revs_tree
  revs_left = left revs_tree (λ a b l. l.revs (omega arith))

  decls_left : new.trees decls_tree ≡ old.trees decls_tree
  decls_left = left decls_tree (λ a b l. l.decls (omega arith))

  entries_left : new.trees entries_tree ≡ old.trees entries_tree
  entries_left = left entries_tree (λ a b l. l.entries (omega arith))

  pub put_known : (known : Option KnownDatabase) → IsKnown old.trees known → IsKnown new.trees known
  put_known = one_still old.trees new.trees dbs_left docs_left revs_left decls_left entries_left

  pub put_beside : (ks : List KnownDatabase) → AreKnown old.trees ks → AreKnown new.trees ks
  put_beside = all_still old.trees new.trees dbs_left docs_left revs_left decls_left entries_left

-- what is known after it, of what was known before
pub known_after : (trees : Trees) (known : Option KnownDatabase) (name : List ℕ) (sequence : ℕ) (to : Vec Declaration Global) (r : Option KnownDatabase)
    → IfSome r (λ now. (was : KnownDatabase) × (known ≡ Some was) × (was.name ≡ name) × (now ≡ at_sequence sequence to was))
    → ((was : KnownDatabase) → known ≡ Some was → was.name ≡ name → ∥ IsKnown trees (Some (at_sequence sequence to was)) ∥₁) → ∥ IsKnown trees r ∥₁
known_after trees known name sequence to None h so = ∣ tt ∣₁
known_after trees known name sequence to (Some now) h so = subst (λ k. ∥ IsKnown trees (Some k) ∥₁) (sym h.3) (so h.0 h.1 h.2)
