-- The entries of a declaration are those of the rows of its index.
use Rattle.index.proofs.Common.{AllByRecursion, Bool, IsIndexed, List, None, Option, Row, Some, Trees, [], all-filter, all_both, ap, arith, cond, declaration_at, decls_tree, entries_tree, false, fields_of, filter, find, find_found, find_passes, has_entry, is_declaration_of, is_due_by, is_key, key_if_seen, map, number_of, option_map, refl, sees_in, subst, sym, true, ℕ, ℤ, ◌∙◌, ◌∷◌, ◌≡◌}
use Rattle.std.specs.FinMap as finite
use Rattle.std.specs.Prelude.{Contains, IsTrue, IsUtf8, if◌then◌else◌, option_and_then}
use Rattle.std.specs.Ordering.{eq_by_cmp}
use Rattle.couch_json.specs.Key.{key}
use Rattle.couch_json.specs.Value.{Items, Value, array, depth}
use Rattle.store.proofs.Among.{contained, in_contained}
use Rattle.store.proofs.IndexRows.{place_from, place_there, rows_ascend}
use Rattle.store.proofs.Listings.{In}
use Rattle.store.proofs.Winnings.{no_winner}
use Rattle.store.specs.Database as store
use Rattle.store.specs.Database.{Database, Document, history_at}
use Rattle.store.specs.Indexes.{IndexPlace, IsPlaceOf, field_values, index_rows, queried_document, shown_by}
use Rattle.store.specs.Pages.{live_rev, live_rev_by}
use Rattle.couch_json.specs.Lawful.{IsLawful}
use Rattle.tables.proofs.Common.{HistoryContent, Revision, inside}
use Rattle.tables.proofs.RowMaps.{passing}
use Rattle.tables.proofs.Tables.{of_these}
use Rattle.tree.proofs.Kept.{revision_cmp_total}
use Rattle.tree.proofs.Revisions.{same}
use Rattle.tables.proofs.Lookups.{document_found}
use Rattle.tables.specs.Layout.{IsDocumentRow, IsWellFormed, IsRevisionRow}
use Rattle.tables.specs.Rows.{database_of_row, db_of, entry_of, history_in_rows, id_of, is_row_of_document, revision_of_row}
use Rattle.tables.specs.Schema.{docs_tree, revs_tree}
use Rattle.tree.specs.DocumentId.{is_design_id, is_document_id}
use Rattle.tree.specs.History.{held_of}
use Rattle.tree.specs.Revision.{is_revision, revision_cmp}
use Rattle.tree.specs.ShownDocument.{document_at_revision}
use Rattle.tree.specs.declared.entry.Entry.{Entry}
use Rattle.tree.specs.declared.entry.Held.{Held}
use Rattle.index.proofs.Alike.{key_is}
use Rattle.index.proofs.DeclarationStatements.{of_index}
use Rattle.index.proofs.EntryChanges.{same_bytes}
use Rattle.index.proofs.Following.{found_each}
use Rattle.index.proofs.LawfulParts.{IsSound, shown_sound, values_sound}
use Rattle.index.proofs.Spots.{any_in, at_in, each_in}
use Rattle.index.specs.Places.{AreEntriesAt, IsReadable, spot_of}

-- ---- what is held of a revision stands in a row

module _ (Q : Row → Type 0) where
  found_row : (rows : List Row) (q : Revision) (e : Entry) → AllByRecursion Q rows → finite.find revision_cmp q (map (λ r. (revision_of_row r, entry_of r)) rows) ≡ Some e
      → (r : Row) × Q r × (revision_of_row r ≡ q) × (entry_of r ≡ e)
  found_row [] q e all is = absurd (cc)
  found_row (r ∷ rows) q e all is = go (eq_by_cmp revision_cmp q (revision_of_row r)) refl (found_row rows q e all.1) is
    where
      go : (b : Bool) → eq_by_cmp revision_cmp q (revision_of_row r) ≡ b
          → (finite.find revision_cmp q (map (λ s. (revision_of_row s, entry_of s)) rows) ≡ Some e → (s : Row) × Q s × (revision_of_row s ≡ q) × (entry_of s ≡ e))
          → cond b (Some (entry_of r)) (finite.find revision_cmp q (map (λ s. (revision_of_row s, entry_of s)) rows)) ≡ Some e → (s : Row) × Q s × (revision_of_row s ≡ q) × (entry_of s ≡ e)
      go true tied rest more = (r, all.0, sym (same q (revision_of_row r) tied), inside (entry_of r) e more)
      go false tied rest more = rest more

-- what queries see of a document of laid tables
pub record IsSeenWell (id : List ℕ) (v : Value) : Type 0 where
  pub sound : IsSound 101 v
  pub named : IsTrue (is_document_id id)
  pub text : IsUtf8 id

module _ (trees : Trees) (laid : IsWellFormed trees) (db : ℤ) (id : List ℕ) where
  abbrev own : HistoryContent
  own = history_in_rows (trees revs_tree) db id

  abbrev IsOwn : Row → Type 0
  IsOwn r = IsRevisionRow trees r × (is_row_of_document db id r ≡ true)

  held_well : (q : Revision) (held : Held) (v : Value) → held_of own q ≡ Some held → document_at_revision id q held ≡ v → IsSeenWell id v
  held_well q held v is shows = at_entry (finite.get own q) refl is
    where
      at_entry : (o : Option Entry) → finite.get own q ≡ o → option_and_then (λ (e : Entry). e.held) o ≡ Some held → IsSeenWell id v
      at_entry None none k = absurd (cc)
      at_entry (Some e) there k =
          let rows = filter (is_row_of_document db id) (trees revs_tree) in
          let each = all_both (IsRevisionRow trees) (λ r. is_row_of_document db id r ≡ true) IsOwn (λ r a b. (a, b)) rows (all-filter (IsRevisionRow trees) (is_row_of_document db id) (trees revs_tree) laid.revs) (passing (is_row_of_document db id) (trees revs_tree)) in
          let got = sym (finite.get-from_entries revision_cmp_total (map (λ r. (revision_of_row r, entry_of r)) rows) q) ∙ there in
          let f = found_row IsOwn rows q e each got in
          let r = f.0 in
          let row = f.1.0 in
          let keys = of_these db id r f.1.1 in
          let holds : (entry_of r).held ≡ Some held = ap (λ (x : Entry). x.held) f.3 ∙ k in
          let d = any_in (is_row_of_document (db_of r) (id_of r)) (trees docs_tree) row.there in
          let doc = at_in (IsDocumentRow trees) (trees docs_tree) d.0 laid.docs d.1 in
          let same_id : id_of d.0 ≡ id = (of_these (db_of r) (id_of r) d.0 d.2).1 ∙ keys.1 in
          let text = subst IsUtf8 same_id doc.text in
          let known : is_revision q ≡ true = ap is_revision (sym f.2) ∙ row.lawful in
          record {
            sound = subst (IsSound 101) shows (shown_sound id q held 100 text known (row.spelled held holds) (row.body held holds).shallow);
            named = ap is_document_id (sym same_id) ∙ doc.named;
            text = text;
          }

  shown_well : (o : Option Revision) (v : Value) → shown_by id own o ≡ Some v → IsSeenWell id v
  shown_well None v is = absurd (cc)
  shown_well (Some q) v is = go (held_of own q) refl is
    where
      go : (o : Option Held) → held_of own q ≡ o → option_map (λ held. document_at_revision id q held) o ≡ Some v → IsSeenWell id v
      go None none k = absurd (cc)
      go (Some held) there k = held_well q held v there (inside (document_at_revision id q held) v k)

  pub seen_well : (v : Value) → sees_in trees db id ≡ Some v → IsSeenWell id v
  seen_well v is = go (is_design_id id) is
    where
      go : (b : Bool) → (if b then None else shown_by id own (live_rev own)) ≡ Some v → IsSeenWell id v
      go true k = absurd (cc)
      go false k = shown_well (live_rev own) v k

-- ---- places and entries

keyed : (o : Option Items) (k : Value) → option_map array o ≡ Some k → option_map (λ vs. key (array vs)) o ≡ Some (key k)
keyed None k is = absurd (cc)
keyed (Some vs) k is = ap (λ v. Some (key v)) (inside (array vs) k is)

empty_seen : (id : List ℕ) → queried_document id finite.empty ≡ None
empty_seen id = ap (λ w. if is_design_id id then None else shown_by id finite.empty (live_rev_by finite.empty w)) no_winner ∙ neither (is_design_id id)
  where
    neither : (b : Bool) → if◌then◌else◌ {A = Option Value} b None None ≡ None
    neither true = refl
    neither false = refl

module _ (trees : Trees) (laid : IsWellFormed trees) (is : IsIndexed trees) (r d : Row) (design name : List ℕ) (found : find (is_declaration_of (number_of r) design name) (trees decls_tree) ≡ Some d) where
  abbrev n : ℤ
  n = number_of r

  abbrev content : Database
  content = database_of_row trees r

  abbrev fields : List (List ℕ)
  fields = fields_of d

  abbrev places : List IndexPlace
  places = index_rows fields content

  due : (k id : List ℕ) → has_entry (trees entries_tree) (number_of d) k id ≡ is_key (key_if_seen fields (sees_in trees n id)) k
  due k id =
      let number = find_found (λ x. declaration_at (trees decls_tree) (number_of x) ≡ Some x) (is_declaration_of n design name) (trees decls_tree) d (found_each (trees decls_tree) is.decls.rising) found in
      let home = (of_index n design name d (find_passes (is_declaration_of n design name) (trees decls_tree) d found)).0 in
      is.entries.exact (number_of d) k id ∙ ap (λ o. is_due_by (sees_in trees) o k id) number.0 ∙ ap (λ m. is_key (key_if_seen fields (sees_in trees m id)) k) home

  seen : (id : List ℕ) → sees_in trees n id ≡ queried_document id (history_at content id)
  seen id = ap (queried_document id) (sym (document_found trees r id laid))

  seen_place : (p : IndexPlace) → (o : IsPlaceOf fields content p) → sees_in trees n p.id ≡ Some o.shown
  seen_place p o = seen p.id ∙ ap (λ x. queried_document p.id (store.history_in x)) o.there ∙ o.looked_at

  there : (p : IndexPlace) → Contains places p → has_entry (trees entries_tree) (number_of d) (key p.key) p.id ≡ true
  there p i =
      let o = place_from fields content p (in_contained places p i) in
      due (key p.key) p.id ∙ ap (λ s. is_key (key_if_seen fields s) (key p.key)) (seen_place p o) ∙ ap (λ k. is_key k (key p.key)) (keyed (field_values fields o.shown) p.key o.values) ∙ same_bytes (key p.key) (key p.key) refl

  at_values : (k id : List ℕ) (shown : Value) (o : Option Items) → sees_in trees n id ≡ Some shown → field_values fields shown ≡ o → option_map (λ vs. key (array vs)) o ≡ Some k → (p : IndexPlace) × Contains places p × (spot_of p ≡ (k, id))
  at_values k id shown None s v e = absurd (cc)
  at_values k id shown (Some vs) s v e = go (finite.get content.documents id) refl
    where
      go : (o : Option Document) → finite.get content.documents id ≡ o → (q : IndexPlace) × Contains places q × (spot_of q ≡ (k, id))
      go None none = absurd (let never : Some shown ≡ None = sym s ∙ seen id ∙ ap (λ x. queried_document id (store.history_in x)) none ∙ empty_seen id in cc)
      go (Some document) has =
          let looked = ap (λ x. queried_document id (store.history_in x)) (sym has) ∙ sym (seen id) ∙ s in
          let o : IsPlaceOf fields content (record { key = array vs; id = id }) = record { document = document; there = has; shown = shown; looked_at = looked; values = ap (option_map array) v } in
          (record { key = array vs; id = id }, contained places _ (place_there fields content _ o), ap (λ x. (x, id)) (inside (key (array vs)) k e))

  only : (k id : List ℕ) → has_entry (trees entries_tree) (number_of d) k id ≡ true → (p : IndexPlace) × Contains places p × (spot_of p ≡ (k, id))
  only k id e = go (sees_in trees n id) refl (key_is (key_if_seen fields (sees_in trees n id)) k (sym (due k id) ∙ e))
    where
      go : (o : Option Value) → sees_in trees n id ≡ o → key_if_seen fields o ≡ Some k → (p : IndexPlace) × Contains places p × (spot_of p ≡ (k, id))
      go None none has = absurd (cc)
      go (Some shown) some has = at_values k id shown (field_values fields shown) some refl has

  readable : (p : IndexPlace) → In places p → IsReadable p
  readable p i =
      let o = place_from fields content p i in
      let well = seen_well trees laid n p.id o.shown (seen_place p o) in
      at_items (field_values fields o.shown) refl o.values well
    where
      at_items : {v : Value} (x : Option Items) → field_values fields v ≡ x → option_map array x ≡ Some p.key → IsSeenWell p.id v → IsReadable p
      at_items None none e well = absurd (cc)
      at_items {v} (Some vs) has e well =
          let sound = values_sound 101 fields v vs well.sound has in
          let same = inside (array vs) p.key e in
          record { lawful = subst IsLawful same sound.0; shallow = omega (arith, ap depth same, sound.1); named = well.named; text = well.text }

  pub entries_at : AreEntriesAt (number_of d) (index_rows (fields_of d) (database_of_row trees r)) (trees entries_tree)
  entries_at = record {
    laid = is.entries.laid;
    ascending = rows_ascend fields content;
    readable = each_in IsReadable places readable;
    there = there;
    only = only;
  }
