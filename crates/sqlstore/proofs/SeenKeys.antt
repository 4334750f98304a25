-- What the rows of a document say of what queries see of it, and of the key that it has in an index.
use Rattle.std.proofs.Common.{ap₂, cond, false, true}
use Rattle.std.specs.Prelude.{is_some, option_and_then, ◌||◌}
use Rattle.sqlstore.proofs.Common.{Bool, Document, HistoryContent, IsDocumentRow, IsWellFormed, List, None, Option, Row, Some, Trees, ap, db_of, docs_tree, document_of_row, find, history_in_rows, id_of, is_row_of_document, option_map, queried_document, refl, revs_tree, sym, ℕ, ℤ, ◌∙◌, ◌≡◌}
use Rattle.std.specs.FinMap as finite
use Rattle.couch_json.specs.Value.{Value}
use Rattle.index.specs.Meaning.{key_if_seen}
use Rattle.sqlite_keyed.proofs.ListLemmas.{slice_get-filter}
use Rattle.store.proofs.Winnings.{no_winner}
use Rattle.store.specs.Indexes.{shown_by}
use Rattle.store.specs.Pages.{live_rev_by}
use Rattle.tables.proofs.Laid.{stored_winner}
use Rattle.tables.proofs.Lookups.{get_id, unwritten}
use Rattle.tables.proofs.RowMaps.{find_found, mapped_some}
use Rattle.tables.proofs.Tables.{of_these}
use Rattle.tree.specs.DocumentId.{is_design_id}
use Rattle.tree.specs.History.{held_of, winner}
use Rattle.tree.specs.Outline.{marked_revision, marked_winner}
use Rattle.tree.specs.ShownDocument.{document_at_revision}
use Rattle.tree.specs.declared.entry.Held.{Held}
use Rattle.tree.specs.declared.marked_rev.MarkedRev.{MarkedRev}
use Rattle.sqlstore.specs.inner.Keys.{document_key}
use Rattle.sqlstore.specs.inner.Marks.{documents_at}

mapped_twice : {A B C : Type 0} (f : A → B) (g : B → C) (o : Option A) → option_map g (option_map f o) ≡ option_map (λ x. g (f x)) o
mapped_twice f g None = refl
mapped_twice f g (Some x) = refl

-- ---- of a history

module _ (id : List ℕ) (h : HistoryContent) (w : MarkedRev) (is : marked_winner h ≡ Some w) where
  -- what queries see hangs on the winner and its mark
  by_mark : queried_document id h ≡ cond (is_design_id id) None (shown_by id h (cond w.deleted None (Some w.rev)))
  by_mark =
      let r = mapped_some (marked_revision h) (winner h) w is in
      ap (λ o. cond (is_design_id id) None (shown_by id h (live_rev_by h o))) r.1
      ∙ ap (λ (m : MarkedRev). cond (is_design_id id) None (shown_by id h (cond m.deleted None (Some m.rev)))) r.2

  -- nothing of one that is deleted, or a design document
  queried_gone : (w.deleted || is_design_id id) ≡ true → queried_document id h ≡ None
  queried_gone unseen = by_mark ∙ by w.deleted (is_design_id id) unseen
    where
      by : (a b : Bool) → (a || b) ≡ true → cond b None (shown_by id h (cond a None (Some w.rev))) ≡ None
      by true true ok = refl
      by true false ok = refl
      by false true ok = refl
      by false false ok = absurd (cc)

  -- any other as it is shown
  queried_shown : (v : Value) → (w.deleted || is_design_id id) ≡ false → held_of h w.rev ≡ Some (record { deleted = false; body = v })
      → queried_document id h ≡ Some (document_at_revision id w.rev (record { deleted = false; body = v }))
  queried_shown v seen held = by_mark ∙ by w.deleted (is_design_id id) seen ∙ ap (option_map (λ (d : Held). document_at_revision id w.rev d)) held
    where
      by : (a b : Bool) → (a || b) ≡ false → cond b None (shown_by id h (cond a None (Some w.rev))) ≡ shown_by id h (Some w.rev)
      by false false ok = refl
      by true b ok = absurd (cc)
      by false true ok = absurd (cc)

-- ---- of rows

module _ (trees : Trees) (db : ℤ) (id : List ℕ) (l : IsWellFormed trees) where
  abbrev own : HistoryContent
  own = history_in_rows (trees revs_tree) db id

  abbrev document : Option Document
  document = finite.get (documents_at trees db) id

  -- a document is there where its rows have a winner, with the history that they make
  history_found : option_map (λ (w : MarkedRev). own) (marked_winner own) ≡ option_map (λ (d : Document). d.history) document
  history_found =
      by (find (is_row_of_document db id) (trees docs_tree)) refl
      ∙ sym (ap (option_map (λ (d : Document). d.history)) (get_id db id (document_of_row (trees revs_tree)) (trees docs_tree) ∙ ap (option_map (document_of_row (trees revs_tree))) (slice_get-filter (is_row_of_document db id) (trees docs_tree))))
    where
      by : (o : Option Row) → find (is_row_of_document db id) (trees docs_tree) ≡ o → option_map (λ (w : MarkedRev). own) (marked_winner own) ≡ option_map (λ (d : Document). d.history) (option_map (document_of_row (trees revs_tree)) o)
      by None none =
          ap (λ h. option_map (λ (w : MarkedRev). own) (marked_winner h)) (unwritten trees db id l none)
          ∙ ap (λ o. option_map (λ (w : MarkedRev). own) (option_map (marked_revision finite.empty) o)) no_winner
      by (Some r) is =
          let found = find_found (IsDocumentRow trees) (is_row_of_document db id) (trees docs_tree) r l.docs is in
          let these = of_these db id r found.1 in
          let won = stored_winner trees l.revs r found.0 in
          let H = history_in_rows (trees revs_tree) (db_of r) (id_of r) in
          ap₂ (λ (n : ℤ) (i : List ℕ). option_map (λ (w : MarkedRev). history_in_rows (trees revs_tree) n i) (marked_winner (history_in_rows (trees revs_tree) n i))) (sym these.0) (sym these.1)
          ∙ ap (λ o. option_map (λ (w : MarkedRev). H) (option_map (marked_revision H) o)) won.1

  abbrev seen : Option (Option Value)
  seen = option_map (λ (d : Document). queried_document id d.history) document

  seen_by : (o : Option MarkedRev) → marked_winner own ≡ o → option_map (λ (w : MarkedRev). queried_document id own) o ≡ seen
  seen_by o is =
      ap (option_map (λ (w : MarkedRev). queried_document id own)) (sym is)
      ∙ sym (mapped_twice (λ (w : MarkedRev). own) (queried_document id) (marked_winner own))
      ∙ ap (option_map (queried_document id)) history_found
      ∙ mapped_twice (λ (d : Document). d.history) (queried_document id) document

  pub seen_none : marked_winner own ≡ None → None ≡ seen
  seen_none is = seen_by None is

  pub seen_gone : (w : MarkedRev) → marked_winner own ≡ Some w → (w.deleted || is_design_id id) ≡ true → Some None ≡ seen
  seen_gone w is unseen = ap Some (sym (queried_gone id own w is unseen)) ∙ seen_by (Some w) is

  pub seen_shown : (w : MarkedRev) (v : Value) → marked_winner own ≡ Some w → (w.deleted || is_design_id id) ≡ false → held_of own w.rev ≡ Some (record { deleted = false; body = v })
      → Some (Some (document_at_revision id w.rev (record { deleted = false; body = v }))) ≡ seen
  seen_shown w v is not_so held = ap Some (sym (queried_shown id own w is v not_so held)) ∙ seen_by (Some w) is

-- ---- keys

module _ (id : List ℕ) (seen : Option (Option Value)) (o : Option Document) (is : seen ≡ option_map (λ (d : Document). queried_document id d.history) o) where
  -- the key that was made of what is seen is that of the document
  pub key_made : (fields : List (List ℕ)) → option_and_then (key_if_seen fields) seen ≡ document_key fields id o
  key_made fields = ap (option_and_then (key_if_seen fields)) is ∙ by o
    where
      by : (o : Option Document) → option_and_then (key_if_seen fields) (option_map (λ (d : Document). queried_document id d.history) o) ≡ document_key fields id o
      by None = refl
      by (Some d) = refl

  -- the document is there where what is seen is that of one that was written
  pub seen_there : is_some seen ≡ true → is_some o ≡ true
  seen_there there = by o (sym (ap is_some is) ∙ there)
    where
      by : (o : Option Document) → is_some (option_map (λ (d : Document). queried_document id d.history) o) ≡ true → is_some o ≡ true
      by None there = there
      by (Some d) there = refl
