-- One write of a document: the tables are laid out after it, and hold the database with the write.
use Rattle.tables.proofs.Common.{AllByRecursion, AreLawful, Bool, DocumentWrite, Entry, HistoryContent, IsAscending, IsDatabaseNumber, IsDatabaseRow, IsDocumentRow, IsWellFormed, IsLocalRow, IsRevisionRow, IsStore, IsWritable, IsWrite, List, None, Revision, Row, Some, StandsIn, Trees, all-filter, all_of, all_weaker, and_left, ap, ap₂, arith, ascending-filter, bytes_eq, cases_Bool, contents_in, counts_down, database_row_at, database_of_row, database_row, db_of, dbs_tree, docs_tree, document_of_row, document_row, documents_in_rows, entry_kept, entry_of, false, filter, has_number, held_of_write, held_of, history_after, history_before, history_in_rows, id_of, inl, inr, inside, int_eq, is_deleted, is_row_of_database, is_known, is_named, is_row_of_document, is_some, lawful_by_one, lawful_insert, sequence_of_database, locals_in, locals_tree, name_of, nat_list_cmp_total, new_entries, not, number_of, option_map, placement, pos, refl, revision_row, revs_tree, right_some, row_at_sequence, same_int, security_of, security_text, sequence_of_row, slice_get, stands_found, subst, sym, text_of, true, whole_counts, winner, with_one, with_write, write_entries, write_shows, ℕ, ℤ, ∥∥₁_map, ◌+◌, ◌<◌, ◌↔◌, ◌∙◌, ◌≡◌, ◌≢◌}
use Rattle.std.specs.FinMap as finite
use Rattle.tree.proofs.Continued.{added_is}
use Rattle.sqlite.specs.Effect as sqlite
use Rattle.tables.proofs.Changed.{all_changed, contents_changed, longer, named_changed, names_changed, number_stays, numbered_changed, own_changed}
use Rattle.tables.proofs.DocumentWriteDocuments.{all_placed, apart_of, ids_stay_apart, numbered_placed, other_values, own_row, own_values, row_stays, sequences_stay_apart}
use Rattle.tables.proofs.DocumentWriteEntries.{IsKept, IsPathEntry, path_entries_are, entries_apart, entry_again, flag_again}
use Rattle.tables.proofs.DocumentWriteHistories.{IsOther, AreApart, all-with_revisions, history_own, history_others, with_new_entries, unknown_apart, revisions_stay_apart}
use Rattle.tables.proofs.DocumentWriteSteps.{after_write, written, revisions_changed, keyed-with_revisions}
use Rattle.tables.proofs.Rests.{AreSame, contents_same, store_of}
use Rattle.tables.proofs.RowMaps.{all_left, all_passing, rows_alike, text_exact, text_tests}
use Rattle.tables.proofs.Lookups.{at_number, database_there, document_found, number_there}
use Rattle.tables.proofs.Tables.{of_these, revs_keyed}
use Rattle.tables.proofs.Numbered.{numbered_from_keyed}

module _ (a e : sqlite.Database) (name : List ℕ) (r : Row) (w : DocumentWrite) (is : IsStore a) (ok : IsWritable a.trees name r w) (h : IsWrite r w a e) where
  abbrev t : Trees
  t = a.trees

  -- the tables after the write
  abbrev u : Trees
  u = after_write a.trees r w h.best

  abbrev db : ℤ
  db = number_of r

  abbrev sequence : ℕ
  sequence = sequence_of_database r + 1

  abbrev advanced : Row → Row
  advanced = row_at_sequence (pos sequence)

  abbrev gone : Bool
  gone = is_deleted (held_of (history_after t r w) h.best)

  abbrev before : HistoryContent
  before = history_before t r w

  abbrev entries : List (Revision × Entry)
  entries = new_entries before w.write

  -- ---- the histories

  counts : counts_down w.write.path ≡ true
  counts = whole_counts w.write.path (added_is before w.write.path (ap (λ (k : HistoryContent). placement k w.write.path) (sym (document_found t r w.id is.laid)) ∙ ok.acceptable.placed)).whole

  kept : IsKept (held_of_write w.write)
  kept = record { body = record { object = ok.acceptable.body; shallow = ok.acceptable.shallow; plain = ok.acceptable.plain }; lawful = ok.storable.body }

  entries_are : AllByRecursion (IsPathEntry w.write.path) entries
  entries_are =
      all-filter (IsPathEntry w.write.path) (λ x. not (is_known before x.0)) (write_entries w.write)
      (path_entries_are w.write.path w.write.path (Some (held_of_write w.write)) (λ p stands. stands) counts ok.storable.revisions (λ held up. subst IsKept (inside (held_of_write w.write) held up) kept))

  own_history : history_in_rows (u revs_tree) db w.id ≡ history_after t r w
  own_history =
      history_own entries (t revs_tree) db w.id (all_weaker (IsPathEntry w.write.path) (λ x. (k : ℤ) → entry_of (revision_row k db w.id x.0 x.1) ≡ x.1) (λ x own k. entry_again w.write.path x k db w.id own) entries entries_are)
      ∙ with_new_entries before (write_entries w.write)

  other_history : (x : Row) → is_row_of_document db w.id x ≡ false → history_in_rows (u revs_tree) (db_of x) (id_of x) ≡ history_in_rows (t revs_tree) (db_of x) (id_of x)
  other_history x out = history_others entries (t revs_tree) db w.id (db_of x) (id_of x) (apart_of db w.id x out)

  -- what is known of a row's document stays known
  known_still : (x : Row) (p : Revision) → is_known (history_in_rows (t revs_tree) (db_of x) (id_of x)) p ≡ true → is_known (history_in_rows (u revs_tree) (db_of x) (id_of x)) p ≡ true
  known_still x p known = elim (cases_Bool (is_row_of_document db w.id x)) [
    | inl here ↦
        let own = of_these db w.id x here in
        let was : is_known before p ≡ true = sym (ap₂ (λ (m : ℤ) (k : List ℕ). is_known (history_in_rows (t revs_tree) m k) p) own.0 own.1) ∙ known in
        ap₂ (λ (m : ℤ) (k : List ℕ). is_known (history_in_rows (u revs_tree) m k) p) own.0 own.1
        ∙ ap (λ (k : HistoryContent). is_known k p) own_history ∙ ap is_some (entry_kept before w.write p was) ∙ was
    | inr out ↦ ap (λ (k : HistoryContent). is_known k p) (other_history x out) ∙ known
  ]

  path_known : (p : Revision) → StandsIn w.write.path p → is_known (history_in_rows (u revs_tree) db w.id) p ≡ true
  path_known p stands =
      ap (λ (k : HistoryContent). is_known k p) own_history ∙ ap is_some (write_shows before w.write p)
      ∙ right_some (finite.get before p) _ (stands_found w.write.path (Some (held_of_write w.write)) p stands)

  -- ---- the rows of documents

  number_still : (m : ℤ) → IsDatabaseNumber t m → IsDatabaseNumber u m
  number_still m there = number_stays db advanced (λ x. refl) (λ x. refl) (t dbs_tree) m ∙ there

  old_document : (x : Row) → IsDocumentRow t x → is_row_of_document db w.id x ≡ false → IsDocumentRow u x
  old_document x k out = record {
    is = k.is;
    there = number_still (db_of x) k.there;
    named = k.named;
    apart = k.apart;
    text = k.text;
    positive = k.positive;
    within = λ d now.
        let was = longer t is.laid name r ok.found advanced (λ x. refl) (λ x. refl) (omega arith) (db_of x) d now in
        let low = k.within was.0 was.1 in
        omega (arith, low, was.2);
    won = ap (λ (k : HistoryContent). option_map text_of (winner k)) (other_history x out) ∙ k.won;
    gone = λ v up. k.gone v (sym (ap winner (other_history x out)) ∙ up) ∙ ap (λ (k : HistoryContent). is_deleted (held_of k v)) (sym (other_history x out));
  }

  new_document : (k : ℤ) → IsDocumentRow u (document_row k db w.id (pos sequence) (text_of h.best) gone)
  new_document k = record {
    is = ap (λ b. document_row k db w.id (pos sequence) (text_of h.best) b) (sym (flag_again gone));
    there = number_still db (number_there t is.laid name r ok.found);
    named = ok.storable.named;
    apart = ok.acceptable.apart;
    text = ok.storable.text;
    positive = omega arith;
    within = λ d now. let same = ap sequence_of_database (own_changed t is.laid name r ok.found advanced (λ x. refl) (λ x. refl) d now) in omega (arith, same);
    won = ap (λ (k : HistoryContent). option_map text_of (winner k)) own_history ∙ ap (option_map text_of) h.best_is;
    gone = λ v up.
        flag_again gone ∙ ap (λ (x : Revision). is_deleted (held_of (history_after t r w) x)) (inside h.best v (sym h.best_is ∙ sym (ap winner own_history) ∙ up))
        ∙ ap (λ (k : HistoryContent). is_deleted (held_of k v)) (sym own_history);
  }

  documents : AllByRecursion (IsDocumentRow u) (u docs_tree)
  documents =
      all_placed (t docs_tree) db w.id sequence (text_of h.best) gone (IsDocumentRow u) (all_weaker (IsDocumentRow t) (λ x. is_row_of_document db w.id x ≡ false → IsDocumentRow u x) old_document (t docs_tree) is.laid.docs) new_document

  below : AllByRecursion (λ x. db_of x ≡ db → sequence_of_row x < sequence) (t docs_tree)
  below = all_weaker (IsDocumentRow t) (λ x. db_of x ≡ db → sequence_of_row x < sequence) (λ x k here. let low = k.within r (ap (database_row_at (t dbs_tree)) here ∙ at_number t is.laid name r ok.found) in omega (arith, low)) (t docs_tree) is.laid.docs

  -- ---- the rows of revisions

  old_revision : (x : Row) → IsRevisionRow t x → IsRevisionRow u x
  old_revision x k = record {
    is = k.is;
    there = row_stays (t docs_tree) db w.id sequence (text_of h.best) gone (db_of x) (id_of x) k.there;
    lawful = k.lawful;
    first = k.first;
    follows = λ p up. known_still x p (k.follows p up);
    body = k.body;
    spelled = k.spelled;
  }

  new_revision : (x : Revision × Entry) → IsPathEntry w.write.path x → (k : ℤ) → IsRevisionRow u (revision_row k db w.id x.0 x.1)
  new_revision x own k =
      let again = entry_again w.write.path x k db w.id own in
      record {
        is = ap (revision_row k db w.id x.0) (sym again);
        there = own_row (t docs_tree) db w.id sequence (text_of h.best) gone;
        lawful = own.lawful;
        first = subst (λ (y : Entry). (y.parent ≡ None) ↔ (x.0.number ≡ 1)) (sym again) own.first;
        follows = λ p up. path_known p (own.follows p (sym (ap (λ (y : Entry). y.parent) again) ∙ up));
        body = λ held up. (own.kept held (sym (ap (λ (y : Entry). y.held) again) ∙ up)).body;
        spelled = λ held up. (own.kept held (sym (ap (λ (y : Entry). y.held) again) ∙ up)).lawful;
      }

  revisions : AllByRecursion (IsRevisionRow u) (u revs_tree)
  revisions =
      all-with_revisions (IsRevisionRow u) entries (t revs_tree) db w.id (all_weaker (IsPathEntry w.write.path) (λ x. (k : ℤ) → IsRevisionRow u (revision_row k db w.id x.0 x.1)) new_revision entries entries_are)
      (all_weaker (IsRevisionRow t) (IsRevisionRow u) old_revision (t revs_tree) is.laid.revs)

  revisions_apart : IsAscending AreApart (u revs_tree)
  revisions_apart =
      revisions_stay_apart entries (t revs_tree) db w.id is.laid.revisions_apart
      (all_left (λ (x : Revision × Entry). AllByRecursion (IsOther db w.id x.0) (t revs_tree)) (λ x. is_known before x.0) (write_entries w.write)
      (all_of (λ (x : Revision × Entry). is_known before x.0 ≡ false → AllByRecursion (IsOther db w.id x.0) (t revs_tree)) (λ x out. unknown_apart (t revs_tree) db w.id x.0 out) (write_entries w.write)))
      (ascending-filter (λ (x y : Revision × Entry). x.0 ≢ y.0) (λ x. not (is_known before x.0)) (write_entries w.write) (entries_apart w.write.path (Some (held_of_write w.write)) counts))

  -- ---- local documents

  local_still : (x : Row) → IsLocalRow t x → IsLocalRow u x
  local_still x k = record { is = k.is; there = number_still (db_of x) k.there; named = k.named; local = k.local }

  -- ---- the databases

  same_document : (x : Row) → is_row_of_document db w.id x ≡ false → document_of_row (u revs_tree) x ≡ document_of_row (t revs_tree) x
  same_document x out = ap (λ k. record { sequence = sequence_of_row x; history = k }) (other_history x out)

  own_database : database_of_row u (advanced r) ≡ with_one (database_of_row t r) w
  own_database =
      ap (λ d. record (database_of_row u (advanced r)) { documents = d })
      (own_values (t docs_tree) db w.id sequence (text_of h.best) gone (document_of_row (u revs_tree)) (document_of_row (t revs_tree)) (record { sequence = sequence; history = history_in_rows (u revs_tree) db w.id }) (λ k. refl) same_document
      ∙ ap (λ (k : HistoryContent). finite.insert (documents_in_rows (t docs_tree) (t revs_tree) db) w.id (record { sequence = sequence; history = k }))
      (own_history ∙ ap (λ (k : HistoryContent). with_write k w.write) (sym (document_found t r w.id is.laid))))

  other_database : (x : Row) → has_number db x ≡ false → database_of_row u x ≡ database_of_row t x
  other_database x apart =
      let mine : List Row = filter (is_row_of_database (number_of x)) (t docs_tree) in
      ap (λ d. record (database_of_row t x) { documents = d })
      (ap finite.from_entries (other_values (t docs_tree) db w.id sequence (text_of h.best) gone (document_of_row (u revs_tree)) (number_of x) apart)
      ∙ rows_alike nat_list_cmp_total text_exact id_of (λ q y. bytes_eq (id_of y) q) (text_tests id_of) (document_of_row (u revs_tree)) (document_of_row (t revs_tree)) mine
      (all_passing (λ y. document_of_row (u revs_tree) y ≡ document_of_row (t revs_tree) y) (is_row_of_database (number_of x)) (t docs_tree)
      (all_of (λ y. is_row_of_database (number_of x) y ≡ true → document_of_row (u revs_tree) y ≡ document_of_row (t revs_tree) y)
      (λ y there. same_document y (and_left (is_row_of_database db y) (bytes_eq (id_of y) w.id) (ap (λ n. int_eq n db) (same_int (db_of y) (number_of x) there) ∙ apart))) (t docs_tree))))

  contents : contents_in u ≡ finite.insert (contents_in t) name (with_one (database_of_row t r) w)
  contents = contents_changed t is.laid name r ok.found advanced (λ x. refl) (λ x. refl) u (with_one (database_of_row t r) w) refl own_database other_database

  laid_out : IsWellFormed u
  laid_out =
      let l = is.laid in
      record {
        version = l.version;
        dbs_numbered = numbered_changed db advanced (λ x. refl) (λ x. refl) (λ x. refl) (t dbs_tree) l.dbs_numbered;
        docs_numbered = numbered_placed (t docs_tree) db w.id sequence (text_of h.best) gone l.docs_numbered;
        revs_numbered = numbered_from_keyed _ (keyed-with_revisions entries (t revs_tree) db w.id (revs_keyed t l));
        locals_numbered = l.locals_numbered;
        dbs = all_changed db advanced (λ x. refl) (λ x. refl) IsDatabaseRow
            (λ x k. record { is = ap (λ text. database_row (number_of x) (name_of x) text (pos sequence)) (ap security_text k.is); named = k.named; security = k.security; bounded = ok.room }) (t dbs_tree) l.dbs;
        names_apart = names_changed db advanced (λ x. refl) (λ x. refl) (t dbs_tree) l.names_apart;
        docs = documents;
        ids_apart = ids_stay_apart (t docs_tree) db w.id sequence (text_of h.best) gone l.ids_apart;
        sequences_apart = sequences_stay_apart (t docs_tree) db w.id sequence (text_of h.best) gone below l.ids_apart l.sequences_apart;
        revs = revisions;
        revisions_apart = revisions_apart;
        locals = all_weaker (IsLocalRow t) (IsLocalRow u) local_still (t locals_tree) l.locals;
        local_ids_apart = l.local_ids_apart;
        lawful = ∥∥₁_map l.lawful (λ was.
            subst AreLawful (sym contents)
            (lawful_insert (contents_in t) name (with_one (database_of_row t r) w) was
            (lawful_by_one (database_of_row t r) w (was name (database_of_row t r) (database_there t l name r ok.found)) ok.acceptable)));
      }

  -- ---- the statements

  abbrev after : AreSame u e.trees
  after = written r w a e is.schema_is h

  pub one_write-store : IsStore e
  one_write-store =
      store_of u e (h.advances.schema ∙ h.places.schema ∙ (revisions_changed entries db w.id a h.inserted h.revisions).schema ∙ is.schema_is) after laid_out

  pub one_write-contents : contents_in e.trees ≡ finite.insert (contents_in t) name (with_one (database_of_row t r) w)
  one_write-contents = contents_same u e.trees after ∙ contents

  pub one_write-row : slice_get (filter (is_named name) (e.trees dbs_tree)) 0 ≡ Some (advanced r)
  one_write-row = ap (λ rows. slice_get (filter (is_named name) rows) 0) after.dbs ∙ named_changed t is.laid name r ok.found advanced (λ x. refl) (λ x. refl)

  pub one_write-database : database_of_row e.trees (advanced r) ≡ with_one (database_of_row t r) w
  one_write-database =
      (λ i. record { length = sequence; security = security_of r; locals = locals_in (after.locals i) db; documents = documents_in_rows (after.docs i) (after.revs i) db }) ∙ own_database
