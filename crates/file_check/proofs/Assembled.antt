-- Tables whose rows are sound hold lawful databases, and are laid out.
use Rattle.tables.proofs.Common.{AllByRecursion, AreLawful, Bool, IsAscending, IsBody, IsDatabaseRow, IsDocumentRow, IsWellFormed, IsLocalRow, IsRevisionRow, List, None, Option, Revision, Row, Some, Trees, Value, Null, Int, Real, Text, Blob, [], all-filter, all_weaker, and_parts, ap, arith, ascending_weaker, column, cond, contents_in, count_in_cell, database_row_at, database_of_row, db_of, dbs_tree, docs_tree, document_of_row, entry_of, eq_by_cmp, false, filter, find, has_number, history_in_rows, id_of, inl, inr, inside, is_row_of_database, is_known, is_named, is_row_of_document, is_revision, sequence_of_database, local_of, locals_tree, greatest_number, map, meta_tree, nat_le, nat_tests, number_of, Decides-int_eq, parent_in, pos, refl, revision_cmp, revision_cmp_total, revision_of_row, revs_tree, same, same_int, sequence_of_row, slice_get, subst, sym, text_of, true, version_row, whole_in_cell, winner, ℕ, ℤ, ◌&&◌, ◌-◌, ◌∙◌, ◌∷◌, ◌≡◌, ◌≢◌, ◌≤◌, ◌⊎◌, HistoryContent, Entry, eqb-true, held_of, LocalDocument}
use Rattle.std.specs.FinMap as finite
use Rattle.std.specs.Prelude.{option_and_then, ◌==◌}
use Rattle.std.specs.Cmp.{first_so}
use Rattle.std.proofs.Common.{eq-eqb}
use Rattle.store.specs.Database.{Document, HasSequences}
use Rattle.store.specs.Lawful.{IsLawfulDatabase, IsLocalDocument, IsWritten}
use Rattle.tree.specs.DocumentId.{is_local_id}
use Rattle.tables.proofs.Lookups.{database_found, get_id, local_found, own_number}
use Rattle.tables.proofs.RowMaps.{mapped_some, passing}
use Rattle.tables.proofs.Single.{HasOneAtMost}
use Rattle.tables.proofs.Sorted.{both_in}
use Rattle.tables.proofs.Tables.{of_these, one_numbered}
use Rattle.tree.proofs.Leaves.{leaves_are}
use Rattle.tree.proofs.Shown.{entry_of_known}
use Rattle.tree.specs.History.{IsRooted, leaves}
use Rattle.tree.specs.Revision.{is_hash}
use Rattle.tree.specs.Write.{StandsIn}
use Rattle.tree.specs.declared.entry.Held.{Held}
use Rattle.file_check.specs.Tables.{AreShaped, IsSoundDatabase, IsSoundDocument, stored_revision}
use Rattle.file_check.proofs.Written.{is_written}

-- each row of these tables is sound
pub record AreSound (trees : Trees) : Type 0 where
  pub dbs : AllByRecursion (IsSoundDatabase trees) (trees dbs_tree)
  pub docs : AllByRecursion (IsSoundDocument trees) (trees docs_tree)
  pub revs : AllByRecursion (IsRevisionRow trees) (trees revs_tree)
  pub locals : AllByRecursion (IsLocalRow trees) (trees locals_tree)

-- ---- rows among rows

abbrev pub In : List Row → Row → Type 0
In [] x = ⊥
In (r ∷ rows) x = (r ≡ x) ⊎ In rows x

pub all_at : (P : Row → Type 0) (rows : List Row) (x : Row) → AllByRecursion P rows → In rows x → P x
all_at P [] x all i = absurd i
all_at P (r ∷ rows) x all (inl e) = subst P e all.0
all_at P (r ∷ rows) x all (inr i) = all_at P rows x all.1 i

pub each_in : (rows : List Row) → AllByRecursion (In rows) rows
each_in [] = tt
each_in (r ∷ rows) = (inl refl, all_weaker (In rows) (In (r ∷ rows)) (λ x i. inr i) rows (each_in rows))

first_of : (P : Row → Type 0) (rows : List Row) (r : Row) → AllByRecursion P rows → slice_get rows 0 ≡ Some r → P r
first_of P [] r all e = absurd cc
first_of P (x ∷ rows) r all e = subst P (inside x r e) all.0

found_row : (p : Row → Bool) (rows : List Row) (r : Row) → slice_get (filter p rows) 0 ≡ Some r → In rows r × (p r ≡ true)
found_row p rows r e = (first_of (In rows) (filter p rows) r (all-filter (In rows) p rows (each_in rows)) e, first_of (λ x. p x ≡ true) (filter p rows) r (passing p rows) e)

-- two rows that pass a test that at most one passes are the same
same_where : (p : Row → Bool) (rows : List Row) → HasOneAtMost p rows → (r s : Row) → In rows r → In rows s → p r ≡ true → p s ≡ true → r ≡ s
same_where p [] one r s i j x y = absurd i
same_where p (t ∷ rows) one r s (inl e) (inl f) x y = sym e ∙ f
same_where p (t ∷ rows) one r s (inl e) (inr j) x y = absurd (all_at (λ b. p t ≡ true → p b ≡ true → ⊥) rows s one.0 j (ap p e ∙ x) y)
same_where p (t ∷ rows) one r s (inr i) (inl f) x y = absurd (all_at (λ b. p t ≡ true → p b ≡ true → ⊥) rows r one.0 i (ap p f ∙ y) x)
same_where p (t ∷ rows) one r s (inr i) (inr j) x y = same_where p rows one.1 r s i j x y

pub found_one : (p : Row → Bool) (rows : List Row) (d : Row) → HasOneAtMost p rows → In rows d → p d ≡ true → find p rows ≡ Some d
found_one p [] d one i is = absurd i
found_one p (r ∷ rows) d one (inl e) is = ap (λ b. cond b (Some r) (find p rows)) (ap p e ∙ is) ∙ ap Some e
found_one p (r ∷ rows) d one (inr i) is = by (p r) refl (found_one p rows d one.1 i is)
  where
    by : (b : Bool) → p r ≡ b → find p rows ≡ Some d → cond b (Some r) (find p rows) ≡ Some d
    by true here rest = absurd (all_at (λ x. p r ≡ true → p x ≡ true → ⊥) rows d one.0 i here is)
    by false here rest = rest

-- ---- known revisions are rows

abbrev known_entry : Row → Revision × Entry
known_entry r = (revision_of_row r, entry_of r)

-- the row of a revision and its entry
record IsRowOf (q : Revision) (e : Entry) (rows : List Row) : Type 0 where
  row : Row
  among : In rows row
  revision : revision_of_row row ≡ q
  entry : entry_of row ≡ e

find_row : (q : Revision) (e : Entry) (rows : List Row) → finite.find revision_cmp q (map known_entry rows) ≡ Some e → IsRowOf q e rows
find_row q e [] found = absurd cc
find_row q e (r ∷ rows) found = by (find_row q e rows) (eq_by_cmp revision_cmp q (revision_of_row r)) refl found
  where
    by : (finite.find revision_cmp q (map known_entry rows) ≡ Some e → IsRowOf q e rows) → (b : Bool) → eq_by_cmp revision_cmp q (revision_of_row r) ≡ b
        → cond b (Some (entry_of r)) (finite.find revision_cmp q (map known_entry rows)) ≡ Some e → IsRowOf q e (r ∷ rows)
    by rest true tie f = record { row = r; among = inl refl; revision = sym (same q (revision_of_row r) tie); entry = inside (entry_of r) e f }
    by rest false tie f = let it = rest f in record { row = it.row; among = inr it.among; revision = it.revision; entry = it.entry }

pub parent_number : (n : ℕ) (v : Value) (p : Revision) → parent_in n v ≡ Some p → p.number ≡ n - 1
parent_number n Null p e = absurd cc
parent_number n (Int m) p e = absurd cc
parent_number n (Real x) p e = absurd cc
parent_number n (Text hash) p e = ap (λ (q : Revision). q.number) (sym (inside _ p e))
parent_number n (Blob b) p e = absurd cc

first_number : (q : Revision) → is_revision q ≡ true → 1 ≤ q.number
first_number q h =
    let low : nat_le 1 q.number ≡ true = (and_parts (nat_le 1 q.number) (nat_le q.number greatest_number) (and_parts (nat_le 1 q.number && nat_le q.number greatest_number) (is_hash q.hash) h).0).0 in
    grind (arith, nat_tests, low)

first_stands : (rs : List Revision) (w : Revision) → slice_get rs 0 ≡ Some w → StandsIn rs w
first_stands [] w e = absurd cc
first_stands (r ∷ rs) w e = inl (inside r w e)

module _ (trees : Trees) (shaped : AreShaped trees) (sound : AreSound trees) where
  -- the row of a known revision of a document
  record IsKnownRow (db : ℤ) (id : List ℕ) (q : Revision) (e : Entry) : Type 0 where
    row : Row
    is : IsRevisionRow trees row
    db_is : db_of row ≡ db
    id_is : id_of row ≡ id
    revision : revision_of_row row ≡ q
    entry : entry_of row ≡ e

  known_row : (db : ℤ) (id : List ℕ) (q : Revision) (e : Entry) → finite.get (history_in_rows (trees revs_tree) db id) q ≡ Some e → IsKnownRow db id q e
  known_row db id q e got =
      let rows = filter (is_row_of_document db id) (trees revs_tree) in
      let it = find_row q e rows (sym (finite.get-from_entries revision_cmp_total (map known_entry rows) q) ∙ got) in
      let own = of_these db id it.row (all_at (λ r. is_row_of_document db id r ≡ true) rows it.row (passing (is_row_of_document db id) (trees revs_tree)) it.among) in
      record {
        row = it.row;
        is = all_at (IsRevisionRow trees) rows it.row (all-filter (IsRevisionRow trees) (is_row_of_document db id) (trees revs_tree) sound.revs) it.among;
        db_is = own.0;
        id_is = own.1;
        revision = it.revision;
        entry = it.entry;
      }

  got_from : {X : Type 0} (f : Entry → Option X) (h : HistoryContent) (q : Revision) (x : X) → option_and_then f (finite.get h q) ≡ Some x → (e : Entry) × (finite.get h q ≡ Some e) × (f e ≡ Some x)
  got_from f h q x is = by (finite.get h q) refl is
    where
      by : (o : Option Entry) → finite.get h q ≡ o → option_and_then f o ≡ Some x → (e : Entry) × (finite.get h q ≡ Some e) × (f e ≡ Some x)
      by None g u = absurd cc
      by (Some e) g u = (e, g, u)

  history_rooted : (db : ℤ) (id : List ℕ) → IsRooted (history_in_rows (trees revs_tree) db id)
  history_rooted db id = record {
    parents_known = λ r p up.
        let e = got_from (λ x. x.parent) (history_in_rows (trees revs_tree) db id) r p up in
        let k = known_row db id r e.0 e.1 in
        let there = k.is.follows p (ap (λ (x : Entry). x.parent) k.entry ∙ e.2) in
        ap (λ n. is_known (history_in_rows (trees revs_tree) n id) p) (sym k.db_is) ∙ ap (λ i. is_known (history_in_rows (trees revs_tree) (db_of k.row) i) p) (sym k.id_is) ∙ there;
    descends = λ r p up.
        let e = got_from (λ x. x.parent) (history_in_rows (trees revs_tree) db id) r p up in
        let k = known_row db id r e.0 e.1 in
        let number = parent_number (count_in_cell (column k.row 3)) (column k.row 5) p (ap (λ (x : Entry). x.parent) k.entry ∙ e.2) in
        let low = first_number (revision_of_row k.row) k.is.lawful in
        let same_number = ap (λ (q : Revision). q.number) k.revision in
        omega (arith, number, low, same_number);
    begins = λ r known up.
        let e = entry_of_known (history_in_rows (trees revs_tree) db id) r known in
        let k = known_row db id r e.0 e.1 in
        let none = ap (λ (x : Entry). x.parent) k.entry ∙ ap (option_and_then (λ (x : Entry). x.parent)) (sym e.1) ∙ up in
        sym (ap (λ (q : Revision). q.number) k.revision) ∙ k.is.first.0 none;
  }

  body_known : (db : ℤ) (id : List ℕ) (s : Revision) (d : Held) → held_of (history_in_rows (trees revs_tree) db id) s ≡ Some d → IsBody d.body
  body_known db id s d holds =
      let e = got_from (λ x. x.held) (history_in_rows (trees revs_tree) db id) s d holds in
      let k = known_row db id s e.0 e.1 in
      k.is.body d (ap (λ (x : Entry). x.held) k.entry ∙ e.2)

  written : (r : Row) → IsSoundDocument trees r → IsWritten (history_in_rows (trees revs_tree) (db_of r) (id_of r))
  written r k =
      let h = history_in_rows (trees revs_tree) (db_of r) (id_of r) in
      let w = mapped_some text_of (winner h) _ k.row.won in
      let leaf = (leaves_are h w.0).0 (first_stands (leaves h) w.0 w.1) in
      is_written h (history_rooted (db_of r) (id_of r)) (body_known (db_of r) (id_of r)) k.leaves w.0 (first_so (is_known h w.0) _ leaf)

  -- ---- the databases are lawful

  sequences_apart : IsAscending (λ a b. db_of a ≡ db_of b → sequence_of_row a ≢ sequence_of_row b) (trees docs_tree)
  sequences_apart =
      both_in (IsSoundDocument trees) (λ a b. db_of a ≡ db_of b → whole_in_cell (column a 3) ≢ whole_in_cell (column b 3)) (λ a b. db_of a ≡ db_of b → sequence_of_row a ≢ sequence_of_row b)
      (λ a b k l apart db_same same_sequence.
      apart db_same (ap (λ x. whole_in_cell (column x 3)) k.row.is ∙ ap pos same_sequence ∙ sym (ap (λ x. whole_in_cell (column x 3)) l.row.is))) (trees docs_tree) sound.docs shaped.sequences_apart

  -- the row of a document of a database
  record IsDocumentOf (n : ℤ) (id : List ℕ) (d : Document) : Type 0 where
    row : Row
    among : In (trees docs_tree) row
    is : IsSoundDocument trees row
    db_is : db_of row ≡ n
    id_is : id_of row ≡ id
    document : document_of_row (trees revs_tree) row ≡ d

  document_row_of : (d : Row) (id : List ℕ) (x : Document) → finite.get (database_of_row trees d).documents id ≡ Some x → IsDocumentOf (number_of d) id x
  document_row_of d id x got =
      let found = mapped_some (document_of_row (trees revs_tree)) _ x (sym (get_id (number_of d) id (document_of_row (trees revs_tree)) (trees docs_tree)) ∙ got) in
      let it = found_row (is_row_of_document (number_of d) id) (trees docs_tree) found.0 found.1 in
      let own = of_these (number_of d) id found.0 it.1 in
      record { row = found.0; among = it.0; is = all_at (IsSoundDocument trees) (trees docs_tree) found.0 sound.docs it.0; db_is = own.0; id_is = own.1; document = found.2 }

  at_sequence : ℤ → ℕ → Row → Bool
  at_sequence n sequence r = is_row_of_database n r && (sequence_of_row r == sequence)

  one_at_sequence : (n : ℤ) (sequence : ℕ) → HasOneAtMost (at_sequence n sequence) (trees docs_tree)
  unfolding at_sequence
  one_at_sequence n sequence =
      ascending_weaker (λ a b. db_of a ≡ db_of b → sequence_of_row a ≢ sequence_of_row b) (λ a b. at_sequence n sequence a ≡ true → at_sequence n sequence b ≡ true → ⊥)
      (λ a b apart x y.
      let p = and_parts (is_row_of_database n a) (sequence_of_row a == sequence) x in
      let q = and_parts (is_row_of_database n b) (sequence_of_row b == sequence) y in
      apart (same_int (db_of a) n p.0 ∙ sym (same_int (db_of b) n q.0)) (eqb-true (sequence_of_row a) sequence p.1 ∙ sym (eqb-true (sequence_of_row b) sequence q.1))) (trees docs_tree) sequences_apart

  stands_at : (n : ℤ) (sequence : ℕ) (r : Row) → db_of r ≡ n → sequence_of_row r ≡ sequence → at_sequence n sequence r ≡ true
  unfolding at_sequence
  stands_at n sequence r db_is is = rw ((Decides-int_eq (db_of r) n).1 db_is, eq-eqb (sequence_of_row r) sequence is) refl

  database_is_there : (d : Row) → In (trees dbs_tree) d → database_row_at (trees dbs_tree) (number_of d) ≡ Some d
  database_is_there d i = found_one (has_number (number_of d)) (trees dbs_tree) d (one_numbered (trees dbs_tree) shaped.kept.dbs.rising (number_of d)) i (own_number d)

  has_sequences : (d : Row) → In (trees dbs_tree) d → HasSequences (database_of_row trees d)
  has_sequences d i = record {
    positive = λ id x got. let k = document_row_of d id x got in subst (λ (y : Document). 1 ≤ y.sequence) k.document k.is.row.positive;
    within = λ id x got.
        let k = document_row_of d id x got in
        subst (λ (y : Document). y.sequence ≤ sequence_of_database d) k.document (k.is.row.within d (ap (database_row_at (trees dbs_tree)) k.db_is ∙ database_is_there d i));
    distinct = λ id other x y got got_other same_sequence.
        let k = document_row_of d id x got in
        let l = document_row_of d other y got_other in
        let mine = stands_at (number_of d) x.sequence k.row k.db_is (ap (λ (z : Document). z.sequence) k.document) in
        let its = stands_at (number_of d) x.sequence l.row l.db_is (ap (λ (z : Document). z.sequence) l.document ∙ sym same_sequence) in
        let one = same_where (at_sequence (number_of d) x.sequence) (trees docs_tree) (one_at_sequence (number_of d) x.sequence) k.row l.row k.among l.among mine its in
        sym k.id_is ∙ ap id_of one ∙ l.id_is;
  }

  database_lawful : (d : Row) → In (trees dbs_tree) d → IsLawfulDatabase (database_of_row trees d)
  database_lawful d i = record {
    documents = λ id x got.
        let k = document_row_of d id x got in
        subst (λ (y : Document). IsWritten y.history) k.document (written k.row k.is);
    apart = λ id x got. let k = document_row_of d id x got in ap is_local_id (sym k.id_is) ∙ k.is.row.apart;
    sequences = has_sequences d i;
    locals = λ id x got.
        let found = mapped_some local_of _ x (sym (local_found trees d id) ∙ got) in
        let it = found_row (is_row_of_document (number_of d) id) (trees locals_tree) found.0 found.1 in
        let k = all_at (IsLocalRow trees) (trees locals_tree) found.0 sound.locals it.0 in
        let own = of_these (number_of d) id found.0 it.1 in
        subst (IsLocalDocument id) found.2 (subst (λ (i : List ℕ). IsLocalDocument i (local_of found.0)) own.1 k.local);
  }

  are_lawful : AreLawful (contents_in trees)
  are_lawful name db got =
      let found = mapped_some (database_of_row trees) _ db (sym (database_found trees name) ∙ got) in
      let it = found_row (is_named name) (trees dbs_tree) found.0 found.1 in
      subst IsLawfulDatabase found.2 (database_lawful found.0 it.0)

  revisions_apart : IsAscending (λ a b. db_of a ≡ db_of b → id_of a ≡ id_of b → revision_of_row a ≢ revision_of_row b) (trees revs_tree)
  revisions_apart =
      both_in (IsRevisionRow trees) (λ a b. db_of a ≡ db_of b → id_of a ≡ id_of b → stored_revision a ≢ stored_revision b) (λ a b. db_of a ≡ db_of b → id_of a ≡ id_of b → revision_of_row a ≢ revision_of_row b)
      (λ a b k l apart db_same id_same same_revision.
      let number = ap (λ x. whole_in_cell (column x 3)) k.is ∙ ap (λ (q : Revision). pos q.number) same_revision ∙ sym (ap (λ x. whole_in_cell (column x 3)) l.is) in
      let hash = ap (λ (q : Revision). q.hash) same_revision in
      apart db_same id_same (λ i. (number i, hash i))) (trees revs_tree) sound.revs shaped.revisions_apart

  -- tables whose rows are sound are laid out
  pub is_laid : trees meta_tree ≡ version_row 2 ∷ [] → IsWellFormed trees
  is_laid version = record {
    version = version;
    dbs_numbered = shaped.kept.dbs;
    docs_numbered = shaped.kept.docs;
    revs_numbered = shaped.kept.revs;
    locals_numbered = shaped.kept.locals;
    dbs = all_weaker (IsSoundDatabase trees) IsDatabaseRow (λ r k. k.row) (trees dbs_tree) sound.dbs;
    names_apart = shaped.names_apart;
    docs = all_weaker (IsSoundDocument trees) (IsDocumentRow trees) (λ r k. k.row) (trees docs_tree) sound.docs;
    ids_apart = shaped.ids_apart;
    sequences_apart = sequences_apart;
    revs = sound.revs;
    revisions_apart = revisions_apart;
    locals = sound.locals;
    local_ids_apart = shaped.local_ids_apart;
    lawful = ∣ are_lawful ∣₁;
  }
