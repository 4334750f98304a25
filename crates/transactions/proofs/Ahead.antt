-- Writes of a database that stands at the last of their sequences from the first of them on.
use Rattle.transactions.proofs.Common.{Addition, AreDue, AreInserted, Bool, Changes, Database, Entry, HasWritten, IsWellFormed, IsLawfulAddition, IsStore, IsWrite, List, Revision, Row, Some, Trees, [], addition_of, additions, ap, arith, cond, contents_in, database_of_row, db_of, dbs_tree, docs_tree, false, filter, get_or, has_number, history_in_rows, length, length-map, length-take, sequence_of_database, map, map-map, new_entries, number_of, pos, refl, revs_tree, row_after, rows_at_sequence, schema, slice_get, subst, suc, sym, take, true, writings_in, written_in, ℕ, ℤ, ◌+◌, ◌<◌, ◌^◌, ◌∙◌, ◌∷◌, ◌≡◌, ◌≢◌}
use Rattle.std.specs.FinMap as finite
use Rattle.std.specs.Prelude.{◌≤◌, eqb, if◌then◌else◌}
use Rattle.std.proofs.Math.Logic.{∥∥₁_map}
use Rattle.sqlite_keyed.proofs.ListLemmas.{all_weaker}
use Rattle.index.proofs.Alike.{same_rows}
use Rattle.index.proofs.Common.{all_of}
use Rattle.index.specs.Rows.{is_at_home}
use Rattle.index.specs.Shown.{declared_at}
use Rattle.store.specs.Database as store
use Rattle.store.specs.Database.{DocumentWrite}
use Rattle.store.specs.Lawful.{AreLawful, IsLawfulDatabase}
use Rattle.store.specs.declared.write.Write.{Write}
use Rattle.tables.proofs.Changed.{all_changed, contents_changed, longer, names_changed, number_stays, numbered_changed}
use Rattle.tables.proofs.Common.{IsDatabaseNumber, IsDatabaseRow, IsDocumentRow, IsLocalRow, IsRevisionRow, database_row, eqb_tells, inl, inr, is_named, lawful_insert, locals_tree, map_same, name_of, row_at_sequence, security_text}
use Rattle.tables.proofs.DocumentWriteSteps.{revisions_changed}
use Rattle.tables.proofs.DocumentWrites.{none_written}
use Rattle.tables.proofs.Lookups.{database_there}
use Rattle.tables.proofs.Rests.{AreSame, contents_same, leaves, revision_kept, store_of, with_rows}
use Rattle.tree.specs.DocumentId.{is_design_id}
use Rattle.transactions.proofs.Committing.{further, length-writings_in, may_in_turn}
use Rattle.transactions.proofs.IndexRests.{database_indexed}
use Rattle.transactions.proofs.IndexSteps.{all_indexed, database_still, none_postponed, plain_followed}
use Rattle.transactions.specs.inner.Following.{HasPlaceFor}
use Rattle.transactions.specs.Indexing.{AreAllIndexes, IsIndexedStore}
use Rattle.transactions.specs.inner.Placed.{ArePlain, IsAhead, IsPlacedWrite, with_databases}

-- ---- the rows of databases

-- a row that is moved twice stands where it was moved to last
moved_twice : (n s t : ℤ) (rows : List Row) → rows_at_sequence n t (rows_at_sequence n s rows) ≡ rows_at_sequence n t rows
moved_twice n s t rows = map-map moved_to moved_from rows ∙ map_same (λ r. moved_to (moved_from r)) moved_to one rows
  where
    moved_to : Row → Row
    moved_to r = if has_number n r then row_at_sequence t r else r

    moved_from : Row → Row
    moved_from r = if has_number n r then row_at_sequence s r else r

    one : (r : Row) → moved_to (moved_from r) ≡ moved_to r
    one r = by (has_number n r) refl
      where
        by : (b : Bool) → has_number n r ≡ b → moved_to (if b then row_at_sequence s r else r) ≡ (if b then row_at_sequence t r else r)
        by true is = ap (λ b. if b then row_at_sequence t r else row_at_sequence s r) is
        by false is = ap (λ b. if b then row_at_sequence t r else r) is

-- ---- the tables at a greater sequence

lawful_longer : (db : store.Database) (n : ℕ) → db.length ≤ n → IsLawfulDatabase db → IsLawfulDatabase (record db { length = n })
lawful_longer db n low h = record {
  documents = h.documents;
  apart = h.apart;
  sequences = record { positive = h.sequences.positive; within = λ id d is. let own = h.sequences.within id d is in omega (arith, own, low); distinct = h.sequences.distinct };
  locals = h.locals;
}

module _ (trees : Trees) (h : IsWellFormed trees) (name : List ℕ) (d : Row) (is : slice_get (filter (is_named name) (trees dbs_tree)) 0 ≡ Some d) (end : ℕ) (grows : sequence_of_database d ≤ end) (room : end < 2 ^ 63) where
  abbrev change : Row → Row
  change = row_at_sequence (pos end)

  abbrev moved : Trees
  moved = with_rows trees dbs_tree (rows_at_sequence (number_of d) (pos end) (trees dbs_tree))

  abbrev longer_database : store.Database
  longer_database = record (database_of_row trees d) { length = end }

  moved_contents : contents_in moved ≡ finite.insert (contents_in trees) name longer_database
  moved_contents = contents_changed trees h name d is change (λ r. refl) (λ r. refl) moved longer_database refl refl (λ r out. refl)

  number_still : (m : ℤ) → IsDatabaseNumber trees m → IsDatabaseNumber moved m
  number_still m there = number_stays (number_of d) change (λ x. refl) (λ x. refl) (trees dbs_tree) m ∙ there

  document_still : (x : Row) → IsDocumentRow trees x → IsDocumentRow moved x
  document_still x k = record {
    is = k.is;
    there = number_still (db_of x) k.there;
    named = k.named;
    apart = k.apart;
    text = k.text;
    positive = k.positive;
    within = λ e now.
        let was = longer trees h name d is change (λ r. refl) (λ r. refl) grows (db_of x) e now in
        let low = k.within was.0 was.1 in
        omega (arith, low, was.2);
    won = k.won;
    gone = k.gone;
  }

  local_still : (x : Row) → IsLocalRow trees x → IsLocalRow moved x
  local_still x k = record { is = k.is; there = number_still (db_of x) k.there; named = k.named; local = k.local }

  moved_laid : IsWellFormed moved
  moved_laid = record {
    version = h.version;
    dbs_numbered = numbered_changed (number_of d) change (λ x. refl) (λ x. refl) (λ x. refl) (trees dbs_tree) h.dbs_numbered;
    docs_numbered = h.docs_numbered;
    revs_numbered = h.revs_numbered;
    locals_numbered = h.locals_numbered;
    dbs = all_changed (number_of d) change (λ x. refl) (λ x. refl) IsDatabaseRow
        (λ x k. record { is = ap (λ text. database_row (number_of x) (name_of x) text (pos end)) (ap security_text k.is); named = k.named; security = k.security; bounded = room }) (trees dbs_tree) h.dbs;
    names_apart = names_changed (number_of d) change (λ x. refl) (λ x. refl) (trees dbs_tree) h.names_apart;
    docs = all_weaker (IsDocumentRow trees) (IsDocumentRow moved) document_still (trees docs_tree) h.docs;
    ids_apart = h.ids_apart;
    sequences_apart = h.sequences_apart;
    revs = all_weaker (IsRevisionRow trees) (IsRevisionRow moved) (λ x. revision_kept trees moved x refl refl) (trees revs_tree) h.revs;
    revisions_apart = h.revisions_apart;
    locals = all_weaker (IsLocalRow trees) (IsLocalRow moved) local_still (trees locals_tree) h.locals;
    local_ids_apart = h.local_ids_apart;
    lawful = ∥∥₁_map h.lawful (λ l.
        subst AreLawful (sym moved_contents)
        (lawful_insert (contents_in trees) name longer_database l (lawful_longer (database_of_row trees d) end grows (l name (database_of_row trees d) (database_there trees h name d is)))));
  }

-- the tables of a database that stands ahead are a store
pub ahead_store : (all before : List Addition) (name : List ℕ) (r : Row) (old now : Database) → IsAhead all before name r old now → length before ≤ length all → sequence_of_database r + length all < 2 ^ 63 → IsStore now
ahead_store all before name r old now h low room =
    let v = with_databases h.back now in
    let count = length-writings_in (database_of_row old.trees r) before in
    let d = row_after r (length (writings_in (database_of_row old.trees r) before)) in
    let grows : sequence_of_database d ≤ sequence_of_database r + length all = omega (arith, count, low) in
    store_of (moved v.trees h.written.store.laid name d h.written.row (sequence_of_database r + length all) grows room) now h.written.store.schema_is
    (record { meta = refl; dbs = h.ahead; docs = refl; revs = refl; locals = refl })
    (moved_laid v.trees h.written.store.laid name d h.written.row (sequence_of_database r + length all) grows room)

-- ---- tables with other rows of databases

-- a change of another table
changes_behind : (back : List Row) (tree : ℕ) (rows : List Row) (a b : Database) → (with_databases back b).trees tree ≡ b.trees tree → Changes tree rows a b → Changes tree rows (with_databases back a) (with_databases back b)
changes_behind back tree rows a b same h = record {
  schema = h.schema;
  rows = same ∙ h.rows;
  others = all_weaker (λ t. t.tree ≢ tree → b.trees t.tree ≡ a.trees t.tree) (λ t. t.tree ≢ tree → (with_databases back b).trees t.tree ≡ (with_databases back a).trees t.tree)
      (λ t kept away. ap (λ now. cond (eqb t.tree dbs_tree) back now) (kept away)) a.schema.tables h.others;
}

inserted_behind : (back : List Row) (es : List (Revision × Entry)) (db : ℤ) (id : List ℕ) (a c : Database) → AreInserted es db id a c → AreInserted es db id (with_databases back a) (with_databases back c)
inserted_behind back [] db id a c h = ap (with_databases back) h
inserted_behind back (e ∷ es) db id a c h = (with_databases back h.0, changes_behind back revs_tree _ a h.0 refl h.1, inserted_behind back es db id h.0 c h.2)

-- the rows of databases alone
databases_moved : (rows now : List Row) (d : Database) → Changes dbs_tree now (with_databases rows d) (with_databases now d)
databases_moved rows now d = record {
  schema = refl;
  rows = refl;
  others = all_of (λ t. t.tree ≢ dbs_tree → (with_databases now d).trees t.tree ≡ (with_databases rows d).trees t.tree) (λ t away. other t.tree away) d.schema.tables;
}
  where
    other : (t : ℕ) → t ≢ dbs_tree → cond (eqb t dbs_tree) now (d.trees t) ≡ cond (eqb t dbs_tree) rows (d.trees t)
    other t away = elim (eqb_tells t dbs_tree) [
      | inl here ↦ absurd (away here.1)
      | inr out ↦ ap (λ b. cond b now (d.trees t)) out.0 ∙ sym (ap (λ b. cond b rows (d.trees t)) out.0)
    ]

-- a write leaves the rows of databases
pub placed_dbs : (db sequence : ℤ) (w : DocumentWrite) (a b : Database) → a.schema ≡ schema → IsPlacedWrite db sequence w a b → b.trees dbs_tree ≡ a.trees dbs_tree
placed_dbs db sequence w a b is h =
    let one = revisions_changed (new_entries (history_in_rows (a.trees revs_tree) db w.id) w.write) db w.id a h.inserted h.revisions in
    (leaves docs_tree _ h.inserted b (one.schema ∙ is) h.places).dbs (omega arith) ∙ (leaves revs_tree _ a h.inserted is one).dbs (omega arith)

-- it is a whole write of tables whose database stands at the sequence before it
write_behind : (back : List Row) (r : Row) (w : DocumentWrite) (a b : Database) → IsPlacedWrite (number_of r) (pos (sequence_of_database r + 1)) w a b
    → IsWrite r w (with_databases back a) (with_databases (rows_at_sequence (number_of r) (pos (sequence_of_database r + 1)) back) b)
write_behind back r w a b h = record {
  inserted = with_databases back h.inserted;
  placed = with_databases back b;
  best = h.best;
  revisions = inserted_behind back (new_entries (history_in_rows (a.trees revs_tree) (number_of r) w.id) w.write) (number_of r) w.id a h.inserted h.revisions;
  best_is = h.best_is;
  places = changes_behind back docs_tree _ h.inserted b refl h.places;
  advances = databases_moved back (rows_at_sequence (number_of r) (pos (sequence_of_database r + 1)) back) b;
}

-- tables with the same rows have the same writes
written_over : (ws : List DocumentWrite) (name : List ℕ) (r : Row) (a b c : Database) → HasWritten ws name r a b → c.schema ≡ schema → AreSame b.trees c.trees → HasWritten ws name r a c
written_over ws name r a b c h is same = record {
  store = store_of b.trees c is same h.store.laid;
  row = ap (λ rows. slice_get (filter (is_named name) rows) 0) same.dbs ∙ h.row;
  database = database_still b.trees c.trees (row_after r (length ws)) same ∙ h.database;
  contents = contents_same b.trees c.trees same ∙ h.contents;
}

-- ---- no write, one more, and all of them

-- the sequence is moved, and no write is done
pub first_ahead : (all : List Addition) (name : List ℕ) (r : Row) (old now : Database) → IsIndexedStore old → slice_get (filter (is_named name) (old.trees dbs_tree)) 0 ≡ Some r → AreAllIndexes [] (number_of r) old.trees
    → Changes dbs_tree (rows_at_sequence (number_of r) (pos (sequence_of_database r + length all)) (old.trees dbs_tree)) old now → IsAhead all [] name r old now
first_ahead all name r old now was found every change =
    let left = leaves dbs_tree _ old now was.store.schema_is change in
    let back = old.trees dbs_tree in
    record {
      back = back;
      written = written_over [] name r old old (with_databases back now) (none_written old name r was.store found) (change.schema ∙ was.store.schema_is)
          (record { meta = left.meta (omega arith); dbs = refl; docs = left.docs (omega arith); revs = left.revs (omega arith); locals = left.locals (omega arith) });
      ahead = change.rows;
      moved = λ lt. absurd (omega (arith, lt));
      indexed = database_indexed _ old now was.store.schema_is change was.indexed;
      none = every ∙ ap (λ rows. map declared_at (filter (is_at_home (number_of r)) rows)) (sym (left.decls (omega arith)));
    }

-- the same, as the database and the sequence are told
pub start_ahead : (ws : List Write) (name : List ℕ) (db : ℤ) (sequence : ℕ) (last : ℤ) (old now : Database) → IsIndexedStore old → AreAllIndexes [] db old.trees → last ≡ pos (sequence + length ws)
    → (due : AreDue (additions ws) name db sequence old.trees) → Changes dbs_tree (rows_at_sequence db last (old.trees dbs_tree)) old now → IsAhead (additions ws) [] name due.row old now
start_ahead ws name db sequence last old now was every at due change =
    let all = additions ws in
    let number : sequence + length ws ≡ sequence_of_database due.row + length all = omega (arith, due.counted, length-map ws addition_of) in
    let to : ℤ = pos (sequence_of_database due.row + length all) in
    first_ahead all name due.row old now was due.first (subst (λ n. AreAllIndexes [] n old.trees) (sym due.numbered) every)
    (subst (λ n. Changes dbs_tree (rows_at_sequence n to (old.trees dbs_tree)) old now) (sym due.numbered)
    (subst (λ s. Changes dbs_tree (rows_at_sequence db s (old.trees dbs_tree)) old now) (at ∙ ap pos number) change))

-- while writes are done, the tables are a store
pub still_store : (ws : List Write) (i : ℕ) (name : List ℕ) (db : ℤ) (sequence : ℕ) (old mid : Database) → i < length ws → sequence + length ws < 2 ^ 63
    → (due : AreDue (additions ws) name db sequence old.trees) → IsAhead (additions ws) (additions (take i ws)) name due.row old mid → IsStore mid
still_store ws i name db sequence old mid lt room due h =
    let count = length-map ws addition_of in
    ahead_store (additions ws) (additions (take i ws)) name due.row old mid h (omega (arith, count, length-map (take i ws) addition_of, length-take i ws, lt)) (omega (arith, due.counted, count, room))

-- the path of the next write has its place
pub place_ahead : (ws : List Write) (i : ℕ) (w : Write) (name : List ℕ) (db : ℤ) (sequence : ℕ) (next : ℤ) (old mid : Database) → i < length ws → w ≡ get_or ws i w → sequence + length ws < 2 ^ 63 → next ≡ pos (sequence + i + 1)
    → (due : AreDue (additions ws) name db sequence old.trees) → IsAhead (additions ws) (additions (take i ws)) name due.row old mid → HasPlaceFor (history_in_rows (mid.trees revs_tree) db (addition_of w).id) (addition_of w)
place_ahead ws i w name db sequence next old mid lt is room at due h =
    let may = may_in_turn ws i w name db sequence next old (with_databases h.back mid) lt is room at due h.written in
    subst (λ n. HasPlaceFor (history_in_rows (mid.trees revs_tree) n (addition_of w).id) (addition_of w)) (sym may.numbered) may.placed

plain_at : (ws : List Write) (i : ℕ) (w : Write) → i < length ws → ArePlain (additions ws) → is_design_id (addition_of (get_or ws i w)).id ≡ false
plain_at [] i w lt all = absurd (omega (arith, lt))
plain_at (v ∷ ws) Prim.Native.Nat.zero w lt all = all.0
plain_at (v ∷ ws) (suc i) w lt all = plain_at ws i w (omega (arith, lt)) all.1

-- the next write is done
pub next_ahead : (ws : List Write) (i : ℕ) (w : Write) (name : List ℕ) (db : ℤ) (sequence : ℕ) (next : ℤ) (old mid new : Database) → i < length ws → w ≡ get_or ws i w → sequence + length ws < 2 ^ 63 → next ≡ pos (sequence + i + 1)
    → ArePlain (additions ws) → (due : AreDue (additions ws) name db sequence old.trees) → IsAhead (additions ws) (additions (take i ws)) name due.row old mid → IsLawfulAddition (addition_of w)
    → IsPlacedWrite db next (written_in (history_in_rows (mid.trees revs_tree) db (addition_of w).id) (addition_of w)) mid new → IsAhead (additions ws) (additions (take (i + 1) ws)) name due.row old new
next_ahead ws i w name db sequence next old mid new lt is room at plain due h lawful write =
    let r = due.row in
    let a = addition_of w in
    let before = additions (take i ws) in
    let n = number_of r in
    let row = row_after r (length before) in
    let count : length before ≡ i = omega (arith, length-map (take i ws) addition_of, length-take i ws, lt) in
    let grown : length (additions (take (i + 1) ws)) ≡ i + 1 = omega (arith, length-map (take (i + 1) ws) addition_of, length-take (i + 1) ws, lt) in
    let number : sequence + i + 1 ≡ sequence_of_database r + length before + 1 = omega (arith, due.counted, count) in
    let to : ℤ = pos (sequence_of_database r + length before + 1) in
    let behind = rows_at_sequence n to h.back in
    let placed : IsPlacedWrite n to (written_in (history_in_rows (mid.trees revs_tree) n a.id) a) mid new =
    subst (λ d. IsPlacedWrite d to (written_in (history_in_rows (mid.trees revs_tree) d a.id) a) mid new) (sym due.numbered)
    (subst (λ s. IsPlacedWrite db s (written_in (history_in_rows (mid.trees revs_tree) db a.id) a) mid new) (at ∙ ap pos number) write) in
    let whole : IsWrite row (written_in (history_in_rows (mid.trees revs_tree) n a.id) a) (with_databases h.back mid) (with_databases behind new) = write_behind h.back row _ mid new placed in
    let last : sequence_of_database r + length (additions (take (i + 1) ws)) ≡ sequence_of_database r + length before + 1 = omega (arith, grown, count) in
    let followed = plain_followed row a n [] [] (with_databases h.back mid) (with_databases behind new)
    (record { store = h.written.store; indexed = none_postponed n (with_databases h.back mid).trees (same_rows mid.trees (with_databases h.back mid).trees refl refl refl h.indexed) }) h.none refl
    (ap (λ (x : Write). is_design_id (addition_of x).id) is ∙ plain_at ws i w lt plain) refl whole in
    record {
      back = behind;
      written = further ws i w name db sequence old (with_databases h.back mid) (with_databases behind new) lt is room due h.written lawful whole;
      ahead = placed_dbs n to _ mid new h.written.store.schema_is placed ∙ h.ahead ∙ sym (moved_twice n to (pos (sequence_of_database r + length (additions ws))) h.back);
      moved = λ some. ap (λ (k : ℕ). rows_at_sequence n (pos k) behind) last ∙ moved_twice n to to h.back;
      indexed = same_rows (with_databases behind new).trees new.trees refl refl refl (all_indexed n (with_databases behind new).trees followed.0.indexed);
      none = followed.1;
    }

-- all writes are done
pub last_ahead : (all : List Addition) (name : List ℕ) (r : Row) (old now : Database) → 0 < length all → IsAhead all all name r old now → HasWritten (writings_in (database_of_row old.trees r) all) name r old now
last_ahead all name r old now some h =
    written_over _ name r old (with_databases h.back now) now h.written h.written.store.schema_is (record { meta = refl; dbs = h.ahead ∙ h.moved some; docs = refl; revs = refl; locals = refl })
