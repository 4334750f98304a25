-- What the layout says of new tables and of the rows that are shown.
use Rattle.tables.proofs.Common.{AllByRecursion, AreLawful, AreNumbered, Bool, Err, HistoryContent, Int, IsAscending, IsBetter, IsCount, IsDatabaseRow, IsDocumentRow, IsWellFormed, IsLocalRow, IsNew, IsRevisionRow, IsShownDatabase, IsShownDocument, IsShownHash, IsShownLocal, IsShownOutline, IsShownRevision, IsStore, IsTrue, List, MatchOption, None, Ok, Option, Result, Revision, Row, Some, SpellsJson, SpellsParentOf, Text, Trees, Value, [], all-filter, all_weaker, and_parts, ap, arith, body_cell, bytes, canonical, column, cond, contents_in, count_in_cell, database_of_row, db_of, dbs_tree, docs_tree, entry_of, eq_by_cmp, false, filter, greatest_number, has_all, history_in_rows, id_of, if◌then◌else◌, inl, inr, inside, is_gone_row, is_held, is_known, is_leaf, is_held_deleted, is_row_of_document, is_revision, is_set, is_some, json_in_cell, sequence_of_database, local_of, locals_tree, map, name_of, nat_le, nat_tests, number_of, option_map, parent_cell, parent_in, pos, refl, revision_cmp, revision_cmp_total, revision_of_row, revs_tree, rowid, same, schema, sequence_of_row, shown_database, shown_document, shown_hash, shown_local, shown_outline, shown_revision, slice_cmp, subst, sym, text_of, tied, true, read_or_null, winner, winner_text, ℕ, ℤ, ◌<◌, ◌^◌, ◌∙◌, ◌∷◌, ◌≡◌, ◌⊎◌}
use Rattle.std.specs.FinMap as map
use Rattle.std.specs.Ordering.{nat_cmp}
use Rattle.couch_json.specs.Reading.{reading}
use Rattle.couch_json.specs.Value as json
use Rattle.couch_json.specs.declared.fault.JsonFault.{JsonFault}
use Rattle.couch_json.proofs.ReadingBack.{reading-canonical}
use Rattle.tree.proofs.Leaves.{winner_is_best}
use Rattle.store.specs.Database.{Database}
use Rattle.tables.proofs.RowMaps.{mapped_some}
use Rattle.sqlite.specs.Effect as sqlite
use Rattle.sqlite_schema.specs.Names.{same_name}
use Rattle.sqlite_trees.specs.Sound.{same_name as same_text}

-- ---- new tables

none_there : (name : List ℕ) (db : Database) → map.get {R = slice_cmp nat_cmp} map.empty name ≡ Some db → ⊥
none_there name db is = let none = map.get-empty {X = Database} (slice_cmp nat_cmp) name in absurd (cc)

pub nothing : (db : sqlite.Database) → IsNew db → contents_in db.trees ≡ map.empty
nothing db h = ap (λ rows. map.from_entries (map (λ r. (name_of r, database_of_row db.trees r)) rows)) h.dbs

none_numbered : AreNumbered []
none_numbered = record { numbers = tt; rising = tt }

pub holds : (db : sqlite.Database) → IsNew db → IsStore db
holds db h =
    let none : (rows : List Row) → rows ≡ [] → AreNumbered rows = λ rows is. subst AreNumbered (sym is) none_numbered in
    record {
      schema_is = h.schema_is;
      laid = record {
        version = h.version;
        dbs_numbered = none _ h.dbs;
        docs_numbered = none _ h.docs;
        revs_numbered = none _ h.revs;
        locals_numbered = none _ h.locals;
        dbs = subst (AllByRecursion IsDatabaseRow) (sym h.dbs) tt;
        names_apart = subst (IsAscending _) (sym h.dbs) tt;
        docs = subst (AllByRecursion (IsDocumentRow db.trees)) (sym h.docs) tt;
        ids_apart = subst (IsAscending _) (sym h.docs) tt;
        sequences_apart = subst (IsAscending _) (sym h.docs) tt;
        revs = subst (AllByRecursion (IsRevisionRow db.trees)) (sym h.revs) tt;
        revisions_apart = subst (IsAscending _) (sym h.revs) tt;
        locals = subst (AllByRecursion (IsLocalRow db.trees)) (sym h.locals) tt;
        local_ids_apart = subst (IsAscending _) (sym h.locals) tt;
        lawful = subst (λ c. ∥ AreLawful c ∥₁) (sym (nothing db h)) ∣ (λ name d is. absurd (none_there name d is)) ∣₁;
      };
    }

pub ours_has_all : has_all schema ≡ true
unfolding same_name same_text
ours_has_all = refl

-- ---- what is shown

-- a cell with the text of what it says spells that
spells : (v : Value) → v ≡ Text (canonical (json_in_cell v)) → SpellsJson v
spells v is = go (reading (bytes v)) refl
  where
    own : v ≡ Text (bytes v)
    own = is ∙ ap Text (sym (ap bytes is))

    go : (r : Result json.Value JsonFault) → reading (bytes v) ≡ r → SpellsJson v
    go (Ok w) read = (bytes v, w, own, read)
    go (Err fault) read =
        let empty : json_in_cell v ≡ json.null = ap read_or_null read in
        let text : bytes v ≡ canonical json.null = ap bytes is ∙ ap canonical empty in
        let back = sym (ap reading text) ∙ read in
        let whole = reading-canonical json.null tt (omega arith) in
        absurd (cc)

pub shown_databases : (trees : Trees) → IsWellFormed trees → AllByRecursion (λ r. IsShownDatabase (shown_database r)) (trees dbs_tree)
shown_databases trees h =
    all_weaker IsDatabaseRow (λ r. IsShownDatabase (shown_database r))
    (λ r k. record { width = refl; number = (number_of r, ap rowid k.is); security = spells (column r 3) (ap (λ x. column x 3) k.is); sequence = (sequence_of_database r, ap (λ x. column x 4) k.is) }) (trees dbs_tree) h.dbs

pub shown_locals : (trees : Trees) → IsWellFormed trees → AllByRecursion (λ r. IsShownLocal (shown_local r)) (trees locals_tree)
shown_locals trees h =
    all_weaker (IsLocalRow trees) (λ r. IsShownLocal (shown_local r))
    (λ r k. record { width = refl; number = ((local_of r).number, ap (λ x. column x 3) k.is, omega (arith, k.local.last)); body = spells (column r 4) (ap (λ x. column x 4) k.is) }) (trees locals_tree) h.locals

-- ---- known revisions are lawful

abbrev IsLawfulRow : Row → Type 0
IsLawfulRow r = is_revision (revision_of_row r) ≡ true

found_lawful : (rows : List Row) (q : Revision) → AllByRecursion IsLawfulRow rows → is_some (map.find revision_cmp q (map (λ r. (revision_of_row r, entry_of r)) rows)) ≡ true → is_revision q ≡ true
found_lawful [] q all found = absurd (cc)
found_lawful (r ∷ rows) q all found = go (eq_by_cmp revision_cmp q (revision_of_row r)) refl found (found_lawful rows q all.1)
  where
    go : (b : Bool) → eq_by_cmp revision_cmp q (revision_of_row r) ≡ b → is_some (cond b (Some (entry_of r)) (map.find revision_cmp q (map (λ s. (revision_of_row s, entry_of s)) rows))) ≡ true
        → (is_some (map.find revision_cmp q (map (λ s. (revision_of_row s, entry_of s)) rows)) ≡ true → is_revision q ≡ true) → is_revision q ≡ true
    go true tied more rest = ap is_revision (same q (revision_of_row r) tied) ∙ all.0
    go false tied more rest = rest more

-- a known revision of laid rows is lawful
pub known_lawful : (trees : Trees) (rows : List Row) (db : ℤ) (id : List ℕ) (q : Revision) → AllByRecursion (IsRevisionRow trees) rows → is_known (history_in_rows rows db id) q ≡ true → is_revision q ≡ true
known_lawful trees rows db id q all known =
    found_lawful (filter (is_row_of_document db id) rows) q (all-filter IsLawfulRow (is_row_of_document db id) rows (all_weaker (IsRevisionRow trees) IsLawfulRow (λ r k. k.lawful) rows all))
    (ap is_some (sym (map.get-from_entries revision_cmp_total (map (λ r. (revision_of_row r, entry_of r)) (filter (is_row_of_document db id) rows)) q)) ∙ known)

small : (n : ℕ) → nat_le n greatest_number ≡ true → n < 2 ^ 32
small n h = grind (arith, nat_tests)

counted : (v : Value) (b : Bool) → v ≡ Int (if b then pos 1 else pos 0) → IsCount v
counted v true is = (1, is)
counted v false is = (0, is)

module _ (trees : Trees) (laid : AllByRecursion (IsRevisionRow trees) (trees revs_tree)) (r : Row) (k : IsRevisionRow trees r) where
  shown_parent : (parent : Option Revision) → (entry_of r).parent ≡ parent → SpellsParentOf (count_in_cell (column r 3)) (column r 5)
  shown_parent None is = inl (ap (λ x. column x 5) k.is ∙ ap parent_cell is)
  shown_parent (Some p) is =
      let cell : column r 5 ≡ Text p.hash = ap (λ x. column x 5) k.is ∙ ap parent_cell is in
      let number = ap (λ (q : Revision). q.number) (sym (inside _ p (sym (ap (parent_in (count_in_cell (column r 3))) cell) ∙ is))) in
      inr (p, known_lawful trees (trees revs_tree) (db_of r) (id_of r) p laid (k.follows p is), number, cell)

  shown_body : is_set (column r 6) ≡ true → SpellsJson (column r 8)
  shown_body set =
      spells (column r 8)
      (ap (λ x. column x 8) k.is ∙ ap (λ b. body_cell (option_map (λ (d : Bool × json.Value). record { deleted = d.0; body = d.1 }) (if b then Some (is_set (column r 7), json_in_cell (column r 8)) else None))) set)

  shown_revision_is : IsShownRevision (shown_revision r)
  shown_revision_is = record {
    width = refl;
    number = ((revision_of_row r).number, ap (λ x. column x 3) k.is, small (revision_of_row r).number (and_parts _ _ (and_parts _ _ k.lawful).0).1);
    hash = (revision_of_row r, k.lawful, refl, ap (λ x. column x 4) k.is);
    parent = shown_parent (entry_of r).parent refl;
    held = record { held = counted (column r 6) (is_held (entry_of r).held) (ap (λ x. column x 6) k.is); mark = λ set. counted (column r 7) (is_held_deleted (entry_of r).held) (ap (λ x. column x 7) k.is); body = shown_body };
  }

  shown_outline_is : IsShownOutline (shown_outline r)
  shown_outline_is = record {
    width = refl;
    number = shown_revision_is.number;
    hash = shown_revision_is.hash;
    parent = shown_revision_is.parent;
    held = record { held = shown_revision_is.held.held; mark = shown_revision_is.held.mark };
  }

pub shown_hashes : (trees : Trees) → IsWellFormed trees → AllByRecursion (λ r. IsShownHash (shown_hash r)) (trees revs_tree)
shown_hashes trees h =
    all_weaker (IsRevisionRow trees) (λ r. IsShownHash (shown_hash r))
    (λ r k. let is = shown_revision_is trees h.revs r k in record { width = refl; number = is.number; hash = is.hash }) (trees revs_tree) h.revs

pub shown_outlines : (trees : Trees) → IsWellFormed trees → AllByRecursion (λ r. IsShownOutline (shown_outline r)) (trees revs_tree)
shown_outlines trees h = all_weaker (IsRevisionRow trees) (λ r. IsShownOutline (shown_outline r)) (shown_outline_is trees h.revs) (trees revs_tree) h.revs

pub shown_revisions : (trees : Trees) → IsWellFormed trees → AllByRecursion (λ r. IsShownRevision (shown_revision r)) (trees revs_tree)
shown_revisions trees h = all_weaker (IsRevisionRow trees) (λ r. IsShownRevision (shown_revision r)) (shown_revision_is trees h.revs) (trees revs_tree) h.revs

-- ---- the winner of a document

pub winner_known : (h : HistoryContent) (w : Revision) → winner h ≡ Some w → is_known h w ≡ true
winner_known h w is = (and_parts _ _ (subst (λ o. MatchOption o ((r : Revision) → IsTrue (is_leaf h r) → ⊥) (λ r. IsTrue (is_leaf h r) × ((s : Revision) → IsTrue (is_leaf h s) → (s ≡ r) ⊎ IsBetter h r s))) is (winner_is_best h)).0).0

module _ (trees : Trees) (laid : AllByRecursion (IsRevisionRow trees) (trees revs_tree)) (r : Row) (k : IsDocumentRow trees r) where
  abbrev pub history : HistoryContent
  history = history_in_rows (trees revs_tree) (db_of r) (id_of r)

  -- the stored text is that of the winner
  pub stored_winner : (w : Revision) × (winner history ≡ Some w) × (text_of w ≡ winner_text r)
  stored_winner = mapped_some text_of (winner history) (winner_text r) k.won

  pub is_lawful_winner : is_revision stored_winner.0 ≡ true
  is_lawful_winner = known_lawful trees (trees revs_tree) (db_of r) (id_of r) stored_winner.0 laid (winner_known history stored_winner.0 stored_winner.1)

  shown_document_is : IsShownDocument (shown_document r)
  shown_document_is = record {
    width = refl;
    sequence = (sequence_of_row r, ap (λ x. column x 3) k.is);
    winner = (stored_winner.0, is_lawful_winner, ap (λ x. column x 4) k.is ∙ ap Text (sym stored_winner.2));
    mark = counted (column r 5) (is_gone_row r) (ap (λ x. column x 5) k.is);
  }

pub shown_documents : (trees : Trees) → IsWellFormed trees → AllByRecursion (λ r. IsShownDocument (shown_document r)) (trees docs_tree)
shown_documents trees h = all_weaker (IsDocumentRow trees) (λ r. IsShownDocument (shown_document r)) (shown_document_is trees h.revs) (trees docs_tree) h.docs
