-- Revisions that are put in one after another are one change, and what the statements of a write make of all tables.
use Rattle.tables.proofs.Common.{AllByRecursion, AreInserted, AreKeyed, Changes, Database, DocumentWrite, Entry, IsWrite, List, Revision, Row, Schema, Trees, [], all_both, all_of, ap, dbs_tree, docs_tree, held_of, history_after, history_before, is_deleted, sequence_of_database, new_entries, number_of, pos, refl, revision_cells, revs_tree, rows_at_sequence, rows_with_document, schema, subst, sym, text_of, with_cells, with_revisions, ℕ, ℤ, ◌+◌, ◌∙◌, ◌∷◌, ◌≡◌, ◌≢◌}
use Rattle.tables.proofs.Kept.{keyed-with_cells}
use Rattle.tables.proofs.Rests.{AreSame, after_change, unchanged, with_rows}

-- two changes of one table are one
pub changes_then : (tree : ℕ) (mid now : List Row) (a b c : Database) → Changes tree mid a b → Changes tree now b c → Changes tree now a c
changes_then tree mid now a b c h k =
    let later = subst (λ (s : Schema). AllByRecursion (λ t. t.tree ≢ tree → c.trees t.tree ≡ b.trees t.tree) s.tables) h.schema k.others in
    record {
      schema = k.schema ∙ h.schema;
      rows = k.rows;
      others = all_both (λ t. t.tree ≢ tree → b.trees t.tree ≡ a.trees t.tree) (λ t. t.tree ≢ tree → c.trees t.tree ≡ b.trees t.tree) (λ t. t.tree ≢ tree → c.trees t.tree ≡ a.trees t.tree)
          (λ t before after apart. after apart ∙ before apart) a.schema.tables h.others later;
    }

no_change : (tree : ℕ) (a : Database) → Changes tree (a.trees tree) a a
no_change tree a = record { schema = refl; rows = refl; others = all_of (λ t. t.tree ≢ tree → a.trees t.tree ≡ a.trees t.tree) (λ t apart. refl) a.schema.tables }

pub revisions_changed : (es : List (Revision × Entry)) (db : ℤ) (id : List ℕ) (a c : Database) → AreInserted es db id a c → Changes revs_tree (with_revisions (a.trees revs_tree) db id es) a c
revisions_changed [] db id a c same = subst (Changes revs_tree (a.trees revs_tree) a) same (no_change revs_tree a)
revisions_changed (e ∷ es) db id a c h =
    changes_then revs_tree _ _ a h.0 c h.1
    (subst (λ (rows : List Row). Changes revs_tree (with_revisions rows db id es) h.0 c) h.1.rows (revisions_changed es db id h.0 c h.2))

pub keyed-with_revisions : (es : List (Revision × Entry)) (rows : List Row) (db : ℤ) (id : List ℕ) → AreKeyed rows → AreKeyed (with_revisions rows db id es)
keyed-with_revisions [] rows db id h = h
keyed-with_revisions (e ∷ es) rows db id h = keyed-with_revisions es (with_cells rows (revision_cells db id e.0 e.1)) db id (keyed-with_cells rows db id _ h)

pub inserted_fit : (es : List (Revision × Entry)) (db : ℤ) (id : List ℕ) (a c : Database) → AreInserted es db id a c → AreKeyed (a.trees revs_tree) → AreKeyed (c.trees revs_tree)
inserted_fit es db id a c h fit = subst AreKeyed (sym (revisions_changed es db id a c h).rows) (keyed-with_revisions es (a.trees revs_tree) db id fit)

-- the tables after a write, by those before it
abbrev pub after_write : Trees → Row → DocumentWrite → Revision → Trees
after_write t r w best =
    let db = number_of r in
    let documents = rows_with_document db w.id (pos (sequence_of_database r + 1)) (text_of best) (is_deleted (held_of (history_after t r w) best)) (t docs_tree) in
    with_rows (with_rows (with_rows t revs_tree (with_revisions (t revs_tree) db w.id (new_entries (history_before t r w) w.write))) docs_tree documents) dbs_tree (rows_at_sequence db (pos (sequence_of_database r + 1)) (t dbs_tree))

pub written : (r : Row) (w : DocumentWrite) (a e : Database) → a.schema ≡ schema → (h : IsWrite r w a e) → AreSame (after_write a.trees r w h.best) e.trees
written r w a e is h =
    let one = revisions_changed (new_entries (history_before a.trees r w) w.write) (number_of r) w.id a h.inserted h.revisions in
    let schema_b = one.schema ∙ is in
    let b = after_change a.trees a h.inserted revs_tree _ _ is (unchanged a.trees) one refl in
    let c = after_change _ h.inserted h.placed docs_tree _ _ schema_b b h.places
    (ap (rows_with_document (number_of r) w.id (pos (sequence_of_database r + 1)) (text_of h.best) (is_deleted (held_of (history_after a.trees r w) h.best))) b.docs) in
    after_change _ h.placed e dbs_tree _ _ (h.places.schema ∙ schema_b) c h.advances (ap (rows_at_sequence (number_of r) (pos (sequence_of_database r + 1))) c.dbs)
