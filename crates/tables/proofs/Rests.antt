-- What a change leaves of other tables and of rows that it doesn't touch, and tables that say the same.
use Rattle.tables.proofs.Common.{[], AllByRecursion, AreLawful, AreNumbered, Changes, Contents, HistoryContent, IsAscending, IsDatabaseNumber, IsDatabaseRow, IsDocumentRow, IsWellFormed, IsLaidAt, IsLawful, IsLocalRow, IsRevisionRow, IsStore, List, None, Option, Revision, Row, Schema, Some, Trees, all_weaker, any_is_found, ap, arith, cond, contents_in, database_row_at, db_of, dbs_tree, decls_tree, docs_tree, documents_in_rows, entries_tree, eqb, eqb_tells, from_entries, held_of, history_in_rows, id_of, inl, inr, is_deleted, is_gone_row, is_known, is_row_of_document, is_some, json_in_cell, sequence_of_database, list_any, locals_in, locals_tree, map, meta_tree, name_of, number_of, option_map, refl, revs_tree, same, schema, security_of, sequence_of_row, subst, sym, text_cell, text_of, true, read_or_null, version_row, winner, winner_text, ℕ, ℤ, ◌∙◌, ◌∷◌, ◌≡◌, ◌≢◌, ◌≤◌}
use Rattle.std.specs.Ordering.{int_eq}
use Rattle.couch_json.specs.Nesting.{max_open}
use Rattle.couch_json.specs.Value as json
use Rattle.couch_json.proofs.ReadingBack.{reading-canonical}
use Rattle.sqlite.specs.Effect as sqlite
use Rattle.sqlite_keyed.proofs.SliceLemmas.{is_some-map}

-- ---- the other tables

pub record Leaves (tree : ℕ) (old new : Trees) : Type 0 where
  pub meta : meta_tree ≢ tree → new meta_tree ≡ old meta_tree
  pub dbs : dbs_tree ≢ tree → new dbs_tree ≡ old dbs_tree
  pub docs : docs_tree ≢ tree → new docs_tree ≡ old docs_tree
  pub revs : revs_tree ≢ tree → new revs_tree ≡ old revs_tree
  pub locals : locals_tree ≢ tree → new locals_tree ≡ old locals_tree
  pub decls : decls_tree ≢ tree → new decls_tree ≡ old decls_tree
  pub entries : entries_tree ≢ tree → new entries_tree ≡ old entries_tree

pub leaves : (tree : ℕ) (rows : List Row) (old new : sqlite.Database) → old.schema ≡ schema → Changes tree rows old new → Leaves tree old.trees new.trees
leaves tree rows old new is c =
    let others = subst (λ (s : Schema). AllByRecursion (λ t. t.tree ≢ tree → new.trees t.tree ≡ old.trees t.tree) s.tables) is c.others in
    record { meta = others.0; dbs = others.1.0; docs = others.1.1.0; revs = others.1.1.1.0; locals = others.1.1.1.1.0; decls = others.1.1.1.1.1.0; entries = others.1.1.1.1.1.1.0 }

-- ---- rows that stay

-- the length of the database of a number
abbrev pub length_at : List Row → ℤ → Option ℕ
length_at rows n = option_map sequence_of_database (database_row_at rows n)

number_kept : (rows now : List Row) (n : ℤ) → length_at now n ≡ length_at rows n → list_any (λ r. int_eq (number_of r) n) rows ≡ true
    → list_any (λ r. int_eq (number_of r) n) now ≡ true
number_kept rows now n same there =
    any_is_found _ now ∙ sym (is_some-map sequence_of_database (database_row_at now n)) ∙ ap is_some same ∙ is_some-map sequence_of_database (database_row_at rows n) ∙ sym (any_is_found _ rows) ∙ there

within_kept : (o p : Option Row) (d : Row) (n : ℕ) → option_map sequence_of_database p ≡ option_map sequence_of_database o → ((e : Row) → o ≡ Some e → n ≤ sequence_of_database e) → p ≡ Some d → n ≤ sequence_of_database d
within_kept None p d n same within is = absurd (let none = sym same ∙ ap (option_map sequence_of_database) is in cc)
within_kept (Some e) p d n same within is =
    let both : ◌≡◌ {A = Option ℕ} (Some (sequence_of_database e)) (Some (sequence_of_database d)) = sym same ∙ ap (option_map sequence_of_database) is in
    let one : sequence_of_database e ≡ sequence_of_database d = cc in
    omega (arith, within e refl, one)

module _ (old new : Trees) where
  pub document_kept : (r : Row) → length_at (new dbs_tree) (db_of r) ≡ length_at (old dbs_tree) (db_of r)
      → history_in_rows (new revs_tree) (db_of r) (id_of r) ≡ history_in_rows (old revs_tree) (db_of r) (id_of r) → IsDocumentRow old r → IsDocumentRow new r
  document_kept r same history k = record {
    is = k.is;
    there = number_kept (old dbs_tree) (new dbs_tree) (db_of r) same k.there;
    named = k.named;
    apart = k.apart;
    text = k.text;
    positive = k.positive;
    within = λ d. within_kept (database_row_at (old dbs_tree) (db_of r)) (database_row_at (new dbs_tree) (db_of r)) d (sequence_of_row r) same k.within;
    won = subst (λ (h : HistoryContent). option_map text_of (winner h) ≡ Some (winner_text r)) (sym history) k.won;
    gone = subst (λ (h : HistoryContent). (w : Revision) → winner h ≡ Some w → is_gone_row r ≡ is_deleted (held_of h w)) (sym history) k.gone;
  }

  pub revision_kept : (r : Row) → list_any (is_row_of_document (db_of r) (id_of r)) (new docs_tree) ≡ list_any (is_row_of_document (db_of r) (id_of r)) (old docs_tree)
      → history_in_rows (new revs_tree) (db_of r) (id_of r) ≡ history_in_rows (old revs_tree) (db_of r) (id_of r) → IsRevisionRow old r → IsRevisionRow new r
  revision_kept r same history k = record {
    is = k.is;
    there = same ∙ k.there;
    lawful = k.lawful;
    first = k.first;
    follows = λ p up. ap (λ (h : HistoryContent). is_known h p) history ∙ k.follows p up;
    body = k.body;
    spelled = k.spelled;
  }

  pub local_kept : (r : Row) → length_at (new dbs_tree) (db_of r) ≡ length_at (old dbs_tree) (db_of r) → IsLocalRow old r → IsLocalRow new r
  local_kept r same k = record {
    is = k.is;
    there = number_kept (old dbs_tree) (new dbs_tree) (db_of r) same k.there;
    named = k.named;
    local = k.local;
  }

-- ---- tables with the same rows

pub record AreSame (a b : Trees) : Type 0 where
  pub meta : b meta_tree ≡ a meta_tree
  pub dbs : b dbs_tree ≡ a dbs_tree
  pub docs : b docs_tree ≡ a docs_tree
  pub revs : b revs_tree ≡ a revs_tree
  pub locals : b locals_tree ≡ a locals_tree

-- the same but for the version
pub record HoldSame (a b : Trees) : Type 0 where
  pub dbs : b dbs_tree ≡ a dbs_tree
  pub docs : b docs_tree ≡ a docs_tree
  pub revs : b revs_tree ≡ a revs_tree
  pub locals : b locals_tree ≡ a locals_tree

hold_same : (a b : Trees) → AreSame a b → HoldSame a b
hold_same a b s = record { dbs = s.dbs; docs = s.docs; revs = s.revs; locals = s.locals }

pub unchanged : (a : Trees) → AreSame a a
unchanged a = record { meta = refl; dbs = refl; docs = refl; revs = refl; locals = refl }

-- the tables, where one has these rows
abbrev pub with_rows : Trees → ℕ → List Row → Trees
with_rows trees tree rows t = cond (eqb t tree) rows (trees t)

-- a further change
pub after_change : (a : Trees) (b c : sqlite.Database) (tree : ℕ) (rows now : List Row) → b.schema ≡ schema → AreSame a b.trees → Changes tree rows b c → rows ≡ now → AreSame (with_rows a tree now) c.trees
after_change a b c tree rows now is same h rows_are =
    let rest = leaves tree rows b c is h in
    record { meta = at meta_tree rest.meta same.meta; dbs = at dbs_tree rest.dbs same.dbs; docs = at docs_tree rest.docs same.docs; revs = at revs_tree rest.revs same.revs; locals = at locals_tree rest.locals same.locals }
  where
    at : (t : ℕ) → (t ≢ tree → c.trees t ≡ b.trees t) → b.trees t ≡ a t → c.trees t ≡ with_rows a tree now t
    at t other was = elim (eqb_tells t tree) [
      | inl here ↦ ap c.trees here.1 ∙ h.rows ∙ rows_are ∙ ap (λ x. cond x now (a t)) (sym here.0)
      | inr away ↦ other away.1 ∙ was ∙ ap (λ x. cond x now (a t)) (sym away.0)
    ]

-- the databases that rows of these tables hold
abbrev pub contents_of : List Row → List Row → List Row → List Row → Contents
contents_of dbs docs revs locals =
    from_entries (map (λ r. (name_of r, record { length = sequence_of_database r; security = security_of r; locals = locals_in locals (number_of r); documents = documents_in_rows docs revs (number_of r) })) dbs)

module _ (a b : Trees) (same : HoldSame a b) where
  pub rows_hold : contents_in b ≡ contents_in a
  rows_hold = λ i. contents_of (same.dbs i) (same.docs i) (same.revs i) (same.locals i)

  -- at whatever version
  pub laid_over : (m n : ℕ) → b meta_tree ≡ version_row n ∷ [] → IsLaidAt m a → IsLaidAt n b
  laid_over m n version h =
      let lengths : (n : ℤ) → length_at (b dbs_tree) n ≡ length_at (a dbs_tree) n = λ n. ap (λ l. length_at l n) same.dbs in
      let histories : (n : ℤ) (id : List ℕ) → history_in_rows (b revs_tree) n id ≡ history_in_rows (a revs_tree) n id = λ n id. ap (λ l. history_in_rows l n id) same.revs in
      record {
        version = version;
        dbs_numbered = subst AreNumbered (sym same.dbs) h.dbs_numbered;
        docs_numbered = subst AreNumbered (sym same.docs) h.docs_numbered;
        revs_numbered = subst AreNumbered (sym same.revs) h.revs_numbered;
        locals_numbered = subst AreNumbered (sym same.locals) h.locals_numbered;
        dbs = subst (AllByRecursion IsDatabaseRow) (sym same.dbs) h.dbs;
        names_apart = subst (IsAscending _) (sym same.dbs) h.names_apart;
        docs = subst (AllByRecursion (IsDocumentRow b)) (sym same.docs)
            (all_weaker (IsDocumentRow a) (IsDocumentRow b) (λ r. document_kept a b r (lengths (db_of r)) (histories (db_of r) (id_of r))) (a docs_tree) h.docs);
        ids_apart = subst (IsAscending _) (sym same.docs) h.ids_apart;
        sequences_apart = subst (IsAscending _) (sym same.docs) h.sequences_apart;
        revs = subst (AllByRecursion (IsRevisionRow b)) (sym same.revs)
            (all_weaker (IsRevisionRow a) (IsRevisionRow b) (λ r. revision_kept a b r (ap (list_any (is_row_of_document (db_of r) (id_of r))) same.docs) (histories (db_of r) (id_of r))) (a revs_tree) h.revs);
        revisions_apart = subst (IsAscending _) (sym same.revs) h.revisions_apart;
        locals = subst (AllByRecursion (IsLocalRow b)) (sym same.locals)
            (all_weaker (IsLocalRow a) (IsLocalRow b) (λ r. local_kept a b r (lengths (db_of r))) (a locals_tree) h.locals);
        local_ids_apart = subst (IsAscending _) (sym same.locals) h.local_ids_apart;
        lawful = subst (λ c. ∥ AreLawful c ∥₁) (sym rows_hold) h.lawful;
      }

module _ (a b : Trees) (same : AreSame a b) where
  pub contents_same : contents_in b ≡ contents_in a
  contents_same = rows_hold a b (hold_same a b same)

  pub laid_same : IsWellFormed a → IsWellFormed b
  laid_same h = laid_over a b (hold_same a b same) 2 2 (same.meta ∙ h.version) h

-- so they are those of a store
pub store_of : (a : Trees) (new : sqlite.Database) → new.schema ≡ schema → AreSame a new.trees → IsWellFormed a → IsStore new
store_of a new is same h = record { schema_is = is; laid = laid_same a new.trees same h }

-- where the rows of databases alone are others, the tables are laid out if these rows are
pub dbs_laid : (trees : Trees) (rows : List Row) → IsWellFormed trees → AreNumbered rows → AllByRecursion IsDatabaseRow rows → IsAscending (λ a b. name_of a ≢ name_of b) rows
    → ((n : ℤ) → IsDatabaseNumber trees n → length_at rows n ≡ length_at (trees dbs_tree) n) → ∥ AreLawful (contents_in (with_rows trees dbs_tree rows)) ∥₁ → IsWellFormed (with_rows trees dbs_tree rows)
dbs_laid trees rows h numbered each apart lengths lawful =
    let new = with_rows trees dbs_tree rows in
    record {
      version = h.version;
      dbs_numbered = numbered;
      docs_numbered = h.docs_numbered;
      revs_numbered = h.revs_numbered;
      locals_numbered = h.locals_numbered;
      dbs = each;
      names_apart = apart;
      docs = all_weaker (IsDocumentRow trees) (IsDocumentRow new) (λ r k. document_kept trees new r (lengths (db_of r) k.there) refl k) (trees docs_tree) h.docs;
      ids_apart = h.ids_apart;
      sequences_apart = h.sequences_apart;
      revs = all_weaker (IsRevisionRow trees) (IsRevisionRow new) (λ r. revision_kept trees new r refl refl) (trees revs_tree) h.revs;
      revisions_apart = h.revisions_apart;
      locals = all_weaker (IsLocalRow trees) (IsLocalRow new) (λ r k. local_kept trees new r (lengths (db_of r) k.there) k) (trees locals_tree) h.locals;
      local_ids_apart = h.local_ids_apart;
      lawful = lawful;
    }

-- ---- texts

-- the canonical text of a lawful value spells it
pub spelled : (v : json.Value) → IsLawful v → json.depth v ≤ max_open → json_in_cell (text_cell v) ≡ v
spelled v lawful shallow = ap read_or_null (reading-canonical v lawful shallow)
