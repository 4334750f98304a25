-- A design document that has the winner that it had declares what it declared.
use Rattle.transactions.proofs.Common.{Addition, Bool, Database, Entry, HistoryContent, IsWrite, List, None, Option, Revision, Row, Some, [], ap, bytes_eq-Decides, cond, entry_of, false, filter, history_in_rows, inl, inr, is_known, is_row_of_document, map, map-append, number_of, option_map, refl, revision_cells, revision_cmp, revision_cmp_total, revision_of_row, revs_tree, schema, subst, sym, true, with_cells, ℕ, ℤ, ◌++◌, ◌∙◌, ◌∷◌, ◌≡◌}
use Rattle.std.proofs.Common.{ap₂}
use Rattle.std.proofs.lemmas.List.Elements.{filter-append}
use Rattle.std.specs.FinMap.{find, get, get-from_entries}
use Rattle.std.specs.Ordering.{int_eq}
use Rattle.std.specs.Prelude.{◌&&◌, ◌||◌, bytes_eq, if◌then◌else◌, is_some, option_and_then}
use Rattle.std.specs.List.{list_any}
use Rattle.couch_json.specs.Value.{Value}
use Rattle.index.proofs.Alike.{alike}
use Rattle.index.proofs.Rebuilt.{indexes_itself}
use Rattle.index.specs.Meaning.{declares_in, sees_in}
use Rattle.store.specs.Database.{DocumentWrite}
use Rattle.store.specs.Indexes.{declared_fields, held_by, winning_body}
use Rattle.store.specs.Pages.{live_rev_by}
use Rattle.tables.proofs.DocumentWriteSteps.{written}
use Rattle.tables.proofs.Laid.{winner_known}
use Rattle.tables.specs.Edits.{history_before, new_entries, with_revisions}
use Rattle.tree.proofs.Contents.{find-append, or}
use Rattle.tree.specs.DocumentId.{is_design_id}
use Rattle.tree.specs.History.{held_of, is_deleted, winner}
use Rattle.tree.specs.Outline.{marked_revision, marked_winner}
use Rattle.tree.specs.declared.entry.Held.{Held}
use Rattle.tree.specs.declared.marked_rev.MarkedRev.{MarkedRev}
use Rattle.tables.proofs.Common.{and_from, and_parts}
use Rattle.tables.specs.Schema.{decls_tree}
use Rattle.index.specs.Rows.{declared_by}
use Rattle.store.specs.Indexes.{index_fields_of}
use Rattle.transactions.proofs.IndexSteps.{Leaving, design_unseen, indexed_still, other_place, same_place, write_leaves}
use Rattle.transactions.specs.Indexing.{IsFollowed, IsIndexedStoreBut, IsNoted, is_postponed, write_in}

-- ---- histories alone

-- the body that a history shows, if this is its winner
abbrev body_at : HistoryContent → Option Revision → Option Value
body_at h o = option_map (λ (d : Held). d.body) (held_by h (live_rev_by h o))

abbrev body_held : Option Held → Option Value
body_held d = option_map (λ (x : Held). x.body) (cond (is_deleted d) None d)

held_body : (h : HistoryContent) (r : Revision) → body_at h (Some r) ≡ body_held (held_of h r)
held_body h r = ap (option_map (λ (d : Held). d.body)) (by (is_deleted (held_of h r)))
  where
    by : (b : Bool) → held_by h (cond b None (Some r)) ≡ cond b None (held_of h r)
    by true = refl
    by false = refl

without_mark : (h : HistoryContent) (o : Option Revision) → option_map (λ (m : MarkedRev). m.rev) (option_map (marked_revision h) o) ≡ o
without_mark h None = refl
without_mark h (Some r) = refl

module _ (h k : HistoryContent) (kept : (r : Revision) → is_known h r ≡ true → get k r ≡ get h r) where
  body_by : (o : Option Revision) → winner h ≡ o → body_at k o ≡ body_at h o
  body_by None is = refl
  body_by (Some r) is =
      held_body k r ∙ ap (λ (e : Option Entry). body_held (option_and_then (λ (x : Entry). x.held) e)) (kept r (winner_known h r is)) ∙ sym (held_body h r)

  -- a history that keeps what is known, and has the same winner, shows the same body
  pub same_body : marked_winner h ≡ marked_winner k → winning_body k ≡ winning_body h
  same_body same =
      let won : winner k ≡ winner h = sym (without_mark k (winner k)) ∙ ap (option_map (λ (m : MarkedRev). m.rev)) (sym same) ∙ without_mark h (winner h) in
      ap (body_at k) won ∙ body_by (winner h) refl

-- ---- the rows of revisions

abbrev node : Row → Revision × Entry
node r = (revision_of_row r, entry_of r)

first : (o p : Option Entry) → is_some o ≡ true → or o p ≡ o
first None p is = cc
first (Some x) p is = refl

one_more : (rows : List Row) (x : Row) (db : ℤ) (id : List ℕ) (r : Revision) → is_known (history_in_rows rows db id) r ≡ true → get (history_in_rows (rows ++ x ∷ []) db id) r ≡ get (history_in_rows rows db id) r
one_more rows x db id r known =
    let old = map node (filter (is_row_of_document db id) rows) in
    let new = map node (filter (is_row_of_document db id) (x ∷ [])) in
    get-from_entries revision_cmp_total (map node (filter (is_row_of_document db id) (rows ++ x ∷ []))) r
    ∙ ap (find revision_cmp r) (ap (map node) (filter-append (is_row_of_document db id) rows (x ∷ [])) ∙ map-append node (filter (is_row_of_document db id) rows) (filter (is_row_of_document db id) (x ∷ [])))
    ∙ find-append r old new
    ∙ first (find revision_cmp r old) (find revision_cmp r new) (ap is_some (sym (get-from_entries revision_cmp_total old r)) ∙ known)
    ∙ sym (get-from_entries revision_cmp_total old r)

-- rows that are put in leave what is known of a revision
several_more : (es : List (Revision × Entry)) (rows : List Row) (db : ℤ) (id : List ℕ) (r : Revision) → is_known (history_in_rows rows db id) r ≡ true → get (history_in_rows (with_revisions rows db id es) db id) r ≡ get (history_in_rows rows db id) r
several_more [] rows db id r known = refl
several_more (e ∷ es) rows db id r known =
    let one = one_more rows _ db id r known in
    several_more es (with_cells rows (revision_cells db id e.0 e.1)) db id r (ap is_some one ∙ known) ∙ one

-- so does a write
known_stays : (r : Row) (w : DocumentWrite) (a e : Database) → a.schema ≡ schema → IsWrite r w a e → (v : Revision) → is_known (history_in_rows (a.trees revs_tree) (number_of r) w.id) v ≡ true
    → get (history_in_rows (e.trees revs_tree) (number_of r) w.id) v ≡ get (history_in_rows (a.trees revs_tree) (number_of r) w.id) v
known_stays r w a e is h v known =
    ap (λ rows. get (history_in_rows rows (number_of r) w.id) v) (written r w a e is h).revs
    ∙ several_more (new_entries (history_before a.trees r w) w.write) (a.trees revs_tree) (number_of r) w.id v known

-- ---- a design document

abbrev fields_by : List ℕ → List ℕ → Option Value → Option (List (List ℕ))
fields_by design name body = if is_design_id design then option_and_then (λ b. declared_fields b name) body else None

-- a write that leaves the winner leaves what is declared
pub declared_still : (r : Row) (a : Addition) (old written : Database) → old.schema ≡ schema → IsWrite r (write_in old.trees r a) old written
    → marked_winner (history_in_rows (old.trees revs_tree) (number_of r) a.id) ≡ marked_winner (history_in_rows (written.trees revs_tree) (number_of r) a.id)
    → (name : List ℕ) → declares_in old.trees (number_of r) a.id name ≡ declares_in written.trees (number_of r) a.id name
declared_still r a old written is write same name =
    let H = history_in_rows (old.trees revs_tree) (number_of r) a.id in
    let K = history_in_rows (written.trees revs_tree) (number_of r) a.id in
    ap (fields_by a.id name) (sym (same_body H K (known_stays r (write_in old.trees r a) old written is write) same))

-- ---- what is postponed

both_false : (x y z w : Bool) → z ≡ (y || w) → (x && z) ≡ false → (x && w) ≡ false
both_false false y z w is out = refl
both_false true true z w is out = absurd (let yes : true ≡ false = sym is ∙ out in cc)
both_false true false z w is out = sym is ∙ out

-- a design document was written, which had this winner: its indexes wait, if it has another
module _ (r : Row) (a : Addition) (db : ℤ) (ids more : List (List ℕ)) (won : Option MarkedRev) (old written : Database) (was : IsIndexedStoreBut db ids old) (design : is_design_id a.id ≡ true) (numbered : db ≡ number_of r)
    (write : IsWrite r (write_in old.trees r a) old written) (before : won ≡ marked_winner (history_in_rows (old.trees revs_tree) db a.id)) where
  left : Leaving db a.id old.trees written.trees
  left = subst (λ n. Leaving n a.id old.trees written.trees) (sym numbered) (write_leaves r (write_in old.trees r a) old written was.store.schema_is write)

  -- what the rows of indexes say of other design documents is what is stored
  still : (n : ℤ) (other : List ℕ) → (int_eq n db && bytes_eq other a.id) ≡ false → is_postponed db ids n other ≡ false → (name : List ℕ) → declared_by (old.trees decls_tree) n other name ≡ declares_in written.trees n other name
  still n other apart out name = was.indexed.declared n other name out ∙ ap (λ h. index_fields_of other h name) (sym (left.others n other (other_place db a.id n other apart)))

  -- and of this one, where it has the same winner
  same_there : won ≡ marked_winner (history_in_rows (written.trees revs_tree) db a.id) → (n : ℤ) (other : List ℕ) → (int_eq n db && bytes_eq other a.id) ≡ true → is_postponed db ids n other ≡ false → (name : List ℕ)
      → declared_by (old.trees decls_tree) n other name ≡ declares_in written.trees n other name
  same_there after n other here out name =
      let place = same_place db a.id n other here in
      let same = sym before ∙ after in
      was.indexed.declared n other name out
      ∙ ap₂ (λ (m : ℤ) i. declares_in old.trees m i name) (place.0 ∙ numbered) place.1
      ∙ declared_still r a old written was.store.schema_is write (ap (λ n. marked_winner (history_in_rows (old.trees revs_tree) n a.id)) (sym numbered) ∙ same ∙ ap (λ n. marked_winner (history_in_rows (written.trees revs_tree) n a.id)) numbered) name
      ∙ ap₂ (λ (m : ℤ) i. declares_in written.trees m i name) (sym numbered ∙ sym place.0) (sym place.1)

  declared_after : IsNoted db a.id won ids more written.trees → (n : ℤ) (other name : List ℕ) → is_postponed db more n other ≡ false → declared_by (old.trees decls_tree) n other name ≡ declares_in written.trees n other name
  declared_after (inl noted) n other name out = by (int_eq n db && bytes_eq other a.id) refl
    where
      kept : is_postponed db ids n other ≡ false
      kept = ap (λ l. is_postponed db l n other) (sym noted.1) ∙ out

      by : (b : Bool) → (int_eq n db && bytes_eq other a.id) ≡ b → declared_by (old.trees decls_tree) n other name ≡ declares_in written.trees n other name
      by true here = same_there noted.0 n other here kept name
      by false apart = still n other apart kept name
  declared_after (inr with) n other name out = by (int_eq n db && bytes_eq other a.id) refl
    where
      by : (b : Bool) → (int_eq n db && bytes_eq other a.id) ≡ b → declared_by (old.trees decls_tree) n other name ≡ declares_in written.trees n other name
      by true here =
          let parts = and_parts (int_eq n db) (bytes_eq other a.id) here in
          let among : is_postponed db more n other ≡ true = and_from (int_eq n db) (list_any (bytes_eq other) more) parts.0 (with other ∙ ap (λ b. b || list_any (bytes_eq other) ids) parts.1) in
          absurd (let no : true ≡ false = sym among ∙ out in cc)
      by false apart = still n other apart (both_false (int_eq n db) (bytes_eq other a.id) (list_any (bytes_eq other) more) (list_any (bytes_eq other) ids) (with other) out) name

  designs_after : IsNoted db a.id won ids more written.trees → (id : List ℕ) → list_any (bytes_eq id) more ≡ true → is_design_id id ≡ true
  designs_after (inl noted) id is = was.indexed.designs id (ap (list_any (bytes_eq id)) (sym noted.1) ∙ is)
  designs_after (inr with) id is = by (bytes_eq id a.id) refl (sym (with id) ∙ is)
    where
      by : (b : Bool) → bytes_eq id a.id ≡ b → (b || list_any (bytes_eq id) ids) ≡ true → is_design_id id ≡ true
      by true own h = ap is_design_id ((bytes_eq-Decides id a.id).0 own) ∙ design
      by false other h = was.indexed.designs id h

  pub design_postponed : IsNoted db a.id won ids more written.trees → IsFollowed db more r (write_in old.trees r a) old written × (written.trees decls_tree ≡ old.trees decls_tree)
  design_postponed noted = (
    record {
      written = written;
      write = write;
      only = indexes_itself written;
      indexed = record {
        indexed = alike (declared_by (old.trees decls_tree)) (sees_in old.trees) written.trees (indexed_still (declared_by (old.trees decls_tree)) (sees_in old.trees) old.trees written.trees left.decls left.entries was.indexed.indexed)
            (declared_by (written.trees decls_tree)) (sees_in written.trees)
            (λ n other name. ap (λ rows. declared_by rows n other name) (sym left.decls)) (λ n other. design_unseen db a.id old.trees written.trees design left n other);
        declared = λ n other name out. ap (λ rows. declared_by rows n other name) left.decls ∙ declared_after noted n other name out;
        designs = designs_after noted;
      };
    },
    left.decls,
  )
