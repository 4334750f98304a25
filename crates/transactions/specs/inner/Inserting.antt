-- Revisions of a document that are put in one after another, as far as they have come.
-- This server's own: what rows they make is said by `tables`.
use Rattle.std.specs.Prelude.{◌≡◌, ℕ, ℤ, Bool, IsTrue, IsUtf8, not, List, filter, Some, Result, OnOk}
use Rattle.std.specs.List.{AllByRecursion}
use Rattle.couch_json.specs.Lawful as json
use Rattle.store.specs.Writing.{Addition}
use Rattle.sqlite_trees.specs.declared.store.Store.{Ghosts}
use Rattle.sqlite.specs.Effect.{Database}
use Rattle.sqlite.specs.Held.{Held, state}
use Rattle.sqlite.specs.State.{HasCleanDisk}
use Rattle.tree.specs.DocumentId.{is_document_id}
use Rattle.tree.specs.History.{HistoryContent, ancestors_of_parent, held_of, is_deleted, is_known, winner}
use Rattle.tree.specs.Nodes.{entries_before}
use Rattle.tree.specs.Revision.{Revision, is_revision, text_of}
use Rattle.tree.specs.Write.{head}
use Rattle.tree.specs.declared.entry.Entry.{Entry}
use Rattle.tables.specs.Edits.{AreInserted}
use Rattle.tables.specs.Layout.{AreKeyed}
use Rattle.tables.specs.Rows.{rows_with_document}
use Rattle.tables.specs.Schema.{docs_tree, revs_tree, schema}
use Rattle.tables.specs.Steps.{Changes}

-- those of the revisions that the history doesn't know
abbrev pub unknown_in : HistoryContent → List (Revision × Entry) → List (Revision × Entry)
unknown_in h es = filter (λ e. not (is_known h e.0)) es

-- what the write's own path says of its revisions: the last of it follows the parent that the write names, where that is known
abbrev pub entries_of : HistoryContent → Addition → List (Revision × Entry)
entries_of h a = entries_before (Some (record { deleted = a.deleted; body = a.body })) a.path (head (ancestors_of_parent h a.parent))

-- what a write brings is lawful
pub record IsLawfulAddition (a : Addition) : Type 0 where
  pub named : IsTrue (is_document_id a.id)
  pub text : IsUtf8 a.id
  pub path : AllByRecursion (λ v. IsTrue (is_revision v)) a.path
  pub body : json.IsLawful a.body

-- these revisions of a document are put in
abbrev pub InsertsAll : {S X E : Type 0} → Ghosts S → List (Revision × Entry) → ℤ → List ℕ → Held S → Held S → Result X E → Type 0
InsertsAll g es db id old new r =
    HasCleanDisk (state g new) → old.schema ≡ schema → AreKeyed ((state g old).now.trees revs_tree)
    → OnOk r (AreInserted es db id (state g old).now (state g new).now)

-- the tables are fit for more, and what is left makes of them what all of it makes of those at the start
pub record IsOnTheWay (all left : List (Revision × Entry)) (db : ℤ) (id : List ℕ) (old now : Database) : Type 0 where
  pub schema_is : now.schema ≡ schema
  pub fit : AreKeyed (now.trees revs_tree)
  pub goes_on : (end : Database) → AreInserted left db id now end → AreInserted all db id old end

-- the document has this row now: in the place of the one of its id, or behind all others
abbrev pub IsPlaced : ℤ → List ℕ → ℤ → List ℕ → Bool → Database → Database → Type 0
IsPlaced db id sequence winner deleted old new = Changes docs_tree (rows_with_document db id sequence winner deleted (old.trees docs_tree)) old new

-- the text of the best revision, and whether that is deleted
pub record IsBest (h : HistoryContent) (text : List ℕ) (deleted : Bool) : Type 0 where
  pub best : Revision
  pub best_is : winner h ≡ Some best
  pub text_is : text ≡ text_of best
  pub deleted_is : deleted ≡ is_deleted (held_of h best)
