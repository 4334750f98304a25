-- When indexes are filled with the entries of documents, and what they have then.
-- This server's own: indexes that are declared anew have no entries, and get one of each document.
use Rattle.std.specs.Prelude.{◌≡◌, ◌≢◌, ℕ, ℤ, false, ◌&&◌, bytes_eq, if◌then◌else◌, List, map, Option, Result}
use Rattle.std.specs.List.{AllByRecursion, list_any}
use Rattle.std.specs.Ordering.{int_eq}
use Rattle.couch_json.specs.Value.{Value}
use Rattle.sqlite.specs.Effect.{Database}
use Rattle.sqlite.specs.Held.{Held}
use Rattle.sqlite_trees.specs.Tree.{IsAscending}
use Rattle.sqlite_trees.specs.declared.store.Store.{Ghosts}
use Rattle.tables.specs.Layout.{IsStore}
use Rattle.tables.specs.Schema.{entries_tree}
use Rattle.index.specs.Calls.{HasEntries}
use Rattle.index.specs.Indexed.{AreEntriesOf, Entries, without_numbers}
use Rattle.index.specs.Meaning.{is_key, key_if_seen, sees_in}
use Rattle.index.specs.Shown.{Declared}
use Rattle.index.specs.Steps.{Steps}

-- of the declarations of these numbers the entries of these documents are missing
abbrev pub without_ids : Entries → List ℤ → List (List ℕ) → Entries
without_ids due numbers ids n k id = if list_any (int_eq n) numbers && list_any (bytes_eq id) ids then false else due n k id

abbrev pub numbers_of : List Declared → List ℤ
numbers_of xs = map (λ (x : Declared). x.number) xs

-- no two of these declarations have one number
abbrev pub HaveOwnNumbers : List Declared → Type 0
HaveOwnNumbers xs = IsAscending (λ (x : Declared) (y : Declared). x.number ≢ y.number) xs

-- each of these declarations has the key of the document of this id, of which this is seen, if it has one, and no other of that document
abbrev pub HaveKeyOf : List Declared → List ℕ → Option Value → Entries → Type 0
HaveKeyOf xs id seen due = AllByRecursion (λ (x : Declared). (k : List ℕ) → due x.number k id ≡ is_key (key_if_seen x.fields seen) k) xs

-- these indexes have no entries; `due` is what they have with those of all documents
pub record AreBare (db : ℤ) (xs : List Declared) (due : Entries) (b : Database) : Type 0 where
  pub store : IsStore b
  pub numbers : HaveOwnNumbers xs
  pub entries : AreEntriesOf (without_numbers due (numbers_of xs)) (b.trees entries_tree)
  pub says : (id : List ℕ) → HaveKeyOf xs id (sees_in b.trees db id) due

abbrev pub Fills : {S X E : Type 0} → Ghosts S → ℤ → List Declared → Held S → Held S → Result X E → Type 0
Fills g db xs old new r = (due : Entries) → Steps g (AreBare db xs due) (HasEntries due) old new r
