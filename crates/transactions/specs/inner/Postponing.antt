-- Design documents of a commit whose indexes follow them at its end: those of all of them are taken out, declared and filled together.
-- This server's own: what is made of the index rows of one design document is said by `index`.
use Rattle.std.specs.Prelude.{◌≡◌, ℕ, ℤ, bytes_eq, false, true, List, Option, Some}
use Rattle.std.specs.List.{list_any}
use Rattle.sqlite.specs.Effect.{Database}
use Rattle.store.specs.Indexes.{winning_body}
use Rattle.tables.specs.Rows.{history_in_rows}
use Rattle.tables.specs.Schema.{decls_tree, revs_tree}
use Rattle.index.specs.Calls.{ChangesIndexes}
use Rattle.index.specs.Declaring.{IsRebuilt}
use Rattle.index.specs.Indexed.{IsIndexed}
use Rattle.index.specs.Meaning.{Declarations, Documents, declared_if, with_declared}
use Rattle.index.specs.Rebuilding.{AreLeftUnfilled, AreUnfilled, IsDesignCleared, IsToDeclare}
use Rattle.index.specs.Rows.{declared_by}
use Rattle.index.specs.Shown.{Declared}
use Rattle.transactions.specs.Indexing.{is_postponed}

-- what the winner of a document declares, as it is stored
abbrev pub stored_fields : ℤ → List ℕ → Database → List ℕ → Option (List (List ℕ))
stored_fields db id b name = declared_if (winning_body (history_in_rows (b.trees revs_tree) db id)) name

-- each index that this design document has is as it is stored that it declares it; each other one is declared as it was
abbrev pub IsClearedAsStored : Declarations → Documents → ℤ → List ℕ → Database → Database → Type 0
IsClearedAsStored declares sees db id old new = IsDesignCleared declares sees db id (stored_fields db id old) old new

-- the same of all of these design documents but those that are left
pub record AreClearedAsStored (declares : Declarations) (sees : Documents) (db : ℤ) (ids left : List (List ℕ)) (old new : Database) : Type 0 where
  pub rebuilt : IsRebuilt (declared_by (new.trees decls_tree)) sees old new
  pub others : (d : ℤ) (design name : List ℕ) → is_postponed db ids d design ≡ false → declared_by (new.trees decls_tree) d design name ≡ declares d design name
  pub own : (id name : List ℕ) → list_any (bytes_eq id) ids ≡ true → list_any (bytes_eq id) left ≡ false → (has : List (List ℕ)) → declared_by (new.trees decls_tree) db id name ≡ Some has
      → stored_fields db id old name ≡ Some has

-- the fresh indexes wait for their entries, and each index that this design document has is as it is stored that it declares it
abbrev pub IsToDeclareAsStored : Declarations → Documents → ℤ → List ℕ → List Declared → Database → Type 0
IsToDeclareAsStored declares sees db id fresh b = IsToDeclare declares sees db id (stored_fields db id b) fresh b

-- then it declares what is stored that it declares
abbrev pub IsDeclaredAsStored : Declarations → Documents → ℤ → List ℕ → List Declared → Database → Database → Type 0
IsDeclaredAsStored declares sees db id fresh old new = AreLeftUnfilled (with_declared declares db id (stored_fields db id old)) sees db fresh old new

-- the fresh indexes wait for their entries, and each index that these design documents have is as it is stored that they declare it
pub record AreToDeclare (sees : Documents) (db : ℤ) (ids : List (List ℕ)) (fresh : List Declared) (b : Database) : Type 0 where
  pub unfilled : AreUnfilled (declared_by (b.trees decls_tree)) sees db fresh b
  pub part : (id name : List ℕ) → list_any (bytes_eq id) ids ≡ true → (has : List (List ℕ)) → declared_by (b.trees decls_tree) db id name ≡ Some has → stored_fields db id b name ≡ Some has

-- then all but those that are left declare what is stored that they declare; each other one declares what it declared
pub record AreDeclaredAsStored (sees : Documents) (db : ℤ) (ids left : List (List ℕ)) (fresh : List Declared) (old new : Database) : Type 0 where
  pub unfilled : AreUnfilled (declared_by (new.trees decls_tree)) sees db fresh new
  pub only : ChangesIndexes old new
  pub others : (d : ℤ) (design name : List ℕ) → is_postponed db ids d design ≡ false → declared_by (new.trees decls_tree) d design name ≡ declared_by (old.trees decls_tree) d design name
  pub waits : (id name : List ℕ) → list_any (bytes_eq id) left ≡ true → (has : List (List ℕ)) → declared_by (new.trees decls_tree) db id name ≡ Some has → stored_fields db id old name ≡ Some has
  pub own : (id name : List ℕ) → list_any (bytes_eq id) ids ≡ true → list_any (bytes_eq id) left ≡ false → declared_by (new.trees decls_tree) db id name ≡ stored_fields db id old name

-- the index rows are those of what is stored, and no table but theirs has changed
pub record IsCaughtUp (old new : Database) : Type 0 where
  pub indexed : IsIndexed new.trees
  pub only : ChangesIndexes old new
