-- What one declaration more, or one fewer, makes of index rows.
-- This server's own: within a change, where the tables are laid out and the index rows are those of declarations over what is stored.
use Rattle.std.specs.Prelude.{◌≡◌, ℕ, ℤ, false, ◌&&◌, bytes_eq, if◌then◌else◌, find, List, ◌∷◌, Option, option_map, Some, None, Result, IfOk}
use Rattle.std.specs.List.{AllByRecursion, list_any}
use Rattle.std.specs.Ordering.{int_eq}
use Rattle.sqlite.specs.Effect.{Database}
use Rattle.sqlite.specs.Held.{Held, state}
use Rattle.sqlite.specs.State.{HasCleanDisk}
use Rattle.sqlite_trees.specs.declared.store.Store.{Ghosts}
use Rattle.sqlite_value.specs.Order.{Row}
use Rattle.tables.specs.Layout.{IsStore}
use Rattle.tables.specs.Rows.{next_number, with_cells}
use Rattle.tables.specs.Schema.{decls_tree, entries_tree}
use Rattle.tables.specs.Steps.{Changes}
use Rattle.index.specs.Calls.{ChangesIndexes}
use Rattle.index.specs.Filling.{HaveOwnNumbers, numbers_of}
use Rattle.index.specs.Indexed.{AreEntriesOf, AreIndexed, is_due, without_numbers}
use Rattle.index.specs.Meaning.{Declarations, Documents, sees_in}
use Rattle.index.specs.Rows.{declaration_at, declaration_cells, declared_by, design_of, fields_text, database_of_declaration, index_name_of_row, is_declaration_of}
use Rattle.index.specs.Layout.{AreDeclarationRows, HasIndexRows}
use Rattle.index.specs.Shown.{Declared, declared, declared_at}
use Rattle.index.specs.Steps.{Steps}
use Rattle.index.specs.declared.declaration.Declaration.{Declaration}

-- this index has these fields, or is not declared
abbrev pub with_index : Declarations → ℤ → List ℕ → List ℕ → Option (List (List ℕ)) → Declarations
with_index declares db design name fields d other n = if int_eq d db && (bytes_eq other design && bytes_eq n name) then fields else declares d other n

-- the index rows are those of these declarations, and no table but theirs has changed
pub record IsRebuilt (declares : Declarations) (sees : Documents) (old new : Database) : Type 0 where
  pub indexed : AreIndexed declares sees new.trees
  pub only : ChangesIndexes old new

-- the index rows are those of declarations over documents, and the declaration of this number is this row
pub record IsDeclared (declares : Declarations) (sees : Documents) (number : ℤ) (d : Row) (b : Database) : Type 0 where
  pub store : IsStore b
  pub indexed : AreIndexed declares sees b.trees
  pub found : declaration_at (b.trees decls_tree) number ≡ Some d

-- That index is not declared any more.
abbrev pub Undeclares : {S X E : Type 0} → Ghosts S → ℤ → Held S → Held S → Result X E → Type 0
Undeclares g number old new r =
    (declares : Declarations) (sees : Documents) (d : Row)
    → Steps g (IsDeclared declares sees number d) (IsRebuilt (with_index declares (database_of_declaration d) (design_of d) (index_name_of_row d) None) sees) old new r

-- What is found is what the row of this index says.
abbrev pub FindsDeclared : {S E : Type 0} → Ghosts S → ℤ → List ℕ → List ℕ → Held S → Held S → Result Declaration E → Type 0
FindsDeclared g db design name old new r =
    HasCleanDisk (state g new) → HasIndexRows (state g old).now → (d : Row) → find (is_declaration_of db design name) ((state g old).now.trees decls_tree) ≡ Some d → IfOk r (λ x. declared x ≡ declared_at d)

-- the rows are laid out, and this is that of the index
pub record HasDeclared (db : ℤ) (design name : List ℕ) (d : Row) (b : Database) : Type 0 where
  pub rows : HasIndexRows b
  pub found : find (is_declaration_of db design name) (b.trees decls_tree) ≡ Some d

-- the index rows are those of declarations over what is stored in this database
pub record IsRebuildable (declares : Declarations) (sees : Documents) (db : ℤ) (b : Database) : Type 0 where
  pub store : IsStore b
  pub indexed : AreIndexed declares sees b.trees
  pub seen : (id : List ℕ) → sees db id ≡ sees_in b.trees db id

-- the same, and this is what is found of the index
pub record IsFoundIn (declares : Declarations) (sees : Documents) (db : ℤ) (design name : List ℕ) (found : Option Declared) (b : Database) : Type 0 where
  pub fit : IsRebuildable declares sees db b
  pub found_is : found ≡ option_map declared_at (find (is_declaration_of db design name) (b.trees decls_tree))

-- The index that was found is not declared any more.
abbrev pub TakesOut : {S X E : Type 0} → Ghosts S → ℤ → List ℕ → List ℕ → Option Declared → Held S → Held S → Result X E → Type 0
TakesOut g db design name found old new r =
    (declares : Declarations) (sees : Documents)
    → Steps g (IsFoundIn declares sees db design name found) (IsRebuilt (with_index declares db design name None) sees) old new r

-- What is found is what the rows say of the index.
abbrev pub FindsStored : {S E : Type 0} → Ghosts S → ℤ → List ℕ → List ℕ → Held S → Held S → Result (Option Declaration) E → Type 0
FindsStored g db design name old new r =
    HasCleanDisk (state g new) → HasIndexRows (state g old).now → IfOk r (λ found. option_map declared found ≡ option_map declared_at (find (is_declaration_of db design name) ((state g old).now.trees decls_tree)))

-- ---- one after another

-- the index has these fields, or is not declared; each other one is declared as it was
pub record IsCleared (declares : Declarations) (sees : Documents) (db : ℤ) (design name : List ℕ) (fields : Option (List (List ℕ))) (old new : Database) : Type 0 where
  pub rebuilt : IsRebuilt (declared_by (new.trees decls_tree)) sees old new
  pub others : (d : ℤ) (other n : List ℕ) → (int_eq d db && (bytes_eq other design && bytes_eq n name)) ≡ false → declared_by (new.trees decls_tree) d other n ≡ declares d other n
  pub own : (has : List (List ℕ)) → declared_by (new.trees decls_tree) db design name ≡ Some has → fields ≡ Some has

-- The index is not declared any more, where it has other fields than these.
abbrev pub ClearsIndex : {S X E : Type 0} → Ghosts S → ℤ → List ℕ → List ℕ → Option (List (List ℕ)) → Held S → Held S → Result X E → Type 0
ClearsIndex g db design name fields old new r =
    (declares : Declarations) (sees : Documents)
    → Steps g (IsRebuildable declares sees db) (IsCleared declares sees db design name fields) old new r

-- the rows are laid out, and none is that of the index
pub record IsMissing (db : ℤ) (design name : List ℕ) (b : Database) : Type 0 where
  pub rows : HasIndexRows b
  pub none : declared_by (b.trees decls_tree) db design name ≡ None

-- The index has a row under the next number, with these fields.
abbrev pub Declares : {S X E : Type 0} → Ghosts S → ℤ → List ℕ → List ℕ → List (List ℕ) → Held S → Held S → Result X E → Type 0
Declares g db design name fields old new r =
    Steps g (IsMissing db design name) (λ a b. Changes decls_tree (with_cells (a.trees decls_tree) (declaration_cells db design name (fields_text fields))) a b) old new r

-- What is told of it is what that row says.
abbrev pub TellsDeclared : {S E : Type 0} → Ghosts S → ℤ → List ℕ → List ℕ → List (List ℕ) → Held S → Held S → Result Declaration E → Type 0
TellsDeclared g db design name fields old new r =
    HasCleanDisk (state g new) → IsMissing db design name (state g old).now → IfOk r (λ x. declared x ≡ record { number = next_number ((state g old).now.trees decls_tree); fields = fields })

-- the declaration is what its row says, which is one of this database
pub record HasItsRow (db : ℤ) (rows : List Row) (x : Declared) : Type 0 where
  pub row : Row
  pub found : declaration_at rows x.number ≡ Some row
  pub says : declared_at row ≡ x
  pub own : database_of_declaration row ≡ db

-- The index rows are those of these declarations over what is stored in this database, but that those indexes of a design document whose names
-- are left may be missing, and that the fresh ones have no entries.
pub record ArePartly (declares : Declarations) (sees : Documents) (db : ℤ) (design : List ℕ) (fields : List ℕ → Option (List (List ℕ))) (left : List (List ℕ)) (fresh : List Declared) (b : Database) : Type 0 where
  pub store : IsStore b
  pub decls : AreDeclarationRows (b.trees decls_tree)
  pub rest : (d : ℤ) (other n : List ℕ) → (int_eq d db && (bytes_eq other design && list_any (bytes_eq n) left)) ≡ false → declared_by (b.trees decls_tree) d other n ≡ declares d other n
  pub part : (n : List ℕ) (has : List (List ℕ)) → declared_by (b.trees decls_tree) db design n ≡ Some has → declares db design n ≡ Some has
  pub due : AllByRecursion (λ n. declares db design n ≡ fields n) left
  pub rows : AllByRecursion (HasItsRow db (b.trees decls_tree)) fresh
  pub numbers : HaveOwnNumbers fresh
  pub entries : AreEntriesOf (without_numbers (is_due sees (b.trees decls_tree)) (numbers_of fresh)) (b.trees entries_tree)
  pub seen : (id : List ℕ) → sees db id ≡ sees_in b.trees db id

-- the same after a change of the rows of indexes alone
pub record ArePartlySet (declares : Declarations) (sees : Documents) (db : ℤ) (design : List ℕ) (fields : List ℕ → Option (List (List ℕ))) (left : List (List ℕ)) (fresh : List Declared) (old new : Database) : Type 0 where
  pub now : ArePartly declares sees db design fields left fresh new
  pub only : ChangesIndexes old new

-- The index of this name is declared, where it is missing and these are its fields; it is one of the fresh ones then.
abbrev pub DeclaresMissing : {S X E : Type 0} → Ghosts S → ℤ → List ℕ → List ℕ → Option (List (List ℕ)) → List Declared → List Declared → Held S → Held S → Result X E → Type 0
DeclaresMissing g db design name fields before after old new r =
    (declares : Declarations) (sees : Documents) (f : List ℕ → Option (List (List ℕ))) (left : List (List ℕ)) → fields ≡ f name
    → Steps g (ArePartly declares sees db design f (name ∷ left) before) (ArePartlySet declares sees db design f left after) old new r

-- the same, and the index is missing
pub record IsLeftOut (declares : Declarations) (sees : Documents) (db : ℤ) (design name : List ℕ) (fields : List ℕ → Option (List (List ℕ))) (left : List (List ℕ)) (fresh : List Declared) (b : Database) : Type 0 where
  pub partly : ArePartly declares sees db design fields (name ∷ left) fresh b
  pub none : declared_by (b.trees decls_tree) db design name ≡ None

-- The index, which is missing, is declared with these fields.
abbrev pub AddsFresh : {S X E : Type 0} → Ghosts S → ℤ → List ℕ → List ℕ → List (List ℕ) → List Declared → List Declared → Held S → Held S → Result X E → Type 0
AddsFresh g db design name fields before after old new r =
    (declares : Declarations) (sees : Documents) (f : List ℕ → Option (List (List ℕ))) (left : List (List ℕ)) → Some fields ≡ f name
    → Steps g (IsLeftOut declares sees db design name f left before) (ArePartlySet declares sees db design f left after) old new r
