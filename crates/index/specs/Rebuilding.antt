-- What a design document's declarations make of index rows.
-- This server's own: each name is set apart, those that the rows have and those that the body declares.
use Rattle.std.specs.Prelude.{◌≡◌, ℕ, ℤ, Bool, false, true, ◌&&◌, bytes_eq, codes, List, [], ◌∷◌, Option, None, Some, Result}
use Rattle.std.specs.List.{AllByRecursion, list_any}
use Rattle.std.specs.Ordering.{int_eq}
use Rattle.couch_json.specs.Value.{Value, Members, no_members, member, member_of}
use Rattle.policy.specs.DesignDocuments.{is_index_object}
use Rattle.policy.specs.Security.{is_absent_or}
use Rattle.sqlite.specs.Held.{Held}
use Rattle.sqlite_trees.specs.declared.store.Store.{Ghosts}
use Rattle.sqlite.specs.Effect.{Database}
use Rattle.tables.specs.Layout.{IsStore}
use Rattle.tables.specs.Schema.{decls_tree, entries_tree}
use Rattle.index.specs.Calls.{ChangesIndexes}
use Rattle.index.specs.Declaring.{ArePartly, ArePartlySet, HasItsRow, IsRebuildable, IsRebuilt}
use Rattle.index.specs.Filling.{HaveOwnNumbers, numbers_of}
use Rattle.index.specs.Indexed.{AreEntriesOf, is_due, without_numbers}
use Rattle.index.specs.Layout.{AreDeclarationRows}
use Rattle.index.specs.Meaning.{Declarations, Documents, declared_if, sees_in, with_declared}
use Rattle.index.specs.Rows.{declared_by, design_of, is_at_home}
use Rattle.index.specs.Shown.{Declared}
use Rattle.index.specs.Steps.{Steps}
use Rattle.sqlite_value.specs.Order.{Row, bytes, column}
use Rattle.tree.specs.ShownDocument.{body_members}

-- The indexes of a design document are those that its body declares, where it has one.
abbrev pub Rebuilds : {S X E : Type 0} → Ghosts S → ℤ → List ℕ → Option Value → Held S → Held S → Result X E → Type 0
Rebuilds g db design body old new r =
    (declares : Declarations) (sees : Documents)
    → Steps g (IsRebuildable declares sees db) (IsRebuilt (with_declared declares db design (declared_if body)) sees) old new r

-- ---- steps of it

-- each index of these names of a design document is as the body declares it, or is not declared; each other one is declared as it was
pub record AreCleared (declares : Declarations) (sees : Documents) (db : ℤ) (design : List ℕ) (fields : List ℕ → Option (List (List ℕ))) (names : List (List ℕ)) (old new : Database) : Type 0 where
  pub rebuilt : IsRebuilt (declared_by (new.trees decls_tree)) sees old new
  pub others : (d : ℤ) (other n : List ℕ) → (int_eq d db && (bytes_eq other design && list_any (bytes_eq n) names)) ≡ false → declared_by (new.trees decls_tree) d other n ≡ declares d other n
  pub own : (n : List ℕ) → list_any (bytes_eq n) names ≡ true → (has : List (List ℕ)) → declared_by (new.trees decls_tree) db design n ≡ Some has → fields n ≡ Some has

-- The indexes of these names that have other fields than the body declares are not declared any more.
abbrev pub ClearsNames : {S X E : Type 0} → Ghosts S → ℤ → List ℕ → Option Value → List (List ℕ) → Held S → Held S → Result X E → Type 0
ClearsNames g db design body names old new r =
    (declares : Declarations) (sees : Documents)
    → Steps g (IsRebuildable declares sees db) (AreCleared declares sees db design (declared_if body) names) old new r

-- The indexes of these names that are missing are declared as the body declares them, and are among the fresh ones.
abbrev pub DeclaresNames : {S X E : Type 0} → Ghosts S → ℤ → List ℕ → Option Value → List (List ℕ) → List Declared → List Declared → Held S → Held S → Result X E → Type 0
DeclaresNames g db design body names before after old new r =
    (declares : Declarations) (sees : Documents)
    → Steps g (ArePartly declares sees db design (declared_if body) names before) (ArePartlySet declares sees db design (declared_if body) [] after) old new r

-- ---- a design document, which may be one of several

-- each index of a design document that is declared is as its body declares it; each other one is declared as it was
pub record IsDesignCleared (declares : Declarations) (sees : Documents) (db : ℤ) (design : List ℕ) (fields : List ℕ → Option (List (List ℕ))) (old new : Database) : Type 0 where
  pub rebuilt : IsRebuilt (declared_by (new.trees decls_tree)) sees old new
  pub others : (d : ℤ) (other n : List ℕ) → (int_eq d db && bytes_eq other design) ≡ false → declared_by (new.trees decls_tree) d other n ≡ declares d other n
  pub own : (n : List ℕ) (has : List (List ℕ)) → declared_by (new.trees decls_tree) db design n ≡ Some has → fields n ≡ Some has

-- The indexes of a design document that its body declares with other fields, or doesn't declare, are not declared any more.
abbrev pub ClearsDesign : {S X E : Type 0} → Ghosts S → ℤ → List ℕ → Option Value → Held S → Held S → Result X E → Type 0
ClearsDesign g db design body old new r =
    (declares : Declarations) (sees : Documents)
    → Steps g (IsRebuildable declares sees db) (IsDesignCleared declares sees db design (declared_if body)) old new r

-- the index rows are those of these declarations over what is stored in this database, but that the fresh ones have no entries
pub record AreUnfilled (declares : Declarations) (sees : Documents) (db : ℤ) (fresh : List Declared) (b : Database) : Type 0 where
  pub store : IsStore b
  pub decls : AreDeclarationRows (b.trees decls_tree)
  pub declared : (d : ℤ) (design name : List ℕ) → declared_by (b.trees decls_tree) d design name ≡ declares d design name
  pub rows : AllByRecursion (HasItsRow db (b.trees decls_tree)) fresh
  pub numbers : HaveOwnNumbers fresh
  pub entries : AreEntriesOf (without_numbers (is_due sees (b.trees decls_tree)) (numbers_of fresh)) (b.trees entries_tree)
  pub seen : (id : List ℕ) → sees db id ≡ sees_in b.trees db id

-- the same after a change of the rows of indexes alone
pub record AreLeftUnfilled (declares : Declarations) (sees : Documents) (db : ℤ) (fresh : List Declared) (old new : Database) : Type 0 where
  pub now : AreUnfilled declares sees db fresh new
  pub only : ChangesIndexes old new

-- and each index of a design document that is declared has these fields
pub record IsToDeclare (declares : Declarations) (sees : Documents) (db : ℤ) (design : List ℕ) (fields : List ℕ → Option (List (List ℕ))) (fresh : List Declared) (b : Database) : Type 0 where
  pub unfilled : AreUnfilled declares sees db fresh b
  pub part : (n : List ℕ) (has : List (List ℕ)) → declares db design n ≡ Some has → fields n ≡ Some has

-- The indexes of a design document that are missing are declared as its body declares them, and are among the fresh ones.
abbrev pub DeclaresDesign : {S X E : Type 0} → Ghosts S → ℤ → List ℕ → Option Value → List Declared → List Declared → Held S → Held S → Result X E → Type 0
DeclaresDesign g db design body before after old new r =
    (declares : Declarations) (sees : Documents)
    → Steps g (IsToDeclare declares sees db design (declared_if body) before) (AreLeftUnfilled (with_declared declares db design (declared_if body)) sees db after) old new r

-- ---- names

abbrev pub names_of : Members → List (List ℕ)
names_of no_members = []
names_of (member name v ms) = name ∷ names_of ms

abbrev pub names_in : Option Value → List (List ℕ)
names_in None = []
names_in (Some v) = names_of (body_members v)

-- the names under which a body may declare indexes
abbrev pub declared_names : Option Value → List (List ℕ)
declared_names None = []
declared_names (Some body) = names_in (member_of body (codes "indexes"))

-- the indexes of a body are of their form, if it has any
abbrev pub has_good_indexes : Option Value → Bool
has_good_indexes None = true
has_good_indexes (Some body) = is_absent_or is_index_object (member_of body (codes "indexes"))

-- the row is that of an index of the design document
abbrev pub is_of_design : ℤ → List ℕ → Row → Bool
is_of_design db design r = is_at_home db r && bytes_eq (design_of r) design

-- the name of an index, as a query shows it
abbrev pub shown_name : Row → List ℕ
shown_name s = bytes (column s 1)
