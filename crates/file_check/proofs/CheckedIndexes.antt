-- The checks of the three tables are a check of all rows of indexes.
use Rattle.std.proofs.Common.{◌≡◌, inl, inr, None, Ok, Option, Result, Some, subst}
use Rattle.std.specs.List.{AllByRecursion}
use Rattle.sqlite.specs.Effect.{Database}
use Rattle.sqlite.specs.Held.{Held, state}
use Rattle.sqlite_trees.specs.Tree.{Trees}
use Rattle.sqlite_trees.specs.declared.store.Store.{Ghosts}
use Rattle.tables.specs.Schema.{decls_tree, docs_tree, entries_tree}
use Rattle.file_check.proofs.CheckSteps.{checks_so, checks_then}
use Rattle.file_check.proofs.IndexRows.{declaration_rows, indexed}
use Rattle.file_check.specs.Checks.{Checks}
use Rattle.file_check.specs.Indexes.{AreChecked, AreIndexesChecked, IsCheckable, IsIndexedDocument, IsOwnDeclaration, IsOwnEntry, IsReadable}
use Rattle.file_check.specs.declared.finding.Finding.{Finding}
use Rattle.file_check.specs.declared.finding.Table.TheVariants as table

-- where each declaration is its own, the rows of indexes are laid out
pub readable : (d : Database) → IsCheckable d → AllByRecursion (IsOwnDeclaration d.trees) (d.trees decls_tree) → IsReadable d
readable d fit own = record {
  store = fit.store;
  rows = record { schema_is = fit.cells.schema_is; decls = declaration_rows d.trees fit.store.laid fit.cells.decls own; entries = fit.cells.entries };
}

pub of_documents : (d : Database) (f : Finding) → AreChecked table.Documents (d.trees docs_tree) (IsIndexedDocument d.trees) (Some f) → AreIndexesChecked d.trees (Some f)
of_documents d f h = inr (inl h)

pub of_entries : (d : Database) → IsCheckable d → AllByRecursion (IsOwnDeclaration d.trees) (d.trees decls_tree) → AllByRecursion (IsIndexedDocument d.trees) (d.trees docs_tree) → (found : Option Finding)
    → AreChecked table.Entries (d.trees entries_tree) (IsOwnEntry d.trees) found → AreIndexesChecked d.trees found
of_entries d fit own documents None h = indexed d.trees fit.store.laid fit.cells.decls fit.cells.entries (record { decls = own; documents = documents; entries = h })
of_entries d fit own documents (Some f) h = inr (inr h)

-- ---- the checks, one after another

abbrev pub OfDeclarations : Trees → Option Finding → Type 0
OfDeclarations trees found = AreChecked table.Declarations (trees decls_tree) (IsOwnDeclaration trees) found

abbrev pub OfDocuments : Trees → Option Finding → Type 0
OfDocuments trees found = AreChecked table.Documents (trees docs_tree) (IsIndexedDocument trees) found

abbrev pub OfEntries : Trees → Option Finding → Type 0
OfEntries trees found = AreChecked table.Entries (trees entries_tree) (IsOwnEntry trees) found

-- each declaration is its own, and this is told
abbrev pub OwnAnd : {X : Type 0} → (Trees → X → Type 0) → Trees → X → Type 0
OwnAnd A trees x = AllByRecursion (IsOwnDeclaration trees) (trees decls_tree) × A trees x

module _ {S E : Type 0} (g : Ghosts S) where
  -- none is, and what is behind is checked
  pub behind_declarations : {X D : Type 0} {B : Trees → X → Type 0} {a b c : Held S} {r : Result X D} (found : Option Finding) → Checks {E = E} g IsCheckable a b OfDeclarations (Ok found) → found ≡ None → Checks g IsReadable b c B r
      → Checks g IsCheckable a c (OwnAnd B) r
  behind_declarations {B = B} {a = a} found p is q =
      let d = (state g a).now in
      checks_then g IsCheckable IsReadable {A = OfDeclarations} {B = B} {C = OwnAnd B} p q (λ fit h. readable d fit (subst (OfDeclarations d.trees) is h)) (λ fit h x k. (subst (OfDeclarations d.trees) is h, k))

  -- a document is found
  pub document_found : {D : Type 0} {a b : Held S} (found : Option Finding) (f : Finding) → Checks {E = E} g IsCheckable a b (OwnAnd OfDocuments) (Ok found) → found ≡ Some f → Checks {E = D} g IsCheckable a b AreIndexesChecked (Ok (Some f))
  document_found {a = a} found f p is =
      let d = (state g a).now in
      checks_so g IsCheckable IsCheckable {A = OwnAnd OfDocuments} AreIndexesChecked p (λ fit. fit) (λ fit h. of_documents d f (subst (OfDocuments d.trees) is h.1))

  -- none is, and the entries are checked
  pub behind_documents : {D : Type 0} {a b c : Held S} {r : Result (Option Finding) D} (found : Option Finding) → Checks {E = E} g IsCheckable a b (OwnAnd OfDocuments) (Ok found) → found ≡ None → Checks g IsReadable b c OfEntries r
      → Checks g IsCheckable a c AreIndexesChecked r
  behind_documents {a = a} found p is q =
      let d = (state g a).now in
      checks_then g IsCheckable IsReadable {A = OwnAnd OfDocuments} {B = OfEntries} {C = AreIndexesChecked} p q (λ fit h. readable d fit h.0) (λ fit h x k. of_entries d fit h.0 (subst (OfDocuments d.trees) is h.1) x k)
