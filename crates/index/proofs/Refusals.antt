-- What a refusal tells of the tables as they were before the steps that came first.
use Rattle.index.proofs.Common.{AllByRecursion, AsksInside, Database, Err, Ghosts, HasCleanDisk, HasIndexRows, Held, IfErr, IndexFault, IsDeclarationRow, IsRefused, IsShownDeclaration, List, Ok, Result, Row, Text, Trees, all-filter, all_map, ap, arith, column, decls_tree, filter, map, refl, shown_declaration, state, subst, sym, ◌∙◌, ◌≡◌, Int, Bool, true, false, if◌then◌else◌, pos}
use Rattle.index.proofs.ShownDeclarations.{refused_of, shown_rows}
use Rattle.index.specs.Steps.{AreFit, Steps}
use Rattle.index.specs.declared.fault.IndexFault.TheVariants as fault
use Rattle.sqlite_value.specs.declared.value.Value.{Value}
use Rattle.tables.proofs.Laid.{is_lawful_winner, stored_winner}
use Rattle.tables.specs.Layout.{IsDocumentRow, IsWellFormed}
use Rattle.tables.specs.Listings.{IsListedDocument}
use Rattle.tables.specs.Rows.{id_of, is_gone_row, listed_document, sequence_of_row}
use Rattle.tables.specs.Shown.{IsCount}

-- what ends with this error is refused as the error tells
pub refused_as : {X : Type 0} (P : Type 0) (r : Result X IndexFault) (e : IndexFault) → r ≡ Err e → IsRefused P e → IfErr r (IsRefused P)
refused_as {X} P r e is h = subst (λ (q : Result X IndexFault). IfErr q (IsRefused P)) (sym is) h

-- a refusal for each of some things tells of one that there is
pub refused_any : (A : Type 0) (P : A → Type 0) (other : Type 0) (e : IndexFault) → (other → (a : A) × P a) → ((a : A) → IsRefused (P a) e) → IsRefused other e
refused_any A P other (fault.Sqlite e) f h = tt
refused_any A P other fault.Memory f h = tt
refused_any A P other fault.Damaged f h = λ o. let it = f o in h it.0 it.1

module _ {S : Type 0} (g : Ghosts S) where
  -- a step, and then a refusal
  pub refused_then : {X E : Type 0} (F F' : Database → Type 0) (G : Database → Database → Type 0) (a b c : Held S) (x : X) (e : IndexFault) → Steps {E = E} g F G a b (Ok x) → AsksInside (state g b) (state g c)
      → (HasCleanDisk (state g b) → F (state g a).now → G (state g a).now (state g b).now → F' (state g b).now) → IsRefused (AreFit g F' b c) e → IsRefused (AreFit g F a c) e
  refused_then F F' G a b c x e p asks next h =
      refused_of (AreFit g F' b c) (AreFit g F a c) e
      (λ it. let was : HasCleanDisk (state g b) = omega (arith, asks.survives.clean, it.0) in (it.0, next was it.1 (p.ok was it.1))) h

-- rows of declarations, as a query shows them, are read
pub shown_some : (b : Database) → HasIndexRows b → (p : Row → Bool) (rows : List Row) → rows ≡ map shown_declaration (filter p (b.trees decls_tree)) → AllByRecursion IsShownDeclaration rows
shown_some b fit p rows is =
    let decls = b.trees decls_tree in
    subst (AllByRecursion IsShownDeclaration) (sym is) (all_map IsShownDeclaration shown_declaration (filter p decls) (shown_rows (filter p decls) (all-filter IsDeclarationRow p decls fit.decls.each)))

counted : (v : Value) (b : Bool) → v ≡ Int (if b then pos 1 else pos 0) → IsCount v
counted v true is = (1, is)
counted v false is = (0, is)

-- so is the row of a document, as a list shows it
pub listed_one : (trees : Trees) → IsWellFormed trees → (d : Row) → IsDocumentRow trees d → IsListedDocument (listed_document d)
listed_one trees laid d k =
    let w = stored_winner trees laid.revs d k in
    record {
      width = refl;
      id = (id_of d, k.named, k.text, ap (λ x. column x 2) k.is);
      sequence = (sequence_of_row d, ap (λ x. column x 3) k.is);
      winner = (w.0, is_lawful_winner trees laid.revs d k, ap (λ x. column x 4) k.is ∙ ap Text (sym w.2));
      mark = counted (column d 5) (is_gone_row d) (ap (λ x. column x 5) k.is);
    }
