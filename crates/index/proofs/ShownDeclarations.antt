-- A row of a declaration is shown as what a reader takes, and fields read back from their text.
use Rattle.index.proofs.Common.{AllByRecursion, IndexFault, IsDeclarationRow, IsRefused, IsShownDeclaration, List, [], all_weaker, ap, arith, fields_of, fields_text, index_name_of_row, number_of, refl, rowid, shown_declaration, column, true, Row, ℕ, ◌∷◌, ◌≡◌, and_from}
use Rattle.couch_json.proofs.ReadingBack.{reading-canonical}
use Rattle.couch_json.specs.FieldPath.{is_field_path}
use Rattle.couch_json.specs.Lawful.{AreLawfulItems}
use Rattle.couch_json.specs.Value.{array, items_depth}
use Rattle.index.specs.Rows.{path_items}
use Rattle.index.specs.declared.fault.IndexFault.TheVariants as fault
use Rattle.policy.specs.DesignDocuments.{are_paths}
use Rattle.std.specs.Prelude.{IsUtf8}

pub lawful_paths : (fields : List (List ℕ)) → AllByRecursion (λ path. (is_field_path path ≡ true) × IsUtf8 path) fields → AreLawfulItems (path_items fields)
lawful_paths [] all = tt
lawful_paths (path ∷ fields) all = (all.0.1, lawful_paths fields all.1)

path_list : (fields : List (List ℕ)) → AllByRecursion (λ path. (is_field_path path ≡ true) × IsUtf8 path) fields → are_paths (path_items fields) ≡ true
path_list [] all = refl
path_list (path ∷ fields) all = and_from (is_field_path path) (are_paths (path_items fields)) all.0.0 (path_list fields all.1)

pub flat : (fields : List (List ℕ)) → items_depth (path_items fields) ≡ 0
flat [] = refl
flat (path ∷ fields) = ap (Rattle.std.specs.Prelude.max 0) (flat fields)

pub shown_one : (r : Row) → IsDeclarationRow r → IsShownDeclaration (shown_declaration r)
shown_one r k =
    let none = flat (fields_of r) in
    record {
      width = refl;
      number = (number_of r, ap rowid k.is);
      name = (index_name_of_row r, ap (λ x. column x 4) k.is);
      fields = (
        fields_text (fields_of r),
        array (path_items (fields_of r)),
        ap (λ x. column x 5) k.is,
        reading-canonical (array (path_items (fields_of r))) (lawful_paths (fields_of r) k.paths) (omega (arith, none)),
        (path_items (fields_of r), refl, path_list (fields_of r) k.paths),
      );
    }

pub shown_rows : (rows : List Row) → AllByRecursion IsDeclarationRow rows → AllByRecursion (λ r. IsShownDeclaration (shown_declaration r)) rows
shown_rows rows = all_weaker IsDeclarationRow (λ r. IsShownDeclaration (shown_declaration r)) shown_one rows

-- a refusal tells the same of what another fact follows from
pub refused_of : (sound other : Type 0) (e : IndexFault) → (other → sound) → IsRefused sound e → IsRefused other e
refused_of sound other (fault.Sqlite e) f h = tt
refused_of sound other fault.Memory f h = tt
refused_of sound other fault.Damaged f h = λ o. h (f o)
