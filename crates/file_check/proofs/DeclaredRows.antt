-- What is told of one row of a declaration.
use Rattle.index.proofs.Common.{Blob, Bool, List, None, Option, Row, Some, Trees, ap, bytes_eq, bytes_eq-Decides, column, declares_in, design_of, false, fields_of, fields_text, database_of_declaration, index_name_of_row, list_any, option_map, refl, subst, sym, true, ℕ, ℤ, ◌∙◌, ◌≡◌}
use Rattle.index.proofs.EntryChanges.{same_bytes}
use Rattle.index.proofs.Spots.{any_in, at_in}
use Rattle.sqlite_value.specs.Order.{bytes}
use Rattle.std.specs.Prelude.{IfSome}
use Rattle.tables.proofs.Tables.{of_these}
use Rattle.tables.specs.Layout.{IsDocumentRow, IsWellFormed}
use Rattle.tables.specs.Listings.{SpellsId}
use Rattle.tables.specs.Rows.{id_of, is_row_of_document}
use Rattle.tables.specs.Schema.{docs_tree, revs_tree}
use Rattle.tree.proofs.Shown.{inside}
use Rattle.file_check.proofs.IndexRows.{own_text, spelled, undeclared}
use Rattle.store.proofs.Winnings.{fields_alone}
use Rattle.store.specs.Indexes.{index_fields_of}
use Rattle.store.specs.Winning.{winner_alone}
use Rattle.tables.specs.Rows.{history_in_rows}
use Rattle.tree.specs.History.{HistoryContent}
use Rattle.file_check.specs.Indexes.{ArePaths, HasDeclarationCells, IsAnswer, IsOwnDeclaration, Spells}

pub answer_as : (P Q : Type 0) (b : Bool) → (P → Q) → (Q → P) → IsAnswer P b → IsAnswer Q b
answer_as P Q true f g h = f h
answer_as P Q false f g h = λ q. h (g q)

-- what is no id of a document declares nothing
pub unnamed_undeclared : (trees : Trees) → IsWellFormed trees → (db : ℤ) (design name : List ℕ) → ¬ SpellsId (Blob design) → declares_in trees db design name ≡ None
unnamed_undeclared trees l db design name out = by (list_any (is_row_of_document db design) (trees docs_tree)) refl
  where
    by : (b : Bool) → list_any (is_row_of_document db design) (trees docs_tree) ≡ b → declares_in trees db design name ≡ None
    by false none = undeclared trees l db design name none
    by true here =
        let d = any_in (is_row_of_document db design) (trees docs_tree) here in
        let row = at_in (IsDocumentRow trees) (trees docs_tree) d.0 l.docs d.1 in
        let same = (of_these db design d.0 d.2).1 in
        absurd (out (id_of d.0, row.named, row.text, ap Blob (sym same)))

module _ (trees : Trees) (r : Row) (cells : HasDeclarationCells r) where
  -- the row says other fields, or the same
  pub spelled_so : (o : Option (List (List ℕ))) (t : List ℕ) (b : Bool) → declares_in trees (database_of_declaration r) (design_of r) (index_name_of_row r) ≡ o → Spells o (Some t) → b ≡ bytes_eq t (bytes (column r 5)) → IsAnswer (IsOwnDeclaration trees r) b
  spelled_so None t b is h same = absurd (let never = h.says in cc)
  spelled_so (Some fields) t true is h same =
      let text : t ≡ fields_text fields = inside t (fields_text fields) h.says in
      spelled trees r fields cells h.paths (sym ((bytes_eq-Decides t (bytes (column r 5))).0 (sym same)) ∙ text) is
  spelled_so (Some fields) t false is h same = λ own.
      let text : t ≡ fields_text fields = inside t (fields_text fields) h.says in
      let fields_are : fields ≡ fields_of r = inside fields (fields_of r) (sym is ∙ own.declared) in
      let never : bytes_eq t (bytes (column r 5)) ≡ true = same_bytes t (bytes (column r 5)) (text ∙ ap fields_text fields_are ∙ sym (own_text r own.row)) in
      let out = same in cc

  pub spelled_none : (o : Option (List (List ℕ))) → declares_in trees (database_of_declaration r) (design_of r) (index_name_of_row r) ≡ o → Spells o None → IsAnswer (IsOwnDeclaration trees r) false
  spelled_none None is h = λ own. let never = sym is ∙ own.declared in cc
  spelled_none (Some fields) is h = absurd (let never = h.says in cc)

-- nothing is declared
pub spells_nothing : (o : Option (List (List ℕ))) → o ≡ None → Spells o None
spells_nothing o is = subst (λ x. Spells x None) (sym is) (record { says = refl; paths = tt })

-- what is spelled of a history is so of what is stored
pub spells_stored : (trees : Trees) (db n : ℤ) (design i name m : List ℕ) (h : HistoryContent) (text : Option (List ℕ)) → text ≡ option_map fields_text (index_fields_of i h m) → IfSome (index_fields_of i h m) ArePaths
    → h ≡ winner_alone (history_in_rows (trees revs_tree) n i) → n ≡ db → i ≡ design → m ≡ name → Spells (declares_in trees db design name) text
spells_stored trees db n design i name m h text says paths is numbered designed named =
    let same : index_fields_of i h m ≡ declares_in trees db design name =
    ap (λ (k : HistoryContent). index_fields_of i k m) is ∙ fields_alone (history_in_rows (trees revs_tree) n i) i m ∙ (λ j. index_fields_of (designed j) (history_in_rows (trees revs_tree) (numbered j) (designed j)) (named j)) in
    record { says = says ∙ ap (option_map fields_text) same; paths = subst (λ o. IfSome o ArePaths) same paths }
