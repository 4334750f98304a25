-- The names that the rows have and those that the body declares are all that matter.
use Rattle.index.proofs.Common.{Bool, List, None, Option, Row, Some, [], and_from, ap, bytes_eq, cond, design_of, false, filter, find, database_of_declaration, if◌then◌else◌, int_eq, is_declaration_of, list_any, map, option_map, refl, shown_declaration, sym, true, ℕ, ℤ, ◌||◌, ◌∙◌, ◌∷◌, ◌≡◌, index_name_of_row}
use Rattle.couch_json.specs.Value.{Members, Value, member, member_at, member_of, no_members, object}
use Rattle.index.proofs.DeclarationStatements.{of_index}
use Rattle.index.proofs.EntryChanges.{same_bytes, same_number}
use Rattle.index.specs.Meaning.{declared_if}
use Rattle.index.specs.Rebuilding.{declared_names, is_of_design, names_of, shown_name}
use Rattle.policy.specs.DesignDocuments.{is_index_object}
use Rattle.std.proofs.Common.{Equal, Greater, Less, Ordering, codes, is_eq}
use Rattle.std.proofs.lemmas.Map.Text.{is_eq-slice_cmp}
use Rattle.std.specs.Cmp.Lexicographic.{slice_cmp}
use Rattle.std.specs.Ordering.{match_ordering, nat_cmp}
use Rattle.store.specs.Indexes.{fields_in, indexes_if}
use Rattle.tree.specs.ShownDocument.{body_members}

-- what is not among the names is no member
not_member : (n : List ℕ) (ms : Members) → list_any (bytes_eq n) (names_of ms) ≡ false → member_at n ms ≡ None
not_member n no_members out = refl
not_member n (member name v ms) out = go (slice_cmp nat_cmp n name) (is_eq-slice_cmp n name) (bytes_eq n name) refl out (not_member n ms)
  where
    go : (o : Ordering) → is_eq o ≡ bytes_eq n name → (b : Bool) → bytes_eq n name ≡ b → (b || list_any (bytes_eq n) (names_of ms)) ≡ false → (list_any (bytes_eq n) (names_of ms) ≡ false → member_at n ms ≡ None)
        → match_ordering o (member_at n ms) (Some v) (member_at n ms) ≡ None
    go o same true is out more = absurd (cc)
    go Less same false is out more = more out
    go Greater same false is out more = more out
    go Equal same false is out more = absurd (let e = same ∙ is in cc)

not_in_object : (n : List ℕ) (w : Value) (b : Bool) → list_any (bytes_eq n) (names_of (body_members w)) ≡ false → member_of (object (if b then body_members w else no_members)) n ≡ None
not_in_object n w true out = not_member n (body_members w) out
not_in_object n w false out = refl

-- a body declares no index of another name
pub undeclared_name : (body : Option Value) (n : List ℕ) → list_any (bytes_eq n) (declared_names body) ≡ false → declared_if body n ≡ None
undeclared_name None n out = refl
undeclared_name (Some v) n out = go (member_of v (codes "indexes")) refl out
  where
    go : (o : Option Value) → member_of v (codes "indexes") ≡ o → list_any (bytes_eq n) (Rattle.index.specs.Rebuilding.names_in o) ≡ false → option_map fields_in (member_of (object (indexes_if (member_of v (codes "indexes")))) n) ≡ None
    go None is out = ap (λ m. option_map fields_in (member_of (object (indexes_if m)) n)) is
    go (Some w) is out = ap (λ m. option_map fields_in (member_of (object (indexes_if m)) n)) is ∙ ap (option_map fields_in) (not_in_object n w (is_index_object w) out)

-- an index of a design document has no row, where none of the rows of the document has its name
pub none_stored : (d db : ℤ) (o design n : List ℕ) (rows : List Row) → d ≡ db → o ≡ design → list_any (bytes_eq n) (map shown_name (map shown_declaration (filter (is_of_design db design) rows))) ≡ false → find (is_declaration_of d o n) rows ≡ None
none_stored d db o design n [] same named out = refl
none_stored d db o design n (r ∷ rows) same named out = go (is_of_design db design r) refl out (none_stored d db o design n rows same named)
  where
    go : (h : Bool) → is_of_design db design r ≡ h → list_any (bytes_eq n) (map shown_name (map shown_declaration (cond h (r ∷ filter (is_of_design db design) rows) (filter (is_of_design db design) rows)))) ≡ false
        → (list_any (bytes_eq n) (map shown_name (map shown_declaration (filter (is_of_design db design) rows))) ≡ false → find (is_declaration_of d o n) rows ≡ None) → cond (is_declaration_of d o n r) (Some r) (find (is_declaration_of d o n) rows) ≡ None
    go false own out more = at (is_declaration_of d o n r) refl
      where
        at : (b : Bool) → is_declaration_of d o n r ≡ b → cond b (Some r) (find (is_declaration_of d o n) rows) ≡ None
        at true is =
            let it = of_index d o n r is in
            let here : is_of_design db design r ≡ true = and_from (int_eq (database_of_declaration r) db) _ (same_number (database_of_declaration r) db (it.0 ∙ same)) (same_bytes (design_of r) design (it.1 ∙ named)) in
            absurd (cc)
        at false is = more out
    go true own out more = at (is_declaration_of d o n r) refl (bytes_eq n (index_name_of_row r)) refl out
      where
        at : (b : Bool) → is_declaration_of d o n r ≡ b → (e : Bool) → bytes_eq n (index_name_of_row r) ≡ e → (e || list_any (bytes_eq n) (map shown_name (map shown_declaration (filter (is_of_design db design) rows)))) ≡ false
            → cond b (Some r) (find (is_declaration_of d o n) rows) ≡ None
        at true is e has out = absurd (let it = same_bytes n (index_name_of_row r) (sym (of_index d o n r is).2) in cc)
        at false is true has out = absurd (cc)
        at false is false has out = more out
