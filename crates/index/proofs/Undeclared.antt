-- What is left of the index rows when one index is taken out.
use Rattle.index.proofs.Common.{AllByRecursion, AreDeclarationRows, AreEntriesOf, AreIndexed, Bool, Changes, ChangesIndexes, Database, Declarations, Documents, Entries, HasEntries, IsAscending, List, None, Option, Row, Schema, Some, Trees, [], all_both, all_weaker, ap, arith, bytes_eq, bytes_eq-Decides, cases_Bool, cond, declaration_at, declared_by, decls_tree, design_of, entries_tree, false, fields_of, filter, find, find_found, has_entry, has_number, database_of_declaration, if◌then◌else◌, index_name_of_row, inl, inr, int_eq, ints, is_declaration_of, is_due, is_due_by, is_entry_in, list_any, not, number_of, option_map, passing, refl, same_int, schema, subst, sym, true, without_numbers, ℕ, ℤ, ◌&&◌, ◌++◌, ◌<ℤ◌, ◌||◌, ◌∙◌, ◌∷◌, ◌≡◌, ◌≢◌, and_from, find_passes, all-filter}
use Rattle.index.proofs.Alike.{index_found}
use Rattle.index.proofs.DeclarationStatements.{of_index}
use Rattle.index.proofs.Dropped.{clears_one, declarations-filter, find_none}
use Rattle.index.proofs.EntryChanges.{same_bytes, same_number}
use Rattle.index.proofs.Following.{found_each}
use Rattle.index.specs.Declaring.{IsDeclared, IsRebuilt, with_index}
use Rattle.std.proofs.lemmas.Bool.{false_from_ne_true}
use Rattle.tables.proofs.Rests.{leaves}
use Rattle.tables.proofs.RowMaps.{find_apart}

-- a test that holds of no row that is taken out finds the same
find_left : (p q : Row → Bool) (rows : List Row) → AllByRecursion (λ r. p r ≡ true → q r ≡ false) rows → find p (filter (λ r. not (q r)) rows) ≡ find p rows
find_left p q [] all = refl
find_left p q (r ∷ rows) all = go (p r) (q r) refl refl all.0 (find_left p q rows all.1)
  where
    go : (x y : Bool) → p r ≡ x → q r ≡ y → (p r ≡ true → q r ≡ false) → find p (filter (λ s. not (q s)) rows) ≡ find p rows
        → find p (cond (not y) (r ∷ filter (λ s. not (q s)) rows) (filter (λ s. not (q s)) rows)) ≡ cond x (Some r) (find p rows)
    go true true x y apart more = absurd (let out = apart x in cc)
    go false true x y apart more = more
    go x false e y apart more = ap (λ b. cond b (Some r) (find p (filter (λ s. not (q s)) rows))) e ∙ ap (cond x (Some r)) more

module _ (declares : Declarations) (sees : Documents) (n : ℤ) (d : Row) (rows : List Row) (laid : AreDeclarationRows rows) (is : declaration_at rows n ≡ Some d) where
  abbrev left : List Row
  left = filter (λ r. not (has_number n r)) rows

  numbered : number_of d ≡ n
  numbered = same_int (number_of d) n (find_passes (has_number n) rows d is)

  -- no declaration but that one has its number
  due_left : (m : ℤ) (k i : List ℕ) → without_numbers (is_due sees rows) (n ∷ []) m k i ≡ is_due sees left m k i
  due_left m k i = elim (cases_Bool (int_eq m n)) [
    | inl same ↦
        let number : m ≡ n = same_int m n same in
        ap (λ b. is_due sees rows m k i && not (b || false)) same ∙ no (is_due sees rows m k i)
        ∙ sym (ap (λ o. is_due_by sees o k i)
        (find_none (has_number m) left
        (all_weaker (λ r. not (has_number n r) ≡ true) (λ r. has_number m r ≡ false)
        (λ r out. false_from_ne_true (has_number m r) (λ here. let own : has_number n r ≡ true = ap (int_eq (number_of r)) (sym number) ∙ here in let gone = sym (ap not own) ∙ out in cc)) left (passing (λ r. not (has_number n r)) rows))))
    | inr other ↦
        ap (λ b. is_due sees rows m k i && not (b || false)) other ∙ yes (is_due sees rows m k i)
        ∙ sym (ap (λ o. is_due_by sees o k i)
        (find_apart (has_number m) (has_number n)
        (λ r here. false_from_ne_true (has_number n r) (λ there. let e : m ≡ n = sym (same_int (number_of r) m here) ∙ same_int (number_of r) n there in let same = same_number m n e in cc)) rows))
  ]
    where
      no : (b : Bool) → (b && not (true || false)) ≡ false
      no true = refl
      no false = refl

      yes : (b : Bool) → (b && not (false || false)) ≡ b
      yes true = refl
      yes false = refl

  -- a row of another index has another number
  others : (db : ℤ) (design name : List ℕ) → (database_of_declaration d ≡ db → design_of d ≡ design → index_name_of_row d ≡ name → ⊥) → AllByRecursion (λ r. is_declaration_of db design name r ≡ true → has_number n r ≡ false) rows
  others db design name away =
      all_weaker (λ r. declaration_at rows (number_of r) ≡ Some r) (λ r. is_declaration_of db design name r ≡ true → has_number n r ≡ false)
      (λ r found here. false_from_ne_true (has_number n r)
      (λ there.
      let same : d ≡ r = let both = sym is ∙ ap (declaration_at rows) (sym (same_int (number_of r) n there)) ∙ found in cc in
      let own = of_index db design name r here in
      away (ap database_of_declaration same ∙ own.0) (ap design_of same ∙ own.1) (ap index_name_of_row same ∙ own.2))) rows (found_each rows laid.rising)

  -- and each row of that index has this one
  all_own : AllByRecursion (λ r. not (has_number n r) ≡ true → is_declaration_of (database_of_declaration d) (design_of d) (index_name_of_row d) r ≡ false) rows
  all_own =
      let mine = (find_found (λ r. find (is_declaration_of (database_of_declaration r) (design_of r) (index_name_of_row r)) rows ≡ Some r) (has_number n) rows d (index_found rows laid) is).0 in
      all_weaker (λ r. find (is_declaration_of (database_of_declaration r) (design_of r) (index_name_of_row r)) rows ≡ Some r) (λ r. not (has_number n r) ≡ true → is_declaration_of (database_of_declaration d) (design_of d) (index_name_of_row d) r ≡ false)
      (λ r found out. false_from_ne_true (is_declaration_of (database_of_declaration d) (design_of d) (index_name_of_row d) r)
      (λ here.
      let own = of_index (database_of_declaration d) (design_of d) (index_name_of_row d) r here in
      let same : r ≡ d = let both = sym found ∙ (λ j. find (is_declaration_of (own.0 j) (own.1 j) (own.2 j)) rows) ∙ mine in cc in
      let number : has_number n r ≡ true = same_number (number_of r) n (ap number_of same ∙ numbered) in
      let gone = sym (ap not number) ∙ out in cc)) rows (index_found rows laid)

  declared_left : ((db : ℤ) (design name : List ℕ) → declared_by rows db design name ≡ declares db design name) → (db : ℤ) (design name : List ℕ)
      → declared_by left db design name ≡ with_index declares (database_of_declaration d) (design_of d) (index_name_of_row d) None db design name
  declared_left said db design name = elim (cases_Bool (int_eq db (database_of_declaration d) && (bytes_eq design (design_of d) && bytes_eq name (index_name_of_row d)))) [
    | inl same ↦
        let e = parts same in
        (λ j. declared_by left (e.0 j) (e.1 j) (e.2 j))
        ∙ ap (option_map fields_of)
        (find_none (is_declaration_of (database_of_declaration d) (design_of d) (index_name_of_row d)) left
        (all_both (λ r. not (has_number n r) ≡ true → is_declaration_of (database_of_declaration d) (design_of d) (index_name_of_row d) r ≡ false) (λ r. not (has_number n r) ≡ true) (λ r. is_declaration_of (database_of_declaration d) (design_of d) (index_name_of_row d) r ≡ false)
        (λ r own out. own out) left (all-filter _ (λ r. not (has_number n r)) rows all_own) (passing (λ r. not (has_number n r)) rows)))
        ∙ sym (ap (λ b. if b then None else declares db design name) same)
    | inr other ↦
        ap (option_map fields_of)
        (find_left (is_declaration_of db design name) (has_number n) rows (others db design name
        (λ a b c. let same = and_from (int_eq db (database_of_declaration d)) _ (same_number db (database_of_declaration d) (sym a)) (and_from (bytes_eq design (design_of d)) (bytes_eq name (index_name_of_row d)) (same_bytes _ _ (sym b)) (same_bytes _ _ (sym c))) in cc)))
        ∙ said db design name ∙ sym (ap (λ b. if b then None else declares db design name) other)
  ]
    where
      parts : (int_eq db (database_of_declaration d) && (bytes_eq design (design_of d) && bytes_eq name (index_name_of_row d))) ≡ true → (db ≡ database_of_declaration d) × (design ≡ design_of d) × (name ≡ index_name_of_row d)
      parts same =
          let p = Rattle.index.proofs.Common.and_parts (int_eq db (database_of_declaration d)) _ same in
          let q = Rattle.index.proofs.Common.and_parts (bytes_eq design (design_of d)) _ p.1 in
          (same_int db (database_of_declaration d) p.0, (bytes_eq-Decides design (design_of d)).0 q.0, (bytes_eq-Decides name (index_name_of_row d)).0 q.1)

pub undeclared : (declares : Declarations) (sees : Documents) (n : ℤ) (d : Row) (a b c : Database) → IsDeclared declares sees n d a
    → Changes entries_tree (filter (λ r. not (is_entry_in n r)) (a.trees entries_tree)) a b → Changes decls_tree (filter (λ r. not (has_number n r)) (b.trees decls_tree)) b c
    → IsRebuilt (with_index declares (database_of_declaration d) (design_of d) (index_name_of_row d) None) sees a c
undeclared declares sees n d a b c fit first second =
    let has = fit.store.schema_is in
    let decls = a.trees decls_tree in
    let h = fit.indexed in
    let stayed : b.trees decls_tree ≡ decls = (leaves entries_tree _ a b has first).decls (omega arith) in
    let same : c.trees decls_tree ≡ filter (λ r. not (has_number n r)) decls = second.rows ∙ ap (filter (λ r. not (has_number n r))) stayed in
    let kept : c.trees entries_tree ≡ filter (λ r. not (is_entry_in n r)) (a.trees entries_tree) = (leaves decls_tree _ b c (first.schema ∙ has) second).entries (omega arith) ∙ first.rows in
    let bare = clears_one (is_due sees decls) [] n (a.trees entries_tree) (Rattle.index.proofs.Dropped.clears_none (is_due sees decls) (a.trees entries_tree) h.entries) in
    let later = subst (λ (s : Schema). AllByRecursion (λ t. t.tree ≢ decls_tree → c.trees t.tree ≡ b.trees t.tree) s.tables) first.schema second.others in
    record {
      indexed = record {
        decls = subst AreDeclarationRows (sym same) (declarations-filter _ decls h.decls);
        declared = λ db design name. ap (λ rows. declared_by rows db design name) same ∙ declared_left declares sees n d decls h.decls fit.found h.declared db design name;
        entries = record {
          laid = subst Rattle.index.specs.Layout.AreEntryRows (sym kept) bare.laid;
          exact = λ m k i.
              ap (λ rows. has_entry rows m k i) kept ∙ bare.exact m k i ∙ due_left declares sees n d decls h.decls fit.found m k i ∙ sym (ap (λ rows. is_due sees rows m k i) same);
        };
      };
      only = record {
        schema = second.schema ∙ first.schema;
        others = all_both (λ t. t.tree ≢ entries_tree → b.trees t.tree ≡ a.trees t.tree) (λ t. t.tree ≢ decls_tree → c.trees t.tree ≡ b.trees t.tree) (λ t. t.tree ≢ decls_tree → t.tree ≢ entries_tree → c.trees t.tree ≡ a.trees t.tree)
            (λ t before after one two. after one ∙ before two) a.schema.tables first.others later;
      };
    }
