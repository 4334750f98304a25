-- What is left of the index rows when the indexes of a database are taken out.
use Rattle.index.proofs.Common.{AllByRecursion, AreDeclarationRows, AreEntriesOf, AreIndexed, Bool, Changes, Database, Declarations, Declared, Documents, Entries, HasEntries, IsAscending, IsDeclarationRow, IsDropped, List, None, Option, Row, Schema, Some, [], all-filter, all_both, all_weaker, ap, arith, ascending-filter, cases_Bool, cond, declared_at, declared_by, decls_tree, entries_tree, false, fields_of, filter, find, has_entry, has_number, if◌then◌else◌, inl, inr, int_eq, ints, is_at_home, is_declaration_of, is_due, is_due_by, is_entry_in, is_entry_of, list_any, list_any-append, map, not, number_of, option_map, passing, refl, same_int, schema, subst, sym, true, without_declared, without_numbers, ℕ, ℤ, ◌&&◌, ◌++◌, ◌<ℤ◌, ◌||◌, ◌∙◌, ◌∷◌, ◌≡◌, ◌≢◌}
use Rattle.index.proofs.DeclarationStatements.{of_index}
use Rattle.index.proofs.Going.{declarations_stay}
use Rattle.index.proofs.EntryChanges.{any_without, entries-filter, int_eq-sym, of_entry}
use Rattle.std.proofs.lemmas.Bool.{false_from_ne_true}
use Rattle.sqlite_keyed.proofs.ListLemmas.{any_from_none}
use Rattle.tables.proofs.Rests.{leaves}
use Rattle.tables.proofs.RowMaps.{find_apart}

pub declarations-filter : (p : Row → Bool) (rows : List Row) → AreDeclarationRows rows → AreDeclarationRows (filter p rows)
declarations-filter p rows h = record { each = all-filter IsDeclarationRow p rows h.each; rising = ascending-filter _ p rows h.rising; apart = ascending-filter _ p rows h.apart }

-- ---- the entries of one declaration

has-cleared : (n : ℤ) (rows : List Row) (m : ℤ) (l i : List ℕ) → has_entry (filter (λ r. not (is_entry_in n r)) rows) m l i ≡ (not (int_eq m n) && has_entry rows m l i)
has-cleared n rows m l i = any_without (is_entry_in n) (is_entry_of m l i) (int_eq m n) (λ r is. ap (λ x. int_eq x n) (of_entry m l i r is).0) rows

one_more : (d x y : Bool) → (not y && (d && not x)) ≡ (d && not (x || (y || false)))
one_more true true true = refl
one_more true true false = refl
one_more true false true = refl
one_more true false false = refl
one_more false true true = refl
one_more false true false = refl
one_more false false true = refl
one_more false false false = refl

pub clears_one : (due : Entries) (numbers : List ℤ) (n : ℤ) (rows : List Row) → AreEntriesOf (without_numbers due numbers) rows → AreEntriesOf (without_numbers due (numbers ++ n ∷ [])) (filter (λ r. not (is_entry_in n r)) rows)
clears_one due numbers n rows h = record {
  laid = entries-filter _ rows h.laid;
  exact = λ m l i.
      has-cleared n rows m l i ∙ ap (λ b. not (int_eq m n) && b) (h.exact m l i) ∙ one_more (due m l i) (list_any (int_eq m) numbers) (int_eq m n)
      ∙ ap (λ b. due m l i && not b) (sym (list_any-append (int_eq m) numbers (n ∷ [])));
}

pub clears_none : (due : Entries) (rows : List Row) → AreEntriesOf due rows → AreEntriesOf (without_numbers due []) rows
clears_none due rows h = record { laid = h.laid; exact = λ m l i. h.exact m l i ∙ sym (and_true (due m l i)) }
  where
    and_true : (b : Bool) → (b && true) ≡ b
    and_true true = refl
    and_true false = refl

-- ---- the declarations

pub find_none : {A : Type 0} (p : A → Bool) (xs : List A) → AllByRecursion (λ x. p x ≡ false) xs → find p xs ≡ None
find_none p [] all = refl
find_none p (x ∷ xs) all = ap (λ b. cond b (Some x) (find p xs)) all.0 ∙ find_none p xs all.1

any_numbers : (m : ℤ) (rows : List Row) → list_any (int_eq m) (map (λ (d : Declared). d.number) (map declared_at rows)) ≡ list_any (has_number m) rows
any_numbers m [] = refl
any_numbers m (r ∷ rows) = λ j. int_eq-sym m (number_of r) j || any_numbers m rows j

module _ (sees : Documents) (db : ℤ) where
  abbrev stays : Row → Bool
  stays r = not (is_at_home db r)

  nothing : (o : Option Row) (k i : List ℕ) → (is_due_by sees o k i && false) ≡ false
  nothing o k i = either (is_due_by sees o k i)
    where
      either : (b : Bool) → (b && false) ≡ false
      either true = refl
      either false = refl

  all_of_it : (o : Option Row) (k i : List ℕ) → (is_due_by sees o k i && true) ≡ is_due_by sees o k i
  all_of_it o k i = either (is_due_by sees o k i)
    where
      either : (b : Bool) → (b && true) ≡ b
      either true = refl
      either false = refl

  left_over : (m : ℤ) (k i : List ℕ) (rows : List Row) → IsAscending (λ a b. number_of a <ℤ number_of b) rows
      → (is_due_by sees (find (has_number m) rows) k i && not (list_any (has_number m) (filter (is_at_home db) rows))) ≡ is_due_by sees (find (has_number m) (filter stays rows)) k i
  left_over m k i [] up = refl
  left_over m k i (r ∷ rows) up = go (has_number m r) (is_at_home db r) refl refl (left_over m k i rows up.1)
    where
      go : (x y : Bool) → has_number m r ≡ x → is_at_home db r ≡ y
          → (is_due_by sees (find (has_number m) rows) k i && not (list_any (has_number m) (filter (is_at_home db) rows))) ≡ is_due_by sees (find (has_number m) (filter stays rows)) k i
          → (is_due_by sees (cond x (Some r) (find (has_number m) rows)) k i && not (list_any (has_number m) (cond y (r ∷ filter (is_at_home db) rows) (filter (is_at_home db) rows))))
          ≡ is_due_by sees (find (has_number m) (cond (not y) (r ∷ filter stays rows) (filter stays rows))) k i
      go false true x y more = ap (λ b. is_due_by sees (find (has_number m) rows) k i && not (b || list_any (has_number m) (filter (is_at_home db) rows))) x ∙ more
      go false false x y more = more ∙ sym (ap (λ b. is_due_by sees (cond b (Some r) (find (has_number m) (filter stays rows))) k i) x)
      go true y x home more =
          let others : AllByRecursion (λ s. has_number m s ≡ false) rows =
          all_weaker (λ s. number_of r <ℤ number_of s) (λ s. has_number m s ≡ false)
          (λ s below. false_from_ne_true _ (λ same. let e = same_int (number_of s) m same in let f = same_int (number_of r) m x in omega (arith, ints))) rows up.0 in
          last y others
        where
          last : (b : Bool) → AllByRecursion (λ s. has_number m s ≡ false) rows
              → (is_due_by sees (Some r) k i && not (list_any (has_number m) (cond b (r ∷ filter (is_at_home db) rows) (filter (is_at_home db) rows))))
              ≡ is_due_by sees (find (has_number m) (cond (not b) (r ∷ filter stays rows) (filter stays rows))) k i
          last true others =
              ap (λ b. is_due_by sees (Some r) k i && not (b || list_any (has_number m) (filter (is_at_home db) rows))) x ∙ nothing (Some r) k i
              ∙ sym (ap (λ o. is_due_by sees o k i) (find_none (has_number m) (filter stays rows) (all-filter _ stays rows others)))
          last false others =
              ap (λ b. is_due_by sees (Some r) k i && not b) (any_from_none (has_number m) (filter (is_at_home db) rows) (all-filter _ (is_at_home db) rows others)) ∙ all_of_it (Some r) k i
              ∙ sym (ap (λ b. is_due_by sees (cond b (Some r) (find (has_number m) (filter stays rows))) k i) x)

  pub due_left : (decls : List Row) → AreDeclarationRows decls → (m : ℤ) (k i : List ℕ)
      → without_numbers (is_due sees decls) (map (λ (d : Declared). d.number) (map declared_at (filter (is_at_home db) decls))) m k i ≡ is_due sees (filter stays decls) m k i
  due_left decls laid m k i = ap (λ b. is_due sees decls m k i && not b) (any_numbers m (filter (is_at_home db) decls)) ∙ left_over m k i decls laid.rising

  pub declared_left : (declares : Declarations) (decls : List Row) → ((d : ℤ) (design name : List ℕ) → declared_by decls d design name ≡ declares d design name)
      → (d : ℤ) (design name : List ℕ) → declared_by (filter stays decls) d design name ≡ without_declared declares db d design name
  declared_left declares decls said d design name = elim (cases_Bool (int_eq d db)) [
    | inl same ↦
        ap (option_map fields_of)
        (find_none (is_declaration_of d design name) (filter stays decls)
        (all_weaker (λ r. stays r ≡ true) (λ r. is_declaration_of d design name r ≡ false)
        (λ r kept. false_from_ne_true _ (λ here. let own : is_at_home db r ≡ true = ap (λ h. int_eq h db) (of_index d design name r here).0 ∙ same in let out = sym (ap not own) ∙ kept in cc)) (filter stays decls) (passing stays decls)))
        ∙ sym (ap (λ b. if b then None else declares d design name) same)
    | inr other ↦
        ap (option_map fields_of)
        (find_apart (is_declaration_of d design name) (is_at_home db) (λ r here. ap (λ h. int_eq h db) (of_index d design name r here).0 ∙ other) decls)
        ∙ said d design name ∙ sym (ap (λ b. if b then None else declares d design name) other)
  ]

-- ---- both tables

pub dropped : (declares : Declarations) (sees : Documents) (db : ℤ) (a b c : Database) → a.schema ≡ schema → AreIndexed declares sees a.trees
    → HasEntries (without_numbers (is_due sees (a.trees decls_tree)) (map (λ (d : Declared). d.number) (map declared_at (filter (is_at_home db) (a.trees decls_tree))))) a b
    → Changes decls_tree (filter (λ r. not (is_at_home db r)) (b.trees decls_tree)) b c → IsDropped declares sees db a c
dropped declares sees db a b c has h first second =
    let decls = a.trees decls_tree in
    let same : c.trees decls_tree ≡ filter (λ r. not (is_at_home db r)) decls = second.rows ∙ ap (filter (λ r. not (is_at_home db r))) (declarations_stay a b has first.only) in
    let kept : c.trees entries_tree ≡ b.trees entries_tree = (leaves decls_tree _ b c (first.only.schema ∙ has) second).entries (omega arith) in
    let later = subst (λ (s : Schema). AllByRecursion (λ t. t.tree ≢ decls_tree → c.trees t.tree ≡ b.trees t.tree) s.tables) first.only.schema second.others in
    record {
      indexed = record {
        decls = subst AreDeclarationRows (sym same) (declarations-filter _ decls h.decls);
        declared = λ d design name. ap (λ rows. declared_by rows d design name) same ∙ declared_left sees db declares decls h.declared d design name;
        entries = record {
          laid = subst (λ rows. Rattle.index.specs.Layout.AreEntryRows rows) (sym kept) first.entries.laid;
          exact = λ m k i.
              ap (λ rows. has_entry rows m k i) kept ∙ first.entries.exact m k i ∙ due_left sees db decls h.decls m k i ∙ sym (ap (λ rows. is_due sees rows m k i) same);
        };
      };
      only = record {
        schema = second.schema ∙ first.only.schema;
        others = all_both (λ t. t.tree ≢ entries_tree → b.trees t.tree ≡ a.trees t.tree) (λ t. t.tree ≢ decls_tree → c.trees t.tree ≡ b.trees t.tree) (λ t. t.tree ≢ decls_tree → t.tree ≢ entries_tree → c.trees t.tree ≡ a.trees t.tree)
            (λ t before after one two. after one ∙ before two) a.schema.tables first.only.others later;
      };
    }
