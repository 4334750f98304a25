-- The indexes of a design document: what is taken out, what is declared anew, and what is left to fill.
use Rattle.index.proofs.Common.{Bool, Database, Declarations, Declared, Documents, List, None, Option, Some, [], all_of, ap, bytes_eq, bytes_eq-Decides, declared_by, decls_tree, entries_tree, false, fields_of, filter, if◌then◌else◌, int_eq, is_due, list_any, map, not, option_map, refl, same_int, shown_declaration, sym, true, with_declared, without_numbers, ℕ, ℤ, ◌&&◌, ◌∙◌, ◌≡◌}
use Rattle.couch_json.specs.Value.{Value}
use Rattle.index.proofs.AllDeclared.{none_stored, undeclared_name}
use Rattle.index.proofs.EntryChanges.{entries_as, same_bytes, same_number}
use Rattle.index.proofs.Rebuilt.{indexes_then, rebuilt_as, seen_rebuilt, store_rebuilt}
use Rattle.index.specs.Declaring.{ArePartly, IsRebuildable, IsRebuilt}
use Rattle.index.specs.Meaning.{declared_if}
use Rattle.index.specs.Rebuilding.{AreCleared, AreUnfilled, IsDesignCleared, IsToDeclare, declared_names, is_of_design, shown_name}

-- the names that the rows of a design document have
abbrev pub stored_names : ℤ → List ℕ → Database → List (List ℕ)
stored_names db design a = map shown_name (map shown_declaration (filter (is_of_design db design) (a.trees decls_tree)))

module _ (declares : Declarations) (sees : Documents) (db : ℤ) (design : List ℕ) where
  -- each index with other fields was taken out, of those that have rows
  pub design_cleared : (f : List ℕ → Option (List (List ℕ))) (names : List (List ℕ)) (a b : Database) → IsRebuildable declares sees db a → names ≡ stored_names db design a → AreCleared declares sees db design f names a b
      → IsDesignCleared declares sees db design f a b
  design_cleared f names a b fit are made = record {
    rebuilt = made.rebuilt;
    others = λ d o n out. made.others d o n (beside (int_eq d db) (bytes_eq o design) (list_any (bytes_eq n) names) out);
    own = λ n has is. by n has is (list_any (bytes_eq n) names) refl;
  }
    where
      beside : (x y z : Bool) → (x && y) ≡ false → (x && (y && z)) ≡ false
      beside true true z out = absurd (cc)
      beside true false z out = refl
      beside false y z out = refl

      none : (x y : Bool) → (x && (y && false)) ≡ false
      none true true = refl
      none true false = refl
      none false y = refl

      by : (n : List ℕ) (has : List (List ℕ)) → declared_by (b.trees decls_tree) db design n ≡ Some has → (w : Bool) → list_any (bytes_eq n) names ≡ w → f n ≡ Some has
      by n has is true own = made.own n own has is
      by n has is false own =
          let gone : declared_by (a.trees decls_tree) db design n ≡ None = ap (option_map fields_of) (none_stored db db design design n (a.trees decls_tree) refl refl (sym (ap (list_any (bytes_eq n)) are) ∙ own)) in
          let still = made.others db design n (ap (λ w. int_eq db db && (bytes_eq design design && w)) own ∙ none (int_eq db db) (bytes_eq design design)) in
          absurd (let no : None ≡ Some has = sym gone ∙ fit.indexed.declared db design n ∙ sym still ∙ is in cc)

  with_own : (f : List ℕ → Option (List (List ℕ))) (n : List ℕ) → with_declared declares db design f db design n ≡ f n
  with_own f n = λ j. if (same_number db db refl j && same_bytes design design refl j) then f n else declares db design n

  -- what the body declares is left to be declared
  pub to_partly : (body : Option Value) (names : List (List ℕ)) (fresh : List Declared) (b : Database) → names ≡ declared_names body → IsToDeclare declares sees db design (declared_if body) fresh b
      → ArePartly (with_declared declares db design (declared_if body)) sees db design (declared_if body) names fresh b
  to_partly body names fresh b are fit = record {
    store = fit.unfilled.store;
    decls = fit.unfilled.decls;
    rest = λ d o n out. fit.unfilled.declared d o n ∙ by d o n (int_eq d db) refl (bytes_eq o design) refl (list_any (bytes_eq n) names) refl out;
    part = λ n has is. with_own (declared_if body) n ∙ fit.part n has (sym (fit.unfilled.declared db design n) ∙ is);
    due = all_of (λ n. with_declared declares db design (declared_if body) db design n ≡ declared_if body n) (with_own (declared_if body)) names;
    rows = fit.unfilled.rows;
    numbers = fit.unfilled.numbers;
    entries = fit.unfilled.entries;
    seen = fit.unfilled.seen;
  }
    where
      -- an index of a name that the body doesn't have is not declared
      neither : (n : List ℕ) → declared_if body n ≡ None → (o : Option (List (List ℕ))) → declares db design n ≡ o → o ≡ declared_if body n
      neither n none None is = sym none
      neither n none (Some has) is = absurd (let some = sym none ∙ fit.part n has is in cc)

      by : (d : ℤ) (o n : List ℕ) (x : Bool) → int_eq d db ≡ x → (y : Bool) → bytes_eq o design ≡ y → (z : Bool) → list_any (bytes_eq n) names ≡ z → (x && (y && z)) ≡ false
          → declares d o n ≡ (if (x && y) then declared_if body n else declares d o n)
      by d o n false at y own z is out = refl
      by d o n true at false own z is out = refl
      by d o n true at true own true is out = absurd (cc)
      by d o n true at true own false is out =
          (λ j. declares (same_int d db at j) ((bytes_eq-Decides o design).0 own j) n) ∙ neither n (undeclared_name body n (sym (ap (list_any (bytes_eq n)) are) ∙ is)) (declares db design n) refl

-- before any is declared anew none is to be filled
pub none_fresh : (declares : Declarations) (sees : Documents) (db : ℤ) (a : Database) → IsRebuildable declares sees db a → AreUnfilled declares sees db [] a
none_fresh declares sees db a fit = record {
  store = fit.store;
  decls = fit.indexed.decls;
  declared = fit.indexed.declared;
  rows = tt;
  numbers = tt;
  entries = entries_as (is_due sees (a.trees decls_tree)) (without_numbers (is_due sees (a.trees decls_tree)) []) (a.trees entries_tree) (λ m k i. sym (all_there (is_due sees (a.trees decls_tree) m k i))) fit.indexed.entries;
  seen = fit.seen;
}
  where
    all_there : (w : Bool) → (w && not false) ≡ w
    all_there true = refl
    all_there false = refl

-- ---- one design document alone

module _ (declares : Declarations) (sees : Documents) (db : ℤ) (design : List ℕ) (f : List ℕ → Option (List (List ℕ))) (a b : Database) (fit : IsRebuildable declares sees db a) (made : IsDesignCleared declares sees db design f a b) where
  pub cleared_rebuildable : IsRebuildable (declared_by (b.trees decls_tree)) sees db b
  cleared_rebuildable = record { store = store_rebuilt a b fit.store made.rebuilt.only; indexed = made.rebuilt.indexed; seen = λ id. fit.seen id ∙ sym (seen_rebuilt a b fit.store.schema_is made.rebuilt.only db id) }

  -- once it is cleared its indexes may be declared
  pub cleared_to_declare : IsToDeclare (declared_by (b.trees decls_tree)) sees db design f [] b
  cleared_to_declare = record { unfilled = none_fresh (declared_by (b.trees decls_tree)) sees db b cleared_rebuildable; part = made.own }

  -- and then they are those that it is to have
  pub design_rebuilt : (e : Database) → IsRebuilt (with_declared (declared_by (b.trees decls_tree)) db design f) sees b e → IsRebuilt (with_declared declares db design f) sees a e
  design_rebuilt e got =
      let it = rebuilt_as (with_declared (declared_by (b.trees decls_tree)) db design f) (with_declared declares db design f) sees b e (λ d o n. by d o n (int_eq d db && bytes_eq o design) refl) got in
      record { indexed = it.indexed; only = indexes_then a b e made.rebuilt.only it.only }
    where
      by : (d : ℤ) (o n : List ℕ) (x : Bool) → (int_eq d db && bytes_eq o design) ≡ x → (if x then f n else declared_by (b.trees decls_tree) d o n) ≡ (if x then f n else declares d o n)
      by d o n true is = refl
      by d o n false is = made.others d o n is
