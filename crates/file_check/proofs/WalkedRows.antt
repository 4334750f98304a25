-- A walk over rows whose numbers rise.
use Rattle.index.proofs.Common.{AllByRecursion, Bool, IsAscending, List, None, Option, Row, Some, [], all_both, all_of, ap, arith, cond, false, filter, find, has_number, ints, map, number_of, option_map, refl, slice_get, sym, subst, take, true, ℤ, ◌<ℤ◌, ◌∙◌, ◌∷◌, ◌≡◌, find_found}
use Rattle.std.specs.Prelude.{int_lt, unwrap_or}
use Rattle.index.proofs.Following.{found_each}
use Rattle.file_check.specs.inner.Walks.{AreWalked, IsRowStep, IsStep, is_behind, next_rows}
use Rattle.file_check.specs.declared.finding.Table.{Table}
use Rattle.file_check.specs.declared.indexes.step.Step.{Step}
use Rattle.file_check.specs.declared.indexes.step.Step.TheVariants.{Next, Found, Done}
use Rattle.tree.proofs.Shown.{inside}

-- the first of the rows that come next is the next row
pub first_next : (show : Row → Row) (last : Option ℤ) (rows : List Row) → slice_get (next_rows show last rows) 0 ≡ option_map show (find (is_behind last) rows)
first_next show last [] = refl
first_next show last (r ∷ rows) = go (is_behind last r) (first_next show last rows)
  where
    go : (b : Bool) → slice_get (next_rows show last rows) 0 ≡ option_map show (find (is_behind last) rows)
        → slice_get (take 1 (map show (cond b (r ∷ filter (is_behind last) rows) (filter (is_behind last) rows)))) 0 ≡ option_map show (cond b (Some r) (find (is_behind last) rows))
    go true more = refl
    go false more = more

-- a row that is shown is there
pub shown_there : (show : Row → Row) (o : Option Row) (s : Row) → option_map show o ≡ Some s → (o ≡ Some (unwrap_or o [])) × (s ≡ show (unwrap_or o []))
shown_there show None s is = absurd (cc)
shown_there show (Some r) s is = (refl, sym (inside (show r) s is))

pub shown_nothing : (show : Row → Row) (o : Option Row) → option_map show o ≡ None → o ≡ None
shown_nothing show None is = refl
shown_nothing show (Some r) is = absurd (cc)

behind : (m n : ℤ) → m <ℤ n → int_lt m n ≡ true
behind m n below = grind (arith, ints)

module _ (Is : Row → Type 0) where
  -- before a walk no row was looked at
  pub walked_none : (rows : List Row) → AreWalked Is None rows
  walked_none rows = all_of (λ r. is_behind None r ≡ false → Is r) (λ r out. absurd (cc)) rows

  -- the next row
  pub walked_next : (last : Option ℤ) (rows : List Row) (r : Row) → IsAscending (λ a b. number_of a <ℤ number_of b) rows → find (is_behind last) rows ≡ Some r → Is r → AreWalked Is last rows → AreWalked Is (Some (number_of r)) rows
  walked_next last [] r up is own all = absurd (cc)
  walked_next last (x ∷ rows) r up is own all = go (is_behind last x) refl is (λ more. walked_next last rows r up.1 more own all.1)
    where
      go : (b : Bool) → is_behind last x ≡ b → cond b (Some x) (find (is_behind last) rows) ≡ Some r → (find (is_behind last) rows ≡ Some r → AreWalked Is (Some (number_of r)) rows) → AreWalked Is (Some (number_of r)) (x ∷ rows)
      go true at here later =
          let same : x ≡ r = inside x r here in (
            λ out. subst Is (sym same) own,
            subst (λ (y : Row). AreWalked Is (Some (number_of y)) rows) same
                (all_both (λ y. number_of x <ℤ number_of y) (λ y. number_of x <ℤ number_of y) (λ y. is_behind (Some (number_of x)) y ≡ false → Is y) (λ y below same out. absurd (let b = behind (number_of x) (number_of y) below in cc)) rows up.0 up.0),
          )
      go false at more later = (λ out. all.0 at, later more)

  -- there is no further row
  pub walked_all : (last : Option ℤ) (rows : List Row) → find (is_behind last) rows ≡ None → AreWalked Is last rows → AllByRecursion Is rows
  walked_all last [] none all = tt
  walked_all last (x ∷ rows) none all = go (is_behind last x) refl none (λ more. walked_all last rows more all.1)
    where
      go : (b : Bool) → is_behind last x ≡ b → cond b (Some x) (find (is_behind last) rows) ≡ None → (find (is_behind last) rows ≡ None → AllByRecursion Is rows) → AllByRecursion Is (x ∷ rows)
      go true at here later = absurd (cc)
      go false at more later = (all.0 at, later more)

  -- a look at the next row is a step
  pub row_step : (of : Table) (last : Option ℤ) (rows : List Row) (r : Row) (s : Step) → IsAscending (λ a b. number_of a <ℤ number_of b) rows → find (is_behind last) rows ≡ Some r → IsRowStep of Is r s → IsStep of rows Is last s
  row_step of last rows r (Next n) up is h = (r, is, h.0, h.1)
  row_step of last rows r (Found f) up is h =
      let found = find_found (λ x. find (has_number (number_of x)) rows ≡ Some x) (is_behind last) rows r (found_each rows up) is in
      record { of_table = h.0; fails = record { row = r; there = ap (λ n. find (has_number n) rows) h.1 ∙ found.0; fails = h.2 } }
  row_step of last rows r Done up is h = absurd h
