-- The steps of a walk over the rows of a table, one after another.
use Rattle.tables.proofs.Common.{Database, Err, Ghosts, Held, List, None, Ok, Option, Result, Row, Some, Trees, ap, find, number_of, option_map, slice_get, subst, sym, ℤ, ◌∙◌, ◌≡◌}
use Rattle.tables.proofs.RowMaps.{find_found}
use Rattle.file_check.specs.Inspecting.{Goes, Inspects}
use Rattle.file_check.specs.Tables.{IsShaped, IsSoundRow, table_of_finding, tree_of}
use Rattle.file_check.specs.inner.Queries.{AreRowsChecked, HasCells, IsBefore, Judges}
use Rattle.file_check.specs.inner.Walks.{AreWalked, IsRowStep, IsStep, is_behind, next_rows}
use Rattle.file_check.specs.declared.finding.CheckFault.{CheckFault}
use Rattle.file_check.specs.declared.finding.CheckFault.TheVariants.{Memory}
use Rattle.file_check.specs.declared.finding.Finding.{Finding}
use Rattle.file_check.specs.declared.finding.Wrong.{Wrong}
use Rattle.file_check.specs.declared.indexes.step.Step.{Step}
use Rattle.file_check.specs.declared.indexes.step.Step.TheVariants.{Next, Found, Done}
use Rattle.file_check.specs.declared.layout.checked.Checked.{Checked}
use Rattle.file_check.proofs.Accounts.{accounts_lost}
use Rattle.file_check.proofs.Going.{goes_inspects, goes_of, goes_pure, goes_so, goes_then}
use Rattle.file_check.proofs.Inspecting.{inspects_nothing, inspects_so}
use Rattle.file_check.proofs.Walked.{cells_of, numbered_rows}
use Rattle.file_check.proofs.WalkedRows.{first_next, row_step, shown_nothing, shown_there, walked_all, walked_next, walked_none}

-- what a step over a row of the table tells
abbrev pub Steps : Checked → Row → Trees → Step → Type 0
Steps of row trees step = HasCells of row → IsBefore of trees → IsRowStep (table_of_finding of) (IsSoundRow of trees) row step

-- what a look at the next row tells
abbrev pub Tells : Checked → Option ℤ → Trees → Step → Type 0
Tells of last trees step = IsBefore of trees → IsStep (table_of_finding of) (trees (tree_of of)) (IsSoundRow of trees) last step

abbrev pub TellsAll : Checked → Trees → Option Finding → Type 0
TellsAll of trees found = IsBefore of trees → AreRowsChecked of trees found

-- the rows up to the last one are sound
abbrev pub AreSoundUpTo : Checked → Option ℤ → Trees → Type 0
AreSoundUpTo of last trees = IsBefore of trees → AreWalked (IsSoundRow of trees) last (trees (tree_of of))

-- ---- one row

pub step_next : (of : Checked) (row : Row) (trees : Trees) (found : Option Wrong) (n : ℤ) → found ≡ None → n ≡ number_of row → (HasCells of row → IsBefore of trees → Judges (IsSoundRow of trees row) found) → Steps of row trees (Next n)
step_next of row trees found n none number h cells before = (number, subst (Judges (IsSoundRow of trees row)) none (h cells before))

pub step_found : (of : Checked) (row : Row) (trees : Trees) (found : Option Wrong) (wrong : Wrong) (f : Finding) → found ≡ Some wrong → f.table ≡ table_of_finding of → f.key ≡ number_of row
    → (HasCells of row → IsBefore of trees → Judges (IsSoundRow of trees row) found) → Steps of row trees (Found f)
step_found of row trees found wrong f some table number h cells before = (table, number, subst (Judges (IsSoundRow of trees row)) some (h cells before))

module _ (of : Checked) (last : Option ℤ) (d : Database) (fit : IsShaped d) (items : List Row) (is : items ≡ next_rows (λ r. r) last (d.trees (tree_of of))) where
  first_is : slice_get items 0 ≡ option_map (λ r. r) (find (is_behind last) (d.trees (tree_of of)))
  first_is = ap (λ l. slice_get l 0) is ∙ first_next (λ r. r) last (d.trees (tree_of of))

  pub next_looked : (row : Row) → slice_get items 0 ≡ Some row → (step : Step) → Steps of row d.trees step → Tells of last d.trees step
  next_looked row at step h before =
      let rows = d.trees (tree_of of) in
      let found = shown_there (λ r. r) (find (is_behind last) rows) row (sym first_is ∙ at) in
      let there : find (is_behind last) rows ≡ Some row = found.0 ∙ ap Some (sym found.1) in
      row_step (IsSoundRow of d.trees) (table_of_finding of) last rows row step (numbered_rows d.trees fit.shaped of).rising there (h (find_found (HasCells of) (is_behind last) rows row (cells_of d.trees fit.shaped of) there).0 before)

  pub next_none : slice_get items 0 ≡ None → Tells of last d.trees Done
  next_none at before = shown_nothing (λ r. r) (find (is_behind last) (d.trees (tree_of of))) (sym first_is ∙ at)

-- ---- all rows

-- what a step makes of the walk
abbrev Comes : Checked → Trees → Step → Type 0
Comes of trees (Next n) = AreSoundUpTo of (Some n) trees
Comes of trees (Found f) = TellsAll of trees (Some f)
Comes of trees Done = TellsAll of trees None

comes : (of : Checked) (last : Option ℤ) (d : Database) → IsShaped d → AreSoundUpTo of last d.trees → (step : Step) → Tells of last d.trees step → Comes of d.trees step
comes of last d fit so (Next n) is = λ before.
    let k = is before in
    subst (λ m. AreWalked (IsSoundRow of d.trees) (Some m) (d.trees (tree_of of))) (sym k.2) (walked_next (IsSoundRow of d.trees) last (d.trees (tree_of of)) k.0 (numbered_rows d.trees fit.shaped of).rising k.1 k.3 (so before))
comes of last d fit so (Found f) is = is
comes of last d fit so Done is = λ before. walked_all (IsSoundRow of d.trees) last (d.trees (tree_of of)) (is before) (so before)

module _ {S : Type 0} (g : Ghosts S) (of : Checked) where
  -- the rows up to the last one are sound, and the connection is as it was
  abbrev pub Walked : Option ℤ → Held S → Held S → Type 0
  Walked last a b = Goes {X = Unit {0}} g IsShaped a b (λ trees done. AreSoundUpTo of last trees) (Ok tt)

  pub begins : (a : Held S) → Walked None a a
  begins a = goes_pure a (λ trees done. AreSoundUpTo of None trees) tt (λ trees before. walked_none (IsSoundRow of trees) (trees (tree_of of)))

  module _ (last : Option ℤ) {a b c : Held S} where
    stepped : (r : Result Step CheckFault) → Walked last a b → Inspects g IsShaped b c (Tells of last) r → Inspects g IsShaped a c (Comes of) r
    stepped r p q = goes_inspects (λ d fit. fit.schema_is) (Comes of) tt r (λ d fit so. comes of last d fit so) p q

    pub goes_on : (n : ℤ) → Walked last a b → Inspects g IsShaped b c (Tells of last) (Ok (Next n)) → Walked (Some n) a c
    goes_on n p q =
        goes_then (λ d fit. fit.schema_is) (λ trees done. AreSoundUpTo of (Some n) trees) tt (λ d fit so done is. comes of last d fit so (Next n) is)
        (goes_so (λ trees done. Tells of last trees (Next n)) (Next n) tt (λ trees h. h) (goes_of q)) p

    pub finds : (f : Finding) → Walked last a b → Inspects g IsShaped b c (Tells of last) (Ok (Found f)) → Inspects g IsShaped a c (TellsAll of) (Ok (Some f))
    finds f p q = inspects_so (TellsAll of) (Found f) (Some f) (λ trees h. h) (stepped (Ok (Found f)) p q)

    pub ends : Walked last a b → Inspects g IsShaped b c (Tells of last) (Ok Done) → Inspects g IsShaped a c (TellsAll of) (Ok None)
    ends p q = inspects_so (TellsAll of) Done None (λ trees h. h) (stepped (Ok Done) p q)

    -- a step that comes to no end
    pub fails : (e : CheckFault) (r : Result (Option Finding) CheckFault) → r ≡ Err e → Walked last a b → Inspects g IsShaped b c (Tells of last) (Err e) → Inspects g IsShaped a c (TellsAll of) r
    fails e r is p q = inspects_nothing (TellsAll of) e r is (stepped (Err e) p q)

  -- there are too many rows
  pub gives_up : (last : Option ℤ) {a b : Held S} → Walked last a b → Inspects g IsShaped a b (TellsAll of) (Err Memory)
  gives_up last p = record {
    found = λ clean fit. tt;
    served = λ clean. tt;
    stands = λ has clean. tt;
    looks = λ has clean up. p.looks has clean (p.asks.was_open clean up) up;
    asks = p.asks;
    accounts = accounts_lost g p.accounts;
  }
