-- The steps of a walk over the rows of a table, one after another.
use Rattle.std.proofs.Common.{◌≡◌, ℤ, Bool, true, false, List, [], Option, Some, None, Result, Ok, Err, sym, subst, ap, ◌∙◌}
use Rattle.sqlite.specs.Effect.{Database}
use Rattle.sqlite.specs.Held.{Held, state}
use Rattle.sqlite_trees.specs.Tree.{Trees}
use Rattle.sqlite_trees.specs.declared.store.Store.{Ghosts}
use Rattle.sqlite_value.specs.Order.{Row, column}
use Rattle.sqlite_value.specs.declared.value.Value.TheVariants.{Int}
use Rattle.std.specs.Prelude.{find, option_map, slice_get, unwrap_or}
use Rattle.tables.proofs.RowMaps.{find_found}
use Rattle.tables.specs.Rows.{number_of}
use Rattle.file_check.proofs.CheckSteps.{checks_none, checks_so, checks_stop, checks_then}
use Rattle.file_check.proofs.IndexedTables.{known_rows, number_shown, numbered_rows}
use Rattle.file_check.proofs.WalkedRows.{first_next, row_step, shown_nothing, shown_there, walked_all, walked_next, walked_none}
use Rattle.file_check.specs.Checks.{Checks}
use Rattle.file_check.specs.Indexes.{AreChecked, IsAnswer}
use Rattle.file_check.specs.inner.IndexRows.{IsKnownRow, IsNextRow, IsOwnRow, IsReady, indexed_table, indexed_tree, shown_next}
use Rattle.file_check.specs.inner.Walks.{AreWalked, IsRowStep, IsStep, is_behind, next_rows}
use Rattle.file_check.specs.declared.finding.CheckFault.{CheckFault}
use Rattle.file_check.specs.declared.finding.Finding.{Finding}
use Rattle.file_check.specs.declared.indexes.indexed.Indexed.{Indexed}
use Rattle.file_check.specs.declared.indexes.step.Step.{Step}
use Rattle.file_check.specs.declared.indexes.step.Step.TheVariants.{Next, Found, Done}

-- what a look at the next row of a table tells
abbrev pub Tells : Indexed → Option ℤ → Trees → Step → Type 0
Tells of last trees step = IsStep (indexed_table of) (trees (indexed_tree of)) (IsOwnRow of trees) last step

-- what is told of all of them
abbrev pub TellsAll : Indexed → Trees → Option Finding → Type 0
TellsAll of trees found = AreChecked (indexed_table of) (trees (indexed_tree of)) (IsOwnRow of trees) found

-- the rows up to the last one are so
abbrev pub AreSoUpTo : Indexed → Option ℤ → Trees → Type 0
AreSoUpTo of last trees = AreWalked (IsOwnRow of trees) last (trees (indexed_tree of))

-- what a step makes of the walk
abbrev Comes : Indexed → Trees → Step → Type 0
Comes of trees (Next n) = AreSoUpTo of (Some n) trees
Comes of trees (Found f) = TellsAll of trees (Some f)
Comes of trees Done = TellsAll of trees None

comes : (of : Indexed) (last : Option ℤ) (d : Database) → IsReady of d → AreSoUpTo of last d.trees → (step : Step) → Tells of last d.trees step → Comes of d.trees step
comes of last d fit so (Next n) is =
    subst (λ m. AreSoUpTo of (Some m) d.trees) (sym is.2) (walked_next (IsOwnRow of d.trees) last (d.trees (indexed_tree of)) is.0 (numbered_rows of d fit).rising is.1 is.3 so)
comes of last d fit so (Found f) is = is
comes of last d fit so Done is = walked_all (IsOwnRow of d.trees) last (d.trees (indexed_tree of)) is so

module _ {S : Type 0} (g : Ghosts S) (of : Indexed) where
  -- the rows up to the last one are so, and the connection is as it was
  abbrev pub Walked : Option ℤ → Held S → Held S → Type 0
  Walked last a b = Checks {X = Unit {0}} {E = CheckFault} g (IsReady of) a b (λ trees done. AreSoUpTo of last trees) (Ok tt)

  pub begins : (a : Held S) → Walked None a a
  begins a = checks_none g (IsReady of) (λ trees done. AreSoUpTo of None trees) a (Ok tt) (λ fit. walked_none (IsOwnRow of (state g a).now.trees) ((state g a).now.trees (indexed_tree of)))

  -- a step that was made
  stepped : (last : Option ℤ) {a b c : Held S} {r : Result Step CheckFault} → Walked last a b → Checks g (IsReady of) b c (Tells of last) r → Checks g (IsReady of) a c (Comes of) r
  stepped last {a = a} p q = checks_then g (IsReady of) (IsReady of) {B = Tells of last} {C = Comes of} p q (λ fit so. fit) (λ fit. comes of last (state g a).now fit)

  -- a step that was made, and is this one
  came : (last : Option ℤ) (now : Step) {step : Step} {a b c : Held S} → Walked last a b → Checks {E = CheckFault} g (IsReady of) b c (Tells of last) (Ok step) → step ≡ now → Checks {E = CheckFault} g (IsReady of) a c (Comes of) (Ok now)
  came last now {a = a} {c = c} p q is = subst (λ s. Checks {E = CheckFault} g (IsReady of) a c (Comes of) (Ok s)) is (stepped last p q)

  pub goes_on : (last : Option ℤ) (n : ℤ) {step : Step} {a b c : Held S} → Walked last a b → Checks {E = CheckFault} g (IsReady of) b c (Tells of last) (Ok step) → step ≡ Next n → Walked (Some n) a c
  goes_on last n p q is = checks_so g (IsReady of) (IsReady of) (λ trees done. AreSoUpTo of (Some n) trees) (came last (Next n) p q is) (λ fit. fit) (λ fit so. so)

  pub finds : (last : Option ℤ) (f : Finding) {step : Step} {a b c : Held S} → Walked last a b → Checks {E = CheckFault} g (IsReady of) b c (Tells of last) (Ok step) → step ≡ Found f → Checks {E = CheckFault} g (IsReady of) a c (TellsAll of) (Ok (Some f))
  finds last f p q is = checks_so g (IsReady of) (IsReady of) (TellsAll of) (came last (Found f) p q is) (λ fit. fit) (λ fit so. so)

  pub ends : (last : Option ℤ) {step : Step} {a b c : Held S} → Walked last a b → Checks {E = CheckFault} g (IsReady of) b c (Tells of last) (Ok step) → step ≡ Done → Checks {E = CheckFault} g (IsReady of) a c (TellsAll of) (Ok None)
  ends last p q is = checks_so g (IsReady of) (IsReady of) (TellsAll of) (came last Done p q is) (λ fit. fit) (λ fit so. so)

  -- a step that comes to no end
  pub fails : (last : Option ℤ) (e : CheckFault) {a b c : Held S} (r : Result (Option Finding) CheckFault) → r ≡ Err e → Walked last a b → Checks {E = CheckFault} g (IsReady of) b c (Tells of last) (Err e) → Checks g (IsReady of) a c (TellsAll of) r
  fails last e r is p q = checks_stop g e r is (stepped last p q)

  -- there are too many rows
  pub gives_up : (last : Option ℤ) (e : CheckFault) {a b : Held S} → Walked last a b → Checks g (IsReady of) a b (TellsAll of) (Err e)
  gives_up last e p = record { tells = λ clean fit. tt; stays = λ clean fit. tt; leaves = p.leaves; asks = p.asks }

  module _ {X E : Type 0} (items : X → List Row) (last : Option ℤ) {a b : Held S} {v : X} (p : Checks {E = E} g (IsReady of) a b (λ trees x. items x ≡ next_rows (shown_next of) last (trees (indexed_tree of))) (Ok v)) where
    -- the first row that is shown is that of the next row
    first_shown : items v ≡ next_rows (shown_next of) last ((state g a).now.trees (indexed_tree of)) → (o : Option Row) → slice_get (items v) 0 ≡ o
        → option_map (shown_next of) (find (is_behind last) ((state g a).now.trees (indexed_tree of))) ≡ o
    first_shown is o at = sym (ap (λ l. slice_get l 0) is ∙ first_next (shown_next of) last ((state g a).now.trees (indexed_tree of))) ∙ at

    -- the next row is read, and looked at
    pub next_looked : {D : Type 0} {c : Held S} (row : Row) {r : Result Step D} → slice_get (items v) 0 ≡ Some row → ((x : Row) → Checks g (IsNextRow of row x) b c (λ trees step. IsRowStep (indexed_table of) (IsOwnRow of trees) x step) r) → Checks g (IsReady of) a c (Tells of last) r
    next_looked row at q =
        let d = (state g a).now in
        let rows = d.trees (indexed_tree of) in
        let o = find (is_behind last) rows in
        let x = unwrap_or o [] in
        checks_then g (IsReady of) (IsNextRow of row x) {C = Tells of last} p (q x)
        (λ fit is.
        let found = shown_there (shown_next of) o row (first_shown is (Some row) at) in
        record { ready = fit; row = (find_found (IsKnownRow of d.trees) (is_behind last) rows x (known_rows of d fit) found.0).0; shown_is = found.1 })
        (λ fit is step h. row_step (IsOwnRow of d.trees) (indexed_table of) last rows x step (numbered_rows of d fit).rising (shown_there (shown_next of) o row (first_shown is (Some row) at)).0 h)

    -- there is none
    pub next_none : {D : Type 0} → slice_get (items v) 0 ≡ None → Checks {E = D} g (IsReady of) a b (Tells of last) (Ok Done)
    next_none at = checks_so g (IsReady of) (IsReady of) (Tells of last) p (λ fit. fit) (λ fit is. shown_nothing (shown_next of) (find (is_behind last) ((state g a).now.trees (indexed_tree of))) (first_shown is None at))

  module _ (s r : Row) {E D : Type 0} (b : Bool) {old new : Held S} (p : Checks {E = E} g (IsNextRow of s r) old new (λ trees is. IsAnswer (IsOwnRow of trees r) is) (Ok b)) where
    -- the row is as it is to be
    pub row_sound : (n : ℤ) → b ≡ true → ((m : ℤ) → column s 0 ≡ Int m → n ≡ m) → Checks {E = D} g (IsNextRow of s r) old new (λ trees step. IsRowStep (indexed_table of) (IsOwnRow of trees) r step) (Ok (Next n))
    row_sound n is reads =
        checks_so g (IsNextRow of s r) (IsNextRow of s r) (λ trees step. IsRowStep (indexed_table of) (IsOwnRow of trees) r step) p (λ fit. fit)
        (λ fit h. (reads (number_of r) (number_shown of s r (state g old).now fit), subst (IsAnswer (IsOwnRow of (state g old).now.trees r)) is h))

    -- it is not
    pub row_unsound : (f : Finding) → b ≡ false → f.table ≡ indexed_table of → ((m : ℤ) → column s 0 ≡ Int m → f.key ≡ m) → Checks {E = D} g (IsNextRow of s r) old new (λ trees step. IsRowStep (indexed_table of) (IsOwnRow of trees) r step) (Ok (Found f))
    row_unsound f is table reads =
        checks_so g (IsNextRow of s r) (IsNextRow of s r) (λ trees step. IsRowStep (indexed_table of) (IsOwnRow of trees) r step) p (λ fit. fit)
        (λ fit h. (table, reads (number_of r) (number_shown of s r (state g old).now fit), subst (IsAnswer (IsOwnRow of (state g old).now.trees r)) is h))

  -- what is told of a row of one table, where the table is this one
  pub own_as : (t : Indexed) (s r : Row) {E : Type 0} {old new : Held S} {told : Result Bool E} → t ≡ of → Checks g (IsNextRow of s r) old new (λ trees is. IsAnswer (IsOwnRow of trees r) is) told → Checks g (IsNextRow t s r) old new (λ trees is. IsAnswer (IsOwnRow t trees r) is) told
  own_as t s r {old = old} {new = new} {told = told} is p = subst (λ u. Checks g (IsNextRow u s r) old new (λ trees is. IsAnswer (IsOwnRow u trees r) is) told) (sym is) p
