-- One row put behind others, and a query that finds one row at most.
use Rattle.tables.proofs.Common.{AreNumbered, Bool, Changes, Chosen, Err, Insert, Int, IsAscending, IsPermutation, List, Null, Ok, OnOk, Ran, Result, Row, State, Table, Term, Values, [], all_weaker, ap, arith, cases_Bool, cast_row, edit_of, edited, false, false_from_ne_true, filter, filter_none, inl, inr, length, length_permutation, map, one_permutation, put_row, refl, same, schema, subst, sym, true, value_rows, with_cells, with_rowid, ℕ, ◌++◌, ◌/◌, ◌∙◌, ◌∷◌, ◌≡◌, ◌⊎◌}
use Rattle.tables.proofs.Numbered.{appends, next_is}
use Rattle.tables.proofs.Writes.{IsCommand, IsPlainTable, inserts}

-- an INSERT of one row of values puts in the cells that it is cast to
pub inserts_row : {X E : Type 0} (at : ℕ) (table : Table) → IsPlainTable schema at table → (old new : State) → old.now.schema ≡ schema → {text : List ℕ} {terms : List Term} {width : ℕ}
    → IsCommand schema text (Insert at (Values terms width)) → (params : Row) {values : Row} (cells : Row) → cast_row table values ≡ Null ∷ cells → AreNumbered (old.now.trees table.tree)
    → value_rows params width (length terms / width) terms ≡ values ∷ [] → (r : Result X E) → OnOk r (Ran text params old new) → OnOk r (Changes table.tree (with_cells (old.now.trees table.tree) cells) old.now new.now)
inserts_row at table it old new has command params cells is numbered given (Err e) h = tt
inserts_row at table it old new has {text} {terms} {width} command params cells is numbered given (Ok x) h =
    let rows : List Row = old.now.trees table.tree in
    subst (λ l. Changes table.tree l old.now new.now)
    (ap (λ news. edited old.now.trees (edit_of old.now.trees table [] Chosen 0 news)) given ∙ ap (λ r. put_row (with_rowid Chosen rows r) rows) is
    ∙ appends rows cells numbered ∙ ap (λ n. rows ++ (Int n ∷ cells) ∷ []) (next_is rows))
    (inserts schema at table it old new has text terms width command params h)

none_permutation : {X : Type 0} (ys : List X) → IsPermutation [] ys → ys ≡ []
none_permutation [] h = refl
none_permutation (y ∷ ys) h = absurd (omega (arith, length_permutation [] (y ∷ ys) h))

-- no two rows pass
abbrev pub HasOneAtMost : (Row → Bool) → List Row → Type 0
HasOneAtMost p rows = IsAscending (λ a b. p a ≡ true → p b ≡ true → ⊥) rows

pub few : (p : Row → Bool) (rows : List Row) → HasOneAtMost p rows → (filter p rows ≡ []) ⊎ ((r : Row) × (filter p rows ≡ r ∷ []))
few p [] h = inl refl
few p (r ∷ rows) h = elim (cases_Bool (p r)) [
  | inl is ↦ inr (r, rw is (ap (λ l. r ∷ l) (filter_none p rows (all_weaker _ (λ s. p s ≡ false) (λ s apart. false_from_ne_true (p s) (apart is)) rows h.0))))
  | inr is ↦ rw is (few p rows h.1)
]

-- of one row at most there is one order
pub one_order : (show : Row → Row) (p : Row → Bool) (rows found : List Row) → HasOneAtMost p rows → IsPermutation (map show (filter p rows)) found → found ≡ map show (filter p rows)
one_order show p rows found h same = elim (few p rows h) [
  | inl none ↦ none_permutation found (subst (λ l. IsPermutation (map show l) found) none same) ∙ ap (map show) (sym none)
  | inr one ↦ one_permutation (show one.0) found (subst (λ l. IsPermutation (map show l) found) one.1 same) ∙ ap (map show) (sym one.1)
]
