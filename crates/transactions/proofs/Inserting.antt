-- Revisions that are put in one after another.
use Rattle.transactions.proofs.Common.{AreInserted, Bool, Changes, Database, Entry, Err, HistoryContent, IsOnTheWay, IsPlaced, List, None, Ok, OnOk, Option, Result, Revision, Some, [], ap, arith, cond, docs_tree, document_cells, drop, entries_before, false, get_or, is_known, is_row_of_document, length, next_of, not, refl, revision_cells, revs_tree, slice_get, subst, suc, sym, true, unknown_in, with_cells, Row, ℕ, ℤ, ◌++◌, ◌+◌, ◌<◌, ◌∙◌, ◌∷◌, ◌≡◌}
use Rattle.tables.specs.Rows.{rows_with_winner}
use Rattle.std.specs.List.{list_any}
use Rattle.std.proofs.lemmas.Bool.{cond-false, cond-true}
use Rattle.std.proofs.Math.Seq.{drop-cons}
use Rattle.tree.specs.declared.entry.Held.{Held}
use Rattle.tables.proofs.DocumentWriteSteps.{inserted_fit, revisions_changed}

module _ (db : ℤ) (id : List ℕ) where
  pub one : (e : Revision × Entry) (a b : Database) → Changes revs_tree (with_cells (a.trees revs_tree) (revision_cells db id e.0 e.1)) a b → AreInserted (e ∷ []) db id a b
  one e a b h = (b, h, refl)

  -- these, and then more
  joined : (xs ys : List (Revision × Entry)) (a b c : Database) → AreInserted xs db id a b → AreInserted ys db id b c → AreInserted (xs ++ ys) db id a c
  joined [] ys a b c same h = subst (λ (x : Database). AreInserted ys db id x c) (sym same) h
  joined (x ∷ xs) ys a b c h k = (h.0, h.1, joined xs ys h.0 b c h.2 k)

  unknown-cons : (h : HistoryContent) (e : Revision × Entry) (es : List (Revision × Entry)) → unknown_in h (e ∷ es) ≡ unknown_in h (e ∷ []) ++ unknown_in h es
  unknown-cons h e es = elim (is_known h e.0) as (λ k. cond (not k) (e ∷ unknown_in h es) (unknown_in h es) ≡ cond (not k) (e ∷ []) [] ++ unknown_in h es) [ true ↦ refl | false ↦ refl ]

  pub cons_unknown : (h : HistoryContent) (e : Revision × Entry) (es : List (Revision × Entry)) (a b c : Database) → AreInserted (unknown_in h (e ∷ [])) db id a b → AreInserted (unknown_in h es) db id b c → AreInserted (unknown_in h (e ∷ es)) db id a c
  cons_unknown h e es a b c one more = subst (λ xs. AreInserted xs db id a c) (sym (unknown-cons h e es)) (joined (unknown_in h (e ∷ [])) (unknown_in h es) a b c one more)

  pub known_alone : (h : HistoryContent) (e : Revision × Entry) (a : Database) → is_known h e.0 ≡ true → AreInserted (unknown_in h (e ∷ [])) db id a a
  known_alone h e a known = subst (λ k. AreInserted (cond (not k) (e ∷ []) []) db id a a) (sym known) refl

  pub unknown_alone : (h : HistoryContent) (e : Revision × Entry) (a b : Database) → is_known h e.0 ≡ false → AreInserted (e ∷ []) db id a b → AreInserted (unknown_in h (e ∷ [])) db id a b
  unknown_alone h e a b unknown it = subst (λ k. AreInserted (cond (not k) (e ∷ []) []) db id a b) (sym unknown) it

  -- one more on the way
  pub step : (all : List (Revision × Entry)) (h : HistoryContent) (e : Revision × Entry) (es : List (Revision × Entry)) (old a b : Database)
      → IsOnTheWay all (unknown_in h (e ∷ es)) db id old a → AreInserted (unknown_in h (e ∷ [])) db id a b → IsOnTheWay all (unknown_in h es) db id old b
  step all h e es old a b way it = record {
    schema_is = (revisions_changed (unknown_in h (e ∷ [])) db id a b it).schema ∙ way.schema_is;
    fit = inserted_fit (unknown_in h (e ∷ [])) db id a b it way.fit;
    goes_on = λ end more. way.goes_on end (cons_unknown h e es a b end it more);
  }

  pub path_step : (all : List (Revision × Entry)) (h : HistoryContent) (path : List Revision) (last : Option Revision) (i : ℕ) (r : Revision) (parent : Option Revision) (old a b : Database)
      → i < length path → r ≡ get_or path i r → parent ≡ next_of (drop (i + 1) path) last
      → IsOnTheWay all (unknown_in h (entries_before None (drop i path) last)) db id old a → AreInserted (unknown_in h ((r, record { parent = parent; held = None }) ∷ [])) db id a b
      → IsOnTheWay all (unknown_in h (entries_before None (drop (i + 1) path) last)) db id old b
  path_step all h path last i r parent old a b lt is up way it =
      let next : suc i ≡ i + 1 = omega arith in
      let cut : drop i path ≡ r ∷ drop (i + 1) path = drop-cons path i r lt ∙ (λ j. sym is j ∷ drop (next j) path) in
      step all h (r, record { parent = next_of (drop (i + 1) path) last; held = None }) (entries_before None (drop (i + 1) path) last) old a b
      (subst (λ p. IsOnTheWay all (unknown_in h (entries_before None p last)) db id old a) cut way)
      (subst (λ (p : Option Revision). AreInserted (unknown_in h ((r, record { parent = p; held = None }) ∷ [])) db id a b) up it)

  -- the newest, and then the rest of the path
  pub path_joined : (h : HistoryContent) (d : Option Held) (path : List Revision) (last : Option Revision) (r : Revision) (a b c : Database) → slice_get path 0 ≡ Some r
      → AreInserted (unknown_in h ((r, record { parent = next_of (drop 1 path) last; held = d }) ∷ [])) db id a b → AreInserted (unknown_in h (entries_before None (drop 1 path) last)) db id b c
      → AreInserted (unknown_in h (entries_before d path last)) db id a c
  path_joined h d [] last r a b c is one more = absurd (cc)
  path_joined h d (x ∷ xs) last r a b c is one more =
      let same : r ≡ x = cc in
      cons_unknown h (x, record { parent = next_of xs last; held = d }) (entries_before None xs last) a b c
      (subst (λ y. AreInserted (unknown_in h ((y, record { parent = next_of xs last; held = d }) ∷ [])) db id a b) same one) more

  pub path_inserted : {X E : Type 0} (r : Result X E) (h : HistoryContent) (d : Option Held) (path rest : List Revision) (last next : Option Revision) (v : Revision) (a b c : Database)
      → slice_get path 0 ≡ Some v → rest ≡ drop 1 path → next ≡ next_of rest last
      → AreInserted (unknown_in h ((v, record { parent = next; held = d }) ∷ [])) db id a b → OnOk r (AreInserted (unknown_in h (entries_before None rest last)) db id b c)
      → OnOk r (AreInserted (unknown_in h (entries_before d path last)) db id a c)
  path_inserted (Err e) h d path rest last next v a b c is cut follows one more = tt
  path_inserted (Ok x) h d path rest last next v a b c is cut follows one more =
      path_joined h d path last v a b c is
      (subst (λ (p : Option Revision). AreInserted (unknown_in h ((v, record { parent = p; held = d }) ∷ [])) db id a b) (follows ∙ ap (λ p. next_of p last) cut) one)
      (subst (λ p. AreInserted (unknown_in h (entries_before None p last)) db id b c) cut more)

-- the document's row, put in where there was none, or changed
module _ {X E : Type 0} (r : Result X E) (db : ℤ) (id : List ℕ) (sequence : ℤ) (winner : List ℕ) (deleted : Bool) (a b : Database) where
  abbrev put : List Row
  put = with_cells (a.trees docs_tree) (document_cells db id sequence winner deleted)

  abbrev changed : List Row
  changed = rows_with_winner db id sequence winner deleted (a.trees docs_tree)

  pub placed_new : list_any (is_row_of_document db id) (a.trees docs_tree) ≡ false → OnOk r (Changes docs_tree put a b) → OnOk r (IsPlaced db id sequence winner deleted a b)
  placed_new none = subst (λ rows. OnOk r (Changes docs_tree rows a b)) (sym (cond-false (list_any (is_row_of_document db id) (a.trees docs_tree)) changed put none))

  pub placed_there : list_any (is_row_of_document db id) (a.trees docs_tree) ≡ true → OnOk r (Changes docs_tree changed a b) → OnOk r (IsPlaced db id sequence winner deleted a b)
  placed_there there = subst (λ rows. OnOk r (Changes docs_tree rows a b)) (sym (cond-true (list_any (is_row_of_document db id) (a.trees docs_tree)) changed put there))
