-- What calls of a store leave, one after the other.
use Rattle.sqlstore.proofs.Common.{Asks, Database, Err, Error, Finds, Ghosts, HasCleanDisk, Held, Holds, IfErr, IfOk, IsHeld, IsStanding, IsStore, IsTrue, KnownDatabase, List, None, Ok, OnlyLooks, Option, Reads, Result, Row, SqlStore, StoreFault, Trees, Trees-set, WasStore, ap, contents_in, inl, inr, rows_set, schema, state, subst, sym, ∥∥₁_elim, ∥∥₁_map, ◌∙◌, ◌≡◌, ◌≤◌, ◌⊎◌}
use Rattle.index.specs.Layout.{HasIndexRows}
use Rattle.transactions.proofs.IndexSteps.{rows_of}
use Rattle.store.specs.Lawful.{AllEndAtLast}
use Rattle.transactions.specs.Indexing.{IsCommittedStore, IsIndexedStore}
use Rattle.sqlstore.specs.inner.Causes.{IsJudged}
use Rattle.sqlstore.proofs.Common.{IsKnown, ∥∥₁_prop}
use Rattle.sqlstore.specs.Standing.{AreKnown}

-- the tables as the last change left them, with the rows of indexes
pub indexed_store : {S : Type 0} {g : Ghosts S} {conn last : Held S} → Holds g conn last → IsIndexedStore (state g last).now
indexed_store h = record { store = h.store; indexed = h.indexed }

-- and they are those of a store between two calls
pub committed_store : {S : Type 0} {g : Ghosts S} {conn last : Held S} → Holds g conn last → IsCommittedStore (state g last).now
committed_store h = record { rows = indexed_store h; ends = h.ends }

-- what a change makes of a store: one whose databases end at their last documents, where those before did
pub record Follows (old new : Database) : Type 0 where
  pub rows : IsIndexedStore new
  pub ends : AllEndAtLast (contents_in old.trees) → AllEndAtLast (contents_in new.trees)

module _ {S : Type 0} (g : Ghosts S) (old new origin last : Held S) where
  -- the rows are as they were, whichever way a query ended
  same_rows : Holds g old last → IsTrue (state g old).is_open → ((state g new).now ≡ (state g old).now) ⊎ ((state g new).now ≡ (state g old).committed) → (state g new).now ≡ (state g last).now
  same_rows h up (inl is) = is ∙ h.now up
  same_rows h up (inr is) = is ∙ h.committed up

  same_schema : Holds g old last → IsTrue (state g old).is_open → old.schema ≡ schema
  same_schema h up = ap (λ (d : Database). d.schema) (h.now up) ∙ h.store.schema_is

  -- a query leaves what is held
  holds_on : Asks (state g old) (state g new) → (old.schema ≡ schema → OnlyLooks (state g old) (state g new)) → HasCleanDisk (state g new) → Holds g old last → Holds g new last
  holds_on asks looks clean h = record {
    store = h.store;
    indexed = h.indexed;
    ends = h.ends;
    now = λ up. let was = asks.was_open clean up in same_rows h was ((looks (same_schema h was)).rows clean up);
    committed = λ up. let was = asks.was_open clean up in ((looks (same_schema h was)).kept clean).committed up ∙ h.committed was;
  }

  -- and the store stands
  pub still : {X E : Type 0} {IsFit : Database → Type 0} {Is : Trees → X → Type 0} {r : Result X E} {known : Option KnownDatabase} {earlier : List KnownDatabase} → Reads g IsFit old new Is r
      → IsStanding g old origin last known earlier → IsStanding g new origin last known earlier
  still reads s = record {
    idle = reads.asks.mode s.idle;
    unlimited = reads.asks.limit ∙ s.unlimited;
    held = λ clean is. ∥∥₁_map (s.held (reads.asks.clean clean) is) (holds_on reads.asks reads.looks clean);
    known_so = λ clean is. s.known_so (reads.asks.clean clean) is;
    earlier_so = λ clean is. s.earlier_so (reads.asks.clean clean) is;
  }

  -- what a query answers is so in the rows that the last change left, which are fit for it
  pub found : {X E F : Type 0} {IsFit : Database → Type 0} (fit : (d : Database) → IsIndexedStore d → IsFit d) {Is : Trees → X → Type 0} (P : Trees → X → Type 0) → ((trees : Trees) (x : X) → IsProp (P trees x)) → ((trees : Trees) (x : X) → Is trees x → P trees x)
      → (answer : Result X E) (r : Result X F) → IfOk r (λ x. answer ≡ Ok x) → Reads g IsFit old new Is answer → IsHeld g old origin last → HasCleanDisk (state g new) → WasStore g origin
      → IfOk r (P (state g last).now.trees)
  found fit P prop so answer (Err e) is reads held clean was = tt
  found {IsFit = IsFit} fit {Is = Is} P prop so answer (Ok x) is reads held clean was =
      let read = subst (Reads g IsFit old new Is) is reads in
      let up = read.served clean in
      ∥∥₁_elim (held (read.asks.clean clean) was) (prop _ x) (λ h. subst (λ (d : Database). P d.trees x) (h.now up) (so _ x (read.found clean (fit _ (subst IsIndexedStore (sym (h.now up)) (indexed_store h))))))

  -- an open connection has the rows that the last change left
  pub same_trees : IsHeld g old origin last → HasCleanDisk (state g old) → WasStore g origin → IsTrue (state g old).is_open → (state g old).now.trees ≡ (state g last).now.trees
  same_trees held clean is up = ∥∥₁_elim (held clean is) (Trees-set _ _) (λ h. ap (λ (d : Database). d.trees) (h.now up))

-- it stands too where nothing is known of a database
pub dropped : {S : Type 0} (g : Ghosts S) {conn origin last : Held S} {known : Option KnownDatabase} {earlier : List KnownDatabase} → IsStanding g conn origin last known earlier → IsStanding g conn origin last None earlier
dropped g s = record { idle = s.idle; unlimited = s.unlimited; held = s.held; known_so = λ clean is. ∣ tt ∣₁; earlier_so = s.earlier_so }

-- and where something else is known of it
pub known_less : {S : Type 0} (g : Ghosts S) {conn origin last : Held S} {known less : Option KnownDatabase} {earlier : List KnownDatabase} → ((trees : Trees) → IsKnown trees known → IsKnown trees less)
    → IsStanding g conn origin last known earlier → IsStanding g conn origin last less earlier
known_less g {last = last} so s = record { idle = s.idle; unlimited = s.unlimited; held = s.held; known_so = λ clean is. ∥∥₁_map (s.known_so clean is) (so (state g last).now.trees); earlier_so = s.earlier_so }

-- and where what was known of the latest one is put to those before it
pub kept_before : {S : Type 0} (g : Ghosts S) {conn origin last : Held S} {known : Option KnownDatabase} {earlier more : List KnownDatabase}
    → ((trees : Trees) → IsKnown trees known → AreKnown trees earlier → AreKnown trees more) → IsStanding g conn origin last known earlier → IsStanding g conn origin last None more
kept_before g {last = last} moves s = record {
  idle = s.idle;
  unlimited = s.unlimited;
  held = s.held;
  known_so = λ clean is. ∣ tt ∣₁;
  earlier_so = λ clean is. ∥∥₁_elim (s.known_so clean is) ∥∥₁_prop (λ k. ∥∥₁_map (s.earlier_so clean is) (moves (state g last).now.trees k));
}

-- and where something else is known of those that were asked for before
pub forgotten : {S : Type 0} (g : Ghosts S) {conn origin last : Held S} {known : Option KnownDatabase} {earlier less : List KnownDatabase} → ((trees : Trees) → AreKnown trees earlier → AreKnown trees less)
    → IsStanding g conn origin last known earlier → IsStanding g conn origin last known less
forgotten g {last = last} fewer s = record {
  idle = s.idle;
  unlimited = s.unlimited;
  held = s.held;
  known_so = s.known_so;
  earlier_so = λ clean is. ∥∥₁_map (s.earlier_so clean is) (fewer (state g last).now.trees);
}

-- what a statement reads and its answer told are what a store finds
module _ {S : Type 0} (g : Ghosts S) (old new : SqlStore S g) {X : Type 0} where
  pub finds_fit : {IsFit : Database → Type 0} (fit : (d : Database) → IsIndexedStore d → IsFit d) {Is : Trees → X → Type 0} (P : Trees → X → Type 0) → ((trees : Trees) (x : X) → IsProp (P trees x)) → ((trees : Trees) (x : X) → Is trees x → P trees x) → (answer : Result X Error) (r : Result X StoreFault)
      → new.origin.value ≡ old.origin.value → new.last.value ≡ old.last.value → old.faults ≤ new.faults → IfOk r (λ x. answer ≡ Ok x) → IfErr r (IsJudged old.faults new.faults)
      → Reads g IsFit old.conn new.conn Is answer → Finds g P old new r
  finds_fit fit P prop so answer r origin last counted told judged reads = record {
    found = λ honest. found g old.conn new.conn old.origin.value old.last.value fit P prop so answer r told reads old.standing.held honest.0 (subst (WasStore g) origin honest.1);
    judged = judged;
    stands = record { origin = origin; last = last; counted = counted; clean = reads.asks.clean };
  }

  pub finds : {Is : Trees → X → Type 0} (P : Trees → X → Type 0) → ((trees : Trees) (x : X) → IsProp (P trees x)) → ((trees : Trees) (x : X) → Is trees x → P trees x) → (answer : Result X Error) (r : Result X StoreFault)
      → new.origin.value ≡ old.origin.value → new.last.value ≡ old.last.value → old.faults ≤ new.faults → IfOk r (λ x. answer ≡ Ok x) → IfErr r (IsJudged old.faults new.faults)
      → Reads g IsStore old.conn new.conn Is answer → Finds g P old new r
  finds = finds_fit (λ d it. it.store)

  -- the same of rows that are those that the tables say
  pub finds_rows : {items : X → List Row} {said : Trees → List Row} → (answer : Result X Error) (r : Result X StoreFault) → new.origin.value ≡ old.origin.value → new.last.value ≡ old.last.value → old.faults ≤ new.faults
      → IfOk r (λ x. answer ≡ Ok x) → IfErr r (IsJudged old.faults new.faults) → Reads g IsStore old.conn new.conn (λ trees x. items x ≡ said trees) answer → Finds g (λ trees x. items x ≡ said trees) old new r
  finds_rows {items} {said} = finds_fit (λ d it. it.store) (λ trees x. items x ≡ said trees) (λ _ _. rows_set _ _) (λ _ _ is. is)

  -- the same of the rows of indexes
  pub finds_index_rows : {items : X → List Row} {said : Trees → List Row} → (answer : Result X Error) (r : Result X StoreFault) → new.origin.value ≡ old.origin.value → new.last.value ≡ old.last.value → old.faults ≤ new.faults
      → IfOk r (λ x. answer ≡ Ok x) → IfErr r (IsJudged old.faults new.faults) → Reads g HasIndexRows old.conn new.conn (λ trees x. items x ≡ said trees) answer → Finds g (λ trees x. items x ≡ said trees) old new r
  finds_index_rows {items} {said} = finds_fit rows_of (λ trees x. items x ≡ said trees) (λ _ _. rows_set _ _) (λ _ _ is. is)
