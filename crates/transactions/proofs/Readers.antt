-- Readers within a transaction: rows that are shown are read, and one reader comes after another.
use Rattle.transactions.proofs.Common.{AsksInside, CommitFault, Database, Err, Error, HasCleanDisk, Held, IsSound, IsStore, IsUnwritten, IsWellFormed, Ok, Result, Trees, ap, arith, keeps_then, state, subst, sym, ⊤, ◌∙◌, ◌≡◌}
use Rattle.sqlite.proofs.Callers.{unchanged_then}
use Rattle.sqlite_trees.specs.declared.store.Store.{Ghosts}
use Rattle.tables.specs.Calls.{LooksInside, ReadsInside}
use Rattle.transactions.proofs.Committing.{asks_then, unwritten_of}
use Rattle.transactions.specs.inner.Calls.{Finds, open_in}

module _ {S : Type 0} (g : Ghosts S) where
  -- what a reader leaves that fails
  pub finds_none : {X : Type 0} {Holds : Trees → Type 0} {Is : Trees → X → Type 0} (a b : Held S) (fault : CommitFault) (r : Result X CommitFault) → r ≡ Err fault → LooksInside g a b → AsksInside (state g a) (state g b)
      → IsUnwritten (IsSound g Holds a b) fault → Finds g Holds Is a b r
  finds_none {X} {Holds} {Is} a b fault r is looks asks told =
      subst (Finds g Holds Is a b) (sym is) (record { ok = λ clean store. tt; err = told; stands = λ has clean. tt; served = λ clean. tt; looks = looks; asks = asks })

  -- a statement that shows rows finds them
  pub finds_shown : {X : Type 0} {Is : Trees → X → Type 0} {a b : Held S} {x : X} → ReadsInside {E = Error} g IsStore a b Is (Ok x) → Finds g (λ _. ⊤) Is a b (Ok x)
  finds_shown reads = record { ok = reads.found; err = tt; stands = reads.stands; served = reads.served; looks = reads.looks; asks = reads.asks }

  module _ {X : Type 0} {Any : Trees → Type 0} {Is : Trees → X → Type 0} {a b : Held S} {x : X} (first : Finds g Any Is a b (Ok x)) where
    -- an answer is made of what was found
    pub finds_so : {Y : Type 0} {Holds : Trees → Type 0} {Then : Trees → Y → Type 0} {y : Y} → ((trees : Trees) → IsWellFormed trees → Is trees x → Then trees y) → Finds g Holds Then a b (Ok y)
    finds_so so = record { ok = λ clean store. so (open_in g a).trees store.laid (first.ok clean store); err = tt; stands = first.stands; served = first.served; looks = first.looks; asks = first.asks }

    -- or none is, since it is not intact
    pub finds_lost : {Y : Type 0} {Holds : Trees → Type 0} {Then : Trees → Y → Type 0} (fault : CommitFault) (r : Result Y CommitFault) → r ≡ Err fault → (intact : Type 0)
        → ((trees : Trees) → IsWellFormed trees → Holds trees → Is trees x → intact) → IsUnwritten intact fault → Finds g Holds Then a b r
    finds_lost {Y} {Holds} fault r is intact so told =
        finds_none a b fault r is first.looks first.asks
        (unwritten_of intact (IsSound g Holds a b) fault (λ it. let had = it.1 (first.served it.0) in so (open_in g a).trees had.0.laid had.1 (first.ok it.0 had.0)) told)

    -- the tables of a call that comes next are the same
    pub same_next : (c : Held S) → AsksInside (state g b) (state g c) → HasCleanDisk (state g c) → IsStore (open_in g a) → open_in g b ≡ open_in g a
    same_next c asks clean store = let was : HasCleanDisk (state g b) = omega (arith, asks.survives.clean, clean) in (first.stands store.schema_is was).0.now_is

    -- what it is told of them is so of those before
    pub told_next : (Holds Later : Trees → Type 0) (c : Held S) (fault : CommitFault) → AsksInside (state g b) (state g c) → ((d : Database) → IsStore d → Holds d.trees → Is d.trees x → Later d.trees)
        → IsUnwritten (IsSound g Later b c) fault → IsUnwritten (IsSound g Holds a c) fault
    told_next Holds Later c fault asks so told =
        unwritten_of (IsSound g Later b c) (IsSound g Holds a c) fault
        (λ it. (
          it.0,
          λ up.
              let was : HasCleanDisk (state g b) = omega (arith, asks.survives.clean, it.0) in
              let had = it.1 (first.served was) in
              subst (λ (d : Database). IsStore d × Later d.trees) (sym (same_next c asks it.0 had.0)) (had.0, so (open_in g a) had.0 had.1 (first.ok was had.0)),
        )) told

    pub looks_next : (c : Held S) → LooksInside g b c → AsksInside (state g b) (state g c) → LooksInside g a c
    looks_next c looks asks has = record {
      kept = λ clean.
          let was : HasCleanDisk (state g b) = omega (arith, asks.survives.clean, clean) in
          keeps_then (state g a) (state g b) (state g c) ((first.looks has).kept was) ((looks (ap (λ (d : Database). d.schema) (first.stands has was).0.now_is ∙ has)).kept clean);
      survives = (asks_then (state g a) (state g b) (state g c) first.asks asks).survives;
    }

    -- another reader comes next
    pub finds_then : {Y Z : Type 0} {Later Holds : Trees → Type 0} {Next : Trees → Y → Type 0} {Then : Trees → Z → Type 0} {c : Held S} {y : Y} {z : Z} → Finds g Later Next b c (Ok y)
        → ((trees : Trees) → IsWellFormed trees → Is trees x → Next trees y → Then trees z) → Finds g Holds Then a c (Ok z)
    finds_then {Y} {Z} {Later} {Holds} {Next} {Then} {c} {y} {z} next so = record {
      ok = λ clean store.
          let was : HasCleanDisk (state g b) = omega (arith, next.asks.survives.clean, clean) in
          so (open_in g a).trees store.laid (first.ok was store) (subst (λ (d : Database). IsStore d → Next d.trees y) (same_next c next.asks clean store) (next.ok clean) store);
      err = tt;
      stands = λ has clean.
          let was : HasCleanDisk (state g b) = omega (arith, next.asks.survives.clean, clean) in
          let before = first.stands has was in
          unchanged_then (state g a) (state g b) (state g c) before (next.stands (ap (λ (d : Database). d.schema) before.0.now_is ∙ has) clean);
      served = λ clean. let was : HasCleanDisk (state g b) = omega (arith, next.asks.survives.clean, clean) in first.served was;
      looks = looks_next c next.looks next.asks;
      asks = asks_then (state g a) (state g b) (state g c) first.asks next.asks;
    }

    -- and fails
    pub then_failed : {Y Z : Type 0} {Later Holds : Trees → Type 0} {Next : Trees → Y → Type 0} {Then : Trees → Z → Type 0} {c : Held S} (fault : CommitFault) (r : Result Z CommitFault) → r ≡ Err fault → Finds g Later Next b c (Err fault)
        → ((d : Database) → IsStore d → Holds d.trees → Is d.trees x → Later d.trees) → Finds g Holds Then a c r
    then_failed {Y} {Z} {Later} {Holds} {Next} {Then} {c} fault r is next so =
        finds_none a c fault r is (looks_next c next.looks next.asks) (asks_then (state g a) (state g b) (state g c) first.asks next.asks) (told_next Holds Later c fault next.asks so next.err)

    -- what both have found
    pub finds_both : {Y : Type 0} {Later : Trees → Type 0} {Next : Trees → Y → Type 0} {c : Held S} {y : Y} → Finds g Later Next b c (Ok y)
        → Finds g {X = Unit {0}} (λ _. ⊤) (λ trees _. Is trees x × Next trees y) a c (Ok tt)
    finds_both next = finds_then next (λ trees laid p q. (p, q))
