-- What a change of a store leaves.
use Rattle.sqlstore.proofs.Common.{Bool, ChangesWhole, Database, Err, Ghosts, HasCleanDisk, Held, Holds, IsKnown, IsStanding, IsStore, IsTrue, KnownDatabase, Moves, None, Ok, OnErr, OnOk, Option, Result, Some, SqlStore, Stands, WasStore, ap, arith, contents_in, contents_of, false, is_honest, is_some, refl, state, subst, sym, ∥∥₁_elim, ∥∥₁_map, ∥∥₁_prop, ◌∙◌, ◌≡◌}
use Rattle.transactions.proofs.Committing.{on_err}
use Rattle.transactions.specs.Endings.{Turns}
use Rattle.sqlstore.proofs.Standing.{Follows, indexed_store}
use Rattle.store.specs.Lawful.{AllEndAtLast}
use Rattle.transactions.specs.Indexing.{IsIndexedStore}
use Rattle.index.specs.Indexed.{IsIndexed}
use Rattle.sqlstore.proofs.Common.{List}
use Rattle.sqlstore.specs.Standing.{AreKnown}

module _ {S : Type 0} (g : Ghosts S) (old new origin last : Held S) (turns : Turns g old new) {known : Option KnownDatabase} {earlier : List KnownDatabase} (s : IsStanding g old origin last known earlier) where
  abbrev Known : Type 0
  Known = IsKnown (state g last).now.trees known

  -- a transaction that was undone leaves a store standing, where what is known may be what tells that it was
  pub undone_knowing : (Known → IsIndexedStore (state g old).now → (state g old).now.trees ≡ (state g last).now.trees → HasCleanDisk (state g new) → WasStore g origin → IsTrue (state g new).is_open
      → ((state g new).now ≡ (state g old).committed) × ((state g new).committed ≡ (state g old).committed)) → IsStanding g new origin last known earlier
  undone_knowing left = record {
    idle = turns.idle;
    unlimited = turns.limit ∙ s.unlimited;
    held = λ clean is. ∥∥₁_elim (s.known_so (turns.clean clean) is) ∥∥₁_prop (λ k. ∥∥₁_map (s.held (turns.clean clean) is) (λ h.
        let same = λ (up : IsTrue (state g new).is_open). h.now (turns.was_open clean up) in
        let settled = λ (up : IsTrue (state g new).is_open). left k (subst IsIndexedStore (sym (same up)) (indexed_store h)) (ap (λ (d : Database). d.trees) (same up)) clean is up in
        record {
          store = h.store;
          indexed = h.indexed;
          ends = h.ends;
          now = λ up. (settled up).0 ∙ h.committed (turns.was_open clean up);
          committed = λ up. (settled up).1 ∙ h.committed (turns.was_open clean up);
        }));
    known_so = λ clean is. s.known_so (turns.clean clean) is;
    earlier_so = λ clean is. s.earlier_so (turns.clean clean) is;
  }

  pub undone : (IsIndexedStore (state g old).now → (state g old).now.trees ≡ (state g last).now.trees → HasCleanDisk (state g new) → WasStore g origin → IsTrue (state g new).is_open
      → ((state g new).now ≡ (state g old).committed) × ((state g new).committed ≡ (state g old).committed)) → IsStanding g new origin last known earlier
  undone left = undone_knowing (λ _. left)

  -- One that was committed makes a store of one, and this of its rows. So the store stands on the new ones, and it is so of those that the last change left.
  module _ (done : HasCleanDisk (state g new) → IsTrue (state g old).is_open × IsTrue (state g new).is_open × ((state g new).now ≡ (state g new).committed)) (P : Database → Type 0)
      (makes : Known → HasCleanDisk (state g new) → HasCleanDisk (state g old) → WasStore g origin → IsIndexedStore (state g old).now → (state g old).now.trees ≡ (state g last).now.trees
      → Follows (state g old).now (state g new).now × P (state g old).now) where
    made : Known → HasCleanDisk (state g new) → WasStore g origin → Holds g old last → Follows (state g last).now (state g new).now × P (state g last).now
    made k clean is h =
        let same = h.now (done clean).0 in
        subst (λ d. Follows d (state g new).now × P d) same (makes k clean (turns.clean clean) is (subst IsIndexedStore (sym same) (indexed_store h)) (ap (λ (d : Database). d.trees) same))

    -- what is known of those that were asked for before, where the change keeps it
    pub stands_knowing : (then : List KnownDatabase)
        → (Known → HasCleanDisk (state g new) → HasCleanDisk (state g old) → WasStore g origin → IsIndexedStore (state g old).now → (state g old).now.trees ≡ (state g last).now.trees
        → AreKnown (state g last).now.trees earlier → AreKnown (state g new).now.trees then) → (next : Held S) → next ≡ new → IsStanding g new origin next None then
    stands_knowing then keeps next is_new = record {
      idle = turns.idle;
      unlimited = turns.limit ∙ s.unlimited;
      held = λ clean is. ∥∥₁_elim (s.known_so (turns.clean clean) is) ∥∥₁_prop (λ k. ∥∥₁_map (s.held (turns.clean clean) is) (λ h. record {
        store = subst (λ x. IsStore (state g x).now) (sym is_new) (made k clean is h).0.rows.store;
        indexed = subst (λ x. IsIndexed (state g x).now.trees) (sym is_new) (made k clean is h).0.rows.indexed;
        ends = subst (λ x. ∥ AllEndAtLast (contents_in (state g x).now.trees) ∥₁) (sym is_new) (∥∥₁_map h.ends (made k clean is h).0.ends);
        now = λ up. ap (λ x. (state g x).now) (sym is_new);
        committed = λ up. sym (done clean).2 ∙ ap (λ x. (state g x).now) (sym is_new);
      }));
      known_so = λ clean is. ∣ tt ∣₁;
      earlier_so = λ clean is. ∥∥₁_elim (s.known_so (turns.clean clean) is) ∥∥₁_prop (λ k. ∥∥₁_elim (s.held (turns.clean clean) is) ∥∥₁_prop (λ h. ∥∥₁_map (s.earlier_so (turns.clean clean) is) (λ all.
          let same = h.now (done clean).0 in
          subst (λ x. AreKnown (state g x).now.trees then) (sym is_new)
          (keeps k clean (turns.clean clean) is (subst IsIndexedStore (sym same) (indexed_store h)) (ap (λ (d : Database). d.trees) same) all))));
    }

    pub told_knowing : IsProp (P (state g last).now) → HasCleanDisk (state g new) → WasStore g origin → P (state g last).now
    told_knowing prop clean is = ∥∥₁_elim (s.known_so (turns.clean clean) is) prop (λ k. ∥∥₁_elim (s.held (turns.clean clean) is) prop (λ h. (made k clean is h).1))

  -- the same, whatever is known
  module _ (done : HasCleanDisk (state g new) → IsTrue (state g old).is_open × IsTrue (state g new).is_open × ((state g new).now ≡ (state g new).committed)) (P : Database → Type 0)
      (makes : HasCleanDisk (state g new) → HasCleanDisk (state g old) → WasStore g origin → IsIndexedStore (state g old).now → (state g old).now.trees ≡ (state g last).now.trees
      → Follows (state g old).now (state g new).now × P (state g old).now) where
    pub stands : (then : List KnownDatabase)
        → (HasCleanDisk (state g new) → HasCleanDisk (state g old) → WasStore g origin → IsIndexedStore (state g old).now → (state g old).now.trees ≡ (state g last).now.trees
        → AreKnown (state g last).now.trees earlier → AreKnown (state g new).now.trees then) → (next : Held S) → next ≡ new → IsStanding g new origin next None then
    stands then keeps = stands_knowing done P (λ _. makes) then (λ _. keeps)

    pub told : IsProp (P (state g last).now) → HasCleanDisk (state g new) → WasStore g origin → P (state g last).now
    told = told_knowing done P (λ _. makes)

pub on_ok : {X F P : Type 0} (r : Result X F) → P → OnOk r P
on_ok (Ok x) p = p
on_ok (Err e) p = tt

pub none_if : {A : Type 0} (o : Option A) (b : Bool) → Some (is_some o) ≡ Some b → b ≡ false → o ≡ None
none_if None b said lacks = refl
none_if (Some x) b said lacks = absurd (cc)

module _ {S : Type 0} (g : Ghosts S) where
  pub moves_then : (a b c : SqlStore S g) → Stands g a b → Moves g b c → Moves g a c
  moves_then a b c p q = record { origin = q.origin ∙ p.origin; counted = omega (arith, p.counted, q.counted); clean = λ clean. p.clean (q.clean clean) }

  pub stood : (a b : SqlStore S g) → Stands g a b → Moves g a b
  stood a b p = record { origin = p.origin; counted = p.counted; clean = p.clean }

  pub was_honest : (a b : SqlStore S g) → Moves g a b → is_honest g b → is_honest g a
  was_honest a b m honest = (m.clean honest.0, subst (WasStore g) m.origin honest.1)

  -- a change that keeps the contents where it is refused
  pub whole : {X F : Type 0} (a b : SqlStore S g) (r : Result X F) → Moves g a b → (is_honest g b → OnErr r (contents_of g b ≡ contents_of g a)) → ChangesWhole g a b r
  whole a b r m kept = record {
    goes_on = record {
      counted = m.counted;
      honest = was_honest a b m;
      clean = m.clean;
      steady = λ honest clean. (clean, subst (WasStore g) (sym m.origin) honest.1);
    };
    refused = kept;
  }

  pub same_contents : {X F : Type 0} (a b c : SqlStore S g) (r : Result X F) → b.last.value ≡ a.last.value → OnErr r (c.last.value ≡ b.last.value) → OnErr r (contents_of g c ≡ contents_of g a)
  same_contents a b c (Ok x) p q = tt
  same_contents a b c (Err e) p q = ap (λ h. contents_in (state g h).now.trees) (q ∙ p)

  -- a refusal before anything was changed
  pub unchanged : {X F : Type 0} (a b : SqlStore S g) (r : Result X F) → Stands g a b → ChangesWhole g a b r
  unchanged a b r p = whole a b r (stood a b p) (λ honest. on_err r (ap (λ h. contents_in (state g h).now.trees) p.last))

  -- a change after a reader, which keeps what the last change left where it is refused
  pub changed_whole : {X F : Type 0} (a b c : SqlStore S g) (r : Result X F) → Stands g a b → Moves g b c → OnErr r (c.last.value ≡ b.last.value) → ChangesWhole g a c r
  changed_whole a b c r p m kept = whole a c r (moves_then a b c p m) (λ honest. same_contents a b c r p.last kept)
