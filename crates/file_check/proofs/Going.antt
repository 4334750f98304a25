-- What is read of an open connection, in no statement or in many.
use Rattle.tables.proofs.Common.{Asks, Database, Err, Ghosts, Held, IfOk, IsTrue, IsUnchanged, Ok, OnOk, Result, State, Trees, ap, inl, inr, refl, schema, state, subst, sym, ◌∙◌, ◌≡◌, ◌⊎◌}
use Rattle.sqlite.specs.State.{HasCleanDisk}
use Rattle.file_check.specs.Inspecting.{Goes, Inspects}
use Rattle.file_check.specs.declared.finding.CheckFault.{CheckFault}
use Rattle.file_check.proofs.Accounts.{accounts_none, accounts_so, accounts_stop, accounts_then}
use Rattle.file_check.proofs.Inspecting.{asks_then, unchanged_then}

asks_nothing : (s : State) → Asks s s
asks_nothing s = record { clean = λ clean. clean; was_open = λ clean up. up; mode = λ out. out; limit = refl }

unchanged_itself : (s : State) → IsTrue s.is_open → IsUnchanged s s
unchanged_itself s up = (record { was_open = up; is_open = up; now_is = refl; committed_is = refl; mode = refl }, record { changes = refl; last_rowid = refl }, refl)

on_ok : {Y F : Type 0} {P : Type 0} (r : Result Y F) → P → OnOk r P
on_ok (Ok y) p = p
on_ok (Err f) p = tt

module _ {S : Type 0} {g : Ghosts S} {IsFit : Database → Type 0} where
  pub goes_of : {X : Type 0} {old new : Held S} {Is : Trees → X → Type 0} {r : Result X CheckFault} → Inspects g IsFit old new Is r → Goes g IsFit old new Is r
  goes_of h = record { found = λ clean up. h.found clean; stands = λ has clean up. h.stands has clean; looks = λ has clean up. h.looks has clean; asks = h.asks; accounts = h.accounts }

  -- nothing is read
  pub goes_pure : {X : Type 0} (s : Held S) (Is : Trees → X → Type 0) (x : X) → ((trees : Trees) → Is trees x) → Goes g IsFit s s Is (Ok x)
  goes_pure s Is x so = record { found = λ clean up fit. so _; stands = λ has clean up. unchanged_itself (state g s) up; looks = λ has clean up still. inl refl; asks = asks_nothing (state g s); accounts = accounts_none g s x }

  pub goes_map : {X : Type 0} {old new : Held S} {Is : Trees → X → Type 0} (IsOther : Trees → X → Type 0) (r : Result X CheckFault) → ((trees : Trees) (x : X) → Is trees x → IsOther trees x) → Goes g IsFit old new Is r → Goes g IsFit old new IsOther r
  goes_map IsOther (Ok x) so h = record { found = λ clean up fit. so _ x (h.found clean up fit); stands = h.stands; looks = h.looks; asks = h.asks; accounts = h.accounts }
  goes_map IsOther (Err e) so h = record { found = λ clean up fit. tt; stands = h.stands; looks = h.looks; asks = h.asks; accounts = h.accounts }

  -- an error tells nothing of what is found
  pub goes_nothing : {X Y : Type 0} {old new : Held S} {Is : Trees → X → Type 0} (IsOther : Trees → Y → Type 0) (e : CheckFault) (r : Result Y CheckFault) → r ≡ Err e → Goes g IsFit old new Is (Err e) → Goes g IsFit old new IsOther r
  goes_nothing IsOther e r is h =
      subst (Goes g IsFit _ _ IsOther) (sym is) (record { found = λ clean up fit. tt; stands = λ has clean up. tt; looks = h.looks; asks = h.asks; accounts = accounts_stop g h.accounts })

  -- what is made of what was found
  pub goes_so : {X Y : Type 0} {old new : Held S} {Is : Trees → X → Type 0} (IsOther : Trees → Y → Type 0) (x : X) (y : Y) → ((trees : Trees) → Is trees x → IsOther trees y) → Goes g IsFit old new Is (Ok x) → Goes g IsFit old new IsOther (Ok y)
  goes_so IsOther x y so h = record { found = λ clean up fit. so _ (h.found clean up fit); stands = h.stands; looks = h.looks; asks = h.asks; accounts = accounts_so g y h.accounts }

ok_both : {Y F : Type 0} (a b c : State) (q : Result Y F) → IsUnchanged a b → OnOk q (IsUnchanged b c) → OnOk q (IsUnchanged a c)
ok_both a b c (Ok y) one next = unchanged_then a b c one next
ok_both a b c (Err f) one next = tt

looks_both : (a b c : State) → IsUnchanged a b → (c.now ≡ b.now) ⊎ (c.now ≡ b.committed) → (c.now ≡ a.now) ⊎ (c.now ≡ a.committed)
looks_both a b c one (inl is) = inl (is ∙ one.0.now_is)
looks_both a b c one (inr is) = inr (is ∙ one.0.committed_is)

ok_found : {Y F : Type 0} (IsNext IsOther : Y → Type 0) (q : Result Y F) → ((y : Y) → IsNext y → IsOther y) → IfOk q IsNext → IfOk q IsOther
ok_found IsNext IsOther (Ok y) so next = so y next
ok_found IsNext IsOther (Err f) so next = tt

has_still : {S : Type 0} (g : Ghosts S) (old mid : Held S) → old.schema ≡ schema → IsUnchanged (state g old) (state g mid) → mid.schema ≡ schema
has_still g old mid has still = ap (λ (d : Database). d.schema) still.0.now_is ∙ has

module _ {S : Type 0} {g : Ghosts S} {IsFit : Database → Type 0} (ours : (d : Database) → IsFit d → d.schema ≡ schema) {X Y : Type 0} {old mid new : Held S} {Is : Trees → X → Type 0} {IsNext : Trees → Y → Type 0} (IsOther : Trees → Y → Type 0) (x : X) {r : Result Y CheckFault}
    (so : (d : Database) → IsFit d → Is d.trees x → (y : Y) → IsNext d.trees y → IsOther d.trees y) (k : Goes g IsFit mid new IsNext r) where
  -- one after the other
  pub goes_then : Goes g IsFit old mid Is (Ok x) → Goes g IsFit old new IsOther r
  goes_then h = record {
    found = λ clean up fit.
        let was = k.asks.clean clean in
        let still = h.stands (ours _ fit) was up in
        ok_found (IsNext (state g old).now.trees) (IsOther (state g old).now.trees) r (so (state g old).now fit (h.found was up fit))
        (subst (λ (d : Database). IfOk r (IsNext d.trees)) still.0.now_is (k.found clean still.0.is_open (subst IsFit (sym still.0.now_is) fit)));
    stands = λ has clean up. let still = h.stands has (k.asks.clean clean) up in ok_both (state g old) (state g mid) (state g new) r still (k.stands (has_still g old mid has still) clean still.0.is_open);
    looks = λ has clean up last. let still = h.stands has (k.asks.clean clean) up in looks_both (state g old) (state g mid) (state g new) still (k.looks (has_still g old mid has still) clean still.0.is_open last);
    asks = asks_then (state g old) (state g mid) (state g new) h.asks k.asks;
    accounts = accounts_then g r h.asks k.asks h.accounts k.accounts;
  }

  -- the same, where the first reads
  pub inspects_goes : Inspects g IsFit old mid Is (Ok x) → Inspects g IsFit old new IsOther r
  inspects_goes h = record {
    found = λ clean fit.
        let was = k.asks.clean clean in
        let still = h.stands (ours _ fit) was in
        ok_found (IsNext (state g old).now.trees) (IsOther (state g old).now.trees) r (so (state g old).now fit (h.found was fit))
        (subst (λ (d : Database). IfOk r (IsNext d.trees)) still.0.now_is (k.found clean still.0.is_open (subst IsFit (sym still.0.now_is) fit)));
    served = λ clean. on_ok r (h.served (k.asks.clean clean));
    stands = λ has clean. let still = h.stands has (k.asks.clean clean) in ok_both (state g old) (state g mid) (state g new) r still (k.stands (has_still g old mid has still) clean still.0.is_open);
    looks = λ has clean last. let still = h.stands has (k.asks.clean clean) in looks_both (state g old) (state g mid) (state g new) still (k.looks (has_still g old mid has still) clean still.0.is_open last);
    asks = asks_then (state g old) (state g mid) (state g new) h.asks k.asks;
    accounts = accounts_then g r h.asks k.asks h.accounts k.accounts;
  }

-- what is read after what may have read nothing
module _ {S : Type 0} {g : Ghosts S} {IsFit : Database → Type 0} (ours : (d : Database) → IsFit d → d.schema ≡ schema) {X Y : Type 0} {old mid new : Held S} {Is : Trees → X → Type 0} {IsNext : Trees → Y → Type 0} (IsOther : Trees → Y → Type 0) (x : X) where
  still_then : (r : Result Y CheckFault) → Goes g IsFit old mid Is (Ok x) → Inspects g IsFit mid new IsNext r → old.schema ≡ schema → HasCleanDisk (state g new) → IsTrue (state g mid).is_open → IsUnchanged (state g old) (state g mid)
  still_then r h k has clean up = let was = k.asks.clean clean in h.stands has was (h.asks.was_open was up)

  looks_then : (r : Result Y CheckFault) → Goes g IsFit old mid Is (Ok x) → Inspects g IsFit mid new IsNext r → old.schema ≡ schema → HasCleanDisk (state g new) → IsTrue (state g new).is_open
      → ((state g new).now ≡ (state g old).now) ⊎ ((state g new).now ≡ (state g old).committed)
  looks_then r h k has clean last =
      let still = still_then r h k has clean (k.asks.was_open clean last) in
      looks_both (state g old) (state g mid) (state g new) still (k.looks (has_still g old mid has still) clean last)

  pub goes_inspects : (r : Result Y CheckFault) → ((d : Database) → IsFit d → Is d.trees x → (y : Y) → IsNext d.trees y → IsOther d.trees y) → Goes g IsFit old mid Is (Ok x) → Inspects g IsFit mid new IsNext r → Inspects g IsFit old new IsOther r
  goes_inspects (Ok y) so h k = record {
    found = λ clean fit.
        let was = k.asks.clean clean in
        let up = k.served clean in
        let still = still_then (Ok y) h k (ours _ fit) clean up in
        so (state g old).now fit (h.found was (h.asks.was_open was up) fit) y (subst (λ (d : Database). IsNext d.trees y) still.0.now_is (k.found clean (subst IsFit (sym still.0.now_is) fit)));
    served = λ clean. h.asks.was_open (k.asks.clean clean) (k.served clean);
    stands = λ has clean. let still = still_then (Ok y) h k has clean (k.served clean) in unchanged_then (state g old) (state g mid) (state g new) still (k.stands (has_still g old mid has still) clean);
    looks = looks_then (Ok y) h k;
    asks = asks_then (state g old) (state g mid) (state g new) h.asks k.asks;
    accounts = accounts_then g (Ok y) h.asks k.asks h.accounts k.accounts;
  }
  goes_inspects (Err f) so h k = record {
    found = λ clean fit. tt;
    served = λ clean. tt;
    stands = λ has clean. tt;
    looks = looks_then (Err f) h k;
    asks = asks_then (state g old) (state g mid) (state g new) h.asks k.asks;
    accounts = accounts_then g (Err f) h.asks k.asks h.accounts k.accounts;
  }
