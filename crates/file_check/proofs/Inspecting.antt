-- What is read in one statement after another.
use Rattle.tables.proofs.Common.{Asks, Database, Err, Ghosts, Held, IfOk, IsTrue, IsUnchanged, Ok, OnOk, Reads, Result, State, Trees, ap, inl, inr, refl, schema, state, subst, sym, ◌∙◌, ◌≡◌, ◌⊎◌}
use Rattle.sqlite.specs.declared.error.Error.{Error}
use Rattle.sqlite.specs.State.{HasCleanDisk}
use Rattle.file_check.specs.Refusals.{IsRefusal}
use Rattle.file_check.proofs.Accounts.{accounts_lost, accounts_read, accounts_refused, accounts_so, accounts_stop, accounts_then}
use Rattle.file_check.specs.Inspecting.{Inspects}
use Rattle.file_check.specs.declared.finding.CheckFault.{CheckFault}
use Rattle.file_check.specs.declared.finding.CheckFault.TheVariants.{Memory, Sqlite}

pub unchanged_then : (a b c : State) → IsUnchanged a b → IsUnchanged b c → IsUnchanged a c
unchanged_then a b c h k = (
  record {
    was_open = h.0.was_open;
    is_open = k.0.is_open;
    now_is = k.0.now_is ∙ h.0.now_is;
    committed_is = k.0.committed_is ∙ h.0.committed_is;
    mode = k.0.mode ∙ h.0.mode;
  },
  record { changes = k.1.changes ∙ h.1.changes; last_rowid = k.1.last_rowid ∙ h.1.last_rowid },
  k.2 ∙ h.2,
)

pub asks_then : (a b c : State) → Asks a b → Asks b c → Asks a c
asks_then a b c h k = record {
  clean = λ clean. h.clean (k.clean clean);
  was_open = λ clean up. h.was_open (k.clean clean) (k.was_open clean up);
  mode = λ out. k.mode (h.mode out);
  limit = k.limit ∙ h.limit;
}

module _ {S X : Type 0} {g : Ghosts S} {IsFit : Database → Type 0} {old new : Held S} {Is : Trees → X → Type 0} where
  -- one statement
  pub inspects_of : {x : X} → Reads {E = Error} g IsFit old new Is (Ok x) → Inspects g IsFit old new Is (Ok x)
  inspects_of h = record { found = h.found; served = h.served; stands = h.stands; looks = λ has. (h.looks has).rows; asks = h.asks; accounts = accounts_read g h }

  -- one that the library refuses
  pub inspects_refused : {e : Error} → Reads g IsFit old new Is (Err e) → (old.schema ≡ schema → HasCleanDisk (state g new) → IsRefusal (state g old) (state g new) e) → Inspects g IsFit old new Is (Err (Sqlite e))
  inspects_refused h refuses = record { found = λ clean fit. tt; served = λ clean. tt; stands = λ has clean. tt; looks = λ has. (h.looks has).rows; asks = h.asks; accounts = accounts_refused g h refuses }

  -- an error tells nothing of what is found
  pub inspects_nothing : {Y : Type 0} (IsOther : Trees → Y → Type 0) (e : CheckFault) (r : Result Y CheckFault) → r ≡ Err e → Inspects g IsFit old new Is (Err e) → Inspects g IsFit old new IsOther r
  inspects_nothing IsOther e r is h =
      subst (Inspects g IsFit old new IsOther) (sym is) (record { found = λ clean fit. tt; served = λ clean. tt; stands = λ has clean. tt; looks = h.looks; asks = h.asks; accounts = accounts_stop g h.accounts })

  -- memory runs out behind what was found
  pub inspects_lost : {Y : Type 0} {x : X} (IsOther : Trees → Y → Type 0) (r : Result Y CheckFault) → r ≡ Err Memory → Inspects g IsFit old new Is (Ok x) → Inspects g IsFit old new IsOther r
  inspects_lost IsOther r is h =
      subst (Inspects g IsFit old new IsOther) (sym is) (record { found = λ clean fit. tt; served = λ clean. tt; stands = λ has clean. tt; looks = h.looks; asks = h.asks; accounts = accounts_lost g h.accounts })

  -- what is made of what was found
  pub inspects_so : {Y : Type 0} (IsOther : Trees → Y → Type 0) (x : X) (y : Y) → ((trees : Trees) → Is trees x → IsOther trees y) → Inspects g IsFit old new Is (Ok x) → Inspects g IsFit old new IsOther (Ok y)
  inspects_so IsOther x y so h = record { found = λ clean fit. so _ (h.found clean fit); served = h.served; stands = h.stands; looks = h.looks; asks = h.asks; accounts = accounts_so g y h.accounts }

  -- the same, where the tables are fit
  pub inspects_fit : {Y : Type 0} (IsOther : Trees → Y → Type 0) (x : X) (y : Y) → ((d : Database) → IsFit d → Is d.trees x → IsOther d.trees y) → Inspects g IsFit old new Is (Ok x) → Inspects g IsFit old new IsOther (Ok y)
  inspects_fit IsOther x y so h = record { found = λ clean fit. so _ fit (h.found clean fit); served = h.served; stands = h.stands; looks = h.looks; asks = h.asks; accounts = accounts_so g y h.accounts }

module _ {S X : Type 0} {g : Ghosts S} {IsFit : Database → Type 0} (ours : (d : Database) → IsFit d → d.schema ≡ schema) {old mid new : Held S} {Is : Trees → X → Type 0} where
  -- what is found by one statement, and then by others
  pub inspects_then : {Y : Type 0} {IsNext IsOther : Trees → Y → Type 0} (x : X) {r : Result Y CheckFault} → Inspects g IsFit old mid Is (Ok x) → ((trees : Trees) → Is trees x → (y : Y) → IsNext trees y → IsOther trees y)
      → Inspects g IsFit mid new IsNext r → Inspects g IsFit old new IsOther r
  inspects_then {Y = Y} {IsNext = IsNext} {IsOther = IsOther} x {r} h so k = record {
    found = λ clean fit.
        let was = h.asks.clean (k.asks.clean clean) in
        let still = h.stands (ours _ fit) (k.asks.clean clean) in
        on (state g old).now.trees (h.found (k.asks.clean clean) fit) r
        (subst (λ (d : Database). IfOk r (IsNext d.trees)) still.0.now_is (k.found clean (subst IsFit (sym still.0.now_is) fit)));
    served = λ clean. served r (h.served (k.asks.clean clean));
    stands = λ has clean. stands r (h.stands has (k.asks.clean clean)) (k.stands (has_still has (h.stands has (k.asks.clean clean))) clean);
    looks = λ has clean up. looks (h.stands has (k.asks.clean clean)) (k.looks (has_still has (h.stands has (k.asks.clean clean))) clean up);
    asks = asks_then (state g old) (state g mid) (state g new) h.asks k.asks;
    accounts = accounts_then g r h.asks k.asks h.accounts k.accounts;
  }
    where
      has_still : old.schema ≡ schema → IsUnchanged (state g old) (state g mid) → mid.schema ≡ schema
      has_still has still = ap (λ (d : Database). d.schema) still.0.now_is ∙ has

      on : (trees : Trees) → Is trees x → (q : Result Y CheckFault) → IfOk q (IsNext trees) → IfOk q (IsOther trees)
      on trees one (Ok y) next = so trees one y next
      on trees one (Err f) next = tt

      served : (q : Result Y CheckFault) → IsTrue (state g old).is_open → OnOk q (IsTrue (state g old).is_open)
      served (Ok y) up = up
      served (Err f) up = tt

      stands : (q : Result Y CheckFault) → IsUnchanged (state g old) (state g mid) → OnOk q (IsUnchanged (state g mid) (state g new)) → OnOk q (IsUnchanged (state g old) (state g new))
      stands (Ok y) one next = unchanged_then (state g old) (state g mid) (state g new) one next
      stands (Err f) one next = tt

      looks : IsUnchanged (state g old) (state g mid) → ((state g new).now ≡ (state g mid).now) ⊎ ((state g new).now ≡ (state g mid).committed) → ((state g new).now ≡ (state g old).now) ⊎ ((state g new).now ≡ (state g old).committed)
      looks one (inl is) = inl (is ∙ one.0.now_is)
      looks one (inr is) = inr (is ∙ one.0.committed_is)

  -- both of two are found
  pub inspects_both : {Y : Type 0} {IsNext : Trees → Y → Type 0} (x : X) {r : Result Y CheckFault} → Inspects g IsFit old mid Is (Ok x) → Inspects g IsFit mid new IsNext r → Inspects g IsFit old new (λ trees y. Is trees x × IsNext trees y) r
  inspects_both {IsNext = IsNext} x h k = inspects_then {IsNext = IsNext} {IsOther = λ trees y. Is trees x × IsNext trees y} x h (λ trees is y next. (is, next)) k
