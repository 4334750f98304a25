-- A transaction of its own that is undone, or not committed, leaves what was committed before it.
use Rattle.transactions.proofs.Common.{CommitFault, Database, Err, Error, HasCleanDisk, Held, IfErr, IsRolledBack, IsTrue, IsUnwritten, KeepsCommit, Result, ap, state, subst, sym, true, ◌≡◌}
use Rattle.sqlite.specs.Steps.{FailsToCommit}
use Rattle.sqlite_trees.specs.declared.store.Store.{Ghosts}
use Rattle.index.specs.Steps.{WasFit}
use Rattle.transactions.proofs.Committing.{refused_then, undone_then, unwritten_of}
use Rattle.transactions.proofs.Redeclared.{unwritten_as}

-- the connection; the transaction as it begins, and behind its last step; the connection as it ends, and as it is given back
module _ {S : Type 0} (g : Ghosts S) (conn begun mid end given : Held S) (same : end ≡ given) (begins : begun ≡ conn) (clean : HasCleanDisk (state g end) → HasCleanDisk (state g mid)) where
  pub refused_inside : {X : Type 0} (F : Database → Type 0) (fault : CommitFault) (r : Result X CommitFault) → r ≡ Err fault → IsUnwritten (WasFit g F begun mid) fault → IfErr r (IsUnwritten (WasFit g F conn given))
  refused_inside F fault r is err =
      subst (λ h. IfErr r (IsUnwritten (WasFit g F conn h))) same
      (unwritten_as (WasFit g F conn end) r fault is
      (unwritten_of (WasFit g F begun mid) (WasFit g F conn end) fault (λ it. (clean it.0, subst (λ h. IsTrue (state g h).is_open → F (state g h).now) (sym begins) it.1)) err))

  pub committed_as : (F : Database → Type 0) (H : Database → Database → Type 0) → (HasCleanDisk (state g end) → (state g end).now ≡ (state g mid).now) → (HasCleanDisk (state g mid) → F (state g begun).now → H (state g begun).now (state g mid).now)
      → HasCleanDisk (state g given) → F (state g conn).now → H (state g conn).now (state g given).now
  committed_as F H commits made late fit =
      let was : HasCleanDisk (state g end) = subst (λ h. HasCleanDisk (state g h)) (sym same) late in
      subst (λ h. H (state g conn).now (state g h).now) same
      (subst (H (state g conn).now) (sym (commits was)) (subst (λ h. F (state g h).now → H (state g h).now (state g mid).now) begins (made (clean was)) fit))

  module _ (F : Held S → Type 0) (kept : HasCleanDisk (state g mid) → F begun → KeepsCommit (state g begun) (state g mid)) (fit : F conn) where
    abbrev before : Database
    before = (state g conn).committed

    abbrev IsAsBefore : Held S → Type 0
    IsAsBefore h = HasCleanDisk (state g h) → IsTrue (state g h).is_open → ((state g h).now ≡ before) × ((state g h).committed ≡ before)

    still : F begun
    still = subst F (sym begins) fit

    began : (state g begun).committed ≡ before
    began = ap (λ h. (state g h).committed) begins

    pub undone_by_drop : (HasCleanDisk (state g end) → IsRolledBack (state g mid) (state g end)) → IsAsBefore given
    undone_by_drop back = subst IsAsBefore same (λ late up. undone_then (state g begun) (state g mid) (state g end) before began (kept (clean late) still) (back late) up)

    pub undone_by_commit : (e : Error) → (HasCleanDisk (state g mid) → F begun → (state g mid).in_transaction ≡ true) → (HasCleanDisk (state g end) → FailsToCommit (state g mid) (state g end) e) → IsAsBefore given
    undone_by_commit e inside fails =
        subst IsAsBefore same (λ late up. refused_then (state g begun) (state g mid) (state g end) before began (kept (clean late) still) e (inside (clean late) still) (fails late) up)
