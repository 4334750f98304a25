-- A store that is closed and opened again is as it was.
use Rattle.sqlstore.proofs.Common.{Contents, Database, Err, Ghosts, HasCleanDisk, Held, IsStore, IsTrue, Ok, Result, SqlStore, ap, contents_in, contents_of, false, has_all, inl, inr, is_clean, is_honest, schema, state, subst, sym, true, ∥∥₁_elim, ∥∥₁_map, ∥∥₁_prop, ◌∙◌, ◌≡◌, ◌≢◌, ◌⊎◌}
use Rattle.std.specs.Prelude.{IfErr, IfOk}
use Rattle.transactions.specs.Indexing.{IsCommittedStore}
use Rattle.sqlstore.proofs.ContentsCode.{contents_set}
use Rattle.sqlstore.specs.declared.open_fault.OpenFault.{OpenFault}
use Rattle.sqlstore.specs.declared.open_fault.OpenFault.TheVariants.{NotOurs}

-- a connection that, where it is open, has the rows of a store with these contents
module _ {S : Type 0} (g : Ghosts S) (contents : Contents) (conn : Held S)
    (laid : IsTrue (state g conn).is_open → ∥ IsCommittedStore (state g conn).now ∥₁) (holds : IsTrue (state g conn).is_open → contents_in (state g conn).now.trees ≡ contents) where
  -- what is opened from it has these contents
  pub same_opened : (r : Result (SqlStore S g) (OpenFault × Held S)) → IfOk r (λ s. is_clean g s → IsCommittedStore (state g conn).now → is_honest g s × (contents_of g s ≡ contents_in (state g conn).now.trees))
      → IfOk r (λ s. is_clean g s → IsTrue (state g conn).is_open) → IfOk r (λ s. is_clean g s → is_honest g s × (contents_of g s ≡ contents))
  same_opened (Err e) found served = tt
  same_opened (Ok s) found served = λ clean.
      let store = laid (served clean) in (
        (clean, ∥∥₁_elim store ∥∥₁_prop (λ is. (found clean is).0.1)),
        ∥∥₁_elim store (contents_set (contents_of g s) (contents_in (state g conn).now.trees)) (λ is. (found clean is).1) ∙ holds (served clean),
      )

  absurd_prop : IsProp ⊥
  absurd_prop a b = absurd a

  -- it is never told to be none of ours
  pub never_not_ours : (r : Result (SqlStore S g) (OpenFault × Held S)) → conn.in_transaction ≡ false
      → IfErr r (λ e. HasCleanDisk (state g e.1) → HasCleanDisk (state g conn) × (IsTrue (state g e.1).is_open → IsTrue (state g conn).is_open))
      → IfErr r (λ e. e.0 ≡ NotOurs → (conn.in_transaction ≡ true) ⊎ (HasCleanDisk (state g e.1) → ¬ IsStore (state g conn).now))
      → IfErr r (λ e. HasCleanDisk (state g e.1) → IsTrue (state g e.1).is_open → e.0 ≢ NotOurs)
  never_not_ours (Ok s) idle was told = tt
  never_not_ours (Err e) idle was told = λ clean up is. by clean up (told is)
    where
      by : HasCleanDisk (state g e.1) → IsTrue (state g e.1).is_open → (conn.in_transaction ≡ true) ⊎ (HasCleanDisk (state g e.1) → ¬ IsStore (state g conn).now) → ⊥
      by clean up (inl within) = cc
      by clean up (inr none) = ∥∥₁_elim (laid ((was clean).1 up)) absurd_prop (λ it. none clean it.rows.store)

  -- where it comes back it has the rows that it had
  pub same_refused : (r : Result (SqlStore S g) (OpenFault × Held S))
      → IfErr r (λ e. HasCleanDisk (state g e.1) → HasCleanDisk (state g conn) × (IsTrue (state g e.1).is_open → IsTrue (state g conn).is_open))
      → IfErr r (λ e. (has_all conn.schema ≡ true → conn.schema ≡ schema) → HasCleanDisk (state g e.1) → IsTrue (state g e.1).is_open → (state g e.1).now ≡ (state g conn).now)
      → IfErr r (λ e. HasCleanDisk (state g e.1) → IsTrue (state g e.1).is_open → ∥ IsCommittedStore (state g e.1).now ∥₁ × (contents_in (state g e.1).now.trees ≡ contents))
  same_refused (Ok s) was rows = tt
  same_refused (Err e) was rows = λ clean up.
      let before = (was clean).1 up in
      let kept = λ (is : IsCommittedStore (state g conn).now). rows (λ has. is.rows.store.schema_is) clean up in (
        ∥∥₁_map (laid before) (λ is. subst IsCommittedStore (sym (kept is)) is),
        ∥∥₁_elim (laid before) (contents_set (contents_in (state g e.1).now.trees) (contents_in (state g conn).now.trees)) (λ is. ap (λ (d : Database). contents_in d.trees) (kept is)) ∙ holds before,
      )
