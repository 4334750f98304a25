-- What a reader answers after other readers.
use Rattle.sqlstore.proofs.Common.{Answers, Err, Failed, Finds, Ghosts, IfErr, IfOk, Memory, NoDatabase, Ok, Option, Result, SqlStore, Stands, StoreFault, Trees, ap, is_honest, state, trees_of, ◌∙◌, ◌≡◌}
use Rattle.sqlstore.proofs.Answering.{failed_later, stands_then}
use Rattle.sqlstore.specs.inner.Causes.{IsJudged}

module _ {S : Type 0} (g : Ghosts S) (old mid new : SqlStore S g) where
  -- what it answers is said of the store as it was before the others
  pub afterwards : {X A : Type 0} (view : X → A) (defined further : Option A) (r : Result X StoreFault) → Stands g old mid → (is_honest g new → further ≡ defined) → Answers g mid new view defined r → Answers g old new view further r
  afterwards view defined further (Ok x) s same h = λ honest. same honest ∙ h honest
  afterwards view defined further (Err Failed) s same h = failed_later g old.faults mid.faults new.faults s.counted h
  afterwards view defined further (Err NoDatabase) s same h = λ honest. same honest ∙ h honest
  afterwards view defined further (Err fault) s same h = h

  -- and so is what a query finds
  pub finds_after : {X : Type 0} (P Q : Trees → X → Type 0) (r : Result X StoreFault) → Stands g old mid → (is_honest g new → (x : X) → P (trees_of g mid) x → Q (trees_of g old) x) → Finds g P mid new r → Finds g Q old new r
  finds_after {X} P Q r s so f = record { found = λ honest. found r (f.found honest) (so honest); judged = judged r f.judged; stands = stands_then g old mid new s f.stands }
    where
      found : (r : Result X StoreFault) → IfOk r (P (trees_of g mid)) → ((x : X) → P (trees_of g mid) x → Q (trees_of g old) x) → IfOk r (Q (trees_of g old))
      found (Ok x) h so = so x h
      found (Err e) h so = tt

      judged : (r : Result X StoreFault) → IfErr r (IsJudged mid.faults new.faults) → IfErr r (IsJudged old.faults new.faults)
      judged (Ok x) h = tt
      judged (Err Memory) h = tt
      judged (Err Failed) h = failed_later g old.faults mid.faults new.faults s.counted h
      judged (Err fault) h = absurd h

module _ {S : Type 0} (g : Ghosts S) (old new : SqlStore S g) where
  pub stands_same : Stands g old new → trees_of g new ≡ trees_of g old
  stands_same s = ap (λ h. (state g h).now.trees) s.last
