use Rattle.sqlstore.proofs.Lemmas.{finds, refl, still, ∥∥₁_prop}
use Rattle.sqlstore.proofs.sql_store.SqlStore.hash_rows.Goals as goal

pub invariant_of-self : goal.invariant_of-self
invariant_of-self g c = record { standing = still g.S.Store _ _ _ _ c.hash_rows-rows.ensures c.args.self.now.standing }

pub returns : goal.returns
returns g c =
    finds g.S.Store c.args.self.now _ _ (λ _ _. ∥∥₁_prop) (λ _ _ is. ∣ is ∣₁) c.hash_rows-rows.result c.judge_answer.result refl refl
    c.judge_answer.ensures.counted c.judge_answer.ensures.ok c.judge_answer.ensures.judged c.hash_rows-rows.ensures
