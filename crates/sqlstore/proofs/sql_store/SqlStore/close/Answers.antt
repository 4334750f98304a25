use Rattle.sqlstore.proofs.Lemmas.{ap, contents_in, same_trees, subst, sym, ∥∥₁_map}
use Rattle.sqlstore.proofs.Standing.{committed_store}
use Rattle.transactions.specs.Indexing.{IsCommittedStore}
use Rattle.sqlstore.proofs.sql_store.SqlStore.close.Goals as goal

pub returns-clause-contents : goal.returns-clause-contents
returns-clause-contents g c honest up =
    let s = c.args.self in
    ap contents_in (same_trees g.S.Store s.conn s.conn s.origin.value s.last.value s.standing.held honest.0 honest.1 up)

pub returns-clause-laid : goal.returns-clause-laid
returns-clause-laid g c honest up =
    let s = c.args.self in
    ∥∥₁_map (s.standing.held honest.0 honest.1) (λ h. subst IsCommittedStore (sym (h.now up)) (committed_store h))
