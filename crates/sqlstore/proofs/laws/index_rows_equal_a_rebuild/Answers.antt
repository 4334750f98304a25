use Rattle.sqlstore.proofs.Lemmas.{ap, contents_in, indexed_store, same_trees, subst, sym, ∥∥₁_map}
use Rattle.transactions.specs.Indexing.{IsIndexedStore}
use Rattle.sqlstore.proofs.laws.index_rows_equal_a_rebuild.Goals as goal

pub returns-clause-rows : goal.returns-clause-rows
returns-clause-rows g c honest up =
    let s = c.args.store.now in
    ∥∥₁_map (s.standing.held honest.0 honest.1) (λ h. subst IsIndexedStore (sym (h.now up)) (indexed_store h))

pub returns-clause-contents : goal.returns-clause-contents
returns-clause-contents g c honest up =
    let s = c.args.store.now in
    ap contents_in (same_trees g.S.Store s.conn s.conn s.origin.value s.last.value s.standing.held honest.0 honest.1 up)
