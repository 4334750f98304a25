use Rattle.sqlstore.proofs.Common.{IsStanding}
use Rattle.sqlstore.proofs.Lemmas.{IsKnown, None, rules, subst, sym, ◌∙◌, ◌≡◌}
use Rattle.sqlstore.proofs.Standing.{kept_before}
use Rattle.sqlstore.proofs.sql_store.SqlStore.take_latest.Goals as goal

pub invariant_of-self-2 : goal.invariant_of-self-2
invariant_of-self-2 g c =
    let s = c.args.self.now in
    let gone : c.take.new.self ≡ None = search rules in
    record {
      standing = subst (λ k. IsStanding g.S.Store s.conn s.origin.value s.last.value k c.keep_known.new.earlier.items) (sym gone)
          (kept_before g.S.Store (λ trees k all. c.keep_known.ensures trees all (subst (IsKnown trees) (sym c.take.ensures.value ∙ c.in_ok-known.was) k)) s.standing);
    }
