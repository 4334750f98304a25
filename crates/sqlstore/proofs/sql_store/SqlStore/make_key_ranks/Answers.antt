use Rattle.index.specs.Shown.{declared}
use Rattle.ranks.specs.Counts.{AreRanksOf}
use Rattle.ranks.specs.Seen.{Ranks}
use Rattle.sqlstore.proofs.Common.{IfSome, Option}
use Rattle.sqlstore.proofs.Lemmas.{Trees, stands_same, subst, sym, trees_of, was_honest}
use Rattle.sqlstore.specs.inner.Keys.{HasIndex, entry_keys}
use Rattle.sqlstore.proofs.sql_store.SqlStore.make_key_ranks.Goals as goal

pub keep_key_ranks-requires : goal.keep_key_ranks-requires
keep_key_ranks-requires g c honest =
    let s = c.args.self.now in
    let mid = c.count_key_ranks.new.self in
    let stands = c.count_key_ranks.ensures.stands in
    let d = c.args.declaration in
    let n = c.args.number.now in
    let ranks = subst (λ (o : Option Ranks). IfSome o (λ r. AreRanksOf r (entry_keys (trees_of g.S.Store s) d.number))) c.in-Some.is (c.count_key_ranks.ensures.ranks honest) in
    let same = sym (stands_same g.S.Store s mid stands) in
    ∣ record {
      index = subst (λ (t : Trees). HasIndex t n (declared d)) same (c.requires (was_honest g.S.Store s mid stands honest));
      ranks = subst (λ (t : Trees). AreRanksOf c.in-Some.ranks (entry_keys t d.number)) same ranks;
    } ∣₁
