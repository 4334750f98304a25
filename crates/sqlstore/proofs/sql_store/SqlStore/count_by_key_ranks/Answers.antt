use Rattle.index.specs.Rows.{count_of}
use Rattle.ranks.specs.Counts.{AreRanksOf}
use Rattle.sqlstore.proofs.Common.{IfSome}
use Rattle.sqlstore.proofs.KeyRanking.{ranked_anew}
use Rattle.sqlstore.proofs.Lemmas.{Trees, stands_same, subst, sym, trees_of, was_honest, ∥∥₁_elim, ∥∥₁_map, ◌≡◌}
use Rattle.sqlstore.proofs.Ranking.{ranks_prop}
use Rattle.sqlstore.specs.declared.index_ranks.IndexRanks.{IndexRanks}
use Rattle.sqlstore.specs.inner.Keys.{IsIndexRanks, entry_keys}
use Rattle.tables.specs.Schema.{entries_tree}
use Rattle.sqlstore.proofs.sql_store.SqlStore.count_by_key_ranks.Goals as goal

pub keep_key_ranks-requires : goal.keep_key_ranks-requires
keep_key_ranks-requires g c honest =
    let s = c.args.self.now in
    let one = c.take_key_ranks.new.self in
    let two = c.count_keys_within-count.new.self in
    let n = c.args.number.now in
    let d = c.args.declaration.now in
    let r = c.in_ok-index.index in
    let new : IndexRanks = record { declaration = r.declaration; ranks = c.count_keys_within-count.new.ranks } in
    let to_one = c.take_key_ranks.ensures.stands in
    let to_two = c.count_keys_within-count.ensures.stands in
    let at_one = was_honest g.S.Store one two to_two honest in
    ∥∥₁_map (c.in_ok-index.ensures.ranks (was_honest g.S.Store s one to_one at_one))
    (λ is.
    subst (λ (t : Trees). IsIndexRanks t n new) (sym (stands_same g.S.Store one two to_two))
    (ranked_anew (trees_of g.S.Store one) n d r c.count_keys_within-count.new.ranks c.in_ok-index.ensures.named (c.count_keys_within-count.ensures.ranks honest)
    (subst (λ (t : Trees). IsIndexRanks t n r) (sym (stands_same g.S.Store s one to_one)) is)))

pub returns-clause-count : goal.returns-clause-count
returns-clause-count g c honest =
    let s = c.args.self.now in
    let one = c.take_key_ranks.new.self in
    let two = c.count_keys_within-count.new.self in
    let d = c.args.declaration.now in
    let r = c.in_ok-index.index in
    let trees = trees_of g.S.Store s in
    let to_one = c.take_key_ranks.ensures.stands in
    let at_two = was_honest g.S.Store two c.keep_key_ranks.new.self c.keep_key_ranks.ensures honest in
    let at_one = was_honest g.S.Store one two c.count_keys_within-count.ensures.stands at_two in
    let same = stands_same g.S.Store s one to_one in
    let ranked : AreRanksOf r.ranks (entry_keys trees d) =
    ∥∥₁_elim (c.in_ok-index.ensures.ranks (was_honest g.S.Store s one to_one at_one)) (ranks_prop r.ranks (entry_keys trees d))
    (λ is. subst (λ m. AreRanksOf r.ranks (entry_keys trees m)) c.in_ok-index.ensures.named is.ranks) in
    subst (λ (t : Trees). IfSome c.count_keys_within-count.result (λ m. m ≡ count_of d c.args.low.now c.args.high.now (t entries_tree))) same
    (c.count_keys_within-count.ensures.count at_two (subst (λ (t : Trees). AreRanksOf r.ranks (entry_keys t d)) (sym same) ranked))
