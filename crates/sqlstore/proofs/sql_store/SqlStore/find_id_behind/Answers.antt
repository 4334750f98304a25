use Rattle.sqlstore.proofs.Common.{Coded-set, List, Row, coded_ℕ, pos, slice_get}
use Rattle.sqlstore.proofs.Lemmas.{Global, Vec, ap, false, laid, listed_id, option_map, sym, to_z-of_z, trees_of, w64, was_honest, ℕ, ∥∥₁_elim, ◌+◌, ◌∙◌, ◌≡◌}
use Rattle.ranks.specs.Counts.{below}
use Rattle.sqlstore.proofs.Ranking.{rank_listed, some_copied}
use Rattle.sqlstore.specs.inner.Listing.{live_ids}
use Rattle.tables.specs.Listings.{live_range}
use Rattle.tables.specs.Schema.{docs_tree}
use Rattle.sqlstore.proofs.sql_store.SqlStore.find_id_behind.Goals as goal

pub returns-clause-rank : goal.returns-clause-rank
returns-clause-rank g c honest =
    let s = c.args.self.now in
    let end = c.live_rows_up.new.self in
    let n = c.args.number.now in
    let low = c.args.low.now in
    let high = c.deref.result.now in
    let trees = trees_of g.S.Store s in
    let ids = live_ids trees n in
    let rows = c.in-Ok-live_rows_up.rows.items in
    let key = c.in_ok-first_id.field-0.now in
    let is = c.in-Ok-live_rows_up.ensures.found honest ∙ ap (λ z. live_range false n low high (pos 1) z (trees docs_tree)) (to_z-of_z {w = w64} {z = c.integer_of.result} (record { sfits = c.integer_of.type_inv }) ∙ c.integer_of.ensures) in
    let first = ap (λ (l : List Row). option_map listed_id (slice_get l 0)) (sym c.deref-2.ensures.value) ∙ c.in_ok-first_id.ensures in
    some_copied (λ (copy : Vec ℕ Global). copy.items) key (λ k. below k ids ≡ below low ids + c.args.skip) c.copy_bytes.result c.copy_bytes.ensures
    (∥∥₁_elim (laid g.S.Store s (was_honest g.S.Store s end c.live_rows_up.ensures.stands honest)) (Coded-set coded_ℕ _ _) (λ l. rank_listed trees n l low high key c.args.skip rows is first))
