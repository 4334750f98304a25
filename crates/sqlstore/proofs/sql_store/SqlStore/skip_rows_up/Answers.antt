use Rattle.sqlstore.proofs.Afterwards.{finds_after}
use Rattle.sqlstore.proofs.Common.{List, Trees, pos, ℕ, ℤ}
use Rattle.sqlstore.proofs.Lemmas.{ap, false, stands_same, sym, to_z-of_z, trees_of, w64, was_honest, ◌∙◌}
use Rattle.tables.specs.Listings.{live_range}
use Rattle.tables.specs.Schema.{docs_tree}
use Rattle.sqlstore.proofs.sql_store.SqlStore.skip_rows_up.Goals as goal

pub returns-in-Some : goal.returns-in-Some
returns-in-Some g c =
    let s = c.args.self.now in
    let mid = c.find_start.new.self in
    let end = c.live_rows_up.new.self in
    let n = c.args.db.now in
    let low = c.args.low.now in
    let high = c.args.high.now in
    let most = c.args.most.now in
    let same = stands_same g.S.Store s mid c.find_start.ensures.stands in
    let skip = to_z-of_z {w = w64} {z = c.integer_of.result} (record { sfits = c.integer_of.type_inv }) ∙ c.integer_of.ensures in
    finds_after g.S.Store s mid end _ _ c.live_rows_up.result c.find_start.ensures.stands
    (λ honest rows is.
    is ∙ ap (λ (z : ℤ). live_range false n c.deref.result.now high most z (trees_of g.S.Store mid docs_tree)) skip
    ∙ ap (λ (b : List ℕ). live_range false n b high most (pos c.in-Some.at.skip) (trees_of g.S.Store mid docs_tree)) c.deref.ensures.value
    ∙ ap (λ (t : Trees). live_range false n c.in-Some.at.bound.items high most (pos c.in-Some.at.skip) (t docs_tree)) same
    ∙ sym (c.in-Some.ensures.start (was_honest g.S.Store mid end c.live_rows_up.ensures.stands honest) high most))
    c.live_rows_up.ensures

pub returns-in-None : goal.returns-in-None
returns-in-None g c =
    let s = c.args.self.now in
    let mid = c.find_start.new.self in
    let end = c.live_rows_up-in-None.new.self in
    let range = λ (z : ℤ) (t : Trees). live_range false c.args.db.now c.args.low.now c.args.high.now c.args.most.now z (t docs_tree) in
    let same = stands_same g.S.Store s mid c.find_start.ensures.stands in
    let skip = to_z-of_z {w = w64} {z = c.integer_of-in-None.result} (record { sfits = c.integer_of-in-None.type_inv }) ∙ c.integer_of-in-None.ensures in
    finds_after g.S.Store s mid end _ _ c.live_rows_up-in-None.result c.find_start.ensures.stands
    (λ honest rows is. is ∙ ap (λ (z : ℤ). range z (trees_of g.S.Store mid)) skip ∙ ap (range (pos c.args.skip)) same) c.live_rows_up-in-None.ensures
