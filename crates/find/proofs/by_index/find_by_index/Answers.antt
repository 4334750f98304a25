use Rattle.std.proofs.Common.{[], drop, map, take, ap}
use Rattle.std.specs.FinMap as finite
use Rattle.store.specs.Contents.{Contents}
use Rattle.store.specs.Pages.{in_direction}
use Rattle.find.proofs.Candidates.{found_by_index}
use Rattle.find.proofs.InOrder.{found_in_order}
use Rattle.find.proofs.Planned.{served_by}
use Rattle.find.proofs.Serving.{found_planned}
use Rattle.find.specs.inner.Candidates.{put_candidates}
use Rattle.find.specs.inner.Matching.{matches_at}
use Rattle.find.specs.inner.Sources.{ids_in}
use Rattle.find.specs.declared.source.Source.TheVariants.{Index}
use Rattle.find.proofs.by_index.find_by_index.Goals as goal

pub returns-then-in_order-clause-ok : goal.returns-then-in_order-clause-ok
returns-then-in_order-clause-ok g c =
    let query = c.args.query.now in
    let name = c.args.db.now in
    let chosen = c.in-Some.chosen in
    let plan = c.in-Some-2.plan in
    let serves = rw c.in-Some-2.is at c.in_ok-plan.ensures.serves in
    let order = rw c.in-Some-2.is at c.in_ok-plan.ensures.order in
    let design = rw c.in-Some-2.is at c.in_ok-plan.ensures.design in
    found_planned g.S.Store c.choose_index.new.store c.find_in_order.new.store
    (finite.get (g.S.Store.contents c.args.store.now) name) (finite.get (g.S.Store.contents c.choose_index.new.store) name) query
    (λ d. take query.limit (drop query.skip (matches_at query.selector d (ids_in (Index plan) d)))) c.in_ok-find_in_order.field-0
    c.in_ok-find_in_order.ensures.reads
    (λ honest. ap (λ (x : Contents). finite.get x name) (c.in_ok-chosen.ensures.reads.same honest))
    (λ honest d is. found_in_order query d plan (served_by query d chosen.design chosen.history plan (rw c.in-Some.is at (c.in_ok-chosen.ensures.ok honest d is)) design serves) (order c.if-in_order.true)) c.in_ok-find_in_order.ensures.ok

pub returns-clause-ok : goal.returns-clause-ok
returns-clause-ok g c =
    let query = c.args.query.now in
    let name = c.args.db.now in
    let chosen = c.in-Some.chosen in
    let plan = c.in-Some-2.plan in
    let serves = rw c.in-Some-2.is at c.in_ok-plan.ensures.serves in
    let design = rw c.in-Some-2.is at c.in_ok-plan.ensures.design in
    found_planned g.S.Store c.choose_index.new.store c.find_sorted.new.store
    (finite.get (g.S.Store.contents c.args.store.now) name) (finite.get (g.S.Store.contents c.choose_index.new.store) name) query
    (λ d. take query.limit (drop query.skip (in_direction query.descending (map (λ e. e.1) (put_candidates query.sort query.selector d (ids_in (Index plan) d) []))))) c.in_ok-find_sorted.field-0
    c.in_ok-find_sorted.ensures.reads
    (λ honest. ap (λ (x : Contents). finite.get x name) (c.in_ok-chosen.ensures.reads.same honest))
    (λ honest d is. found_by_index query d plan (served_by query d chosen.design chosen.history plan (rw c.in-Some.is at (c.in_ok-chosen.ensures.ok honest d is)) design serves)) c.in_ok-find_sorted.ensures.ok
