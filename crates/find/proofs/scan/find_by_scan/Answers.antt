-- All documents give what is found.
use Rattle.std.proofs.Common.{◌≡◌, [], drop, length, map, rules, sym, take, ◌∙◌}
use Rattle.std.specs.FinMap as finite
use Rattle.store.specs.Pages.{in_direction}
use Rattle.store.proofs.PageStructs.{no_length}
use Rattle.find.proofs.Candidates.{all_documents, found_among}
use Rattle.find.proofs.Finding.{finds_by, found_by_id}
use Rattle.find.specs.inner.Candidates.{put_candidates}
use Rattle.find.specs.Found.{found_documents}
use Rattle.find.specs.inner.Matching.{matches_at}
use Rattle.find.specs.inner.Sources.{ids_in}
use Rattle.find.specs.declared.source.Source.TheVariants.{Documents}
use Rattle.find.proofs.scan.find_by_scan.Goals as goal

pub returns-then-is_empty-clause-answer : goal.returns-then-is_empty-clause-answer
returns-then-is_empty-clause-answer g c =
    let query = c.args.query.now in
    let none : length c.as_slice.result.now ≡ 0 = search rules in
    let unsorted = sym c.as_slice.ensures ∙ no_length c.as_slice.result.now none in
    finds_by g.S.Store c.args.store.now c.find_in_order.new.store (λ documents. documents) (finite.get (g.S.Store.contents c.args.store.now) c.args.db.now)
    (λ d. take query.limit (drop query.skip (matches_at query.selector d (ids_in (Documents query.descending) d)))) (λ d. found_documents query d) c.find_in_order.result
    c.find_in_order.ensures.ok c.find_in_order.ensures.stops (λ d. found_by_id query d unsorted)

pub returns-clause-answer : goal.returns-clause-answer
returns-clause-answer g c =
    let query = c.args.query.now in
    finds_by g.S.Store c.args.store.now c.find_sorted.new.store (λ documents. documents) (finite.get (g.S.Store.contents c.args.store.now) c.args.db.now)
    (λ d. take query.limit (drop query.skip (in_direction query.descending (map (λ e. e.1) (put_candidates query.sort query.selector d (ids_in (Documents query.descending) d) []))))) (λ d. found_documents query d)
    c.find_sorted.result c.find_sorted.ensures.ok c.find_sorted.ensures.stops
    (λ d. found_among query d (ids_in (Documents query.descending) d) (all_documents query.descending query.sort query.selector d))
