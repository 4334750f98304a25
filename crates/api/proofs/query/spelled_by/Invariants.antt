use Rattle.std.proofs.Common.{◌≡◌, ◌++◌, drop, option_map}
use Rattle.couch_json.specs.View.{items_view}
use Rattle.api.specs.Queries.{revisions_in}
use Rattle.api.proofs.query.spelled_by.Given as goal

abbrev pub invariant-loop-item : goal.invariant-loop-item
invariant-loop-item l =
    option_map (λ rs. l.revs.items ++ rs) (revisions_in (items_view (drop l.item-index l.items))) ≡ revisions_in (items_view l.items)
