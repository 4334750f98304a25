use Rattle.std.proofs.Common.{◌&&◌, ◌||◌, ap, ◌∙◌}
use Rattle.selector.specs.Lookup.{drafts_decide, place_decides}
use Rattle.selector.proofs.Places.{drafts_more, walked_more}
use Rattle.selector.proofs.lookup.add_place.Goals as goal

pub returns-then-added : goal.returns-then-added
returns-then-added c = λ root current.
    drafts_more _ (drafts_decide c.args.drafts.now current) _ (place_decides c.args.operator root current c.args.selectors.now.items c.args.at) _
    (c.in_ok-added.ensures root current) c.if-added.true

pub returns : goal.returns
returns c = λ root current.
    let decides = place_decides c.args.operator root current c.args.selectors.now.items in
    walked_more decides c.args.walked.now.items _ c.args.at (drafts_decide c.args.drafts.now current) _ c.in_ok-push.ensures.items
    (c.in_ok-added.ensures root current ∙ ap (λ added. (added && decides c.args.at) || drafts_decide c.args.drafts.now current) c.if-added.false)
