use Rattle.std.proofs.Common.{inl, inr, Some, sym, ap, ◌∙◌}
use Rattle.hub.proofs.PartLemmas.{part_open}
use Rattle.hub.proofs.service.serve_part.Goals as goal

pub returns-in-Ok-clause-served : goal.returns-in-Ok-clause-served
returns-in-Ok-clause-served g c =
    inl (c.in-Ok.replies.list.items, c.in-Ok.replies.last, c.write_replies.ensures.0, c.in-Ok.ensures.fed, c.write_replies.ensures.1, c.write_replies.ensures.2)

pub returns-in-Ok-clause-open : goal.returns-in-Ok-clause-open
returns-in-Ok-clause-open g c none =
    part_open g.S.Store c.args.hub.now c.feed.new.self c.args.conn c.args.part.now c.in-Ok.replies.list.items c.in-Ok.replies.last c.write_replies.ensures.0
    c.requires c.in-Ok.ensures.fed (sym c.write_replies.ensures.1 ∙ none)

pub returns-in-Err-Memory-clause-served : goal.returns-in-Err-Memory-clause-served
returns-in-Err-Memory-clause-served g c =
    inr (c.write_farewell.ensures.0, c.in-Err-Memory.ensures.err, ap Some c.write_farewell.ensures.1, c.write_farewell.ensures.2)
