use Rattle.std.proofs.Common.{◌∙◌, sym, ap, Some}
use Rattle.std.specs.BTreeMap.{is_at}
use Rattle.std.specs.Ordering.{nat_cmp}
use Rattle.std.proofs.lemmas.Map.Steps.{set_value_same}
use Rattle.hub.proofs.Rests.{OnErr-always}
use Rattle.hub.proofs.cutters.take_piece.Goals as goal

pub returns-in_err-feed_with_room-in-Some-clause-err :
    goal.returns-in_err-feed_with_room-in-Some-clause-err
returns-in_err-feed_with_room-in-Some-clause-err c =
    OnErr-always c.from_residual.result
    ((c.get_mut.follows.holds c.feed_with_room.new.self).0
    ∙ set_value_same (is_at (nat_cmp c.args.conn)) c.args.cutters.now.entries c.feed_with_room.new.self
    (sym c.in-Some.ensures.value ∙ ap Some (sym c.in_err-feed_with_room-in-Some.ensures.err)))
