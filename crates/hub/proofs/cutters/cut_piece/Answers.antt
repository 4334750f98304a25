use Rattle.hub.proofs.Rests.{cut_at, still_open}
use Rattle.hub.proofs.cutters.cut_piece.Goals as goal

pub returns-clause-still_open : goal.returns-clause-still_open
returns-clause-still_open c =
    still_open c.args.cutters.now.entries c.take_piece.new.cutters.entries c.drop_ended.new.cutters.entries c.args.conn c.args.piece.now c.in_ok-cut.cut c.requires
    c.in_ok-cut.ensures.taken c.drop_ended.ensures.goes_on c.drop_ended.ensures.entries

pub returns-clause-cut : goal.returns-clause-cut
returns-clause-cut c =
    cut_at c.args.cutters.now.entries c.take_piece.new.cutters.entries c.drop_ended.new.cutters.entries c.args.conn c.args.piece.now c.in_ok-cut.cut
    c.in_ok-cut.ensures.taken c.drop_ended.ensures.goes_on c.drop_ended.ensures.rests
