use Rattle.ranks.proofs.Segments.{rank_from, lies_from, segments_before}
use Rattle.ranks.proofs.ranks.Ranks.segment_of.Goals as goal

pub returns-clause-starts : goal.returns-clause-starts
returns-clause-starts c = rw c.start.ensures (lies_from _ _ _ c.place_of-place.ensures.lies)

pub returns-clause-before : goal.returns-clause-before
returns-clause-before c keys t = rw (c.start.ensures, c.before-2.ensures) (segments_before _ keys _ _ t c.place_of-place.ensures.within)

pub returns-clause-rank : goal.returns-clause-rank
returns-clause-rank c keys t = rw (c.start.ensures, c.before-2.ensures) (rank_from _ c.args.key.now keys _ _ t c.place_of-place.ensures.lies)
