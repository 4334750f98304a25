use Rattle.ranks.proofs.Segments.{segments_before}
use Rattle.ranks.proofs.ranks.Ranks.last_before.Goals as goal

pub returns-clause-before : goal.returns-clause-before
returns-clause-before c keys t = rw (c.start.ensures, c.before-2.ensures) (segments_before _ keys _ _ t c.last_place_before-place.ensures.within)
