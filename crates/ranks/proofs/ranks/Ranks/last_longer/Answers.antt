use Rattle.ranks.proofs.Segments.{segments_before}
use Rattle.ranks.proofs.ranks.Ranks.last_longer.Goals as goal

pub returns : goal.returns
returns c keys t = rw (c.start.ensures, c.before-2.ensures) (segments_before _ keys _ _ t c.in_ok-place.ensures)
