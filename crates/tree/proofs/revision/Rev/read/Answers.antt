-- A number and a hash that were read make a revision.
use Rattle.std.proofs.Common.{sym, ◌∙◌}
use Rattle.tree.proofs.RevisionText.{lawful_parts}
use Rattle.tree.proofs.revision.Rev.read.Goals as goal

pub from_parts-requires : goal.from_parts-requires
from_parts-requires c =
    lawful_parts c.in_ok-digits.digits.now c.in_ok-digits.hash.now c.in_ok-number.number (sym c.number_read.ensures ∙ c.in_ok-number.was)
    (sym c.is_hash.ensures ∙ c.if-not-is_hash.false)
