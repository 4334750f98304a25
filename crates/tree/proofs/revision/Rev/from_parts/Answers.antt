-- The hash is padded to 64 bytes.
use Rattle.tree.proofs.MadeRevision.{kept_made, made_is_kept}
use Rattle.tree.proofs.revision.Rev.from_parts.Goals as goal

pub invariant_of-result : goal.invariant_of-result
invariant_of-result c = made_is_kept c.args.number c.args.hash.now c.pad.result c.requires c.pad.ensures

pub returns : goal.returns
returns c = kept_made c.args.number c.args.hash.now c.pad.result c.pad.ensures
