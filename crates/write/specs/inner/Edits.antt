-- Which revision an edit names and which one it follows, as enums of the code say it.
-- This crate's own: it ties them to the definitions in `Document` and `Admission`.
use Rattle.std.specs.Prelude.{Option, Some, None}
use Rattle.tree.specs.Revision.{Revision}
use Rattle.write.specs.declared.admission.Base.{Base}
use Rattle.write.specs.declared.admission.Base.TheVariants.{New, Leaf, Conflict}
use Rattle.write.specs.declared.document.NamedRevision.{NamedRevision}
use Rattle.write.specs.declared.document.NamedRevision.TheVariants.{Absent, Malformed, Given}

-- the revision that is named, or that none is; nothing where what is named is no revision
abbrev pub named_of : NamedRevision → Option (Option Revision)
named_of Absent = Some None
named_of Malformed = None
named_of (Given r) = Some (Some r)

-- the revision that an edit follows, or that it follows none; nothing where it is a conflict
abbrev pub base_of : Base → Option (Option Revision)
base_of New = Some None
base_of (Leaf r) = Some (Some r)
base_of Conflict = None
