-- The history that a replicated document comes with, as the code says it.
-- This crate's own: it ties the struct and the enum to the definitions in `Document`.
use Rattle.std.specs.Prelude.{Option, Some, None}
use Rattle.write.specs.Document as defined
use Rattle.write.specs.declared.ancestry.Ancestry.{Ancestry}
use Rattle.write.specs.declared.ancestry.GivenAncestry.{GivenAncestry}
use Rattle.write.specs.declared.ancestry.GivenAncestry.TheVariants.{Absent, Malformed, Given}

abbrev pub ancestry_of : Ancestry → defined.Ancestry
ancestry_of a = record { start = a.start; path = a.path.items }

-- what `_revisions` says, where it is given
abbrev pub given_of : GivenAncestry → Option (Option defined.Ancestry)
given_of Absent = None
given_of Malformed = Some None
given_of (Given a) = Some (Some (ancestry_of a))
