-- When a verdict says that the schema is another.
-- This server's own, over `Schema` of `tables`.
use Rattle.std.specs.Prelude.{◌≡◌}
use Rattle.file_check.specs.declared.finding.Verdict.{Verdict}
use Rattle.file_check.specs.declared.finding.Verdict.TheVariants.{Sound, Unsound}
use Rattle.file_check.specs.declared.finding.Wrong.TheVariants.{Layout}

-- the file is unsound, and its layout is what is wrong
abbrev pub IsOtherLayout : Verdict → Type 0
IsOtherLayout (Sound counts) = ⊥
IsOtherLayout (Unsound finding) = finding.wrong ≡ Layout
