use Rattle.std.proofs.Common.{◌∙◌, ap}
use Rattle.auth.specs.Roles.{without_trailing_blanks}
use Rattle.auth.proofs.TrimLemmas.{trim_start_is, trim_end_is}
use Rattle.auth.proofs.roles.trim_blanks.Goals as goal

pub returns : goal.returns
returns c =
    trim_end_is _ _ c.trim_end_matches.ensures.matches
    ∙ ap without_trailing_blanks (trim_start_is _ _ c.trim_start_matches-front.ensures.matches)
