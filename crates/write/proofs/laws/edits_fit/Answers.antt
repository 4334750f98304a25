use Rattle.write.proofs.Fitting.{edit_fits, edit_known}
use Rattle.write.proofs.laws.edits_fit.Goals as goal

pub returns : goal.returns
returns c = record { added = edit_fits; known = edit_known }
