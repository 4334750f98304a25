use Rattle.repl.proofs.ReportLemmas.{all_told}
use Rattle.repl.proofs.laws.reports_are_told.Goals as goal

pub returns : goal.returns
returns c = all_told
