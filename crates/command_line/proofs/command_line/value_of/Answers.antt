use Rattle.std.proofs.Common.{◌∙◌}
use Rattle.clap.specs.Words.{found_of}
use Rattle.clap.proofs.WalkLemmas.{first_value-rows}
use Rattle.command_line.proofs.Asking.{none_there, text_there}
use Rattle.command_line.proofs.command_line.value_of.Goals as goal

pub returns-clause-some : goal.returns-clause-some
returns-clause-some c = text_there (λ s. s.now) c.get_str.result _ (c.get_str.ensures ∙ first_value-rows (found_of c.args.matches.now) c.args.name.now)

pub returns-clause-none : goal.returns-clause-none
returns-clause-none c = none_there (λ s. s.now) c.get_str.result _ (c.get_str.ensures ∙ first_value-rows (found_of c.args.matches.now) c.args.name.now)
