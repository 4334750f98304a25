use Rattle.std.proofs.Common.{map, string_bytes}
use Rattle.clap.specs.Words.{fault_of, subcommand_of}
use Rattle.command_line.specs.Plan.{couchd_command}
use Rattle.command_line.proofs.Asking.{asked_unless-refused}
use Rattle.command_line.proofs.command_line.plan.Goals as goal

pub returns-clause-usage : goal.returns-clause-usage
returns-clause-usage c =
    λ usage. asked_unless-refused (fault_of couchd_command (map string_bytes c.args.words.now)) (subcommand_of couchd_command (map string_bytes c.args.words.now))
    (c.in-Err.ensures.err (λ memory. let told = c.fault_of.ensures.memory memory in absurd cc))
