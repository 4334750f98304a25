use Rattle.std.proofs.Common.{◌≡◌, false, drop}
use Rattle.clap.specs.Words.{app_of}
use Rattle.clap.specs.declared.builder.command.Command.TheViews.{out-Command as fields_of}
use Rattle.command_line.specs.Plan.{command_named}
use Rattle.command_line.specs.Words.{with_words}
use Rattle.command_line.proofs.command_line.command_with.Given as goal

-- what is left leads to the whole
abbrev pub invariant-loop-word : goal.invariant-loop-word
invariant-loop-word l = record {
  app : with_words (drop l.word-index l.words) (app_of l.command) ≡ with_words l.words (command_named l.name);
  local : (fields_of l.command).has_globals ≡ false;
}
