-- The words of a command: the rule of each, and the command that has them.
-- How words are read is clap's; which words a command has is this project's own.
use Rattle.std.specs.Prelude.{List, [], ◌∷◌}
use Rattle.clap.specs.Words.{App, Rule, with_rule}
use Rattle.command_line.specs.Plan.{admin_rule, flag, optional_option, required_option}
use Rattle.command_line.specs.declared.word.Word.{Word}
use Rattle.command_line.specs.declared.word.Word.TheVariants.{Required, Optional, Flag, Admins}

-- the rule of a word
abbrev pub rule_of_word : Word → Rule
rule_of_word (Required name) = required_option name.now
rule_of_word (Optional name) = optional_option name.now
rule_of_word (Flag name) = flag name.now
rule_of_word Admins = admin_rule

-- a command with these words more, in their order
abbrev pub with_words : List Word → App → App
with_words [] app = app
with_words (word ∷ words) app = with_words words (with_rule app (rule_of_word word))
