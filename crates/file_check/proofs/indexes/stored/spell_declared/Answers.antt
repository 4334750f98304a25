use Rattle.std.proofs.Common.{ap, subst, sym}
use Rattle.std.specs.Prelude.{IfSome, option_map}
use Rattle.index.proofs.TextNames.{not_declared}
use Rattle.index.specs.Rows.{fields_text}
use Rattle.file_check.specs.Indexes.{ArePaths}
use Rattle.file_check.proofs.indexes.stored.spell_declared.Goals as goal

pub returns-in_default-clause-text : goal.returns-in_default-clause-text
returns-in_default-clause-text c = sym (ap (option_map fields_text) (not_declared c.args.name.now c.in_default.ensures.cases.0 c.args.body.now))

pub returns-in_default-clause-paths : goal.returns-in_default-clause-paths
returns-in_default-clause-paths c = subst (λ o. IfSome o ArePaths) (sym (not_declared c.args.name.now c.in_default.ensures.cases.0 c.args.body.now)) tt
