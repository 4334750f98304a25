use Rattle.std.proofs.Common.{◌∙◌, sym}
use Rattle.command_line.proofs.Asking.{number_between-unparsed}
use Rattle.command_line.proofs.command_line.read_number.Goals as goal

pub returns-in_default-clause-number : goal.returns-in_default-clause-number
returns-in_default-clause-number c =
    sym (number_between-unparsed c.args.least c.args.most c.args.text.now c.parse.result c.in_default.field-0 c.parse.ensures.value.0 c.in_default.is (sym c.is_numeral.ensures ∙ c.if-not-is_numeral.false) c.ranges.most.fits)
