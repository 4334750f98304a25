-- A numeral that is no text, that `parse` refuses, and that it reads.
use Rattle.std.proofs.Common.{◌≤◌, sym, ap, ◌∙◌, get_or, cond, Some, None, le-leb, arith}
use Rattle.tree.specs.Revision.{greatest_number}
use Rattle.tree.proofs.RevisionText.{number_read-none, number_read-parse}
use Rattle.tree.proofs.revision.number_read.Goals as goal

pub returns-in_default : goal.returns-in_default
returns-in_default c = sym (number_read-none c.args.digits.now c.in_default.ensures.cases.0)

pub returns-in_default-parse : goal.returns-in_default-parse
returns-in_default-parse c =
    let first : 49 ≤ get_or c.args.digits.now 0 0 = omega arith in
    let parsed = rw c.in-Ok.ensures.cases.0 at c.parse.ensures.value.0 in
    sym (rw c.in_default-parse.is at (number_read-parse c.args.digits.now c.parse.result first parsed))

pub returns : goal.returns
returns c =
    let first : 49 ≤ get_or c.args.digits.now 0 0 = omega arith in
    let parsed = rw c.in-Ok.ensures.cases.0 at c.parse.ensures.value.0 in
    let low = le-leb c.in-Ok-parse.number greatest_number (omega arith) in
    sym (rw c.in-Ok-parse.is at (number_read-parse c.args.digits.now c.parse.result first parsed) ∙ ap (λ b. cond b (Some c.in-Ok-parse.number) None) low)
