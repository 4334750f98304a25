use Rattle.index.proofs.Common.{Some, ap, option_map, rules, sym, ◌∙◌, ◌≡◌}
use Rattle.couch_json.specs.Value.{Value}
use Rattle.couch_json.specs.View.{view}
use Rattle.index.proofs.TextNames.{not_declared}
use Rattle.index.specs.Meaning.{declared_if}
use Rattle.index.proofs.rebuilding.read_declared.Goals as goal

pub returns-in_default-from_utf8-clause-ok : goal.returns-in_default-from_utf8-clause-ok
returns-in_default-from_utf8-clause-ok c =
    let is : option_map {U = Value} (λ v. view v.now) c.args.body ≡ Some (view c.in-Some.body.now) = search rules in
    sym (ap (λ b. declared_if b c.args.name.now) is ∙ not_declared c.args.name.now c.in_default-from_utf8.ensures.cases.0 c.in-Some.body.now)
