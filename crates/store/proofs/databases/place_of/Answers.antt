use Rattle.std.proofs.Common.{◌≡◌, None, ◌∙◌, arith}
use Rattle.std.proofs.lemmas.Grind.{common_steps}
use Rattle.store.specs.Plain.{place_from}
use Rattle.store.proofs.Plains.{get-contents_of, not_found}
use Rattle.store.proofs.databases.place_of.Goals as goal

pub returns-clause-absent : goal.returns-clause-absent
returns-clause-absent c =
    let es = c.args.databases.now.items in
    let none : place_from 0 c.args.name.now c.args.databases.now.items ≡ None = grind (arith, common_steps) in
    get-contents_of es c.args.name.now ∙ not_found es 0 c.args.name.now none
