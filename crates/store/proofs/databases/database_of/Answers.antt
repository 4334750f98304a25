use Rattle.std.proofs.Common.{Some, sym, ap, ◌∙◌}
use Rattle.store.specs.Plain.{content}
use Rattle.store.proofs.Plains.{get-contents_of, looked_up, is_first}
use Rattle.store.proofs.databases.database_of.Goals as goal

pub returns : goal.returns
returns c =
    let es = c.args.databases.now.items in
    let name = c.args.name.now in
    let e = c.index.result.now in
    let first = is_first es c.in_ok-at.at name (sym c.in_ok-at.ensures.place) in
    sym (get-contents_of es name ∙ looked_up es c.in_ok-at.at name e first ∙ ap (λ f. Some (content f.1)) (sym c.index.ensures))
