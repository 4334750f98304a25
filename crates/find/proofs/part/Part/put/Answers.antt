use Rattle.std.proofs.Common.{◌-◌, ◌∷◌, ◌++◌, [], ap, ◌∙◌, arith}
use Rattle.couch_json.specs.View.{view}
use Rattle.find.proofs.Parts.{one_taken}
use Rattle.find.proofs.part.Part.put.Goals as goal

pub returns-in_ok-push_text : goal.returns-in_ok-push_text
returns-in_ok-push_text c = λ rest.
    let part = c.args.self.now in
    one_taken part.skip part.limit (part.limit - 1) part.documents c.push_text.new.self (view c.args.document.now) rest
    (omega (arith, c.if-self-gt0.false)) (omega (arith, c.if-self-gt0-2.true)) (search c.in_ok-push_text.ensures.ok ∙ ap (λ d. part.documents ++ d ∷ []) c.in_ok-text.ensures)
