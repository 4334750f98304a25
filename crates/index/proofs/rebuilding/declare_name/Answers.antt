use Rattle.index.proofs.Common.{Err, declared, map, rules, ⊤, ◌∙◌, ◌∷◌, ◌≡◌}
use Rattle.index.proofs.Refusals.{refused_as}
use Rattle.index.proofs.ShownDeclarations.{refused_of}
use Rattle.index.specs.Declaring.{ArePartly}
use Rattle.index.specs.Steps.{AreFit}
use Rattle.index.proofs.rebuilding.declare_name.Goals as goal

pub returns-clause-declares : goal.returns-clause-declares
returns-clause-declares g c declares sees f left wanted = c.declare_missing.ensures.declares declares sees f left (c.in_ok-fields.ensures.ok ∙ wanted)

pub returns-in_err-fields-clause-err : goal.returns-in_err-fields-clause-err
returns-in_err-fields-clause-err g c declares sees f left =
    let fit = AreFit g.S.Store (ArePartly declares sees c.args.db.now c.args.design.now f (c.args.name.now ∷ left) (map declared c.args.fresh.now.items)) c.args.tx.now.conn.now c.args.tx.now.conn.now in
    let why = c.in_err-fields.field-0.0 in
    let is : c.from_residual.result ≡ Err why = search rules in
    refused_as fit c.from_residual.result why is (refused_of ⊤ fit why (λ it. tt) c.in_err-fields.ensures.err)

pub returns-clause-err : goal.returns-clause-err
returns-clause-err g c declares sees f left = c.declare_missing.ensures.err declares sees f left
