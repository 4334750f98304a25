use Rattle.index.proofs.Common.{Err, List, Option, rules, subst, ℕ, ⊤, ◌≡◌}
use Rattle.index.proofs.Refusals.{refused_as}
use Rattle.index.proofs.ShownDeclarations.{refused_of}
use Rattle.index.specs.Declaring.{IsCleared, IsRebuildable}
use Rattle.index.specs.Steps.{AreFit, Steps}
use Rattle.index.proofs.rebuilding.clear_name.Goals as goal

pub returns-clause-clears : goal.returns-clause-clears
returns-clause-clears g c declares sees =
    subst (λ (o : Option (List (List ℕ))). Steps g.S.Store (IsRebuildable declares sees c.args.db.now) (IsCleared declares sees c.args.db.now c.args.design.now c.args.name.now o) c.args.tx.now.conn.now c.clear_index.new.tx.conn.now c.clear_index.result)
    c.in_ok-fields.ensures.ok (c.clear_index.ensures.clears declares sees)

pub returns-in_err-fields-clause-err : goal.returns-in_err-fields-clause-err
returns-in_err-fields-clause-err g c declares sees =
    let fit = AreFit g.S.Store (IsRebuildable declares sees c.args.db.now) c.args.tx.now.conn.now c.args.tx.now.conn.now in
    let why = c.in_err-fields.field-0.0 in
    let is : c.from_residual.result ≡ Err why = search rules in
    refused_as fit c.from_residual.result why is (refused_of ⊤ fit why (λ it. tt) c.in_err-fields.ensures.err)

pub returns-clause-err : goal.returns-clause-err
returns-clause-err g c declares sees = c.clear_index.ensures.err declares sees
