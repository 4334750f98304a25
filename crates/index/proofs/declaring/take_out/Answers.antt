use Rattle.index.proofs.Common.{Declared, None, Option, Some, declared, decls_tree, option_map, rules, state, subst, sym, ◌≡◌}
use Rattle.index.proofs.Rebuilt.{found_declared, found_own, the_row}
use Rattle.index.proofs.StepLemmas.{steps_weaker}
use Rattle.index.specs.Declaring.{IsDeclared, IsFoundIn, IsRebuilt, with_index}
use Rattle.index.specs.Rows.{design_of, database_of_declaration, index_name_of_row}
use Rattle.index.specs.Steps.{Steps}
use Rattle.index.proofs.declaring.take_out.Goals as goal

pub returns-in-Some-clause-takes : goal.returns-in-Some-clause-takes
returns-in-Some-clause-takes g c declares sees =
    let a = c.args.tx.now.conn.now in
    let b = c.undeclare.new.tx.conn.now in
    let db = c.args.db.now in
    let design = c.args.design.now in
    let name = c.args.name.now in
    let x : Declared = declared c.in-Some.declaration in
    let d = the_row declares db design name ((state g.S.Store a).now.trees decls_tree) in
    let is : option_map {U = Declared} declared c.args.found.now ≡ Some (declared c.in-Some.declaration) = search rules in
    subst (λ (o : Option Declared). Steps g.S.Store (IsFoundIn declares sees db design name o) (IsRebuilt (with_index declares db design name None) sees) a b c.undeclare.result) (sym is)
    (steps_weaker g.S.Store (IsFoundIn declares sees db design name (Some x)) (IsDeclared declares sees x.number d) (IsRebuilt (with_index declares db design name None) sees)
    (IsRebuilt (with_index declares (database_of_declaration d) (design_of d) (index_name_of_row d) None) sees) a b c.undeclare.result (c.undeclare.ensures.undeclares declares sees d)
    (λ fit. found_declared declares db design name sees x (state g.S.Store a).now fit)
    (λ fit made.
    let own = found_own declares db design name sees x (state g.S.Store a).now fit in
    subst (λ h. IsRebuilt (with_index declares h design name None) sees (state g.S.Store a).now (state g.S.Store b).now) own.0
    (subst (λ o. IsRebuilt (with_index declares (database_of_declaration d) o name None) sees (state g.S.Store a).now (state g.S.Store b).now) own.1
    (subst (λ n. IsRebuilt (with_index declares (database_of_declaration d) (design_of d) n None) sees (state g.S.Store a).now (state g.S.Store b).now) own.2 made))))
