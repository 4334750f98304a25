use Rattle.index.proofs.Common.{List, [], ap, declared, map, option_map, state, with_declared, ℕ, ◌∙◌, ◌≡◌}
use Rattle.couch_json.specs.Value.{Value}
use Rattle.couch_json.specs.View.{view}
use Rattle.index.proofs.Declared.{unfilled}
use Rattle.index.proofs.Designs.{to_partly}
use Rattle.index.proofs.Going.{if_err}
use Rattle.index.proofs.ShownDeclarations.{refused_of}
use Rattle.index.proofs.StepLemmas.{steps_weaker}
use Rattle.index.specs.Declaring.{ArePartly, ArePartlySet}
use Rattle.index.specs.Meaning.{declared_if}
use Rattle.index.specs.Rebuilding.{AreLeftUnfilled, IsToDeclare, declared_names}
use Rattle.index.specs.Steps.{AreFit}
use Rattle.index.proofs.rebuilding.declare_design.Goals as goal

pub returns-clause-declares : goal.returns-clause-declares
returns-clause-declares g c declares sees =
    let a = c.args.tx.now.conn.now in
    let e = c.declare_names.new.tx.conn.now in
    let db = c.args.db.now in
    let design = c.args.design.now in
    let body = option_map {U = Value} (λ v. view v.now) c.args.body in
    let f = declared_if (option_map {U = Value} (λ v. view v.now) c.args.body) in
    let names = map {B = List ℕ} (λ name. name.items) c.deref.result.now in
    let names_are : names ≡ declared_names body = ap (map {B = List ℕ} (λ name. name.items)) c.deref.ensures.value ∙ c.in_ok-names.ensures in
    let before = map declared c.args.fresh.now.items in
    let after = map declared c.declare_names.new.fresh.items in
    let all = with_declared declares db design f in
    steps_weaker g.S.Store (IsToDeclare declares sees db design f before) (ArePartly all sees db design f names before) (AreLeftUnfilled all sees db after) (ArePartlySet all sees db design f [] after) a e c.declare_names.result
    (c.declare_names.ensures.declares all sees)
    (λ fit. to_partly declares sees db design body names before (state g.S.Store a).now names_are fit)
    (λ fit made. record { now = unfilled all sees db after (state g.S.Store e).now design f made.now; only = made.only })

pub returns-clause-err : goal.returns-clause-err
returns-clause-err g c declares sees =
    let body = option_map {U = Value} (λ v. view v.now) c.args.body in
    let f = declared_if (option_map {U = Value} (λ v. view v.now) c.args.body) in
    let names = map {B = List ℕ} (λ name. name.items) c.deref.result.now in
    let names_are : names ≡ declared_names body = ap (map {B = List ℕ} (λ name. name.items)) c.deref.ensures.value ∙ c.in_ok-names.ensures in
    let before = map declared c.args.fresh.now.items in
    let all = with_declared declares c.args.db.now c.args.design.now f in
    if_err c.declare_names.result
    (λ why h. refused_of (AreFit g.S.Store (ArePartly all sees c.args.db.now c.args.design.now f names before) c.args.tx.now.conn.now c.declare_names.new.tx.conn.now) (AreFit g.S.Store (IsToDeclare declares sees c.args.db.now c.args.design.now f before) c.args.tx.now.conn.now c.declare_names.new.tx.conn.now) why
    (λ it. (it.0, to_partly declares sees c.args.db.now c.args.design.now body names before (state g.S.Store c.args.tx.now.conn.now).now names_are it.1)) h)
    (c.declare_names.ensures.err all sees)
