use Rattle.index.proofs.Common.{List, Ok, [], arith, declared, drop, length, map, option_map, refl, rules, state, subst, ℕ, ◌+◌, ◌∙◌}
use Rattle.couch_json.specs.Value.{Value}
use Rattle.couch_json.specs.View.{view}
use Rattle.index.proofs.RebuildSteps.{name_declared, name_failed, name_refused}
use Rattle.index.proofs.Rebuilt.{indexes_itself}
use Rattle.index.proofs.StepLemmas.{steps_none, steps_so}
use Rattle.index.specs.Declaring.{ArePartly, ArePartlySet}
use Rattle.index.specs.Meaning.{declared_if}
use Rattle.std.proofs.Common.{◌≤◌}
use Rattle.std.proofs.lemmas.List.{drop_all}
use Rattle.index.proofs.rebuilding.declare_names.Goals as goal

pub loop-name-init : goal.loop-name-init
loop-name-init g c = record {
  same = refl;
  so_far = λ declares sees.
      let f = declared_if (option_map {U = Value} (λ v. view v.now) c.args.body) in
      let all = map {B = List ℕ} (λ name. name.items) c.args.names.now in
      let before = map declared c.args.fresh.now.items in
      steps_none g.S.Store (ArePartly declares sees c.args.db.now c.args.design.now f all before) (ArePartlySet declares sees c.args.db.now c.args.design.now f all before) c.args.tx.now.conn.now (Ok tt)
      (λ fit. record { now = fit; only = indexes_itself (state g.S.Store c.args.tx.now.conn.now).now }) tt;
}

pub loop-name-preserved : goal.loop-name-preserved
loop-name-preserved g c = record {
  same = c.in_ok-declare_name.ensures.same_reference ∙ c.loop-name.invariant.same;
  so_far = λ declares sees.
      name_declared g.S.Store declares sees c.args.db.now c.args.design.now (declared_if (option_map {U = Value} (λ v. view v.now) c.args.body)) (λ name. name.items) c.args.names.now c.loop-name.name-index c.loop-name-test.true c.name-item.result c.name-item.is c.deref.result.now c.deref.ensures.value
      (map declared c.args.fresh.now.items) (map declared c.loop-name.fresh.items) (map declared c.declare_name.new.fresh.items) c.args.tx.now.conn.now c.loop-name.tx.conn.now c.declare_name.new.tx.conn.now (c.loop-name.invariant.so_far declares sees)
      (c.in_ok-declare_name.ensures.declares declares sees (declared_if (option_map {U = Value} (λ v. view v.now) c.args.body)) (map {B = List ℕ} (λ name. name.items) (drop (c.loop-name.name-index + 1) c.args.names.now)) refl);
}

pub returns-in_err-declare_name-clause-declares : goal.returns-in_err-declare_name-clause-declares
returns-in_err-declare_name-clause-declares g c declares sees =
    name_failed g.S.Store declares sees c.args.db.now c.args.design.now (declared_if (option_map {U = Value} (λ v. view v.now) c.args.body)) (λ name. name.items) c.args.names.now c.loop-name.name-index c.loop-name-test.true c.name-item.result c.name-item.is c.deref.result.now c.deref.ensures.value
    (map declared c.args.fresh.now.items) (map declared c.loop-name.fresh.items) (map declared c.declare_name.new.fresh.items) c.args.tx.now.conn.now c.loop-name.tx.conn.now c.declare_name.new.tx.conn.now (c.loop-name.invariant.so_far declares sees)
    c.in_err-declare_name.field-0.0 c.from_residual.result (search rules) (c.in_err-declare_name.ensures.declares declares sees (declared_if (option_map {U = Value} (λ v. view v.now) c.args.body)) (map {B = List ℕ} (λ name. name.items) (drop (c.loop-name.name-index + 1) c.args.names.now)) refl)

pub returns-clause-declares : goal.returns-clause-declares
returns-clause-declares g c declares sees =
    let a = c.args.tx.now.conn.now in
    let b = c.loop-name.tx.conn.now in
    let db = c.args.db.now in
    let design = c.args.design.now in
    let f = declared_if (option_map {U = Value} (λ v. view v.now) c.args.body) in
    let names = c.args.names.now in
    let i = c.loop-name.name-index in
    let none : length names ≤ i = omega (arith, c.loop-name-test.false) in
    let all = map {B = List ℕ} (λ name. name.items) names in
    let left = map {B = List ℕ} (λ name. name.items) (drop i names) in
    let first = map declared c.args.fresh.now.items in
    let after = map declared c.loop-name.fresh.items in
    steps_so g.S.Store (ArePartly declares sees db design f all first) (ArePartlySet declares sees db design f left after) (ArePartlySet declares sees db design f [] after) a b (Ok tt) (c.loop-name.invariant.so_far declares sees)
    (λ fit made. subst (λ l. ArePartlySet declares sees db design f (map {B = List ℕ} (λ name. name.items) l) after (state g.S.Store a).now (state g.S.Store b).now) (drop_all i names none) made)

pub returns-in_err-declare_name-clause-err : goal.returns-in_err-declare_name-clause-err
returns-in_err-declare_name-clause-err g c declares sees =
    let f = declared_if (option_map {U = Value} (λ v. view v.now) c.args.body) in
    let behind = map {B = List ℕ} (λ name. name.items) (drop (c.loop-name.name-index + 1) c.args.names.now) in
    name_refused g.S.Store declares sees c.args.db.now c.args.design.now (declared_if (option_map {U = Value} (λ v. view v.now) c.args.body)) (λ name. name.items) c.args.names.now c.loop-name.name-index c.loop-name-test.true c.name-item.result c.name-item.is c.deref.result.now c.deref.ensures.value
    (map declared c.args.fresh.now.items) (map declared c.loop-name.fresh.items) (map declared c.declare_name.new.fresh.items) c.args.tx.now.conn.now c.loop-name.tx.conn.now c.declare_name.new.tx.conn.now (c.loop-name.invariant.so_far declares sees)
    c.in_err-declare_name.field-0.0 c.from_residual.result (search rules) (c.in_err-declare_name.ensures.declares declares sees f behind refl).asks (c.in_err-declare_name.ensures.err declares sees f behind)
