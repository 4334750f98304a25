use Rattle.index.proofs.Common.{List, Ok, [], ap, arith, declared_by, decls_tree, length, map, map-append, option_map, refl, rules, state, subst, sym, take, take_all, take_more, ℕ, ◌++◌, ◌+◌, ◌∙◌, ◌∷◌, ◌≡◌}
use Rattle.couch_json.specs.Value.{Value}
use Rattle.couch_json.specs.View.{view}
use Rattle.index.proofs.RebuildSteps.{clearing_failed, clearing_refused, name_cleared}
use Rattle.index.proofs.Rebuilt.{cleared_none}
use Rattle.index.proofs.StepLemmas.{steps_none, steps_so}
use Rattle.index.specs.Declaring.{IsRebuildable}
use Rattle.index.specs.Meaning.{declared_if}
use Rattle.index.specs.Rebuilding.{AreCleared}
use Rattle.std.proofs.Common.{◌≤◌}
use Rattle.index.proofs.rebuilding.clear_names.Goals as goal

pub loop-name-init : goal.loop-name-init
loop-name-init g c = record {
  same = refl;
  so_far = λ declares sees.
      let f = declared_if (option_map {U = Value} (λ v. view v.now) c.args.body) in
      steps_none g.S.Store (IsRebuildable declares sees c.args.db.now) (AreCleared declares sees c.args.db.now c.args.design.now f []) c.args.tx.now.conn.now (Ok tt)
      (λ fit. cleared_none declares sees c.args.db.now c.args.design.now f (state g.S.Store c.args.tx.now.conn.now).now fit) tt;
}

pub loop-name-preserved : goal.loop-name-preserved
loop-name-preserved g c =
    let i = c.loop-name.name-index in
    let cut : map {B = List ℕ} (λ name. name.items) (take (i + 1) c.args.names.now) ≡ map {B = List ℕ} (λ name. name.items) (take i c.args.names.now) ++ c.name-item.result.items ∷ [] =
    ap (map (λ name. name.items)) (take_more c.args.names.now i c.name-item.result c.loop-name-test.true ∙ (λ j. take i c.args.names.now ++ sym c.name-item.is j ∷ []))
    ∙ map-append (λ name. name.items) (take i c.args.names.now) (c.name-item.result ∷ []) in
    record {
      same = c.in_ok-clear_name.ensures.same_reference ∙ c.loop-name.invariant.same;
      so_far = λ declares sees.
          name_cleared g.S.Store declares sees c.args.db.now c.args.design.now (declared_if (option_map {U = Value} (λ v. view v.now) c.args.body)) (map (λ name. name.items) (take c.loop-name.name-index c.args.names.now)) c.args.tx.now.conn.now c.loop-name.tx.conn.now c.clear_name.new.tx.conn.now c.deref.result.now (c.loop-name.invariant.so_far declares sees)
          (map {B = List ℕ} (λ name. name.items) (take (i + 1) c.args.names.now)) c.name-item.result.items c.deref.ensures.value cut (c.in_ok-clear_name.ensures.clears (declared_by ((state g.S.Store c.loop-name.tx.conn.now).now.trees decls_tree)) sees);
    }

pub returns-in_err-clear_name-clause-clears : goal.returns-in_err-clear_name-clause-clears
returns-in_err-clear_name-clause-clears g c declares sees =
    clearing_failed g.S.Store declares sees c.args.db.now c.args.design.now (declared_if (option_map {U = Value} (λ v. view v.now) c.args.body)) (map (λ name. name.items) (take c.loop-name.name-index c.args.names.now)) c.args.tx.now.conn.now c.loop-name.tx.conn.now c.clear_name.new.tx.conn.now
    c.deref.result.now (c.loop-name.invariant.so_far declares sees)
    (map {B = List ℕ} (λ name. name.items) c.args.names.now) c.in_err-clear_name.field-0.0 c.from_residual.result (search rules) (c.in_err-clear_name.ensures.clears (declared_by ((state g.S.Store c.loop-name.tx.conn.now).now.trees decls_tree)) sees)

pub returns-clause-clears : goal.returns-clause-clears
returns-clause-clears g c declares sees =
    let a = c.args.tx.now.conn.now in
    let b = c.loop-name.tx.conn.now in
    let db = c.args.db.now in
    let design = c.args.design.now in
    let f = declared_if (option_map {U = Value} (λ v. view v.now) c.args.body) in
    let i = c.loop-name.name-index in
    let none : length c.args.names.now ≤ i = omega (arith, c.loop-name-test.false) in
    let done : List (List ℕ) = map (λ name. name.items) (take i c.args.names.now) in
    steps_so g.S.Store (IsRebuildable declares sees db) (AreCleared declares sees db design f done) (AreCleared declares sees db design f (map {B = List ℕ} (λ name. name.items) c.args.names.now)) a b (Ok tt) (c.loop-name.invariant.so_far declares sees)
    (λ fit made. subst (λ l. AreCleared declares sees db design f (map {B = List ℕ} (λ name. name.items) l) (state g.S.Store a).now (state g.S.Store b).now) (take_all i c.args.names.now none) made)

pub returns-in_err-clear_name-clause-err : goal.returns-in_err-clear_name-clause-err
returns-in_err-clear_name-clause-err g c declares sees =
    let now = declared_by ((state g.S.Store c.loop-name.tx.conn.now).now.trees decls_tree) in
    clearing_refused g.S.Store declares sees c.args.db.now c.args.design.now (declared_if (option_map {U = Value} (λ v. view v.now) c.args.body)) (map (λ name. name.items) (take c.loop-name.name-index c.args.names.now)) c.args.tx.now.conn.now c.loop-name.tx.conn.now c.clear_name.new.tx.conn.now
    c.deref.result.now (c.loop-name.invariant.so_far declares sees)
    c.in_err-clear_name.field-0.0 c.from_residual.result (search rules) (c.in_err-clear_name.ensures.clears now sees).asks (c.in_err-clear_name.ensures.err now sees)
