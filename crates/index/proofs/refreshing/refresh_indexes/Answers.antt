use Rattle.index.proofs.Common.{ChangesOnly, HasCleanDisk, ap, arith, declared, drop, entries_tree, length, map, option_map, proceeds_then, refl, state, subst, sym, ◌+◌, ◌∙◌, ◌∷◌, ◌≡◌}
use Rattle.std.proofs.Common.{◌≤◌}
use Rattle.std.proofs.lemmas.List.{drop_all, drop_more}
use Rattle.couch_json.specs.Value.{Value}
use Rattle.couch_json.specs.View.{view}
use Rattle.index.proofs.Following.{IsOnTheWay, begins, ends, steps}
use Rattle.index.proofs.Going.{only_itself, only_then, proceeds_itself}
use Rattle.index.proofs.refreshing.refresh_indexes.Goals as goal

pub loop-declaration-init : goal.loop-declaration-init
loop-declaration-init g c =
    let old = state g.S.Store c.args.tx.now.conn.now in
    let seen = option_map {U = Value} (λ v. view v.now) c.args.after in
    record {
      same = refl;
      proceeds = proceeds_itself old;
      goes_on = λ clean up inside. (up, inside);
      so_far = λ clean has decls sees was. (
        subst (λ ds. IsOnTheWay c.args.db.now c.args.id.now sees seen decls ds (old.now.trees entries_tree)) (sym was.own) (begins c.args.db.now c.args.id.now sees seen decls (old.now.trees entries_tree) was.laid was.due),
        only_itself entries_tree old.now,
      );
    }

pub loop-declaration-preserved : goal.loop-declaration-preserved
loop-declaration-preserved g c =
    let inv = c.loop-declaration.invariant in
    let old = state g.S.Store c.args.tx.now.conn.now in
    let mid = state g.S.Store c.loop-declaration.tx.conn.now in
    let new = state g.S.Store c.refresh_index.new.tx.conn.now in
    let e = c.in_ok-refresh_index.ensures in
    let ds = c.args.declarations.now in
    let i = c.loop-declaration.declaration-index in
    let d = c.declaration-item.result in
    let seen = option_map {U = Value} (λ v. view v.now) c.args.after in
    let cut : map declared (drop i ds) ≡ declared d ∷ map declared (drop (i + 1) ds) =
    ap (map declared) (drop_more ds i d c.loop-declaration-test.true ∙ (λ j. sym c.declaration-item.is j ∷ drop (i + 1) ds)) in
    record {
      same = e.same_reference ∙ inv.same;
      proceeds = proceeds_then old mid new inv.proceeds e.proceeds;
      goes_on = λ clean up inside.
          let was : HasCleanDisk mid = omega (arith, e.proceeds.survives.clean, clean) in
          let before = inv.goes_on was up inside in
          e.goes_on clean before.0 before.1;
      so_far = λ clean has decls sees was.
          let still : HasCleanDisk mid = omega (arith, e.proceeds.survives.clean, clean) in
          let before = inv.so_far still has decls sees was in
          let made =
          steps c.args.db.now c.args.id.now sees seen decls {P = ChangesOnly entries_tree mid.now new.now} (declared d) (map declared (drop (i + 1) ds)) (mid.now.trees entries_tree) (new.now.trees entries_tree) _ was.now
          (λ due a b. let x = e.replaces clean (before.1.schema ∙ has) due a b in (x.entries, x.only))
          (subst (λ l. IsOnTheWay c.args.db.now c.args.id.now sees seen decls l (mid.now.trees entries_tree)) cut before.0) in
          (made.0, only_then entries_tree old.now mid.now new.now before.1 made.1);
    }

pub returns-clause-follows : goal.returns-clause-follows
returns-clause-follows g c clean has decls sees was =
    let now = state g.S.Store c.loop-declaration.tx.conn.now in
    let ds = c.args.declarations.now in
    let i = c.loop-declaration.declaration-index in
    let seen = option_map {U = Value} (λ v. view v.now) c.args.after in
    let none : length ds ≤ i = omega (arith, c.loop-declaration-test.false) in
    let done = c.loop-declaration.invariant.so_far clean has decls sees was in
    record {
      entries = ends c.args.db.now c.args.id.now sees seen decls (now.now.trees entries_tree)
          (subst (λ l. IsOnTheWay c.args.db.now c.args.id.now sees seen decls (map declared l) (now.now.trees entries_tree)) (drop_all i ds none) done.0);
      only = done.1;
    }
