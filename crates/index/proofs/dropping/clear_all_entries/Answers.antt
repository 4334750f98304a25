use Rattle.index.proofs.Common.{Declared, HasCleanDisk, HasEntries, List, [], ap, arith, declared, entries_tree, length, map, map-append, proceeds_then, refl, state, subst, sym, take, take_all, take_more, without_numbers, ℤ, ◌++◌, ◌+◌, ◌∙◌, ◌∷◌, ◌≡◌}
use Rattle.std.proofs.Common.{◌≤◌}
use Rattle.index.proofs.Dropped.{clears_none, clears_one}
use Rattle.index.proofs.Going.{has_after, has_changed, has_itself, proceeds_itself}
use Rattle.index.proofs.dropping.clear_all_entries.Goals as goal

pub loop-declaration-init : goal.loop-declaration-init
loop-declaration-init g c =
    let old = state g.S.Store c.args.tx.now.conn.now in
    record {
      same = refl;
      proceeds = proceeds_itself old;
      goes_on = λ clean up inside. (up, inside);
      so_far = λ clean has due h. has_itself (without_numbers due []) old.now (clears_none due (old.now.trees entries_tree) h);
    }

pub loop-declaration-preserved : goal.loop-declaration-preserved
loop-declaration-preserved g c =
    let old = state g.S.Store c.args.tx.now.conn.now in
    let mid = state g.S.Store c.loop-declaration.tx.conn.now in
    let new = state g.S.Store c.clear_entries.new.tx.conn.now in
    let e = c.in_ok-clear_entries.ensures in
    let ds = c.args.declarations.now in
    let i = c.loop-declaration.declaration-index in
    let number : Declared → ℤ = λ x. x.number in
    let before : List ℤ = map number (map declared (take i ds)) in
    let cut : map number (map declared (take (i + 1) ds)) ≡ before ++ (declared c.declaration-item.result).number ∷ [] =
    ap (λ l. map number (map declared l)) (take_more ds i c.declaration-item.result c.loop-declaration-test.true ∙ (λ j. take i ds ++ sym c.declaration-item.is j ∷ []))
    ∙ ap (map number) (map-append declared (take i ds) (c.declaration-item.result ∷ [])) ∙ map-append number (map declared (take i ds)) (declared c.declaration-item.result ∷ []) in
    record {
      same = e.same_reference ∙ c.loop-declaration.invariant.same;
      proceeds = proceeds_then old mid new c.loop-declaration.invariant.proceeds e.alters.proceeds;
      goes_on = λ clean up inside. let it = e.alters.inside clean in (it.is_open, it.inside);
      so_far = λ clean has due h.
          let was : HasCleanDisk mid = omega (arith, e.alters.proceeds.survives.clean, clean) in
          let so = c.loop-declaration.invariant.so_far was has due h in
          let change = e.alters.ok clean (so.only.schema ∙ has) so.entries.laid in
          subst (λ ns. HasEntries (without_numbers due ns) old.now new.now) (sym cut)
          (has_after _ old.now mid.now new.now so.only (has_changed (without_numbers due (before ++ (declared c.declaration-item.result).number ∷ [])) _ mid.now new.now (clears_one due before (declared c.declaration-item.result).number (mid.now.trees entries_tree) so.entries) change));
    }

pub returns-clause-clears : goal.returns-clause-clears
returns-clause-clears g c clean has due h =
    let old = state g.S.Store c.args.tx.now.conn.now in
    let now = state g.S.Store c.loop-declaration.tx.conn.now in
    let ds = c.args.declarations.now in
    let i = c.loop-declaration.declaration-index in
    let none : length ds ≤ i = omega (arith, c.loop-declaration-test.false) in
    subst (λ l. HasEntries (without_numbers due (map (λ (d : Declared). d.number) (map declared l))) old.now now.now) (take_all i ds none) (c.loop-declaration.invariant.so_far clean has due h)
