use Rattle.std.proofs.Common.{refl, sym}
use Rattle.auth.proofs.HeaderLemmas.{values_of-drop_named, values_of-drop_other, repeated, found_first}
use Rattle.auth.proofs.headers.sole_value.Goals as goal
use Rattle.auth.proofs.headers.sole_value.Goals.{then-is_named+else-is_some, else-is_named}

pub returns-then-is_some-clause-refused : goal.returns-then-is_some-clause-refused
returns-then-is_some-clause-refused g c =
    let named = values_of-drop_named g.N.AsSlice.items g.V.AsSlice.items c.args.name.now c.args.headers.now c.loop-header.header-index
    c.loop-header-item.result _ c.loop-header-test.true c.loop-header-item.is c.as_slice.ensures c.if-is_named.ensures in
    (refl, repeated c.loop-header.found _ _ _ _ (sym c.if-is_some.ensures) named c.loop-header.invariant)

pub loop-header-preserved : goal.loop-header-preserved
loop-header-preserved g c = elim c.if-is_named.branch [
  | then-is_named+else-is_some w ↦
      let named = values_of-drop_named g.N.AsSlice.items g.V.AsSlice.items c.args.name.now c.args.headers.now c.loop-header.header-index
      c.loop-header-item.result _ c.loop-header-test.true c.loop-header-item.is c.as_slice.ensures w.if-is_named.ensures in
      found_first c.loop-header.found _ w.as_slice-then-is_named.result _ _ _ _ (sym w.if-is_some.ensures) w.found-is
      w.as_slice-then-is_named.ensures named c.loop-header.invariant
  | else-is_named w ↦
      let other = values_of-drop_other g.N.AsSlice.items g.V.AsSlice.items c.args.name.now c.args.headers.now c.loop-header.header-index
      c.loop-header-item.result _ c.loop-header-test.true c.loop-header-item.is c.as_slice.ensures w.if-is_named.ensures in
      rw w.found-is (rw (← other) c.loop-header.invariant)
]
