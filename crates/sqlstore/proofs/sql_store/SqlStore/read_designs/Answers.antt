use Rattle.sqlite_keyed.proofs.ListLemmas.{all-append}
use Rattle.std.proofs.lemmas.List.{take_all, take_more}
use Rattle.sqlstore.proofs.Common.{take}
use Rattle.sqlstore.proofs.Lemmas.{AllByRecursion, Trees, [], ap, arith, map, map-append, refl, stands_same, stands_then, subst, sym, trees_of, was_honest, ◌++◌, ◌∙◌, ◌∷◌}
use Rattle.sqlstore.specs.inner.Designs.{IsDesign, row_of_design}
use Rattle.sqlstore.proofs.sql_store.SqlStore.read_designs.Goals as goal

pub loop-row-init : goal.loop-row-init
loop-row-init g c =
    let trees = trees_of g.S.Store c.args.self.now in
    record {
      stands = record { origin = refl; last = refl; counted = omega arith; clean = λ clean. clean };
      rows = ap (map row_of_design) c.in_ok-designs.ensures.items;
      so_far = λ honest. subst (AllByRecursion (IsDesign trees c.args.number.now)) (sym c.in_ok-designs.ensures.items) tt;
    }

pub loop-row-preserved : goal.loop-row-preserved
loop-row-preserved g c =
    let s = c.args.self.now in
    let mid = c.loop-row.self in
    let end = c.read_design.new.self in
    let n = c.args.number.now in
    let trees = trees_of g.S.Store s in
    let rows = c.args.rows.now in
    let i = c.loop-row.row-index in
    let row = c.row-item.result in
    let one = c.in_ok-design.design in
    let so_far = c.loop-row.designs.items in
    let inv = c.loop-row.invariant in
    let e = c.in_ok-design.ensures in
    record {
      stands = stands_then g.S.Store s mid end inv.stands e.stands;
      rows =
          ap (map row_of_design) c.in_ok-push.ensures.items ∙ map-append row_of_design so_far (one ∷ [])
          ∙ (λ j. inv.rows j ++ e.row j ∷ [])
          ∙ sym (take_more rows i row c.loop-row-test.true ∙ (λ j. take i rows ++ sym c.row-item.is j ∷ []));
      so_far = λ honest.
          subst (AllByRecursion (IsDesign trees n)) (sym c.in_ok-push.ensures.items)
          (all-append (IsDesign trees n) so_far (one ∷ []) (inv.so_far (was_honest g.S.Store mid end e.stands honest))
          (subst (λ (t : Trees). IsDesign t n one) (stands_same g.S.Store s mid inv.stands) (e.design honest), tt));
    }

pub returns-clause-rows : goal.returns-clause-rows
returns-clause-rows g c =
    c.loop-row.invariant.rows ∙ take_all c.loop-row.row-index c.args.rows.now (omega (arith, c.loop-row-test.false))
