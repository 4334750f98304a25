use Rattle.std.proofs.Common.{length, not, refl, sym}
use Rattle.std.specs.FinMap.{get}
use Rattle.std.specs.Prelude.{is_some, true}
use Rattle.std.proofs.lemmas.Option.{slice_get_read}
use Rattle.lab.proofs.NamingLemmas.{is_at, value_named-none}
use Rattle.lab.proofs.JudgedLemmas.{judged_as}
use Rattle.lab.proofs.PlayLemmas.{OnOk-then}
use Rattle.lab.specs.Stages.{nodes_of}
use Rattle.lab.specs.Stopping.{can_add}
use Rattle.lab.proofs.layout.Layout.add_database.Goals as goal

pub returns-clause-added : goal.returns-clause-added
returns-clause-added g c =
    let stores = c.args.self.now.stores in
    let e = c.index_mut.result.now in
    let at = is_at stores.items c.args.node.now c.in-Some.place e (rw c.deref.ensures.value at (sym c.in-Some.ensures.place))
    (slice_get_read stores.items (length stores.items) c.in-Some.place e refl (rw c.deref.ensures.value at c.in-Some.ensures.within) c.index_mut.ensures.value) in
    OnOk-then c.open_to_all.result c.open_to_all.ensures.made (λ more. (e.value, at.value, (c.open_to_all.new.store, more, at.changed c.open_to_all.new.store)))

pub returns-in_default-clause-judged : goal.returns-in_default-clause-judged
returns-in_default-clause-judged g c =
    let none = value_named-none 0 c.args.node.now (nodes_of c.args.self.now) (rw c.deref.ensures.value at (sym c.in_default.ensures.place)) in
    rw none refl

pub returns-clause-judged : goal.returns-clause-judged
returns-clause-judged g c =
    let stores = c.args.self.now.stores in
    let e = c.index_mut.result.now in
    let at = is_at stores.items c.args.node.now c.in-Some.place e (rw c.deref.ensures.value at (sym c.in-Some.ensures.place))
    (slice_get_read stores.items (length stores.items) c.in-Some.place e refl (rw c.deref.ensures.value at c.in-Some.ensures.within) c.index_mut.ensures.value) in
    let there = at.value in
    judged_as true (not (is_some (get (g.S.Store.contents e.value) c.args.name.now))) (can_add g.S.Store (nodes_of c.args.self.now) c.args.node.now c.args.name.now) c.open_to_all.result
    (rw there refl) c.open_to_all.ensures.judged
