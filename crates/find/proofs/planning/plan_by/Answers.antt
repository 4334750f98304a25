use Rattle.std.proofs.Common.{◌≡◌, true, sym, ap, subst, ◌∙◌}
use Rattle.store.specs.Indexes.{index_fields_of}
use Rattle.find.specs.inner.Planning.{Covers, IsInOrder}
use Rattle.find.proofs.planning.plan_by.Goals as goal

pub returns-clause-serves : goal.returns-clause-serves
returns-clause-serves c =
    let declared = rw c.in-Some.is at c.in_ok-fields.ensures in
    let covers = rw c.in-Some-2.is at c.in_ok-rows.ensures.covers in
    record {
      declared = ap (λ n. index_fields_of c.args.chosen.design c.args.chosen.history n) (sym c.as_str.ensures.value) ∙ sym declared;
      covers = subst (λ fs. Covers fs c.in-Some-2.rows.range c.args.query.now) c.deref.ensures.value covers;
    }

pub returns-clause-order : goal.returns-clause-order
returns-clause-order c =
    let order = rw c.in-Some-2.is at c.in_ok-rows.ensures.order in
    subst (λ fs. c.in-Some-2.rows.in_order ≡ true → IsInOrder fs c.in-Some-2.rows.range c.args.query.now) c.deref.ensures.value order
