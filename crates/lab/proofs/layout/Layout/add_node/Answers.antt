use Rattle.std.proofs.Common.{◌∙◌, ◌∷◌, [], ◌++◌, ℕ, List, ap, false, map, not, sym}
use Rattle.std.specs.Prelude.{is_some}
use Rattle.lab.proofs.JudgedLemmas.{fault_judged, judged_err, judged_memory}
use Rattle.lab.proofs.NamingLemmas.{named_push, none_of}
use Rattle.lab.specs.Naming.{named_of, value_named}
use Rattle.lab.specs.Stages.{nodes_of}
use Rattle.lab.proofs.layout.Layout.add_node.Goals as goal

pub returns-clause-added : goal.returns-clause-added
returns-clause-added g c = (
  none_of (value_named c.args.name.now (nodes_of c.args.self.now)) (sym (rw c.deref.ensures.value at c.has_name.ensures) ∙ c.if-has_name.false),
  (
    c.in_ok-value.value,
    c.in_ok-value.ensures.made,
    ap (map named_of) c.in_ok-push.ensures.items ∙ named_push c.args.self.now.stores.items (record { name = c.in_ok-name.name; value = c.in_ok-value.value })
        ∙ ap (λ (n : List ℕ). nodes_of c.args.self.now ++ record { name = n; value = c.in_ok-value.value } ∷ []) c.in_ok-name.ensures.items,
  ),
)

pub returns-in_err-name-clause-judged : goal.returns-in_err-name-clause-judged
returns-in_err-name-clause-judged g c = judged_memory false (not (is_some (value_named c.args.name.now (nodes_of c.args.self.now)))) c.from_residual.result c.from_residual.ensures.1

pub returns-in_err-value-clause-judged : goal.returns-in_err-value-clause-judged
returns-in_err-value-clause-judged g c =
    let can = not (is_some (value_named c.args.name.now (nodes_of c.args.self.now))) in
    let fault = c.in_err-value.field-0.0 in
    judged_err false can fault c.from_residual-in_err-value.result c.from_residual-in_err-value.ensures.1
    (fault_judged false can fault c.in_err-value.ensures.faults (ap not (sym (rw c.deref.ensures.value at c.has_name.ensures) ∙ c.if-has_name.false)))

pub returns-in_err-push-clause-judged : goal.returns-in_err-push-clause-judged
returns-in_err-push-clause-judged g c =
    judged_memory false (not (is_some (value_named c.args.name.now (nodes_of c.args.self.now)))) c.from_residual-in_err-push.result c.from_residual-in_err-push.ensures.1
