use Rattle.std.proofs.Common.{◌&&◌, ◌||◌, not, sym, ap, ◌∙◌}
use Rattle.std.proofs.lemmas.Result.{IfOk-weaker}
use Rattle.selector.specs.Lookup.{comparison_meets, set_has}
use Rattle.selector.specs.Truth.{meets}
use Rattle.selector.specs.declared.operator.ValueOperator.TheVariants.{IsIn}
use Rattle.selector.specs.declared.value_set.Comparison.{Comparison}
use Rattle.selector.proofs.Decided.{not_not}
use Rattle.selector.proofs.value_set.ValueSet.add_failing.Goals as goal

pub returns-in-IsNotAmong : goal.returns-in-IsNotAmong
returns-in-IsNotAmong c =
    let set = c.args.self.now in
    IfOk-weaker c.add_all.result _ _
    (λ added h v. h v ∙ ap (λ b. (added && b) || set_has set v) (not_not (meets IsIn c.in-IsNotAmong.members.now v))
    ∙ ap (λ (k : Comparison). (added && not (comparison_meets k v)) || set_has set v) (sym c.in-IsNotAmong.is))
    c.add_all.ensures
