use Rattle.std.proofs.Common.{◌≡◌, ◌+◌, ◌++◌, ◌∷◌, [], take, arith}
use Rattle.std.proofs.lemmas.Grind.{common_steps}
use Rattle.selector.proofs.Sets.{among-copied, pushed}
use Rattle.selector.proofs.value_set.copy_onto.Goals as goal

pub loop-item-preserved : goal.loop-item-preserved
loop-item-preserved c =
    let l = c.loop-item in
    let items = c.args.items.now in
    let x = c.item-item.result in
    let done = take l.item-index items in
    let steps : take (l.item-index + 1) items ≡ done ++ x ∷ [] = grind (arith, common_steps) in
    λ v. among-copied v _ l.values.items _ done _ x steps (pushed v l.values.items _ x _ c.in_ok-push.ensures.items c.in_ok-copy.ensures) (l.invariant v)
