use Rattle.std.proofs.Common.{◌≡◌, ◌+◌, ◌++◌, ◌∷◌, [], false, take, replicate, ap, ◌∙◌, arith, rules}
use Rattle.std.proofs.lemmas.Grind.{common_steps}
use Rattle.selector.proofs.Marks.{marks-none, step-found, step-missed}
use Rattle.selector.proofs.members.mark_found.Goals.{in-Ok, in-Err}
use Rattle.selector.proofs.members.mark_found.Goals as goal

pub loop-item-init : goal.loop-item-init
loop-item-init c =
    c.fill.ensures.after (λ y same. search (rules, same)) ∙ ap (λ n. replicate n false) c.requires.len ∙ marks-none c.args.values.now

pub loop-item-preserved : goal.loop-item-preserved
loop-item-preserved c =
    let l = c.loop-item in
    let xs = c.args.values.now in
    let items = c.args.items.now in
    let x = c.item-item.result in
    let done = take l.item-index items in
    let more = take (l.item-index + 1) items in
    let steps : more ≡ done ++ x ∷ [] = grind (arith, common_steps) in
    elim c.match-find.branch [
      | in-Ok w ↦ step-found xs done more x l.marks c.match-find.marks c.find.result w.in-Ok.at c.requires.ascending steps l.invariant w.marks-is w.in-Ok.is c.find.ensures.place
      | in-Err w ↦ step-missed xs done more x l.marks c.match-find.marks c.find.result w.in-Err._at steps l.invariant w.marks-is w.in-Err.is c.find.ensures.among
    ]
