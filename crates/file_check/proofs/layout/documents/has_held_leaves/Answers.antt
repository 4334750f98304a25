use Rattle.std.proofs.Common.{ap, sym, ◌∙◌}
use Rattle.std.specs.List.{list_all}
use Rattle.std.specs.Prelude.{is_some}
use Rattle.tree.specs.History.{held_of}
use Rattle.file_check.proofs.Leaves.{held_leaves}
use Rattle.file_check.proofs.layout.documents.has_held_leaves.Goals as goal

pub returns : goal.returns
returns c =
    let is = c.are_held.ensures ∙ ap (list_all (λ r. is_some (held_of c.args.history.now r))) (c.deref.ensures.value ∙ c.in_ok-leaves.ensures) in
    let k = held_leaves c.args.history.now in
    ((λ held. k.0 (sym is ∙ held)), (λ held. is ∙ k.1 held))
