use Rattle.index.proofs.Common.{None, Option, ap, rules, sym, true, ◌∙◌, ◌≡◌}
use Rattle.index.proofs.KeyBounds.{none_below}
use Rattle.store.specs.KeyPages.{is_above}
use Rattle.store.specs.declared.index_page.KeyCut.{KeyCut}
use Rattle.index.proofs.bounds.low_bound.Goals as goal

pub returns-in-None : goal.returns-in-None
returns-in-None c =
    let none : c.args.range.now.low ≡ None = search rules in
    λ v lawful. none_below v c.new.result.items c.new.ensures.items ∙ sym (ap (λ (o : Option KeyCut). is_above true o v) none)
