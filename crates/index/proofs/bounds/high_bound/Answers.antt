use Rattle.index.proofs.Common.{None, Option, ap, false, rules, sym, ◌∙◌, ◌≡◌}
use Rattle.index.proofs.KeyBounds.{any_ok, none_above}
use Rattle.store.specs.KeyPages.{is_above}
use Rattle.store.specs.declared.index_page.KeyCut.{KeyCut}
use Rattle.index.proofs.bounds.high_bound.Goals as goal

pub returns-in-None : goal.returns-in-None
returns-in-None c =
    let none : c.args.range.now.high ≡ None = search rules in
    any_ok c.above_all.result (λ bound is v lawful. none_above v bound.items is ∙ sym (ap (λ (o : Option KeyCut). is_above false o v) none)) c.above_all.ensures
