use Rattle.std.proofs.Common.{List, ap, ◌∙◌}
use Rattle.std.specs.Prelude.{slice_get}
use Rattle.couch_json.specs.Value.{Value}
use Rattle.selector.proofs.Places.{item_get}
use Rattle.selector.proofs.lookup.selector_at.Goals as goal

pub returns : goal.returns
returns c = item_get _ _ _ c.get.ensures.lookup ∙ ap (λ (selectors : List Value). slice_get selectors c.args.at) c.deref.ensures.value
