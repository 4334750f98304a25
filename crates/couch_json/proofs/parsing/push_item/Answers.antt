use Rattle.std.proofs.Common.{Some, ◌++◌, ◌∷◌, [], option_map, sym, ap, ap₂, ◌∙◌}
use Rattle.couch_json.specs.inner.Parsing.{with_item}
use Rattle.couch_json.specs.View.{view, items_view}
use Rattle.couch_json.proofs.TokensRead.{items_view-push}
use Rattle.couch_json.proofs.parsing.push_item.Goals as goal

pub returns-clause-pushed : goal.returns-clause-pushed
returns-clause-pushed c =
    ap (λ vs. Some (items_view vs)) (c.in_ok-push.ensures.items ∙ ap (λ vs. vs ++ c.in-Some-item.item ∷ []) c.in_ok-make_room.ensures) ∙ ap Some (items_view-push c.in-Some.items.items c.in-Some-item.item)
    ∙ sym (ap₂ (λ items item. with_item (option_map (λ vs. items_view vs.items) items) (option_map view item)) c.in-Some.is c.in-Some-item.is)
