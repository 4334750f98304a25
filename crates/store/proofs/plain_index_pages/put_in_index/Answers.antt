use Rattle.std.proofs.Common.{◌≡◌, Some, ◌∙◌, rules}
use Rattle.std.specs.FinMap.{put}
use Rattle.couch_json.specs.View.{items_view, view}
use Rattle.store.specs.Indexes.{field_values, place_order, queried_document}
use Rattle.store.proofs.KeyPlaces.{document_placed}
use Rattle.store.proofs.plain_index_pages.put_in_index.Goals as goal

pub returns : goal.returns
returns c =
    let document = c.in-Some.document in
    let values = items_view c.in-Some-2.values.items in
    let shown : Some (view c.in-Some.document) ≡ queried_document c.args.id c.args.history.now = search rules in
    let has : Some (items_view c.in-Some-2.values.items) ≡ field_values c.args.fields.now (view c.in-Some.document) = search rules in
    let row = c.new.ensures ∙ (λ i. record { key = c.make_key.ensures i; id = c.args.id }) in
    record {
      ok = document_placed c.args.fields.now c.args.id (queried_document c.args.id c.args.history.now) document values c.args.index.now.entries c.put_sorted.new.entries.entries shown has
          (c.in_ok-put_sorted.ensures.ok ∙ (λ i. put place_order (row i) document c.args.index.now.entries));
    }
