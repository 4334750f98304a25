use Rattle.std.proofs.Common.{◌≡◌, length, ◌∙◌, rules}
use Rattle.store.proofs.KeyPlaces.{all_placed, one_placed}
use Rattle.store.proofs.PageStructs.{no_length}
use Rattle.store.proofs.plain_index_pages.list_places.Goals as goal

pub loop-id-preserved : goal.loop-id-preserved
loop-id-preserved c =
    one_placed c.args.fields.now c.loop-id.documents.items c.pop.new.self.items c.in-Some.id c.in-Some.document c.loop-id.index.entries c.put_in_index.new.index.entries c.in-Some.ensures.items
    c.in_ok-put_in_index.ensures.ok
    ∙ c.loop-id.invariant

pub returns : goal.returns
returns c =
    let count : length c.loop-id.documents.items ≡ 0 = search rules in
    c.in_ok-list_index_rows.ensures ∙ all_placed c.args.fields.now c.loop-id.documents.items c.args.documents.items c.loop-id.index.entries (no_length c.loop-id.documents.items count) c.loop-id.invariant
