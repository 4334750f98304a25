use Rattle.transactions.proofs.Lemmas.{HasCleanDisk, IsBest, IsPlaced, addition_of, ap, arith, ancestors_of_parent, entries_of, proceeds_then, revs_keyed, rules, state, string_bytes, subst, sym, unknown_in, with_addition, with_write, ◌++◌, ◌∙◌, ◌≡◌}
use Rattle.transactions.proofs.Common.{docs_tree, is_row_of_document, not}
use Rattle.std.specs.List.{list_any}
use Rattle.transactions.proofs.DocumentWriting.{docs_fit, placed_write, row_there, schema_after, stays_on}
use Rattle.transactions.proofs.document_write.insert_write.Goals as goal

pub returns-clause-puts : goal.returns-clause-puts
returns-clause-puts g c = record {
  ok = λ clean store serves.
      let old = state g.S.Store c.args.tx.now.conn.now in
      let inserted = state g.S.Store c.insert_revisions.new.tx.conn.now in
      let placed = state g.S.Store c.place_document.new.tx.conn.now in
      let first : HasCleanDisk inserted = omega (arith, c.place_document.ensures.proceeds.survives.clean, clean) in
      let db = c.args.db.now in
      let text = c.as_str-2.result.now in
      let deleted = c.in_ok-text.deleted in
      let k = c.args.history.now in
      let a = addition_of c.args.write.now in
      let es = unknown_in k (entries_of k a) in
      let revisions = c.in_ok-insert_revisions.ensures.ok first store.schema_is (revs_keyed old.now.trees store.laid) in
      let after : c.put.new.self ≡ with_addition k a =
      c.in_ok-put.ensures.ok ∙ ap (λ path. with_write k (record { path = path ++ ancestors_of_parent k a.parent; deleted = a.deleted; body = a.body })) c.deref.ensures.value in
      let best : IsBest (with_addition k a) text deleted =
      subst (λ t. IsBest (with_addition k a) t deleted) (sym c.as_str-2.ensures.value)
      (subst (λ h. IsBest h (string_bytes c.in_ok-text.text) deleted) after c.in_ok-text.ensures.ok) in
      let named = c.as_bytes-id.ensures.value ∙ c.as_str.ensures.text in
      let there : list_any (is_row_of_document db c.as_bytes-id.result.now) (inserted.now.trees docs_tree) ≡ not c.is_none-is_new.result =
      ap (λ i. list_any (is_row_of_document db i) (inserted.now.trees docs_tree)) named
      ∙ row_there es db a.id old.now inserted.now store revisions ∙ sym serves.begins ∙ search rules in
      let document = subst (λ i. IsPlaced db i c.args.sequence.now text deleted inserted.now placed.now) named
      (c.in_ok-place_document.ensures.ok clean (schema_after es db a.id old.now inserted.now store revisions) (docs_fit es db a.id old.now inserted.now store revisions) there) in
      placed_write k a text deleted db c.args.sequence.now old.now inserted.now placed.now serves revisions best document;
  err = tt;
  lawful = c.in_ok-insert_revisions.ensures.lawful;
  inside = stays_on (state g.S.Store c.args.tx.now.conn.now) (state g.S.Store c.insert_revisions.new.tx.conn.now) (state g.S.Store c.place_document.new.tx.conn.now) c.in_ok-insert_revisions.ensures.proceeds
      c.in_ok-place_document.ensures.proceeds c.in_ok-place_document.ensures.inside;
  proceeds = proceeds_then (state g.S.Store c.args.tx.now.conn.now) (state g.S.Store c.insert_revisions.new.tx.conn.now) (state g.S.Store c.place_document.new.tx.conn.now) c.in_ok-insert_revisions.ensures.proceeds
      c.in_ok-place_document.ensures.proceeds;
}
