use Rattle.sqlstore.proofs.Lemmas.{if_enough_by_sequence, listed_by_sequence, to_z-of_z, trees_of, w64, ◌∙◌}
use Rattle.sqlstore.proofs.sql_store.SqlStore.rows_for_page_by_sequence.Goals as goal

pub returns : goal.returns
returns g c = record {
  found = λ honest.
      if_enough_by_sequence c.rows_after.result (λ rows. rows.items) c.args.range.now _ _ c.limit_of.result
      (to_z-of_z {w = w64} {z = c.integer_of.result} (record { sfits = c.integer_of.type_inv }) ∙ c.integer_of.ensures)
      (to_z-of_z {w = w64} {z = c.limit_of.result} (record { sfits = c.limit_of.type_inv })) c.limit_of.ensures
      (listed_by_sequence (trees_of g.S.Store c.args.self.now) c.args.number.now) (c.rows_after.ensures.found honest);
  judged = c.rows_after.ensures.judged;
  stands = c.rows_after.ensures.stands;
}
