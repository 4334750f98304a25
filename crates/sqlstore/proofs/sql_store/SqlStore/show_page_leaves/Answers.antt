use Rattle.sqlstore.proofs.Lemmas.{SeqRow, ap, below_again, map, ◌^◌, ◌∙◌}
use Rattle.sqlstore.proofs.sql_store.SqlStore.show_page_leaves.Goals as goal

pub returns-clause-bounded : goal.returns-clause-bounded
returns-clause-bounded g c =
    let number = λ (r : SeqRow). r.sequence in
    record {
      sequence = c.requires.sequence;
      last = c.requires.last;
      rows = below_again (2 ^ 63) c.args.page.rows.items c.in_ok-rows.rows.items (c.in_ok-rows.ensures.sequences ∙ ap (map number) c.deref.ensures.value) c.requires.rows;
      counted = c.requires.counted;
      counts = c.requires.counts;
    }
