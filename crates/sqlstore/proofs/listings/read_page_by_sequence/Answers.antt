use Rattle.sqlstore.proofs.Lemmas.{Some, ap, map, sequence_page, sequence_row, sequence_rows, sym, ◌∙◌, ◌≡◌}
use Rattle.sqlstore.proofs.listings.read_page_by_sequence.Goals as goal

pub returns-clause-page : goal.returns-clause-page
returns-clause-page c =
    let said = c.in_ok-read.ensures.read in
    let is : map sequence_row c.args.rows.items ≡ sequence_rows c.in_ok-read.read.items = cc in
    sym (ap Some (c.cut_by_sequence.ensures.page ∙ ap (sequence_page c.args.range.now c.args.sequence c.args.counts) (sym is)))
