use Rattle.std.proofs.Common.{ap, ◌∙◌}
use Rattle.store.specs.Pages.{last_sequence}
use Rattle.store.specs.PageStructs.{sequence_rows}
use Rattle.store.proofs.PageCuts.{cut_bounded, cut_made}
use Rattle.store.proofs.PageStructs.{smaller}
use Rattle.store.proofs.plain_sequence_pages.cut_by_sequence.Goals as goal

pub returns-clause-page : goal.returns-clause-page
returns-clause-page c =
    let range = c.args.range.now in
    let least = c.min.ensures ∙ smaller range.since c.args.sequence in
    let last = c.find_last_sequence-last_seq.ensures ∙ ap (λ m. last_sequence m (sequence_rows c.rows_after-rows.result.items)) least in
    cut_made range c.args.sequence c.find_last_sequence-last_seq.result c.args.counts (sequence_rows c.args.rows.items) (sequence_rows c.rows_after-rows.result.items) c.rows_after-rows.ensures last

pub returns-clause-bounded : goal.returns-clause-bounded
returns-clause-bounded c bounded = cut_bounded c.args.range.now c.args.sequence c.args.counts c.args.rows.items _ (returns-clause-page c) bounded
