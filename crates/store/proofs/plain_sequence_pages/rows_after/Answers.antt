use Rattle.std.proofs.Common.{◌≡◌, filter, nat_lt, ap, ◌∙◌, rules}
use Rattle.std.proofs.lemmas.Fn.{filter_same}
use Rattle.store.specs.Pages.{up_to_limit}
use Rattle.store.specs.PageStructs.{sequence_rows}
use Rattle.store.proofs.PageStructs.{sequence_rows-filter, sequence_rows-limited}
use Rattle.store.proofs.plain_sequence_pages.rows_after.Goals as goal

pub returns : goal.returns
returns c =
    let since = c.args.range.now.since in
    let limit = c.args.range.now.limit in
    let later : c.retain.new.self.items ≡ filter (λ r. nat_lt c.args.range.now.since r.sequence) c.args.rows.items = filter_same _ (λ r. nat_lt since r.sequence) _ (λ x r f' k. search rules) _ _ c.retain.ensures.filtered in
    ap sequence_rows (c.cut_to_limit.ensures ∙ ap (up_to_limit limit) later) ∙ sequence_rows-limited limit (filter (λ r. nat_lt since r.sequence) c.args.rows.items)
    ∙ ap (up_to_limit limit) (sequence_rows-filter since c.args.rows.items)
