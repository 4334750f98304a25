use Rattle.std.proofs.Common.{◌≡◌, ◌+◌, ◌<◌, ◌≤◌, filter, length, min, is_some, refl, ap, ◌∙◌, rules, arith}
use Rattle.store.specs.Pages.{is_within, up_to_limit}
use Rattle.store.proofs.PageStructs.{counted_within, counts_fit, id_page_made, is_counted, smaller}
use Rattle.store.proofs.plain_id_pages.cut_by_id.Goals as goal

pub returns-clause-page : goal.returns-clause-page
returns-clause-page c =
    let range = c.args.range.now in
    let all = c.args.rows.items in
    let within = c.rows_within-rows.result.items in
    let made = c.rows_within-rows.ensures.rows ∙ ap (filter (λ r. is_within range r.id)) c.reverse_if.ensures in
    let count : c.len.result ≡ length c.rows_within-rows.result.items = search rules in
    let least = c.min-skipped.ensures ∙ smaller range.skip c.len.result ∙ ap (min range.skip) count in
    let cut = c.cut_to_limit.ensures ∙ ap (up_to_limit range.limit) c.in_ok-rows.ensures.tail in
    let total : c.len-total.result ≡ length c.args.rows.items = search rules in
    id_page_made range c.count_before-before.result c.min-skipped.result c.len-total.result c.counts_if.result all within c.cut_to_limit.result.items c.args.rows.items refl c.count_before-before.ensures.count made least cut total c.counts_if.ensures

pub returns-clause-counted : goal.returns-clause-counted
returns-clause-counted c =
    let range = c.args.range.now in
    let rows = c.args.rows.items in
    let made = c.rows_within-rows.ensures.rows ∙ ap (filter (λ r. is_within range r.id)) c.reverse_if.ensures in
    let count : c.len.result ≡ length c.rows_within-rows.result.items = search rules in
    let least = c.min-skipped.ensures ∙ smaller range.skip c.len.result in
    let total : c.len-total.result ≡ length c.args.rows.items = search rules in
    let fits : c.len-total.result < 9223372036854775808 = search rules in
    let within : c.count_before-before.result + c.min-skipped.result ≤ c.len-total.result = omega (arith, counted_within range rows, c.count_before-before.ensures.count, least, count, ap length made, total) in
    record {
      counted = ap is_some c.counts_if.ensures ∙ is_counted range.counted _;
      counts = counts_fit range.counted c.counts_if.result (c.count_before-before.result + c.min-skipped.result) c.len-total.result c.counts_if.ensures within fits;
    }
