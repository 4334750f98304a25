-- The rows of a page, as the store gives them, are the next of those that are still to come.
use Rattle.std.proofs.Common.{◌≡◌, ◌+◌, ◌-◌, ◌<◌, ◌++◌, Some, ap, arith, drop, length, map, min, option_map, rules, sym, take, ◌∙◌}
use Rattle.store.specs.Pages.{IdPage, page_of_ids}
use Rattle.store.specs.PageStructs.{id_page_of}
use Rattle.store.specs.declared.listing.IdRange.{IdRange}
use Rattle.tree.proofs.Shown.{inside}
use Rattle.read.specs.Listing.{row_object}
use Rattle.read.specs.inner.RowsSoFar.{greatest_number, page_size, rows_by_id}
use Rattle.read.proofs.ListingPages.{advanced}
use Rattle.read.proofs.listing.list_page.Goals as goal

pub returns-clause-ok : goal.returns-clause-ok
returns-clause-ok g c = λ honest d there h.
    let before = c.args.so_far.now in
    let range = c.args.range.now in
    let page = c.in_ok-page.page in
    let rows = page.rows.items in
    let asked : IdRange =
    record { start = range.start; end = range.end; inclusive_end = range.inclusive_end; descending = range.descending; skip = before.skip; limit = Some c.page_size-most.result; counted = range.counted } in
    let paged : page_of_ids asked d ≡ id_page_of page = inside _ _ (sym (ap (option_map (page_of_ids asked)) there) ∙ c.in_ok-page.ensures.answer honest) in
    let count : c.len-count.result ≡ length rows = search rules in
    let some : 0 < length rows = omega (arith, c.if-count-eq0.false, count) in
    let page_rows : rows ≡ take (page_size before) (drop before.skip (rows_by_id range d)) =
    sym (ap (λ (p : IdPage). p.rows) paged) ∙ ap (λ n. take n (drop before.skip (rows_by_id range d))) c.page_size-most.ensures in
    advanced row_object (rows_by_id range d) rows before c.count_page.new.self h page_rows some
    (c.count_page.ensures.rows ∙ c.in_ok-push_rows.ensures ∙ ap (λ rs. before.rows ++ map row_object rs) c.deref.ensures.value)
    (c.count_page.ensures.left ∙ ap (λ n. before.left - n) count) (c.count_page.ensures.skip ∙ ap (λ n. min (before.skip + n) greatest_number) count)
