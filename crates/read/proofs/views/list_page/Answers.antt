-- The rows of a page, as the store gives them, are the next of those that are still to come.
use Rattle.std.proofs.Common.{◌≡◌, ◌+◌, ◌-◌, ◌<◌, ◌++◌, ap, arith, drop, length, map, min, option_map, rules, sym, take, ◌∙◌}
use Rattle.store.specs.Indexes.{index_fields_at}
use Rattle.store.specs.KeyPages.{page_of_keys}
use Rattle.store.specs.KeyPageStructs.{key_page_in, key_page_of}
use Rattle.tree.proofs.Shown.{inside}
use Rattle.read.specs.inner.RowsSoFar.{greatest_number, page_size, rows_by_key}
use Rattle.read.specs.Views.{key_row_object}
use Rattle.read.proofs.ListingPages.{advanced, next_by_key, part_of}
use Rattle.read.proofs.views.list_page.Goals as goal

pub returns-clause-ok : goal.returns-clause-ok
returns-clause-ok g c = λ honest d there h.
    let before = c.args.so_far.now in
    let range = c.args.range.now in
    let design = c.args.design.now in
    let index = c.args.index.now in
    let rows = c.in-Some.page.rows.items in
    let all = rows_by_key range design index d in
    let asked = part_of range before.skip c.page_size-most.result range.counted in
    let paged = inside _ _ (sym (ap (option_map (page_of_keys asked design index)) there) ∙ c.in_ok-page.ensures.answer honest) ∙ ap key_page_in c.in-Some.is in
    let count : c.len-count.result ≡ length rows = search rules in
    let some : 0 < length rows = omega (arith, c.if-count-eq0.false, count) in
    let page_rows : rows ≡ take (page_size before) (drop before.skip all) =
    next_by_key range before.skip c.page_size-most.result range.counted d (index_fields_at d design index) (key_page_of c.in-Some.page) paged ∙ ap (λ n. take n (drop before.skip all)) c.page_size-most.ensures in
    advanced key_row_object all rows before c.count_page.new.self h page_rows some
    (c.count_page.ensures.rows ∙ c.in_ok-push_rows.ensures ∙ ap (λ rs. before.rows ++ map key_row_object rs) c.deref.ensures.value)
    (c.count_page.ensures.left ∙ ap (λ n. before.left - n) count) (c.count_page.ensures.skip ∙ ap (λ n. min (before.skip + n) greatest_number) count)
