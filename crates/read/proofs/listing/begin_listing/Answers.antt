-- Before any row has come, all rows are to come, and they can be counted.
use Rattle.std.proofs.Common.{◌≡◌, ◌<◌, ◌^◌, Some, ap, map, option_map, rules, subst, sym, true, ◌∙◌}
use Rattle.std.specs.FinMap.{entries}
use Rattle.store.specs.Pages.{IdPage, live_rows, page_of_ids, row_counts}
use Rattle.store.specs.PageStructs.{id_page_of}
use Rattle.store.specs.declared.listing.IdRange.{IdRange}
use Rattle.store.specs.declared.listing.RowCounts.{RowCounts}
use Rattle.tree.proofs.Shown.{inside}
use Rattle.read.specs.Listing.{listing_of, row_object}
use Rattle.read.specs.inner.RowsSoFar.{AreCountable, whole_list, rows_by_id}
use Rattle.read.proofs.ListingPages.{few_by_id, unlimited}
use Rattle.read.proofs.listing.begin_listing.Goals as goal

pub returns-clause-ok : goal.returns-clause-ok
returns-clause-ok g c = λ honest d there.
    let range = c.args.range in
    let all = rows_by_id range d in
    let asked : IdRange = record { start = range.start; end = range.end; inclusive_end = range.inclusive_end; descending = range.descending; skip = range.skip; limit = Some 0; counted = true } in
    let paged : page_of_ids asked d ≡ id_page_of c.in_ok-page.page = inside _ _ (sym (ap (option_map (page_of_ids asked)) there) ∙ c.in_ok-page.ensures.answer honest) in
    let counted : row_counts asked (live_rows (entries d.documents)) ≡ c.in-Some.counts = inside _ _ (ap (λ (p : IdPage). p.counts) paged ∙ c.in-Some.is) in
    let bounded : c.in-Some.counts.total < 2 ^ 63 = search rules in
    let countable : AreCountable all = few_by_id range d (subst (λ n. n < 2 ^ 63) (sym (ap (λ (k : RowCounts). k.total) counted)) bounded) in
    let listed : whole_list row_object all c.in_ok-so_far.so_far ≡ map row_object (page_of_ids range d).rows =
    ap (whole_list row_object all) c.in_ok-so_far.ensures ∙ ap (map row_object) (unlimited range.limit range.skip all countable) in
    (countable, λ i. listing_of (listed i) (sym counted i))
