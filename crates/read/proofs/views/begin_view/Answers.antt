-- Before any row has come, all rows are to come, and they can be counted.
use Rattle.std.proofs.Common.{◌<◌, ◌^◌, ap, option_map, rules, sym, true, ◌∙◌}
use Rattle.store.specs.Indexes.{index_fields_at}
use Rattle.store.specs.KeyPages.{page_of_keys}
use Rattle.store.specs.KeyPageStructs.{key_page_in, key_page_of}
use Rattle.tree.proofs.Shown.{inside}
use Rattle.read.proofs.ListingPages.{begun, part_of}
use Rattle.read.proofs.views.begin_view.Goals as goal

pub returns-clause-ok : goal.returns-clause-ok
returns-clause-ok g c = λ honest d there.
    let range = c.args.range in
    let design = c.args.design.now in
    let index = c.args.index.now in
    let asked = part_of range range.skip 0 true in
    let paged = inside _ _ (sym (ap (option_map (page_of_keys asked design index)) there) ∙ c.in_ok-page.ensures.answer honest) ∙ ap key_page_in c.in-Some.is in
    let bounded : c.in-Some-counts.counts.total < 2 ^ 63 = search rules in
    begun range d (index_fields_at d design index) c.in_ok-so_far.so_far (key_page_of c.in-Some.page) c.in-Some-counts.counts paged c.in-Some-counts.is bounded c.in_ok-so_far.ensures
