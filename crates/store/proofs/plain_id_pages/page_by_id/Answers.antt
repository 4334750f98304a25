-- Where nothing is gathered there is no row.
use Rattle.std.proofs.Common.{◌≡◌, false, List, None, ap, ◌∙◌, rules}
use Rattle.std.specs.List.{list_any}
use Rattle.store.specs.Pages.{IdPage, is_within}
use Rattle.store.specs.Writing.{additions}
use Rattle.store.specs.declared.listing.IdRow.{IdRow}
use Rattle.store.proofs.NoRows.{no_rows}
use Rattle.store.proofs.plain_id_pages.page_by_id.Goals as goal

pub returns-clause-page : goal.returns-clause-page
returns-clause-page c =
    let none : list_any (λ a. is_within c.args.range.now a.id) (additions c.args.writes.now.items) ≡ false = search rules in
    ap (λ (rows : List IdRow). let page : IdPage = record { rows = rows; counts = None } in page) c.new.ensures.items
    ∙ no_rows c.args.range.now (additions c.args.writes.now.items) none c.if-range.false
