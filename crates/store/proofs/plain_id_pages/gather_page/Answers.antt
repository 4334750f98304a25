use Rattle.std.proofs.Common.{◌≡◌, IfOk, ap, subst, ◌∙◌}
use Rattle.store.specs.Pages.{id_page, live_rows}
use Rattle.store.specs.PageStructs.{id_page_of}
use Rattle.store.proofs.plain_id_pages.gather_page.Goals as goal

pub returns-clause-page : goal.returns-clause-page
returns-clause-page c =
    subst (λ rs. IfOk c.cut_by_id.result (λ page. id_page_of page ≡ id_page c.args.range.now rs)) (c.in_ok-rows.ensures ∙ ap live_rows c.in_ok-documents.ensures) c.cut_by_id.ensures.page
