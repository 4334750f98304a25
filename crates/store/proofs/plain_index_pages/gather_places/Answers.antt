use Rattle.std.proofs.Common.{◌≡◌, IfOk, ap, subst, ◌∙◌}
use Rattle.store.specs.KeyPages.{key_page}
use Rattle.store.specs.KeyPageStructs.{key_page_of}
use Rattle.store.specs.Plain.{places_over}
use Rattle.store.proofs.plain_index_pages.gather_places.Goals as goal

pub returns-clause-page : goal.returns-clause-page
returns-clause-page c =
    subst (λ rs. IfOk c.cut_by_key.result (λ page. key_page_of page ≡ key_page c.args.range.now rs)) (c.in_ok-rows.ensures ∙ ap (places_over c.args.fields.now) c.in_ok-documents.ensures) c.cut_by_key.ensures.page
