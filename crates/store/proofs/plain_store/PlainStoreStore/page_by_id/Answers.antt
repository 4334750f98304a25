use Rattle.std.proofs.Common.{◌≡◌, Some, option_map, sym, ap, ◌∙◌, rules}
use Rattle.std.specs.FinMap as map
use Rattle.store.specs.Pages.{page_of_ids}
use Rattle.store.specs.Plain.{content, contents_of}
use Rattle.store.proofs.PageStructs.{page_by_id-content}
use Rattle.store.proofs.plain_store.PlainStoreStore.page_by_id.Goals as goal

pub returns-in_ok-page_by_id-in-Some-clause-answer : goal.returns-in_ok-page_by_id-in-Some-clause-answer
returns-in_ok-page_by_id-in-Some-clause-answer c =
    let d = c.in-Some.database.now in
    let range = c.args.range.now in
    let there : map.get (contents_of c.args.self.now.databases.items) c.args.name.now ≡ Some (content c.in-Some.database.now) = search rules in
    λ _. ap (option_map (λ db. page_of_ids range db)) there ∙ ap Some (page_by_id-content range d ∙ sym c.in_ok-page_by_id-in-Some.ensures.page)
