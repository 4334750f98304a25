use Rattle.std.proofs.Common.{rules}
use Rattle.std.proofs.lemmas.Fn.{filter_same}
use Rattle.store.specs.Pages.{is_within}
use Rattle.store.proofs.plain_id_pages.rows_within.Goals as goal

pub returns-clause-rows : goal.returns-clause-rows
returns-clause-rows c =
    let range = c.args.range.now in
    filter_same _ (λ r. is_within range r.id) _ (λ x r f' k. search rules) _ _ c.retain.ensures.filtered
