use Rattle.std.proofs.Common.{ℕ, List, [], Some, map, option_map, sym, ap, ◌∙◌}
use Rattle.std.specs.FinMap as finite
use Rattle.store.specs.KeyPages.{page_of_keys}
use Rattle.store.specs.KeyPageStructs.{key_page_in, key_page_of}
use Rattle.find.proofs.Takings.{known_alone, no_places, places_taken}
use Rattle.find.proofs.source.take_places.Goals as goal

pub returns-in-Some-clause-ok : goal.returns-in-Some-clause-ok
returns-in-Some-clause-ok g c = λ honest.
    let plan = c.args.plan.now in
    let there = finite.get (g.S.Store.contents c.args.store.now) c.args.db.now in
    places_taken plan.rows.range c.in_ok-range.range plan.index.design _ c.args.skip c.args.limit there (key_page_of c.in-Some.page) c.deref.result.now c.in_ok-copy_candidates-in-Some.field-0.items c.in_ok-range.ensures
    (ap (λ (n : List ℕ). option_map (λ d. page_of_keys c.in_ok-range.range plan.index.design n d) there) (sym c.as_str.ensures.value)
    ∙ c.in_ok-page.ensures.answer honest ∙ ap (λ p. Some (key_page_in p)) c.in-Some.is) c.deref.ensures.value c.in_ok-copy_candidates-in-Some.ensures

pub returns-clause-ok : goal.returns-clause-ok
returns-clause-ok g c = λ honest.
    let plan = c.args.plan.now in
    let there = finite.get (g.S.Store.contents c.args.store.now) c.args.db.now in
    no_places plan.rows.range c.in_ok-range.range plan.index.design _ c.args.skip c.args.limit there c.new.result.items
    (ap (λ (n : List ℕ). option_map (λ d. page_of_keys c.in_ok-range.range plan.index.design n d) there) (sym c.as_str.ensures.value)
    ∙ c.in_ok-page.ensures.answer honest ∙ ap (λ p. Some (key_page_in p)) c.in-None.is) c.new.ensures.items

pub returns-in-Some-clause-known : goal.returns-in-Some-clause-known
returns-in-Some-clause-known g c = λ honest d there.
    known_alone d (map (λ r. r.id) c.deref.result.now) c.in_ok-copy_candidates-in-Some.field-0.items c.in_ok-copy_candidates-in-Some.ensures

pub returns-clause-known : goal.returns-clause-known
returns-clause-known g c = λ honest d there. known_alone d [] c.new.result.items c.new.ensures.items
