use Rattle.index.proofs.Common.{ap, subst, sym, ◌++◌, ◌∙◌, ◌∷◌, []}
use Rattle.couch_json.specs.Key.{key}
use Rattle.couch_json.specs.KeyCuts.{bound_after_prefix}
use Rattle.couch_json.specs.Lawful.{IsLawful}
use Rattle.store.specs.KeyPages.{lies_above}
use Rattle.index.proofs.KeyBounds.{bound_after, bound_before, bound_behind}
use Rattle.index.proofs.bounds.bound_at.Goals as goal

pub returns-in-Before : goal.returns-in-Before
returns-in-Before c v lawful =
    let value = c.json-value.ensures in
    bound_before c.args.cut.now.key v c.in_ok-bound.bound.items (c.in_ok-bound.ensures.key ∙ ap key value) (subst IsLawful value c.in_ok-bound.ensures.lawful) lawful ∙ ap (λ side. lies_above side c.args.cut.now.key v) (sym c.in-Before.is)

pub returns-in_ok-push-in-After : goal.returns-in_ok-push-in-After
returns-in_ok-push-in-After c v lawful =
    let value = c.json-value.ensures in
    bound_after c.args.cut.now.key v c.push.new.self.items (c.in_ok-push-in-After.ensures.items ∙ ap (λ l. l ++ 0 ∷ []) (c.in_ok-bound.ensures.key ∙ ap key value)) (subst IsLawful value c.in_ok-bound.ensures.lawful) lawful ∙ ap (λ side. lies_above side c.args.cut.now.key v) (sym c.in-After.is)

pub returns-in_ok-pass_prefix-in-AfterPrefix : goal.returns-in_ok-pass_prefix-in-AfterPrefix
returns-in_ok-pass_prefix-in-AfterPrefix c v lawful =
    let value = c.json-value.ensures in
    bound_behind c.args.cut.now.key v c.pass_prefix.new.bound.items (c.in_ok-pass_prefix-in-AfterPrefix.ensures c.in_ok-bound.ensures.key ∙ ap bound_after_prefix value) (subst IsLawful value c.in_ok-bound.ensures.lawful) lawful ∙ ap (λ side. lies_above side c.args.cut.now.key v) (sym c.in-AfterPrefix.is)
