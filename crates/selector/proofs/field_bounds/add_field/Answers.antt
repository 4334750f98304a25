use Rattle.std.proofs.Common.{◌≡◌, Some, true, subst, sym, ap, ◌∙◌}
use Rattle.std.proofs.lemmas.Result.{on_ok_weaker}
use Rattle.selector.specs.Bounds.{AreJust, contain, path_value}
use Rattle.selector.specs.FieldBounds.{ContainOnly, bounds_at}
use Rattle.selector.specs.View.{name_of, value_of}
use Rattle.selector.proofs.FieldTables.{lie_with, narrower_with, only_with}
use Rattle.selector.proofs.field_bounds.add_field.Goals as goal

pub returns-clause-inside : goal.returns-clause-inside
returns-clause-inside c =
    on_ok_weaker c.add.result
    (λ adds root current holds. lie_with c.args.fields.now c.add.new.self c.as_str.result.now c.bounds_of.result current adds
    (subst (λ p. contain c.bounds_of.result (path_value (Some p) current) ≡ true) (sym c.as_str.ensures.text) (c.bounds_of.ensures.inside root current holds)))
    c.add.ensures.contain

pub returns-clause-narrower : goal.returns-clause-narrower
returns-clause-narrower c = on_ok_weaker c.add.result (narrower_with c.args.fields.now c.add.new.self c.as_str.result.now c.bounds_of.result) c.add.ensures.contain

pub returns-clause-one : goal.returns-clause-one
returns-clause-one c =
    let this = c.args.condition.now in
    let named : c.as_str.result.now ≡ name_of this = c.as_str.ensures.text ∙ c.requires in
    on_ok_weaker c.add.result
    (λ any none bare before. subst (λ p. AreJust (value_of this) (bounds_at c.add.new.self p)) named
    (subst (λ b. AreJust (value_of this) b) (sym (any (ap (bounds_at c.args.fields.now) named ∙ before))) (c.bounds_of.ensures.one (ap Some c.requires) none bare)))
    c.add.ensures.any

pub returns-clause-bare : goal.returns-clause-bare
returns-clause-bare c =
    let this = c.args.condition.now in
    let named : c.as_str.result.now ≡ name_of this = c.as_str.ensures.text ∙ c.requires in
    on_ok_weaker c.add.result
    (λ adds none bare. subst (λ p. ContainOnly (value_of this) (bounds_at c.add.new.self p)) named
    (only_with c.args.fields.now c.add.new.self c.as_str.result.now c.bounds_of.result (value_of this) (c.bounds_of.ensures.one (ap Some c.requires) none bare) adds))
    c.add.ensures.contain
