use Rattle.std.proofs.Common.{false, ◌||◌, ap, ◌∙◌}
use Rattle.couch_json.specs.Collation.{collation}
use Rattle.couch_json.specs.View.{view}
use Rattle.selector.specs.Lookup.{is_over, set_has}
use Rattle.selector.proofs.Decided.{either_side}
use Rattle.selector.proofs.value_set.ValueSet.add_unequal.Goals as goal

pub returns : goal.returns
returns c = λ v.
    let x = view c.args.value.now in
    c.in_ok-put_above.ensures v ∙ ap (λ b. is_over x false v || b) (c.in_ok-put_below.ensures v)
    ∙ either_side (collation v x) (set_has c.args.self.now v)
