use Rattle.couch_json.specs.View.{view}
use Rattle.find.proofs.FixedFields.{value_fixed}
use Rattle.find.proofs.fixed.fixed_value.Goals as goal

pub returns-in-Range : goal.returns-in-Range
returns-in-Range c =
    value_fixed (λ u. view u.now) c.args.query.now c.args.field.now c.bounds.result c.in-Range.low c.in-Range.high c.only_value.result c.in-Range.is c.bounds.ensures.inside c.only_value.ensures
