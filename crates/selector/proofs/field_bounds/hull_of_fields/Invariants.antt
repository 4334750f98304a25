use Rattle.selector.specs.FieldBounds.{AreWider}
use Rattle.selector.proofs.field_bounds.hull_of_fields.Given as goal

abbrev pub invariant-loop-path : goal.invariant-loop-path
invariant-loop-path l = record { first : AreWider l.first l.hull; second : AreWider l.second l.hull }
