use Rattle.std.proofs.Common.{◌∙◌, ap}
use Rattle.selector.specs.Bounds.{contain}
use Rattle.selector.specs.declared.bounds.Bounds.{Bounds}
use Rattle.selector.proofs.FieldTables.{wider_with}
use Rattle.selector.proofs.field_bounds.hull_of_fields.Goals as goal

pub loop-path-preserved : goal.loop-path-preserved
loop-path-preserved c =
    let l = c.loop-path in
    let path = c.as_str-path.result.now in
    let more = c.add.new.self in
    record {
      first = wider_with c.args.first.now l.hull more path c.hull_of.result c.in_ok-add.ensures.contain
          (λ field h. c.hull_of.ensures.first field (ap (λ (b : Bounds). contain b field) c.bounds_at-one.ensures ∙ h)) l.invariant.first;
      second = wider_with c.args.second.now l.hull more path c.hull_of.result c.in_ok-add.ensures.contain
          (λ field h. c.hull_of.ensures.second field (ap (λ (b : Bounds). contain b field) c.bounds_at-other.ensures ∙ h)) l.invariant.second;
    }
