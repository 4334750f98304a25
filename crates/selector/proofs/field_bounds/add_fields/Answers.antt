use Rattle.std.proofs.Common.{◌∙◌, ap}
use Rattle.selector.specs.Bounds.{contain, path_value}
use Rattle.selector.specs.declared.bounds.Bounds.{Bounds}
use Rattle.std.proofs.Common.{Some}
use Rattle.selector.proofs.FieldTables.{lie_with, narrower_with}
use Rattle.selector.proofs.field_bounds.add_fields.Goals as goal

pub loop-path-preserved : goal.loop-path-preserved
loop-path-preserved c =
    let l = c.loop-path in
    let path = c.as_str-path.result.now in
    record {
      inside = λ current others lie. lie_with l.fields c.add.new.self path c.bounds_at.result current c.in_ok-add.ensures.contain
          (ap (λ (b : Bounds). contain b (path_value (Some path) current)) c.bounds_at.ensures ∙ others path) (l.invariant.inside current others lie);
      narrower = λ other field h. l.invariant.narrower other field (narrower_with l.fields c.add.new.self path c.bounds_at.result c.in_ok-add.ensures.contain other field h);
    }
