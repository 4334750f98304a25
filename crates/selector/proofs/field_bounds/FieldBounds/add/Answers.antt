use Rattle.std.proofs.Common.{◌&&◌, ap, ◌∙◌}
use Rattle.std.proofs.lemmas.Result.{on_ok_weaker}
use Rattle.selector.specs.Bounds.{contain}
use Rattle.selector.specs.declared.bounds.Bounds.{Bounds}
use Rattle.selector.proofs.FieldTables.{put_with}
use Rattle.selector.proofs.field_bounds.FieldBounds.add.Goals as goal

pub returns-in-Range-clause-contain : goal.returns-in-Range-clause-contain
returns-in-Range-clause-contain c =
    on_ok_weaker c.put.result
    (put_with c.args.self.now c.put.new.self c.args.path.now c.args.bounds c.overlap.result
    (λ field. c.overlap.ensures.contain field ∙ ap (λ (b : Bounds). contain b field && contain c.args.bounds field) c.bounds_at.ensures))
    c.put.ensures
