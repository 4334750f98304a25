use Rattle.index.proofs.Common.{ap, sym, take, ◌∙◌}
use Rattle.std.proofs.Common.{not, ◌-◌}
use Rattle.couch_json.specs.View.{view}
use Rattle.index.proofs.KeyBounds.{behind_array, some_of}
use Rattle.index.proofs.bounds.pass_prefix.Goals as goal

pub returns : goal.returns
returns c is =
    behind_array (view c.args.value.now) _ c.args.bound.now.items c.pop.new.self.items c.push-2.new.self.items (sym c.items.ensures) (some_of c.items.result _ (c.is_none.ensures ∙ ap not c.if-is_none.false)) is
    (c.pop.ensures.rest ∙ ap (λ n. take (n - 1) c.args.bound.now.items) c.args.bound.now.ok.0) c.in_ok-push-2.ensures.items
