-- The best leaf that is not deleted tells it.
use Rattle.std.proofs.Common.{◌≡◌, ◌∙◌, Option, Some, None, Bor, refl, ap}
use Rattle.std.specs.Prelude.{is_some, option_copied}
use Rattle.tree.specs.declared.revision.Rev.{Rev}
use Rattle.tree.proofs.Leaves.{best_is_live}
use Rattle.tree.proofs.history.History.is_live.Goals as goal

some : (o : Option (Bor Rev)) → is_some o ≡ is_some (option_copied o)
some None = refl
some (Some r) = refl

pub returns : goal.returns
returns c = c.is_some.ensures ∙ some c.best_leaf.result ∙ ap is_some c.best_leaf.ensures ∙ best_is_live c.args.self.now
