-- The last leaf in order is the greatest.
use Rattle.std.proofs.Common.{◌≡◌, ◌∷◌, ◌++◌, ◌∙◌, List, [], Option, Some, None, Bor, ap}
use Rattle.std.specs.Prelude.{MatchOption, option_copied, reverse, slice_get}
use Rattle.tree.specs.History.{leaves_marked}
use Rattle.tree.specs.declared.revision.Rev.{Rev}
use Rattle.tree.proofs.KeptLeaves.{kept_list, last_first}
use Rattle.tree.proofs.history.History.best_leaf.Goals as goal

last : (keys rest : List Rev) (o : Option (Bor Rev)) → MatchOption o ((keys ≡ []) × (rest ≡ [])) (λ r. keys ≡ rest ++ r.now ∷ []) → option_copied o ≡ slice_get (reverse keys) 0
last keys rest None e = last_first keys None rest e.0
last keys rest (Some r) e = last_first keys (Some r.now) rest e

pub returns : goal.returns
returns c =
    last c.iter.result c.next_back.new.self c.next_back.result c.next_back.ensures.steps
    ∙ ap (λ keys. slice_get (reverse keys) 0) c.iter.ensures.rest
    ∙ ap (λ revs. slice_get revs 0)
    (kept_list c.args.deleted c.with_mark.result.now.keys c.self.inside.nodes.entries c.self.inside.leaves c.self.inside.awaited.keys c.self.invariant c.with_mark.ensures c.iter.ensures.ordered
    ∙ ap (leaves_marked c.args.deleted) c.self.view_is)
