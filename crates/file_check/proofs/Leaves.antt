-- Something is held of each leaf of a history.
use Rattle.std.proofs.Common.{◌≡◌, Bool, true, List, [], ◌∷◌, inl, inr, refl, ap, sym, ◌∙◌}
use Rattle.std.specs.Prelude.{is_some, ◌↔◌}
use Rattle.std.specs.Cmp.{first_so, second_so}
use Rattle.std.specs.List.{list_all}
use Rattle.tree.specs.History.{HistoryContent, held_of, leaves}
use Rattle.tree.specs.Revision.{Revision}
use Rattle.tree.specs.Write.{StandsIn}
use Rattle.tree.proofs.Leaves.{leaves_are}
use Rattle.file_check.specs.Tables.{HasHeldLeaves}

at_each : (p : Revision → Bool) (rs : List Revision) (r : Revision) → list_all p rs ≡ true → StandsIn rs r → p r ≡ true
at_each p [] r all i = absurd i
at_each p (s ∷ rs) r all (inl e) = ap p (sym e) ∙ first_so (p s) (list_all p rs) all
at_each p (s ∷ rs) r all (inr i) = at_each p rs r (second_so (p s) (list_all p rs) all) i

from_each : (p : Revision → Bool) (rs : List Revision) → ((r : Revision) → StandsIn rs r → p r ≡ true) → list_all p rs ≡ true
from_each p [] each = refl
from_each p (r ∷ rs) each = rw (each r (inl refl), from_each p rs (λ s i. each s (inr i))) refl

pub held_leaves : (h : HistoryContent) → (list_all (λ r. is_some (held_of h r)) (leaves h) ≡ true) ↔ HasHeldLeaves h
held_leaves h = (
  (λ all r leaf. at_each (λ s. is_some (held_of h s)) (leaves h) r all ((leaves_are h r).1 leaf)),
  (λ held. from_each (λ s. is_some (held_of h s)) (leaves h) (λ r i. held r ((leaves_are h r).0 i))),
)
