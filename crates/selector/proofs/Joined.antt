-- The members parsed so far, before those that are left.
use Rattle.std.proofs.Common.{◌≡◌, List, [], ◌∷◌, ◌++◌, refl, ap}
use Rattle.couch_json.specs.Value.{Members, no_members, member}
use Rattle.selector.specs.View.{name_of, value_of, members_of}
use Rattle.selector.specs.declared.selector.Condition.{Condition}

abbrev pub members_then : List Condition → Members → Members
members_then [] rest = rest
members_then (c ∷ cs) rest = member (name_of c) (value_of c) (members_then cs rest)

pub members_then-no_members : (cs : List Condition) → members_then cs no_members ≡ members_of cs
members_then-no_members [] = refl
members_then-no_members (c ∷ cs) = ap (member (name_of c) (value_of c)) (members_then-no_members cs)

pub members_then-push : (cs : List Condition) (c : Condition) (rest : Members)
    → members_then (cs ++ c ∷ []) rest ≡ members_then cs (member (name_of c) (value_of c) rest)
members_then-push [] c rest = refl
members_then-push (d ∷ cs) c rest = ap (member (name_of d) (value_of d)) (members_then-push cs c rest)
