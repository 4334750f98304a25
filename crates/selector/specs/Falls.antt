-- The selectors inside a selector nest less deep than it does, so that walking down one ends.
-- No outside source decides.
use Rattle.std.specs.Prelude.{suc, max, ◌+◌, ◌≤◌, List, [], ◌∷◌}
use Rattle.std.proofs.Common.{arith}
use Rattle.couch_json.specs.Value.{Value, depth, items_depth, members_depth}
use Rattle.couch_json.specs.View.{items_of}
use Rattle.selector.specs.View.{members_of}
use Rattle.selector.specs.declared.selector.Condition.{Condition}
use Rattle.selector.specs.declared.selector.Condition.TheVariants as condition
use Rattle.selector.specs.declared.selector.Selector.TheDeep.{deep-Condition}
use denote.Param.Weighed.{most}

most_le-items_depth : (vs : List Value) → most (λ v. depth v + 1) vs ≤ items_depth (items_of vs) + 1
most_le-items_depth [] = omega arith
most_le-items_depth (v ∷ vs) = omega (arith, most_le-items_depth vs)

most_le-members_depth : (cs : List Condition) → most deep-Condition cs ≤ members_depth (members_of cs) + 1
most_le-members_depth [] = omega arith
most_le-members_depth (condition.Field f s ∷ cs) = omega (arith, most_le-members_depth cs)
most_le-members_depth (condition.FieldIs f b ∷ cs) = omega (arith, most_le-members_depth cs)
most_le-members_depth (condition.Exists b ∷ cs) = omega (arith, most_le-members_depth cs)
most_le-members_depth (condition.Value o j ∷ cs) = omega (arith, most_le-members_depth cs)
most_le-members_depth (condition.In m ∷ cs) = omega (arith, most_le-members_depth cs)
most_le-members_depth (condition.NotIn m ∷ cs) = omega (arith, most_le-members_depth cs)
most_le-members_depth (condition.All m ∷ cs) = omega (arith, most_le-members_depth cs)
most_le-members_depth (condition.SameAs p ∷ cs) = omega (arith, most_le-members_depth cs)
most_le-members_depth (condition.Selector o s ∷ cs) = omega (arith, most_le-members_depth cs)
most_le-members_depth (condition.List o ss lookup ∷ cs) = omega (arith, most_le-members_depth cs, most_le-items_depth ss.items)

pub parts_fall : (cs : List Condition) → max (most deep-Condition cs) 0 ≤ suc (members_depth (members_of cs))
parts_fall cs = omega (arith, most_le-members_depth cs)
