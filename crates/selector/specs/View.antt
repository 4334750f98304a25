-- The value that a parsed selector stands for: the one that it was parsed from.
-- This crate's own: it ties the types of the code to the value of couch_json.
use Rattle.std.specs.Prelude.{ℕ, List, [], ◌∷◌, codes}
use Rattle.couch_json.specs.Value.{Value, truth, text, array, Members, no_members, member}
use Rattle.couch_json.specs.View.{view, items_of}
use Rattle.selector.specs.Operators.{value_operator_name, selector_operator_name, list_operator_name}
use Rattle.selector.specs.declared.operator.ValueOperator.TheVariants.{IsIn, IsNotIn, HasAll}
use Rattle.selector.specs.declared.selector.Condition.{Condition}
use Rattle.selector.specs.declared.selector.Condition.TheVariants as condition

-- the name of the member that a condition is
abbrev pub name_of : Condition → List ℕ
name_of (condition.Field f s) = f.path
name_of (condition.FieldIs f b) = f.path
name_of (condition.Exists b) = codes "$exists"
name_of (condition.Value o j) = value_operator_name o
name_of (condition.In m) = value_operator_name IsIn
name_of (condition.NotIn m) = value_operator_name IsNotIn
name_of (condition.All m) = value_operator_name HasAll
name_of (condition.SameAs path) = codes "$sameAs"
name_of (condition.Selector o s) = selector_operator_name o
name_of (condition.List o ss lookup) = list_operator_name o

-- its value; a selector inside stands for a value already
abbrev pub value_of : Condition → Value
value_of (condition.Field f s) = s
value_of (condition.FieldIs f b) = view b.json
value_of (condition.Exists b) = truth b
value_of (condition.Value o j) = view j
value_of (condition.In m) = m
value_of (condition.NotIn m) = m
value_of (condition.All m) = m
value_of (condition.SameAs path) = text path
value_of (condition.Selector o s) = s
value_of (condition.List o ss lookup) = array (items_of ss.items)

abbrev pub members_of : List Condition → Members
members_of [] = no_members
members_of (c ∷ cs) = member (name_of c) (value_of c) (members_of cs)
