-- The operators by name.
-- CouchDB manual, api/database/find, "Operators": combination operators and condition operators, as many as this server has;
-- `$sameAs`, which rules alone may use, is ours.
use Rattle.std.specs.Prelude.{ℕ, ◌==◌, List, [], ◌∷◌, Option, Some, None, codes, if◌then◌else◌}
use Rattle.std.specs.Cmp.Lexicographic.{pointwise}
use Rattle.selector.specs.declared.operator.Operator.{Operator}
use Rattle.selector.specs.declared.operator.Operator.TheVariants.{Exists, Value, SameAs, Selector, List as Several}
use Rattle.selector.specs.declared.operator.ValueOperator.{ValueOperator}
use Rattle.selector.specs.declared.operator.ValueOperator.TheVariants.{IsEqual, IsNotEqual, IsLess, IsAtMost, IsGreater, IsAtLeast, HasType, IsIn, IsNotIn, HasSize, HasRemainder, HasAll}
use Rattle.selector.specs.declared.operator.SelectorOperator.{SelectorOperator}
use Rattle.selector.specs.declared.operator.SelectorOperator.TheVariants.{IsFalse, SomeElement, EachElement}
use Rattle.selector.specs.declared.operator.ListOperator.{ListOperator}
use Rattle.selector.specs.declared.operator.ListOperator.TheVariants.{AllTrue, SomeTrue, NoneTrue}

-- the operators that compare a value with their argument
abbrev pub value_operator_name : ValueOperator → List ℕ
value_operator_name IsEqual = codes "$eq"
value_operator_name IsNotEqual = codes "$ne"
value_operator_name IsLess = codes "$lt"
value_operator_name IsAtMost = codes "$lte"
value_operator_name IsGreater = codes "$gt"
value_operator_name IsAtLeast = codes "$gte"
value_operator_name HasType = codes "$type"
value_operator_name IsIn = codes "$in"
value_operator_name IsNotIn = codes "$nin"
value_operator_name HasSize = codes "$size"
value_operator_name HasRemainder = codes "$mod"
value_operator_name HasAll = codes "$all"

-- the operators that take one selector
abbrev pub selector_operator_name : SelectorOperator → List ℕ
selector_operator_name IsFalse = codes "$not"
selector_operator_name SomeElement = codes "$elemMatch"
selector_operator_name EachElement = codes "$allMatch"

-- the operators that take a list of selectors
abbrev pub list_operator_name : ListOperator → List ℕ
list_operator_name AllTrue = codes "$and"
list_operator_name SomeTrue = codes "$or"
list_operator_name NoneTrue = codes "$nor"

-- the name of an operator
abbrev pub operator_name : Operator → List ℕ
operator_name Exists = codes "$exists"
operator_name (Value o) = value_operator_name o
operator_name SameAs = codes "$sameAs"
operator_name (Selector o) = selector_operator_name o
operator_name (Several o) = list_operator_name o

-- all operators
abbrev pub operators : List Operator
operators =
    Exists ∷ Value IsEqual ∷ Value IsNotEqual ∷ Value IsLess ∷ Value IsAtMost ∷ Value IsGreater ∷ Value IsAtLeast
    ∷ Value HasType ∷ Value IsIn ∷ Value IsNotIn ∷ Value HasSize ∷ Value HasRemainder ∷ Value HasAll ∷ SameAs
    ∷ Selector IsFalse ∷ Selector SomeElement ∷ Selector EachElement ∷ Several AllTrue ∷ Several SomeTrue ∷ Several NoneTrue ∷ []

-- the first of these operators that has this name
abbrev pub operator_among : List Operator → List ℕ → Option Operator
operator_among [] name = None
operator_among (o ∷ os) name = if pointwise ◌==◌ name (operator_name o) then Some o else operator_among os name

-- the operator of this name, if there is one
abbrev pub operator_named : List ℕ → Option Operator
operator_named name = operator_among operators name
