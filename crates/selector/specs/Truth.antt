-- When a selector is true of a value, or of a missing one.
-- CouchDB manual, api/database/find, "Selector Syntax", "Implicit Operators", "Combination Operators", "Condition Operators";
-- that a missing value makes each operator false but `$exists` and the logical ones, the order of values, and `$sameAs`, are ours.
use Rattle.std.specs.Prelude.{ℕ, ℤ, suc, pos, int_rem, ◌==◌, ◌&&◌, ◌||◌, not, if◌then◌else◌, Bool, true, false, List, [], ◌∷◌, Option, Some, None, is_some, codes, option_and_then}
use Rattle.std.specs.List.{list_any, list_all}
use Rattle.std.specs.Cmp.Lexicographic.{pointwise}
use Rattle.std.specs.Ordering.{is_eq, is_ne, is_lt, is_le, is_gt, is_ge, int_eq}
use Rattle.couch_json.specs.Collation.{collation}
use Rattle.couch_json.specs.FieldPath.{value_at}
use Rattle.couch_json.specs.Parts.{is_object, is_there_and, items_in, items_or_none, text_in}
use Rattle.couch_json.specs.Value.{Value, null, truth, whole, text, array, object, Items, no_items, item, Members, no_members, member}
use Rattle.selector.specs.Grammar.{division_in}
use Rattle.selector.specs.Operators.{operator_named}
use Rattle.selector.specs.declared.operator.Operator.{Operator}
use Rattle.selector.specs.declared.operator.Operator.TheVariants as operator
use Rattle.selector.specs.declared.operator.ValueOperator.{ValueOperator}
use Rattle.selector.specs.declared.operator.ValueOperator.TheVariants.{IsEqual, IsNotEqual, IsLess, IsAtMost, IsGreater, IsAtLeast, HasType, IsIn, IsNotIn, HasSize, HasRemainder, HasAll}
use Rattle.selector.specs.declared.operator.SelectorOperator.{SelectorOperator}
use Rattle.selector.specs.declared.operator.SelectorOperator.TheVariants.{IsFalse, SomeElement, EachElement}
use Rattle.selector.specs.declared.operator.ListOperator.{ListOperator}
use Rattle.selector.specs.declared.operator.ListOperator.TheVariants.{AllTrue, SomeTrue, NoneTrue}

-- ---- the operators on a present value

-- the type of a value, as `$type` names it
abbrev pub type_name : Value → List ℕ
type_name null = codes "null"
type_name (truth b) = codes "boolean"
type_name (whole n) = codes "number"
type_name (text s) = codes "string"
type_name (array vs) = codes "array"
type_name (object ms) = codes "object"

-- the argument is the name of the value's type
abbrev pub has_type : Value → Value → Bool
has_type argument v = is_there_and (λ s. pointwise ◌==◌ (type_name v) s) (text_in argument)

-- an element passes the test
abbrev pub some_item : (Value → Bool) → Items → Bool
some_item test no_items = false
some_item test (item v vs) = test v || some_item test vs

-- each element passes the test
abbrev pub each_item : (Value → Bool) → Items → Bool
each_item test no_items = true
each_item test (item v vs) = test v && each_item test vs

-- the elements of a list, and none where it is no list
abbrev pub elements_or_none : Value → Items
elements_or_none v = items_or_none (items_in v)

-- an element equals the value
abbrev pub is_element : Value → Items → Bool
is_element v vs = some_item (λ w. is_eq (collation v w)) vs

-- how many items a list has
abbrev pub items_length : Items → ℕ
items_length no_items = 0
items_length (item v vs) = suc (items_length vs)

-- the value is an array of as many elements as the argument says
abbrev pub has_size : Value → Value → Bool
has_size (whole n) (array vs) = int_eq (pos (items_length vs)) n
has_size argument v = false

-- the remainder of a division that truncates toward zero
abbrev pub has_remainder : Option (ℤ × ℤ) → Value → Bool
has_remainder (Some division) (whole n) = not (int_eq division.0 (pos 0)) && int_eq (int_rem n division.0) division.1
has_remainder division v = false

-- there is an element, and each meets the test
abbrev pub each_of_some : (Value → Bool) → Items → Bool
each_of_some test no_items = false
each_of_some test (item v vs) = test v && each_item test vs

-- an operator, its argument, and a value that is there
abbrev pub meets : ValueOperator → Value → Value → Bool
meets IsEqual argument v = is_eq (collation v argument)
meets IsNotEqual argument v = is_ne (collation v argument)
meets IsLess argument v = is_lt (collation v argument)
meets IsAtMost argument v = is_le (collation v argument)
meets IsGreater argument v = is_gt (collation v argument)
meets IsAtLeast argument v = is_ge (collation v argument)
meets HasType argument v = has_type argument v
meets IsIn argument v = is_element v (elements_or_none argument)
meets IsNotIn argument v = not (is_element v (elements_or_none argument))
meets HasSize argument v = has_size argument v
meets HasRemainder argument v = has_remainder (division_in argument) v
meets HasAll argument v = each_of_some (λ w. is_element w (elements_or_none v)) (elements_or_none argument)

-- ---- the truth of a selector

-- "the value is there" equals the argument
abbrev pub exists_as : Value → Option Value → Bool
exists_as (truth true) current = is_some current
exists_as (truth false) current = not (is_some current)
exists_as argument current = false

-- an operator with one selector, whose truth of each value is given
abbrev pub selector_operator_truth : SelectorOperator → (Option Value → Bool) → Option Value → Bool
selector_operator_truth IsFalse truth_at current = not (truth_at current)
selector_operator_truth SomeElement truth_at current = is_there_and (λ v. some_item (λ w. truth_at (Some w)) (elements_or_none v)) current
selector_operator_truth EachElement truth_at current = is_there_and (λ v. each_of_some (λ w. truth_at (Some w)) (elements_or_none v)) current

-- an operator with a list of selectors, whose truths are given
abbrev pub list_operator_truth : ListOperator → List Bool → Bool
list_operator_truth AllTrue truths = list_all (λ b. b) truths
list_operator_truth SomeTrue truths = list_any (λ b. b) truths
list_operator_truth NoneTrue truths = not (list_any (λ b. b) truths)

-- a field has to meet a selector, or equal a bare value
abbrev pub field_truth : Value → (Option Value → Bool) → Option Value → Bool
field_truth v truth_at reached = if is_object v then truth_at reached else is_there_and (meets IsEqual v) reached

-- what the path that a value is reaches from the root
abbrev pub reached_from : Value → Value → Option Value
reached_from root v = option_and_then (λ path. value_at path root) (text_in v)

-- both are there and equal
abbrev pub are_same : Option Value → Option Value → Bool
are_same reached current = is_there_and (λ v. is_there_and (λ w. is_eq (collation v w)) reached) current

-- A member, whose value has the truth `truth_at` of each value where it is read as a selector, and the truths `truths_at`
-- as a list of selectors. A name of no operator is a field path. `root` is the
-- whole value that the outermost selector is asked of.
abbrev pub member_truth : Value → Option Operator → List ℕ → Value → (Option Value → Bool) → (Option Value → List Bool) → Option Value → Bool
member_truth root (Some operator.Exists) name v truth_at truths_at current = exists_as v current
member_truth root (Some (operator.Value o)) name v truth_at truths_at current = is_there_and (meets o v) current
member_truth root (Some operator.SameAs) name v truth_at truths_at current = are_same (reached_from root v) current
member_truth root (Some (operator.Selector o)) name v truth_at truths_at current = selector_operator_truth o truth_at current
member_truth root (Some (operator.List o)) name v truth_at truths_at current = list_operator_truth o (truths_at current)
member_truth root None name v truth_at truths_at current = field_truth v truth_at (option_and_then (value_at name) current)

abbrev mutual
  -- a selector on a value that may be missing, under a root: all its members are true
  pub is_true : Value → Value → Option Value → Bool
  is_true root (object ms) current = are_true root ms current
  is_true root v current = false

  -- the truths of the selectors of a list
  pub truths : Value → Value → Option Value → List Bool
  truths root (array vs) current = item_truths root vs current
  truths root v current = []

  -- each member of a selector is true
  pub are_true : Value → Members → Option Value → Bool
  are_true root no_members current = true
  are_true root (member name v ms) current =
      member_truth root (operator_named name) name v (is_true root v) (truths root v) current && are_true root ms current

  -- the truth of each selector, in order
  pub item_truths : Value → Items → Option Value → List Bool
  item_truths root no_items current = []
  item_truths root (item v vs) current = is_true root v current ∷ item_truths root vs current

-- this selector is true of this value, which is the root: the word for whoever uses selectors, those of rules too
unfoldable pub selector_matches : Value → Value → Bool
selector_matches selector v = is_true v selector (Some v)
