-- Which values are selectors, and where the first fault of one that is none stands.
-- CouchDB manual, api/database/find, "Selector Syntax" and the tables of operators; which fault comes first, and the limit
-- of 32 on nesting, are ours, and so is `$sameAs`.
use Rattle.std.specs.Prelude.{ℕ, ℤ, pos, ◌+◌, ◌==◌, not, Bool, true, false, if◌then◌else◌, List, [], ◌∷◌, Option, Some, None, codes, nat_eq, nat_lt}
use Rattle.std.specs.List.{starts_with, list_any}
use Rattle.std.specs.Cmp.Lexicographic.{pointwise}
use Rattle.std.specs.Ordering.{int_eq}
use Rattle.couch_json.specs.FieldPath.{is_field_path}
use Rattle.couch_json.specs.Parts.{is_array, is_object, is_there_and, is_truth, is_whole, text_in}
use Rattle.couch_json.specs.Value.{Value, whole, array, object, Items, no_items, item, Members, no_members, member}
use Rattle.selector.specs.Operators.{operator_named}
use Rattle.selector.specs.declared.fault.SelectorFault.{SelectorFault}
use Rattle.selector.specs.declared.fault.SelectorFault.TheVariants as fault
use Rattle.selector.specs.declared.operator.Operator.{Operator}
use Rattle.selector.specs.declared.operator.Operator.TheVariants as operator
use Rattle.selector.specs.declared.operator.ValueOperator.{ValueOperator}
use Rattle.selector.specs.declared.operator.ValueOperator.TheVariants.{HasType, IsIn, IsNotIn, HasSize, HasRemainder, HasAll}

-- ---- what the operators take

-- the types that `$type` knows
abbrev pub type_names : List (List ℕ)
type_names = codes "null" ∷ codes "boolean" ∷ codes "number" ∷ codes "string" ∷ codes "array" ∷ codes "object" ∷ []

-- the value is the name of a type
abbrev pub is_type_name : Value → Bool
is_type_name v = is_there_and (λ s. list_any (pointwise ◌==◌ s) type_names) (text_in v)

-- a divisor and a remainder
abbrev pub division_in : Value → Option (ℤ × ℤ)
division_in (array (item (whole d) (item (whole r) no_items))) = Some (d, r)
division_in v = None

-- there is a division, and it is not by 0
abbrev pub has_divisor : Option (ℤ × ℤ) → Bool
has_divisor None = false
has_divisor (Some division) = not (int_eq division.0 (pos 0))

-- the six comparisons take every value
abbrev pub takes : ValueOperator → Value → Bool
takes HasType v = is_type_name v
takes IsIn v = is_array v
takes IsNotIn v = is_array v
takes HasSize v = is_whole v
takes HasRemainder v = has_divisor (division_in v)
takes HasAll v = is_array v
takes o v = true

-- a text that is a field path
abbrev pub is_path : Value → Bool
is_path v = is_there_and is_field_path (text_in v)

-- ---- the first fault

-- the fault, where it is not so
abbrev pub fault_unless : Bool → SelectorFault → Option SelectorFault
fault_unless true f = None
fault_unless false f = Some f

-- the first of two, in the order of the text
abbrev pub first : Option SelectorFault → Option SelectorFault → Option SelectorFault
first None later = later
first (Some f) later = Some f

-- `$` begins the name of an operator
abbrev pub begins_as_operator : List ℕ → Bool
begins_as_operator name = starts_with nat_eq name (codes "$")

-- a field has a selector or a bare value
abbrev pub field_fault : List ℕ → Value → Option SelectorFault → Option SelectorFault
field_fault name v as_selector =
    if is_field_path name then (if is_object v then as_selector else None) else Some fault.Argument

-- a path to compare with, which the selector of a rule alone may hold; elsewhere there is no such operator
abbrev pub same_fault : Bool → Value → Option SelectorFault
same_fault true v = fault_unless (is_path v) fault.Argument
same_fault false v = Some fault.Operator

-- a member, whose value has the fault `as_selector` where it is read as a selector, and `as_list` as a list of selectors
abbrev pub member_fault : Bool → Option Operator → List ℕ → Value → Option SelectorFault → Option SelectorFault → Option SelectorFault
member_fault in_rule (Some operator.Exists) name v as_selector as_list = fault_unless (is_truth v) fault.Argument
member_fault in_rule (Some (operator.Value o)) name v as_selector as_list = fault_unless (takes o v) fault.Argument
member_fault in_rule (Some operator.SameAs) name v as_selector as_list = same_fault in_rule v
member_fault in_rule (Some (operator.Selector o)) name v as_selector as_list = as_selector
member_fault in_rule (Some (operator.List o)) name v as_selector as_list = as_list
member_fault in_rule None name v as_selector as_list = if begins_as_operator name then Some fault.Operator else field_fault name v as_selector

-- a list has at least one selector, and the first fault among them
abbrev pub filled_fault : Items → Option SelectorFault → Option SelectorFault
filled_fault no_items among = Some fault.Argument
filled_fault (item v vs) among = among

-- how many selector objects may nest
abbrev pub max_level : ℕ
max_level = 32

-- a selector at a level, the outermost at 1; a list of selectors; the members of a selector object at that level; each in a
-- rule or elsewhere
abbrev mutual
  pub selector_fault : Bool → Value → ℕ → Option SelectorFault
  selector_fault in_rule (object ms) level = if nat_lt max_level level then Some fault.Depth else members_fault in_rule ms level
  selector_fault in_rule v level = Some fault.Argument

  -- the first fault of a list of selectors
  pub list_fault : Bool → Value → ℕ → Option SelectorFault
  list_fault in_rule (array vs) level = filled_fault vs (items_fault in_rule vs level)
  list_fault in_rule v level = Some fault.Argument

  -- the first fault of the members of a selector, in their order
  pub members_fault : Bool → Members → ℕ → Option SelectorFault
  members_fault in_rule no_members level = None
  members_fault in_rule (member name v ms) level =
      first (member_fault in_rule (operator_named name) name v (selector_fault in_rule v (level + 1)) (list_fault in_rule v (level + 1)))
      (members_fault in_rule ms level)

  -- the first fault of the selectors of a list, in their order
  pub items_fault : Bool → Items → ℕ → Option SelectorFault
  items_fault in_rule no_items level = None
  items_fault in_rule (item v vs) level = first (selector_fault in_rule v level) (items_fault in_rule vs level)

-- the fault of a value that is no selector
abbrev pub first_fault : Value → Option SelectorFault
first_fault v = selector_fault false v 1

-- the fault of a value that is no selector of a rule
abbrev pub first_rule_fault : Value → Option SelectorFault
first_rule_fault v = selector_fault true v 1

-- ---- the value, where it has no fault

-- the value as a selector, unless it has a fault
abbrev pub selector_if : Option SelectorFault → Value → Option Value
selector_if None v = Some v
selector_if (Some fault) v = None

-- the value, where it is a selector
abbrev pub selector_in : Value → Option Value
selector_in v = selector_if (first_fault v) v

-- the value, where it is the selector of a rule
abbrev pub rule_selector_in : Value → Option Value
rule_selector_in v = selector_if (first_rule_fault v) v
