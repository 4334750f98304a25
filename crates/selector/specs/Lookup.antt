-- What is looked up in place of asking each selector of a list.
-- No outside source decides: it says of the parts of the code what they find.
use Rattle.std.specs.Prelude.{◌≡◌, ℕ, List, Bool, false, ◌||◌, not, if◌then◌else◌, Option, None, Some, option_map, slice_get}
use Rattle.std.specs.List.{list_any}
use Rattle.std.specs.Ordering.{is_ge, is_gt, is_le, is_lt}
use Rattle.couch_json.specs.Collation.{collation}
use Rattle.couch_json.specs.Parts.{is_there_and}
use Rattle.couch_json.specs.Value.{Value}
use Rattle.couch_json.specs.View.{view, items_view}
use Rattle.selector.specs.Bounds.{path_value}
use Rattle.selector.specs.Truth.{elements_or_none, is_element, is_true, meets}
use Rattle.selector.specs.declared.operator.ListOperator.{ListOperator}
use Rattle.selector.specs.declared.operator.ListOperator.TheVariants.{AllTrue, SomeTrue, NoneTrue}
use Rattle.selector.specs.declared.operator.ValueOperator.TheVariants.{IsIn, IsNotIn}
use Rattle.selector.specs.declared.value_set.Comparison.{Comparison}
use Rattle.selector.specs.declared.value_set.Comparison.TheVariants as comparison
use Rattle.selector.specs.declared.value_set.Limit.{Limit}
use Rattle.selector.specs.declared.value_set.SortedValues.{SortedValues}
use Rattle.selector.specs.declared.value_set.ValueSet.{ValueSet}
use Rattle.selector.specs.declared.lookup.Draft.{Draft}
use Rattle.selector.specs.declared.lookup.Drafts.{Drafts}
use Rattle.selector.specs.declared.lookup.Group.{Group}
use Rattle.selector.specs.declared.lookup.Lookup.{Lookup}
use Rattle.selector.specs.declared.lookup.Test.{Test}

-- ---- sets of values

-- below a limit, or equal to it where that is inside
abbrev pub is_under : Value → Bool → Value → Bool
is_under limit inside v = if inside then is_le (collation v limit) else is_lt (collation v limit)

-- above it
abbrev pub is_over : Value → Bool → Value → Bool
is_over limit inside v = if inside then is_ge (collation v limit) else is_gt (collation v limit)

abbrev pub lies_below : Option Limit → Value → Bool
lies_below None v = false
lies_below (Some limit) v = is_under (view limit.value) limit.inclusive v

abbrev pub lies_above : Option Limit → Value → Bool
lies_above None v = false
lies_above (Some limit) v = is_over (view limit.value) limit.inclusive v

abbrev pub set_has : ValueSet → Value → Bool
set_has set v = is_element v (items_view set.values.items) || (lies_below set.below v || lies_above set.above v)

abbrev pub sorted_has : SortedValues → Value → Bool
sorted_has set v = is_element v (elements_or_none set.among) || (lies_below set.below v || lies_above set.above v)

-- ---- what decides a list

abbrev pub comparison_meets : Comparison → Value → Bool
comparison_meets (comparison.Meets o argument) v = meets o (view argument.now) v
comparison_meets (comparison.IsAmong members) v = meets IsIn members.now v
comparison_meets (comparison.IsNotAmong members) v = meets IsNotIn members.now v

-- one selector with this truth decides the list: a false one where all have to be true, else a true one
abbrev pub decides : ListOperator → Bool → Bool
decides AllTrue b = not b
decides SomeTrue b = b
decides NoneTrue b = b

-- the truth of the list, by whether one of its selectors decides it
abbrev pub truth_by : ListOperator → Bool → Bool
truth_by AllTrue decided = not decided
truth_by SomeTrue decided = decided
truth_by NoneTrue decided = not decided

abbrev pub selector_decides : ListOperator → Value → Option Value → Value → Bool
selector_decides o root current selector = decides o (is_true root selector current)

-- the selector at this place, if there is one
abbrev pub place_decides : ListOperator → Value → Option Value → List Value → ℕ → Bool
place_decides o root current selectors at = is_there_and (selector_decides o root current) (slice_get selectors at)

-- ---- what is looked up

-- a test of a value, which may be missing
abbrev pub holds_or : Bool → (Value → Bool) → Option Value → Bool
holds_or missing test None = missing
holds_or missing test (Some v) = test v

-- what the path of a draft reaches is among its values, or missing where that decides too
abbrev pub draft_decides : Draft → Option Value → Bool
draft_decides draft current = holds_or draft.missing (set_has draft.values) (path_value draft.path current)

abbrev pub group_decides : Group → Option Value → Bool
group_decides group current = holds_or group.missing (sorted_has group.values) (path_value group.path current)

abbrev pub some_group_decides : List Group → Option Value → Bool
some_group_decides groups current = list_any (λ group. group_decides group current) groups

abbrev pub drafts_decide : Drafts → Option Value → Bool
drafts_decide drafts current = draft_decides drafts.open current || some_group_decides drafts.groups.items current

-- the comparison that a selector is decides the list
abbrev pub test_decides : ListOperator → Test → Option Value → Bool
test_decides o test current = decides o (is_there_and (comparison_meets test.comparison) (path_value (option_map (λ p. p.now) test.path) current))

-- one of the selectors at these places passes a test
abbrev pub some_place_has : (Value → Bool) → List Value → List ℕ → Bool
some_place_has test selectors places = list_any (λ at. is_there_and test (slice_get selectors at)) places

-- what is looked up decides the list, or one of the selectors that are left does
abbrev pub lookup_decides : ListOperator → Value → Option Value → List Value → Lookup → Bool
lookup_decides o root current selectors lookup =
    some_group_decides lookup.groups.items current || list_any (place_decides o root current selectors) lookup.walked.items

-- it does if and only if one of all does
abbrev pub IsLookup : ListOperator → Lookup → List Value → Type 0
IsLookup o lookup selectors =
    (root : Value) (current : Option Value) → lookup_decides o root current selectors lookup ≡ list_any (selector_decides o root current) selectors
