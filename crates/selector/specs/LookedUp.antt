-- The lists of a parsed selector, each with what is looked up in place of walking it.
-- This crate's own: what is known of each selector that was parsed.
use Rattle.std.specs.Prelude.{⊤, Bool, List, [], ◌∷◌, Option}
use Rattle.couch_json.specs.Value.{Value}
use Rattle.selector.specs.Lookup.{IsLookup}
use Rattle.selector.specs.Operators.{operator_named}
use Rattle.selector.specs.Truth.{is_true, member_truth, truths}
use Rattle.selector.specs.View.{name_of, value_of}
use Rattle.selector.specs.declared.selector.Condition.{Condition}
use Rattle.selector.specs.declared.selector.Condition.TheVariants as condition

-- the truth of one condition, as of a member of a selector
abbrev pub condition_truth : Value → Condition → Option Value → Bool
condition_truth root c current = member_truth root (operator_named (name_of c)) (name_of c) (value_of c) (is_true root (value_of c)) (truths root (value_of c)) current

abbrev pub IsLookedUp : Condition → Type 0
IsLookedUp (condition.List o ss lookup) = IsLookup o lookup ss.items
IsLookedUp c = ⊤

abbrev pub AreLookedUp : List Condition → Type 0
AreLookedUp [] = ⊤
AreLookedUp (c ∷ cs) = IsLookedUp c × AreLookedUp cs
