-- The truth of a list of selectors, by whether one of them decides it.
use Rattle.std.proofs.Common.{◌≡◌, ℕ, zero, suc, ◌≤◌, List, [], ◌∷◌, ◌++◌, Bool, true, false, not, ◌||◌, ◌&&◌, Option, Some, Vec, Global, refl, subst, sym, ap, ◌∙◌, arith}
use Rattle.std.specs.Prelude.{slice_get}
use Rattle.std.specs.List.{list_all, list_any}
use Rattle.couch_json.specs.Value.{Value, array}
use Rattle.couch_json.specs.View.{items_of}
use Rattle.selector.specs.Lookup.{IsLookup, lookup_decides, selector_decides, truth_by}
use Rattle.selector.specs.LookedUp.{AreLookedUp, IsLookedUp}
use Rattle.selector.specs.Operators.{list_operator_name, operator_named}
use Rattle.selector.specs.Truth.{is_true, item_truths, member_truth, truths}
use Rattle.selector.specs.View.{name_of, value_of}
use Rattle.selector.specs.declared.lookup.Lookup.{Lookup}
use Rattle.selector.specs.declared.operator.ListOperator.{ListOperator}
use Rattle.selector.specs.declared.operator.ListOperator.TheVariants.{AllTrue, SomeTrue, NoneTrue}
use Rattle.selector.specs.declared.selector.Condition.{Condition}
use Rattle.selector.specs.declared.selector.Condition.TheVariants as condition
use Rattle.selector.specs.declared.selector.Selector.TheDeep.{size-Selector}
use denote.Param.Weighed.{most}

not_either : (t a : Bool) → not (not t || a) ≡ t && not a
not_either true a = refl
not_either false a = refl

all_true : (root : Value) (current : Option Value) (ss : List Value)
    → not (list_any (selector_decides AllTrue root current) ss) ≡ list_all (λ b. b) (item_truths root (items_of ss) current)
all_true root current [] = refl
all_true root current (s ∷ ss) =
    not_either (is_true root s current) (list_any (selector_decides AllTrue root current) ss) ∙ ap (λ b. is_true root s current && b) (all_true root current ss)

some_true : (root : Value) (current : Option Value) (ss : List Value)
    → list_any (selector_decides SomeTrue root current) ss ≡ list_any (λ b. b) (item_truths root (items_of ss) current)
some_true root current [] = refl
some_true root current (s ∷ ss) = ap (λ b. is_true root s current || b) (some_true root current ss)

one_of_none : (root : Value) (current : Option Value) (ss : List Value)
    → list_any (selector_decides NoneTrue root current) ss ≡ list_any (λ b. b) (item_truths root (items_of ss) current)
one_of_none root current [] = refl
one_of_none root current (s ∷ ss) = ap (λ b. is_true root s current || b) (one_of_none root current ss)

member_list : (o : ListOperator) (root : Value) (current : Option Value) (ss : List Value) → truth_by o (list_any (selector_decides o root current) ss)
    ≡ member_truth root (operator_named (list_operator_name o)) (list_operator_name o) (array (items_of ss)) (is_true root (array (items_of ss))) (truths root (array (items_of ss))) current
member_list AllTrue root current ss = all_true root current ss
member_list SomeTrue root current ss = some_true root current ss
member_list NoneTrue root current ss = ap not (one_of_none root current ss)

-- the truth of a member that is a list, as what is looked up and the selectors that are asked decide it
pub list_true : (c : Condition) (o : ListOperator) (ss : Vec Value Global) (lookup : Lookup) → c ≡ condition.List o ss lookup → IsLookedUp c
    → (root : Value) (current : Option Value) (decided result : Bool) → result ≡ truth_by o decided → decided ≡ lookup_decides o root current ss.items lookup
    → result ≡ member_truth root (operator_named (name_of c)) (name_of c) (value_of c) (is_true root (value_of c)) (truths root (value_of c)) current
list_true c o ss lookup is looked root current decided result by found =
    let known : IsLookup o lookup ss.items = subst IsLookedUp is looked in
    by ∙ ap (truth_by o) (found ∙ known root current) ∙ member_list o root current ss.items
    ∙ ap (λ c. member_truth root (operator_named (name_of c)) (name_of c) (value_of c) (is_true root (value_of c)) (truths root (value_of c)) current) (sym is)

-- one more condition
pub looked_up-push : (cs : List Condition) (c : Condition) → AreLookedUp cs → IsLookedUp c → AreLookedUp (cs ++ c ∷ [])
looked_up-push [] c all this = (this, tt)
looked_up-push (d ∷ cs) c all this = (all.0, looked_up-push cs c all.1 this)

-- a selector of a list is no deeper than the deepest
pub most_at : (vs : List Value) (n : ℕ) (v : Value) → slice_get vs n ≡ Some v → size-Selector v ≤ most size-Selector vs
most_at [] n v is = absurd cc
most_at (w ∷ vs) zero v is = let same : w ≡ v = cc in subst (λ x. size-Selector x ≤ most size-Selector (w ∷ vs)) same (omega arith)
most_at (w ∷ vs) (suc n) v is = omega (arith, most_at vs n v is)
