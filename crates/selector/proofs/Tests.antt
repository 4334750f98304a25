-- A selector that is one comparison of what a path reaches.
use Rattle.std.proofs.Common.{◌≡◌, ℕ, List, [], ◌∷◌, Bool, true, false, ◌&&◌, Option, Some, None, IfSome, option_and_then, refl, subst, ap, ◌∙◌}
use Rattle.couch_json.specs.FieldPath.{value_at}
use Rattle.couch_json.specs.Parts.{is_object, is_there_and}
use Rattle.couch_json.specs.Value.{Value, object}
use Rattle.couch_json.specs.View.{view}
use Rattle.selector.specs.Lookup.{holds_or}
use Rattle.selector.specs.LookedUp.{condition_truth}
use Rattle.selector.specs.Operators.{operator_named}
use Rattle.selector.specs.Truth.{field_truth, is_true, meets, member_truth, truths}
use Rattle.selector.specs.View.{members_of}
use Rattle.selector.specs.declared.operator.ValueOperator.TheVariants.{IsEqual}
use Rattle.selector.specs.declared.selector.BareValue.{BareValue}
use Rattle.selector.specs.declared.selector.Condition.{Condition}
use Rattle.selector.specs.declared.selector.Condition.TheVariants as condition
use Rattle.selector.specs.declared.selector.Field.{Field}

and_true : (b : Bool) → b && true ≡ b
and_true true = refl
and_true false = refl

-- a selector of one condition
pub one_true : (selector : Value) (cs : List Condition) (c : Condition) → selector ≡ object (members_of cs) → cs ≡ c ∷ []
    → (root : Value) (current : Option Value) → is_true root selector current ≡ condition_truth root c current
one_true selector cs c is one root current =
    ap (λ s. is_true root s current) is ∙ ap (λ cs. is_true root (object (members_of cs)) current) one ∙ and_true (condition_truth root c current)

-- a field with a bare value
pub bare_true : (c : Condition) (f : Field) (b : BareValue) → c ≡ condition.FieldIs f b → (root : Value) (current : Option Value)
    → condition_truth root c current ≡ is_there_and (meets IsEqual (view b.json)) (option_and_then (value_at f.path) current)
bare_true c f b is root current =
    ap (λ c. condition_truth root c current) is ∙ bare f.path (view b.json) f.is_no_operator b.is_bare
  where
    bare : (name : List ℕ) (v : Value) → operator_named name ≡ None → is_object v ≡ false
        → member_truth root (operator_named name) name v (is_true root v) (truths root v) current ≡ is_there_and (meets IsEqual v) (option_and_then (value_at name) current)
    bare name v none no_object = rw (none, no_object)

-- a field with a selector
pub field_true : (c : Condition) (f : Field) (s : Value) → c ≡ condition.Field f s → (root : Value) (current : Option Value)
    → condition_truth root c current ≡ field_truth s (is_true root s) (option_and_then (value_at f.path) current)
field_true c f s is root current =
    ap (λ c. condition_truth root c current) is ∙ plain f.path f.is_no_operator
  where
    plain : (name : List ℕ) → operator_named name ≡ None
        → member_truth root (operator_named name) name s (is_true root s) (truths root s) current ≡ field_truth s (is_true root s) (option_and_then (value_at name) current)
    plain name none = rw none

-- a field's selector that is one condition
pub inner_true : (selector : Value) (c : Condition) → is_object selector ≡ true
    → ((root : Value) (current : Option Value) → is_true root selector current ≡ condition_truth root c current)
    → (root : Value) (current : Option Value) → field_truth selector (is_true root selector) current ≡ condition_truth root c current
inner_true selector c there one root current = rw there (one root current)

pub some_at : {X : Type 0} (P : X → Type 0) {o : Option X} {x : X} → o ≡ Some x → IfSome o P → P x
some_at P is h = subst (λ o. IfSome o P) is h

-- ---- groups

pub none_holds : (test : Value → Bool) → ((v : Value) → test v ≡ false) → (reached : Option Value) → holds_or false test reached ≡ false
none_holds test none None = refl
none_holds test none (Some v) = none v

pub same_holds : (missing : Bool) (one other : Value → Bool) → ((v : Value) → one v ≡ other v) → (reached : Option Value)
    → holds_or missing one reached ≡ holds_or missing other reached
same_holds missing one other same None = refl
same_holds missing one other same (Some v) = same v

pub some_weaker : {X : Type 0} (r : Option X) (P Q : X → Type 0) → ((x : X) → P x → Q x) → IfSome r P → IfSome r Q
some_weaker None P Q f h = tt
some_weaker (Some x) P Q f h = f x h
