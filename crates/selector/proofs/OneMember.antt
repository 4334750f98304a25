-- A selector's members one by one, and the bounds where it has one alone.
use Rattle.std.proofs.Common.{◌≡◌, ◌⊎◌, inl, inr, ℕ, List, [], Bool, true, false, Option, None, option_and_then, subst, sym, ap, ◌∙◌, arith}
use Rattle.couch_json.specs.FieldPath.{value_at}
use Rattle.couch_json.specs.Parts.{is_object, is_there_and}
use Rattle.couch_json.specs.Value.{Value, null, Members, no_members, member}
use Rattle.couch_json.specs.View.{view}
use Rattle.selector.specs.Bounds.{AreJust, IsInside, contain, path_value}
use Rattle.selector.specs.Operators.{operator_named}
use Rattle.selector.specs.Truth.{is_true, meets, member_truth, truths}
use Rattle.selector.specs.View.{name_of, value_of}
use Rattle.selector.specs.declared.bounds.Bounds.{Bounds}
use Rattle.selector.specs.declared.bounds.Bounds.TheVariants.{Any}
use Rattle.selector.specs.declared.operator.ValueOperator.TheVariants.{IsEqual}
use Rattle.selector.specs.declared.selector.BareValue.{BareValue}
use Rattle.selector.specs.declared.selector.Condition.{Condition}
use Rattle.selector.specs.declared.selector.Condition.TheVariants.{FieldIs}
use Rattle.selector.specs.declared.selector.Field.{Field}
use Rattle.selector.proofs.Hulls.{contain-AreJust}

-- ---- a field with a bare value

member_truth-bare : (root : Value) (name : List ℕ) (v : Value) (truth_at : Option Value → Bool) (truths_at : Option Value → List Bool) (current : Option Value)
    → operator_named name ≡ None → is_object v ≡ false
    → member_truth root (operator_named name) name v truth_at truths_at current ≡ is_there_and (meets IsEqual v) (option_and_then (value_at name) current)
member_truth-bare root name v truth_at truths_at current none bare = rw (none, bare)

pub IsInside-FieldIs : (c : Condition) (f : Field) (b : BareValue) → c ≡ FieldIs f b → (path : Option (List ℕ)) (this result : Bounds) → AreJust (view b.json) this
    → ((current : Option Value) → contain this (option_and_then (value_at f.path) current) ≡ true → contain result (path_value path current) ≡ true)
    → IsInside (λ root. member_truth root (operator_named (name_of c)) (name_of c) (value_of c) (is_true root (value_of c)) (truths root (value_of c))) path result
IsInside-FieldIs c f b is path this result just reaches root current holds =
    let v = view b.json in
    let met : is_there_and (meets IsEqual v) (option_and_then (value_at f.path) current) ≡ true =
    sym (member_truth-bare root f.path v (is_true root v) (truths root v) current f.is_no_operator b.is_bare)
    ∙ ap (λ c. member_truth root (operator_named (name_of c)) (name_of c) (value_of c) (is_true root (value_of c)) (truths root (value_of c)) current) (sym is) ∙ holds in
    reaches current (contain-AreJust this v (option_and_then (value_at f.path) current) just met)

-- ---- one member alone

abbrev first_name : Members → List ℕ
first_name no_members = []
first_name (member name v ms) = name

abbrev first_value : Members → Value
first_value no_members = null
first_value (member name v ms) = v

abbrev after_first : Members → Members
after_first no_members = no_members
after_first (member name v ms) = ms

abbrev member_count : Members → ℕ
member_count no_members = 0
member_count (member name v ms) = 1

-- the one member is still to come, or it was the last
abbrev pub OneMember : List ℕ → Value → Bounds → Members → Type 0
OneMember p b bounds left = ((bounds ≡ Any) × (left ≡ member p b no_members)) ⊎ (AreJust b bounds × (left ≡ no_members))

pub OneMember-next : (p : List ℕ) (b : Value) (name : List ℕ) (v : Value) (rest : Members) (before now : Bounds) → (name ≡ p → v ≡ b → before ≡ Any → AreJust v now)
    → OneMember p b before (member name v rest) → OneMember p b now rest
OneMember-next p b name v rest before now just (inl h) =
    let named : name ≡ p = ap first_name h.1 in
    let valued : v ≡ b = ap first_value h.1 in
    inr (subst (λ v. AreJust v now) valued (just named valued h.0), ap after_first h.1)
OneMember-next p b name v rest before now just (inr h) = absurd (omega (arith, ap member_count h.1))

pub OneMember-step : (p : List ℕ) (b : Value) (name : List ℕ) (v : Value) (rest : Members) (before this now : Bounds) → (before ≡ Any → now ≡ this)
    → (name ≡ p → v ≡ b → AreJust v this)
    → OneMember p b before (member name v rest) → OneMember p b now rest
OneMember-step p b name v rest before this now any just (inl h) =
    let named : name ≡ p = ap first_name h.1 in
    let valued : v ≡ b = ap first_value h.1 in
    let is : now ≡ this = any h.0 in
    inr (subst (λ bounds. AreJust b bounds) (sym is) (subst (λ v. AreJust v this) valued (just named valued)), ap after_first h.1)
OneMember-step p b name v rest before this now any just (inr h) = absurd (omega (arith, ap member_count h.1))
