-- Selectors without a fault: they don't look at the root, and rules may have them.
use Rattle.std.proofs.Common.{◌≡◌, ℕ, ◌+◌, Bool, true, false, if◌then◌else◌, ◌&&◌, nat_lt, List, ◌∷◌, Option, Some, None, option_and_then, refl, ap, ◌∙◌, rules}
use Rattle.couch_json.specs.FieldPath.{is_field_path, value_at}
use Rattle.couch_json.specs.Parts.{is_object, is_there_and}
use Rattle.couch_json.specs.Value.{Value, null, truth, whole, text, array, object, Items, no_items, item, Members, no_members, member}
use Rattle.selector.specs.Grammar.{first, filled_fault, begins_as_operator, max_level, selector_fault, list_fault, members_fault, items_fault, member_fault}
use Rattle.selector.specs.Operators.{operator_named}
use Rattle.selector.specs.Truth.{is_true, truths, are_true, item_truths, member_truth, selector_operator_truth, list_operator_truth, meets}
use Rattle.selector.specs.declared.fault.SelectorFault.{SelectorFault}
use Rattle.selector.specs.declared.fault.SelectorFault.TheVariants as fault
use Rattle.selector.specs.declared.operator.Operator.{Operator}
use Rattle.selector.specs.declared.operator.Operator.TheVariants as operator
use Rattle.selector.specs.declared.operator.ValueOperator.TheVariants.{IsEqual}

first_none : (a b : Option SelectorFault) → first a b ≡ None → (a ≡ None) × (b ≡ None)
first_none None b h = (refl, h)
first_none (Some f) b h = search (rules, h)

filled_none : (vs : Items) (among : Option SelectorFault) → filled_fault vs among ≡ None → among ≡ None
filled_none no_items among h = search (rules, h)
filled_none (item v vs) among h = h

-- a field without a fault, whose value is an object, has a selector without a fault
field_none : (reserved lawful : Bool) (f : Option SelectorFault)
    → (if reserved then Some fault.Operator else (if lawful then f else Some fault.Argument)) ≡ None → f ≡ None
field_none true lawful f h = search (rules, h)
field_none false true f h = h
field_none false false f h = search (rules, h)

-- a selector that is not too deep
not_deep : (deep : Bool) (f : Option SelectorFault) → (if deep then Some fault.Depth else f) ≡ None → f ≡ None
not_deep true f h = search (rules, h)
not_deep false f h = h

-- ---- the root

same_field : (root other : Value) (name : List ℕ) (v : Value) (level : ℕ) (reached : Option Value) (b : Bool)
    → (if begins_as_operator name then Some fault.Operator else (if is_field_path name then (if b then selector_fault false v level else None) else Some fault.Argument)) ≡ None
    → (selector_fault false v level ≡ None → (c : Option Value) → is_true root v c ≡ is_true other v c)
    → (if b then is_true root v reached else is_there_and (meets IsEqual v) reached) ≡ (if b then is_true other v reached else is_there_and (meets IsEqual v) reached)
same_field root other name v level reached true h inside = inside (field_none (begins_as_operator name) (is_field_path name) (selector_fault false v level) h) reached
same_field root other name v level reached false h inside = refl

same_member : (root other : Value) (o : Option Operator) (name : List ℕ) (v : Value) (level : ℕ) (current : Option Value)
    → member_fault false o name v (selector_fault false v level) (list_fault false v level) ≡ None
    → (selector_fault false v level ≡ None → (c : Option Value) → is_true root v c ≡ is_true other v c)
    → (list_fault false v level ≡ None → truths root v current ≡ truths other v current)
    → member_truth root o name v (is_true root v) (truths root v) current ≡ member_truth other o name v (is_true other v) (truths other v) current
same_member root other (Some operator.Exists) name v level current h inside among = refl
same_member root other (Some (operator.Value o)) name v level current h inside among = refl
same_member root other (Some operator.SameAs) name v level current h inside among = search (rules, h)
same_member root other (Some (operator.Selector o)) name v level current h inside among = λ i. selector_operator_truth o (λ c. inside h c i) current
same_member root other (Some (operator.List o)) name v level current h inside among = ap (list_operator_truth o) (among h)
same_member root other None name v level current h inside among =
    same_field root other name v level (option_and_then (value_at name) current) (is_object v) h inside

mutual
  pub same_truth : (root other : Value) (v : Value) (level : ℕ) → selector_fault false v level ≡ None → (current : Option Value) → is_true root v current ≡ is_true other v current
  same_truth root other null level h current = refl
  same_truth root other (truth b) level h current = refl
  same_truth root other (whole n) level h current = refl
  same_truth root other (text s) level h current = refl
  same_truth root other (array vs) level h current = refl
  same_truth root other (object ms) level h current = same_members root other ms level (not_deep (nat_lt max_level level) (members_fault false ms level) h) current

  same_truths : (root other : Value) (v : Value) (level : ℕ) (current : Option Value) → list_fault false v level ≡ None → truths root v current ≡ truths other v current
  same_truths root other null level current h = refl
  same_truths root other (truth b) level current h = refl
  same_truths root other (whole n) level current h = refl
  same_truths root other (text s) level current h = refl
  same_truths root other (array vs) level current h = same_items root other vs level current (filled_none vs (items_fault false vs level) h)
  same_truths root other (object ms) level current h = refl

  same_members : (root other : Value) (ms : Members) (level : ℕ) → members_fault false ms level ≡ None → (current : Option Value) → are_true root ms current ≡ are_true other ms current
  same_members root other no_members level h current = refl
  same_members root other (member name v ms) level h current =
      let each = first_none (member_fault false (operator_named name) name v (selector_fault false v (level + 1)) (list_fault false v (level + 1))) (members_fault false ms level) h in
      let here = same_member root other (operator_named name) name v (level + 1) current each.0 (same_truth root other v (level + 1)) (same_truths root other v (level + 1) current) in
      let rest = same_members root other ms level each.1 current in
      λ i. here i && rest i

  same_items : (root other : Value) (vs : Items) (level : ℕ) (current : Option Value) → items_fault false vs level ≡ None → item_truths root vs current ≡ item_truths other vs current
  same_items root other no_items level current h = refl
  same_items root other (item v vs) level current h =
      let each = first_none (selector_fault false v level) (items_fault false vs level) h in
      let here = same_truth root other v level each.0 current in
      let rest = same_items root other vs level current each.1 in
      λ i. here i ∷ rest i

-- ---- rules

rule_field : (reserved lawful nested : Bool) (f g : Option SelectorFault) → (f ≡ None → g ≡ None)
    → (if reserved then Some fault.Operator else (if lawful then (if nested then f else None) else Some fault.Argument)) ≡ None
    → (if reserved then Some fault.Operator else (if lawful then (if nested then g else None) else Some fault.Argument)) ≡ None
rule_field true lawful nested f g both h = h
rule_field false true true f g both h = both h
rule_field false true false f g both h = h
rule_field false false nested f g both h = h

rule_member : (o : Option Operator) (name : List ℕ) (v : Value) (f g in_list in_rule_list : Option SelectorFault)
    → (f ≡ None → g ≡ None) → (in_list ≡ None → in_rule_list ≡ None)
    → member_fault false o name v f in_list ≡ None → member_fault true o name v g in_rule_list ≡ None
rule_member (Some operator.Exists) name v f g in_list in_rule_list inside among h = h
rule_member (Some (operator.Value o)) name v f g in_list in_rule_list inside among h = h
rule_member (Some operator.SameAs) name v f g in_list in_rule_list inside among h = search (rules, h)
rule_member (Some (operator.Selector o)) name v f g in_list in_rule_list inside among h = inside h
rule_member (Some (operator.List o)) name v f g in_list in_rule_list inside among h = among h
rule_member None name v f g in_list in_rule_list inside among h = rule_field (begins_as_operator name) (is_field_path name) (is_object v) f g inside h

first_of_none : (a b : Option SelectorFault) → a ≡ None → b ≡ None → first a b ≡ None
first_of_none a b no_a no_b = ap (λ f. first f b) no_a ∙ no_b

rule_filled : (vs : Items) (f g : Option SelectorFault) → (f ≡ None → g ≡ None) → filled_fault vs f ≡ None → filled_fault vs g ≡ None
rule_filled no_items f g among h = h
rule_filled (item v vs) f g among h = among h

rule_depth : (deep : Bool) (f g : Option SelectorFault) → (f ≡ None → g ≡ None) → (if deep then Some fault.Depth else f) ≡ None → (if deep then Some fault.Depth else g) ≡ None
rule_depth true f g inside h = h
rule_depth false f g inside h = inside h

mutual
  pub rule_selector : (v : Value) (level : ℕ) → selector_fault false v level ≡ None → selector_fault true v level ≡ None
  rule_selector null level h = h
  rule_selector (truth b) level h = h
  rule_selector (whole n) level h = h
  rule_selector (text s) level h = h
  rule_selector (array vs) level h = h
  rule_selector (object ms) level h = rule_depth (nat_lt max_level level) (members_fault false ms level) (members_fault true ms level) (rule_members ms level) h

  rule_list : (v : Value) (level : ℕ) → list_fault false v level ≡ None → list_fault true v level ≡ None
  rule_list null level h = h
  rule_list (truth b) level h = h
  rule_list (whole n) level h = h
  rule_list (text s) level h = h
  rule_list (array vs) level h = rule_filled vs (items_fault false vs level) (items_fault true vs level) (rule_items vs level) h
  rule_list (object ms) level h = h

  rule_members : (ms : Members) (level : ℕ) → members_fault false ms level ≡ None → members_fault true ms level ≡ None
  rule_members no_members level h = h
  rule_members (member name v ms) level h =
      let selector = selector_fault false v (level + 1) in
      let in_rule = selector_fault true v (level + 1) in
      let list = list_fault false v (level + 1) in
      let in_rule_list = list_fault true v (level + 1) in
      let each = first_none (member_fault false (operator_named name) name v selector list) (members_fault false ms level) h in
      first_of_none (member_fault true (operator_named name) name v in_rule in_rule_list) (members_fault true ms level)
      (rule_member (operator_named name) name v selector in_rule list in_rule_list (rule_selector v (level + 1)) (rule_list v (level + 1)) each.0)
      (rule_members ms level each.1)

  rule_items : (vs : Items) (level : ℕ) → items_fault false vs level ≡ None → items_fault true vs level ≡ None
  rule_items no_items level h = h
  rule_items (item v vs) level h =
      let each = first_none (selector_fault false v level) (items_fault false vs level) h in
      first_of_none (selector_fault true v level) (items_fault true vs level) (rule_selector v level each.0) (rule_items vs level each.1)
