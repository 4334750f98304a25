-- The update rules of a database: what its design documents ask of every write, and the first of them that refuses one.
-- CouchDB manual, ddocs/ddocs, "Validate Document Update Functions" (`validate_doc_update`); that a rule is a selector and no function, and that rules go by the bytes of their ids, is this server's own.
use Rattle.std.specs.Prelude.{◌≡◌, ⊤, ℕ, Bool, false, true, List, [], ◌∷◌, codes, Option, Some, None, option_map, if◌then◌else◌}
use Rattle.std.specs.declared.cmp.Ordering.TheVariants.{Less}
use Rattle.std.specs.Ordering.{nat_cmp}
use Rattle.std.specs.Cmp.Lexicographic.{slice_cmp}
use Rattle.std.specs.Coded.{Coded, coded_list, coded_option, coded_ℕ}
use Rattle.std.specs.FinMap as map
use Rattle.std.specs.FinMap.{FinMap, empty, entries, find, get, insert}
use Rattle.couch_json.specs.Code.{value_code}
use Rattle.couch_json.specs.Value.{Value, member_of}
use Rattle.selector.specs.Grammar.{rule_selector_in}
use Rattle.selector.specs.Truth.{selector_matches}
use Rattle.policy.specs.declared.rule.Rule.{Rule}
use Rattle.policy.specs.declared.rule.Rule.TheVariants.{Update}

-- rules by the ids of the design documents that declare them: each the selector of a rule, or None where what is declared is none
abbrev pub Rules : Type 0
Rules = FinMap {K = List ℕ} (slice_cmp nat_cmp) (Option Value)

-- a code for rules, by which a type of the program may stand for them
abbrev pub rules_code : Coded Rules
rules_code = map.code (coded_list coded_ℕ) (coded_option value_code)

-- ---- the rules of design documents, each its id and its body

-- the rule that a body declares, if it declares one
abbrev pub rule_in : Value → Option (Option Value)
rule_in body = option_map rule_selector_in (member_of body (codes "validate_doc_update"))

-- the rules with that of a design document, if it declares one
abbrev pub with_declared : Rules → List ℕ → Option (Option Value) → Rules
with_declared rules id None = rules
with_declared rules id (Some rule) = insert rules id rule

-- the rules with that of one more design document
abbrev pub with_rule : Rules → List ℕ × Value → Rules
with_rule rules document = with_declared rules document.0 (rule_in document.1)

-- the rules with those of more design documents, one after another
abbrev pub with_rules : Rules → List (List ℕ × Value) → Rules
with_rules rules [] = rules
with_rules rules (document ∷ documents) = with_rules (with_rule rules document) documents

-- the rules of design documents; in what order they stand doesn't matter where no id stands twice
abbrev pub rules_of : List (List ℕ × Value) → Rules
rules_of documents = with_rules empty documents

-- no id stands twice
abbrev pub AreOnce : List (List ℕ × Value) → Type 0
AreOnce [] = ⊤
AreOnce (document ∷ documents) = (find (slice_cmp nat_cmp) document.0 documents ≡ None) × AreOnce documents

-- ---- what the rules say of a write, by the argument that they are asked of

-- the rule holds of the argument; one that is no selector holds of none
abbrev pub holds : Option Value → Value → Bool
holds None argument = false
holds (Some selector) argument = selector_matches selector argument

-- the design document of the first rule that does not hold
abbrev pub first_broken : List (List ℕ × Option Value) → Value → Option (List ℕ)
first_broken [] argument = None
first_broken (rule ∷ rules) argument = if holds rule.1 argument then first_broken rules argument else Some rule.0

-- the design document whose rule, as the first in the order of ids, doesn't hold
abbrev pub update_refusal : Rules → Value → Option (List ℕ)
update_refusal rules argument = first_broken (entries rules) argument

-- the same as the rule that refuses
abbrev pub update_verdict : Rules → Value → Option Rule
update_verdict rules argument = option_map (λ id. Update id) (update_refusal rules argument)

-- the rule of this id doesn't hold of the argument, and all rules of lesser ids do
pub record IsFirstBroken (rules : Rules) (argument : Value) (id : List ℕ) : Type 0 where
  pub rule : Option Value
  pub there : get rules id ≡ Some rule
  pub broken : holds rule argument ≡ false
  pub first : (other : List ℕ) (r : Option Value) → get rules other ≡ Some r → slice_cmp nat_cmp other id ≡ Less → holds r argument ≡ true
