-- Where a database has no update rules, none refuses, and of a design document none ever does.
use Rattle.std.proofs.Common.{◌≡◌, ℕ, Bool, true, false, cond, List, [], ◌∷◌, length, nat_eq, Option, None, refl, sym, ap, ◌∙◌, arith}
use Rattle.std.proofs.lemmas.Bool.Decides.{nat_tests}
use Rattle.std.specs.FinMap.{entries, len, len-entries}
use Rattle.couch_json.specs.Value.{Value}
use Rattle.policy.specs.Argument.{argument}
use Rattle.policy.specs.UpdateRules.{first_broken, update_verdict}
use Rattle.tree.specs.DocumentId.{is_design_id}
use Rattle.tree.specs.History.{HistoryContent}
use Rattle.tree.specs.Revision.{Revision}
use Rattle.write.specs.Admission.{held_document, proposed_document, rule_refusal}
use Rattle.write.specs.Terms.{Terms}
use Rattle.write.specs.declared.document.ParsedDocument.{ParsedDocument}

none_broken : (rules : List (List ℕ × Option Value)) (v : Value) → length rules ≡ 0 → first_broken rules v ≡ None
none_broken [] v e = refl
none_broken (rule ∷ rules) v e = absurd cc

pub no_refusal : (terms : Terms) (id : List ℕ) (h : HistoryContent) (sent : ParsedDocument) (rev : Option Revision) → nat_eq (len terms.rules) 0 ≡ true → rule_refusal terms id h sent rev ≡ None
no_refusal terms id h sent rev e = by (is_design_id id)
  where
    none : len terms.rules ≡ 0
    none = grind (arith, nat_tests, e)

    v : Value
    v = argument (proposed_document id sent) (held_document id h rev) terms.caller terms.name terms.security

    by : (b : Bool) → cond b None (update_verdict terms.rules v) ≡ None
    by true = refl
    by false = rw (none_broken (entries terms.rules) v (sym (len-entries terms.rules) ∙ none)) refl

-- nor of a design document
pub design_unruled : (terms : Terms) (id : List ℕ) (h : HistoryContent) (sent : ParsedDocument) (rev : Option Revision) → is_design_id id ≡ true → rule_refusal terms id h sent rev ≡ None
design_unruled terms id h sent rev design = ap (λ b. cond b None (update_verdict terms.rules (argument (proposed_document id sent) (held_document id h rev) terms.caller terms.name terms.security))) design
