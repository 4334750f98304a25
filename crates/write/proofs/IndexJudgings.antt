-- What becomes of an index, by the body of the winner that was read.
use Rattle.std.proofs.Common.{◌≡◌, ℕ, Bool, false, cond, List, Option, None, Result, Ok, sym, ap, ◌∙◌}
use Rattle.couch_json.specs.Value.{Value}
use Rattle.policy.specs.declared.rule.Rule.{Rule}
use Rattle.tree.specs.History.{HistoryContent, winner}
use Rattle.tree.specs.Revision.{Revision}
use Rattle.store.specs.Database.{DocumentWrite}
use Rattle.store.specs.Indexes.{winning_body}
use Rattle.write.specs.Admission.{design_refusal, edit_outcome, unless_denied}
use Rattle.write.specs.Bulk.{DocumentOutcome, as_outcome}
use Rattle.write.specs.IndexWrites.{declares, has_index, index_document, index_edit, index_outcome, index_value, with_index}
use Rattle.write.specs.Terms.{Terms}
use Rattle.write.specs.declared.fault.WriteFault.{WriteFault}

module _ (terms : Terms) (id : List ℕ) (h : HistoryContent) (name : List ℕ) (fields : List (List ℕ)) where
  abbrev by_tests : Option Rule → Bool → DocumentOutcome
  by_tests denied has = unless_denied denied (cond has (Ok None) (index_edit terms id h name fields))

  -- what becomes of the edit becomes of an index that the body that was read does not declare
  pub index_edited : (body : Option Value) (index document : Value) (query : Option Revision) (outcome : Result DocumentWrite WriteFault) → design_refusal terms id ≡ None → index ≡ index_value fields
      → body ≡ winning_body h → declares body name index ≡ false → document ≡ with_index name index body → query ≡ winner h → edit_outcome terms id h query document ≡ outcome
      → index_outcome terms id h name fields ≡ as_outcome outcome
  index_edited body index document query outcome allowed built read told made named edited =
      let document_is : document ≡ index_document h name fields = made ∙ (λ i. with_index name (built i) (read i)) in
      let has_is : has_index h name fields ≡ false = (λ i. declares (sym read i) name (sym built i)) ∙ told in
      ap (λ o. by_tests o (has_index h name fields)) allowed ∙ ap (by_tests None) has_is
      ∙ ap as_outcome ((λ i. edit_outcome terms id h (sym named i) (sym document_is i)) ∙ edited)
