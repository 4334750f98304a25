-- What has leave is appended, and what is denied by right is denied; also among others.
use Rattle.std.proofs.Common.{◌≡◌, ◌⊎◌, ℕ, Bool, true, false, cond, List, [], ◌∷◌, ◌++◌, Option, Some, None, Result, Ok, Err, refl, ap, ◌∙◌, inl, inr}
use Rattle.couch_json.specs.Parts.{is_there_and}
use Rattle.couch_json.specs.Value.{Value}
use Rattle.policy.specs.Argument.{argument}
use Rattle.policy.specs.UpdateRules.{update_verdict}
use Rattle.policy.specs.Verdict.{verdict}
use Rattle.policy.specs.declared.action.Action.TheVariants.{WriteDesign}
use Rattle.policy.specs.declared.rule.Rule.{Rule}
use Rattle.tree.specs.DocumentId.{is_design_id}
use Rattle.tree.specs.Revision.{Revision}
use Rattle.tree.specs.History.{HistoryContent, ancestors_of_parent, is_known}
use Rattle.tree.specs.declared.placement.Placed.TheVariants.{Added}
use Rattle.store.specs.Database.{DocumentWrite}
use Rattle.write.specs.Admission.{ancestors, ancestry_placement, design_refusal, edit_of, edit_outcome, given, held_document, nearest_held, next_edit, parent_for_edit, placement_outcome, proposed_document, replicated_outcome, revision_after, rule_refusal, unless_denied, unless_known, unnamed_deletion, write_at}
use Rattle.write.specs.Bulk.{Histories, after, as_outcome, document_outcome, outcome_in, outcomes}
use Rattle.write.specs.Denials.{EditHasLeave, EditIsDueTo, HasLeave, IsDesignDenial, IsEditDenial, IsReplicationDenial, IsUpdateDenial, ReplicationHasLeave, ReplicationIsDueTo}
use Rattle.write.specs.Document.{Ancestry, ancestry_in, id_in, sent_in}
use Rattle.write.specs.Settling.{after_all}
use Rattle.write.specs.Terms.{Terms}
use Rattle.write.specs.declared.document.ParsedDocument.{ParsedDocument}
use Rattle.write.specs.declared.fault.WriteFault.{WriteFault}
use Rattle.write.specs.declared.fault.WriteFault.TheVariants.{BadDocument, Conflict, Denied, Generation}

-- ---- by no rule

no_design : (terms : Terms) (id : List ℕ) (h : HistoryContent) (sent : ParsedDocument) (rev : Option Revision) → HasLeave terms id h sent rev → design_refusal terms id ≡ None
no_design terms id h sent rev leave = by (is_design_id id) refl
  where
    by : (b : Bool) → is_design_id id ≡ b → design_refusal terms id ≡ None
    by true is = ap (λ b. cond b (verdict WriteDesign terms.caller terms.security) None) is ∙ leave.design is
    by false is = ap (λ b. cond b (verdict WriteDesign terms.caller terms.security) None) is

no_rule : (terms : Terms) (id : List ℕ) (h : HistoryContent) (sent : ParsedDocument) (rev : Option Revision) → HasLeave terms id h sent rev → rule_refusal terms id h sent rev ≡ None
no_rule terms id h sent rev leave = by (is_design_id id) refl
  where
    ruled : Option Rule
    ruled = update_verdict terms.rules (argument (proposed_document id sent) (held_document id h rev) terms.caller terms.name terms.security)

    by : (b : Bool) → is_design_id id ≡ b → rule_refusal terms id h sent rev ≡ None
    by true is = ap (λ b. cond b None ruled) is
    by false is = ap (λ b. cond b None ruled) is ∙ leave.updates is

-- ---- by the rule that is due

design_due : (terms : Terms) (id : List ℕ) (rule : Rule) → IsDesignDenial terms id rule → design_refusal terms id ≡ Some rule
design_due terms id rule due = ap (λ b. cond b (verdict WriteDesign terms.caller terms.security) None) due.design ∙ due.first

-- what an update rule denies is no design document
other_due : (terms : Terms) (id : List ℕ) (h : HistoryContent) (sent : ParsedDocument) (rev : Option Revision) (rule : Rule) → IsUpdateDenial terms id h sent rev rule → design_refusal terms id ≡ None
other_due terms id h sent rev rule due = ap (λ b. cond b (verdict WriteDesign terms.caller terms.security) None) due.other

rule_due : (terms : Terms) (id : List ℕ) (h : HistoryContent) (sent : ParsedDocument) (rev : Option Revision) (rule : Rule) → IsUpdateDenial terms id h sent rev rule → rule_refusal terms id h sent rev ≡ Some rule
rule_due terms id h sent rev rule due =
    ap (λ b. cond b None (update_verdict terms.rules (argument (proposed_document id sent) (held_document id h rev) terms.caller terms.name terms.security))) due.other ∙ due.first

-- ---- edits

module _ (terms : Terms) (id : List ℕ) (h : HistoryContent) where
  -- the write of a revision that is made
  abbrev appended : ParsedDocument → Option Revision → Option Revision → Result DocumentWrite WriteFault
  appended sent parent next = given Generation next (λ rev. Ok (write_at id (rev ∷ ancestors_of_parent h parent) sent))

  -- what becomes of an edit that follows, by the rule that refuses it
  abbrev ruled : ParsedDocument → Option Revision → Option Rule → Result DocumentWrite WriteFault
  ruled sent parent rule = unless_denied rule (appended sent parent (revision_after sent parent))

  -- an edit that follows and whose revision is not known is judged by the update rules
  followed : (sent : ParsedDocument) (parent : Option Revision) → parent_for_edit h sent.rev ≡ Some parent → is_there_and (is_known h) (revision_after sent parent) ≡ false
      → given Conflict (parent_for_edit h sent.rev) (next_edit terms id h sent) ≡ ruled sent parent (rule_refusal terms id h sent parent)
  followed sent parent follows unknown =
      ap (λ o. given Conflict o (next_edit terms id h sent)) follows
      ∙ ap (λ b. cond b (Err Conflict) (ruled sent parent (rule_refusal terms id h sent parent))) unknown

  -- what becomes of what an edit says, by the rule that refuses design documents
  abbrev allowed : ParsedDocument → Option Rule → Result DocumentWrite WriteFault
  allowed sent rule = unless_denied rule (given Conflict (parent_for_edit h sent.rev) (next_edit terms id h sent))

module _ (terms : Terms) (id : List ℕ) (h : HistoryContent) (query : Option Revision) (document : Value) where
  said : (sent : ParsedDocument) → edit_of id query document ≡ Some sent → edit_outcome terms id h query document ≡ allowed terms id h sent (design_refusal terms id)
  said sent says = ap (λ o. given BadDocument o (λ s. allowed terms id h s (design_refusal terms id))) says

  -- an edit with leave comes down to what there is to append
  edit_down : (leave : EditHasLeave terms id h query document) → edit_outcome terms id h query document ≡ appended terms id h leave.sent leave.parent (revision_after leave.sent leave.parent)
  edit_down leave =
      said leave.sent leave.says
      ∙ ap (allowed terms id h leave.sent) (no_design terms id h leave.sent leave.parent leave.leave)
      ∙ followed terms id h leave.sent leave.parent leave.follows leave.unknown
      ∙ ap (ruled terms id h leave.sent leave.parent) (no_rule terms id h leave.sent leave.parent leave.leave)

  pub edit_appended : (rev : Revision) (leave : EditHasLeave terms id h query document) → revision_after leave.sent leave.parent ≡ Some rev
      → edit_outcome terms id h query document ≡ Ok (write_at id (rev ∷ ancestors_of_parent h leave.parent) leave.sent)
  edit_appended rev leave further = edit_down leave ∙ ap (appended terms id h leave.sent leave.parent) further

  pub edit_ended : (leave : EditHasLeave terms id h query document) → revision_after leave.sent leave.parent ≡ None → edit_outcome terms id h query document ≡ Err Generation
  edit_ended leave none = edit_down leave ∙ ap (appended terms id h leave.sent leave.parent) none

  pub edit_due : (rule : Rule) → EditIsDueTo terms id h query document rule → edit_outcome terms id h query document ≡ Err (Denied rule)
  edit_due rule is = said is.sent is.says ∙ by is.due
    where
      sent : ParsedDocument
      sent = is.sent

      by : IsDesignDenial terms id rule ⊎ IsEditDenial terms id h sent rule → allowed terms id h sent (design_refusal terms id) ≡ Err (Denied rule)
      by (inl due) = ap (allowed terms id h sent) (design_due terms id rule due)
      by (inr due) =
          ap (allowed terms id h sent) (other_due terms id h sent due.parent rule due.due)
          ∙ followed terms id h sent due.parent due.follows due.unknown
          ∙ ap (ruled terms id h sent due.parent) (rule_due terms id h sent due.parent rule due.due)

pub unnamed_due : (terms : Terms) (id : List ℕ) (rule : Rule) → IsDesignDenial terms id rule → unnamed_deletion terms id ≡ Err (Denied rule)
unnamed_due terms id rule due = ap (λ o. unless_denied {A = DocumentWrite} o (Err Conflict)) (design_due terms id rule due)

-- ---- replicated writes

module _ (terms : Terms) (id : List ℕ) (h : HistoryContent) (document : Value) where
  abbrev written : ParsedDocument → Ancestry → Option Rule → Result (Option DocumentWrite) WriteFault
  written sent ancestry rule = unless_denied rule (Ok (Some (write_at id ancestry.path sent)))

  of_new : (sent : ParsedDocument) (ancestry : Ancestry) → ancestry_placement h ancestry ≡ Ok Added
      → placement_outcome terms id h sent ancestry ≡ written sent ancestry (rule_refusal terms id h sent (nearest_held h (ancestors ancestry.path)))
  of_new sent ancestry placed = ap (λ p. unless_known p (written sent ancestry (rule_refusal terms id h sent (nearest_held h (ancestors ancestry.path))))) placed

  abbrev permitted : ParsedDocument → Ancestry → Option Rule → Result (Option DocumentWrite) WriteFault
  permitted sent ancestry rule = unless_denied rule (placement_outcome terms id h sent ancestry)

  -- a good document comes down to what its ancestry leads to
  told : (sent : ParsedDocument) (ancestry : Ancestry) → sent_in id document ≡ Some sent → ancestry_in document sent.rev ≡ Some ancestry
      → replicated_outcome terms id h document ≡ permitted sent ancestry (design_refusal terms id)
  told sent ancestry says leads =
      ap (λ o. given BadDocument o (λ s. given BadDocument (ancestry_in document s.rev) (λ a. permitted s a (design_refusal terms id)))) says
      ∙ ap (λ o. given BadDocument o (λ a. permitted sent a (design_refusal terms id))) leads

  pub replication_appended : (leave : ReplicationHasLeave terms id h document) → replicated_outcome terms id h document ≡ Ok (Some (write_at id leave.ancestry.path leave.sent))
  replication_appended leave =
      told leave.sent leave.ancestry leave.says leave.leads
      ∙ ap (permitted leave.sent leave.ancestry) (no_design terms id h leave.sent (nearest_held h (ancestors leave.ancestry.path)) leave.leave)
      ∙ of_new leave.sent leave.ancestry leave.placed
      ∙ ap (written leave.sent leave.ancestry) (no_rule terms id h leave.sent (nearest_held h (ancestors leave.ancestry.path)) leave.leave)

  pub replication_due : (rule : Rule) → ReplicationIsDueTo terms id h document rule → replicated_outcome terms id h document ≡ Err (Denied rule)
  replication_due rule is = told is.sent is.ancestry is.says is.leads ∙ by is.due
    where
      sent : ParsedDocument
      sent = is.sent

      ancestry : Ancestry
      ancestry = is.ancestry

      by : IsDesignDenial terms id rule ⊎ IsReplicationDenial terms id h sent ancestry rule → permitted sent ancestry (design_refusal terms id) ≡ Err (Denied rule)
      by (inl due) = ap (permitted sent ancestry) (design_due terms id rule due)
      by (inr due) =
          ap (permitted sent ancestry) (other_due terms id h sent (nearest_held h (ancestors ancestry.path)) rule due.due)
          ∙ of_new sent ancestry due.placed
          ∙ ap (written sent ancestry) (rule_due terms id h sent (nearest_held h (ancestors ancestry.path)) rule due.due)

-- ---- documents among others

module _ (terms : Terms) (histories : Histories) (id : List ℕ) (document : Value) where
  pub edit_appended_together : id_in document ≡ Some id → (rev : Revision) (leave : EditHasLeave terms id (histories id) None document) → revision_after leave.sent leave.parent ≡ Some rev
      → outcome_in terms true histories document ≡ Ok (Some (write_at id (rev ∷ ancestors_of_parent (histories id) leave.parent) leave.sent))
  edit_appended_together named rev leave further =
      ap (λ o. given BadDocument o (λ k. document_outcome terms true k (histories k) document)) named ∙ ap as_outcome (edit_appended terms id (histories id) None document rev leave further)

  pub edit_due_together : id_in document ≡ Some id → (rule : Rule) → EditIsDueTo terms id (histories id) None document rule → outcome_in terms true histories document ≡ Err (Denied rule)
  edit_due_together named rule due = ap (λ o. given BadDocument o (λ k. document_outcome terms true k (histories k) document)) named ∙ ap as_outcome (edit_due terms id (histories id) None document rule due)

  pub replication_appended_together : id_in document ≡ Some id → (leave : ReplicationHasLeave terms id (histories id) document)
      → outcome_in terms false histories document ≡ Ok (Some (write_at id leave.ancestry.path leave.sent))
  replication_appended_together named leave = ap (λ o. given BadDocument o (λ k. document_outcome terms false k (histories k) document)) named ∙ replication_appended terms id (histories id) document leave

  pub replication_due_together : id_in document ≡ Some id → (rule : Rule) → ReplicationIsDueTo terms id (histories id) document rule → outcome_in terms false histories document ≡ Err (Denied rule)
  replication_due_together named rule due = ap (λ o. given BadDocument o (λ k. document_outcome terms false k (histories k) document)) named ∙ replication_due terms id (histories id) document rule due

-- each by what those in front of it left
pub in_order : (terms : Terms) (new_edits : Bool) (histories : Histories) (front back : List Value) → outcomes terms new_edits histories (front ++ back)
    ≡ outcomes terms new_edits histories front ++ outcomes terms new_edits (after_all histories (outcomes terms new_edits histories front)) back
in_order terms new_edits histories [] back = refl
in_order terms new_edits histories (v ∷ front) back =
    ap (λ os. outcome_in terms new_edits histories v ∷ os) (in_order terms new_edits (after histories (outcome_in terms new_edits histories v)) front back)
