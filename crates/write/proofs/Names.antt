-- A write that a document comes to is one of the document's id.
use Rattle.std.proofs.Common.{◌≡◌, if◌then◌else◌, ℕ, Bool, true, false, List, Option, Some, None, Result, Ok, Err, ap, sym}
use Rattle.couch_json.specs.Value.{Value}
use Rattle.couch_json.specs.View.{view}
use Rattle.tree.specs.Revision.{Revision}
use Rattle.tree.specs.History.{HistoryContent}
use Rattle.store.specs.Database.{DocumentWrite}
use Rattle.policy.specs.declared.rule.Rule.{Rule}
use Rattle.tree.specs.History.{winner}
use Rattle.tree.specs.declared.placement.Placed.{Placed}
use Rattle.tree.specs.declared.placement.Placed.TheVariants.{Added, Known}
use Rattle.tree.specs.declared.placement.TreeFault.{TreeFault}
use Rattle.write.specs.Admission.{ancestors, ancestry_placement, design_refusal, edit_outcome, nearest_held, replicated_outcome, rule_refusal, unless_denied, unless_known, write_at}
use Rattle.write.specs.inner.AncestryRead.{ancestry_of}
use Rattle.write.specs.Bulk.{Histories, as_outcome}
use Rattle.write.specs.inner.Drafts.{outcome_asked, request_outcome}
use Rattle.write.specs.IndexWrites.{has_index, index_document, index_outcome}
use Rattle.write.specs.Terms.{Terms}
use Rattle.write.specs.declared.document.ParsedDocument.{ParsedDocument}
use Rattle.write.specs.declared.draft.Request.{Request}
use Rattle.write.specs.declared.draft.Request.TheVariants.{Edit, Replicate, Bad, Forbidden}
use Rattle.write.specs.declared.fault.WriteFault.{WriteFault}
use Rattle.write.proofs.Outcomes.{edit_accepted, replicated_accepted, undenied}

pub as_outcome-Some : (r : Result DocumentWrite WriteFault) (v : DocumentWrite) → as_outcome r ≡ Ok (Some v) → r ≡ Ok v
as_outcome-Some (Ok w) v e = cc
as_outcome-Some (Err fault) v e = absurd cc

pub edit-named : (terms : Terms) (id : List ℕ) (query : Option Revision) (document : Value) (h : HistoryContent) (v : DocumentWrite)
    → as_outcome (edit_outcome terms id h query document) ≡ Ok (Some v) → v.id ≡ id
edit-named terms id query document h v e =
    ap (λ (x : DocumentWrite). x.id) (edit_accepted terms id h query document v (as_outcome-Some (edit_outcome terms id h query document) v e)).is

pub replicated-named : (terms : Terms) (id : List ℕ) (document : Value) (h : HistoryContent) (v : DocumentWrite)
    → replicated_outcome terms id h document ≡ Ok (Some v) → v.id ≡ id
replicated-named terms id document h v e = ap (λ (x : DocumentWrite). x.id) (replicated_accepted terms id h document (Some v) e).taken.1

placed-named : (terms : Terms) (id : List ℕ) (h : HistoryContent) (sent : ParsedDocument) (path : List Revision) (placed : Result Placed TreeFault) (v : DocumentWrite)
    → unless_known placed (unless_denied (rule_refusal terms id h sent (nearest_held h (ancestors path))) (Ok (Some (write_at id path sent)))) ≡ Ok (Some v) → v.id ≡ id
placed-named terms id h sent path (Err fault) v e = absurd cc
placed-named terms id h sent path (Ok Known) v e = absurd cc
placed-named terms id h sent path (Ok Added) v e =
    let same : Ok (Some (write_at id path sent)) ≡ Ok (Some v) =
    undenied (rule_refusal terms id h sent (nearest_held h (ancestors path))) (Ok (Some (write_at id path sent))) (Some v) e in
    let is : v ≡ write_at id path sent = cc in ap (λ (x : DocumentWrite). x.id) is

pub request-named : (terms : Terms) (id : List ℕ) (h : HistoryContent) (request : Request) (v : DocumentWrite)
    → request_outcome terms id h request ≡ Ok (Some v) → v.id ≡ id
request-named terms id h (Edit document) v e = edit-named terms id None (view document) h v e
request-named terms id h (Replicate replica) v e =
    placed-named terms id h replica.sent replica.ancestry.path.items (ancestry_placement h (ancestry_of replica.ancestry)) v e
request-named terms id h Bad v e = absurd cc
request-named terms id h (Forbidden rule) v e = absurd cc

pub asked-named : (terms : Terms) (histories : Histories) (request : Request) (i : Option (List ℕ)) (v : DocumentWrite)
    → outcome_asked terms histories request i ≡ Ok (Some v) → i ≡ Some v.id
asked-named terms histories request None v e = absurd cc
asked-named terms histories request (Some id) v e = ap Some (sym (request-named terms id (histories id) request v e))

edit_by_index : (denied : Option Rule) (has : Bool) (r : Result DocumentWrite WriteFault) (v : DocumentWrite)
    → unless_denied denied (if has then Ok None else as_outcome r) ≡ Ok (Some v) → r ≡ Ok v
edit_by_index None true r v e = absurd cc
edit_by_index None false r v e = as_outcome-Some r v e
edit_by_index (Some rule) has r v e = absurd cc

-- the write of an index is that of an edit
pub index_by_edit : (terms : Terms) (id : List ℕ) (h : HistoryContent) (name : List ℕ) (fields : List (List ℕ)) (v : DocumentWrite)
    → index_outcome terms id h name fields ≡ Ok (Some v) → edit_outcome terms id h (winner h) (index_document h name fields) ≡ Ok v
index_by_edit terms id h name fields v e =
    edit_by_index (design_refusal terms id) (has_index h name fields) (edit_outcome terms id h (winner h) (index_document h name fields)) v e

pub index-named : (terms : Terms) (id : List ℕ) (name : List ℕ) (fields : List (List ℕ)) (h : HistoryContent) (v : DocumentWrite)
    → index_outcome terms id h name fields ≡ Ok (Some v) → v.id ≡ id
index-named terms id name fields h v e =
    edit-named terms id (winner h) (index_document h name fields) h v (ap as_outcome (index_by_edit terms id h name fields v e))
