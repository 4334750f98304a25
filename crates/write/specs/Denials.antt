-- Why a write is denied: the rule that is named is the first that refuses it. And what holds where a write is not: no rule refuses it.
-- CouchDB manual, api/database/security and ddocs/ddocs ("Validate Document Update Functions"); that a denial names its rule is this server's own.
use Rattle.std.specs.Prelude.{◌≡◌, ◌⊎◌, ℕ, false, true, List, Option, Some, None, Ok}
use Rattle.couch_json.specs.Parts.{is_there_and}
use Rattle.couch_json.specs.Value.{Value}
use Rattle.policy.specs.Argument.{argument}
use Rattle.policy.specs.UpdateRules.{update_verdict}
use Rattle.policy.specs.Verdict.{verdict}
use Rattle.policy.specs.declared.action.Action.TheVariants.{WriteDesign}
use Rattle.policy.specs.declared.rule.Rule.{Rule}
use Rattle.tree.specs.DocumentId.{is_design_id}
use Rattle.tree.specs.History.{HistoryContent, is_known}
use Rattle.tree.specs.Revision.{Revision}
use Rattle.tree.specs.declared.placement.Placed.TheVariants.{Added}
use Rattle.write.specs.Admission.{ancestors, ancestry_placement, parent_for_edit, proposed_document, edit_of, held_document, nearest_held, revision_after}
use Rattle.write.specs.Document.{Ancestry, ancestry_in, sent_in}
use Rattle.write.specs.Terms.{Terms}
use Rattle.write.specs.declared.document.ParsedDocument.{ParsedDocument}

-- the document is a design document, and this is the rule that refuses to let the caller write one
pub record IsDesignDenial (terms : Terms) (id : List ℕ) (rule : Rule) : Type 0 where
  pub design : is_design_id id ≡ true
  pub first : verdict WriteDesign terms.caller terms.security ≡ Some rule

-- it is none, and this is the first update rule that does not hold of it and of this revision
pub record IsUpdateDenial (terms : Terms) (id : List ℕ) (h : HistoryContent) (sent : ParsedDocument) (rev : Option Revision) (rule : Rule) : Type 0 where
  pub other : is_design_id id ≡ false
  pub first : update_verdict terms.rules (argument (proposed_document id sent) (held_document id h rev) terms.caller terms.name terms.security) ≡ Some rule

-- the edit follows a leaf that was found and makes a revision that is not known, and this update rule denies it beside that leaf
pub record IsEditDenial (terms : Terms) (id : List ℕ) (h : HistoryContent) (sent : ParsedDocument) (rule : Rule) : Type 0 where
  pub parent : Option Revision
  pub follows : parent_for_edit h sent.rev ≡ Some parent
  pub unknown : is_there_and (is_known h) (revision_after sent parent) ≡ false
  pub due : IsUpdateDenial terms id h sent parent rule

-- the path of the ancestry has its place as a new one, and this update rule denies the document beside the nearest revision behind
-- it whose body is held
pub record IsReplicationDenial (terms : Terms) (id : List ℕ) (h : HistoryContent) (sent : ParsedDocument) (ancestry : Ancestry) (rule : Rule) : Type 0 where
  pub placed : ancestry_placement h ancestry ≡ Ok Added
  pub due : IsUpdateDenial terms id h sent (nearest_held h (ancestors ancestry.path)) rule

-- the edit is denied by this rule: as a design document whatever it follows, or by an update rule
pub record EditIsDueTo (terms : Terms) (id : List ℕ) (h : HistoryContent) (query : Option Revision) (document : Value) (rule : Rule) : Type 0 where
  pub sent : ParsedDocument
  pub says : edit_of id query document ≡ Some sent
  pub due : IsDesignDenial terms id rule ⊎ IsEditDenial terms id h sent rule

-- the replicated document is: as a design document wherever its path belongs, or by an update rule
pub record ReplicationIsDueTo (terms : Terms) (id : List ℕ) (h : HistoryContent) (document : Value) (rule : Rule) : Type 0 where
  pub sent : ParsedDocument
  pub ancestry : Ancestry
  pub says : sent_in id document ≡ Some sent
  pub leads : ancestry_in document sent.rev ≡ Some ancestry
  pub due : IsDesignDenial terms id rule ⊎ IsReplicationDenial terms id h sent ancestry rule

-- what was sent may be written: a design document by this caller, another one by each update rule
pub record HasLeave (terms : Terms) (id : List ℕ) (h : HistoryContent) (sent : ParsedDocument) (rev : Option Revision) : Type 0 where
  pub design : is_design_id id ≡ true → verdict WriteDesign terms.caller terms.security ≡ None
  pub updates : is_design_id id ≡ false
      → update_verdict terms.rules (argument (proposed_document id sent) (held_document id h rev) terms.caller terms.name terms.security) ≡ None

-- the edit follows a leaf that was found and makes a revision that is not known, and it has leave beside that leaf
pub record EditHasLeave (terms : Terms) (id : List ℕ) (h : HistoryContent) (query : Option Revision) (document : Value) : Type 0 where
  pub sent : ParsedDocument
  pub parent : Option Revision
  pub says : edit_of id query document ≡ Some sent
  pub follows : parent_for_edit h sent.rev ≡ Some parent
  pub unknown : is_there_and (is_known h) (revision_after sent parent) ≡ false
  pub leave : HasLeave terms id h sent parent

-- the path of the replicated document has its place as a new one, and the document has leave beside the nearest revision behind it
-- whose body is held
pub record ReplicationHasLeave (terms : Terms) (id : List ℕ) (h : HistoryContent) (document : Value) : Type 0 where
  pub sent : ParsedDocument
  pub ancestry : Ancestry
  pub says : sent_in id document ≡ Some sent
  pub leads : ancestry_in document sent.rev ≡ Some ancestry
  pub placed : ancestry_placement h ancestry ≡ Ok Added
  pub leave : HasLeave terms id h sent (nearest_held h (ancestors ancestry.path))
