-- What is known of a write that was accepted, and of one that was denied.
use Rattle.std.proofs.Common.{◌≡◌, ◌≢◌, ◌⊎◌, ◌==◌, ℕ, Bool, true, false, cond, List, ◌∷◌, length, Option, Some, None, option_map, Result, Ok, Err, refl, sym, ap, subst, ◌∙◌, inl, inr}
use Rattle.couch_json.specs.Parts.{is_there_and}
use Rattle.couch_json.specs.Value.{Value}
use Rattle.policy.specs.Argument.{argument}
use Rattle.policy.specs.UpdateRules.{update_verdict}
use Rattle.policy.specs.Verdict.{verdict}
use Rattle.policy.specs.declared.action.Action.TheVariants.{WriteDesign}
use Rattle.policy.specs.declared.rule.Rule.{Rule}
use Rattle.tree.specs.DocumentId.{is_design_id}
use Rattle.tree.specs.Revision.{Revision}
use Rattle.tree.specs.History.{HistoryContent, ancestors_of_parent, is_known, placement, winner}
use Rattle.tree.specs.declared.placement.Placed.{Placed}
use Rattle.tree.specs.declared.placement.Placed.TheVariants.{Added, Known}
use Rattle.tree.specs.declared.placement.TreeFault.{TreeFault}
use Rattle.tree.specs.declared.placement.TreeFault.TheVariants.{BadPath}
use Rattle.auth.specs.Callers.{Identity}
use Rattle.store.specs.Contents.{IfThere}
use Rattle.store.specs.Database.{Database, DocumentWrite}
use Rattle.write.specs.Admission.{ancestors, ancestry_placement, design_refusal, edit_of, edit_outcome, given, held_document, nearest_held, next_edit, parent_for_edit, placement_outcome, proposed_document, replicated_outcome, revision_after, rule_refusal, unless_denied, unless_known, unnamed_deletion, write_at}
use Rattle.write.specs.Denials.{EditHasLeave, EditIsDueTo, HasLeave, IsDesignDenial, IsEditDenial, IsReplicationDenial, IsUpdateDenial, ReplicationHasLeave, ReplicationIsDueTo}
use Rattle.write.specs.Document.{Ancestry, ancestry_in, sent_in}
use Rattle.write.specs.Bulk.{as_outcome}
use Rattle.write.specs.IndexWrites.{has_index, index_document, index_outcome}
use Rattle.write.specs.Terms.{Terms, terms_in}
use Rattle.write.specs.declared.document.ParsedDocument.{ParsedDocument}
use Rattle.write.specs.declared.fault.WriteFault.{WriteFault}
use Rattle.write.specs.declared.fault.WriteFault.TheVariants.{BadDocument, Conflict, Denied, Generation}

-- ---- what came next of what was there

found : {A B : Type 0} (fault : WriteFault) (o : Option A) (next : A → Result B WriteFault) (v : B) → given fault o next ≡ Ok v → (a : A) × (o ≡ Some a) × (next a ≡ Ok v)
found fault None next v e = absurd cc
found fault (Some a) next v e = (a, refl, e)

found_denied : {A B : Type 0} (fault : WriteFault) (o : Option A) (next : A → Result B WriteFault) (rule : Rule) → fault ≢ Denied rule
    → given fault o next ≡ Err (Denied rule) → (a : A) × (o ≡ Some a) × (next a ≡ Err (Denied rule))
found_denied fault None next rule other e = absurd (other (let same : Err fault ≡ Err (Denied rule) = e in cc))
found_denied fault (Some a) next rule other e = (a, refl, e)

-- ---- by a rule or without one

pub undenied : {A : Type 0} (o : Option Rule) (r : Result A WriteFault) (v : A) → unless_denied o r ≡ Ok v → r ≡ Ok v
undenied None r v e = e
undenied (Some rule) r v e = absurd cc

unrefused : {A : Type 0} (o : Option Rule) (r : Result A WriteFault) (v : A) → unless_denied o r ≡ Ok v → o ≡ None
unrefused None r v e = refl
unrefused (Some rule) r v e = absurd cc

denied_by : {A : Type 0} (o : Option Rule) (r : Result A WriteFault) (rule : Rule) → unless_denied o r ≡ Err (Denied rule) → (o ≡ Some rule) ⊎ (r ≡ Err (Denied rule))
denied_by None r rule e = inr e
denied_by (Some s) r rule e = inl cc

design_denial : (terms : Terms) (id : List ℕ) (rule : Rule) → design_refusal terms id ≡ Some rule → IsDesignDenial terms id rule
design_denial terms id rule e = by (is_design_id id) refl e
  where
    by : (b : Bool) → is_design_id id ≡ b → cond b (verdict WriteDesign terms.caller terms.security) None ≡ Some rule → IsDesignDenial terms id rule
    by true d k = record { design = d; first = k }
    by false d k = absurd cc

update_denial : (terms : Terms) (id : List ℕ) (h : HistoryContent) (sent : ParsedDocument) (rev : Option Revision) (rule : Rule)
    → rule_refusal terms id h sent rev ≡ Some rule → IsUpdateDenial terms id h sent rev rule
update_denial terms id h sent rev rule e = by (is_design_id id) refl e
  where
    by : (b : Bool) → is_design_id id ≡ b
        → cond b None (update_verdict terms.rules (argument (proposed_document id sent) (held_document id h rev) terms.caller terms.name terms.security)) ≡ Some rule
        → IsUpdateDenial terms id h sent rev rule
    by true d k = absurd cc
    by false d k = record { other = d; first = k }

-- ---- edits

-- the write of an edit that was accepted
pub record IsEdit (terms : Terms) (id : List ℕ) (h : HistoryContent) (query : Option Revision) (document : Value) (v : DocumentWrite) : Type 0 where
  pub sent : ParsedDocument
  pub parent : Option Revision
  pub rev : Revision
  pub says : edit_of id query document ≡ Some sent
  pub allowed : design_refusal terms id ≡ None
  pub follows : parent_for_edit h sent.rev ≡ Some parent
  pub makes : revision_after sent parent ≡ Some rev
  pub unknown : is_known h rev ≡ false
  pub ruled : rule_refusal terms id h sent parent ≡ None
  pub is : v ≡ write_at id (rev ∷ ancestors_of_parent h parent) sent

same_write : (w v : DocumentWrite) (r : Result DocumentWrite WriteFault) → r ≡ Ok w → r ≡ Ok v → v ≡ w
same_write w v r is e = cc

new : {A : Type 0} (known : Bool) (r : Result A WriteFault) (v : A) → cond known (Err Conflict) r ≡ Ok v → (known ≡ false) × (r ≡ Ok v)
new true r v e = absurd cc
new false r v e = (refl, e)

new_denied : {A : Type 0} (known : Bool) (r : Result A WriteFault) (rule : Rule) → cond known (Err Conflict) r ≡ Err (Denied rule) → (known ≡ false) × (r ≡ Err (Denied rule))
new_denied true r rule e = absurd cc
new_denied false r rule e = (refl, e)

pub edit_accepted : (terms : Terms) (id : List ℕ) (h : HistoryContent) (query : Option Revision) (document : Value) (v : DocumentWrite)
    → edit_outcome terms id h query document ≡ Ok v → IsEdit terms id h query document v
edit_accepted terms id h query document v e =
    let says = found BadDocument (edit_of id query document) _ v e in
    let sent : ParsedDocument = says.0 in
    let follows = found Conflict (parent_for_edit h sent.rev) _ v (undenied (design_refusal terms id) _ v says.2) in
    let parent : Option Revision = follows.0 in
    let unknown = new (is_there_and (is_known h) (revision_after sent parent)) _ v follows.2 in
    let makes = found Generation (revision_after sent parent) _ v (undenied (rule_refusal terms id h sent parent) _ v unknown.1) in
    record {
      sent = sent;
      parent = parent;
      rev = makes.0;
      says = says.1;
      allowed = unrefused (design_refusal terms id) _ v says.2;
      follows = follows.1;
      makes = makes.1;
      unknown = sym (ap (is_there_and (is_known h)) makes.1) ∙ unknown.0;
      ruled = unrefused (rule_refusal terms id h sent parent) _ v unknown.1;
      is = same_write (write_at id (makes.0 ∷ ancestors_of_parent h parent) sent) v _ refl makes.2;
    }

-- ---- denied edits

no_denial : {A : Type 0} (v : A) (rule : Rule) → Ok v ≡ Err (Denied rule) → ⊥
no_denial v rule e = cc

made_denied : (terms : Terms) (id : List ℕ) (h : HistoryContent) (sent : ParsedDocument) (parent : Option Revision) (rule : Rule)
    → next_edit terms id h sent parent ≡ Err (Denied rule) → (is_there_and (is_known h) (revision_after sent parent) ≡ false) × IsUpdateDenial terms id h sent parent rule
made_denied terms id h sent parent rule e =
    let unknown = new_denied (is_there_and (is_known h) (revision_after sent parent)) _ rule e in
    (unknown.0, of_rule (denied_by (rule_refusal terms id h sent parent) _ rule unknown.1))
  where
    of_rule : (rule_refusal terms id h sent parent ≡ Some rule)
        ⊎ (given Generation (revision_after sent parent) (λ rev. Ok (write_at id (rev ∷ ancestors_of_parent h parent) sent)) ≡ Err (Denied rule))
        → IsUpdateDenial terms id h sent parent rule
    of_rule (inl k) = update_denial terms id h sent parent rule k
    of_rule (inr k) = absurd (no_denial _ rule (found_denied Generation (revision_after sent parent) _ rule (λ wrong. cc) k).2)

following_denied : (terms : Terms) (id : List ℕ) (h : HistoryContent) (sent : ParsedDocument) (rule : Rule)
    → given Conflict (parent_for_edit h sent.rev) (next_edit terms id h sent) ≡ Err (Denied rule) → IsEditDenial terms id h sent rule
following_denied terms id h sent rule e =
    let follows = found_denied Conflict (parent_for_edit h sent.rev) _ rule (λ wrong. cc) e in
    let k = made_denied terms id h sent follows.0 rule follows.2 in
    record { parent = follows.0; follows = follows.1; unknown = k.0; due = k.1 }

pub edit_denied : (terms : Terms) (id : List ℕ) (h : HistoryContent) (query : Option Revision) (document : Value) (rule : Rule)
    → edit_outcome terms id h query document ≡ Err (Denied rule) → EditIsDueTo terms id h query document rule
edit_denied terms id h query document rule e =
    let says = found_denied BadDocument (edit_of id query document) _ rule (λ wrong. cc) e in
    record { sent = says.0; says = says.1; due = by says.0 (denied_by (design_refusal terms id) _ rule says.2) }
  where
    by : (sent : ParsedDocument) → (design_refusal terms id ≡ Some rule) ⊎ (given Conflict (parent_for_edit h sent.rev) (next_edit terms id h sent) ≡ Err (Denied rule))
        → IsDesignDenial terms id rule ⊎ IsEditDenial terms id h sent rule
    by sent (inl k) = inl (design_denial terms id rule k)
    by sent (inr k) = inr (following_denied terms id h sent rule k)

abbrev conflicting : Result DocumentWrite WriteFault
conflicting = Err Conflict

-- a deletion that names no revision is denied as a design document alone
pub unnamed_denied : (terms : Terms) (id : List ℕ) (rule : Rule) → unnamed_deletion terms id ≡ Err (Denied rule) → IsDesignDenial terms id rule
unnamed_denied terms id rule e = by (denied_by (design_refusal terms id) conflicting rule e)
  where
    by : (design_refusal terms id ≡ Some rule) ⊎ (conflicting ≡ Err (Denied rule)) → IsDesignDenial terms id rule
    by (inl k) = design_denial terms id rule k
    by (inr k) = absurd cc

-- in a database with this security object it is refused by the rule that was found, or else for the conflict
pub unnamed_refused : (caller : Identity) (name id : List ℕ) (security : Value) (stored : Option Database) (found : Option Rule) (fault : WriteFault)
    → option_map (λ d. d.security) stored ≡ Some security → found ≡ cond (is_design_id id) (verdict WriteDesign caller security) None
    → unless_denied {A = DocumentWrite} found (Err Conflict) ≡ Err fault → IfThere stored (λ d. unnamed_deletion (terms_in caller name d) id ≡ Err fault)
unnamed_refused caller name id security None found fault is by e = tt
unnamed_refused caller name id security (Some d) found fault is by e =
    let same : security ≡ d.security = cc in
    subst (λ (o : Option Rule). unless_denied {A = DocumentWrite} o (Err Conflict) ≡ Err fault) (by ∙ ap (λ (s : Value). cond (is_design_id id) (verdict WriteDesign caller s) None) same) e

-- ---- indexes

as_outcome-denied : (r : Result DocumentWrite WriteFault) (rule : Rule) → as_outcome r ≡ Err (Denied rule) → r ≡ Err (Denied rule)
as_outcome-denied (Ok w) rule e = absurd cc
as_outcome-denied (Err fault) rule e = cc

design_alone : (terms : Terms) (id : List ℕ) (h : HistoryContent) (sent : ParsedDocument) (rule : Rule) → is_design_id id ≡ true
    → IsDesignDenial terms id rule ⊎ IsEditDenial terms id h sent rule → IsDesignDenial terms id rule
design_alone terms id h sent rule design (inl k) = k
design_alone terms id h sent rule design (inr k) = absurd (let wrong : true ≡ false = sym design ∙ k.due.other in cc)

-- the edit of a design document is denied as one alone
design_edit_denied : (terms : Terms) (id : List ℕ) (h : HistoryContent) (query : Option Revision) (document : Value) (rule : Rule) → is_design_id id ≡ true
    → edit_outcome terms id h query document ≡ Err (Denied rule) → IsDesignDenial terms id rule
design_edit_denied terms id h query document rule design e =
    let k = edit_denied terms id h query document rule e in
    design_alone terms id h k.sent rule design k.due

index_edit_denied : (has : Bool) (r : Result DocumentWrite WriteFault) (rule : Rule) → cond has (Ok None) (as_outcome r) ≡ Err (Denied rule) → r ≡ Err (Denied rule)
index_edit_denied true r rule e = absurd cc
index_edit_denied false r rule e = as_outcome-denied r rule e

-- an index is denied as a design document alone
pub index_denied : (terms : Terms) (id : List ℕ) (h : HistoryContent) (name : List ℕ) (fields : List (List ℕ)) (rule : Rule) → is_design_id id ≡ true
    → index_outcome terms id h name fields ≡ Err (Denied rule) → IsDesignDenial terms id rule
index_denied terms id h name fields rule design e =
    by (denied_by (design_refusal terms id) (cond (has_index h name fields) (Ok None) (as_outcome (edit_outcome terms id h (winner h) (index_document h name fields)))) rule e)
  where
    by : (design_refusal terms id ≡ Some rule)
        ⊎ (cond (has_index h name fields) (Ok None) (as_outcome (edit_outcome terms id h (winner h) (index_document h name fields))) ≡ Err (Denied rule))
        → IsDesignDenial terms id rule
    by (inl k) = design_denial terms id rule k
    by (inr k) =
        design_edit_denied terms id h (winner h) (index_document h name fields) rule design
        (index_edit_denied (has_index h name fields) (edit_outcome terms id h (winner h) (index_document h name fields)) rule k)

-- ---- replicated writes

-- the write of a path that the history had a place for, or none where its revision is known
abbrev pub IsTaken : Terms → List ℕ → HistoryContent → ParsedDocument → List Revision → Option DocumentWrite → Type 0
IsTaken terms id h sent path None = placement h path ≡ Ok Known
IsTaken terms id h sent path (Some v) =
    (placement h path ≡ Ok Added) × (v ≡ write_at id path sent) × (rule_refusal terms id h sent (nearest_held h (ancestors path)) ≡ None)

-- what became of a replicated document that was accepted
pub record IsReplicated (terms : Terms) (id : List ℕ) (h : HistoryContent) (document : Value) (w : Option DocumentWrite) : Type 0 where
  pub sent : ParsedDocument
  pub ancestry : Ancestry
  pub says : sent_in id document ≡ Some sent
  pub leads : ancestry_in document sent.rev ≡ Some ancestry
  pub allowed : design_refusal terms id ≡ None
  pub whole : ancestry_placement h ancestry ≡ placement h ancestry.path
  pub taken : IsTaken terms id h sent ancestry.path w

whole_placed : (h : HistoryContent) (ancestry : Ancestry) (placed : Placed) → ancestry_placement h ancestry ≡ Ok placed → placement h ancestry.path ≡ Ok placed
whole_placed h ancestry placed e = by (ancestry.start == length ancestry.path) e
  where
    by : (b : Bool) → cond b (placement h ancestry.path) (Err BadPath) ≡ Ok placed → placement h ancestry.path ≡ Ok placed
    by true k = k
    by false k = absurd cc

taken_by : (terms : Terms) (id : List ℕ) (h : HistoryContent) (sent : ParsedDocument) (ancestry : Ancestry) (placed : Result Placed TreeFault) (w : Option DocumentWrite)
    → ancestry_placement h ancestry ≡ placed
    → unless_known placed (unless_denied (rule_refusal terms id h sent (nearest_held h (ancestors ancestry.path))) (Ok (Some (write_at id ancestry.path sent)))) ≡ Ok w
    → (ancestry_placement h ancestry ≡ placement h ancestry.path) × IsTaken terms id h sent ancestry.path w
taken_by terms id h sent ancestry (Err fault) w is e = absurd cc
taken_by terms id h sent ancestry (Ok Known) None is e = let whole = whole_placed h ancestry Known is in (is ∙ sym whole, whole)
taken_by terms id h sent ancestry (Ok Known) (Some v) is e = absurd cc
taken_by terms id h sent ancestry (Ok Added) None is e =
    let none : Ok (Some (write_at id ancestry.path sent)) ≡ Ok None = undenied (rule_refusal terms id h sent (nearest_held h (ancestors ancestry.path))) (Ok (Some (write_at id ancestry.path sent))) None e in absurd cc
taken_by terms id h sent ancestry (Ok Added) (Some v) is e =
    let whole = whole_placed h ancestry Added is in
    let same : Ok (Some (write_at id ancestry.path sent)) ≡ Ok (Some v) =
    undenied (rule_refusal terms id h sent (nearest_held h (ancestors ancestry.path))) (Ok (Some (write_at id ancestry.path sent))) (Some v) e in
    (is ∙ sym whole, (whole, cc, unrefused (rule_refusal terms id h sent (nearest_held h (ancestors ancestry.path))) (Ok (Some (write_at id ancestry.path sent))) (Some v) e))

pub replicated_accepted : (terms : Terms) (id : List ℕ) (h : HistoryContent) (document : Value) (w : Option DocumentWrite)
    → replicated_outcome terms id h document ≡ Ok w → IsReplicated terms id h document w
replicated_accepted terms id h document w e =
    let says = found BadDocument (sent_in id document) _ w e in
    let sent : ParsedDocument = says.0 in
    let leads = found BadDocument (ancestry_in document sent.rev) _ w says.2 in
    let ancestry : Ancestry = leads.0 in
    let placed = undenied (design_refusal terms id) (placement_outcome terms id h sent ancestry) w leads.2 in
    let k = taken_by terms id h sent ancestry (ancestry_placement h ancestry) w refl placed in
    record {
      sent = sent;
      ancestry = ancestry;
      says = says.1;
      leads = leads.1;
      allowed = unrefused (design_refusal terms id) (placement_outcome terms id h sent ancestry) w leads.2;
      whole = k.0;
      taken = k.1;
    }

-- ---- denied replicated writes

placed_denied : (terms : Terms) (id : List ℕ) (h : HistoryContent) (sent : ParsedDocument) (ancestry : Ancestry) (placed : Result Placed TreeFault) (rule : Rule)
    → ancestry_placement h ancestry ≡ placed
    → unless_known placed (unless_denied (rule_refusal terms id h sent (nearest_held h (ancestors ancestry.path))) (Ok (Some (write_at id ancestry.path sent)))) ≡ Err (Denied rule)
    → IsReplicationDenial terms id h sent ancestry rule
placed_denied terms id h sent ancestry (Err fault) rule is e = absurd cc
placed_denied terms id h sent ancestry (Ok Known) rule is e = absurd cc
placed_denied terms id h sent ancestry (Ok Added) rule is e =
    record { placed = is; due = by (denied_by (rule_refusal terms id h sent (nearest_held h (ancestors ancestry.path))) (Ok (Some (write_at id ancestry.path sent))) rule e) }
  where
    by : (rule_refusal terms id h sent (nearest_held h (ancestors ancestry.path)) ≡ Some rule) ⊎ (Ok (Some (write_at id ancestry.path sent)) ≡ Err (Denied rule))
        → IsUpdateDenial terms id h sent (nearest_held h (ancestors ancestry.path)) rule
    by (inl k) = update_denial terms id h sent (nearest_held h (ancestors ancestry.path)) rule k
    by (inr k) = absurd cc

pub replicated_denied : (terms : Terms) (id : List ℕ) (h : HistoryContent) (document : Value) (rule : Rule)
    → replicated_outcome terms id h document ≡ Err (Denied rule) → ReplicationIsDueTo terms id h document rule
replicated_denied terms id h document rule e =
    let says = found_denied BadDocument (sent_in id document) _ rule (λ wrong. cc) e in
    let sent : ParsedDocument = says.0 in
    let leads = found_denied BadDocument (ancestry_in document sent.rev) _ rule (λ wrong. cc) says.2 in
    let ancestry : Ancestry = leads.0 in
    record {
      sent = sent;
      ancestry = ancestry;
      says = says.1;
      leads = leads.1;
      due = by sent ancestry (denied_by (design_refusal terms id) (placement_outcome terms id h sent ancestry) rule leads.2);
    }
  where
    by : (sent : ParsedDocument) (ancestry : Ancestry) → (design_refusal terms id ≡ Some rule) ⊎ (placement_outcome terms id h sent ancestry ≡ Err (Denied rule))
        → IsDesignDenial terms id rule ⊎ IsReplicationDenial terms id h sent ancestry rule
    by sent ancestry (inl k) = inl (design_denial terms id rule k)
    by sent ancestry (inr k) = inr (placed_denied terms id h sent ancestry (ancestry_placement h ancestry) rule refl k)

-- ---- by leave of the rules

design_leave : (terms : Terms) (id : List ℕ) → design_refusal terms id ≡ None → is_design_id id ≡ true → verdict WriteDesign terms.caller terms.security ≡ None
design_leave terms id e is = sym (ap (λ b. cond b (verdict WriteDesign terms.caller terms.security) None) is) ∙ e

update_leave : (terms : Terms) (id : List ℕ) (h : HistoryContent) (sent : ParsedDocument) (rev : Option Revision) → rule_refusal terms id h sent rev ≡ None → is_design_id id ≡ false
    → update_verdict terms.rules (argument (proposed_document id sent) (held_document id h rev) terms.caller terms.name terms.security) ≡ None
update_leave terms id h sent rev e is =
    sym (ap (λ b. cond b None (update_verdict terms.rules (argument (proposed_document id sent) (held_document id h rev) terms.caller terms.name terms.security))) is) ∙ e

leave : (terms : Terms) (id : List ℕ) (h : HistoryContent) (sent : ParsedDocument) (rev : Option Revision) → design_refusal terms id ≡ None → rule_refusal terms id h sent rev ≡ None → HasLeave terms id h sent rev
leave terms id h sent rev allowed ruled = record { design = design_leave terms id allowed; updates = update_leave terms id h sent rev ruled }

pub edit_leave : (terms : Terms) (id : List ℕ) (h : HistoryContent) (query : Option Revision) (document : Value) (v : DocumentWrite)
    → edit_outcome terms id h query document ≡ Ok v → EditHasLeave terms id h query document
edit_leave terms id h query document v e =
    let k = edit_accepted terms id h query document v e in
    record {
      sent = k.sent;
      parent = k.parent;
      says = k.says;
      follows = k.follows;
      unknown = ap (is_there_and (is_known h)) k.makes ∙ k.unknown;
      leave = leave terms id h k.sent k.parent k.allowed k.ruled;
    }

pub replicated_leave : (terms : Terms) (id : List ℕ) (h : HistoryContent) (document : Value) (v : DocumentWrite)
    → replicated_outcome terms id h document ≡ Ok (Some v) → ReplicationHasLeave terms id h document
replicated_leave terms id h document v e =
    let k = replicated_accepted terms id h document (Some v) e in
    record {
      sent = k.sent;
      ancestry = k.ancestry;
      says = k.says;
      leads = k.leads;
      placed = k.whole ∙ k.taken.0;
      leave = leave terms id h k.sent (nearest_held h (ancestors k.ancestry.path)) k.allowed k.taken.2;
    }
