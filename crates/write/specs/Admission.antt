-- What becomes of a write of a document, on the terms of its database: a bad document, a denial, a conflict or a bad history, no further generation, or the write that is appended.
-- CouchDB manual, api/document/common (`PUT` and `DELETE /{db}/{docid}`: 409 where the revision is not the one to follow), api/database/bulk-api (`new_edits`), replication/conflicts and ddocs/ddocs ("Validate Document Update Functions"); the order of the refusals is this server's own.
use Rattle.std.specs.Prelude.{ℕ, ◌==◌, Bool, false, if◌then◌else◌, List, [], ◌∷◌, find, is_some, length, Option, Some, None, option_map, option_and_then, Result, Ok, Err}
use Rattle.std.specs.Ordering.{eq_by_cmp}
use Rattle.couch_json.specs.Parts.{is_there_and}
use Rattle.couch_json.specs.Value.{Value}
use Rattle.tree.specs.DocumentId.{is_design_id}
use Rattle.tree.specs.Revision.{Revision, greatest_number, revision_cmp}
use Rattle.tree.specs.NextRevision.{next_revision, number_before}
use Rattle.tree.specs.Write.{head}
use Rattle.tree.specs.History.{HistoryContent, ancestors_of_parent, held_of, is_deleted, is_known, is_leaf, placement, winner, with_write}
use Rattle.tree.specs.declared.placement.Placed.{Placed}
use Rattle.tree.specs.declared.placement.Placed.TheVariants.{Added, Known}
use Rattle.tree.specs.declared.placement.TreeFault.{TreeFault}
use Rattle.tree.specs.declared.placement.TreeFault.TheVariants.{BadPath}
use Rattle.policy.specs.Argument.{NewDocument, OldDocument, argument}
use Rattle.policy.specs.UpdateRules.{update_verdict}
use Rattle.policy.specs.Verdict.{verdict}
use Rattle.policy.specs.declared.action.Action.TheVariants.{WriteDesign}
use Rattle.policy.specs.declared.rule.Rule.{Rule}
use Rattle.store.specs.Database.{Database, DocumentWrite, history_at}
use Rattle.write.specs.Document.{Ancestry, ancestry_in, sent_in}
use Rattle.write.specs.Terms.{Terms}
use Rattle.write.specs.declared.document.ParsedDocument.{ParsedDocument}
use Rattle.write.specs.declared.fault.WriteFault.{WriteFault}
use Rattle.write.specs.declared.fault.WriteFault.TheVariants.{BadDocument, BadHistory, Conflict, Denied, Generation}

-- the write of what a document says, at the end of a path
abbrev pub write_at : List ℕ → List Revision → ParsedDocument → DocumentWrite
write_at id path sent = record { id = id; write = record { path = path; deleted = sent.deleted; body = sent.body } }

-- ---- what is missing, and denials

-- What comes next of what is there, or this fault where nothing is there. So what is needed reads from top to bottom, and the first that
-- is missing decides: `given BadDocument (sent_in id document) (λ sent. given Conflict (parent_for_edit h sent.rev) (λ parent. ..))`.
abbrev pub given : {A B : Type 0} → WriteFault → Option A → (A → Result B WriteFault) → Result B WriteFault
given fault None next = Err fault
given fault (Some a) next = next a

-- the document that is written, as the update rules see it
abbrev pub proposed_document : List ℕ → ParsedDocument → NewDocument
proposed_document id sent = record { id = id; deleted = sent.deleted; body = sent.body }

-- a revision of the document, as they see it, where there is one and its body is held
abbrev pub held_document : List ℕ → HistoryContent → Option Revision → Option OldDocument
held_document id h rev = option_and_then (λ r. option_map (λ d. record { id = id; rev = r; deleted = d.deleted; body = d.body }) (held_of h r)) rev

-- the rule by which the caller may not write this document, whatever it says: he has to be an admin of the database for a design
-- document
abbrev pub design_refusal : Terms → List ℕ → Option Rule
design_refusal terms id = if is_design_id id then verdict WriteDesign terms.caller terms.security else None

-- the first update rule that does not hold of the document that is written and of this revision of it; a design document is subject
-- to none
abbrev pub rule_refusal : Terms → List ℕ → HistoryContent → ParsedDocument → Option Revision → Option Rule
rule_refusal terms id h sent rev =
    if is_design_id id then None
    else update_verdict terms.rules (argument (proposed_document id sent) (held_document id h rev) terms.caller terms.name terms.security)

-- the outcome where no rule refuses, else the denial
abbrev pub unless_denied : {A : Type 0} → Option Rule → Result A WriteFault → Result A WriteFault
unless_denied None outcome = outcome
unless_denied (Some rule) outcome = Err (Denied rule)

-- ---- edits

-- the revision that an edit names: in its query, in its document, or in both alike
abbrev pub named_revision : Option Revision → Option Revision → Option (Option Revision)
named_revision None own = Some own
named_revision (Some r) None = Some (Some r)
named_revision (Some r) (Some s) = if eq_by_cmp revision_cmp r s then Some (Some r) else None

-- what a document says, with the revision that the query or the document names, unless they differ
abbrev pub with_named_revision : Option Revision → ParsedDocument → Option ParsedDocument
with_named_revision query sent = option_map (λ rev. record sent { rev = rev }) (named_revision query sent.rev)

-- what an edit says, with the revision that its query names; none where the document is a bad one
abbrev pub edit_of : List ℕ → Option Revision → Value → Option ParsedDocument
edit_of id query document = option_and_then (λ sent. with_named_revision query sent) (sent_in id document)

-- What an edit that names no revision follows: nothing where nothing was ever written, the winner where it is deleted. Where the
-- winner is not deleted there is nothing that it may follow.
abbrev pub implicit_parent : HistoryContent → Option Revision → Option (Option Revision)
implicit_parent h None = Some None
implicit_parent h (Some r) = if is_deleted (held_of h r) then Some (Some r) else None

-- what an edit follows: the leaf that it names, deleted or not
abbrev pub parent_for_edit : HistoryContent → Option Revision → Option (Option Revision)
parent_for_edit h None = implicit_parent h (winner h)
parent_for_edit h (Some r) = if is_leaf h r then Some (Some r) else None

-- the revision that an edit makes which follows this one, or none before it; no revision follows one of the greatest number
abbrev pub revision_after : ParsedDocument → Option Revision → Option Revision
revision_after sent parent =
    if number_before parent == greatest_number then None else Some (next_revision parent sent.deleted sent.body)

-- What becomes of an edit that follows this revision, or none: a conflict where the revision that it makes is known, a denial where an
-- update rule does not hold, no further generation where there is none to make, or the write.
abbrev pub next_edit : Terms → List ℕ → HistoryContent → ParsedDocument → Option Revision → Result DocumentWrite WriteFault
next_edit terms id h sent parent =
    if is_there_and (is_known h) (revision_after sent parent) then Err Conflict
    else unless_denied (rule_refusal terms id h sent parent) (
    given Generation (revision_after sent parent) (λ rev.
    Ok (write_at id (rev ∷ ancestors_of_parent h parent) sent)))

-- What becomes of the edit of a document with this history, whose query names this revision or none: it has to be a good document, the
-- caller has to be one who may make it, and there has to be what it may follow.
abbrev pub edit_outcome : Terms → List ℕ → HistoryContent → Option Revision → Value → Result DocumentWrite WriteFault
edit_outcome terms id h query document =
    given BadDocument (edit_of id query document) (λ sent.
    unless_denied (design_refusal terms id) (
    given Conflict (parent_for_edit h sent.rev) (λ parent.
    next_edit terms id h sent parent)))

-- what becomes of the edit in this database
abbrev pub admission : Terms → Database → List ℕ → Option Revision → Value → Result DocumentWrite WriteFault
admission terms db id query document = edit_outcome terms id (history_at db id) query document

-- what becomes of a deletion that names no revision: there is nothing that it may follow, which is a conflict where the caller may write the
-- document at all
abbrev pub unnamed_deletion : Terms → List ℕ → Result DocumentWrite WriteFault
unnamed_deletion terms id = unless_denied (design_refusal terms id) (Err Conflict)

-- the revision that a write makes
abbrev pub new_revision : DocumentWrite → Option Revision
new_revision w = head w.write.path

-- ---- replicated writes

-- the revisions behind the newest of a path
abbrev pub ancestors : List Revision → List Revision
ancestors [] = []
ancestors (r ∷ rs) = rs

-- the first of these revisions whose body is held
abbrev pub nearest_held : HistoryContent → List Revision → Option Revision
nearest_held h rs = find (λ r. is_some (held_of h r)) rs

-- where the history has a place for the path of an ancestry: with fewer revisions than it says, or more, it is not whole
abbrev pub ancestry_placement : HistoryContent → Ancestry → Result Placed TreeFault
ancestry_placement h ancestry = if ancestry.start == length ancestry.path then placement h ancestry.path else Err BadPath

-- the outcome where a path has its place as a new one; nothing where its revision is known
abbrev pub unless_known : Result Placed TreeFault → Result (Option DocumentWrite) WriteFault → Result (Option DocumentWrite) WriteFault
unless_known (Err fault) outcome = Err BadHistory
unless_known (Ok Known) outcome = Ok None
unless_known (Ok Added) outcome = outcome

-- what becomes of what a replicated document says with this ancestry: it is appended where its revision is new and no update rule
-- refuses it
abbrev pub placement_outcome : Terms → List ℕ → HistoryContent → ParsedDocument → Ancestry → Result (Option DocumentWrite) WriteFault
placement_outcome terms id h sent ancestry =
    unless_known (ancestry_placement h ancestry) (
    unless_denied (rule_refusal terms id h sent (nearest_held h (ancestors ancestry.path))) (
    Ok (Some (write_at id ancestry.path sent))))

-- What becomes of a replicated document: the write that is appended, nothing where its revision is known, or the fault. It has to be a
-- good document with an ancestry, and the caller has to be one who may write it.
abbrev pub replicated_outcome : Terms → List ℕ → HistoryContent → Value → Result (Option DocumentWrite) WriteFault
replicated_outcome terms id h document =
    given BadDocument (sent_in id document) (λ sent.
    given BadDocument (ancestry_in document sent.rev) (λ ancestry.
    unless_denied (design_refusal terms id) (
    placement_outcome terms id h sent ancestry)))

-- what becomes of the replicated document in this database
abbrev pub replication : Terms → Database → List ℕ → Value → Result (Option DocumentWrite) WriteFault
replication terms db id document = replicated_outcome terms id (history_at db id) document

-- a history once a write is in, where there is one
abbrev pub history_with : HistoryContent → Option DocumentWrite → HistoryContent
history_with h None = h
history_with h (Some w) = with_write h w.write
