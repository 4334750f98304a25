-- What the reply to each call says: one function for each, over its status and the bytes of its body.
-- CouchDB manual, api/local, api/database/changes, api/database/misc (`_revs_diff`), api/document/common (`open_revs`) and
-- api/database/bulk-api. Members that are not named here are not looked at, but in the elements of `open_revs`.
use Rattle.std.specs.Prelude.{ℕ, Bool, true, false, ◌==◌, ◌&&◌, List, [], ◌∷◌, ◌++◌, length, Option, Some, None, option_map, option_and_then, unwrap_or, Result, Ok, Err, bytes_eq, is_some, if◌then◌else◌, codes}
use Rattle.couch_json.specs.Parts.{has_only, is_object, is_there_and, members_in, text_in}
use Rattle.couch_json.specs.Reading.{reading, value_read}
use Rattle.couch_json.specs.Value.{Value, null, text, object, Members, no_members, member, member_of, put}
use Rattle.repl.specs.Calls.{Revisions}
use Rattle.repl.specs.Checkpoints.{Checkpoint, checkpoint_in}
use Rattle.repl.specs.Shapes.{count_at, list_at, list_in, text_at, texts_at}
use Rattle.repl.specs.declared.why.Why.{Why}
use Rattle.repl.specs.declared.why.Why.TheVariants.{Status, Reply}

-- what a shape says, or that the reply is of another
abbrev pub said_or_reply : {A : Type 0} → Option A → Result A Why
said_or_reply None = Err Reply
said_or_reply (Some a) = Ok a

-- the value of a body, if it is one
abbrev pub value_in : List ℕ → Option Value
value_in body = value_read (reading body)

-- what a reply says by this shape, where its status is the one that is expected
abbrev pub said_at : {A : Type 0} → ℕ → (Value → Option A) → ℕ → List ℕ → Result A Why
said_at expected shape status body =
    if status == expected then said_or_reply (option_and_then (λ v. shape v) (value_in body)) else Err (Status status)

-- ---- a checkpoint

-- a checkpoint as a side has it: the revision of its document, and what it says, if it says one
pub record Stored : Type 0 where
  pub revision : Option (List ℕ)
  pub checkpoint : Option Checkpoint

-- a side that has none
abbrev pub nothing_stored : Stored
nothing_stored = record { revision = None; checkpoint = None }

-- a checkpoint that is stored, with its revision
abbrev pub stored_by : Option (List ℕ) → Option Checkpoint → Option Stored
stored_by revision checkpoint = option_map (λ r. record { revision = Some r; checkpoint = checkpoint }) revision

-- the document of a checkpoint
abbrev pub stored_in : Value → Option Stored
stored_in v = stored_by (text_at (codes "_rev") v) (checkpoint_in v)

-- the reason of a refusal is `missing`
abbrev pub says_missing : Option (List ℕ) → Bool
says_missing None = false
says_missing (Some reason) = bytes_eq reason (codes "missing")

-- a body says that something is missing
abbrev pub is_missing : List ℕ → Bool
is_missing body = says_missing (option_and_then (λ v. text_at (codes "reason") v) (value_in body))

-- the reply to a read of a checkpoint
abbrev pub checkpoint_read : ℕ → List ℕ → Result Stored Why
checkpoint_read status body =
    if status == 404 && is_missing body then Ok nothing_stored else said_at 200 stored_in status body

-- the reply to a write of a checkpoint: the revision that it made
abbrev pub revision_in_reply : Value → Option (List ℕ)
revision_in_reply v = text_at (codes "rev") v

-- the revision of a checkpoint that was written, or why it was not
abbrev pub checkpoint_written : ℕ → List ℕ → Result (List ℕ) Why
checkpoint_written status body = said_at 201 revision_in_reply status body

-- ---- the changes

-- the changes listed: up to which sequence, and the leaves of each document
pub record Changes : Type 0 where
  pub sequence : ℕ
  pub leaves : List Revisions

-- revisions of a document by their parts, where both were found
abbrev pub revisions_by : Option (List ℕ) → Option (List (List ℕ)) → Option Revisions
revisions_by id revisions = option_and_then (λ i. option_map (λ rs. record { id = i; revisions = rs }) revisions) id

-- one change: a document and its leaves
abbrev pub change_in : Value → Option Revisions
change_in v = revisions_by (text_at (codes "id") v) (list_at (codes "changes") revision_in_reply v)

-- changes by their parts, where both were found
abbrev pub changes_by_parts : Option ℕ → Option (List Revisions) → Option Changes
changes_by_parts sequence leaves = option_and_then (λ n. option_map (λ ls. record { sequence = n; leaves = ls }) leaves) sequence

-- the changes of a reply
abbrev pub changes_in_reply : Value → Option Changes
changes_in_reply v = changes_by_parts (count_at (codes "last_seq") v) (list_at (codes "results") change_in v)

-- the reply to a list of changes
abbrev pub changes_listed : ℕ → List ℕ → Result Changes Why
changes_listed status body = said_at 200 changes_in_reply status body

-- ---- the differences

-- the missing revisions of a document
abbrev pub missing_in : Value → Option (List (List ℕ))
missing_in v = texts_at (codes "missing") v

-- each member has a list of missing revisions
abbrev pub are_missing_lists : Members → Bool
are_missing_lists no_members = true
are_missing_lists (member name v ms) = is_some (missing_in v) && are_missing_lists ms

-- the missing revisions of the document of this id
abbrev pub missing_of : List ℕ → Value → List (List ℕ)
missing_of id v = unwrap_or (option_and_then (λ w. missing_in w) (member_of v id)) []

-- how many revisions of a document are asked for at once: so many stand in one query
abbrev pub most_revisions : ℕ
most_revisions = 100

-- a group, unless it is empty
abbrev pub unless_empty : List (List ℕ) → List (List (List ℕ))
unless_empty [] = []
unless_empty (r ∷ rs) = (r ∷ rs) ∷ []

-- revisions behind a group that was begun, in groups as large as may be, in their order
abbrev pub groups_from : List (List ℕ) → List (List ℕ) → List (List (List ℕ))
groups_from group [] = unless_empty group
groups_from group (r ∷ rs) =
    if length group == most_revisions then group ∷ groups_from (r ∷ []) rs else groups_from (group ++ r ∷ []) rs

-- each group, as revisions of a document, before others
abbrev pub of_document : List ℕ → List (List (List ℕ)) → List Revisions → List Revisions
of_document id [] others = others
of_document id (g ∷ gs) others = record { id = id; revisions = g } ∷ of_document id gs others

-- what is missing of the documents listed, in their order and in groups
abbrev pub missing_of_each : Value → List Revisions → List Revisions
missing_of_each v [] = []
missing_of_each v (l ∷ ls) = of_document l.id (groups_from [] (missing_of l.id v)) (missing_of_each v ls)

-- what is missing, where the value is an object of such lists
abbrev pub has_missing_lists : Value → Bool
has_missing_lists v = is_there_and are_missing_lists (members_in v)

-- what the target lacks, of the documents that were listed
abbrev pub differences_in_reply : List Revisions → Value → Option (List Revisions)
differences_in_reply listed v = if has_missing_lists v then Some (missing_of_each v listed) else None

-- the reply to a comparison of these leaves
abbrev pub differences_read : List Revisions → ℕ → List ℕ → Result (List Revisions) Why
differences_read listed status body = said_at 200 (λ v. differences_in_reply listed v) status body

-- ---- opened revisions

-- a revision that was opened: its document, or that it is missing
pub data Opened : Type 0 where
  document : Value → Opened
  missing : List ℕ → Opened

-- a document of a reply, where it is an object
abbrev pub opened_by : Option Value → Option Opened
opened_by None = None
opened_by (Some v) = if is_object v then Some (document v) else None

-- one element: an object of `ok` alone, or of `missing` alone
abbrev pub opened_in : Value → Option Opened
opened_in v =
    if has_only (codes "ok" ∷ []) v then opened_by (member_of v (codes "ok"))
    else (if has_only (codes "missing" ∷ []) v then option_map missing (text_at (codes "missing") v) else None)

-- the reply to opened revisions
abbrev pub revisions_opened : ℕ → List ℕ → Result (List Opened) Why
revisions_opened status body = said_at 200 (λ v. list_in opened_in v) status body

-- the documents among them
abbrev pub documents_of_opened : List Opened → List Value
documents_of_opened [] = []
documents_of_opened (document v ∷ os) = v ∷ documents_of_opened os
documents_of_opened (missing rev ∷ os) = documents_of_opened os

-- what is reported of a revision that could not be opened
abbrev pub missing_report : List ℕ → List ℕ → Value
missing_report id rev =
    object (put (codes "rev") (text rev) (put (codes "reason") (text (codes "missing")) (put (codes "id") (text id) (put (codes "error") (text (codes "missing")) no_members))))

-- what is reported of those that are missing
abbrev pub missing_reports : List ℕ → List Opened → List Value
missing_reports id [] = []
missing_reports id (document v ∷ os) = missing_reports id os
missing_reports id (missing rev ∷ os) = missing_report id rev ∷ missing_reports id os

-- ---- failures of a push

-- a text, or nothing where null stands for it
abbrev pub label_in : Value → Option (Option (List ℕ))
label_in null = Some None
label_in (text s) = Some (Some s)
label_in v = None

-- the same of a member, which has to be there
abbrev pub label_at : List ℕ → Value → Option (Option (List ℕ))
label_at name v = option_and_then (λ w. label_in w) (member_of v name)

-- a text as a value, or null where there is none
abbrev pub label_value : Option (List ℕ) → Value
label_value None = null
label_value (Some s) = text s

-- the rule that a failure names, if it names one
abbrev pub rule_in_reply : Option Value → Option (Option (List ℕ))
rule_in_reply None = Some None
rule_in_reply (Some v) = option_map (λ s. Some s) (text_in v)

-- the members with the name of the rule, where one refused
abbrev pub failure_with_rule : Option (List ℕ) → Members → Members
failure_with_rule None ms = ms
failure_with_rule (Some rule) ms = put (codes "rule") (text rule) ms

-- what is reported of a document that could not be written
abbrev pub failure_report : List ℕ → Option (List ℕ) → List ℕ → Option (List ℕ) → Option (List ℕ) → Value
failure_report error id reason rev rule =
    object (failure_with_rule rule
    (put (codes "rev") (label_value rev)
    (put (codes "reason") (text reason)
    (put (codes "id") (label_value id)
    (put (codes "error") (text error) no_members)))))

-- one failure: texts `error` and `reason`, `id` and `rev` that are texts or null, and a text `rule` if there is one
abbrev pub failure_in : Value → Option Value
failure_in v =
    option_and_then (λ error. option_and_then (λ id. option_and_then (λ reason. option_and_then (λ rev. option_map (λ rule.
    failure_report error id reason rev rule)
    (rule_in_reply (member_of v (codes "rule")))) (label_at (codes "rev") v)) (text_at (codes "reason") v)) (label_at (codes "id") v)) (text_at (codes "error") v)

-- the reply to a push: the failures, in order
abbrev pub documents_pushed : ℕ → List ℕ → Result (List Value) Why
documents_pushed status body = said_at 201 (λ v. list_in failure_in v) status body
