-- What the reply to several documents that are written together says of them.
-- CouchDB manual, api/database/bulk-api (`id`, `ok` and `rev`, or `error` and `reason`); that the failure of a replicated document names the `rev` that was sent is this server's own.
use Rattle.std.specs.Prelude.{ℕ, Bool, true, false, List, [], ◌∷◌, map, Option, Some, None, codes}
use Rattle.auth.specs.Callers.{Identity}
use Rattle.couch_json.specs.Value.{Value, null, truth, text, array, object, Members, no_members, put}
use Rattle.couch_json.specs.View.{items_of}
use Rattle.tree.specs.Revision.{Revision, text_of}
use Rattle.write.specs.Bulk.{Told}
use Rattle.write.specs.declared.fault.WriteFault.{WriteFault}
use Rattle.write.specs.declared.planned.Outcome.{Outcome}
use Rattle.write.specs.declared.planned.Outcome.TheVariants.{Made, Known, Refused}
use Rattle.api.specs.Refusals.{refusal_members}
use Rattle.node.specs.Edits.{refusal_of_edit}

-- a text, or null where there is none
abbrev pub text_or_null : Option (List ℕ) → Value
text_or_null None = null
text_or_null (Some s) = text s

-- of a document that is there: its id
abbrev pub known_members : Option (List ℕ) → Members
known_members id = put (codes "ok") (truth true) (put (codes "id") (text_or_null id) no_members)

-- of an edit that was made: its id and the new revision
abbrev pub made_members : Option (List ℕ) → Revision → Members
made_members id rev = put (codes "rev") (text (text_of rev)) (known_members id)

-- of a document that was refused: its id, and why
abbrev pub failed_members : Identity → Option (List ℕ) → WriteFault → Members
failed_members caller id fault = put (codes "id") (text_or_null id) (refusal_members (refusal_of_edit caller fault))

-- the members of the result of one edit
abbrev pub edit_members : Identity → Option (List ℕ) → Outcome → Members
edit_members caller id (Made rev) = made_members id rev
edit_members caller id Known = known_members id
edit_members caller id (Refused fault) = failed_members caller id fault

-- of a new edit: made, as it always is where it isn't refused, or refused
abbrev pub edit_listed : Identity → Told → Value
edit_listed caller told = object (edit_members caller told.id told.outcome)

-- of a replicated document that was refused, with the revision that was sent
abbrev pub failure_listed : Identity → Option (List ℕ) → Option (List ℕ) → WriteFault → Value
failure_listed caller id rev fault = object (put (codes "rev") (text_or_null rev) (failed_members caller id fault))

-- the result of one document in front of others, where it failed
abbrev pub if_failed : Identity → Told → Outcome → List Value → List Value
if_failed caller told (Refused fault) rest = failure_listed caller told.id told.rev fault ∷ rest
if_failed caller told outcome rest = rest

-- of the replicated documents that were refused, in order
abbrev pub failures_listed : Identity → List Told → List Value
failures_listed caller [] = []
failures_listed caller (told ∷ rest) = if_failed caller told told.outcome (failures_listed caller rest)

-- an element for each new edit, in order; of replicated documents those that were refused alone
abbrev pub element_list : Identity → Bool → List Told → List Value
element_list caller true all = map (edit_listed caller) all
element_list caller false all = failures_listed caller all

-- what the reply to this caller says of all of them
abbrev pub bulk_reply : Identity → Bool → List Told → Value
bulk_reply caller new_edits all = array (items_of (element_list caller new_edits all))
