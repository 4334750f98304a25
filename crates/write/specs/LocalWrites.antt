-- What becomes of a local document that a client writes: it follows the stored one by its number, or is refused.
-- CouchDB manual, api/local (local documents have no history and are not replicated); that a write has to name the stored revision, and that no other special members are taken, are this server's own.
use Rattle.std.specs.Prelude.{ℕ, ◌+◌, Bool, true, false, ◌||◌, if◌then◌else◌, List, Option, Some, None, option_map, option_and_then, codes, nat_lt, bytes_eq, Result, Ok, Err}
use Rattle.couch_json.specs.Parts.{members_in, text_in}
use Rattle.couch_json.specs.Value.{Value, member_of}
use Rattle.store.specs.Contents.{local_revision}
use Rattle.store.specs.declared.local_document.LocalDocument.{LocalDocument}
use Rattle.tree.specs.Revision.{greatest_number}
use Rattle.write.specs.Admission.{given}
use Rattle.write.specs.Document.{fits_id, remaining_body}
use Rattle.write.specs.declared.fault.WriteFault.{WriteFault}
use Rattle.write.specs.declared.fault.WriteFault.TheVariants.{BadDocument, Conflict, Generation}

-- the special members that a local document may have
abbrev pub is_local_member : List ℕ → Bool
is_local_member name = bytes_eq name (codes "_id") || bytes_eq name (codes "_rev")

-- the body of a local document, which is an object with no other special members than a local document may have
abbrev pub local_body : Value → Option Value
local_body document = option_and_then (λ ms. remaining_body is_local_member ms) (members_in document)

-- `_rev`, where it is given, has to be a text
abbrev pub local_rev_in : Option Value → Option (Option (List ℕ))
local_rev_in None = Some None
local_rev_in (Some v) = option_map (λ t. Some t) (text_in v)

-- the text of the revision that a local document names, or none where it has another id than this one, or `_rev` is no text
abbrev pub local_rev : List ℕ → Value → Option (Option (List ℕ))
local_rev id document =
    if fits_id id (member_of document (codes "_id")) then local_rev_in (member_of document (codes "_rev")) else None

-- the first write names no revision, each later one the stored one
abbrev pub names_stored : Option LocalDocument → Option (List ℕ) → Bool
names_stored None None = true
names_stored None (Some rev) = false
names_stored (Some stored) None = false
names_stored (Some stored) (Some rev) = bytes_eq rev (local_revision stored.number)

-- the number after that of the stored one; the greatest is the last
abbrev pub next_number : Option LocalDocument → Option ℕ
next_number None = Some 1
next_number (Some stored) = if nat_lt stored.number greatest_number then Some (stored.number + 1) else None

-- What becomes of a local document with this id, by the one that is stored. It is bad where it is no object, has a special member that
-- no local document has or one of another form, or what is left without them nests too deep; else it is in conflict, or it has no
-- further number, or it stands in the place of the stored one.
abbrev pub local_outcome : Option LocalDocument → List ℕ → Value → Result LocalDocument WriteFault
local_outcome stored id document =
    given BadDocument (option_map (λ rev. names_stored stored rev) (local_rev id document)) (λ names.
    given BadDocument (local_body document) (λ body.
    if names then given Generation (next_number stored) (λ number. Ok (record { number = number; body = body })) else Err Conflict))
