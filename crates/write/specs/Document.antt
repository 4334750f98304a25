-- What a document that a client sends says: its body, the revision that it names, its mark of deletion, and the history that it comes with; and which documents are bad ones.
-- CouchDB manual, api/document/common ("Special Fields": names that begin with `_` are reserved), api/database/bulk-api (`_revisions`) and ddocs (design documents); that other special members are refused and the limit on depth are this server's own.
use Rattle.std.specs.Prelude.{ℕ, suc, ◌==◌, Bool, true, false, not, ◌&&◌, ◌||◌, if◌then◌else◌, List, [], ◌∷◌, ℤ, pos, negsuc, Option, Some, None, option_map, option_and_then, codes, nat_le, bytes_eq}
use Rattle.couch_json.specs.Parts.{has_only, items_in, members_in, text_in, truth_in, whole_in}
use Rattle.couch_json.specs.Value.{Value, null, truth, whole, text, array, object, Items, no_items, item, Members, no_members, member, member_of, depth}
use Rattle.policy.specs.DesignDocuments.{is_design_body}
use Rattle.store.specs.Contents.{max_body_depth}
use Rattle.store.specs.SpecialMembers.{is_special}
use Rattle.tree.specs.DocumentId.{is_design_id, is_document_id, is_local_id}
use Rattle.tree.specs.Revision.{Revision, greatest_number, revision_of, revision_read}
use Rattle.write.specs.declared.document.ParsedDocument.{ParsedDocument}

-- ---- parts of a value

-- the text of a member, where there is one and it is a text
abbrev pub member_text : List ℕ → Value → Option (List ℕ)
member_text name v = option_and_then (λ m. text_in m) (member_of v name)

-- ---- special members

-- those that a document may have
abbrev pub is_document_member : List ℕ → Bool
is_document_member name =
    bytes_eq name (codes "_id") || bytes_eq name (codes "_rev") || bytes_eq name (codes "_deleted") || bytes_eq name (codes "_revisions")

-- each special member is one of those that are known
abbrev pub are_allowed : (List ℕ → Bool) → Members → Bool
are_allowed is_known no_members = true
are_allowed is_known (member name v ms) = (not (is_special name) || is_known name) && are_allowed is_known ms

-- the members whose names don't begin with an underscore
abbrev pub without_special : Members → Members
without_special no_members = no_members
without_special (member name v ms) = if is_special name then without_special ms else member name v (without_special ms)

-- `_id`, where it is given, has to be the document's id
abbrev pub is_same_text : List ℕ → Option (List ℕ) → Bool
is_same_text id None = false
is_same_text id (Some t) = bytes_eq t id

-- the document names this id, or none
abbrev pub fits_id : List ℕ → Option Value → Bool
fits_id id None = true
fits_id id (Some v) = is_same_text id (text_in v)

-- `_rev`, where it is given, has to be a revision
abbrev pub given_revision : Option Value → Option (Option Revision)
given_revision None = Some None
given_revision (Some v) = option_and_then (λ t. option_map (λ r. Some r) (revision_read t)) (text_in v)

-- `_deleted`, where it is given, has to be true or false
abbrev pub mark_in : Option Value → Option Bool
mark_in None = Some false
mark_in (Some v) = truth_in v

-- ---- a document

-- the revision that a document names and whether it is deleted, where both are of their form
abbrev pub words_said : Value → Option (Option Revision × Bool)
words_said document =
    option_and_then (λ rev. option_map (λ deleted. (rev, deleted)) (mark_in (member_of document (codes "_deleted"))))
    (given_revision (member_of document (codes "_rev")))

-- the revision and the mark of deletion that a document with this id says
abbrev pub words_in : List ℕ → Value → Option (Option Revision × Bool)
words_in id document = if fits_id id (member_of document (codes "_id")) then words_said document else None

-- the body, where the document is of its form
abbrev pub body_if : Bool → Value → Option Value
body_if good body = if good then Some body else None

-- what is left of members without the special ones, where these are known and the others aren't nested too deep
abbrev pub remaining_body : (List ℕ → Bool) → Members → Option Value
remaining_body is_known ms =
    body_if (are_allowed is_known ms && nat_le (depth (object (without_special ms))) max_body_depth) (object (without_special ms))

-- the body of a document, which is an object with no other special members than a document may have
abbrev pub body_in : Value → Option Value
body_in document = option_and_then (λ ms. remaining_body is_document_member ms) (members_in document)

-- a design document has the body of one, also where it is deleted
abbrev pub is_body_for : List ℕ → Value → Bool
is_body_for id body = if is_design_id id then is_design_body body else true

-- the body of a document with this id
abbrev pub body_for : List ℕ → Value → Option Value
body_for id document = option_and_then (λ body. body_if (is_body_for id body) body) (body_in document)

-- what a document says, by its parts
abbrev pub sent_with : Option Revision × Bool → Value → ParsedDocument
sent_with words body = record { rev = words.0; deleted = words.1; body = body }

-- what a document with this id says, or none where it is a bad one: where it is no object, has a special member that no document
-- has or one of another form, its body, which is what is left without them, nests too deep, or it is a design document and its body
-- is not that of one
abbrev pub sent_in : List ℕ → Value → Option ParsedDocument
sent_in id document = option_and_then (λ words. option_map (λ body. sent_with words body) (body_for id document)) (words_in id document)

-- the id that a document of several gives itself: a text that is the id of a document, and of no local one
abbrev pub is_bulk_id : List ℕ → Bool
is_bulk_id id = is_document_id id && not (is_local_id id)

-- a text that is the id of a document in a bulk
abbrev pub id_in_bulk : List ℕ → Option (List ℕ)
id_in_bulk id = if is_bulk_id id then Some id else None

-- the id of a document in a bulk
abbrev pub id_in : Value → Option (List ℕ)
id_in document = option_and_then (λ t. id_in_bulk t) (member_text (codes "_id") document)

-- ---- the history that a replicated document comes with

-- members without the first of this name
abbrev pub without_name : List ℕ → Members → Members
without_name name no_members = no_members
without_name name (member other v ms) = if bytes_eq name other then ms else member other v (without_name name ms)

-- a value without its member of this name, where it is an object that has one
abbrev pub without_member : List ℕ → Value → Value
without_member name null = null
without_member name (truth b) = truth b
without_member name (whole n) = whole n
without_member name (text s) = text s
without_member name (array vs) = array vs
without_member name (object ms) = object (without_name name ms)

-- how many items a list has
abbrev pub item_count : Items → ℕ
item_count no_items = 0
item_count (item v vs) = suc (item_count vs)

-- a revision in front of a path, where both are there
abbrev pub onto : Option Revision → Option (List Revision) → Option (List Revision)
onto None path = None
onto (Some r) path = option_map (λ rs. r ∷ rs) path

-- the revisions of these hashes, whose numbers go down by one and end at 1; none where one of them is no hash
abbrev pub path_of_hashes : Items → Option (List Revision)
path_of_hashes no_items = Some []
path_of_hashes (item v vs) = onto (option_and_then (λ hash. revision_of (suc (item_count vs)) hash) (text_in v)) (path_of_hashes vs)

-- a number that is one of a revision
abbrev pub number_if : ℤ → Option ℕ
number_if (pos n) = if nat_le 1 n && nat_le n greatest_number then Some n else None
number_if (negsuc n) = None

-- the number that `start` gives the newest revision
abbrev pub start_in : Value → Option ℕ
start_in v = option_and_then (λ n. number_if n) (option_and_then (λ m. whole_in m) (member_of v (codes "start")))

-- the revisions of `ids`, numbered from the oldest, which is the first of all
abbrev pub ids_in : Value → Option (List Revision)
ids_in v = option_and_then (λ vs. path_of_hashes vs) (option_and_then (λ m. items_in m) (member_of v (codes "ids")))

-- what a document says of its history: how many revisions it has, and these, newest first
pub record Ancestry : Type 0 where
  pub start : ℕ
  pub path : List Revision

-- the path of `_revisions`, where it is of its form
abbrev pub revisions_if : Bool → Value → Option Ancestry
revisions_if good v =
    if good then option_and_then (λ start. option_map (λ path. record { start = start; path = path }) (ids_in v)) (start_in v) else None

-- what `_revisions` says: `start` and `ids`, and nothing else
abbrev pub ancestry_given : Value → Option Ancestry
ancestry_given v = revisions_if (has_only (codes "start" ∷ codes "ids" ∷ []) v) v

-- the newest revision is `start` with the first of `ids`; a document that names its revision too names this one
abbrev pub is_newest : ℕ → List Revision → Option Revision → Bool
is_newest start [] rev = false
is_newest start (r ∷ path) None = true
is_newest start (r ∷ path) (Some s) = (s.number == start) && bytes_eq s.hash r.hash

-- the path, where it begins at the revision that the document names
abbrev pub ancestry_if_newest : Option Revision → Ancestry → Option Ancestry
ancestry_if_newest rev said = if is_newest said.start said.path rev then Some said else None

-- a revision that comes alone is the whole history
abbrev pub ancestry_alone : Revision → Ancestry
ancestry_alone r = record { start = 1; path = r ∷ [] }

-- the path that a document names, or its revision alone
abbrev pub ancestry_by : Option (Option Ancestry) → Option Revision → Option Ancestry
ancestry_by None rev = option_map ancestry_alone rev
ancestry_by (Some said) rev = option_and_then (ancestry_if_newest rev) said

-- what `_revisions` says, where it is given
abbrev pub given_revisions : Value → Option (Option Ancestry)
given_revisions document = option_map ancestry_given (member_of document (codes "_revisions"))

-- The history of a replicated document that names this revision: that of `_revisions`, or the one revision. Without both, or where
-- they say different things, there is none, and it is a bad document.
abbrev pub ancestry_in : Value → Option Revision → Option Ancestry
ancestry_in document rev = ancestry_by (given_revisions document) rev
