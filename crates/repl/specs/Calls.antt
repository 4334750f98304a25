-- The calls of a pass, and the requests that they are.
-- CouchDB manual, replication/protocol, and the pages of the calls: api/local, api/database/changes, api/database/misc
-- (`_revs_diff`), api/document/common (`open_revs`) and api/database/bulk-api.
use Rattle.std.specs.Prelude.{ℕ, false, List, [], ◌∷◌, ◌++◌, map, codes, Option, Some, None}
use Rattle.std.specs.Fmt.{decimal}
use Rattle.std.specs.List.{join_with_byte}
use Rattle.couch_json.specs.Canonical.{canonical}
use Rattle.couch_json.specs.Value.{Value, truth, text, array, object, Members, no_members, member, put}
use Rattle.couch_json.specs.View.{items_of}
use Rattle.couch_http.specs.Message.{HeaderField, Message}
use Rattle.form_urlencoded.specs.Form.{append_pair}
use Rattle.repl.specs.Configuration.{Account, PassConfiguration, database_of_side}
use Rattle.repl.specs.Spelling.{segment, document_segments}
use Rattle.repl.specs.declared.side.Side.{Side}

-- revisions of a document
pub record Revisions : Type 0 where
  pub id : List ℕ
  pub revisions : List (List ℕ)

-- what a pass asks one of its sides
pub data Call : Type 0 where
  read_checkpoint : List ℕ → Call
  write_checkpoint : List ℕ → Value → Call
  -- those after a sequence, and how many at most, where not all are wanted
  list_changes : ℕ → Option ℕ → Call
  compare_revisions : List Revisions → Call
  open_revisions : Revisions → Call
  push_documents : List Value → Call

-- ---- bodies and queries

-- a list of texts
abbrev pub texts_value : List (List ℕ) → Value
texts_value texts = array (items_of (map text texts))

-- a list of revisions under each id, put one after another into the members found before
abbrev pub revisions_put : List Revisions → Members → Members
revisions_put [] found = found
revisions_put (r ∷ rs) found = revisions_put rs (put r.id (texts_value r.revisions) found)

-- the revisions of which the target is asked whether it has them
abbrev pub revisions_value : List Revisions → Value
revisions_value rs = object (revisions_put rs no_members)

-- documents that are to be written with the revisions that they come with
abbrev pub documents_value : List Value → Value
documents_value documents =
    object (member (codes "docs") (array (items_of documents)) (member (codes "new_edits") (truth false) no_members))

-- at most so many
abbrev pub limit_part : Option ℕ → List ℕ
limit_part None = []
limit_part (Some most) = codes "&limit=" ++ decimal most

-- the changes after a sequence, with all leaves: all of them, or the first ones, at most so many
abbrev pub changes_call_query : ℕ → Option ℕ → List ℕ
changes_call_query since most = codes "since=" ++ decimal since ++ codes "&style=all_docs" ++ limit_part most

-- these revisions, each with its history
abbrev pub revisions_query : List (List ℕ) → List ℕ
revisions_query revisions =
    append_pair (append_pair [] (codes "open_revs") (canonical (texts_value revisions))) (codes "revs") (codes "true")

-- ---- requests

-- the method of a call, its path below that of the database, its query, if it has one, and its body
abbrev pub call_parts : Call → List ℕ × List ℕ × Option (List ℕ) × List ℕ
call_parts (read_checkpoint id) = (codes "GET", codes "_local/" ++ segment id, None, [])
call_parts (write_checkpoint id body) = (codes "PUT", codes "_local/" ++ segment id, None, canonical body)
call_parts (list_changes since most) = (codes "GET", codes "_changes", Some (changes_call_query since most), [])
call_parts (compare_revisions rs) = (codes "POST", codes "_revs_diff", None, canonical (revisions_value rs))
call_parts (open_revisions r) = (codes "GET", document_segments r.id, Some (revisions_query r.revisions), [])
call_parts (push_documents documents) = (codes "POST", codes "_bulk_docs", None, canonical (documents_value documents))

-- the method of a call
abbrev pub call_method : Call → List ℕ
call_method call = (call_parts call).0

-- the path, below that of the database
abbrev pub call_page : Call → List ℕ
call_page call = (call_parts call).1

-- the query of a call, if it has one
abbrev pub call_query : Call → Option (List ℕ)
call_query call = (call_parts call).2

-- the body of a call
abbrev pub call_body : Call → List ℕ
call_body call = (call_parts call).3

-- the path of a page of a database
abbrev pub page_path : List ℕ → List ℕ → List ℕ
page_path db page = codes "/" ++ segment db ++ codes "/" ++ page

-- the headers by which a proxy names the user; roles are listed, and the list may be empty
abbrev pub account_fields : Account → List HeaderField
account_fields a =
    record { name = codes "X-Auth-CouchDB-UserName"; value = a.name }
    ∷ record { name = codes "X-Auth-CouchDB-Roles"; value = join_with_byte 44 a.roles }
    ∷ record { name = codes "X-Auth-CouchDB-Token"; value = a.token }
    ∷ []

-- the header fields of a call: those that vouch for the user, if there is one
abbrev pub headers_of : Option Account → List HeaderField
headers_of None = []
headers_of (Some a) = account_fields a

-- the request of these parts to a side
abbrev pub request_with : PassConfiguration → Side → List ℕ → List ℕ → Option (List ℕ) → List ℕ → Message
request_with c side method page query body = record {
  method = method;
  path = page_path (database_of_side c side) page;
  query = query;
  headers = headers_of c.user;
  body = body;
  last = false;
}

-- the request that a call to a side is
abbrev pub request_of : PassConfiguration → Side → Call → Message
request_of c side call = request_with c side (call_method call) (call_page call) (call_query call) (call_body call)
