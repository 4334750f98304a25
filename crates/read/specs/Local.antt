-- The local document that a reader is shown.
-- CouchDB manual, api/local (`GET /{db}/_local/{docid}`); that its revision is `0-N` is CouchDB's form, with this server's own count.
use Rattle.std.specs.Prelude.{ℕ, List, codes, option_map, Result}
use Rattle.couch_json.specs.Value.{Value, object, put, text}
use Rattle.store.specs.Contents.{local_at, local_revision}
use Rattle.store.specs.Database.{Database}
use Rattle.store.specs.declared.local_document.LocalDocument.{LocalDocument}
use Rattle.tree.specs.ShownDocument.{body_members}
use Rattle.read.specs.Shown.{found}
use Rattle.read.specs.declared.fault.ReadFault.{ReadFault}

-- its body with its id and its revision
abbrev pub shown_local : List ℕ → LocalDocument → Value
shown_local id document = object (put (codes "_rev") (text (local_revision document.number)) (put (codes "_id") (text id) (body_members document.body)))

-- what reading the local document of this id gives; it is missing where none was written
abbrev pub local_document : List ℕ → Database → Result Value ReadFault
local_document id db = found (option_map (shown_local id) (local_at db id))
