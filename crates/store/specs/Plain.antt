-- What a plain store holds, as contents; for private clauses and proofs.
-- This crate's own.
use Rattle.std.specs.Prelude.{ℕ, bytes_eq, ◌+◌, List, [], ◌∷◌, map, Option, Some, None, if◌then◌else◌, ⊤}
use Rattle.std.specs.declared.cmp.Ordering.{Ordering}
use Rattle.std.specs.Ordering.{nat_cmp, eq_by_cmp}
use Rattle.std.specs.Cmp.Lexicographic.{slice_cmp}
use Rattle.std.specs.FinMap.{from_entries, find, put}
use Rattle.std.specs.FinMap.Entries.{by_order}
use Rattle.couch_json.specs.Value.{Value}
use Rattle.couch_json.specs.View.{view}
use Rattle.couch_json.specs.declared.value.Json.{Json}
use Rattle.tree.specs.History.{HistoryContent, with_write}
use Rattle.store.specs.Contents.{Contents}
use Rattle.store.specs.Database.{Database, Document, TextMap, history_in, with_all, empty_database}
use Rattle.store.specs.Indexes.{IndexPlace, index_over}
use Rattle.store.specs.Writing.{Addition, additions, written_in, writings_in}
use Rattle.store.specs.declared.local_document.LocalDocument.{LocalDocument}
use Rattle.store.specs.declared.plain.PlainDatabase.{PlainDatabase}
use Rattle.store.specs.declared.plain.PlainDocument.{PlainDocument}

abbrev pub Named : Type 0
Named = List ℕ × PlainDatabase

-- the local documents by id
abbrev pub locals_of : List (List ℕ × LocalDocument) → TextMap LocalDocument
locals_of es = from_entries es

-- what writes made of a database with this security object
abbrev pub written_content : Value → List Addition → Database
written_content security all = with_all (empty_database security) (writings_in (empty_database security) all)

abbrev pub content : PlainDatabase → Database
content d = record (written_content d.security (additions d.writes.items)) { locals = locals_of d.locals.entries }

abbrev pub database_entries : List Named → List (List ℕ × Database)
database_entries es = map (λ e. (e.0, content e.1)) es

abbrev pub contents_of : List Named → Contents
contents_of es = from_entries (database_entries es)

-- the database of this name
abbrev pub found : List Named → List ℕ → Option Database
found es name = find (slice_cmp nat_cmp) name (database_entries es)

-- the first place, counted on from n, at which a database of this name stands
abbrev pub place_from : ℕ → List ℕ → List Named → Option ℕ
place_from n name [] = None
place_from n name (e ∷ es) = if eq_by_cmp (slice_cmp nat_cmp) name e.0 then Some n else place_from (n + 1) name es

-- one more write to a document with this history
abbrev pub with_addition : HistoryContent → Addition → HistoryContent
with_addition h a = with_write h (written_in h a).write

-- the history that the writes of the document make of one
abbrev pub history_after : HistoryContent → List ℕ → List Addition → HistoryContent
history_after h id [] = h
history_after h id (a ∷ more) = history_after (if bytes_eq a.id id then with_addition h a else h) id more

-- the value at a key among entries in the order of their keys
abbrev pub value_in : {K X : Type 0} → (K → K → Ordering) → K → List (K × X) → Option X
value_in R k [] = None
value_in R k (e ∷ es) = by_order (R k e.0) None (Some e.1) (value_in R k es)

-- the keys of the entries, put one after the other, the last first, among entries that hold nothing
abbrev pub keys_put : {K X : Type 0} → (K → K → Ordering) → List (K × X) → List (K × ⊤) → List (K × ⊤)
keys_put R [] among = among
keys_put R (e ∷ es) among = put R e.0 tt (keys_put R es among)

-- the documents gathered so far, by id
abbrev pub document_entry : List ℕ × PlainDocument → List ℕ × Document
document_entry e = (e.0, record { sequence = e.1.sequence; history = e.1.history })

abbrev pub document_entries : List (List ℕ × PlainDocument) → List (List ℕ × Document)
document_entries es = map document_entry es

-- one more write gathered, and each of them, after n that were
abbrev pub with_write_at : ℕ → List (List ℕ × Document) → Addition → List (List ℕ × Document)
with_write_at sequence es a =
    put (slice_cmp nat_cmp) a.id (record { sequence = sequence; history = with_addition (history_in (value_in (slice_cmp nat_cmp) a.id es)) a }) es

abbrev pub gathered_after : ℕ → List (List ℕ × Document) → List Addition → List (List ℕ × Document)
gathered_after n es [] = es
gathered_after n es (a ∷ more) = gathered_after (n + 1) (with_write_at (n + 1) es a) more

-- an index with its documents
abbrev pub place_views : List (IndexPlace × Json) → List (IndexPlace × Value)
place_views es = map (λ e. (e.0, view e.1)) es

-- the places of these documents in an index of these fields
abbrev pub places_over : List (List ℕ) → List (List ℕ × Document) → List IndexPlace
places_over fields es = map (λ e. e.0) (index_over fields es)
