-- The parts of a path, and what a part says once its escapes are read.
-- RFC 3986, sections 2.1 and 3.3 (escapes, segments); CouchDB manual, api/basics (names in paths are escaped).
use Rattle.std.specs.Prelude.{ℕ, ◌==◌, Bool, not, List, ◌∷◌, ◌++◌, Option, Some, None, option_map, option_and_then, if◌then◌else◌, slice_get}
use Rattle.std.specs.List.{slice_split}
use Rattle.std.specs.Str.{is_utf8}
use Rattle.percent_encoding.specs.Percent.{percent_decode}
use Rattle.tree.specs.DocumentId.{is_document_id, is_local_id}
use Rattle.store.specs.DatabaseName.{is_database_name}

-- the byte of a slash
abbrev pub slash : ℕ
slash = 47

-- what stands between the slashes; the first part is what stands before the first slash
abbrev pub parts_of : List ℕ → List (List ℕ)
parts_of path = slice_split (λ b. b == slash) path

-- the part at this place, counted from 0
abbrev pub part_at : ℕ → List ℕ → Option (List ℕ)
part_at place path = slice_get (parts_of path) place

-- a text, where it is good
abbrev pub text_if : Bool → List ℕ → Option (List ℕ)
text_if good text = if good then Some text else None

-- the text that a part stands for, where it is UTF-8
abbrev pub decoded_text : List ℕ → Option (List ℕ)
decoded_text part = text_if (is_utf8 (percent_decode part)) (percent_decode part)

-- the text that the part at this place stands for
abbrev pub decoded_at : ℕ → List ℕ → Option (List ℕ)
decoded_at place path = option_and_then (λ part. decoded_text part) (part_at place path)

-- a text that is the name of a database
abbrev pub name_if : List ℕ → Option (List ℕ)
name_if text = text_if (is_database_name text) text

-- the name of the database that a path leads into, where it is one
abbrev pub database_name_in : List ℕ → Option (List ℕ)
database_name_in path = option_and_then (λ text. name_if text) (decoded_at 1 path)

-- a text that is the id of a document
abbrev pub id_in_path : List ℕ → Option (List ℕ)
id_in_path text = text_if (is_document_id text) text

-- two texts with a slash between them, as in the id of a design document or of a local one
abbrev pub joined_by_slash : Option (List ℕ) → Option (List ℕ) → Option (List ℕ)
joined_by_slash first second = option_and_then (λ a. option_map (λ b. a ++ slash ∷ b) second) first

-- what stands behind the database's name: one part, or two with a slash between them
abbrev pub id_text_by : Option (List ℕ) → List ℕ → Option (List ℕ)
id_text_by None path = decoded_at 2 path
id_text_by (Some part) path = joined_by_slash (decoded_at 2 path) (decoded_at 3 path)

-- the id in a path, as a text
abbrev pub id_text_in : List ℕ → Option (List ℕ)
id_text_in path = id_text_by (part_at 3 path) path

-- the name of the index that the path of a view ends with, where it is UTF-8
abbrev pub index_name_in_path : List ℕ → Option (List ℕ)
index_name_in_path path = decoded_at 5 path

-- the id that a path names behind the database, where it is one
abbrev pub named_id_in : List ℕ → Option (List ℕ)
named_id_in path = option_and_then (λ text. id_in_path text) (id_text_in path)

-- the id of the document that a path leads to, where it is one, and no local one
abbrev pub document_id_in : List ℕ → Option (List ℕ)
document_id_in path = option_and_then (λ id. text_if (not (is_local_id id)) id) (named_id_in path)

-- the id of the local document that a path leads to, where it is one
abbrev pub local_id_in : List ℕ → Option (List ℕ)
local_id_in path = option_and_then (λ id. text_if (is_local_id id) id) (named_id_in path)
