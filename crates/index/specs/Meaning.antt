-- Which indexes there are, which documents they are over, and which key a document has in an index.
-- What queries see of a document, and what a design document declares, is said by `store`; the bytes of a key by `couch_json`.
use Rattle.std.specs.Prelude.{ℕ, ℤ, Bool, false, ◌&&◌, bytes_eq, if◌then◌else◌, List, Option, Some, None, option_map, option_and_then}
use Rattle.std.specs.Ordering.{int_eq}
use Rattle.couch_json.specs.Key.{key}
use Rattle.couch_json.specs.Value.{Value, array}
use Rattle.sqlite_trees.specs.Tree.{Trees}
use Rattle.store.specs.Indexes.{declared_fields, field_values, index_fields_of, queried_document}
use Rattle.tables.specs.Rows.{history_in_rows}
use Rattle.tables.specs.Schema.{revs_tree}

-- the fields of each index, by the number of the database, the design document and the name of the index; none where it is not declared
abbrev pub Declarations : Type 0
Declarations = ℤ → List ℕ → List ℕ → Option (List (List ℕ))

-- the documents that queries see, by the number of the database and the id
abbrev pub Documents : Type 0
Documents = ℤ → List ℕ → Option Value

-- what is stored says these
abbrev pub declares_in : Trees → Declarations
declares_in trees db design name = index_fields_of design (history_in_rows (trees revs_tree) db design) name

-- the documents that queries see, as the rows have them
abbrev pub sees_in : Trees → Documents
sees_in trees db id = queried_document id (history_in_rows (trees revs_tree) db id)

-- ---- keys

-- the bytes of the key that a document has in an index of these fields: that of the list of its values; none where it lacks one of them
abbrev pub key_at : List (List ℕ) → Value → Option (List ℕ)
key_at fields document = option_map (λ values. key (array values)) (field_values fields document)

-- the same of a document that queries may not see
abbrev pub key_if_seen : List (List ℕ) → Option Value → Option (List ℕ)
key_if_seen fields seen = option_and_then (key_at fields) seen

-- the key is there, and is this one
abbrev pub is_key : Option (List ℕ) → List ℕ → Bool
is_key None k = false
is_key (Some found) k = bytes_eq found k

-- ---- changes

-- another document, or none, is seen of this id
abbrev pub with_seen : Documents → ℤ → List ℕ → Option Value → Documents
with_seen sees db id seen d i = if int_eq d db && bytes_eq i id then seen else sees d i

-- this design document declares others
abbrev pub with_declared : Declarations → ℤ → List ℕ → (List ℕ → Option (List (List ℕ))) → Declarations
with_declared declares db design fields d other name = if int_eq d db && bytes_eq other design then fields name else declares d other name

-- what a body declares, where there is one
abbrev pub declared_if : Option Value → List ℕ → Option (List (List ℕ))
declared_if body name = option_and_then (λ v. declared_fields v name) body

-- the database declares nothing
abbrev pub without_declared : Declarations → ℤ → Declarations
without_declared declares db d design name = if int_eq d db then None else declares d design name
