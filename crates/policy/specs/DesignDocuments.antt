-- Which bodies a design document may have: what it declares, a rule and indexes, is of its form.
-- CouchDB manual, ddocs/ddocs (`validate_doc_update`) and api/database/find (fields of an index); that indexes are declared in the member `indexes`, and the limits, are this server's own.
use Rattle.std.specs.Prelude.{ℕ, Bool, true, ◌&&◌, List, [], ◌∷◌, length, codes, nat_le, is_some}
use Rattle.couch_json.specs.Parts.{has_only, is_there_and, items_in, members_in}
use Rattle.couch_json.specs.Value.{Value, Items, no_items, item, Members, no_members, member, member_of}
pub use Rattle.selector.specs.Grammar.{is_path}
use Rattle.selector.specs.Grammar.{rule_selector_in}
use Rattle.selector.specs.Truth.{items_length}
use Rattle.policy.specs.Security.{is_absent_or}

-- the selector of a rule
abbrev pub is_rule : Value → Bool
is_rule v = is_some (rule_selector_in v)

-- each item is a field path
abbrev pub are_paths : Items → Bool
are_paths no_items = true
are_paths (item v vs) = is_path v && are_paths vs

-- how many fields an index may have
abbrev pub is_field_count : ℕ → Bool
is_field_count n = nat_le 1 n && nat_le n 8

-- the fields of an index: 1 to 8 paths; one of them may stand there twice
abbrev pub are_fields : Items → Bool
are_fields vs = is_field_count (items_length vs) && are_paths vs

-- a list of fields of an index
abbrev pub is_field_list : Value → Bool
is_field_list v = is_there_and are_fields (items_in v)

-- an object with `fields` and nothing else
abbrev pub is_index : Value → Bool
is_index v = has_only (codes "fields" ∷ []) v && is_there_and is_field_list (member_of v (codes "fields"))

-- 1 to 64 bytes
abbrev pub is_index_name : List ℕ → Bool
is_index_name name = nat_le 1 (length name) && nat_le (length name) 64

-- each member is an index with a name that an index may have
abbrev pub are_indexes : Members → Bool
are_indexes no_members = true
are_indexes (member name v ms) = is_index_name name && is_index v && are_indexes ms

-- indexes by name; there may be none
abbrev pub is_index_object : Value → Bool
is_index_object v = is_there_and are_indexes (members_in v)

-- `validate_doc_update` and `indexes`, where there, are of their form; other members are not looked at
abbrev pub is_design_body : Value → Bool
is_design_body body =
    is_absent_or is_rule (member_of body (codes "validate_doc_update"))
    && is_absent_or is_index_object (member_of body (codes "indexes"))
