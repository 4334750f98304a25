-- Which values are security objects, and whom one names as admins and members of its database.
-- CouchDB manual, api/database/security; the limit on nesting is that of document bodies, and this server's own.
use Rattle.std.specs.Prelude.{ℕ, Bool, true, false, ◌&&◌, ◌||◌, List, [], ◌∷◌, ◌++◌, codes, Option, Some, None, nat_le, option_and_then, option_to_list}
use Rattle.std.specs.List.{list_any}
use Rattle.auth.specs.Callers.{Identity}
use Rattle.auth.specs.Roles.{is_among, admin_role}
use Rattle.couch_json.specs.Parts.{is_object, is_text, is_there_and, items_in, items_or_none, text_in}
use Rattle.couch_json.specs.Value.{Value, text, array, object, Items, no_items, item, no_members, member, member_of, depth}

-- each item is a text
abbrev pub are_texts : Items → Bool
are_texts no_items = true
are_texts (item v vs) = is_text v && are_texts vs

-- a list whose items are texts
abbrev pub is_list_of_texts : Value → Bool
is_list_of_texts v = is_there_and are_texts (items_in v)

-- what may be absent, and passes the test where it is there
abbrev pub is_absent_or : (Value → Bool) → Option Value → Bool
is_absent_or test None = true
is_absent_or test (Some v) = test v

-- a group: an object whose `names` and `roles`, where there, are lists of texts
abbrev pub is_group : Value → Bool
is_group v =
    is_object v && is_absent_or is_list_of_texts (member_of v (codes "names")) && is_absent_or is_list_of_texts (member_of v (codes "roles"))

-- how deep a security object may nest
abbrev pub max_depth : ℕ
max_depth = 100

-- an object whose `admins` and `members`, where there, are groups; it may have other members
abbrev pub is_security : Value → Bool
is_security v =
    is_object v && is_absent_or is_group (member_of v (codes "admins")) && is_absent_or is_group (member_of v (codes "members"))
    && nat_le (depth v) max_depth

-- the group of server admins alone
abbrev pub admins_only : Value
admins_only = object (member (codes "roles") (array (item (text admin_role) no_items)) no_members)

-- the security object of a new database
abbrev pub closed_security : Value
closed_security = object (member (codes "admins") admins_only (member (codes "members") admins_only no_members))

-- ---- whom a security object names

-- the texts among the elements
abbrev pub item_texts : Items → List (List ℕ)
item_texts no_items = []
item_texts (item v vs) = option_to_list (text_in v) ++ item_texts vs

-- the texts that a group lists under `names` or `roles`
abbrev pub listed_in : Option Value → List ℕ → List (List ℕ)
listed_in group part =
    item_texts (items_or_none (option_and_then (λ v. items_in v) (option_and_then (λ v. member_of v part) group)))

-- the caller has a name, and it is one of these
abbrev pub is_name_among : Option (List ℕ) → List (List ℕ) → Bool
is_name_among None names = false
is_name_among (Some name) names = is_among name names

-- the caller is in the group, by name or by a role
abbrev pub is_in_group : Option Value → Identity → Bool
is_in_group group caller =
    is_name_among caller.name (listed_in group (codes "names"))
    || list_any (λ role. is_among role (listed_in group (codes "roles"))) caller.roles

-- it has no element
abbrev pub is_empty : List (List ℕ) → Bool
is_empty [] = true
is_empty (t ∷ ts) = false

-- the group names nobody
abbrev pub is_vacant : Option Value → Bool
is_vacant group = is_empty (listed_in group (codes "names")) && is_empty (listed_in group (codes "roles"))

-- the server's admins have the role `_admin`
abbrev pub is_server_admin : Identity → Bool
is_server_admin caller = is_among admin_role caller.roles

-- an admin of the server, or of this database
abbrev pub is_database_admin : Value → Identity → Bool
is_database_admin security caller = is_server_admin caller || is_in_group (member_of security (codes "admins")) caller

-- a database whose members' group names nobody is open to everyone
abbrev pub is_member : Value → Identity → Bool
is_member security caller =
    is_database_admin security caller || is_vacant (member_of security (codes "members"))
    || is_in_group (member_of security (codes "members")) caller
