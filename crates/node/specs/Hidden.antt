-- Databases that are hidden from a group of callers, and the requests of others on them.
-- CouchDB manual, api/database/security, for members; that a hidden database tells nothing is this server's own.
use Rattle.std.specs.Prelude.{◌≡◌, ℕ, Bool, true, false, ◌&&◌, not, List, Option, Some, None, Result, Ok, Err, ⊤}
use Rattle.std.specs.FinMap.{get}
use Rattle.auth.specs.Callers.{Configuration, Identity}
use Rattle.couch_http.specs.Message.{Message}
use Rattle.policy.specs.Security.{is_member}
use Rattle.store.specs.Contents.{Contents}
use Rattle.store.specs.Database.{Database}
use Rattle.api.specs.Asking.{asker, method_named}
use Rattle.api.specs.Paths.{database_name_in}
use Rattle.api.specs.Routing.{page_of}
use Rattle.api.specs.declared.method.RequestMethod.{RequestMethod}
use Rattle.api.specs.declared.method.RequestMethod.TheVariants.{Put, Delete}
use Rattle.api.specs.declared.page.Page.{Page}
use Rattle.api.specs.declared.page.Page.TheVariants.{Database as DatabasePage, Security}
use Rattle.api.specs.declared.refusal.Refusal.{Refusal}

-- some callers, who may tell each other all that they are told
abbrev pub CallerGroup : Type 0
CallerGroup = Identity → Bool

-- the names of some databases, also of such as are not there
abbrev pub Names : Type 0
Names = List ℕ → Bool

-- none of the group is a member of any of these databases, where they are there
abbrev pub AreHidden : CallerGroup → Names → Contents → Type 0
AreHidden group names databases =
    (caller : Identity) (name : List ℕ) (db : Database) → group caller ≡ true → names name ≡ true → get databases name ≡ Some db
    → is_member db.security caller ≡ false

-- ---- requests of others on them

-- the caller is known and not of the group
abbrev pub is_outside : CallerGroup → Result Identity Refusal → Bool
is_outside group (Ok caller) = not (group caller)
is_outside group (Err refusal) = false

-- the request is of a caller who isn't in the group; one whose headers are refused is of nobody
abbrev pub is_of_others : Configuration → CallerGroup → Message → Bool
is_of_others c group m = is_outside group (asker c m)

-- the name of a database is there, and one of these
abbrev pub is_among_names : Names → Option (List ℕ) → Bool
is_among_names names None = false
is_among_names names (Some name) = names name

-- the path leads into one of these databases
abbrev pub is_into : Names → Message → Bool
is_into names m = is_among_names names (database_name_in m.path)

-- a request that is refused the same whatever the database holds
abbrev pub is_spared_at : Option Page → Option RequestMethod → Bool
is_spared_at (Some DatabasePage) (Some Put) = true
is_spared_at (Some DatabasePage) (Some Delete) = true
is_spared_at (Some Security) (Some Put) = true
is_spared_at page method = false

-- The request asks to create a database, to remove one, or to write its security object: what comes of it can be told by everybody, from
-- whether the database is there and who is let in.
abbrev pub is_spared : Message → Bool
is_spared m = is_spared_at (page_of m.path) (method_named m.method)

-- a request of others on one of these databases, which can't be told
abbrev pub is_struck : Configuration → CallerGroup → Names → Message → Bool
is_struck c group names m = is_of_others c group m && (is_into names m && not (is_spared m))

-- ---- states that can't be told apart

-- both databases are there, with one security object, or neither is
abbrev pub IsLike : Option Database → Option Database → Type 0
IsLike None None = ⊤
IsLike None (Some other) = ⊥
IsLike (Some db) None = ⊥
IsLike (Some db) (Some other) = db.security ≡ other.security

-- two databases are alike, or the same
abbrev pub IsLikeWhere : Bool → Option Database → Option Database → Type 0
IsLikeWhere true db other = IsLike db other
IsLikeWhere false db other = db ≡ other

-- states that are the same but for what these databases hold
abbrev pub AreAlike : Names → Contents → Contents → Type 0
AreAlike names a b = (name : List ℕ) → IsLikeWhere (names name) (get a name) (get b name)
