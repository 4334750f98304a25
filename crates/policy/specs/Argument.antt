-- What an update rule is asked of: the new document, the old one, the security object, and who writes where.
-- CouchDB manual, ddocs/ddocs, "Validate Document Update Functions" (newDoc, oldDoc, userCtx, secObj), and json-structure, "User Context Object".
use Rattle.std.specs.Prelude.{ℕ, Bool, List, codes, map, Option, option_map}
use Rattle.auth.specs.Callers.{Identity}
use Rattle.couch_json.specs.Parts.{value_or_null}
use Rattle.couch_json.specs.Value.{Value, text, array, object, no_members, member, put}
use Rattle.couch_json.specs.View.{items_of}
use Rattle.tree.specs.Revision.{Revision}
use Rattle.tree.specs.ShownDocument.{body_members, document_at_revision, with_mark}

-- a document as a write would have it; it has no revision yet
pub record NewDocument : Type 0 where
  pub id : List ℕ
  pub deleted : Bool
  pub body : Value

-- the revision of it that the write follows
pub record OldDocument : Type 0 where
  pub id : List ℕ
  pub rev : Revision
  pub deleted : Bool
  pub body : Value

-- the body with `_id`, and with `_deleted` where it is deleted
abbrev pub new_document : NewDocument → Value
new_document new = object (with_mark new.deleted (put (codes "_id") (text new.id) (body_members new.body)))

-- the same with `_rev`, as readers are shown it
abbrev pub old_document : OldDocument → Value
old_document old = document_at_revision old.id old.rev (record { deleted = old.deleted; body = old.body })

-- a caller's name; an anonymous caller has null
abbrev pub name_value : Option (List ℕ) → Value
name_value name = value_or_null (option_map (λ t. text t) name)

-- who writes, in the database of this name
abbrev pub user_context : Identity → List ℕ → Value
user_context caller database =
    object (member (codes "db") (text database) (member (codes "name") (name_value caller.name)
    (member (codes "roles") (array (items_of (map text caller.roles))) no_members)))

-- the argument of these documents, each a value already
abbrev pub argument_with : Value → Option Value → Identity → List ℕ → Value → Value
argument_with new old caller name security =
    object (member (codes "newDoc") new (member (codes "oldDoc") (value_or_null old) (member (codes "secObj") security
    (member (codes "userCtx") (user_context caller name) no_members))))

-- what stands beside the documents, and is the same for all of them
abbrev pub circumstances : Identity → List ℕ → Value → Value
circumstances caller name security =
    object (member (codes "secObj") security (member (codes "userCtx") (user_context caller name) no_members))

-- the argument of these documents under circumstances
abbrev pub argument_under : Value → Value → Option Value → Value
argument_under beside new old = object (member (codes "newDoc") new (member (codes "oldDoc") (value_or_null old) (body_members beside)))

-- what the rules of the database of this name, which has this security object, are asked of; null stands for an old document
-- where there is none
abbrev pub argument : NewDocument → Option OldDocument → Identity → List ℕ → Value → Value
argument new old caller name security = argument_with (new_document new) (option_map (λ d. old_document d) old) caller name security
