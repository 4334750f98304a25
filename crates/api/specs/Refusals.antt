-- The reply to a request that is refused: its status, and an object that says why; and how steps that may be refused follow one another.
-- CouchDB manual, api/basics (`error` and `reason`, the status codes); that a denial names its rule is this server's own.
use Rattle.std.specs.Prelude.{ℕ, Bool, true, false, List, codes, Option, Some, None, Result, Ok, Err}
use Rattle.couch_json.specs.Value.{Value, text, object, Members, no_members, put}
use Rattle.policy.specs.declared.rule.Rule.{Rule}
use Rattle.policy.specs.declared.rule.Rule.TheVariants.{ProxyToken, ServerAdmin, DbMember, DbAdmin, DesignDocument, Update}
use Rattle.api.specs.declared.refusal.Refusal.{Refusal}
use Rattle.api.specs.declared.refusal.Refusal.TheVariants.{Unauthorized, Forbidden, Path, Method, DatabaseName, NoDatabase, Exists, Id, Query, Syntax, Body, BadDocument, BadHistory, Conflict, Generation, Missing, Deleted}

-- why a rule refuses
abbrev pub reason_of_rule : Rule → List ℕ
reason_of_rule ProxyToken = codes "Bad proxy token."
reason_of_rule ServerAdmin = codes "You are not a server admin."
reason_of_rule DbMember = codes "You are not allowed to access this db."
reason_of_rule DbAdmin = codes "You are not a db or server admin."
reason_of_rule DesignDocument = codes "You are not a db or server admin."
reason_of_rule (Update id) = codes "Refused by an update rule."

-- the status of a refusal, and its words `error` and `reason`
abbrev pub texts_of : Refusal → ℕ × List ℕ × List ℕ
texts_of (Unauthorized rule) = (401, codes "unauthorized", reason_of_rule rule)
texts_of (Forbidden rule) = (403, codes "forbidden", reason_of_rule rule)
texts_of Path = (404, codes "not_found", codes "path")
texts_of Method = (405, codes "method_not_allowed", codes "method")
texts_of DatabaseName = (400, codes "illegal_database_name", codes "name")
texts_of NoDatabase = (404, codes "not_found", codes "Database does not exist.")
texts_of Exists = (412, codes "file_exists", codes "The database could not be created, the file already exists.")
texts_of Id = (400, codes "bad_request", codes "id")
texts_of Query = (400, codes "bad_request", codes "query")
texts_of Syntax = (400, codes "bad_request", codes "JSON")
texts_of Body = (400, codes "bad_request", codes "body")
texts_of BadDocument = (400, codes "doc_validation", codes "Bad document.")
texts_of BadHistory = (400, codes "bad_history", codes "Bad revision history.")
texts_of Conflict = (409, codes "conflict", codes "Document update conflict.")
texts_of Generation = (400, codes "generation", codes "No further generation.")
texts_of Missing = (404, codes "not_found", codes "missing")
texts_of Deleted = (404, codes "not_found", codes "deleted")

-- the status of a refusal
abbrev pub status_of : Refusal → ℕ
status_of r = (texts_of r).0

-- the word `error` of a refusal
abbrev pub error_of : Refusal → List ℕ
error_of r = (texts_of r).1

-- the word `reason` of a refusal
abbrev pub reason_of : Refusal → List ℕ
reason_of r = (texts_of r).2

-- the name of a rule; an update rule is named by the id of its design document
abbrev pub name_of_rule : Rule → List ℕ
name_of_rule ProxyToken = codes "proxy_token"
name_of_rule ServerAdmin = codes "server_admin"
name_of_rule DbMember = codes "db_member"
name_of_rule DbAdmin = codes "db_admin"
name_of_rule DesignDocument = codes "design_document"
name_of_rule (Update id) = id

-- the rule that a denial names
abbrev pub rule_of : Refusal → Option (List ℕ)
rule_of (Unauthorized rule) = Some (name_of_rule rule)
rule_of (Forbidden rule) = Some (name_of_rule rule)
rule_of r = None

-- the members with the name of the rule, where one refused
abbrev pub members_with_rule : Option (List ℕ) → Members → Members
members_with_rule None ms = ms
members_with_rule (Some rule) ms = put (codes "rule") (text rule) ms

-- what is said of a refusal: `error`, `reason`, and for a denial `rule`
abbrev pub refusal_members : Refusal → Members
refusal_members r = members_with_rule (rule_of r) (put (codes "reason") (text (reason_of r)) (put (codes "error") (text (error_of r)) no_members))

-- the object of a refusal
abbrev pub refusal_value : Refusal → Value
refusal_value r = object (refusal_members r)

-- ---- steps that may be refused

-- what comes next, where nothing was refused so far
abbrev pub and_then : {A B : Type 0} → Result A Refusal → (A → Result B Refusal) → Result B Refusal
and_then (Ok a) go = go a
and_then (Err refusal) go = Err refusal

-- what is there, or a refusal
abbrev pub there_or : {A : Type 0} → Refusal → Option A → Result A Refusal
there_or refusal None = Err refusal
there_or refusal (Some a) = Ok a

-- it holds, or a refusal
abbrev pub true_or : Refusal → Bool → Result (Unit {0}) Refusal
true_or refusal true = Ok tt
true_or refusal false = Err refusal
