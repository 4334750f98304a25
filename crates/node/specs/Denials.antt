-- Why a request is denied, and to whom: by the first rule of the written policy that the caller doesn't meet.
-- CouchDB manual, api/basics (401 and 403), api/server/authn, api/database/security and ddocs/ddocs; that a denial names its rule is this server's own.
use Rattle.std.specs.Prelude.{◌≡◌, ◌⊎◌, ℕ, List, map, Option, Some, None, IsSome, Ok, Err, ⊤}
use Rattle.std.specs.FinMap.{get}
use Rattle.auth.specs.Callers.{Configuration, Identity, caller_of}
use Rattle.auth.specs.declared.auth_fault.AuthFault.{AuthFault}
use Rattle.couch_http.specs.Message.{Message}
use Rattle.couch_json.specs.Value.{Value}
use Rattle.policy.specs.Security.{closed_security}
use Rattle.policy.specs.Verdict.{verdict}
use Rattle.policy.specs.declared.action.Action.{Action}
use Rattle.policy.specs.declared.action.Action.TheVariants.{Administer, Read, WriteDesign, WriteDocument, WriteSecurity}
use Rattle.policy.specs.declared.rule.Rule.{Rule}
use Rattle.policy.specs.declared.rule.Rule.TheVariants.{ProxyToken}
use Rattle.store.specs.Contents.{Contents}
use Rattle.store.specs.Database.{Database, history_at}
use Rattle.tree.specs.Revision.{Revision}
use Rattle.write.specs.Denials.{EditIsDueTo, IsDesignDenial}
use Rattle.write.specs.Terms.{terms_in}
use Rattle.find.specs.Indexes.{IndexAsked, index_in}
use Rattle.api.specs.Asking.{asker, json_body, denial, method_named, pair_of, plain}
use Rattle.api.specs.Paths.{database_name_in, document_id_in}
use Rattle.api.specs.Queries.{revision_query}
use Rattle.api.specs.Routing.{page_of}
use Rattle.api.specs.declared.method.RequestMethod.{RequestMethod}
use Rattle.api.specs.declared.method.RequestMethod.TheVariants.{Get, Put, Post, Delete}
use Rattle.api.specs.declared.page.Page.{Page}
use Rattle.api.specs.declared.page.Page.TheVariants.{AllDatabases, Database as DatabasePage, Security, BulkDocuments, AllDocuments, Changes, Differences, Find, Index, View, Document, LocalDocument}
use Rattle.api.specs.declared.refusal.Refusal.{Refusal}
use Rattle.api.specs.declared.refusal.Refusal.TheVariants.{Unauthorized, Forbidden}
use Rattle.node.specs.Works.{deletion}

-- the rule by which a refusal denies; other refusals name none
abbrev pub rule_denied_by : Refusal → Option Rule
rule_denied_by (Unauthorized rule) = Some rule
rule_denied_by (Forbidden rule) = Some rule
rule_denied_by refusal = None

-- ---- by the conditions of an action

-- The action whose conditions may deny a page by a method: the conditions of no other action do. That a design document is written is
-- asked of with the edit of it, or with the index that is declared in it.
abbrev pub IsAskedAt : Page → Option RequestMethod → Action → Type 0
IsAskedAt AllDatabases (Some Get) action = action ≡ Administer
IsAskedAt DatabasePage (Some Get) action = action ≡ Read
IsAskedAt DatabasePage (Some Put) action = action ≡ Administer
IsAskedAt DatabasePage (Some Delete) action = action ≡ Administer
IsAskedAt Security (Some Get) action = action ≡ Read
IsAskedAt Security (Some Put) action = action ≡ WriteSecurity
IsAskedAt AllDocuments (Some Get) action = action ≡ Read
IsAskedAt Changes (Some Get) action = action ≡ Read
IsAskedAt Differences (Some Post) action = action ≡ Read
IsAskedAt Find (Some Post) action = action ≡ Read
IsAskedAt View (Some Get) action = action ≡ Read
IsAskedAt Index (Some Post) action = action ≡ WriteDocument
IsAskedAt BulkDocuments (Some Post) action = action ≡ WriteDocument
IsAskedAt Document (Some Get) action = action ≡ Read
IsAskedAt Document (Some Put) action = action ≡ WriteDocument
IsAskedAt Document (Some Delete) action = action ≡ WriteDocument
IsAskedAt LocalDocument (Some Get) action = action ≡ Read
IsAskedAt LocalDocument (Some Put) action = action ≡ Read
IsAskedAt page method action = ⊥

-- what comes before the conditions of an action: who creates or removes a database has to name it
abbrev pub IsReached : Page → Action → Message → Type 0
IsReached DatabasePage Administer m = IsSome (database_name_in m.path)
IsReached page action m = ⊤

-- the conditions of this action may deny the request: its page and method ask for it
pub record MayDeny (m : Message) (action : Action) : Type 0 where
  pub page : Page
  pub leads : page_of m.path ≡ Some page
  pub asked : IsAskedAt page (method_named m.method) action
  pub reached : IsReached page action m

-- the security object of the database that the path leads into
pub record IsOwn (databases : Contents) (m : Message) (security : Value) : Type 0 where
  pub name : List ℕ
  pub db : Database
  pub own : database_name_in m.path ≡ Some name
  pub there : get databases name ≡ Some db
  pub is : security ≡ db.security

-- the security object that the action is asked of: its own in a database, and the closed one where no database is entered
abbrev pub IsSecurityOf : Action → Contents → Message → Value → Type 0
IsSecurityOf Administer databases m security = security ≡ closed_security
IsSecurityOf Read databases m security = IsOwn databases m security
IsSecurityOf WriteSecurity databases m security = IsOwn databases m security
IsSecurityOf WriteDesign databases m security = IsOwn databases m security
IsSecurityOf WriteDocument databases m security = IsOwn databases m security

-- the rule is that of the first condition that this caller doesn't meet, for an action that the request asks for
pub record IsByPolicy (databases : Contents) (m : Message) (caller : Identity) (rule : Rule) : Type 0 where
  pub action : Action
  pub security : Value
  pub asked : MayDeny m action
  pub of : IsSecurityOf action databases m security
  pub first : verdict action caller security ≡ Some rule

-- ---- by an edit

-- what a request writes at the page of a document, of which the query names this revision: a PUT its body, and a DELETE that names a
-- revision the deletion
abbrev pub WritesBy : Option RequestMethod → Message → Option Revision → Value → Type 0
WritesBy (Some Put) m query document = json_body m ≡ Ok document
WritesBy (Some Delete) m query document = IsSome query × (document ≡ deletion)
WritesBy method m query document = ⊥

-- the rule is the first that refuses the edit of the document that the path leads to, of a caller who may write documents
pub record IsByEdit (databases : Contents) (m : Message) (caller : Identity) (rule : Rule) : Type 0 where
  pub name : List ℕ
  pub db : Database
  pub id : List ℕ
  pub query : Option Revision
  pub document : Value
  pub page : page_of m.path ≡ Some Document
  pub own : database_name_in m.path ≡ Some name
  pub there : get databases name ≡ Some db
  pub member : verdict WriteDocument caller db.security ≡ None
  pub leads : document_id_in m.path ≡ Some id
  pub named : revision_query m.query ≡ Some query
  pub writes : WritesBy (method_named m.method) m query document
  pub due : EditIsDueTo (terms_in caller name db) id (history_at db id) query document rule

-- the rule is the first that refuses to let the caller, who may write documents, write the design document that the path leads to: of a
-- deletion that names no revision nothing else is asked
pub record IsByDeletion (databases : Contents) (m : Message) (caller : Identity) (rule : Rule) : Type 0 where
  pub name : List ℕ
  pub db : Database
  pub id : List ℕ
  pub page : page_of m.path ≡ Some Document
  pub method : method_named m.method ≡ Some Delete
  pub own : database_name_in m.path ≡ Some name
  pub there : get databases name ≡ Some db
  pub member : verdict WriteDocument caller db.security ≡ None
  pub leads : document_id_in m.path ≡ Some id
  pub named : revision_query m.query ≡ Some None
  pub due : IsDesignDenial (terms_in caller name db) id rule

-- ---- by the declaration of an index

-- the rule is the first that refuses to let the caller, who may write documents, write the design document in which the body declares an
-- index
pub record IsByIndex (databases : Contents) (m : Message) (caller : Identity) (rule : Rule) : Type 0 where
  pub name : List ℕ
  pub db : Database
  pub value : Value
  pub index : IndexAsked
  pub page : page_of m.path ≡ Some Index
  pub method : method_named m.method ≡ Some Post
  pub own : database_name_in m.path ≡ Some name
  pub there : get databases name ≡ Some db
  pub member : verdict WriteDocument caller db.security ≡ None
  pub query : plain m ≡ Ok tt
  pub body : json_body m ≡ Ok value
  pub asks : index_in value ≡ Some index
  pub due : IsDesignDenial (terms_in caller name db) index.design rule

-- the rule refuses this caller, as the first that does
abbrev pub IsDue : Contents → Message → Identity → Rule → Type 0
IsDue databases m caller rule =
    IsByPolicy databases m caller rule
    ⊎ (IsByEdit databases m caller rule ⊎ (IsByDeletion databases m caller rule ⊎ IsByIndex databases m caller rule))

-- no proxy vouches for the caller whom the headers name
pub record IsUnvouched (c : Configuration) (m : Message) (refusal : Refusal) : Type 0 where
  pub fault : AuthFault
  pub refused : caller_of (map pair_of m.headers) c.secret c.admins ≡ Err fault
  pub told : refusal ≡ Unauthorized ProxyToken

-- the caller is known, and is told the rule that refuses
pub record IsToldRule (c : Configuration) (databases : Contents) (m : Message) (refusal : Refusal) (rule : Rule) : Type 0 where
  pub caller : Identity
  pub known : asker c m ≡ Ok caller
  pub due : IsDue databases m caller rule
  pub told : refusal ≡ denial caller rule

-- the refusal denies by this rule, and rightly so
abbrev pub IsDenied : Configuration → Contents → Message → Refusal → Rule → Type 0
IsDenied c databases m refusal rule = IsUnvouched c m refusal ⊎ IsToldRule c databases m refusal rule
