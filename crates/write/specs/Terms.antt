-- The terms on which a caller writes into a database: who writes where, and the rules that the database has as the request finds it.
-- CouchDB manual, ddocs/ddocs, "Validate Document Update Functions"; that the winner of a design document decides, and that the terms stay for a whole request, is this server's own.
use Rattle.std.specs.Prelude.{ℕ, List, [], Option, option_map, if◌then◌else◌}
use Rattle.std.specs.List.{flat_map}
use Rattle.std.specs.Option.{option_to_list}
use Rattle.std.specs.FinMap.{entries}
use Rattle.auth.specs.Callers.{Identity}
use Rattle.couch_json.specs.Value.{Value}
use Rattle.policy.specs.UpdateRules.{Rules, rules_of}
use Rattle.tree.specs.DocumentId.{is_design_id}
use Rattle.store.specs.Database.{Database, Document}
use Rattle.store.specs.Indexes.{winning_body}

-- what a write is judged by: the caller, the name of the database, its security object, and its rules
pub record Terms : Type 0 where
  -- who writes
  pub caller : Identity
  -- the name of the database
  pub name : List ℕ
  -- its security object
  pub security : Value
  -- its update rules
  pub rules : Rules

-- the id and the body, where it is a design document and there is a body
abbrev pub as_design_document : List ℕ → Option Value → List (List ℕ × Value)
as_design_document id body = if is_design_id id then option_to_list (option_map (λ b. (id, b)) body) else []

-- a document as a design document with its body, if it is one that is not deleted
abbrev pub design_document_of : List ℕ × Document → List (List ℕ × Value)
design_document_of document = as_design_document document.0 (winning_body document.1.history)

-- the design documents that are not deleted, each with the body of its winner, by id
abbrev pub design_documents_in : Database → List (List ℕ × Value)
design_documents_in db = flat_map design_document_of (entries db.documents)

-- the update rules in force
abbrev pub rules_in : Database → Rules
rules_in db = rules_of (design_documents_in db)

-- the terms for a caller of the database of this name
abbrev pub terms_in : Identity → List ℕ → Database → Terms
terms_in caller name db = record { caller = caller; name = name; security = db.security; rules = rules_in db }
