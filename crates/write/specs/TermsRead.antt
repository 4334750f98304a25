-- The terms that the struct of the code says.
-- This crate's own: it ties the code to the definition of `Terms`.
use Rattle.std.specs.Prelude.{ℕ, List}
use Rattle.couch_json.specs.Value.{Value}
use Rattle.store.specs.Database.{Database, history_at}
use Rattle.store.specs.Indexes.{winning_body}
use Rattle.write.specs.Terms as defined
use Rattle.write.specs.Terms.{as_design_document}
use Rattle.write.specs.declared.terms.Terms.{Terms}

abbrev pub terms_of : Terms → defined.Terms
terms_of t = record { caller = t.caller.now; name = t.name.now; security = t.security; rules = t.rules }

-- what the document of this id is among the design documents of the database
abbrev pub document_at : Database → List ℕ → List (List ℕ × Value)
document_at db id = as_design_document id (winning_body (history_at db id))
