-- What becomes of a document of several that was read as far as that takes no history, in the words of `Bulk`.
-- This crate's own: it ties structs of the code to the definition.
use Rattle.std.specs.Prelude.{ℕ, List, Option, Some, None, Err}
use Rattle.couch_json.specs.View.{view}
use Rattle.tree.specs.History.{HistoryContent}
use Rattle.write.specs.Admission.{edit_outcome, placement_outcome}
use Rattle.write.specs.inner.AncestryRead.{ancestry_of}
use Rattle.write.specs.Bulk.{DocumentOutcome, Histories, as_outcome}
use Rattle.write.specs.Terms.{Terms}
use Rattle.write.specs.declared.draft.Request.{Request}
use Rattle.write.specs.declared.draft.Request.TheVariants.{Edit, Replicate, Bad, Forbidden}
use Rattle.write.specs.declared.fault.WriteFault.TheVariants.{BadDocument, Denied}

-- what becomes of a request for the document of this id, with this history
abbrev pub request_outcome : Terms → List ℕ → HistoryContent → Request → DocumentOutcome
request_outcome terms id h (Edit document) = as_outcome (edit_outcome terms id h None (view document))
request_outcome terms id h (Replicate replica) = placement_outcome terms id h replica.sent (ancestry_of replica.ancestry)
request_outcome terms id h Bad = Err BadDocument
request_outcome terms id h (Forbidden rule) = Err (Denied rule)

-- what becomes of it by these histories, where it gives itself this id, or none
abbrev pub outcome_asked : Terms → Histories → Request → Option (List ℕ) → DocumentOutcome
outcome_asked terms histories request None = Err BadDocument
outcome_asked terms histories request (Some id) = request_outcome terms id (histories id) request
