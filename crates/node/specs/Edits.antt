-- What the write of a document is refused for.
-- CouchDB manual, api/basics; that no definition refuses it for another cause is this server's own.
use Rattle.auth.specs.Callers.{Identity}
use Rattle.write.specs.declared.fault.WriteFault.{WriteFault}
use Rattle.write.specs.declared.fault.WriteFault.TheVariants as write
use Rattle.api.specs.Asking.{denial}
use Rattle.api.specs.declared.refusal.Refusal.{Refusal}
use Rattle.api.specs.declared.refusal.Refusal.TheVariants.{BadDocument, BadHistory, Conflict, Generation}

-- What the write of a document is refused for: as a bad document, by a rule, for its history, for lack of a further generation, or as
-- a conflict. No definition refuses it because the store failed or memory ran out.
abbrev pub refusal_of_edit : Identity → WriteFault → Refusal
refusal_of_edit caller write.BadDocument = BadDocument
refusal_of_edit caller (write.Denied rule) = denial caller rule
refusal_of_edit caller write.BadHistory = BadHistory
refusal_of_edit caller write.Generation = Generation
refusal_of_edit caller fault = Conflict
