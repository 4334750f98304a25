-- What a request to write several documents asks for, in the words of `Bulk`: for private clauses.
-- This crate's own: it ties a struct of the code to the definition.
use Rattle.std.specs.Prelude.{map}
use Rattle.couch_json.specs.View.{view}
use Rattle.api.specs.Bulk.{Bulk}
use Rattle.api.specs.declared.bulk.BulkAsked.{BulkAsked}

abbrev pub bulk_asked : BulkAsked → Bulk
bulk_asked asked = record { new_edits = asked.new_edits; documents = map view asked.documents.items }
