use Rattle.std.proofs.Common.{sym, ap, ◌∙◌}
use Rattle.couch_json.specs.View.{view}
use Rattle.api.specs.Bulk.{bulk_documents_of}
use Rattle.api.proofs.Elements.{documents_of-Array}
use Rattle.api.proofs.bulk.list_of.Goals as goal

pub returns-in-Array : goal.returns-in-Array
returns-in-Array c = sym (ap (λ v. bulk_documents_of (view v)) c.in-Array.is ∙ documents_of-Array c.in-Array.elements)
