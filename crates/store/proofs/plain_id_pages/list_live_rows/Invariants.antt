use Rattle.std.proofs.Common.{◌≡◌, ◌++◌, drop}
use Rattle.store.specs.Pages.{live_rows}
use Rattle.store.specs.Plain.{document_entries}
use Rattle.store.proofs.plain_id_pages.list_live_rows.Given as goal

abbrev pub invariant-loop-id : goal.invariant-loop-id
invariant-loop-id l = l.rows.items ++ live_rows (document_entries (drop l.id-index l.id-items)) ≡ live_rows (document_entries l.documents.items)
