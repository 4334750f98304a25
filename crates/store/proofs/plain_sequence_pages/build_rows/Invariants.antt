use Rattle.std.proofs.Common.{◌≡◌, take}
use Rattle.store.specs.Pages.{rows_of}
use Rattle.store.specs.PageStructs.{sequence_rows}
use Rattle.store.specs.Plain.{document_entries}
use Rattle.store.proofs.plain_sequence_pages.build_rows.Given as goal

abbrev pub invariant-loop-document : goal.invariant-loop-document
invariant-loop-document l = sequence_rows l.rows.items ≡ rows_of l.all_leaves (document_entries (take l.document-index l.documents.items))
