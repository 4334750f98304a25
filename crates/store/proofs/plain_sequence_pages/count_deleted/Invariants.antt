use Rattle.std.proofs.Common.{◌≡◌, ◌+◌, ◌≤◌, drop}
use Rattle.store.specs.Pages.{gone_count}
use Rattle.store.specs.Plain.{document_entries}
use Rattle.store.proofs.plain_sequence_pages.count_deleted.Given as goal

abbrev pub invariant-loop-document : goal.invariant-loop-document
invariant-loop-document l =
    (l.count + gone_count (document_entries (drop l.document-index l.document-items)) ≡ gone_count (document_entries l.documents.items))
    × (l.count ≤ l.document-index)
