use Rattle.std.proofs.Common.{◌≡◌, [], drop}
use Rattle.store.specs.Plain.{document_entries, gathered_after}
use Rattle.store.specs.Writing.{additions}
use Rattle.store.proofs.plain_sequence_pages.documents_of.Given as goal

abbrev pub invariant-loop-at : goal.invariant-loop-at
invariant-loop-at l = gathered_after l.at (document_entries l.documents.entries) (additions (drop l.at l.writes.items)) ≡ gathered_after 0 [] (additions l.writes.items)
