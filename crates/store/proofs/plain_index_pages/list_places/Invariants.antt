use Rattle.std.proofs.Common.{◌≡◌, [], length}
use Rattle.store.specs.Plain.{document_entries, place_views}
use Rattle.store.proofs.KeyPlaces.{index_onto}
use Rattle.store.proofs.plain_index_pages.list_places.Given as goal

abbrev pub invariant-loop-id : goal.invariant-loop-id
invariant-loop-id l = index_onto l.fields (document_entries l.documents.items) (place_views l.index.entries) ≡ index_onto l.fields (document_entries l.initial.documents.items) []

abbrev pub decreases-loop-id : goal.decreases-loop-id
decreases-loop-id l = length l.documents.items
