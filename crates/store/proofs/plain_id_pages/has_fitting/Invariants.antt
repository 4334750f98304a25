use Rattle.std.proofs.Common.{◌≡◌, drop}
use Rattle.std.specs.List.{list_any}
use Rattle.store.specs.Pages.{is_within}
use Rattle.store.specs.Writing.{additions}
use Rattle.store.proofs.plain_id_pages.has_fitting.Given as goal

abbrev pub invariant-loop-write : goal.invariant-loop-write
invariant-loop-write l = list_any (λ a. is_within l.range a.id) (additions (drop l.write-index l.writes)) ≡ list_any (λ a. is_within l.range a.id) (additions l.writes)
