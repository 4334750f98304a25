use Rattle.std.proofs.Common.{◌≡◌, [], take, nat_cmp}
use Rattle.std.specs.Cmp.Lexicographic.{slice_cmp}
use Rattle.store.specs.Plain.{keys_put}
use Rattle.store.proofs.databases.names_of.Given as goal

abbrev pub invariant-loop-at : goal.invariant-loop-at
invariant-loop-at l = keys_put (slice_cmp nat_cmp) (take l.at l.databases.items) l.names.entries ≡ keys_put (slice_cmp nat_cmp) l.databases.items []
