-- A database that is created where it is absent.
use Rattle.std.proofs.Common.{◌≡◌, ℕ, List, None}
use Rattle.std.specs.FinMap as map
use Rattle.store.specs.Contents.{Contents, new_database}
use Rattle.sync.specs.Creating.{with_absent}

pub created : (databases after : Contents) (name : List ℕ) → map.get databases name ≡ None → after ≡ map.insert databases name new_database → after ≡ with_absent databases name
created databases after name none is = rw none is
