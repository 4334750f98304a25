-- What the code keeps while it judges several documents, and what its results tell, in the words of `Bulk`.
-- This crate's own: it ties structs of the code to the definition.
use Rattle.std.specs.Prelude.{ℕ, List, [], ◌∷◌, if◌then◌else◌, Option, Some, None, option_map, string_bytes, bytes_eq, is_some, true, ◌≡◌, ⊤}
use Rattle.std.specs.BTreeMap.{BTreeMap, get}
use Rattle.std.specs.Ordering.{nat_cmp}
use Rattle.std.specs.Cmp.Lexicographic.{slice_cmp}
use Rattle.tree.specs.History.{HistoryContent}
use Rattle.store.specs.Database.{DocumentWrite}
use Rattle.store.specs.Writing.{addition_of, written_in}
use Rattle.write.specs.Bulk.{DocumentOutcome, Histories, Told, outcome_told}
use Rattle.write.specs.Refusing.{IsOwn}
use Rattle.write.specs.declared.planned.DocumentResult.{DocumentResult}
use Rattle.write.specs.declared.planned.Outcome.{Outcome}
use Rattle.write.specs.declared.planned.Outcome.TheVariants.{Made, Known, Refused}
use Rattle.write.specs.declared.planning.Label.{Label}
use Rattle.store.specs.declared.write.Write.{Write}

-- what a result tells
abbrev pub told_of : DocumentResult → Told
told_of r = record { id = option_map string_bytes r.id; rev = option_map string_bytes r.rev; outcome = r.outcome }

-- a document that was refused was refused for a cause of its own
abbrev pub IsOwnOutcome : Outcome → Type 0
IsOwnOutcome (Made r) = ⊤
IsOwnOutcome Known = ⊤
IsOwnOutcome (Refused fault) = IsOwn fault

abbrev pub IsMadeOutcome : Outcome → Type 0
IsMadeOutcome (Made r) = ⊤
IsMadeOutcome Known = ⊥
IsMadeOutcome (Refused fault) = ⊥

abbrev pub IsUnrefused : Outcome → Type 0
IsUnrefused (Made r) = ⊤
IsUnrefused Known = ⊤
IsUnrefused (Refused fault) = ⊥

-- the first of the results is of this kind
abbrev pub OfFirst : (Outcome → Type 0) → List DocumentResult → Type 0
OfFirst kind [] = ⊥
OfFirst kind (r ∷ rs) = kind r.outcome

-- ---- histories

abbrev pub held_or : HistoryContent → Option HistoryContent → HistoryContent
held_or stored None = stored
held_or stored (Some h) = h

-- the histories that a map holds, and the stored ones of all other documents
abbrev pub seen_in : Histories → BTreeMap (List ℕ) HistoryContent → Histories
seen_in stored m = λ id. held_or (stored id) (get (slice_cmp nat_cmp) m id)

-- the map holds the history of this document, where there is one
abbrev pub IsHeld : BTreeMap (List ℕ) HistoryContent → Option (List ℕ) → Type 0
IsHeld m None = ⊤
IsHeld m (Some id) = is_some (get (slice_cmp nat_cmp) m id) ≡ true

-- the histories are the same at the id of a document, where it has one
abbrev pub AgreeAt : Option (List ℕ) → Histories → Histories → Type 0
AgreeAt None histories others = ⊤
AgreeAt (Some id) histories others = histories id ≡ others id

-- the histories with this one for the id
abbrev pub with_history : Histories → List ℕ → HistoryContent → Histories
with_history histories id h = λ k. if bytes_eq id k then h else histories k

-- the write that a write of the code is, by the histories before it
abbrev pub brought : Histories → Write → DocumentWrite
brought histories w = written_in (histories w.id) (addition_of w)

-- what is told of a document under this label
abbrev pub told_as : Label → DocumentOutcome → Told
told_as label outcome =
    record { id = option_map string_bytes label.id; rev = option_map string_bytes label.rev; outcome = outcome_told outcome }
