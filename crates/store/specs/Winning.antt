-- The history of a document's winner alone: what queries and rules look at of a history, and no more.
-- This server's own.
use Rattle.std.specs.Prelude.{◌≡◌, Bool, Option, Some, None, option_map}
use Rattle.std.specs.FinMap.{empty}
use Rattle.couch_json.specs.Value.{Value}
use Rattle.couch_json.specs.View.{view}
use Rattle.tree.specs.History.{HistoryContent, held_of, winner, with_new}
use Rattle.tree.specs.Revision.{Revision}
use Rattle.tree.specs.declared.entry.Held.{Held}
use Rattle.store.specs.declared.winning.HeldWinner.{HeldWinner}

-- one revision, of which this is held
abbrev pub single : Revision → Option Held → HistoryContent
single r held = with_new empty r (record { parent = None; held = held })

abbrev pub single_by : HistoryContent → Option Revision → HistoryContent
single_by h None = empty
single_by h (Some r) = single r (held_of h r)

-- the winner with what is held of it, and no other revision
abbrev pub winner_alone : HistoryContent → HistoryContent
winner_alone h = single_by h (winner h)

-- ---- what is held of the winner

-- this mark is held, with some body
abbrev pub IsHeldSo : Bool → Option Held → Type 0
IsHeldSo deleted held = (body : Value) × (held ≡ Some (record { deleted = deleted; body = body }))

-- the winner, with what is held of it
abbrev pub held_winner : HistoryContent → Option (Revision × Option Held)
held_winner h = option_map (λ r. (r, held_of h r)) (winner h)

-- of a winner as it was read
abbrev pub as_held : HeldWinner → Revision × Option Held
as_held w = (w.rev, Some (record { deleted = w.deleted; body = view w.body }))
