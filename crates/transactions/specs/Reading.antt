-- What is read of the rows that a query shows, and the history that they make.
-- This server's own: rows are read by the words of `tables`; what is not intact is told as damaged.
use Rattle.std.specs.Prelude.{◌≡◌, Bool, IsTrue, List, map, is_some, Option, option_map, slice_get, Some, None, Result, Ok, Err, ⊤}
use Rattle.std.specs.FinMap as finite
use Rattle.couch_json.specs.Value.{null}
use Rattle.store.specs.declared.fault.StoreFault.{StoreFault}
use Rattle.store.specs.declared.fault.StoreFault.TheVariants.{Memory, Failed, NoDatabase, Exists, Damaged, Full}
use Rattle.sqlite_value.specs.Order.{Row}
use Rattle.tree.specs.History.{HistoryContent, entry_of_row, winner, with_entries}
use Rattle.tree.specs.Revision.{Revision}
use Rattle.tree.specs.declared.entry.Entry.{Entry}
use Rattle.tree.specs.declared.marked_rev.MarkedRev.{MarkedRev}
use Rattle.tables.specs.Listings.{listed_mark, listed_winner}
use Rattle.tables.specs.Shown.{held_shown, mark_shown, parent_shown, revision_shown}
use Rattle.transactions.specs.declared.history_fault.HistoryFault.{HistoryFault}
use Rattle.transactions.specs.declared.history_fault.HistoryFault.TheVariants as history

-- What is read: what is said; that nothing is, where there is no database; want of memory; or that not all is intact.
abbrev pub IsRead : {X A : Type 0} → (X → A) → Option A → Type 0 → Result X StoreFault → Type 0
IsRead view said intact (Ok x) = said ≡ Some (view x)
IsRead view said intact (Err Memory) = ⊤
IsRead view said intact (Err NoDatabase) = said ≡ None
IsRead view said intact (Err Damaged) = ¬ intact
IsRead view said intact (Err Failed) = ⊥
IsRead view said intact (Err Exists) = ⊥
IsRead view said intact (Err Full) = ⊥

-- why a row was not read: memory ran out, or it is not intact
abbrev pub IsLost : Type 0 → StoreFault → Type 0
IsLost intact Memory = ⊤
IsLost intact Damaged = ¬ intact
IsLost intact Failed = ⊥
IsLost intact NoDatabase = ⊥
IsLost intact Exists = ⊥
IsLost intact Full = ⊥

-- the history has a best revision, as each has that writes made
abbrev pub HasBest : HistoryContent → Type 0
HasBest h = IsTrue (is_some (winner h))

-- why the best revision of a history was not told: memory ran out, or it has none
abbrev pub IsMissed : HistoryContent → HistoryFault → Type 0
IsMissed h history.Memory = ⊤
IsMissed h history.Damaged = ¬ HasBest h

-- what the store tells of that
abbrev pub store_fault_of : HistoryFault → StoreFault
store_fault_of history.Memory = Memory
store_fault_of history.Damaged = Damaged

-- a known revision
abbrev pub entry_shown : Row → Revision × Entry
entry_shown s = (revision_shown s, entry_of_row (parent_shown s) (held_shown s))

-- what is known of a revision, of what a query shows of its row
abbrev pub known_shown : Row → Entry
known_shown s = (entry_shown s).1

-- the history that the rows make, one after the other
abbrev pub history_shown : List Row → HistoryContent
history_shown rows = with_entries finite.empty (map entry_shown rows)

-- a known revision without its body
abbrev pub node_shown : Row → Revision × Entry
node_shown s = (revision_shown s, entry_of_row (parent_shown s) (option_map (λ deleted. (deleted, null)) (mark_shown s)))

-- the outline that the rows make
abbrev pub outline_shown : List Row → HistoryContent
outline_shown rows = with_entries finite.empty (map node_shown rows)

-- the winner of a document, of what a list shows of its row
abbrev pub winner_shown : Row → Option MarkedRev
winner_shown s = option_map (λ r. record { rev = r; deleted = listed_mark s }) (listed_winner s)

-- the first row is there, and something is held of its revision under this mark
pub record HasMark (deleted : Bool) (rows : List Row) : Type 0 where
  pub row : Row
  pub first : slice_get rows 0 ≡ Some row
  pub mark : mark_shown row ≡ Some deleted
