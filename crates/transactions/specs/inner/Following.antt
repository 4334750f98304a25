-- When a history says the same as another of all that a write asks.
-- This server's own: a write that follows the winner asks for no more of a history than the winner.
use Rattle.std.specs.Prelude.{◌≡◌, ◌∷◌, ℕ, Bool, IfSome, IsTrue, List, [], Option, false, is_some, Ok, Some}
use Rattle.store.specs.Plain.{with_addition}
use Rattle.store.specs.Writing.{Addition, written_in}
use Rattle.tree.specs.History.{HistoryContent, is_known, parent_of, placement, winner}
use Rattle.tree.specs.Outline.{marked_winner}
use Rattle.tree.specs.Revision.{Revision}
use Rattle.tree.specs.declared.marked_rev.MarkedRev.{MarkedRev}
use Rattle.tree.specs.declared.placement.Placed.TheVariants.{Added}
use Rattle.transactions.specs.Reading.{HasBest}
use Rattle.transactions.specs.inner.Inserting.{IsBest, entries_of, unknown_in}

-- the history has a place for the path of the write, whose revision is new
abbrev pub HasPlaceFor : HistoryContent → Addition → Type 0
HasPlaceFor h a = placement h (written_in h a).write.path ≡ Ok Added

-- the parent of each revision is known
abbrev pub AreParentsKnown : HistoryContent → Type 0
AreParentsKnown h = (r p : Revision) → parent_of h r ≡ Some p → IsTrue (is_known h p)

-- the write is one revision that follows this one and is not deleted
pub record IsFollower (a : Addition) (w : Revision) : Type 0 where
  pub newest : Revision
  pub alone : a.path ≡ newest ∷ []
  pub follows : a.parent ≡ Some w
  pub live : a.deleted ≡ false

-- As much of the write is new to one history k as to the other, and it makes the same revision the best; and either has a best revision
-- where the other has one.
pub record Serves (a : Addition) (h k : HistoryContent) : Type 0 where
  pub news : unknown_in k (entries_of k a) ≡ unknown_in h (entries_of h a)
  pub best : (text : List ℕ) (deleted : Bool) → IsBest (with_addition k a) text deleted → IsBest (with_addition h a) text deleted
  pub begins : is_some (winner k) ≡ is_some (winner h)

-- What is read for a write of the history h of its document: the winner, and a history that serves in its place, if the write asks no more.
pub record IsReadFor (a : Addition) (h : HistoryContent) (read : Option MarkedRev × Option HistoryContent) : Type 0 where
  pub winner_is : read.0 ≡ marked_winner h
  pub serves : HasPlaceFor h a → IfSome read.1 (Serves a h)
  pub has_best : HasBest (with_addition h a) → IfSome read.1 (λ k. HasBest (with_addition k a))
