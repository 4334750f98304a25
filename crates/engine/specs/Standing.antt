-- How a connection of a server stands, and what a piece does to it.
-- RFC 9112, section 9.3.2, for the order of replies; that a connection is read where nothing is owed to it is this project's own.
use Rattle.std.specs.Prelude.{◌≡◌, ◌≤◌, ◌⊎◌, ⊤, ℕ, Bool, true, false, List, [], length}
use Rattle.couch_http.specs.Reply.{Reply}
use Rattle.store.specs.declared.store.Store.{Ghosts}
use Rattle.store.specs.Calls.{GoesOn}
use Rattle.hub.specs.Arrival.{Piece}
use Rattle.hub.specs.Feeding.{HubState, IsFed}
use Rattle.hub.specs.Service.{bytes_of, farewell, hub_without}

-- a connection: served, with what it is owed; ending, with what it is owed; or given up
pub data Standing : Type 0 where
  -- its requests are handled, and these bytes are owed to it
  serving : List ℕ → Standing
  -- it has no more requests, and these bytes are owed to it, the last ones
  ending : List ℕ → Standing
  -- memory ran out, and nothing more is written to it
  given_up : Standing

-- the bytes that are owed
abbrev pub owed_by : Standing → List ℕ
owed_by (serving bytes) = bytes
owed_by (ending bytes) = bytes
owed_by given_up = []

-- the same connection, to which these bytes are owed
abbrev pub with_owed : Standing → List ℕ → Standing
with_owed (serving bytes) left = serving left
with_owed (ending bytes) left = ending left
with_owed given_up left = given_up

-- how many bytes may be owed to a connection: 64 MiB
abbrev pub greatest_owed : ℕ
greatest_owed = 67108864

-- these bytes are owed, the last ones or not, and not too many; or the connection is given up
abbrev pub Owes : Standing → Bool → List ℕ → Type 0
Owes (serving owed) last bytes = (last ≡ false) × (owed ≡ bytes) × (length owed ≤ greatest_owed)
Owes (ending owed) last bytes = (last ≡ true) × (owed ≡ bytes) × (length owed ≤ greatest_owed)
Owes given_up last bytes = ⊤

-- a hub, and how one of its connections stands
pub record Seat (S : Type 0) : Type 0 where
  pub hub : HubState S
  pub standing : Standing

-- A piece was fed to the hub. Its connection was served, and nothing was owed to it. The words are the bytes of the replies, and they
-- are owed. The node's configuration stays, and its store goes on.
pub record FeedsPiece {S : Type 0} (g : Ghosts S) (old : Seat S) (piece : Piece) (words : List ℕ) (new : Seat S) : Type 0 where
  pub free : old.standing ≡ serving []
  pub replies : List Reply
  pub last : Bool
  pub fed : IsFed g old.hub piece.conn piece.bytes replies last new.hub
  pub said : words ≡ bytes_of replies
  pub owes : Owes new.standing last words
  pub configuration : new.hub.node.configuration ≡ old.hub.node.configuration
  pub onward : GoesOn g old.hub.node.store new.hub.node.store

-- The hub refused a piece. Its connection was served, and nothing was owed to it. It has ended in the hub, and the farewell is owed.
pub record RefusesPiece {S : Type 0} (old : Seat S) (piece : Piece) (words : List ℕ) (new : Seat S) : Type 0 where
  pub free : old.standing ≡ serving []
  pub ended : new.hub ≡ hub_without piece.conn old.hub
  pub said : words ≡ farewell
  pub owes : Owes new.standing true words

-- What comes after the last request is passed over: nothing is owed any more, and nothing changes.
abbrev pub PassesOver : {S : Type 0} → Seat S → List ℕ → Seat S → Type 0
PassesOver old words new = (old.standing ≡ ending []) × (words ≡ []) × (new ≡ old)

-- A piece came on a connection, and these words are to be said: it was fed, or refused, or passed over. So none comes while something
-- is owed to its connection.
abbrev pub TakesPiece : {S : Type 0} → Ghosts S → Seat S → Piece → List ℕ → Seat S → Type 0
TakesPiece g old piece words new = FeedsPiece g old piece words new ⊎ (RefusesPiece old piece words new ⊎ PassesOver old words new)
