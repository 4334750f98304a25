-- The service of one connection: what was read from it, fed to a hub in pieces, and written to it.
-- RFC 9112, sections 9.3 and 9.3.2, for the order of replies; the size of the pieces, and the reply where memory ran out, are this project's own.
use Rattle.std.specs.Prelude.{◌≡◌, ◌≢◌, ◌⊎◌, ◌≤◌, ℕ, Bool, true, false, List, [], ◌∷◌, ◌++◌, length, Option, Some, None, if◌then◌else◌}
use Rattle.std.specs.Io.KnownBytes.{Appends, Consumes, IsAtEnd}
use Rattle.std.specs.List.{AllByRecursion, flat_map}
use Rattle.couch_http.specs.Writing.{IsPrefix, Takes}
use Rattle.couch_http.specs.Reply.{Reply, fixed_reply}
use Rattle.couch_http.specs.declared.fixed.Fixed.TheVariants.{NoRoom}
use Rattle.store.specs.declared.store.Store.{Ghosts}
use Rattle.hub.specs.Connections.{is_open, next_connection, with_connection, without}
use Rattle.hub.specs.Feeding.{HubState, IsFed}
use Rattle.hub.specs.declared.service_end.ServiceEnd.{ServiceEnd}
use Rattle.hub.specs.declared.service_end.ServiceEnd.TheVariants.{LastReply, EndOfInput, WriteFailed, TooManyReads, Memory, Full}

-- ---- bytes

-- the bytes of replies, one after another
abbrev pub bytes_of : List Reply → List ℕ
bytes_of replies = flat_map (λ r. r.bytes) replies

-- the bytes of the reply where memory ran out
abbrev pub farewell : List ℕ
farewell = (fixed_reply (NoRoom true)).bytes

-- ---- pieces

-- The pieces came on a connection, one after another, and these are all replies to them, in order. So where the pieces are the two halves of
-- one request, these are the reply to it, and the first half had none.
abbrev pub AreFed : {S : Type 0} → Ghosts S → HubState S → ℕ → List (List ℕ) → List Reply → HubState S → Type 0
AreFed g old conn [] replies new = (replies ≡ []) × (new ≡ old)
AreFed {S} g old conn (p ∷ ps) replies new =
    (list others : List Reply) × (last : Bool) × (between : HubState S) × IsFed g old conn p list last between × AreFed g between conn ps others new
    × (replies ≡ list ++ others)

-- how many bytes a piece has at most, and how many reads there are at most
abbrev pub greatest_piece : ℕ
greatest_piece = 8192

-- how many times a connection is read at most
abbrev pub greatest_reads : ℕ
greatest_reads = 1048576

-- why the service ends once replies, all of them or not, are written
abbrev pub end_after_replies : Bool → Bool → Option ServiceEnd
end_after_replies whole last = if whole then (if last then Some LastReply else None) else Some WriteFailed

-- why it ends once the farewell, all of it or not, is written
abbrev pub end_after_farewell : Bool → ServiceEnd
end_after_farewell whole = if whole then Memory else WriteFailed

-- What was read and written while a connection was served, up to this end, or while the service goes on. So many pieces were fed. The
-- replies to them were written, or a first part of them where a write failed. Where memory ran out, the last bytes were read and not fed,
-- and the farewell stands behind the replies.
pub record IsServed {S : Type 0} (g : Ghosts S) (old : HubState S) (conn : ℕ) (end : Option ServiceEnd) (count : ℕ) (read written : List ℕ) (new : HubState S) : Type 0 where
  pub pieces : List (List ℕ)
  pub counted : length pieces ≡ count
  pub sized : AllByRecursion (λ p. length p ≤ greatest_piece) pieces
  pub replies : List Reply
  pub fed : AreFed g old conn pieces replies new
  -- what was read and not fed, and what was to be written behind the replies
  pub unfed : List ℕ
  pub words : List ℕ
  pub refused : ((unfed ≡ []) × (words ≡ [])) ⊎ ((words ≡ farewell) × ((end ≡ Some Memory) ⊎ (end ≡ Some WriteFailed)))
  pub all_read : flat_map (λ p. p) pieces ++ unfed ≡ read
  pub wrote : IsPrefix written (bytes_of replies ++ words)
  pub whole : end ≢ Some WriteFailed → written ≡ bytes_of replies ++ words
  pub memory : end ≡ Some Memory → words ≡ farewell
  pub goes_on : end ≡ None → is_open new.connections conn ≡ true
  pub last : end ≡ Some LastReply → is_open new.connections conn ≡ false

-- a hub, and a connection's bytes, where they are known: those that its reader still has, and those that its writer has
pub record Link (S : Type 0) : Type 0 where
  pub hub : HubState S
  pub input : Option (List ℕ)
  pub output : Option (List ℕ)

-- the same from the bytes of a reader to those of a writer
pub record Serves {S : Type 0} (g : Ghosts S) (conn : ℕ) (end : Option ServiceEnd) (count : ℕ) (old new : Link S) : Type 0 where
  pub read : List ℕ
  pub written : List ℕ
  pub consumes : Consumes old.input new.input read
  pub appends : Appends old.output new.output written
  pub at_end : end ≡ Some EndOfInput → IsAtEnd new.input
  pub served : IsServed g old.hub conn end count read written new.hub

-- ---- the whole service

-- the hub with one more connection
abbrev pub hub_with_connection : {S : Type 0} → HubState S → HubState S
hub_with_connection s = record s { connections = with_connection s.connections }

-- the hub without a connection
abbrev pub hub_without : {S : Type 0} → ℕ → HubState S → HubState S
hub_without conn s = record s { connections = without s.connections conn }

-- the next connection was opened, served up to this end, and closed
pub record ServesWhole {S : Type 0} (g : Ghosts S) (old : Link S) (end : ServiceEnd) (new : Link S) : Type 0 where
  pub count : ℕ
  pub state : HubState S
  pub serves : Serves g (next_connection old.hub.connections) (Some end) count (record old { hub = hub_with_connection old.hub }) (record new { hub = state })
  pub reads : end ≡ TooManyReads → count ≡ greatest_reads
  pub closes : new.hub ≡ hub_without (next_connection old.hub.connections) state

-- no connection was opened, and nothing read: memory ran out, and the farewell was written, or a first part of it; or there was no number left
pub record TurnsAway {S : Type 0} (old : Link S) (end : ServiceEnd) (new : Link S) : Type 0 where
  pub same : new.hub ≡ old.hub
  pub unread : new.input ≡ old.input
  pub refused : ((end ≡ Full) × (new.output ≡ old.output)) ⊎ ((whole : Bool) × (end ≡ end_after_farewell whole) × Takes old.output new.output farewell whole)

-- either of them
abbrev pub ServesOrTurnsAway : {S : Type 0} → Ghosts S → Link S → ServiceEnd → Link S → Type 0
ServesOrTurnsAway g old end new = ServesWhole g old end new ⊎ TurnsAway old end new
