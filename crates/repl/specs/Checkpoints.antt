-- What a side remembers of the passes that ended there, and where a pass begins.
-- CouchDB manual, replication/protocol ("Retrieve Replication Logs from Source and Target", "Compare Replication Logs",
-- "Record Replication Checkpoint"); that other members are not looked at, and the 50 sessions, are this server's own.
use Rattle.std.specs.Prelude.{ℕ, Bool, min, not, List, [], ◌∷◌, map, take, filter, pos, Option, Some, None, option_and_then, option_map, bytes_eq, if◌then◌else◌, codes}
use Rattle.couch_json.specs.Canonical.{canonical}
use Rattle.couch_json.specs.Value.{Value, null, whole, text, array, object, no_items, item, Members, no_members, put}
use Rattle.couch_json.specs.View.{items_of}
use Rattle.hex.specs.Hex.{encode_lower}
use Rattle.md5.specs.Md5.{md5}
use Rattle.repl.specs.Configuration.{Account, PassConfiguration}
use Rattle.repl.specs.Shapes.{count_at, list_at, text_at}

-- a session, and the sequence of the source up to which it came
pub record Session : Type 0 where
  pub session : List ℕ
  pub sequence : ℕ

-- the last session, its sequence, and the sessions, newest first
pub record Checkpoint : Type 0 where
  pub session : List ℕ
  pub sequence : ℕ
  pub history : List Session

-- ---- as JSON

-- a session by its parts, where both were found
abbrev pub session_by : Option (List ℕ) → Option ℕ → Option Session
session_by session sequence =
    option_and_then (λ s. option_map (λ n. record { session = s; sequence = n }) sequence) session

-- a session of a history
abbrev pub session_in : Value → Option Session
session_in v = session_by (text_at (codes "session_id") v) (count_at (codes "recorded_seq") v)

-- a checkpoint by its parts, where all were found
abbrev pub checkpoint_by : Option (List ℕ) → Option ℕ → Option (List Session) → Option Checkpoint
checkpoint_by session sequence history =
    option_and_then (λ s. option_and_then (λ n. option_map (λ h. record { session = s; sequence = n; history = h }) history) sequence) session

-- the checkpoint that a document says; another shape says none
abbrev pub checkpoint_in : Value → Option Checkpoint
checkpoint_in v =
    checkpoint_by (text_at (codes "session_id") v) (count_at (codes "source_last_seq") v) (list_at (codes "history") session_in v)

-- ---- the start

-- the sequence of the first of these sessions that has this name
abbrev pub sequence_of_session : List ℕ → List Session → Option ℕ
sequence_of_session session [] = None
sequence_of_session session (s ∷ ss) = if bytes_eq s.session session then Some s.sequence else sequence_of_session session ss

-- the smaller of a number and another that was found; else the one that stands for none
abbrev pub smaller_or : ℕ → ℕ → Option ℕ → ℕ
smaller_or n other None = other
smaller_or n other (Some m) = min n m

-- the smaller of the two sequences of the first of the source's sessions that the target has too; 0 if there is none
abbrev pub common_sequence : List Session → List Session → ℕ
common_sequence [] target = 0
common_sequence (s ∷ ss) target = smaller_or s.sequence (common_sequence ss target) (sequence_of_session s.session target)

-- the start from two checkpoints
abbrev pub start_from : Checkpoint → Checkpoint → ℕ
start_from source target =
    if bytes_eq source.session target.session then min source.sequence target.sequence
    else common_sequence source.history target.history

-- the sequence of the source after which a pass begins
abbrev pub start_of : Option Checkpoint → Option Checkpoint → ℕ
start_of None target = 0
start_of (Some source) None = 0
start_of (Some source) (Some target) = start_from source target

-- the same for a pass that may be told to begin at 0
abbrev pub start_with : Bool → Option Checkpoint → Option Checkpoint → ℕ
start_with is_from_start source target = if is_from_start then 0 else start_of source target

-- ---- the next checkpoint

-- the sessions of a checkpoint
abbrev pub history_of : Option Checkpoint → List Session
history_of None = []
history_of (Some c) = c.history

-- those of another name
abbrev pub others_of : List ℕ → List Session → List Session
others_of session older = filter (λ s. not (bytes_eq s.session session)) older

-- the session before the others of another name, 50 at most
abbrev pub next_history : List ℕ → ℕ → List Session → List Session
next_history session sequence older =
    take 50 (record { session = session; sequence = sequence } ∷ others_of session older)

-- a session as a value
abbrev pub session_value : Session → Value
session_value s =
    object (put (codes "session_id") (text s.session) (put (codes "recorded_seq") (whole (pos s.sequence)) no_members))

-- the revision that is replaced, if there is one
abbrev pub with_revision : Option (List ℕ) → Members → Members
with_revision None ms = ms
with_revision (Some rev) ms = put (codes "_rev") (text rev) ms

-- the checkpoint that a session writes, in place of the revision last seen
abbrev pub next_checkpoint : List ℕ → ℕ → List Session → Option (List ℕ) → Value
next_checkpoint session sequence older rev =
    object (with_revision rev
    (put (codes "source_last_seq") (whole (pos sequence))
    (put (codes "session_id") (text session)
    (put (codes "history") (array (items_of (map session_value (next_history session sequence older)))) no_members))))

-- ---- the id

-- the name of the user, or null
abbrev pub name_or_null : Option Account → Value
name_or_null None = null
name_or_null (Some a) = text a.name

-- what the id is taken of
abbrev pub replication_value : PassConfiguration → Value
replication_value c = array (item (text c.source) (item (text c.target) (item (name_or_null c.user) no_items)))

-- the id under which each side keeps the checkpoint: an MD5 (RFC 1321) in lower-case hexadecimal
abbrev pub checkpoint_id : PassConfiguration → List ℕ
checkpoint_id c = encode_lower (md5 (canonical (replication_value c)))
