-- What a pass owes its target, and what becomes of that from event to event.
-- CouchDB manual, replication/protocol.
use Rattle.std.specs.Prelude.{◌≡◌, ◌<◌, ◌≤◌, ◌||◌, ⊤, ℕ, Bool, true, false, List, [], ◌∷◌, Option, IfSome, Ok, IsTrue, bytes_eq}
use Rattle.std.specs.List.{list_any}
use Rattle.couch_json.specs.Value.{Value}
use Rattle.tree.specs.History.{is_known, is_leaf}
use Rattle.tree.specs.Revision.{Revision, is_revision}
use Rattle.store.specs.Database.{Database, IsLater, history_at, sequence_at}
use Rattle.repl.specs.Configuration.{PassConfiguration}
use Rattle.repl.specs.Passes.{Pass, fills, first_of_pending, first_pass}
use Rattle.repl.specs.Calls.{Revisions}
use Rattle.repl.specs.Replies.{Changes, Opened, changes_listed, differences_read, documents_of_opened, documents_pushed, missing_reports, revisions_opened}
use Rattle.repl.specs.Turns.{Turn, after_turn, answered, lost}
use Rattle.repl.specs.declared.phase.Phase.{Phase}
use Rattle.repl.specs.declared.phase.Phase.TheVariants.{ListChanges, Compare, Open, Push, WriteSource, WriteTarget, RereadSource, RereadTarget, Done}
use Rattle.passes.specs.Settled.{is_among, is_reported, is_sent, is_settled}

-- ---- what true replies say

-- no document stands twice among these
abbrev pub AreDistinct : List Revisions → Type 0
AreDistinct [] = ⊤
AreDistinct (l ∷ ls) = (list_any (λ k. bytes_eq k.id l.id) ls ≡ false) × AreDistinct ls

-- A list of changes after a sequence, of at most so many documents: it names each leaf of each document whose sequence is above that one
-- and not above the end of the list, and no document twice. Where it has fewer documents than that, no sequence is above its end.
pub record Names (db : Database) (since : ℕ) (most : Option ℕ) (c : Changes) : Type 0 where
  pub leaf : (id : List ℕ) (r : Revision) → IsTrue (is_leaf (history_at db id) r) → since < sequence_at db id → sequence_at db id ≤ c.sequence → is_among id r c.leaves ≡ true
  pub distinct : AreDistinct c.leaves
  pub whole : fills most c.leaves ≡ false → (id : List ℕ) → since < sequence_at db id → sequence_at db id ≤ c.sequence
  pub onward : since ≤ db.length → since ≤ c.sequence
  pub bound : c.sequence ≤ db.length

-- of the revisions asked about, each is known or said to be missing
abbrev pub Compares : Database → List Revisions → List Revisions → Type 0
Compares db asked missing =
    (id : List ℕ) (r : Revision) → IsTrue (is_revision r) → is_among id r asked ≡ true → (is_known (history_at db id) r || is_among id r missing) ≡ true

-- of the revisions asked for, each came as a document or is reported as missing
abbrev pub Opens : Revisions → List Opened → Type 0
Opens asked opened =
    (id : List ℕ) (r : Revision) → IsTrue (is_revision r) → is_among id r (asked ∷ []) ≡ true
    → (is_sent id r (documents_of_opened opened) || is_reported id r (missing_reports asked.id opened)) ≡ true

-- of the documents that were pushed, each is known afterwards or reported as a failure
abbrev pub Pushes : Database → List Value → List Value → Type 0
Pushes db documents failures =
    (id : List ℕ) (r : Revision) → IsTrue (is_revision r) → is_sent id r documents ≡ true → (is_known (history_at db id) r || is_reported id r failures) ≡ true

-- a reply to what a pass asks in a phase, where the pass takes it in, is true of the source before it and of the target after it
abbrev pub IsTruth : Phase → Pass → Database → Database → ℕ → List ℕ → Type 0
IsTruth ListChanges p source target status body = (c : Changes) → changes_listed status body ≡ Ok c → Names source p.since p.configuration.batch c
IsTruth Compare p source target status body = (missing : List Revisions) → differences_read p.leaves status body ≡ Ok missing → Compares target p.leaves missing
IsTruth Open p source target status body = (opened : List Opened) → revisions_opened status body ≡ Ok opened → Opens (first_of_pending p.pending) opened
IsTruth Push p source target status body = (failures : List Value) → documents_pushed status body ≡ Ok failures → Pushes target p.documents failures
IsTruth phase p source target status body = ⊤

-- ---- what happens

-- a pass and its two databases, and the source as it was when it was listed last
pub record Scene : Type 0 where
  pub source : Database
  pub target : Database
  pub listed : Database
  pub pass : Pass

-- the source that was listed last, after a turn
abbrev pub listed_after : Phase → Database → Database → Turn → Database
listed_after phase source before lost = before
listed_after ListChanges source before (answered status body) = source
listed_after phase source before (answered status body) = before

abbrev pub SaysTruth : Scene → Scene → Turn → Type 0
SaysTruth old new (answered status body) = IsTruth old.pass.phase old.pass old.source new.target status body
SaysTruth old new lost = ⊤

-- both databases accept writes, and forget nothing
pub record Grows (old new : Scene) : Type 0 where
  pub source : IsLater old.source new.source
  pub target : IsLater old.target new.target

-- somebody else writes, or the pass has a turn
pub data Event : Type 0 where
  others : Event
  turn : Turn → Event

abbrev pub Follows : Event → Scene → Scene → Type 0
Follows others old new = Grows old new × (new.pass ≡ old.pass) × (new.listed ≡ old.listed)
Follows (turn t) old new =
    Grows old new × (new.pass ≡ after_turn old.pass t) × (new.listed ≡ listed_after old.pass.phase old.source old.listed t) × SaysTruth old new t

abbrev pub Goes : List Event → Scene → Scene → Type 0
Goes [] old new = new ≡ old
Goes (e ∷ es) old new = (between : Scene) × Follows e old between × Goes es between new

-- a pass of this configuration went from its beginning through these events to where it stands now; a batch has one document at least
pub record Went (c : PassConfiguration) (es : List Event) (now : Scene) : Type 0 where
  pub first : Scene
  pub begins : first.pass ≡ first_pass c
  pub batch : IfSome c.batch (λ size. 1 ≤ size)
  pub goes : Goes es first now

-- ---- what is owed

-- Each leaf of a database, of a document whose sequence is above the start and not above the end, is settled. A leaf is one that can be
-- written as text: no other stands in a request or a reply.
abbrev pub Covers : Database → ℕ → ℕ → Scene → Type 0
Covers db start end now =
    (id : List ℕ) (r : Revision) → IsTrue (is_revision r) → IsTrue (is_leaf (history_at db id) r) → start < sequence_at db id → sequence_at db id ≤ end
    → is_settled now.target now.pass.refused id r ≡ true

-- a pass that writes its checkpoints, or is done
abbrev pub has_covered : Phase → Bool
has_covered WriteSource = true
has_covered WriteTarget = true
has_covered RereadSource = true
has_covered RereadTarget = true
has_covered Done = true
has_covered phase = false

-- a pass that writes its checkpoints, or is done, has settled what it listed in all its rounds: of the source as it was, and as it is now
abbrev pub RoundsCover : Type 0
RoundsCover =
    (c : PassConfiguration) (es : List Event) (now : Scene) → Went c es now → has_covered now.pass.phase ≡ true
    → Covers now.listed now.pass.start_seq now.pass.last_seq now × Covers now.source now.pass.start_seq now.pass.last_seq now

-- A pass that is done owes nothing: each leaf that the source had when it was listed last, of a document whose sequence is above the
-- start, is settled.
abbrev pub DoneOwesNothing : Type 0
DoneOwesNothing =
    (c : PassConfiguration) (es : List Event) (now : Scene) → Went c es now → now.pass.phase ≡ Done
    → (id : List ℕ) (r : Revision) → IsTrue (is_revision r) → IsTrue (is_leaf (history_at now.listed id) r) → now.pass.start_seq < sequence_at now.listed id
    → is_settled now.target now.pass.refused id r ≡ true
