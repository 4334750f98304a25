-- Two passes in opposite directions converge, and what this stands on.
-- CouchDB manual, replication/conflicts (replicas that have the same edits pick the same winner) and replication/protocol.
use Rattle.std.specs.Prelude.{◌≡◌, ℕ, List, []}
use Rattle.std.specs.List.{AllByRecursion}
use Rattle.couch_json.specs.Value.{Value}
use Rattle.tree.specs.History.{content_of}
use Rattle.tree.specs.Revision.{Revision}
use Rattle.tree.specs.Write as tree
use Rattle.store.specs.Contents.{AreAcceptable}
use Rattle.store.specs.Database.{Database, DocumentWrite, IsKnownAt, history_at, with_all}
use Rattle.repl.specs.Configuration.{PassConfiguration}
use Rattle.repl.specs.Passes.{Pass}
use Rattle.repl.specs.declared.phase.Phase.TheVariants.{Done}
use Rattle.replication.specs.Agreement.{Agrees, HaveSameTree, LeavesAreKnown}
use Rattle.replication.specs.Sound.{Agree, IsSound}
use Rattle.replication.specs.Appended.{ComesFrom, IsReplica, IsSaidBy, IsShownBy}
use Rattle.replication.specs.Crossing.{Crossed, PairState, Move}

-- Two lawful histories that agree, where each leaf of either is known in the other, have the same leaves and the same winner. For each
-- known revision lies on a path from a leaf, and the other history has this path too, since it has the leaf and the same parents.
-- A leaf of the one that has a child in the other can't stay: the child lies below a leaf there, which is known in the one.
abbrev pub LeavesMeet : Type 0
LeavesMeet =
    (ws vs : List tree.Write) → tree.AreLawfulWrites ws → tree.AreLawfulWrites vs → Agrees (content_of ws) (content_of vs) → LeavesAreKnown (content_of ws) (content_of vs)
    → LeavesAreKnown (content_of vs) (content_of ws) → HaveSameTree (content_of ws) (content_of vs)

-- what a document says that a sound database shows is a write that comes from there: the same path, the same mark, the same body
abbrev pub ShownIsSaid : Type 0
ShownIsSaid = (db : Database) (id : List ℕ) (v : Value) (w : DocumentWrite) → IsSound db → IsShownBy db id v → IsSaidBy v w → ComesFrom db w

-- Writes that come from a sound database, each acceptable when its turn comes, make a replica of the other one.
abbrev pub WritesKeepAgreement : Type 0
WritesKeepAgreement =
    (source target : Database) (ws : List DocumentWrite) → IsSound source → IsSound target → Agree source target → AllByRecursion (ComesFrom source) ws
    → AreAcceptable target ws → IsReplica source target (with_all target ws)

-- Where writes come from a database that agrees with a third one, and are appended in another one that agrees with both, that one still agrees
-- with the third. So passes among any number of databases that agree, two by two, keep that.
abbrev pub WritesKeepOthersAgreement : Type 0
WritesKeepOthersAgreement =
    (source target third : Database) (ws : List DocumentWrite) → IsSound source → IsSound target → Agree source target → Agree source third → Agree target third
    → AllByRecursion (ComesFrom source) ws → AreAcceptable target ws → Agree (with_all target ws) third

-- Writes by which a database comes to know only revisions that another one doesn't know keep the agreement of the two. So an edit keeps it
-- whose revision nobody else has.
abbrev pub NewRevisionsKeepAgreement : Type 0
NewRevisionsKeepAgreement =
    (old third : Database) (ws : List DocumentWrite) → Agree old third → ((id : List ℕ) (r : Revision) → IsKnownAt (with_all old ws) id r → IsKnownAt third id r → IsKnownAt old id r)
    → Agree (with_all old ws) third

-- two sound databases that agree
pub record IsPair (a b : Database) : Type 0 where
  pub one : IsSound a
  pub other : IsSound b
  pub agree : Agree a b

-- Two passes in opposite directions keep two sound databases sound, and their agreement, at every moment.
abbrev pub PassesKeepAgreement : Type 0
PassesKeepAgreement =
    (c d : PassConfiguration) (ms : List Move) (now : PairState) (went : Crossed c d ms now) → IsPair went.first.one went.first.other → IsPair now.one now.other

-- a pass ended that began at the start of its source, and reports nothing
pub record HasCopiedAll (p : Pass) : Type 0 where
  pub done : p.phase ≡ Done
  pub start : p.start_seq ≡ 0
  pub refused : p.refused ≡ []

-- Two passes in opposite directions converge. Both databases are sound and agree at first, and nobody else writes a document in either. Once
-- both passes are done, with nothing refused, both databases have the same leaves and the same winner of each document.
--
-- What the one database had when its pass listed it last, the other one knows: each leaf of it by the pass, and what lies behind a leaf
-- since both agree. What came later was pushed by the pass back, and so came from the other database, which knows it anyway. This needs
-- that nobody else writes: a revision that somebody adds after the last listing is known to one side alone.
abbrev pub TwoPassesConverge : Type 0
TwoPassesConverge =
    (c d : PassConfiguration) (ms : List Move) (now : PairState) (went : Crossed c d ms now) → IsPair went.first.one went.first.other → HasCopiedAll now.there → HasCopiedAll now.back → (id : List ℕ) → HaveSameTree (history_at now.one id) (history_at now.other id)
