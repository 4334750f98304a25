-- A pass as what it makes of the turns of its run: of each reply that it takes in, and of each loss.
-- CouchDB manual, replication/protocol; that revisions which can't be opened are reported is this project's own.
use Rattle.std.specs.Prelude.{ℕ, ◌||◌, Bool, false, List, [], ◌∷◌, ◌++◌, Option, None, Result, Ok, Err, is_ok}
use Rattle.couch_json.specs.Value.{Value}
use Rattle.repl.specs.Checkpoints.{Checkpoint, start_with}
use Rattle.repl.specs.Configuration.{PassConfiguration}
use Rattle.repl.specs.Passes.{Pass, answered_of, failures_taken, first_of_pending, list_taken, lost_of, opened_taken}
use Rattle.repl.specs.Replies.{Stored, checkpoint_read, missing_reports}
use Rattle.repl.specs.declared.phase.Phase.{Phase}
use Rattle.repl.specs.declared.phase.Phase.TheVariants.{ReadSource, ReadTarget, ListChanges, Compare, Open, Push, WriteSource, WriteTarget, RereadSource, RereadTarget, Done, Stopped}
use Rattle.repl.specs.declared.why.Why.{Why}

-- what comes of what a pass asks: a reply that is taken in, by its status and its body, or that the request or the reply was lost
pub data Turn : Type 0 where
  answered : ℕ → List ℕ → Turn
  lost : Turn

-- the pass after a reply, or its loss
abbrev pub after_turn : Pass → Turn → Pass
after_turn p (answered status body) = answered_of p status body
after_turn p lost = lost_of p

-- the pass after several turns
abbrev pub after_turns : Pass → List Turn → Pass
after_turns p [] = p
after_turns p (t ∷ ts) = after_turns (after_turn p t) ts

-- ---- what is reported

-- what a reply says, where it is of the form that is expected
abbrev pub where_said : {A : Type 0} → (A → List Value) → Result A Why → List Value
where_said report (Ok a) = report a
where_said report (Err why) = []

-- what a reply in a phase says that is to be reported: which revisions are missing at the source, and which writes failed at the target
abbrev pub told_in : Phase → Pass → ℕ → List ℕ → List Value
told_in ReadSource p status body = []
told_in ReadTarget p status body = []
told_in ListChanges p status body = []
told_in Compare p status body = []
told_in Open p status body = where_said (λ opened. missing_reports (first_of_pending p.pending).id opened) (opened_taken p status body)
told_in Push p status body = where_said (λ failures. failures) (failures_taken p status body)
told_in WriteSource p status body = []
told_in WriteTarget p status body = []
told_in RereadSource p status body = []
told_in RereadTarget p status body = []
told_in Done p status body = []
told_in (Stopped why) p status body = []

-- what a turn says that is to be reported
abbrev pub told_at : Pass → Turn → List Value
told_at p (answered status body) = told_in p.phase p status body
told_at p lost = []

-- the same of several turns, in order
abbrev pub told_of : Pass → List Turn → List Value
told_of p [] = []
told_of p (t ∷ ts) = told_at p t ++ told_of (after_turn p t) ts

-- ---- where it starts

-- a reply in a phase is a list of changes that is taken in
abbrev pub lists_in : Phase → Pass → ℕ → List ℕ → Bool
lists_in ListChanges p status body = is_ok (list_taken p status body)
lists_in phase p status body = false

-- the turn brings a list of changes
abbrev pub lists_at : Pass → Turn → Bool
lists_at p (answered status body) = lists_in p.phase p status body
lists_at p lost = false

-- at one of these turns a list of changes was taken in
abbrev pub has_listed : Pass → List Turn → Bool
has_listed p [] = false
has_listed p (t ∷ ts) = lists_at p t || has_listed (after_turn p t) ts

-- the replies, in order
abbrev pub replies_in : List Turn → List (ℕ × List ℕ)
replies_in [] = []
replies_in (answered status body ∷ ts) = (status, body) ∷ replies_in ts
replies_in (lost ∷ ts) = replies_in ts

-- the checkpoint that a reply says, if it says one
abbrev pub stored_said : Result Stored Why → Option Checkpoint
stored_said (Ok s) = s.checkpoint
stored_said (Err why) = None

-- the checkpoint that a reply holds, if any
abbrev pub checkpoint_said : ℕ × List ℕ → Option Checkpoint
checkpoint_said reply = stored_said (checkpoint_read reply.0 reply.1)

-- the start of a pass of this configuration by the first two replies, the source's and the target's; 0 where it is told so
abbrev pub start_by : PassConfiguration → List (ℕ × List ℕ) → ℕ
start_by c [] = 0
start_by c (source ∷ []) = 0
start_by c (source ∷ target ∷ others) = start_with c.is_from_start (checkpoint_said source) (checkpoint_said target)
