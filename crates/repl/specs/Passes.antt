-- A pass of replication: what it asks, and what each reply makes of it.
-- CouchDB manual, replication/protocol. How losses are counted, and that a checkpoint whose write was lost is read again, are this project's own.
use Rattle.std.specs.Prelude.{ℕ, ◌+◌, ◌==◌, ◌&&◌, ◌||◌, Bool, false, not, min, nat_le, nat_lt, List, [], ◌∷◌, ◌++◌, length, drop, map, pos, Option, Some, None, Result, Ok, Err, bytes_eq, if◌then◌else◌, codes, true}
use Rattle.couch_json.specs.Value.{Value, whole, array, object, no_members, put}
use Rattle.couch_json.specs.View.{items_of}
use Rattle.couch_http.specs.Message.{Message}
use Rattle.repl.specs.Calls.{Call, Revisions, read_checkpoint, write_checkpoint, list_changes, compare_revisions, open_revisions, push_documents, request_of}
use Rattle.repl.specs.Checkpoints.{Checkpoint, checkpoint_id, history_of, next_checkpoint, start_with}
use Rattle.repl.specs.Configuration.{PassConfiguration}
use Rattle.repl.specs.Replies.{Changes, Opened, Stored, changes_listed, checkpoint_read, checkpoint_written, differences_read, documents_of_opened, documents_pushed, missing_reports, revisions_opened}
use Rattle.couch_json.specs.Range.{greatest_count}
use Rattle.repl.specs.Shapes.{text_at}
use Rattle.repl.specs.declared.phase.Phase.{Phase}
use Rattle.repl.specs.declared.phase.Phase.TheVariants.{ReadSource, ReadTarget, ListChanges, Compare, Open, Push, WriteSource, WriteTarget, RereadSource, RereadTarget, Done, Stopped}
use Rattle.repl.specs.declared.side.Side.{Side}
use Rattle.repl.specs.declared.side.Side.TheVariants.{Source, Target}
use Rattle.repl.specs.declared.why.Why.{Why}
use Rattle.repl.specs.declared.why.Why.TheVariants.{Lost, Reply}

-- where a pass stands
pub record Pass : Type 0 where
  pub configuration : PassConfiguration
  pub phase : Phase
  -- the checkpoint that the source had when the pass began, and the revisions of the two documents as last seen
  pub older : Option Checkpoint
  pub source_revision : Option (List ℕ)
  pub target_revision : Option (List ℕ)
  -- the sequence after which the pass begins, as the two checkpoints say; and the one after which this round lists changes
  pub start : ℕ
  pub since : ℕ
  -- the start and the end that are reported, 0 before changes are listed
  pub start_seq : ℕ
  pub last_seq : ℕ
  -- this round's listing had as many results as a batch has, so another round follows
  pub is_full : Bool
  -- the leaves listed; of those that are missing at the target, the ones that aren't open yet; and the documents that came
  pub leaves : List Revisions
  pub pending : List Revisions
  pub documents : List Value
  -- how many documents were pushed, what is reported of the others, and how many replies were lost
  pub sent : ℕ
  pub refused : List Value
  pub losses : ℕ

-- a pass that has asked nothing
abbrev pub first_pass : PassConfiguration → Pass
first_pass c = record {
  configuration = c;
  phase = ReadSource;
  older = None;
  source_revision = None;
  target_revision = None;
  start = 0;
  since = 0;
  start_seq = 0;
  last_seq = 0;
  is_full = false;
  leaves = [];
  pending = [];
  documents = [];
  sent = 0;
  refused = [];
  losses = 0;
}

-- ---- what is asked

-- a call to a side, or nothing any more
pub data Step : Type 0 where
  called : Side → Call → Step
  finished : Step
  stopped : Why → Step

-- the first of the documents that are to be opened
abbrev pub first_of_pending : List Revisions → Revisions
first_of_pending [] = record { id = []; revisions = [] }
first_of_pending (r ∷ rs) = r

-- the checkpoint of the pass, in place of the revision last seen on a side
abbrev pub checkpoint_after : Pass → Option (List ℕ) → Value
checkpoint_after p revision = next_checkpoint p.configuration.session p.last_seq (history_of p.older) revision

-- what a pass asks in a phase
abbrev pub step_in : Phase → Pass → Step
step_in ReadSource p = called Source (read_checkpoint (checkpoint_id p.configuration))
step_in ReadTarget p = called Target (read_checkpoint (checkpoint_id p.configuration))
step_in ListChanges p = called Source (list_changes p.since p.configuration.batch)
step_in Compare p = called Target (compare_revisions p.leaves)
step_in Open p = called Source (open_revisions (first_of_pending p.pending))
step_in Push p = called Target (push_documents p.documents)
step_in WriteSource p = called Source (write_checkpoint (checkpoint_id p.configuration) (checkpoint_after p p.source_revision))
step_in WriteTarget p = called Target (write_checkpoint (checkpoint_id p.configuration) (checkpoint_after p p.target_revision))
step_in RereadSource p = called Source (read_checkpoint (checkpoint_id p.configuration))
step_in RereadTarget p = called Target (read_checkpoint (checkpoint_id p.configuration))
step_in Done p = finished
step_in (Stopped why) p = stopped why

-- the next step of a pass
abbrev pub step_of : Pass → Step
step_of p = step_in p.phase p

-- nothing more is called
abbrev pub is_end : Step → Bool
is_end (called side call) = false
is_end finished = true
is_end (stopped why) = true

abbrev pub has_ended : Pass → Bool
has_ended p = is_end (step_of p)

-- what is reported of a pass
pub record Summary : Type 0 where
  pub start_seq : ℕ
  pub last_seq : ℕ
  pub sent : ℕ
  pub refused : List Value

-- what a pass did so far
abbrev pub summary_of : Pass → Summary
summary_of p = record { start_seq = p.start_seq; last_seq = p.last_seq; sent = p.sent; refused = p.refused }

-- the end of the later of two passes, or that of the earlier one where the later has listed nothing
abbrev pub later_end : ℕ → ℕ → ℕ
later_end earlier later = if later == 0 then earlier else later

-- what two passes did, of which the later one went on where the earlier one had stopped
abbrev pub joined : Summary → Summary → Summary
joined earlier later = record {
  start_seq = earlier.start_seq;
  last_seq = later_end earlier.last_seq later.last_seq;
  sent = min (earlier.sent + later.sent) greatest_count;
  refused = earlier.refused ++ later.refused;
}

abbrev pub summary_value : Summary → Value
summary_value s =
    object (put (codes "start_seq") (whole (pos s.start_seq))
    (put (codes "sent") (whole (pos s.sent))
    (put (codes "refused") (array (items_of s.refused))
    (put (codes "last_seq") (whole (pos s.last_seq)) no_members))))

-- a request to a side, or the report at the end
pub data Asked : Type 0 where
  to_source : Message → Asked
  to_target : Message → Asked
  done : Summary → Asked
  stopped_by : Why → Summary → Asked

-- a request to one of the two sides
abbrev pub sent_to : Side → Message → Asked
sent_to Source m = to_source m
sent_to Target m = to_target m

-- what a step asks
abbrev pub asked_by : Pass → Step → Asked
asked_by p (called side call) = sent_to side (request_of p.configuration side call)
asked_by p finished = done (summary_of p)
asked_by p (stopped why) = stopped_by why (summary_of p)

-- what a pass asks
abbrev pub asked_of : Pass → Asked
asked_of p = asked_by p (step_of p)

-- what a pass asks behind what it asks now, where each reply has the documents: it opens the further pending ones
abbrev pub asked_next : Pass → List Message
asked_next p = map (λ r. request_of p.configuration Source (open_revisions r)) (drop 1 p.pending)

-- the id of the first of these documents, if it has one
abbrev pub first_document : List Value → Option (List ℕ)
first_document [] = None
first_document (v ∷ vs) = text_at (codes "_id") v

-- ---- what a reply makes of a pass

-- the pass has stopped
abbrev pub stopped_at : Pass → Why → Pass
stopped_at p why = record p { phase = Stopped why }

-- what a reply says is taken in, or the pass stops
abbrev pub pass_after : {A : Type 0} → (Pass → A → Pass) → Pass → Result A Why → Pass
pass_after take p (Ok a) = take p a
pass_after take p (Err why) = stopped_at p why

-- the source's checkpoint is read
abbrev pub with_source : Pass → Stored → Pass
with_source p s = record p { phase = ReadTarget; older = s.checkpoint; source_revision = s.revision }

-- the target's checkpoint is read: the changes are listed from the common sequence on, or from 0 on
abbrev pub with_target : Pass → Stored → Pass
with_target p s = record p {
  phase = ListChanges;
  target_revision = s.revision;
  start = start_with p.configuration.is_from_start p.older s.checkpoint;
  since = start_with p.configuration.is_from_start p.older s.checkpoint;
}

-- where nothing was listed, the pass is done
abbrev pub phase_after_list : List Revisions → Phase
phase_after_list [] = Done
phase_after_list (l ∷ ls) = Compare

-- a listing has just as many results as a batch has; where there is no batch, all were listed
abbrev pub fills : Option ℕ → List Revisions → Bool
fills None leaves = false
fills (Some size) leaves = length leaves == size

-- the changes of a round are listed
abbrev pub with_changes : Pass → Changes → Pass
with_changes p c = record p {
  phase = phase_after_list c.leaves;
  start_seq = p.start;
  last_seq = c.sequence;
  is_full = fills p.configuration.batch c.leaves;
  leaves = c.leaves;
}

-- documents that are pending are opened, then those that came are pushed; where none came, the checkpoints follow
abbrev pub phase_without_pending : List Value → Phase
phase_without_pending [] = WriteSource
phase_without_pending (v ∷ vs) = Push

-- what comes next, with these documents to open and those to push
abbrev pub phase_with : List Revisions → List Value → Phase
phase_with [] documents = phase_without_pending documents
phase_with (r ∷ rs) documents = Open

-- the target has said what it lacks
abbrev pub with_lacking : Pass → List Revisions → Pass
with_lacking p missing = record p { phase = phase_with missing p.documents; leaves = []; pending = missing }

-- the revisions of one document are read: those that are there wait for the push
abbrev pub with_opened : Pass → List Opened → Pass
with_opened p opened = record p {
  phase = phase_with (drop 1 p.pending) (p.documents ++ documents_of_opened opened);
  pending = drop 1 p.pending;
  documents = p.documents ++ documents_of_opened opened;
  refused = p.refused ++ missing_reports (first_of_pending p.pending).id opened;
}

-- a push is answered: documents were sent, and some of them refused
abbrev pub with_failures : Pass → List Value → Pass
with_failures p failures = record p {
  phase = WriteSource;
  documents = [];
  sent = min (p.sent + length p.documents) greatest_count;
  refused = p.refused ++ failures;
}

-- the source's checkpoint is written
abbrev pub with_source_written : Pass → List ℕ → Pass
with_source_written p revision = record p { phase = WriteTarget; source_revision = Some revision }

-- a round ends where both checkpoints are written: if its listing was full, the next round lists what follows, else the pass is done
abbrev pub phase_after_round : Bool → Phase
phase_after_round false = Done
phase_after_round true = ListChanges

-- the target's checkpoint is written: the next round begins, or the pass is done
abbrev pub with_target_written : Pass → List ℕ → Pass
with_target_written p revision = record p {
  phase = phase_after_round p.is_full;
  since = p.last_seq;
  target_revision = Some revision;
}

-- a checkpoint is that of this pass, as of this round
abbrev pub is_written : Pass → Option Checkpoint → Bool
is_written p None = false
is_written p (Some c) = bytes_eq c.session p.configuration.session && c.sequence == p.last_seq

-- the source's checkpoint is read again, after a reply to its write was lost
abbrev pub with_source_reread : Pass → Stored → Pass
with_source_reread p s =
    record p { phase = if is_written p s.checkpoint then WriteTarget else WriteSource; source_revision = s.revision }

-- the target's checkpoint is read again, after a reply to its write was lost
abbrev pub with_target_reread : Pass → Stored → Pass
with_target_reread p s = record p {
  phase = if is_written p s.checkpoint then phase_after_round p.is_full else WriteTarget;
  since = if is_written p s.checkpoint then p.last_seq else p.since;
  target_revision = s.revision;
}

-- ---- replies that answer what was asked

-- what a reply says, where it answers what was asked: what goes beyond that is of another shape
abbrev pub where_answers : {A : Type 0} → (A → Bool) → Result A Why → Result A Why
where_answers answers (Ok a) = if answers a then Ok a else Err Reply
where_answers answers (Err why) = Err why

-- a list has at most as many documents as a batch has
abbrev pub is_within_batch : Option ℕ → List Revisions → Bool
is_within_batch None leaves = true
is_within_batch (Some size) leaves = nat_le (length leaves) size

-- a list that is full ends above the sequence after which it begins, so the next one lists others
abbrev pub goes_on : ℕ → Option ℕ → Changes → Bool
goes_on since batch c = not (fills batch c.leaves) || nat_lt since c.sequence

-- the changes that were asked for
abbrev pub answers_list : Pass → Changes → Bool
answers_list p c = is_within_batch p.configuration.batch c.leaves && goes_on p.since p.configuration.batch c

-- no more revisions of a document than were asked for
abbrev pub answers_open : Pass → List Opened → Bool
answers_open p opened = nat_le (length opened) (length (first_of_pending p.pending).revisions)

-- no more failures than documents were pushed
abbrev pub answers_push : Pass → List Value → Bool
answers_push p failures = nat_le (length failures) (length p.documents)

-- the changes that are taken in
abbrev pub list_taken : Pass → ℕ → List ℕ → Result Changes Why
list_taken p status body = where_answers (λ c. answers_list p c) (changes_listed status body)

-- the opened revisions that are taken in
abbrev pub opened_taken : Pass → ℕ → List ℕ → Result (List Opened) Why
opened_taken p status body = where_answers (λ opened. answers_open p opened) (revisions_opened status body)

-- the failures that are taken in
abbrev pub failures_taken : Pass → ℕ → List ℕ → Result (List Value) Why
failures_taken p status body = where_answers (λ failures. answers_push p failures) (documents_pushed status body)

-- the pass after a reply to what it asks in a phase
abbrev pub answered_in : Phase → Pass → ℕ → List ℕ → Pass
answered_in ReadSource p status body = pass_after with_source p (checkpoint_read status body)
answered_in ReadTarget p status body = pass_after with_target p (checkpoint_read status body)
answered_in ListChanges p status body = pass_after with_changes p (list_taken p status body)
answered_in Compare p status body = pass_after with_lacking p (differences_read p.leaves status body)
answered_in Open p status body = pass_after with_opened p (opened_taken p status body)
answered_in Push p status body = pass_after with_failures p (failures_taken p status body)
answered_in WriteSource p status body = pass_after with_source_written p (checkpoint_written status body)
answered_in WriteTarget p status body = pass_after with_target_written p (checkpoint_written status body)
answered_in RereadSource p status body = pass_after with_source_reread p (checkpoint_read status body)
answered_in RereadTarget p status body = pass_after with_target_reread p (checkpoint_read status body)
answered_in ended p status body = p

-- the pass after a reply
abbrev pub answered_of : Pass → ℕ → List ℕ → Pass
answered_of p status body = answered_in p.phase p status body

-- a pass in a phase after a reply that can't be read: where it goes on, it has stopped
abbrev pub unreadable_in : Phase → Pass → Pass
unreadable_in Done p = p
unreadable_in (Stopped why) p = p
unreadable_in phase p = stopped_at p Reply

-- the pass after a reply that can't be read
abbrev pub unreadable_of : Pass → Pass
unreadable_of p = unreadable_in p.phase p

-- ---- losses

-- the same is asked again, but after a lost write of a checkpoint it is read
abbrev pub phase_after_loss : Phase → Phase
phase_after_loss WriteSource = RereadSource
phase_after_loss WriteTarget = RereadTarget
phase_after_loss phase = phase

-- how many losses a pass bears
abbrev pub most_losses : ℕ
most_losses = 100

-- a pass that goes on counts a loss; one more than it bears stops it
abbrev pub with_loss : Pass → Pass
with_loss p =
    if nat_le most_losses p.losses then stopped_at p Lost
    else record p { phase = phase_after_loss p.phase; losses = p.losses + 1 }

-- what a lost reply makes of a pass in this phase
abbrev pub lost_in : Phase → Pass → Pass
lost_in Done p = p
lost_in (Stopped why) p = p
lost_in phase p = with_loss p

-- the pass after its request or the reply was lost
abbrev pub lost_of : Pass → Pass
lost_of p = lost_in p.phase p
