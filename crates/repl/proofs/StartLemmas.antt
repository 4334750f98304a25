-- Where a pass starts after several turns.
use Rattle.std.proofs.Common.{◌≡◌, ◌∙◌, ℕ, ◌+◌, ◌||◌, Bool, true, false, cond, List, [], ◌∷◌, ◌++◌, Option, Result, Ok, Err, append_assoc, append-nil, refl, sym, ap, subst}
use Rattle.std.specs.Prelude.{⊤, is_ok}
use Rattle.couch_json.specs.Value.{Value}
use Rattle.repl.specs.Calls.{Revisions}
use Rattle.repl.specs.Checkpoints.{Checkpoint, start_with}
use Rattle.repl.specs.Configuration.{PassConfiguration}
use Rattle.repl.specs.Passes.{Pass, answered_in, failures_taken, first_pass, is_written, list_taken, lost_of, opened_taken, pass_after, phase_after_list, phase_after_loss, phase_after_round, phase_with, with_changes, with_lacking, with_failures, with_opened, with_source, with_source_reread, with_source_written, with_target, with_target_reread, with_target_written}
use Rattle.repl.specs.Replies.{Changes, Opened, Stored, checkpoint_read, checkpoint_written, differences_read, documents_of_opened}
use Rattle.repl.specs.Turns.{Turn, after_turn, after_turns, answered, checkpoint_said, has_listed, lists_at, lists_in, lost, replies_in, start_by, stored_said}
use Rattle.repl.specs.declared.phase.Phase.{Phase}
use Rattle.repl.specs.declared.phase.Phase.TheVariants.{ReadSource, ReadTarget, ListChanges, Compare, Open, Push, WriteSource, WriteTarget, RereadSource, RereadTarget, Done, Stopped}
use Rattle.repl.specs.declared.why.Why.{Why}
use Rattle.repl.proofs.LossLemmas.{lost_by}

abbrev Taken : Type 0
Taken = List (ℕ × List ℕ)

-- the first two of these replies give this start, where a pass is told so or not to begin at 0
record IsStart (told : Bool) (rs : Taken) (n : ℕ) : Type 0 where
  source : ℕ × List ℕ
  target : ℕ × List ℕ
  rest : Taken
  are : rs ≡ source ∷ target ∷ rest
  is : n ≡ start_with told (checkpoint_said source) (checkpoint_said target)

-- the only reply so far gives this checkpoint
record IsRead (rs : Taken) (older : Option Checkpoint) : Type 0 where
  source : ℕ × List ℕ
  are : rs ≡ source ∷ []
  is : older ≡ checkpoint_said source

start_more : (told : Bool) (rs more : Taken) (n : ℕ) → IsStart told rs n → IsStart told (rs ++ more) n
start_more told rs more n h = record { source = h.source; target = h.target; rest = h.rest ++ more; are = ap (λ (xs : Taken). xs ++ more) h.are; is = h.is }

-- ---- the start that the checkpoints gave

-- what is known of a pass that asks in a phase, after these replies
abbrev Standing : Phase → Pass → Taken → Type 0
Standing ReadSource p rs = rs ≡ []
Standing ReadTarget p rs = IsRead rs p.older
Standing ListChanges p rs = IsStart p.configuration.is_from_start rs p.start
Standing Compare p rs = IsStart p.configuration.is_from_start rs p.start
Standing Open p rs = IsStart p.configuration.is_from_start rs p.start
Standing Push p rs = IsStart p.configuration.is_from_start rs p.start
Standing WriteSource p rs = IsStart p.configuration.is_from_start rs p.start
Standing WriteTarget p rs = IsStart p.configuration.is_from_start rs p.start
Standing RereadSource p rs = IsStart p.configuration.is_from_start rs p.start
Standing RereadTarget p rs = IsStart p.configuration.is_from_start rs p.start
Standing Done p rs = IsStart p.configuration.is_from_start rs p.start
Standing (Stopped why) p rs = ⊤

from_source : (p : Pass) (rs : Taken) (status : ℕ) (body : List ℕ) (r : Result Stored Why) → checkpoint_read status body ≡ r → rs ≡ []
    → Standing (pass_after with_source p r).phase (pass_after with_source p r) (rs ++ (status, body) ∷ [])
from_source p rs status body (Ok s) e h = record { source = (status, body); are = ap (λ (xs : Taken). xs ++ (status, body) ∷ []) h; is = ap stored_said (sym e) }
from_source p rs status body (Err why) e h = tt

from_target : (p : Pass) (rs : Taken) (status : ℕ) (body : List ℕ) (r : Result Stored Why) → checkpoint_read status body ≡ r → IsRead rs p.older
    → Standing (pass_after with_target p r).phase (pass_after with_target p r) (rs ++ (status, body) ∷ [])
from_target p rs status body (Ok s) e h = record {
  source = h.source;
  target = (status, body);
  rest = [];
  are = ap (λ (xs : Taken). xs ++ (status, body) ∷ []) h.are;
  is = ap (λ (o : Option Checkpoint). start_with p.configuration.is_from_start o s.checkpoint) h.is
      ∙ ap (λ (r : Result Stored Why). start_with p.configuration.is_from_start (checkpoint_said h.source) (stored_said r)) (sym e);
}
from_target p rs status body (Err why) e h = tt

listed : (ls : List Revisions) (p : Pass) (rs : Taken) → IsStart p.configuration.is_from_start rs p.start → Standing (phase_after_list ls) p rs
listed [] p rs h = h
listed (l ∷ ls) p rs h = h

pending : (missing : List Revisions) (documents : List Value) (p : Pass) (rs : Taken) → IsStart p.configuration.is_from_start rs p.start → Standing (phase_with missing documents) p rs
pending [] [] p rs h = h
pending [] (v ∷ vs) p rs h = h
pending (m ∷ ms) documents p rs h = h

rounded : (b : Bool) (p : Pass) (rs : Taken) → IsStart p.configuration.is_from_start rs p.start → Standing (phase_after_round b) p rs
rounded true p rs h = h
rounded false p rs h = h

either : (b : Bool) (f g : Phase) (p : Pass) (rs : Taken) → Standing f p rs → Standing g p rs → Standing (cond b f g) p rs
either true f g p rs a b = a
either false f g p rs a b = b

-- where the start is known, it stays known
after_reply : {A : Type 0} (take : Pass → A → Pass) (p : Pass) (rs : Taken) (r : Result A Why) → ((a : A) → Standing (take p a).phase (take p a) rs)
    → Standing (pass_after take p r).phase (pass_after take p r) rs
after_reply take p rs (Ok a) taken = taken a
after_reply take p rs (Err why) taken = tt

answer_stands : (f : Phase) (p : Pass) (rs : Taken) (status : ℕ) (body : List ℕ) → p.phase ≡ f → Standing f p rs
    → Standing (answered_in f p status body).phase (answered_in f p status body) (rs ++ (status, body) ∷ [])
answer_stands ReadSource p rs status body e h = from_source p rs status body (checkpoint_read status body) refl h
answer_stands ReadTarget p rs status body e h = from_target p rs status body (checkpoint_read status body) refl h
answer_stands ListChanges p rs status body e h =
    let more = start_more p.configuration.is_from_start rs ((status, body) ∷ []) p.start h in
    after_reply with_changes p (rs ++ (status, body) ∷ []) (list_taken p status body) (λ (c : Changes). listed c.leaves (with_changes p c) (rs ++ (status, body) ∷ []) more)
answer_stands Compare p rs status body e h =
    let more = start_more p.configuration.is_from_start rs ((status, body) ∷ []) p.start h in
    after_reply with_lacking p (rs ++ (status, body) ∷ []) (differences_read p.leaves status body)
    (λ (missing : List Revisions). pending missing p.documents (with_lacking p missing) (rs ++ (status, body) ∷ []) more)
answer_stands Open p rs status body e h =
    let more = start_more p.configuration.is_from_start rs ((status, body) ∷ []) p.start h in
    after_reply with_opened p (rs ++ (status, body) ∷ []) (opened_taken p status body)
    (λ (opened : List Opened). pending _ (p.documents ++ documents_of_opened opened) (with_opened p opened) (rs ++ (status, body) ∷ []) more)
answer_stands Push p rs status body e h =
    let more = start_more p.configuration.is_from_start rs ((status, body) ∷ []) p.start h in
    after_reply with_failures p (rs ++ (status, body) ∷ []) (failures_taken p status body) (λ (failures : List Value). more)
answer_stands WriteSource p rs status body e h =
    let more = start_more p.configuration.is_from_start rs ((status, body) ∷ []) p.start h in
    after_reply with_source_written p (rs ++ (status, body) ∷ []) (checkpoint_written status body) (λ (revision : List ℕ). more)
answer_stands WriteTarget p rs status body e h =
    let more = start_more p.configuration.is_from_start rs ((status, body) ∷ []) p.start h in
    after_reply with_target_written p (rs ++ (status, body) ∷ []) (checkpoint_written status body)
    (λ (revision : List ℕ). rounded p.is_full (with_target_written p revision) (rs ++ (status, body) ∷ []) more)
answer_stands RereadSource p rs status body e h =
    let more = start_more p.configuration.is_from_start rs ((status, body) ∷ []) p.start h in
    after_reply with_source_reread p (rs ++ (status, body) ∷ []) (checkpoint_read status body)
    (λ (s : Stored). either (is_written p s.checkpoint) WriteTarget WriteSource (with_source_reread p s) (rs ++ (status, body) ∷ []) more more)
answer_stands RereadTarget p rs status body e h =
    let more = start_more p.configuration.is_from_start rs ((status, body) ∷ []) p.start h in
    after_reply with_target_reread p (rs ++ (status, body) ∷ []) (checkpoint_read status body)
    (λ (s : Stored). either (is_written p s.checkpoint) (phase_after_round p.is_full) WriteTarget (with_target_reread p s) (rs ++ (status, body) ∷ [])
    (rounded p.is_full (with_target_reread p s) (rs ++ (status, body) ∷ []) more) more)
answer_stands Done p rs status body e h =
    subst (λ (g : Phase). Standing g p (rs ++ (status, body) ∷ [])) (sym e) (start_more p.configuration.is_from_start rs ((status, body) ∷ []) p.start h)
answer_stands (Stopped why) p rs status body e h = subst (λ (g : Phase). Standing g p (rs ++ (status, body) ∷ [])) (sym e) tt

-- the same pass but for what the standing does not look at
loss_stands : (f : Phase) (p : Pass) (g : Phase) (n : ℕ) (rs : Taken) → Standing f p rs → Standing (phase_after_loss f) (record p { phase = g; losses = n }) rs
loss_stands ReadSource p g n rs h = h
loss_stands ReadTarget p g n rs h = h
loss_stands ListChanges p g n rs h = h
loss_stands Compare p g n rs h = h
loss_stands Open p g n rs h = h
loss_stands Push p g n rs h = h
loss_stands WriteSource p g n rs h = h
loss_stands WriteTarget p g n rs h = h
loss_stands RereadSource p g n rs h = h
loss_stands RereadTarget p g n rs h = h
loss_stands Done p g n rs h = h
loss_stands (Stopped why) p g n rs h = h

lost_stands : (p : Pass) (rs : Taken) → Standing p.phase p rs → Standing (lost_of p).phase (lost_of p) rs
lost_stands p rs h =
    lost_by (λ (q : Pass). Standing q.phase q rs) p.phase p h tt (loss_stands p.phase p (phase_after_loss p.phase) (p.losses + 1) rs h)

-- ---- the start that is reported

-- once changes are listed, the start by the replies; before, 0
abbrev Reported : Bool → Bool → Taken → ℕ → Type 0
Reported told false rs n = n ≡ 0
Reported told true rs n = IsStart told rs n

reported_more : (told b : Bool) (rs more : Taken) (n m : ℕ) → m ≡ n → Reported told b rs n → Reported told (b || false) (rs ++ more) m
reported_more told false rs more n m e h = e ∙ h
reported_more told true rs more n m e h = subst (λ (k : ℕ). IsStart told (rs ++ more) k) (sym e) (start_more told rs more n h)

-- a reply that keeps the reported start
same_start : {A : Type 0} (take : Pass → A → Pass) (p : Pass) (r : Result A Why) → ((a : A) → (take p a).start_seq ≡ p.start_seq) → (pass_after take p r).start_seq ≡ p.start_seq
same_start take p (Ok a) same = same a
same_start take p (Err why) same = refl

by_listing : (b : Bool) (p : Pass) (rs more : Taken) (r : Result Changes Why) → IsStart p.configuration.is_from_start rs p.start
    → Reported p.configuration.is_from_start b rs p.start_seq → Reported p.configuration.is_from_start (b || is_ok r) (rs ++ more) (pass_after with_changes p r).start_seq
by_listing true p rs more (Ok c) h k = start_more p.configuration.is_from_start rs more p.start h
by_listing false p rs more (Ok c) h k = start_more p.configuration.is_from_start rs more p.start h
by_listing b p rs more (Err why) h k = reported_more p.configuration.is_from_start b rs more p.start_seq p.start_seq refl k

answer_reports : (f : Phase) (p : Pass) (b : Bool) (rs : Taken) (status : ℕ) (body : List ℕ) → Standing f p rs → Reported p.configuration.is_from_start b rs p.start_seq
    → Reported p.configuration.is_from_start (b || lists_in f p status body) (rs ++ (status, body) ∷ []) (answered_in f p status body).start_seq
answer_reports f p b rs status body h k = by f h
  where
    kept : (n : ℕ) → n ≡ p.start_seq → Reported p.configuration.is_from_start (b || false) (rs ++ (status, body) ∷ []) n
    kept n e = reported_more p.configuration.is_from_start b rs ((status, body) ∷ []) p.start_seq n e k

    by : (f : Phase) → Standing f p rs → Reported p.configuration.is_from_start (b || lists_in f p status body) (rs ++ (status, body) ∷ []) (answered_in f p status body).start_seq
    by ReadSource h = kept _ (same_start with_source p (checkpoint_read status body) (λ a. refl))
    by ReadTarget h = kept _ (same_start with_target p (checkpoint_read status body) (λ a. refl))
    by ListChanges h = by_listing b p rs ((status, body) ∷ []) (list_taken p status body) h k
    by Compare h = kept _ (same_start with_lacking p (differences_read p.leaves status body) (λ a. refl))
    by Open h = kept _ (same_start with_opened p (opened_taken p status body) (λ a. refl))
    by Push h = kept _ (same_start with_failures p (failures_taken p status body) (λ a. refl))
    by WriteSource h = kept _ (same_start with_source_written p (checkpoint_written status body) (λ a. refl))
    by WriteTarget h = kept _ (same_start with_target_written p (checkpoint_written status body) (λ a. refl))
    by RereadSource h = kept _ (same_start with_source_reread p (checkpoint_read status body) (λ a. refl))
    by RereadTarget h = kept _ (same_start with_target_reread p (checkpoint_read status body) (λ a. refl))
    by Done h = kept p.start_seq refl
    by (Stopped why) h = kept p.start_seq refl

lost_reports : (p : Pass) (b : Bool) (rs : Taken) → Reported p.configuration.is_from_start b rs p.start_seq
    → Reported p.configuration.is_from_start (b || false) rs (lost_of p).start_seq
lost_reports p b rs k = lost_by (λ (q : Pass). Reported p.configuration.is_from_start (b || false) rs q.start_seq) p.phase p same same same
  where
    by : (b : Bool) → Reported p.configuration.is_from_start b rs p.start_seq → Reported p.configuration.is_from_start (b || false) rs p.start_seq
    by true k = k
    by false k = k

    same : Reported p.configuration.is_from_start (b || false) rs p.start_seq
    same = by b k

-- ---- what the pass was told stays

same_told : {A : Type 0} (take : Pass → A → Pass) (p : Pass) (r : Result A Why) → ((a : A) → (take p a).configuration ≡ p.configuration)
    → (pass_after take p r).configuration ≡ p.configuration
same_told take p (Ok a) same = same a
same_told take p (Err why) same = refl

-- no answer changes the configuration
pub answered_configured : (f : Phase) (p : Pass) (status : ℕ) (body : List ℕ) → (answered_in f p status body).configuration ≡ p.configuration
answered_configured ReadSource p status body = same_told with_source p (checkpoint_read status body) (λ a. refl)
answered_configured ReadTarget p status body = same_told with_target p (checkpoint_read status body) (λ a. refl)
answered_configured ListChanges p status body = same_told with_changes p (list_taken p status body) (λ a. refl)
answered_configured Compare p status body = same_told with_lacking p (differences_read p.leaves status body) (λ a. refl)
answered_configured Open p status body = same_told with_opened p (opened_taken p status body) (λ a. refl)
answered_configured Push p status body = same_told with_failures p (failures_taken p status body) (λ a. refl)
answered_configured WriteSource p status body = same_told with_source_written p (checkpoint_written status body) (λ a. refl)
answered_configured WriteTarget p status body = same_told with_target_written p (checkpoint_written status body) (λ a. refl)
answered_configured RereadSource p status body = same_told with_source_reread p (checkpoint_read status body) (λ a. refl)
answered_configured RereadTarget p status body = same_told with_target_reread p (checkpoint_read status body) (λ a. refl)
answered_configured Done p status body = refl
answered_configured (Stopped why) p status body = refl

-- nor does a loss
pub lost_configured : (p : Pass) → (lost_of p).configuration ≡ p.configuration
lost_configured p = lost_by (λ (q : Pass). q.configuration ≡ p.configuration) p.phase p refl refl refl

-- ---- turn by turn

or_assoc : (a b c : Bool) → ((a || b) || c) ≡ (a || (b || c))
or_assoc true b c = refl
or_assoc false b c = refl

or_none : (b : Bool) → (b || false) ≡ b
or_none true = refl
or_none false = refl

-- what is known of a pass of a configuration, and the start that it reports
abbrev Known : PassConfiguration → Pass → Bool → Taken → Type 0
Known c p b rs = (p.configuration ≡ c) × Standing p.phase p rs × Reported c.is_from_start b rs p.start_seq

known_on : (c d : PassConfiguration) (b : Bool) (rs : Taken) (n : ℕ) → c ≡ d → Reported c.is_from_start b rs n → Reported d.is_from_start b rs n
known_on c d b rs n e h = subst (λ (k : PassConfiguration). Reported k.is_from_start b rs n) e h

turns_report : (c : PassConfiguration) (p : Pass) (b : Bool) (rs : Taken) (ts : List Turn) → Known c p b rs
    → Reported c.is_from_start (b || has_listed p ts) (rs ++ replies_in ts) (after_turns p ts).start_seq
turns_report c p b rs [] h =
    let none : Reported c.is_from_start (b || false) rs p.start_seq = subst (λ (a : Bool). Reported c.is_from_start a rs p.start_seq) (sym (or_none b)) h.2 in
    subst (λ (xs : Taken). Reported c.is_from_start (b || false) xs p.start_seq) (sym (append-nil rs)) none
turns_report c p b rs (answered status body ∷ ts) h =
    let q = after_turn p (answered status body) in
    let one = lists_at p (answered status body) in
    let more = rs ++ (status, body) ∷ [] in
    let same : q.configuration ≡ p.configuration = answered_configured p.phase p status body in
    let known : Known c q (b || one) more = (
      same ∙ h.0,
      answer_stands p.phase p rs status body refl h.1,
      known_on p.configuration c (b || one) more q.start_seq h.0
          (answer_reports p.phase p b rs status body h.1 (known_on c p.configuration b rs p.start_seq (sym h.0) h.2)),
    ) in
    let on : Reported c.is_from_start ((b || one) || has_listed q ts) (more ++ replies_in ts) (after_turns q ts).start_seq = turns_report c q (b || one) more ts known in
    subst (λ (xs : Taken). Reported c.is_from_start (b || (one || has_listed q ts)) xs (after_turns q ts).start_seq) (append_assoc rs ((status, body) ∷ []) (replies_in ts))
    (subst (λ (a : Bool). Reported c.is_from_start a (more ++ replies_in ts) (after_turns q ts).start_seq) (or_assoc b one (has_listed q ts)) on)
turns_report c p b rs (lost ∷ ts) h =
    let q = lost_of p in
    let known : Known c q (b || false) rs = (
      lost_configured p ∙ h.0,
      lost_stands p rs h.1,
      known_on p.configuration c (b || false) rs q.start_seq h.0 (lost_reports p b rs (known_on c p.configuration b rs p.start_seq (sym h.0) h.2)),
    ) in
    subst (λ (a : Bool). Reported c.is_from_start a (rs ++ replies_in ts) (after_turns q ts).start_seq) (or_assoc b false (has_listed q ts))
    (turns_report c q (b || false) rs ts known)

reported : (c : PassConfiguration) (b : Bool) (rs : Taken) (n : ℕ) → Reported c.is_from_start b rs n → n ≡ cond b (start_by c rs) 0
reported c false rs n h = h
reported c true rs n h = h.is ∙ sym (ap (start_by c) h.are)

pub start_is : (c : PassConfiguration) (ts : List Turn) → (after_turns (first_pass c) ts).start_seq ≡ cond (has_listed (first_pass c) ts) (start_by c (replies_in ts)) 0
start_is c ts =
    reported c (has_listed (first_pass c) ts) (replies_in ts) (after_turns (first_pass c) ts).start_seq (turns_report c (first_pass c) false [] ts (refl, refl, refl))
