-- Why a pass stops.
use Rattle.std.proofs.Common.{◌≡◌, ◌∙◌, ℕ, ◌+◌, ◌≤◌, ◌==◌, ◌||◌, ◌&&◌, Bool, true, false, cond, is_some, List, [], ◌∷◌, ◌++◌, Option, Some, None, Result, Ok, Err, append_assoc, leb, leb-true, leb-false, refl, sym, ap, subst, arith}
use Rattle.std.specs.Prelude.{⊤, option_and_then}
use Rattle.couch_json.specs.Value.{Value}
use Rattle.repl.specs.Calls.{Revisions}
use Rattle.repl.specs.Configuration.{PassConfiguration}
use Rattle.repl.specs.Passes.{Pass, answered_in, answered_of, answers_list, answers_open, answers_push, failures_taken, first_pass, list_taken, opened_taken, where_answers, is_written, lost_in, lost_of, most_losses, pass_after, phase_after_list, phase_after_loss, phase_after_round, phase_with, stopped_at, with_changes, with_lacking, with_failures, with_loss, with_opened, with_source, with_source_reread, with_source_written, with_target, with_target_reread, with_target_written}
use Rattle.repl.specs.Replies.{changes_in_reply, checkpoint_read, checkpoint_written, differences_in_reply, differences_read, documents_of_opened, failure_in, is_missing, nothing_stored, opened_in, revision_in_reply, said_at, said_or_reply, stored_in, value_in}
use Rattle.repl.specs.Shapes.{list_in}
use Rattle.repl.specs.Causes.{IsStoppedBy, IsCause, IsFault, expects, has_shape, is_of, losses_in, says_none, shape_within}
use Rattle.repl.specs.Turns.{Turn, after_turn, after_turns, answered, lost}
use Rattle.repl.specs.declared.phase.Phase.{Phase}
use Rattle.repl.specs.declared.phase.Phase.TheVariants.{ReadSource, ReadTarget, ListChanges, Compare, Open, Push, WriteSource, WriteTarget, RereadSource, RereadTarget, Done, Stopped}
use Rattle.repl.specs.declared.why.Why.{Why}
use Rattle.repl.specs.declared.why.Why.TheVariants.{Lost, Status, Reply}

abbrev is_stopped : Phase → Bool
is_stopped ReadSource = false
is_stopped ReadTarget = false
is_stopped ListChanges = false
is_stopped Compare = false
is_stopped Open = false
is_stopped Push = false
is_stopped WriteSource = false
is_stopped WriteTarget = false
is_stopped RereadSource = false
is_stopped RereadTarget = false
is_stopped Done = false
is_stopped (Stopped why) = true

-- ---- what a reply says that is not expected

abbrev fine : {A : Type 0} → A → Result A Why
fine a = Ok a

abbrev ill : {A : Type 0} → Why → Result A Why
ill why = Err why

same_fault : {A : Type 0} (v w : Why) → ill {A = A} v ≡ ill w → v ≡ w
same_fault v w e = cc

never : {A : Type 0} (a : A) (w : Why) → fine a ≡ ill w → ⊥
never a w e = cc

fault_of : {A : Type 0} (status : ℕ) (b : Bool) (o : Option A) (why : Why) → cond b (said_or_reply o) (Err (Status status)) ≡ Err why → IsFault why status b (is_some o)
fault_of {A} status true None why e = subst (λ (w : Why). IsFault w status true false) (same_fault {A = A} Reply why e) (refl, refl)
fault_of {A} status true (Some a) why e = absurd (never a why e)
fault_of {A} status false o why e = subst (λ (w : Why). IsFault w status false (is_some o)) (same_fault {A = A} (Status status) why e) (refl, refl)

said_fault : {A : Type 0} (expected : ℕ) (shape : Value → Option A) (status : ℕ) (body : List ℕ) (why : Why) → said_at expected shape status body ≡ Err why
    → IsFault why status (status == expected) (is_of shape body)
said_fault expected shape status body why e = fault_of status (status == expected) (option_and_then (λ v. shape v) (value_in body)) why e

checkpoint_fault : (status : ℕ) (body : List ℕ) (why : Why) → checkpoint_read status body ≡ Err why → IsFault why status ((status == 200 || says_none status body)) ((says_none status body || is_of stored_in body))
checkpoint_fault status body why e = by (status == 404 && is_missing body) (status == 200) refl (said_fault 200 stored_in status body why) e
  where
    by : (m b : Bool) → (status == 200) ≡ b → (said_at 200 stored_in status body ≡ Err why → IsFault why status (status == 200) (is_of stored_in body))
        → cond m (Ok nothing_stored) (said_at 200 stored_in status body) ≡ Err why → IsFault why status (b || m) (m || is_of stored_in body)
    by true b is h k = absurd (never nothing_stored why k)
    by false true is h k = subst (λ (x : Bool). IsFault why status x (is_of stored_in body)) is (h k)
    by false false is h k = subst (λ (x : Bool). IsFault why status x (is_of stored_in body)) is (h k)

-- a value of a shape that doesn't answer what was asked is of another shape
within_fault : {A : Type 0} (answers : A → Bool) (status : ℕ) (b : Bool) (o : Option A) (why : Why)
    → where_answers answers (cond b (said_or_reply o) (Err (Status status))) ≡ Err why → IsFault why status b (is_some (shape_within answers o))
within_fault answers status true None why e = fault_of {A = ⊤} status true None why (ap (λ (w : Why). ill {A = ⊤} w) (same_fault Reply why e))
within_fault {A} answers status true (Some a) why e = by (answers a) e
  where
    by : (b : Bool) → cond b (fine a) (ill Reply) ≡ ill why → IsFault why status true (is_some (cond b (Some a) None))
    by true k = absurd (never a why k)
    by false k = subst (λ (w : Why). IsFault w status true false) (same_fault {A = A} Reply why k) (refl, refl)
within_fault {A} answers status false o why e = subst (λ (w : Why). IsFault w status false (is_some (shape_within answers o))) (same_fault {A = A} (Status status) why e) (refl, refl)

then_within : {A : Type 0} (answers : A → Bool) (shape : Value → Option A) (o : Option Value)
    → shape_within answers (option_and_then (λ v. shape v) o) ≡ option_and_then (λ v. shape_within answers (shape v)) o
then_within answers shape None = refl
then_within answers shape (Some v) = refl

taken_fault : {A : Type 0} (answers : A → Bool) (expected : ℕ) (shape : Value → Option A) (status : ℕ) (body : List ℕ) (why : Why)
    → where_answers answers (said_at expected shape status body) ≡ Err why → IsFault why status (status == expected) (is_of (λ v. shape_within answers (shape v)) body)
taken_fault {A} answers expected shape status body why e =
    subst (λ (o : Option A). IsFault why status (status == expected) (is_some o)) (then_within answers shape (value_in body))
    (within_fault answers status (status == expected) (option_and_then (λ v. shape v) (value_in body)) why e)

-- ---- what becomes of a reply

-- the pass stopped because of this reply, or goes on with its losses
data Came (q : Pass) (status : ℕ) (expected shaped : Bool) (losses : ℕ) : Type 0 where
  stops : (why : Why) → q.phase ≡ Stopped why → IsFault why status expected shaped → Came q status expected shaped losses
  goes : is_stopped q.phase ≡ false → q.losses ≡ losses → Came q status expected shaped losses

came : {A : Type 0} (take : Pass → A → Pass) (p : Pass) (r : Result A Why) (status : ℕ) (expected shaped : Bool) → ((why : Why) → r ≡ Err why → IsFault why status expected shaped)
    → ((a : A) → is_stopped (take p a).phase ≡ false) → ((a : A) → (take p a).losses ≡ p.losses) → Came (pass_after take p r) status expected shaped p.losses
came take p (Ok a) status expected shaped fault going same = goes (going a) (same a)
came take p (Err why) status expected shaped fault going same = stops why refl (fault why refl)

after_list : (ls : List Revisions) → is_stopped (phase_after_list ls) ≡ false
after_list [] = refl
after_list (l ∷ ls) = refl

after_some : (missing : List Revisions) (documents : List Value) → is_stopped (phase_with missing documents) ≡ false
after_some [] [] = refl
after_some [] (v ∷ vs) = refl
after_some (m ∷ ms) documents = refl

after_round : (b : Bool) → is_stopped (phase_after_round b) ≡ false
after_round true = refl
after_round false = refl

either : (b : Bool) (f g : Phase) → is_stopped f ≡ false → is_stopped g ≡ false → is_stopped (cond b f g) ≡ false
either true f g h k = h
either false f g h k = k

answer_came : (f : Phase) (p : Pass) (status : ℕ) (body : List ℕ) → p.phase ≡ f → is_stopped f ≡ false → Came (answered_in f p status body) status (expects f status body) (has_shape f p status body) p.losses
answer_came ReadSource p status body e going = came with_source p (checkpoint_read status body) status _ _ (checkpoint_fault status body) (λ a. refl) (λ a. refl)
answer_came ReadTarget p status body e going = came with_target p (checkpoint_read status body) status _ _ (checkpoint_fault status body) (λ a. refl) (λ a. refl)
answer_came ListChanges p status body e going =
    came with_changes p (list_taken p status body) status _ _ (taken_fault (λ c. answers_list p c) 200 changes_in_reply status body) (λ a. after_list a.leaves) (λ a. refl)
answer_came Compare p status body e going =
    came with_lacking p (differences_read p.leaves status body) status _ _ (said_fault 200 (λ v. differences_in_reply p.leaves v) status body) (λ a. after_some a p.documents) (λ a. refl)
answer_came Open p status body e going =
    came with_opened p (opened_taken p status body) status _ _ (taken_fault (λ opened. answers_open p opened) 200 (λ v. list_in opened_in v) status body) (λ a. after_some _ (p.documents ++ documents_of_opened a)) (λ a. refl)
answer_came Push p status body e going =
    came with_failures p (failures_taken p status body) status _ _ (taken_fault (λ failures. answers_push p failures) 201 (λ v. list_in failure_in v) status body) (λ a. refl) (λ a. refl)
answer_came WriteSource p status body e going = came with_source_written p (checkpoint_written status body) status _ _ (said_fault 201 revision_in_reply status body) (λ a. refl) (λ a. refl)
answer_came WriteTarget p status body e going = came with_target_written p (checkpoint_written status body) status _ _ (said_fault 201 revision_in_reply status body) (λ a. after_round p.is_full) (λ a. refl)
answer_came RereadSource p status body e going =
    came with_source_reread p (checkpoint_read status body) status _ _ (checkpoint_fault status body) (λ a. either (is_written p a.checkpoint) WriteTarget WriteSource refl refl) (λ a. refl)
answer_came RereadTarget p status body e going =
    came with_target_reread p (checkpoint_read status body) status _ _ (checkpoint_fault status body) (λ a. either (is_written p a.checkpoint) (phase_after_round p.is_full) WriteTarget (after_round p.is_full) refl) (λ a. refl)
answer_came Done p status body e going = goes (ap is_stopped e) refl
answer_came (Stopped why) p status body e going = absurd cc

-- ---- turn by turn

-- the pass goes on, and counted each miss; of one that is done nothing is counted
abbrev Going : Phase → Pass → ℕ → Type 0
Going ReadSource p n = (p.losses ≡ n) × (n ≤ most_losses)
Going ReadTarget p n = (p.losses ≡ n) × (n ≤ most_losses)
Going ListChanges p n = (p.losses ≡ n) × (n ≤ most_losses)
Going Compare p n = (p.losses ≡ n) × (n ≤ most_losses)
Going Open p n = (p.losses ≡ n) × (n ≤ most_losses)
Going Push p n = (p.losses ≡ n) × (n ≤ most_losses)
Going WriteSource p n = (p.losses ≡ n) × (n ≤ most_losses)
Going WriteTarget p n = (p.losses ≡ n) × (n ≤ most_losses)
Going RereadSource p n = (p.losses ≡ n) × (n ≤ most_losses)
Going RereadTarget p n = (p.losses ≡ n) × (n ≤ most_losses)
Going Done p n = ⊤
Going (Stopped why) p n = ⊥

going_by : (f : Phase) (p : Pass) (n : ℕ) → is_stopped f ≡ false → p.losses ≡ n → n ≤ most_losses → Going f p n
going_by ReadSource p n e same few = (same, few)
going_by ReadTarget p n e same few = (same, few)
going_by ListChanges p n e same few = (same, few)
going_by Compare p n e same few = (same, few)
going_by Open p n e same few = (same, few)
going_by Push p n e same few = (same, few)
going_by WriteSource p n e same few = (same, few)
going_by WriteTarget p n e same few = (same, few)
going_by RereadSource p n e same few = (same, few)
going_by RereadTarget p n e same few = (same, few)
going_by Done p n e same few = tt
going_by (Stopped why) p n e same few = absurd cc

data State (f : Phase) (p : Pass) (n : ℕ) : Type 0 where
  is_done : f ≡ Done → State f p n
  works : is_stopped f ≡ false → p.losses ≡ n → n ≤ most_losses → ((q : Pass) → lost_in f q ≡ with_loss q) → is_stopped (phase_after_loss f) ≡ false → State f p n

state_of : (f : Phase) (p : Pass) (n : ℕ) → Going f p n → State f p n
state_of ReadSource p n h = works refl h.0 h.1 (λ q. refl) refl
state_of ReadTarget p n h = works refl h.0 h.1 (λ q. refl) refl
state_of ListChanges p n h = works refl h.0 h.1 (λ q. refl) refl
state_of Compare p n h = works refl h.0 h.1 (λ q. refl) refl
state_of Open p n h = works refl h.0 h.1 (λ q. refl) refl
state_of Push p n h = works refl h.0 h.1 (λ q. refl) refl
state_of WriteSource p n h = works refl h.0 h.1 (λ q. refl) refl
state_of WriteTarget p n h = works refl h.0 h.1 (λ q. refl) refl
state_of RereadSource p n h = works refl h.0 h.1 (λ q. refl) refl
state_of RereadTarget p n h = works refl h.0 h.1 (λ q. refl) refl
state_of Done p n h = is_done refl
state_of (Stopped why) p n h = absurd h

-- a turn stops the pass, or it goes on
data Turned (q : Pass) (n : ℕ) (cause : Why → Type 0) : Type 0 where
  halts : (why : Why) → q.phase ≡ Stopped why → cause why → Turned q n cause
  lives : Going q.phase q n → Turned q n cause

answered_turn : (p : Pass) (n status : ℕ) (body : List ℕ) → Going p.phase p n
    → Turned (answered_of p status body) n (λ why. IsFault why status (expects p.phase status body) (has_shape p.phase p status body))
answered_turn p n status body h = by (state_of p.phase p n h)
  where
    on : p.losses ≡ n → n ≤ most_losses → Came (answered_of p status body) status (expects p.phase status body) (has_shape p.phase p status body) p.losses
        → Turned (answered_of p status body) n (λ why. IsFault why status (expects p.phase status body) (has_shape p.phase p status body))
    on same few (stops why is fault) = halts why is fault
    on same few (goes going kept) = lives (going_by (answered_of p status body).phase (answered_of p status body) n going (kept ∙ same) few)

    by : State p.phase p n → Turned (answered_of p status body) n (λ why. IsFault why status (expects p.phase status body) (has_shape p.phase p status body))
    by (is_done e) =
        let kept : answered_of p status body ≡ p = ap (λ (f : Phase). answered_in f p status body) e in
        lives (subst (λ (q : Pass). Going q.phase q n) (sym kept) h)
    by (works going same few loses onward) = on same few (answer_came p.phase p status body refl going)

lost_turn : (p : Pass) (n : ℕ) → Going p.phase p n → Turned (lost_of p) (n + 1) (λ why. (why ≡ Lost) × (n ≡ most_losses))
lost_turn p n h = by (state_of p.phase p n h)
  where
    on : (b : Bool) → leb most_losses p.losses ≡ b → p.losses ≡ n → n ≤ most_losses → is_stopped (phase_after_loss p.phase) ≡ false
        → Turned (cond b (stopped_at p Lost) (record p { phase = phase_after_loss p.phase; losses = p.losses + 1 })) (n + 1) (λ why. (why ≡ Lost) × (n ≡ most_losses))
    on true e same few onward = halts Lost refl (refl, omega (arith, leb-true most_losses p.losses e, same, few))
    on false e same few onward =
        lives (going_by (phase_after_loss p.phase) (record p { phase = phase_after_loss p.phase; losses = p.losses + 1 }) (n + 1) onward (omega (arith, same)) (omega (arith, leb-false most_losses p.losses e, same)))

    by : State p.phase p n → Turned (lost_of p) (n + 1) (λ why. (why ≡ Lost) × (n ≡ most_losses))
    by (is_done e) =
        let kept : lost_of p ≡ p = ap (λ (f : Phase). lost_in f p) e in
        lives (subst (λ (q : Pass). Going q.phase q (n + 1)) (sym kept) (subst (λ (f : Phase). Going f p (n + 1)) (sym e) tt))
    by (works going same few loses onward) =
        subst (λ (q : Pass). Turned q (n + 1) (λ why. (why ≡ Lost) × (n ≡ most_losses))) (sym (loses p)) (on (leb most_losses p.losses) refl same few onward)

losses_more : (ts us : List Turn) → losses_in (ts ++ us) ≡ losses_in ts + losses_in us
losses_more [] us = omega arith
losses_more (answered status body ∷ ts) us = losses_more ts us
losses_more (lost ∷ ts) us = omega (arith, losses_more ts us)

turns_more : (p : Pass) (ts us : List Turn) → after_turns p (ts ++ us) ≡ after_turns (after_turns p ts) us
turns_more p [] us = refl
turns_more p (t ∷ ts) us = turns_more (after_turn p t) ts us

one_turn : (c : Pass) (before : List Turn) (t : Turn) → Going (after_turns c before).phase (after_turns c before) (losses_in before)
    → Turned (after_turn (after_turns c before) t) (losses_in (before ++ t ∷ [])) (λ why. IsCause why (after_turns c before) before t)
one_turn c before (answered status body) h =
    let same : losses_in (before ++ answered status body ∷ []) ≡ losses_in before = omega (arith, losses_more before (answered status body ∷ [])) in
    let p = after_turns c before in
    subst (λ (n : ℕ). Turned (answered_of p status body) n (λ why. IsFault why status (expects p.phase status body) (has_shape p.phase p status body))) (sym same)
    (answered_turn p (losses_in before) status body h)
one_turn c before lost h =
    let same : losses_in (before ++ lost ∷ []) ≡ losses_in before + 1 = omega (arith, losses_more before (lost ∷ [])) in
    let p = after_turns c before in
    subst (λ (n : ℕ). Turned (lost_of p) n (λ why. (why ≡ Lost) × (losses_in before ≡ most_losses))) (sym same) (lost_turn p (losses_in before) h)

still : (p : Pass) (why : Why) (t : Turn) → p.phase ≡ Stopped why → after_turn p t ≡ p
still p why (answered status body) e = ap (λ (f : Phase). answered_in f p status body) e
still p why lost e = ap (λ (f : Phase). lost_in f p) e

stays : (p : Pass) (why : Why) (ts : List Turn) → p.phase ≡ Stopped why → after_turns p ts ≡ p
stays p why [] e = refl
stays p why (t ∷ ts) e =
    let same = still p why t e in
    ap (λ (q : Pass). after_turns q ts) same ∙ stays p why ts e

going_on : (p : Pass) (n : ℕ) (why : Why) → Going p.phase p n → p.phase ≡ Stopped why → ⊥
going_on p n why h e = subst (λ (f : Phase). Going f p n) e h

same_why : (a b : Why) → Stopped a ≡ Stopped b → a ≡ b
same_why a b e = cc

stopped_from : (c : Pass) (before ts : List Turn) (why : Why) → Going (after_turns c before).phase (after_turns c before) (losses_in before)
    → (after_turns (after_turns c before) ts).phase ≡ Stopped why → IsStoppedBy c why (before ++ ts)
stopped_from c before [] why h e = absurd (going_on (after_turns c before) (losses_in before) why h e)
stopped_from c before (t ∷ ts) why h e =
    by (one_turn c before t h) (λ (g : Going (after_turns c (before ++ t ∷ [])).phase (after_turns c (before ++ t ∷ [])) (losses_in (before ++ t ∷ []))) (k : (after_turns (after_turns c (before ++ t ∷ [])) ts).phase ≡ Stopped why).
    stopped_from c (before ++ t ∷ []) ts why g k)
  where
    by : Turned (after_turn (after_turns c before) t) (losses_in (before ++ t ∷ [])) (λ why. IsCause why (after_turns c before) before t) → (Going (after_turns c (before ++ t ∷ [])).phase (after_turns c (before ++ t ∷ [])) (losses_in (before ++ t ∷ [])) → (after_turns (after_turns c (before ++ t ∷ [])) ts).phase ≡ Stopped why → IsStoppedBy c why ((before ++ t ∷ []) ++ ts)) → IsStoppedBy c why (before ++ t ∷ ts)
    by (halts first is cause) onward =
        let q = after_turn (after_turns c before) t in
        let kept : (after_turns q ts).phase ≡ q.phase = ap (λ (p : Pass). p.phase) (stays q first ts is) in
        let same : first ≡ why = same_why first why (sym is ∙ sym kept ∙ e) in
        record { before = before; turn = t; rest = ts; order = refl; is_cause = subst (λ (w : Why). IsCause w (after_turns c before) before t) same cause }
    by (lives going) onward =
        let one : after_turns c (before ++ t ∷ []) ≡ after_turn (after_turns c before) t = turns_more c before (t ∷ []) in
        let order : (before ++ t ∷ []) ++ ts ≡ before ++ t ∷ ts = append_assoc before (t ∷ []) ts in
        subst (λ (us : List Turn). IsStoppedBy c why us) order
        (onward (subst (λ (q : Pass). Going q.phase q (losses_in (before ++ t ∷ []))) (sym one) going)
        (ap (λ (q : Pass). (after_turns q ts).phase) one ∙ e))

pub stop_cause : (c : PassConfiguration) (ts : List Turn) (why : Why) → (after_turns (first_pass c) ts).phase ≡ Stopped why → IsStoppedBy (first_pass c) why ts
stop_cause c ts why e = stopped_from (first_pass c) [] ts why (refl, omega arith) e
