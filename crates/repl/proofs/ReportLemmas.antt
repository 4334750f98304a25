-- What a pass reports after several turns.
use Rattle.std.proofs.Common.{◌≡◌, ◌∙◌, ℕ, List, [], ◌∷◌, ◌++◌, Result, Ok, Err, append_assoc, append-nil, refl, sym, ap}
use Rattle.couch_json.specs.Value.{Value}
use Rattle.repl.specs.Configuration.{PassConfiguration}
use Rattle.repl.specs.Passes.{Pass, answered_in, failures_taken, first_of_pending, first_pass, list_taken, opened_taken, pass_after, with_changes, with_lacking, with_failures, with_opened, with_source, with_source_reread, with_source_written, with_target, with_target_reread, with_target_written}
use Rattle.repl.specs.Replies.{checkpoint_read, checkpoint_written, differences_read, missing_reports}
use Rattle.repl.specs.Turns.{Turn, after_turn, after_turns, answered, lost, told_at, told_in, told_of, where_said}
use Rattle.repl.specs.declared.phase.Phase.{Phase}
use Rattle.repl.specs.declared.phase.Phase.TheVariants.{ReadSource, ReadTarget, ListChanges, Compare, Open, Push, WriteSource, WriteTarget, RereadSource, RereadTarget, Done, Stopped}
use Rattle.repl.specs.declared.why.Why.{Why}
use Rattle.repl.proofs.LossLemmas.{lost_by}

told_none : {A : Type 0} (take : Pass → A → Pass) (p : Pass) (r : Result A Why) → ((a : A) → (take p a).refused ≡ p.refused) → (pass_after take p r).refused ≡ p.refused ++ []
told_none take p (Ok a) same = same a ∙ sym (append-nil p.refused)
told_none take p (Err why) same = sym (append-nil p.refused)

told_some : {A : Type 0} (take : Pass → A → Pass) (p : Pass) (r : Result A Why) (report : A → List Value) → ((a : A) → (take p a).refused ≡ p.refused ++ report a)
    → (pass_after take p r).refused ≡ p.refused ++ where_said report r
told_some take p (Ok a) report same = same a
told_some take p (Err why) report same = sym (append-nil p.refused)

answer_told : (f : Phase) (p : Pass) (status : ℕ) (body : List ℕ) → (answered_in f p status body).refused ≡ p.refused ++ told_in f p status body
answer_told ReadSource p status body = told_none with_source p (checkpoint_read status body) (λ s. refl)
answer_told ReadTarget p status body = told_none with_target p (checkpoint_read status body) (λ s. refl)
answer_told ListChanges p status body = told_none with_changes p (list_taken p status body) (λ c. refl)
answer_told Compare p status body = told_none with_lacking p (differences_read p.leaves status body) (λ m. refl)
answer_told Open p status body = told_some with_opened p (opened_taken p status body) (λ opened. missing_reports (first_of_pending p.pending).id opened) (λ o. refl)
answer_told Push p status body = told_some with_failures p (failures_taken p status body) (λ failures. failures) (λ fs. refl)
answer_told WriteSource p status body = told_none with_source_written p (checkpoint_written status body) (λ r. refl)
answer_told WriteTarget p status body = told_none with_target_written p (checkpoint_written status body) (λ r. refl)
answer_told RereadSource p status body = told_none with_source_reread p (checkpoint_read status body) (λ s. refl)
answer_told RereadTarget p status body = told_none with_target_reread p (checkpoint_read status body) (λ s. refl)
answer_told Done p status body = sym (append-nil p.refused)
answer_told (Stopped why) p status body = sym (append-nil p.refused)

turn_told : (p : Pass) (t : Turn) → (after_turn p t).refused ≡ p.refused ++ told_at p t
turn_told p (answered status body) = answer_told p.phase p status body
turn_told p lost =
    let same : p.refused ≡ p.refused ++ [] = sym (append-nil p.refused) in
    lost_by (λ (q : Pass). q.refused ≡ p.refused ++ []) p.phase p same same same

turns_told : (p : Pass) (ts : List Turn) → (after_turns p ts).refused ≡ p.refused ++ told_of p ts
turns_told p [] = sym (append-nil p.refused)
turns_told p (t ∷ ts) =
    turns_told (after_turn p t) ts ∙ ap (λ (xs : List Value). xs ++ told_of (after_turn p t) ts) (turn_told p t)
    ∙ append_assoc p.refused (told_at p t) (told_of (after_turn p t) ts)

pub all_told : (c : PassConfiguration) (ts : List Turn) → (after_turns (first_pass c) ts).refused ≡ told_of (first_pass c) ts
all_told c ts = turns_told (first_pass c) ts
