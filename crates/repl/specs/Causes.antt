-- Why a pass stops: which replies it expects, and how many losses it bears.
-- CouchDB manual, the pages of the calls, for statuses and bodies; how losses are counted is this project's own.
use Rattle.std.specs.Prelude.{◌≡◌, ℕ, ◌+◌, ◌==◌, ◌||◌, ◌&&◌, Bool, true, false, is_some, List, [], ◌∷◌, ◌++◌, Option, Some, None, option_and_then, if◌then◌else◌}
use Rattle.couch_json.specs.Value.{Value}
use Rattle.repl.specs.Passes.{Pass, answers_list, answers_open, answers_push, most_losses}
use Rattle.repl.specs.Replies.{changes_in_reply, differences_in_reply, failure_in, is_missing, opened_in, revision_in_reply, stored_in, value_in}
use Rattle.repl.specs.Shapes.{list_in}
use Rattle.repl.specs.Turns.{Turn, after_turns, answered, lost}
use Rattle.repl.specs.declared.phase.Phase.{Phase}
use Rattle.repl.specs.declared.phase.Phase.TheVariants.{ReadSource, ReadTarget, ListChanges, Compare, Open, Push, WriteSource, WriteTarget, RereadSource, RereadTarget, Done, Stopped}
use Rattle.repl.specs.declared.why.Why.{Why}
use Rattle.repl.specs.declared.why.Why.TheVariants.{Lost, Status, Reply}

-- ---- the replies that are expected

-- there is no checkpoint
abbrev pub says_none : ℕ → List ℕ → Bool
says_none status body = status == 404 && is_missing body

-- a reply of this status to a call in a phase is expected: 200 or 201, and to a read of a checkpoint also that there is none
abbrev pub expects : Phase → ℕ → List ℕ → Bool
expects ReadSource status body = status == 200 || says_none status body
expects ReadTarget status body = status == 200 || says_none status body
expects ListChanges status body = status == 200
expects Compare status body = status == 200
expects Open status body = status == 200
expects Push status body = status == 201
expects WriteSource status body = status == 201
expects WriteTarget status body = status == 201
expects RereadSource status body = status == 200 || says_none status body
expects RereadTarget status body = status == 200 || says_none status body
expects Done status body = true
expects (Stopped why) status body = true

-- a body is a text of JSON, and its value has this shape
abbrev pub is_of : {A : Type 0} → (Value → Option A) → List ℕ → Bool
is_of shape body = is_some (option_and_then (λ v. shape v) (value_in body))

-- what a shape says, where it answers what was asked
abbrev pub shape_within : {A : Type 0} → (A → Bool) → Option A → Option A
shape_within answers None = None
shape_within answers (Some a) = if answers a then Some a else None

-- the body has the shape that a phase asks for, and doesn't go beyond what was asked
abbrev pub has_shape : Phase → Pass → ℕ → List ℕ → Bool
has_shape ReadSource p status body = says_none status body || is_of stored_in body
has_shape ReadTarget p status body = says_none status body || is_of stored_in body
has_shape ListChanges p status body = is_of (λ v. shape_within (λ c. answers_list p c) (changes_in_reply v)) body
has_shape Compare p status body = is_of (λ v. differences_in_reply p.leaves v) body
has_shape Open p status body = is_of (λ v. shape_within (λ opened. answers_open p opened) (list_in opened_in v)) body
has_shape Push p status body = is_of (λ v. shape_within (λ failures. answers_push p failures) (list_in failure_in v)) body
has_shape WriteSource p status body = is_of revision_in_reply body
has_shape WriteTarget p status body = is_of revision_in_reply body
has_shape RereadSource p status body = says_none status body || is_of stored_in body
has_shape RereadTarget p status body = says_none status body || is_of stored_in body
has_shape Done p status body = true
has_shape (Stopped why) p status body = true

-- ---- the causes

-- how many turns were losses
abbrev pub losses_in : List Turn → ℕ
losses_in [] = 0
losses_in (answered status body ∷ ts) = losses_in ts
losses_in (lost ∷ ts) = losses_in ts + 1

-- a reply stops a pass for this: its status is not expected, or it is, but the body has not the shape
abbrev pub IsFault : Why → ℕ → Bool → Bool → Type 0
IsFault (Status n) status expected shaped = (n ≡ status) × (expected ≡ false)
IsFault Reply status expected shaped = (expected ≡ true) × (shaped ≡ false)
IsFault Lost status expected shaped = ⊥

-- a turn, after others, stops the pass for this: a reply that is not expected, or one loss more than a pass bears
abbrev pub IsCause : Why → Pass → List Turn → Turn → Type 0
IsCause why p before (answered status body) = IsFault why status (expects p.phase status body) (has_shape p.phase p status body)
IsCause why p before lost = (why ≡ Lost) × (losses_in before ≡ most_losses)

-- one of these turns is the cause
pub record IsStoppedBy (p : Pass) (why : Why) (ts : List Turn) : Type 0 where
  pub before : List Turn
  pub turn : Turn
  pub rest : List Turn
  pub order : ts ≡ before ++ turn ∷ rest
  pub is_cause : IsCause why (after_turns p before) before turn
