-- What a pass keeps in hand can be asked: its texts are UTF-8, its documents are lawful, and its sequences are counts.
use Rattle.std.proofs.Common.{◌≡◌, ◌≤◌, ◌<◌, ◌==◌, ◌&&◌, inl, inr, ℕ, Bool, true, false, cond, List, [], ◌∷◌, ◌++◌, drop, Option, Some, None, Result, Ok, Err, codes, refl, sym, ap, ◌∙◌, subst, arith}
use Rattle.std.specs.Prelude.{IfSome}
use Rattle.std.specs.List.{All, AllByRecursion}
use Rattle.std.proofs.lemmas.Str.{IsUtf8-nil}
use Rattle.json.proofs.Printed.Utf8.{IsUtf8-are_ascii}
use Rattle.auth.specs.Callers as auth
use Rattle.couch_http.specs.Message.{Message}
use Rattle.couch_http.specs.Reply.{Reply}
use Rattle.couch_json.specs.Canonical.{canonical}
use Rattle.couch_json.specs.Lawful.{AreLawfulItems, IsLawful}
use Rattle.couch_json.specs.Range.{greatest_count}
use Rattle.couch_json.specs.Reading.{reading}
use Rattle.couch_json.specs.Value.{Members, Value, no_members, object}
use Rattle.couch_json.specs.View.{items_of}
use Rattle.couch_json.proofs.ReadingBack.{what_was_read}
use Rattle.store.specs.Contents.{Contents}
use Rattle.node.specs.Answer.{answer}
use Rattle.node.specs.Runs.{Steps}
use Rattle.repl.specs.Calls.{Revisions, documents_value, revisions_put, revisions_value, texts_value}
use Rattle.repl.specs.Checkpoints.{Checkpoint, checkpoint_in}
use Rattle.repl.specs.Configuration.{PassConfiguration}
use Rattle.repl.specs.Passes.{Pass, first_of_pending, first_pass, lost_of, pass_after, with_changes, with_lacking, with_failures, with_opened, with_source, with_target, with_target_reread, with_target_written}
use Rattle.repl.specs.Replies.{Changes, Opened, Stored, checkpoint_read, documents_of_opened, is_missing, nothing_stored, said_at, stored_by, stored_in}
use Rattle.repl.specs.Shapes.{text_at}
use Rattle.repl.specs.declared.why.Why.{Why}
use Rattle.repl.proofs.LossLemmas.{lost_by}
use Rattle.passes.specs.Owed.{AreDistinct}
use Rattle.passes.proofs.Told.{Said, fine, said}
use Rattle.couch_json.proofs.LawfulParts.{put_lawful}
use Rattle.replication.proofs.LawfulParts.{text_is_bytes, written_list, lawful_texts}
use Rattle.replication.proofs.Shapes.{AreCounts, AreRead, AreTexts, checkpoint_counted, mapped_of, told_counted}

-- ---- what a pass has in hand

pub record Keeps (o : Option Checkpoint) (n m : ℕ) (rows rest : List Revisions) (vs : List Value) : Type 0 where
  pub older : IfSome o AreCounts
  pub since : n ≤ greatest_count
  pub last : m ≤ greatest_count
  pub leaves : AllByRecursion AreTexts rows
  pub distinct : AreDistinct rows
  pub pending : AllByRecursion AreTexts rest
  pub documents : AllByRecursion IsLawful vs

abbrev pub IsSound : Pass → Type 0
IsSound p = Keeps p.older p.since p.last_seq p.leaves p.pending p.documents

pub first_sound : (c : PassConfiguration) → IsSound (first_pass c)
first_sound c = record { older = tt; since = omega arith; last = omega arith; leaves = tt; distinct = tt; pending = tt; documents = tt }

-- ---- what it can ask

put_each : (rows : List Revisions) (ms : Members) → AllByRecursion AreTexts rows → IsLawful (object ms) → IsLawful (object (revisions_put rows ms))
put_each [] ms h k = k
put_each (r ∷ rows) ms h k = put_each rows _ h.1 (put_lawful r.id (texts_value r.revisions) ms h.0.id (lawful_texts r.revisions h.0.revisions) k)

pub asks_lawfully : (rows : List Revisions) → AllByRecursion AreTexts rows → IsLawful (revisions_value rows)
asks_lawfully rows h = put_each rows no_members h (tt, tt)

each_item : (vs : List Value) → AllByRecursion IsLawful vs → AreLawfulItems (items_of vs)
each_item [] h = tt
each_item (v ∷ vs) h = (h.0, each_item vs h.1)

pub pushes_lawfully : (vs : List Value) → AllByRecursion IsLawful vs → IsLawful (documents_value vs)
pushes_lawfully vs h =
    (((refl, tt), (tt, tt)), (IsUtf8-are_ascii (codes "docs") refl, each_item vs h, (IsUtf8-are_ascii (codes "new_edits") refl, tt, tt)))

-- the first of the documents that are to be opened
pub first_texts : (rows : List Revisions) → AllByRecursion AreTexts rows → AreTexts (first_of_pending rows)
first_texts [] h = record { id = IsUtf8-nil; revisions = tt }
first_texts (r ∷ rows) h = h.0

pub id_bytes : (row : Revisions) → AreTexts row → All (λ b. b < 256) row.id
id_bytes row h = text_is_bytes row.id h.id

pub list_bytes : (row : Revisions) → AreTexts row → All (λ b. b < 256) (canonical (texts_value row.revisions))
list_bytes row h = written_list row.revisions h.revisions

pub list_lawful : (row : Revisions) → AreTexts row → IsLawful (texts_value row.revisions)
list_lawful row h = lawful_texts row.revisions h.revisions

-- ---- what a reply says is read of a lawful value

pub record SaidOf {A : Type 0} (shape : Value → Option A) (a : A) : Type 0 where
  pub value : Value
  pub lawful : IsLawful value
  pub shaped : shape value ≡ Some a

pub said_lawfully : {A : Type 0} (expected : ℕ) (shape : Value → Option A) (c : auth.Configuration) (before : Contents) (m : Message) (r : Reply) (after : Contents) (a : A) → expected ≤ 499
    → Steps c before m r after → said_at expected shape r.status r.body ≡ fine a → SaidOf shape a
said_lawfully {A} expected shape c before m r after a low step e = by step
  where
    s : Said expected shape r.status r.body a
    s = said expected shape r.status r.body a e

    by : Steps c before m r after → SaidOf shape a
    by (inl done) =
        let was : (answer c before m).value ≡ s.value = what_was_read (answer c before m).value s.value done.2 (ap (λ (x : Reply). reading x.body) (sym done.0) ∙ s.was) in
        record { value = s.value; lawful = subst IsLawful was done.2; shaped = s.shaped }
    by (inr (inl none)) = absurd (omega (arith, low, s.right, ap (λ (x : Reply). x.status) none.0))
    by (inr (inr failed)) = absurd (omega (arith, low, s.right, ap (λ (x : Reply). x.status) failed.0))

-- ---- a checkpoint is counted, whatever the reply

stored_counted : (o : Option (List ℕ)) (k : Option Checkpoint) (s : Stored) → IfSome k AreCounts → stored_by o k ≡ Some s → IfSome s.checkpoint AreCounts
stored_counted None k s h e = absurd cc
stored_counted (Some rev) k s h e =
    let m = mapped_of (λ (r : List ℕ). record { revision = Some r; checkpoint = k }) (Some rev) s e in
    subst (λ (x : Stored). IfSome x.checkpoint AreCounts) m.is h

in_counted : (v : Value) (o : Option Checkpoint) → checkpoint_in v ≡ o → IfSome o AreCounts
in_counted v None is = tt
in_counted v (Some c) is = checkpoint_counted v c is

pub read_counted : (status : ℕ) (body : List ℕ) (s : Stored) → checkpoint_read status body ≡ fine s → IfSome s.checkpoint AreCounts
read_counted status body s e = by (status == 404 && is_missing body) e
  where
    by : (b : Bool) → cond b (fine nothing_stored) (said_at 200 stored_in status body) ≡ fine s → IfSome s.checkpoint AreCounts
    by true k = let is : nothing_stored ≡ s = cc in subst (λ (x : Stored). IfSome x.checkpoint AreCounts) is tt
    by false k =
        let t = said 200 stored_in status body s k in
        stored_counted (text_at (codes "_rev") t.value) (checkpoint_in t.value) s (in_counted t.value (checkpoint_in t.value) refl) t.shaped

-- ---- each reply keeps a pass sound

pub keeps_with : {A : Type 0} (take : Pass → A → Pass) (p : Pass) (r : Result A Why) → IsSound p → ((a : A) → r ≡ fine a → IsSound (take p a)) → IsSound (pass_after take p r)
keeps_with take p (Ok a) h each = each a refl
keeps_with take p (Err why) h each = h

joined : (xs ys : List Value) → AllByRecursion IsLawful xs → AllByRecursion IsLawful ys → AllByRecursion IsLawful (xs ++ ys)
joined [] ys h k = k
joined (x ∷ xs) ys h k = (h.0, joined xs ys h.1 k)

without_first : (rows : List Revisions) → AllByRecursion AreTexts rows → AllByRecursion AreTexts (drop 1 rows)
without_first [] h = tt
without_first (r ∷ rows) h = h.1

pub source_sound : (p : Pass) (s : Stored) → IsSound p → IfSome s.checkpoint AreCounts → IsSound (with_source p s)
source_sound p s h k = record { older = k; since = h.since; last = h.last; leaves = h.leaves; distinct = h.distinct; pending = h.pending; documents = h.documents }

pub target_sound : (p : Pass) (s : Stored) → IsSound p → IsSound (with_target p s)
target_sound p s h = record { older = h.older; since = told_counted p.configuration.is_from_start p.older s.checkpoint h.older; last = h.last; leaves = h.leaves; distinct = h.distinct; pending = h.pending; documents = h.documents }

pub changes_sound : (p : Pass) (c : Changes) → IsSound p → AreRead c → AreDistinct c.leaves → IsSound (with_changes p c)
changes_sound p c h k d = record { older = h.older; since = h.since; last = k.sequence; leaves = k.leaves; distinct = d; pending = h.pending; documents = h.documents }

pub differences_sound : (p : Pass) (missing : List Revisions) → IsSound p → AllByRecursion AreTexts missing → IsSound (with_lacking p missing)
differences_sound p missing h k = record { older = h.older; since = h.since; last = h.last; leaves = tt; distinct = tt; pending = k; documents = h.documents }

pub opened_sound : (p : Pass) (opened : List Opened) → IsSound p → AllByRecursion IsLawful (documents_of_opened opened) → IsSound (with_opened p opened)
opened_sound p opened h k = record { older = h.older; since = h.since; last = h.last; leaves = h.leaves; distinct = h.distinct; pending = without_first p.pending h.pending; documents = joined p.documents (documents_of_opened opened) h.documents k }

pub failures_sound : (p : Pass) (failures : List Value) → IsSound p → IsSound (with_failures p failures)
failures_sound p failures h = record { older = h.older; since = h.since; last = h.last; leaves = h.leaves; distinct = h.distinct; pending = h.pending; documents = tt }

pub target_written_sound : (p : Pass) (rev : List ℕ) → IsSound p → IsSound (with_target_written p rev)
target_written_sound p rev h = record { older = h.older; since = h.last; last = h.last; leaves = h.leaves; distinct = h.distinct; pending = h.pending; documents = h.documents }

pub target_reread_sound : (p : Pass) (s : Stored) → IsSound p → IsSound (with_target_reread p s)
target_reread_sound p s h = record { older = h.older; since = by _; last = h.last; leaves = h.leaves; distinct = h.distinct; pending = h.pending; documents = h.documents }
  where
    by : (b : Bool) → cond b p.last_seq p.since ≤ greatest_count
    by true = h.last
    by false = h.since

pub lost_sound : (p : Pass) → IsSound p → IsSound (lost_of p)
lost_sound p h = lost_by IsSound p.phase p h h h
