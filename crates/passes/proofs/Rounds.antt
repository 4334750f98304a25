-- Each round covers what it lists, and a pass that is done owes nothing.
use Rattle.std.proofs.Common.{◌≡◌, ◌≤◌, ◌<◌, ◌⊎◌, inl, inr, ⊎_elim, ◌+◌, ◌||◌, ℕ, zero, suc, List, [], ◌∷◌, ◌++◌, drop, Bool, true, false, cond, Option, Some, None, Result, Ok, Err, leb, leb-true, leb-false, ne_eqb, refl, sym, ap, ◌∙◌, subst, arith}
use Rattle.std.specs.Prelude.{⊤, IfSome, IsTrue}
use Rattle.std.specs.FinMap.{get}
use Rattle.std.proofs.lemmas.List.Folds.{list_any-append}
use Rattle.couch_json.specs.Value.{Value}
use Rattle.tree.specs.Revision.{Revision, is_revision}
use Rattle.tree.specs.History.{is_known, is_leaf}
use Rattle.store.specs.Database.{Database, Document, IsLater, history_at, history_in, sequence_at, sequence_in}
use Rattle.store.proofs.Laters.{later_still}
use Rattle.repl.specs.Calls.{Revisions}
use Rattle.repl.specs.Configuration.{PassConfiguration}
use Rattle.repl.specs.Passes.{Pass, answered_in, answered_of, answers_list, answers_open, answers_push, failures_taken, fills, first_of_pending, is_written, list_taken, lost_of, opened_taken, pass_after, phase_after_list, phase_after_loss, phase_after_round, phase_with, with_changes, with_failures, with_lacking, with_opened, with_source, with_source_reread, with_source_written, with_target, with_target_reread, with_target_written}
use Rattle.repl.specs.Replies.{Changes, Opened, Stored, changes_listed, checkpoint_read, checkpoint_written, differences_read, documents_of_opened, documents_pushed, missing_reports, revisions_opened}
use Rattle.repl.specs.Turns.{Turn, after_turn, answered, lost}
use Rattle.repl.specs.declared.phase.Phase.{Phase}
use Rattle.repl.specs.declared.phase.Phase.TheVariants.{ReadSource, ReadTarget, ListChanges, Compare, Open, Push, WriteSource, WriteTarget, RereadSource, RereadTarget, Done, Stopped}
use Rattle.repl.specs.declared.why.Why.{Why}
use Rattle.repl.proofs.LossLemmas.{lost_by}
use Rattle.repl.proofs.StartLemmas.{answered_configured, lost_configured}
use Rattle.repl.proofs.TakenLemmas.{was_said}
use Rattle.passes.proofs.Missing.{or_left, or_parts, or_right}
use Rattle.passes.specs.Owed.{Covers, DoneOwesNothing, Event, Follows, Goes, IsTruth, Names, RoundsCover, Scene, Went, has_covered, listed_after, others, turn}
use Rattle.passes.specs.Settled.{is_among, is_document_of, is_report_entry_of, is_reported, is_sent, is_settled}

-- ---- truth values

true_of : (b : Bool) → IsTrue b → b ≡ true
true_of b h = h

is_true : (b : Bool) → b ≡ true → IsTrue b
is_true b h = h

-- ---- the invariant, by its parts

abbrev Pending : Type 0
Pending = List ℕ → Revision → Bool

-- of a round: it goes on from where the pass began, and where its listing was not full, that was the whole source
record Frame (listed : Database) (start_seq start end : ℕ) (is_full : Bool) : Type 0 where
  same : start_seq ≡ start
  bound : end ≤ listed.length
  whole : is_full ≡ false → (id : List ℕ) → start < sequence_at listed id → sequence_at listed id ≤ end

-- in a round: each leaf that was listed is settled, or pending
record InRound (source target listed : Database) (start end : ℕ) (refused : List Value) (pending : Pending) : Type 0 where
  later : IsLater listed source
  owed : (id : List ℕ) (r : Revision) → IsTrue (is_revision r) → IsTrue (is_leaf (history_at listed id) r) → start < sequence_at listed id → sequence_at listed id ≤ end
      → (is_settled target refused id r || pending id r) ≡ true

-- between rounds: each leaf that the source has up to the end of the last round is settled
record Between (source target : Database) (start end : ℕ) (refused : List Value) : Type 0 where
  bound : start < end → end ≤ source.length
  settled : (id : List ℕ) (r : Revision) → IsTrue (is_revision r) → IsTrue (is_leaf (history_at source id) r) → start < sequence_at source id → sequence_at source id ≤ end
      → is_settled target refused id r ≡ true

abbrev nothing : Pending
nothing = λ id r. false

abbrev opening : List Revisions → List Value → Pending
opening rows documents = λ id r. is_among id r rows || is_sent id r documents

abbrev FrameOf : Database → Pass → Type 0
FrameOf listed p = Frame listed p.start_seq p.start p.last_seq p.is_full

abbrev RoundOf : Database → Database → Database → Pass → Pending → Type 0
RoundOf source target listed p pending = InRound source target listed p.start p.last_seq p.refused pending

abbrev Invariant : Phase → Database → Database → Database → Pass → Type 0
Invariant ReadSource source target listed p = ⊤
Invariant ReadTarget source target listed p = ⊤
Invariant ListChanges source target listed p = Between source target p.start p.since p.refused
Invariant Compare source target listed p = FrameOf listed p × RoundOf source target listed p (λ id r. is_among id r p.leaves)
Invariant Open source target listed p = FrameOf listed p × RoundOf source target listed p (opening p.pending p.documents)
Invariant Push source target listed p = FrameOf listed p × RoundOf source target listed p (λ id r. is_sent id r p.documents)
Invariant WriteSource source target listed p = FrameOf listed p × RoundOf source target listed p nothing
Invariant WriteTarget source target listed p = FrameOf listed p × RoundOf source target listed p nothing
Invariant RereadSource source target listed p = FrameOf listed p × RoundOf source target listed p nothing
Invariant RereadTarget source target listed p = FrameOf listed p × RoundOf source target listed p nothing
Invariant Done source target listed p = FrameOf listed p × RoundOf source target listed p nothing × (p.is_full ≡ false)
Invariant (Stopped why) source target listed p = ⊤

-- ---- settled stays settled

reported_more : (id : List ℕ) (r : Revision) (xs ys : List Value) → is_reported id r xs ≡ true → is_reported id r (xs ++ ys) ≡ true
reported_more id r xs ys e = list_any-append (λ v. is_report_entry_of id r v) xs ys ∙ or_left (is_reported id r xs) (is_reported id r ys) e

reported_new : (id : List ℕ) (r : Revision) (xs ys : List Value) → is_reported id r ys ≡ true → is_reported id r (xs ++ ys) ≡ true
reported_new id r xs ys e = list_any-append (λ v. is_report_entry_of id r v) xs ys ∙ or_right (is_reported id r xs) (is_reported id r ys) e

known_later : (t t' : Database) (id : List ℕ) (r : Revision) → IsLater t t' → is_known (history_at t id) r ≡ true → is_known (history_at t' id) r ≡ true
known_later t t' id r lt e = true_of (is_known (history_at t' id) r) (lt.known id r (is_true (is_known (history_at t id) r) e))

-- settled before is settled after
abbrev Wider : Database → List Value → Database → List Value → Type 0
Wider t refused t' refused' = (id : List ℕ) (r : Revision) → is_settled t refused id r ≡ true → is_settled t' refused' id r ≡ true

wider_same : (t t' : Database) (refused : List Value) → IsLater t t' → Wider t refused t' refused
wider_same t t' refused lt id r e =
    ⊎_elim
    (λ k. or_left (is_known (history_at t' id) r) (is_reported id r refused) (known_later t t' id r lt k))
    (λ k. or_right (is_known (history_at t' id) r) (is_reported id r refused) k)
    (or_parts (is_known (history_at t id) r) (is_reported id r refused) e)

wider_more : (t t' : Database) (refused more : List Value) → IsLater t t' → Wider t refused t' (refused ++ more)
wider_more t t' refused more lt id r e =
    ⊎_elim
    (λ k. or_left (is_known (history_at t' id) r) (is_reported id r (refused ++ more)) (known_later t t' id r lt k))
    (λ k. or_right (is_known (history_at t' id) r) (is_reported id r (refused ++ more)) (reported_more id r refused more k))
    (or_parts (is_known (history_at t id) r) (is_reported id r refused) e)

-- a round goes on: what was pending is settled now, or still pending
moves : (s s' t t' listed : Database) (start end : ℕ) (refused refused' : List Value) (before after : Pending) → IsLater s s' → Wider t refused t' refused'
    → ((id : List ℕ) (r : Revision) → IsTrue (is_revision r) → before id r ≡ true → (is_settled t' refused' id r || after id r) ≡ true)
    → InRound s t listed start end refused before → InRound s' t' listed start end refused' after
moves s s' t t' listed start end refused refused' before after ls wider pass h =
    record {
      later = later_still listed s s' h.later ls;
      owed = λ id r good leaf gt le.
          ⊎_elim
          (λ k. or_left (is_settled t' refused' id r) (after id r) (wider id r k))
          (λ k. pass id r good k)
          (or_parts (is_settled t refused id r) (before id r) (h.owed id r good leaf gt le));
    }

same_pending : (s s' t t' listed : Database) (start end : ℕ) (refused : List Value) (pending : Pending) → IsLater s s' → IsLater t t'
    → InRound s t listed start end refused pending → InRound s' t' listed start end refused pending
same_pending s s' t t' listed start end refused pending ls lt h =
    moves s s' t t' listed start end refused refused pending pending ls (wider_same t t' refused lt) (λ id r good k. or_right (is_settled t' refused id r) (pending id r) k) h

-- what was settled up to an end of the source is so later: what was written since is above that end
old_document : (s s' : Database) (end : ℕ) (id : List ℕ) → IsLater s s' → end ≤ s.length → sequence_at s' id ≤ end → get s'.documents id ≡ get s.documents id
old_document s s' end id ls bound le = ls.unchanged id (omega (arith, le, bound))

covers_later : (s s' t : Database) (start end : ℕ) (refused : List Value) → IsLater s s' → end ≤ s.length
    → ((id : List ℕ) (r : Revision) → IsTrue (is_revision r) → IsTrue (is_leaf (history_at s id) r) → start < sequence_at s id → sequence_at s id ≤ end → is_settled t refused id r ≡ true)
    → (id : List ℕ) (r : Revision) → IsTrue (is_revision r) → IsTrue (is_leaf (history_at s' id) r) → start < sequence_at s' id → sequence_at s' id ≤ end → is_settled t refused id r ≡ true
covers_later s s' t start end refused ls bound settled id r good leaf gt le =
    let same = old_document s s' end id ls bound le in
    settled id r good (subst (λ (o : Option Document). IsTrue (is_leaf (history_in o) r)) same leaf)
    (subst (λ (o : Option Document). start < sequence_in o) same gt) (subst (λ (o : Option Document). sequence_in o ≤ end) same le)

between_later : (s s' t t' : Database) (start end : ℕ) (refused : List Value) → IsLater s s' → IsLater t t' → Between s t start end refused → Between s' t' start end refused
between_later s s' t t' start end refused ls lt h =
    record {
      bound = λ some. omega (arith, h.bound some, ls.grown);
      settled = λ id r good leaf gt le.
          wider_same t t' refused lt id r (covers_later s s' t start end refused ls (h.bound (omega (arith, gt, le))) h.settled id r good leaf gt le);
    }

-- ---- others write

grown_round : (s s' t t' listed : Database) (p : Pass) (pending : Pending) → IsLater s s' → IsLater t t' → FrameOf listed p × RoundOf s t listed p pending → FrameOf listed p × RoundOf s' t' listed p pending
grown_round s s' t t' listed p pending ls lt h = (h.0, same_pending s s' t t' listed p.start p.last_seq p.refused pending ls lt h.1)

grown : (f : Phase) (s s' t t' listed : Database) (p : Pass) → IsLater s s' → IsLater t t' → Invariant f s t listed p → Invariant f s' t' listed p
grown ReadSource s s' t t' listed p ls lt h = tt
grown ReadTarget s s' t t' listed p ls lt h = tt
grown ListChanges s s' t t' listed p ls lt h = between_later s s' t t' p.start p.since p.refused ls lt h
grown Compare s s' t t' listed p ls lt h = grown_round s s' t t' listed p _ ls lt h
grown Open s s' t t' listed p ls lt h = grown_round s s' t t' listed p _ ls lt h
grown Push s s' t t' listed p ls lt h = grown_round s s' t t' listed p _ ls lt h
grown WriteSource s s' t t' listed p ls lt h = grown_round s s' t t' listed p _ ls lt h
grown WriteTarget s s' t t' listed p ls lt h = grown_round s s' t t' listed p _ ls lt h
grown RereadSource s s' t t' listed p ls lt h = grown_round s s' t t' listed p _ ls lt h
grown RereadTarget s s' t t' listed p ls lt h = grown_round s s' t t' listed p _ ls lt h
grown Done s s' t t' listed p ls lt h = (h.0, same_pending s s' t t' listed p.start p.last_seq p.refused nothing ls lt h.1, h.2)
grown (Stopped why) s s' t t' listed p ls lt h = tt

-- ---- a loss

counts_loss : (f g : Phase) (s t listed : Database) (p : Pass) (n : ℕ) → Invariant f s t listed p → Invariant (phase_after_loss f) s t listed (record p { phase = g; losses = n })
counts_loss ReadSource g s t listed p n h = tt
counts_loss ReadTarget g s t listed p n h = tt
counts_loss ListChanges g s t listed p n h = h
counts_loss Compare g s t listed p n h = h
counts_loss Open g s t listed p n h = h
counts_loss Push g s t listed p n h = h
counts_loss WriteSource g s t listed p n h = h
counts_loss WriteTarget g s t listed p n h = h
counts_loss RereadSource g s t listed p n h = h
counts_loss RereadTarget g s t listed p n h = h
counts_loss Done g s t listed p n h = h
counts_loss (Stopped why) g s t listed p n h = tt

lost_holds : (s t listed : Database) (p : Pass) → Invariant p.phase s t listed p → Invariant (lost_of p).phase s t listed (lost_of p)
lost_holds s t listed p h =
    lost_by (λ (q : Pass). Invariant q.phase s t listed q) p.phase p h tt (counts_loss p.phase (phase_after_loss p.phase) s t listed p (p.losses + 1) h)

-- ---- a reply that is taken in, phase by phase

goes_on : (missing : List Revisions) (documents : List Value) (s t listed : Database) (q : Pass) → FrameOf listed q × RoundOf s t listed q (opening missing documents)
    → Invariant (phase_with missing documents) s t listed (record q { pending = missing; documents = documents })
goes_on [] [] s t listed q h = h
goes_on [] (v ∷ vs) s t listed q h = h
goes_on (m ∷ ms) documents s t listed q h = h

at_most : (a b : ℕ) → (a ≤ b) ⊎ (b < a)
at_most a b = by (leb a b) refl
  where
    by : (t : Bool) → leb a b ≡ t → (a ≤ b) ⊎ (b < a)
    by true e = inl (leb-true a b e)
    by false e = inr (leb-false a b e)

not_filled : (most : Option ℕ) → IfSome most (λ size. 1 ≤ size) → fills most [] ≡ false
not_filled None some = refl
not_filled (Some zero) some = absurd (omega (arith, some))
not_filled (Some (suc n)) some = ne_eqb 0 (suc n) (λ e. cc)

from_list : (s s' t t' listed : Database) (p : Pass) (status : ℕ) (body : List ℕ) (r : Result Changes Why)
    → ((c : Changes) → r ≡ Ok c → changes_listed status body ≡ Ok c) → IfSome p.configuration.batch (λ size. 1 ≤ size)
    → IsLater s s' → IsLater t t' → IsTruth ListChanges p s t' status body → Invariant ListChanges s t listed p → Invariant (pass_after with_changes p r).phase s' t' s (pass_after with_changes p r)
from_list s s' t t' listed p status body (Err why) e sized ls lt truth h = tt
from_list s s' t t' listed p status body (Ok c) e sized ls lt truth h = by c.leaves frame round
  where
    names : Names s p.since p.configuration.batch c
    names = truth c (e c refl)

    frame : Frame s p.start p.start c.sequence (fills p.configuration.batch c.leaves)
    frame = record {
      same = refl;
      bound = names.bound;
      whole = λ last id gt.
          ⊎_elim
          (λ le. omega (arith, le, names.onward (h.bound (omega (arith, gt, le)))))
          (λ after. names.whole last id after)
          (at_most (sequence_at s id) p.since);
    }

    round : InRound s' t' s p.start c.sequence p.refused (λ id r. is_among id r c.leaves)
    round = record {
      later = ls;
      owed = λ id r good leaf gt le.
          ⊎_elim
          (λ before. or_left (is_settled t' p.refused id r) (is_among id r c.leaves) (wider_same t t' p.refused lt id r (h.settled id r good leaf gt before)))
          (λ after. or_right (is_settled t' p.refused id r) (is_among id r c.leaves) (names.leaf id r leaf after le))
          (at_most (sequence_at s id) p.since);
    }

    by : (ls : List Revisions) → Frame s p.start p.start c.sequence (fills p.configuration.batch ls) → InRound s' t' s p.start c.sequence p.refused (λ id r. is_among id r ls)
        → Invariant (phase_after_list ls) s' t' s (record (with_changes p c) { leaves = ls; is_full = fills p.configuration.batch ls })
    by [] f h = (f, h, not_filled p.configuration.batch sized)
    by (l ∷ ls) f h = (f, h)

from_compare : (s s' t t' listed : Database) (p : Pass) (status : ℕ) (body : List ℕ) (r : Result (List Revisions) Why) → differences_read p.leaves status body ≡ r → IsLater s s' → IsLater t t'
    → IsTruth Compare p s t' status body → Invariant Compare s t listed p → Invariant (pass_after with_lacking p r).phase s' t' listed (pass_after with_lacking p r)
from_compare s s' t t' listed p status body (Err why) e ls lt truth h = tt
from_compare s s' t t' listed p status body (Ok missing) e ls lt truth h =
    goes_on missing p.documents s' t' listed (with_lacking p missing) (
      h.0,
      moves s s' t t' listed p.start p.last_seq p.refused p.refused (λ id r. is_among id r p.leaves) (opening missing p.documents) ls (wider_same t t' p.refused lt)
          (λ id r good k.
          ⊎_elim
          (λ known. or_left (is_settled t' p.refused id r) (opening missing p.documents id r) (or_left (is_known (history_at t' id) r) (is_reported id r p.refused) known))
          (λ left. or_right (is_settled t' p.refused id r) (opening missing p.documents id r) (or_left (is_among id r missing) (is_sent id r p.documents) left))
          (or_parts (is_known (history_at t' id) r) (is_among id r missing) (truth missing e id r good k))) h.1,
    )

sent_more : (id : List ℕ) (r : Revision) (xs ys : List Value) → is_sent id r xs ≡ true → is_sent id r (xs ++ ys) ≡ true
sent_more id r xs ys e = list_any-append (λ v. is_document_of id r v) xs ys ∙ or_left (is_sent id r xs) (is_sent id r ys) e

sent_new : (id : List ℕ) (r : Revision) (xs ys : List Value) → is_sent id r ys ≡ true → is_sent id r (xs ++ ys) ≡ true
sent_new id r xs ys e = list_any-append (λ v. is_document_of id r v) xs ys ∙ or_right (is_sent id r xs) (is_sent id r ys) e

opened_next : (rows : List Revisions) (documents : List Value) (opened : List Opened) (t' : Database) (refused : List Value) (id : List ℕ) (r : Revision)
    → (is_among id r (first_of_pending rows ∷ []) ≡ true → (is_sent id r (documents_of_opened opened) || is_reported id r (missing_reports (first_of_pending rows).id opened)) ≡ true)
    → opening rows documents id r ≡ true
    → (is_settled t' (refused ++ missing_reports (first_of_pending rows).id opened) id r || opening (drop 1 rows) (documents ++ documents_of_opened opened) id r) ≡ true
opened_next [] documents opened t' refused id r truth k =
    or_right (is_settled t' (refused ++ missing_reports [] opened) id r) (is_sent id r (documents ++ documents_of_opened opened)) (sent_more id r documents (documents_of_opened opened) k)
opened_next (row ∷ rows) documents opened t' refused id r truth k =
    let reports = missing_reports row.id opened in
    let all = documents ++ documents_of_opened opened in
    let settled = is_settled t' (refused ++ reports) id r in
    let first = is_among id r (row ∷ []) in
    ⊎_elim
    (λ among. ⊎_elim
    (λ here. ⊎_elim
    (λ sent. or_right settled (opening rows all id r) (or_right (is_among id r rows) (is_sent id r all) (sent_new id r documents (documents_of_opened opened) sent)))
    (λ told. or_left settled (opening rows all id r) (or_right (is_known (history_at t' id) r) (is_reported id r (refused ++ reports)) (reported_new id r refused reports told)))
    (or_parts (is_sent id r (documents_of_opened opened)) (is_reported id r reports) (truth (or_left _ false here))))
    (λ later. or_right settled (opening rows all id r) (or_left (is_among id r rows) (is_sent id r all) later))
    (or_parts _ (is_among id r rows) among))
    (λ sent. or_right settled (opening rows all id r) (or_right (is_among id r rows) (is_sent id r all) (sent_more id r documents (documents_of_opened opened) sent)))
    (or_parts (is_among id r (row ∷ rows)) (is_sent id r documents) k)

from_open : (s s' t t' listed : Database) (p : Pass) (status : ℕ) (body : List ℕ) (r : Result (List Opened) Why)
    → ((opened : List Opened) → r ≡ Ok opened → revisions_opened status body ≡ Ok opened) → IsLater s s' → IsLater t t'
    → IsTruth Open p s t' status body → Invariant Open s t listed p → Invariant (pass_after with_opened p r).phase s' t' listed (pass_after with_opened p r)
from_open s s' t t' listed p status body (Err why) e ls lt truth h = tt
from_open s s' t t' listed p status body (Ok opened) e ls lt truth h =
    let reports = missing_reports (first_of_pending p.pending).id opened in
    goes_on (drop 1 p.pending) (p.documents ++ documents_of_opened opened) s' t' listed (with_opened p opened) (
      h.0,
      moves s s' t t' listed p.start p.last_seq p.refused (p.refused ++ reports) (opening p.pending p.documents) (opening (drop 1 p.pending) (p.documents ++ documents_of_opened opened)) ls
          (wider_more t t' p.refused reports lt) (λ id r good k. opened_next p.pending p.documents opened t' p.refused id r (truth opened (e opened refl) id r good) k) h.1,
    )

from_push : (s s' t t' listed : Database) (p : Pass) (status : ℕ) (body : List ℕ) (r : Result (List Value) Why)
    → ((failures : List Value) → r ≡ Ok failures → documents_pushed status body ≡ Ok failures) → IsLater s s' → IsLater t t'
    → IsTruth Push p s t' status body → Invariant Push s t listed p → Invariant (pass_after with_failures p r).phase s' t' listed (pass_after with_failures p r)
from_push s s' t t' listed p status body (Err why) e ls lt truth h = tt
from_push s s' t t' listed p status body (Ok failures) e ls lt truth h = (
  h.0,
  moves s s' t t' listed p.start p.last_seq p.refused (p.refused ++ failures) (λ id r. is_sent id r p.documents) nothing ls (wider_more t t' p.refused failures lt)
      (λ id r good k. or_left (is_settled t' (p.refused ++ failures) id r) false
      (⊎_elim
      (λ known. or_left (is_known (history_at t' id) r) (is_reported id r (p.refused ++ failures)) known)
      (λ told. or_right (is_known (history_at t' id) r) (is_reported id r (p.refused ++ failures)) (reported_new id r p.refused failures told))
      (or_parts (is_known (history_at t' id) r) (is_reported id r failures) (truth failures (e failures refl) id r good k)))) h.1,
)

from_source : (s t listed : Database) (p : Pass) (r : Result Stored Why) → Invariant (pass_after with_source p r).phase s t listed (pass_after with_source p r)
from_source s t listed p (Ok x) = tt
from_source s t listed p (Err why) = tt

-- where a pass begins nothing is owed yet
fresh : (s t : Database) (start : ℕ) (refused : List Value) → Between s t start start refused
fresh s t start refused = record { bound = λ none. absurd (omega (arith, none)); settled = λ id r good leaf gt le. absurd (omega (arith, gt, le)) }

from_target : (s t listed : Database) (p : Pass) (r : Result Stored Why) → Invariant (pass_after with_target p r).phase s t listed (pass_after with_target p r)
from_target s t listed p (Ok x) = fresh s t _ p.refused
from_target s t listed p (Err why) = tt

from_write : (s t listed : Database) (p : Pass) (r : Result (List ℕ) Why) → Invariant WriteSource s t listed p → Invariant (pass_after with_source_written p r).phase s t listed (pass_after with_source_written p r)
from_write s t listed p (Ok rev) h = h
from_write s t listed p (Err why) h = tt

settled_now : (b : Bool) → (b || false) ≡ true → b ≡ true
settled_now true e = refl
settled_now false e = e

covered : (s t listed : Database) (start end : ℕ) (refused : List Value) → InRound s t listed start end refused nothing → (id : List ℕ) (r : Revision) → IsTrue (is_revision r)
    → IsTrue (is_leaf (history_at listed id) r) → start < sequence_at listed id → sequence_at listed id ≤ end → is_settled t refused id r ≡ true
covered s t listed start end refused h id r good leaf gt le = settled_now (is_settled t refused id r) (h.owed id r good leaf gt le)

round_ends : (s t listed : Database) (p : Pass) → FrameOf listed p → RoundOf s t listed p nothing → Between s t p.start p.last_seq p.refused
round_ends s t listed p frame round =
    record {
      bound = λ some. omega (arith, frame.bound, round.later.grown);
      settled = covers_later listed s t p.start p.last_seq p.refused round.later frame.bound (covered s t listed p.start p.last_seq p.refused round);
    }

-- the next round, or the end
after_round : (b : Bool) (s t listed : Database) (p q : Pass) → p.is_full ≡ b → FrameOf listed p → RoundOf s t listed p nothing
    → FrameOf listed q → RoundOf s t listed q nothing → q.is_full ≡ p.is_full → Between s t q.start q.since q.refused → Invariant (phase_after_round b) s t listed q
after_round true s t listed p q e f r g k same onward = onward
after_round false s t listed p q e f r g k same onward = (g, k, same ∙ e)

from_last : (s t listed : Database) (p : Pass) (r : Result (List ℕ) Why) → Invariant WriteTarget s t listed p → Invariant (pass_after with_target_written p r).phase s t listed (pass_after with_target_written p r)
from_last s t listed p (Ok rev) h =
    after_round p.is_full s t listed p (with_target_written p rev) refl h.0 h.1 h.0 h.1 refl (round_ends s t listed p h.0 h.1)
from_last s t listed p (Err why) h = tt

from_reread : (s t listed : Database) (p : Pass) (r : Result Stored Why) → Invariant RereadSource s t listed p → Invariant (pass_after with_source_reread p r).phase s t listed (pass_after with_source_reread p r)
from_reread s t listed p (Ok x) h = by (is_written p x.checkpoint)
  where
    by : (b : Bool) → Invariant (cond b WriteTarget WriteSource) s t listed (record (with_source_reread p x) { phase = cond b WriteTarget WriteSource })
    by true = h
    by false = h
from_reread s t listed p (Err why) h = tt

from_reread_last : (s t listed : Database) (p : Pass) (r : Result Stored Why) → Invariant RereadTarget s t listed p → Invariant (pass_after with_target_reread p r).phase s t listed (pass_after with_target_reread p r)
from_reread_last s t listed p (Ok x) h = by (is_written p x.checkpoint)
  where
    by : (b : Bool) → Invariant (cond b (phase_after_round p.is_full) WriteTarget) s t listed
        (record (with_target_reread p x) { phase = cond b (phase_after_round p.is_full) WriteTarget; since = cond b p.last_seq p.since })
    by true =
        after_round p.is_full s t listed p (record (with_target_reread p x) { phase = phase_after_round p.is_full; since = p.last_seq }) refl h.0 h.1 h.0 h.1 refl (round_ends s t listed p h.0 h.1)
    by false = h
from_reread_last s t listed p (Err why) h = tt

answered_holds : (f : Phase) (s s' t t' listed : Database) (p : Pass) (status : ℕ) (body : List ℕ) → p.phase ≡ f → IfSome p.configuration.batch (λ size. 1 ≤ size) → IsLater s s' → IsLater t t'
    → IsTruth f p s t' status body → Invariant f s t listed p → Invariant (answered_in f p status body).phase s' t' (listed_after f s listed (answered status body)) (answered_in f p status body)
answered_holds ReadSource s s' t t' listed p status body e sized ls lt truth h = from_source s' t' listed p (checkpoint_read status body)
answered_holds ReadTarget s s' t t' listed p status body e sized ls lt truth h = from_target s' t' listed p (checkpoint_read status body)
answered_holds ListChanges s s' t t' listed p status body e sized ls lt truth h = from_list s s' t t' listed p status body (list_taken p status body)
    (was_said (λ c. answers_list p c) (changes_listed status body)) sized ls lt truth h
answered_holds Compare s s' t t' listed p status body e sized ls lt truth h = from_compare s s' t t' listed p status body (differences_read p.leaves status body) refl ls lt truth h
answered_holds Open s s' t t' listed p status body e sized ls lt truth h = from_open s s' t t' listed p status body (opened_taken p status body)
    (was_said (λ opened. answers_open p opened) (revisions_opened status body)) ls lt truth h
answered_holds Push s s' t t' listed p status body e sized ls lt truth h = from_push s s' t t' listed p status body (failures_taken p status body)
    (was_said (λ failures. answers_push p failures) (documents_pushed status body)) ls lt truth h
answered_holds WriteSource s s' t t' listed p status body e sized ls lt truth h = from_write s' t' listed p (checkpoint_written status body) (grown WriteSource s s' t t' listed p ls lt h)
answered_holds WriteTarget s s' t t' listed p status body e sized ls lt truth h = from_last s' t' listed p (checkpoint_written status body) (grown WriteTarget s s' t t' listed p ls lt h)
answered_holds RereadSource s s' t t' listed p status body e sized ls lt truth h = from_reread s' t' listed p (checkpoint_read status body) (grown RereadSource s s' t t' listed p ls lt h)
answered_holds RereadTarget s s' t t' listed p status body e sized ls lt truth h = from_reread_last s' t' listed p (checkpoint_read status body) (grown RereadTarget s s' t t' listed p ls lt h)
answered_holds Done s s' t t' listed p status body e sized ls lt truth h = subst (λ (f : Phase). Invariant f s' t' listed p) (sym e) (grown Done s s' t t' listed p ls lt h)
answered_holds (Stopped why) s s' t t' listed p status body e sized ls lt truth h = subst (λ (f : Phase). Invariant f s' t' listed p) (sym e) tt

-- ---- the configuration stays

pub turn_configured : (p : Pass) (t : Turn) → (after_turn p t).configuration ≡ p.configuration
turn_configured p (answered status body) = answered_configured p.phase p status body
turn_configured p lost = lost_configured p

-- ---- events

record Holds (w : Scene) : Type 0 where
  sized : IfSome w.pass.configuration.batch (λ size. 1 ≤ size)
  invariant : Invariant w.pass.phase w.source w.target w.listed w.pass

holding : (s t : Database) (a b : Database) (p q : Pass) → q ≡ p → b ≡ a → Invariant p.phase s t a p → Invariant q.phase s t b q
holding s t a b p q e f h = subst (λ (x : Pass). Invariant x.phase s t b x) (sym e) (subst (λ (x : Database). Invariant p.phase s t x p) (sym f) h)

stays_sized : (p q : Pass) → q.configuration ≡ p.configuration → IfSome p.configuration.batch (λ size. 1 ≤ size) → IfSome q.configuration.batch (λ size. 1 ≤ size)
stays_sized p q e sized = subst (λ (c : PassConfiguration). IfSome c.batch (λ size. 1 ≤ size)) (sym e) sized

turn_invariant : (t : Turn) (old new : Scene) → Follows (turn t) old new → Holds old → Invariant new.pass.phase new.source new.target new.listed new.pass
turn_invariant (answered status body) old new (grows, is, kept, truth) h =
    holding new.source new.target (listed_after old.pass.phase old.source old.listed (answered status body)) new.listed (answered_of old.pass status body) new.pass is kept
    (answered_holds old.pass.phase old.source new.source old.target new.target old.listed old.pass status body refl h.sized grows.source grows.target truth h.invariant)
turn_invariant lost old new (grows, is, kept, truth) h =
    holding new.source new.target old.listed new.listed (lost_of old.pass) new.pass is kept
    (lost_holds new.source new.target old.listed old.pass (grown old.pass.phase old.source new.source old.target new.target old.listed old.pass grows.source grows.target h.invariant))

follows_holds : (e : Event) (old new : Scene) → Follows e old new → Holds old → Holds new
follows_holds others old new (grows, same, kept) h = record {
  sized = stays_sized old.pass new.pass (ap (λ (p : Pass). p.configuration) same) h.sized;
  invariant = holding new.source new.target old.listed new.listed old.pass new.pass same kept
      (grown old.pass.phase old.source new.source old.target new.target old.listed old.pass grows.source grows.target h.invariant);
}
follows_holds (turn t) old new f h = record {
  sized = stays_sized old.pass new.pass (ap (λ (p : Pass). p.configuration) f.1 ∙ turn_configured old.pass t) h.sized;
  invariant = turn_invariant t old new f h;
}

goes_holds : (es : List Event) (old new : Scene) → Goes es old new → Holds old → Holds new
goes_holds [] old new is h = subst Holds (sym is) h
goes_holds (e ∷ es) old new (between, here, later) h = goes_holds es between new later (follows_holds e old between here h)

went_holds : (c : PassConfiguration) (es : List Event) (now : Scene) → Went c es now → Holds now
went_holds c es now w = goes_holds es w.first now w.goes (record {
  sized = subst (λ (p : Pass). IfSome p.configuration.batch (λ size. 1 ≤ size)) (sym w.begins) w.batch;
  invariant = subst (λ (p : Pass). Invariant p.phase w.first.source w.first.target w.first.listed p) (sym w.begins) tt;
})

-- ---- what is covered

abbrev CoversBoth : Scene → Type 0
CoversBoth w = Covers w.listed w.pass.start_seq w.pass.last_seq w × Covers w.source w.pass.start_seq w.pass.last_seq w

round_covers : (w : Scene) → FrameOf w.listed w.pass → RoundOf w.source w.target w.listed w.pass nothing → CoversBoth w
round_covers w frame round =
    subst (λ (start : ℕ). Covers w.listed start w.pass.last_seq w × Covers w.source start w.pass.last_seq w) (sym frame.same)
    (covered w.source w.target w.listed w.pass.start w.pass.last_seq w.pass.refused round, (round_ends w.source w.target w.listed w.pass frame round).settled)

covered_in : (f : Phase) (w : Scene) → has_covered f ≡ true → Invariant f w.source w.target w.listed w.pass → CoversBoth w
covered_in ReadSource w e h = absurd cc
covered_in ReadTarget w e h = absurd cc
covered_in ListChanges w e h = absurd cc
covered_in Compare w e h = absurd cc
covered_in Open w e h = absurd cc
covered_in Push w e h = absurd cc
covered_in WriteSource w e h = round_covers w h.0 h.1
covered_in WriteTarget w e h = round_covers w h.0 h.1
covered_in RereadSource w e h = round_covers w h.0 h.1
covered_in RereadTarget w e h = round_covers w h.0 h.1
covered_in Done w e h = round_covers w h.0 h.1
covered_in (Stopped why) w e h = absurd cc

pub rounds_cover : RoundsCover
rounds_cover c es now went e = covered_in now.pass.phase now e (went_holds c es now went).invariant

pub owes_nothing : DoneOwesNothing
owes_nothing c es now went done id r good leaf gt =
    let h : Invariant Done now.source now.target now.listed now.pass =
    subst (λ (f : Phase). Invariant f now.source now.target now.listed now.pass) done (went_holds c es now went).invariant in
    (round_covers now h.0 h.1).0 id r good leaf gt (h.0.whole h.2 id (omega (arith, gt, h.0.same)))
