-- Two passes in opposite directions: what holds from move to move, and what it comes to at the end.
use Rattle.std.proofs.Common.{◌≡◌, ◌≤◌, ◌<◌, ◌||◌, ◌⊎◌, ⊎_elim, ℕ, Bool, true, false, List, [], ◌∷◌, ◌++◌, map, Option, Some, None, Result, Ok, Err, refl, sym, ap, ◌∙◌, subst, arith, inl, inr}
use Rattle.std.specs.Prelude.{is_some}
use Rattle.std.specs.List.{AllByRecursion}
use Rattle.std.specs.FinMap.{empty, get, get-empty}
use Rattle.couch_json.specs.Value.{Value}
use Rattle.tree.specs.History.{HistoryContent, content_of, is_known}
use Rattle.tree.specs.Revision.{Revision, revision_cmp}
use Rattle.tree.specs.Write.{AreLawfulWrites as AreWritten, Write}
use Rattle.tree.specs.declared.entry.Entry.{Entry}
use Rattle.tree.proofs.Leaves.{leaf_is_childless}
use Rattle.store.specs.Database.{Database, Document, DocumentWrite, IsKnownAt, IsLater, TextMap, history_at, history_in, sequence_at, sequence_in, with_all}
use Rattle.store.proofs.Laters.{later_by_all, later_still}
use Rattle.repl.specs.Configuration.{PassConfiguration}
use Rattle.repl.specs.Passes.{Pass, answered_in, answers_open, failures_taken, first_of_pending, first_pass, list_taken, opened_taken, pass_after, with_changes, with_failures, with_lacking, with_opened, with_source, with_source_reread, with_source_written, with_target, with_target_reread, with_target_written}
use Rattle.repl.specs.Replies.{Opened, checkpoint_read, checkpoint_written, differences_read, documents_of_opened, revisions_opened}
use Rattle.repl.specs.Turns.{Turn, after_turn, answered, lost}
use Rattle.repl.specs.declared.phase.Phase.{Phase}
use Rattle.repl.specs.declared.phase.Phase.TheVariants.{ReadSource, ReadTarget, ListChanges, Compare, Open, Push, WriteSource, WriteTarget, RereadSource, RereadTarget, Done, Stopped}
use Rattle.repl.specs.declared.why.Why.{Why}
use Rattle.repl.proofs.LossLemmas.{lost_by}
use Rattle.repl.proofs.TakenLemmas.{was_said}
use Rattle.passes.specs.Owed.{Event, Follows, Goes, Scene, Went, listed_after, others as others_write, turn}
use Rattle.passes.specs.Settled.{is_reported}
use Rattle.passes.proofs.Rounds.{owes_nothing}
use Rattle.replication.specs.Agreement.{Agrees, HaveSameTree, LeavesAreKnown}
use Rattle.replication.specs.Appended.{Appends, ComesFrom, IsReplica, IsSaidByOne, IsShownBy, KeepsDocuments}
use Rattle.replication.specs.Converged.{HasCopiedAll, PassesKeepAgreement, TwoPassesConverge}
use Rattle.replication.specs.Crossing.{BringsShown, Crossed, Crosses, PairState, IsTurn, Move, MovesPairs, Waits, back_of, goes_back, goes_there, others, pushed_in, there_of}
use Rattle.replication.specs.Sound.{Agree, IsSound}
use Rattle.replication.proofs.Meeting.{agrees_back, all_reached, both_true, meeting}
use Rattle.replication.proofs.Replicas.{KeepsAll, all_keep, keep_agreement, keeps_still, past_at, rooted_at, same_agree, same_keeps, same_sound}
use Rattle.replication.proofs.Sayings.{shown_is_said, shown_still}
use Rattle.replication.proofs.Writings.{kept_held, kept_known, kept_parent}

-- ---- documents that a pass carries

-- the database shows the document as one of its revisions
pub record IsShown (db : Database) (v : Value) : Type 0 where
  pub id : List ℕ
  pub shown : IsShownBy db id v

abbrev pub AreShown : Database → List Value → Type 0
AreShown db documents = AllByRecursion (IsShown db) documents

shown_more : (db : Database) (vs ws : List Value) → AreShown db vs → AreShown db ws → AreShown db (vs ++ ws)
shown_more db [] ws h k = k
shown_more db (v ∷ vs) ws h k = (h.0, shown_more db vs ws h.1 k)

shown_under : (db : Database) (id : List ℕ) (vs : List Value) → AllByRecursion (IsShownBy db id) vs → AreShown db vs
shown_under db id [] h = tt
shown_under db id (v ∷ vs) h = (record { id = id; shown = h.0 }, shown_under db id vs h.1)

pub all_shown_still : (old new : Database) → IsSound old → KeepsAll old new → (vs : List Value) → AreShown old vs → AreShown new vs
all_shown_still old new sound keeps [] h = tt
all_shown_still old new sound keeps (v ∷ vs) h = (record { id = h.0.id; shown = shown_still old new h.0.id v sound keeps h.0.shown }, all_shown_still old new sound keeps vs h.1)

-- writes that such documents say come from there
one_comes : (db : Database) → IsSound db → (vs : List Value) (w : DocumentWrite) → AreShown db vs → IsSaidByOne vs w → ComesFrom db w
one_comes db sound [] w h said = absurd said
one_comes db sound (v ∷ vs) w h (inl said) = shown_is_said db h.0.id v w sound h.0.shown said
one_comes db sound (v ∷ vs) w h (inr said) = one_comes db sound vs w h.1 said

pub all_come : (db : Database) → IsSound db → (vs : List Value) → AreShown db vs → (ws : List DocumentWrite) → AllByRecursion (IsSaidByOne vs) ws → AllByRecursion (ComesFrom db) ws
all_come db sound vs h [] said = tt
all_come db sound vs h (w ∷ ws) said = (one_comes db sound vs w h said.0, all_come db sound vs h ws said.1)

pub pushed_shown : (db : Database) (f : Phase) (p : Pass) → AreShown db p.documents → AreShown db (pushed_in f p)
pushed_shown db Push p h = h
pushed_shown db f p h = tt

-- ---- the documents after a turn

keeps_carried : {A : Type 0} (db : Database) (take : Pass → A → Pass) (p : Pass) (r : Result A Why) → ((a : A) → (take p a).documents ≡ p.documents) → AreShown db p.documents
    → AreShown db (pass_after take p r).documents
keeps_carried db take p (Ok a) same h = subst (AreShown db) (sym (same a)) h
keeps_carried db take p (Err why) same h = h

opened_carried : (db : Database) (p : Pass) (r : Result (List Opened) Why) → ((opened : List Opened) → r ≡ Ok opened → AllByRecursion (IsShownBy db (first_of_pending p.pending).id) (documents_of_opened opened))
    → AreShown db p.documents → AreShown db (pass_after with_opened p r).documents
opened_carried db p (Ok opened) brings h = shown_more db p.documents (documents_of_opened opened) h (shown_under db (first_of_pending p.pending).id (documents_of_opened opened) (brings opened refl))
opened_carried db p (Err why) brings h = h

pushed_carried : (db : Database) (p : Pass) (r : Result (List Value) Why) → AreShown db p.documents → AreShown db (pass_after with_failures p r).documents
pushed_carried db p (Ok failures) h = tt
pushed_carried db p (Err why) h = h

answered_carried : (db : Database) (f : Phase) (p : Pass) (status : ℕ) (body : List ℕ) → BringsShown f p db (answered status body) → AreShown db p.documents → AreShown db (answered_in f p status body).documents
answered_carried db ReadSource p status body brings h = keeps_carried db with_source p (checkpoint_read status body) (λ a. refl) h
answered_carried db ReadTarget p status body brings h = keeps_carried db with_target p (checkpoint_read status body) (λ a. refl) h
answered_carried db ListChanges p status body brings h = keeps_carried db with_changes p (list_taken p status body) (λ a. refl) h
answered_carried db Compare p status body brings h = keeps_carried db with_lacking p (differences_read p.leaves status body) (λ a. refl) h
answered_carried db Open p status body brings h = opened_carried db p (opened_taken p status body)
    (λ opened taken. brings opened (was_said (λ x. answers_open p x) (revisions_opened status body) opened taken)) h
answered_carried db Push p status body brings h = pushed_carried db p (failures_taken p status body) h
answered_carried db WriteSource p status body brings h = keeps_carried db with_source_written p (checkpoint_written status body) (λ a. refl) h
answered_carried db WriteTarget p status body brings h = keeps_carried db with_target_written p (checkpoint_written status body) (λ a. refl) h
answered_carried db RereadSource p status body brings h = keeps_carried db with_source_reread p (checkpoint_read status body) (λ a. refl) h
answered_carried db RereadTarget p status body brings h = keeps_carried db with_target_reread p (checkpoint_read status body) (λ a. refl) h
answered_carried db Done p status body brings h = h
answered_carried db (Stopped why) p status body brings h = h

pub carried : (db : Database) (p : Pass) (t : Turn) → BringsShown p.phase p db t → AreShown db p.documents → AreShown db (after_turn p t).documents
carried db p (answered status body) brings h = answered_carried db p.phase p status body brings h
carried db p lost brings h = lost_by (λ (q : Pass). AreShown db q.documents) p.phase p h h h

-- ---- what holds of one side

-- A pass's source, and its target: what the pass carries is the source's, and what the source knows now it knew when it was listed, or the
-- target knows it.
record Side (source target listed : Database) (documents : List Value) : Type 0 where
  sound : IsSound source
  listed_sound : IsSound listed
  shown : AreShown source documents
  kept : KeepsAll listed source
  known : (id : List ℕ) (r : Revision) → IsKnownAt source id r → IsKnownAt listed id r ⊎ IsKnownAt target id r

record Holds (c : PairState) : Type 0 where
  one : Side c.one c.other c.one_listed c.there.documents
  other : Side c.other c.one c.other_listed c.back.documents
  agree : Agree c.one c.other

known_same : (old new : Database) → KeepsAll old new → (id : List ℕ) (r : Revision) → IsKnownAt old id r → IsKnownAt new id r
known_same old new keeps id r known = kept_known (history_at old id) (history_at new id) (keeps id) r known

same_back : (old new : Database) → KeepsDocuments old new → KeepsDocuments new old
same_back old new k = record { length = sym k.length; documents = sym k.documents }

-- the side goes on: its source has the same documents, its target keeps what it knew, and the listed source stays
side_on : (s s' t t' listed : Database) (vs : List Value) → KeepsDocuments s s' → KeepsAll t t' → Side s t listed vs → Side s' t' listed vs
side_on s s' t t' listed vs same keeps h = record {
  sound = same_sound s s' same h.sound;
  listed_sound = h.listed_sound;
  shown = all_shown_still s s' h.sound (same_keeps s s' same) vs h.shown;
  kept = keeps_still listed s s' h.kept (same_keeps s s' same);
  known = λ id r known. ⊎_elim (λ k. inl k) (λ k. inr (known_same t t' keeps id r k)) (h.known id r (known_same s' s (same_keeps s' s (same_back s s' same)) id r known));
}

-- the source is listed as it was
side_listed : (s s' t t' listed : Database) (vs : List Value) → KeepsDocuments s s' → Side s t listed vs → Side s' t' s vs
side_listed s s' t t' listed vs same h = record {
  sound = same_sound s s' same h.sound;
  listed_sound = h.sound;
  shown = all_shown_still s s' h.sound (same_keeps s s' same) vs h.shown;
  kept = same_keeps s s' same;
  known = λ id r known. inl (known_same s' s (same_keeps s' s (same_back s s' same)) id r known);
}

with_carried : (s t listed : Database) (vs ws : List Value) → AreShown s ws → Side s t listed vs → Side s t listed ws
with_carried s t listed vs ws shown h = record { sound = h.sound; listed_sound = h.listed_sound; shown = shown; kept = h.kept; known = h.known }

listed_on : (f : Phase) (t : Turn) (s s' d d' listed : Database) (vs : List Value) → KeepsDocuments s s' → KeepsAll d d' → Side s d listed vs → Side s' d' (listed_after f s listed t) vs
listed_on f lost s s' d d' listed vs same keeps h = side_on s s' d d' listed vs same keeps h
listed_on ListChanges (answered status body) s s' d d' listed vs same keeps h = side_listed s s' d d' listed vs same h
listed_on f (answered status body) s s' d d' listed vs same keeps h = side_on s s' d d' listed vs same keeps h

-- ---- a turn

pub appends_keep : (documents : List Value) (old new : Database) → Appends documents old new → KeepsAll old new
appends_keep documents old new a = keeps_still old (with_all old a.writes) new (all_keep a.writes old) (same_keeps (with_all old a.writes) new a.left)

-- the side of the pass that has a turn, the other side, and their agreement
record Turned (old new : Scene) (waiting : Database) (vs : List Value) : Type 0 where
  own : Side new.source new.target new.listed new.pass.documents
  waits : Side new.target new.source waiting vs
  agree : Agree new.source new.target

turned : (t : Turn) (old new : Scene) (waiting : Database) (vs : List Value) → IsTurn t old new → Side old.source old.target old.listed old.pass.documents
    → Side old.target old.source waiting vs → Agree old.source old.target → Turned old new waiting vs
turned t old new waiting vs is own waits agree =
    let documents = pushed_in old.pass.phase old.pass in
    let come = all_come old.source own.sound documents (pushed_shown old.source old.pass.phase old.pass own.shown) is.target.writes is.target.said in
    let replica : IsReplica old.source old.target (with_all old.target is.target.writes) =
    keep_agreement old.source old.target is.target.writes own.sound waits.sound agree come is.target.acceptable in
    let keeps = appends_keep documents old.target new.target is.target in
    let same = same_keeps old.source new.source is.source in
    let listed : Side new.source new.target (listed_after old.pass.phase old.source old.listed t) old.pass.documents =
    listed_on old.pass.phase t old.source new.source old.target new.target old.listed old.pass.documents is.source keeps own in
    let shown : AreShown new.source (after_turn old.pass t).documents =
    all_shown_still old.source new.source own.sound same (after_turn old.pass t).documents (carried old.source old.pass t is.shown own.shown) in
    let mine : Side new.source new.target (listed_after old.pass.phase old.source old.listed t) (after_turn old.pass t).documents = with_carried _ _ _ old.pass.documents _ shown listed in
    record {
      own = subst (λ (p : Pass). Side new.source new.target new.listed p.documents) (sym is.pass)
          (subst (λ (l : Database). Side new.source new.target l (after_turn old.pass t).documents) (sym is.listed) mine);
      waits = record {
        sound = same_sound (with_all old.target is.target.writes) new.target is.target.left replica.sound;
        listed_sound = waits.listed_sound;
        shown = all_shown_still old.target new.target waits.sound keeps vs waits.shown;
        kept = keeps_still waiting old.target new.target waits.kept keeps;
        known = λ id r known.
            ⊎_elim
            (λ k. ⊎_elim (λ l. inl l) (λ l. inr (known_same old.source new.source same id r l)) (waits.known id r k))
            (λ k. inr (known_same old.source new.source same id r k))
            (replica.known id r (known_same new.target (with_all old.target is.target.writes) (same_keeps new.target (with_all old.target is.target.writes) (same_back _ _ is.target.left)) id r known));
      };
      agree = same_agree old.source (with_all old.target is.target.writes) new.source new.target is.source is.target.left replica.agree;
    }

pub agree_back : (a b : Database) → Agree a b → Agree b a
agree_back a b agree id = agrees_back (history_at a id) (history_at b id) (agree id)

-- a pass that waits carries what it carried, and listed what it listed
waiting_side : (source target : Database) (old new : Scene) → Waits old new → Side source target old.listed old.pass.documents → Side source target new.listed new.pass.documents
waiting_side source target old new w h =
    subst (λ (p : Pass). Side source target new.listed p.documents) (sym w.0) (subst (λ (l : Database). Side source target l old.pass.documents) (sym w.1) h)

moves_hold : (m : Move) (old new : PairState) → MovesPairs m old new → Holds old → Holds new
moves_hold others old new m h = record {
  one = waiting_side new.one new.other (there_of old) (there_of new) m.2 (side_on old.one new.one old.other new.other old.one_listed old.there.documents m.0 (same_keeps old.other new.other m.1) h.one);
  other = waiting_side new.other new.one (back_of old) (back_of new) m.3 (side_on old.other new.other old.one new.one old.other_listed old.back.documents m.1 (same_keeps old.one new.one m.0) h.other);
  agree = same_agree old.one old.other new.one new.other m.0 m.1 h.agree;
}
moves_hold (goes_there t) old new m h =
    let k = turned t (there_of old) (there_of new) old.other_listed old.back.documents m.0 h.one h.other h.agree in
    record { one = k.own; other = waiting_side new.other new.one (back_of old) (back_of new) m.1 k.waits; agree = k.agree }
moves_hold (goes_back t) old new m h =
    let k = turned t (back_of old) (back_of new) old.one_listed old.there.documents m.0 h.other h.one (agree_back old.one old.other h.agree) in
    record { one = waiting_side new.one new.other (there_of old) (there_of new) m.1 k.waits; other = k.own; agree = agree_back new.other new.one k.agree }

crosses_hold : (ms : List Move) (old new : PairState) → Crosses ms old new → Holds old → Holds new
crosses_hold [] old new is h = subst Holds (sym is) h
crosses_hold (m ∷ ms) old new (between, here, later) h = crosses_hold ms between new later (moves_hold m old between here h)

-- at first nothing is carried, and what is listed is what is there
first_side : (s t listed : Database) (p : Pass) (c : PassConfiguration) → p ≡ first_pass c → listed ≡ s → IsSound s → Side s t listed p.documents
first_side s t listed p c begins is sound =
    subst (λ (q : Pass). Side s t listed q.documents) (sym begins)
    (subst (λ (l : Database). Side s t l []) (sym is)
    (record { sound = sound; listed_sound = sound; shown = tt; kept = λ id r known. refl; known = λ id r known. inl known }))

went_holds : (c d : PassConfiguration) (ms : List Move) (now : PairState) (went : Crossed c d ms now) → IsSound went.first.one → IsSound went.first.other → Agree went.first.one went.first.other → Holds now
went_holds c d ms now went one other agree =
    crosses_hold ms went.first now went.crosses
    (record {
      one = first_side went.first.one went.first.other went.first.one_listed went.first.there c went.there went.one_listed one;
      other = first_side went.first.other went.first.one went.first.other_listed went.first.back d went.back went.other_listed other;
      agree = agree;
    })

-- ---- each pass alone

pub later_same : (old new : Database) → KeepsDocuments old new → IsLater old new
later_same old new k = record {
  grown = omega (arith, k.length);
  known = λ id r known. known_same old new (same_keeps old new k) id r known;
  unchanged = λ id early. ap (λ (ds : TextMap Document). get ds id) k.documents;
}

pub later_appends : (documents : List Value) (old new : Database) → Appends documents old new → IsLater old new
later_appends documents old new a = later_still old (with_all old a.writes) new (later_by_all a.writes old) (later_same (with_all old a.writes) new a.left)

follows_turn : (t : Turn) (old new : Scene) → IsTurn t old new → Follows (turn t) old new
follows_turn t old new is =
    (record { source = later_same old.source new.source is.source; target = later_appends _ old.target new.target is.target }, is.pass, is.listed, is.truth)

-- the other pass writes
follows_wait : (t : Turn) (old new : Scene) (documents : List Value) → Appends documents old.source new.source → KeepsDocuments old.target new.target → Waits old new → Follows others_write old new
follows_wait t old new documents a k w = (record { source = later_appends documents old.source new.source a; target = later_same old.target new.target k }, w.0, w.1)

abbrev event_there : Move → Event
event_there others = others_write
event_there (goes_there t) = turn t
event_there (goes_back t) = others_write

abbrev event_back : Move → Event
event_back others = others_write
event_back (goes_there t) = others_write
event_back (goes_back t) = turn t

moves_there : (m : Move) (old new : PairState) → MovesPairs m old new → Follows (event_there m) (there_of old) (there_of new)
moves_there others old new m = (record { source = later_same old.one new.one m.0; target = later_same old.other new.other m.1 }, m.2.0, m.2.1)
moves_there (goes_there t) old new m = follows_turn t (there_of old) (there_of new) m.0
moves_there (goes_back t) old new m = follows_wait t (there_of old) (there_of new) _ m.0.target m.0.source m.1

moves_back : (m : Move) (old new : PairState) → MovesPairs m old new → Follows (event_back m) (back_of old) (back_of new)
moves_back others old new m = (record { source = later_same old.other new.other m.1; target = later_same old.one new.one m.0 }, m.3.0, m.3.1)
moves_back (goes_there t) old new m = follows_wait t (back_of old) (back_of new) _ m.0.target m.0.source m.1
moves_back (goes_back t) old new m = follows_turn t (back_of old) (back_of new) m.0

goes_as : (view : PairState → Scene) (event : Move → Event) → ((m : Move) (old new : PairState) → MovesPairs m old new → Follows (event m) (view old) (view new))
    → (ms : List Move) (old new : PairState) → Crosses ms old new → Goes (map event ms) (view old) (view new)
goes_as view event each [] old new is = ap view is
goes_as view event each (m ∷ ms) old new (between, here, later) = (view between, each m old between here, goes_as view event each ms between new later)

-- ---- the end

-- a known revision is one of a document
written_at : (db : Database) → IsSound db → (id : List ℕ) (r : Revision) → IsKnownAt db id r → 1 ≤ sequence_at db id
written_at db s id r known = by (get db.documents id) refl known
  where
    by : (o : Option Document) → get db.documents id ≡ o → is_known (history_in o) r ≡ true → 1 ≤ sequence_in (get db.documents id)
    by None is k = absurd (let none : get empty r ≡ None = get-empty {X = Entry} revision_cmp r in let z : false ≡ true = ap is_some (sym none) ∙ k in cc)
    by (Some d) is k = subst (λ (o : Option Document). 1 ≤ sequence_in o) (sym is) (s.sequences.positive id d is)

pub known_or_none : (known : Bool) (id : List ℕ) (r : Revision) (refused : List Value) → refused ≡ [] → (known || is_reported id r refused) ≡ true → known ≡ true
known_or_none true id r refused none e = refl
known_or_none false id r refused none e = ap (is_reported id r) (sym none) ∙ e

-- the leaves that were listed are known at the target
leaves_known : (c : PassConfiguration) (es : List Event) (now : Scene) → Went c es now → HasCopiedAll now.pass → IsSound now.listed → (id : List ℕ) → LeavesAreKnown (history_at now.listed id) (history_at now.target id)
leaves_known c es now went ended sound id r leaf =
    let known = ((leaf_is_childless (history_at now.listed id) r).0 leaf).0 in
    let some : now.pass.start_seq < sequence_at now.listed id = omega (arith, ended.start, written_at now.listed sound id r known) in
    known_or_none (is_known (history_at now.target id) r) id r now.pass.refused ended.refused (owes_nothing c es now went ended.done id r (sound.writable id r known) leaf some)

-- what was listed agrees with the target as the source does
listed_agrees : (source target listed : Database) → KeepsAll listed source → Agree source target → (id : List ℕ) → Agrees (history_at listed id) (history_at target id)
listed_agrees source target listed keeps agree id =
    let old = history_at listed id in
    let new = history_at source id in
    record {
      parents = λ r known there. sym (kept_parent old new (keeps id) r known) ∙ (agree id).parents r (kept_known old new (keeps id) r known) there;
      held = λ r d e held there. (agree id).held r d e (kept_held old new (keeps id) r d held) there;
    }

-- all that the source knows the target knows
all_known : (c : PassConfiguration) (es : List Event) (now : Scene) (vs : List Value) → Went c es now → HasCopiedAll now.pass → Side now.source now.target now.listed vs → IsSound now.target
    → Agree now.source now.target → (id : List ℕ) (r : Revision) → IsKnownAt now.source id r → IsKnownAt now.target id r
all_known c es now vs went ended side target agree id r known =
    ⊎_elim
    (λ k.
    let past = past_at now.listed side.listed_sound id in
    let agrees = subst (λ (h : HistoryContent). Agrees h (history_at now.target id)) past.2 (listed_agrees now.source now.target now.listed side.kept agree id) in
    let leaves = subst (λ (h : HistoryContent). LeavesAreKnown h (history_at now.target id)) past.2 (leaves_known c es now went ended side.listed_sound id) in
    all_reached past.0 (history_at now.target id) past.1 (rooted_at now.target target id) agrees leaves r (subst (λ (h : HistoryContent). is_known h r ≡ true) past.2 k))
    (λ k. k)
    (side.known id r known)

same_leaves : (a b : Database) → IsSound a → IsSound b → Agree a b → (id : List ℕ) → ((r : Revision) → is_known (history_at a id) r ≡ is_known (history_at b id) r)
    → HaveSameTree (history_at a id) (history_at b id)
same_leaves a b sound_a sound_b agree id same = by (past_at a sound_a id) (past_at b sound_b id)
  where
    by : ((ws : List Write) × AreWritten ws × (history_at a id ≡ content_of ws)) → ((vs : List Write) × AreWritten vs × (history_at b id ≡ content_of vs)) → HaveSameTree (history_at a id) (history_at b id)
    by (ws, lawful_a, is_a) (vs, lawful_b, is_b) =
        let agrees : Agrees (content_of ws) (content_of vs) = subst (λ (h : HistoryContent). Agrees h (content_of vs)) is_a (subst (λ (k : HistoryContent). Agrees (history_at a id) k) is_b (agree id)) in
        let known : (r : Revision) → is_known (content_of ws) r ≡ is_known (content_of vs) r =
        λ r. ap (λ (h : HistoryContent). is_known h r) (sym is_a) ∙ same r ∙ ap (λ (h : HistoryContent). is_known h r) is_b in
        subst (λ (h : HistoryContent). HaveSameTree h (history_at b id)) (sym is_a)
        (subst (λ (k : HistoryContent). HaveSameTree (content_of ws) k) (sym is_b) (meeting ws vs lawful_a lawful_b agrees known))

pub keep_pair : PassesKeepAgreement
keep_pair c d ms now went pair =
    let h = went_holds c d ms now went pair.one pair.other pair.agree in
    record { one = h.one.sound; other = h.other.sound; agree = h.agree }

pub two_converge : TwoPassesConverge
two_converge c d ms now went pair there back id =
    let h = went_holds c d ms now went pair.one pair.other pair.agree in
    let there_went : Went c (map event_there ms) (there_of now) =
    record { first = there_of went.first; begins = went.there; batch = went.there_batch; goes = goes_as there_of event_there moves_there ms went.first now went.crosses } in
    let back_went : Went d (map event_back ms) (back_of now) =
    record { first = back_of went.first; begins = went.back; batch = went.back_batch; goes = goes_as back_of event_back moves_back ms went.first now went.crosses } in
    same_leaves now.one now.other h.one.sound h.other.sound h.agree id
    (λ r. both_true (is_known (history_at now.one id) r) (is_known (history_at now.other id) r)
    (all_known c (map event_there ms) (there_of now) now.there.documents there_went there h.one h.other.sound h.agree id r)
    (all_known d (map event_back ms) (back_of now) now.back.documents back_went back h.other h.one.sound (agree_back now.one now.other h.agree) id r))
