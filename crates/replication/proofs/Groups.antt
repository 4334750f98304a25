-- Passes between the databases of a group keep the agreement of all of them, where whatever else is written leaves it.
use Rattle.std.proofs.Common.{◌≡◌, ◌≢◌, ◌⊎◌, ⊎_elim, inl, inr, ℕ, Bool, true, false, bytes_eq, List, [], ◌∷◌, Option, Some, refl, sym, ap, ◌∙◌, subst}
use Rattle.std.specs.List.{AllByRecursion}
use Rattle.std.specs.Coded.{Coded-set, coded_option}
use Rattle.std.proofs.Math.Bool.{Bool-set}
use Rattle.std.proofs.Math.Logic.{∥∥₁_elim}
use Rattle.std.proofs.lemmas.Bool.{cases_eq, false≢true}
use Rattle.std.proofs.lemmas.Slice.Eq.{bytes_eq-Decides}
use Rattle.couch_http.specs.Message.{Message}
use Rattle.couch_http.specs.Reply.{Reply}
use Rattle.couch_json.specs.Value.{Value}
use Rattle.tree.specs.HistoryCode.{held_code}
use Rattle.tree.specs.Revision.{revision_code}
use Rattle.tree.specs.declared.entry.Held.{Held}
use Rattle.store.specs.Contents.{Contents}
use Rattle.store.specs.Database.{Database, IsLater, with_all}
use Rattle.store.proofs.Laters.{later_itself, later_still}
use Rattle.node.specs.Runs.{Steps}
use Rattle.repl.specs.Configuration.{PassConfiguration}
use Rattle.repl.specs.Passes.{Pass, asked_of}
use Rattle.repl.specs.Turns.{after_turn}
use Rattle.passes.proofs.Rounds.{turn_configured}
use Rattle.world.specs.Exchanging.{IsAsked}
use Rattle.world.specs.Happening.{Happening, Sight, comes, exchanges}
use Rattle.world.specs.Network.{Network, Transfer, transfer_at}
use Rattle.world.specs.Playing.{Happens, Plays}
use Rattle.world.specs.Service.{Asker, Handling, IsHandled, alike}
use Rattle.world.specs.declared.fate.Fate.{Fate}
use Rattle.replication.specs.Finished.{IsTold, database_at}
use Rattle.replication.specs.Requests.{requests_of}
use Rattle.replication.specs.Runs.{Run}
use Rattle.replication.proofs.Again.{run_again}
use Rattle.replication.proofs.Keepings.{LawfulAt, all_lawful}
use Rattle.replication.proofs.Places.{one_transfer, passed_elsewhere, passed_here}
use Rattle.replication.proofs.Sound.{IsSound as IsSoundPass, first_sound}
use Rattle.replication.specs.Appended.{Appends, ComesFrom, IsReplica, KeepsDocuments}
use Rattle.replication.specs.Crossing.{pushed_in}
use Rattle.replication.specs.Groups.{AreOf, Group, GroupCourse, GroupsKeepAgreement, IsFresh, IsInAgreement, IsOf, IsPeaceful, IsReady, IsWithin, KeepsGroup, LeavesAgreement}
use Rattle.replication.specs.Networks.{QuietStage, arranges, runs}
use Rattle.replication.specs.Sound.{Agree, IsSound}
use Rattle.replication.proofs.Crossings.{AreShown, agree_back, all_come, all_shown_still, appends_keep, carried, later_appends, later_same, pushed_shown}
use Rattle.replication.proofs.Growing.{Grows, grows_by, grows_itself, grows_still, handled_grows}
use Rattle.replication.proofs.Handlings.{Nodes, lawful_after}
use Rattle.replication.proofs.Others.{LeavesPasses, others_asked, others_service}
use Rattle.replication.proofs.Plays.{sound_at}
use Rattle.replication.proofs.Replicas.{KeepsAll, keep_agreement, same_agree, same_keeps, same_sound, third_agrees}
use Rattle.replication.proofs.Turnings.{HasTurn, sound_after, turned}

-- ---- a request of the group's passes, or of others

-- A request is handled. Where no pass of the group asks, its databases are in agreement afterwards.
abbrev Only : Group → Handling Contents
Only g who old place m reply new = IsHandled Steps old place m reply new × (IsOf g who ⊎ IsPeaceful g old new)

only_of : (g : Group) (old new : Network Contents) (run : Run (alike Steps) old new) → AreOf g (requests_of run) → Run (Only g) old new
only_of g old new run h =
    (run_again (alike Steps) (Only g) (λ r. IsOf g r.who ⊎ IsPeaceful g r.old r.new) (λ who a place m r b handled ours. (handled, ours)) old new run h).0

handled : (g : Group) (who : Asker) (old : Nodes) (place : ℕ) (m : Message) (r : Reply) (new : Nodes) → Only g who old place m r new → IsHandled Steps old place m r new
handled g who old place m r new h = h.0

-- the databases of a group are lawful, their revisions can be written, and they agree two by two
record Agreed (g : Group) (nodes : Nodes) : Type 0 where
  lawful : LawfulAt nodes
  sound : (place : ℕ) (name : List ℕ) → g.databases place name ≡ true → IsSound (database_at nodes place name)
  agree : (p : ℕ) (k : List ℕ) (q : ℕ) (l : List ℕ) → g.databases p k ≡ true → g.databases q l ≡ true → Agree (database_at nodes p k) (database_at nodes q l)

agreed_so : (g : Group) (nodes : Nodes) → LawfulAt nodes → IsInAgreement g nodes → Agreed g nodes
agreed_so g nodes lawful a = record { lawful = lawful; sound = λ place name member. sound_at nodes place name lawful (a.writable place name member); agree = a.agree }

-- the databases of the group stay in agreement, and grow
record Spares (g : Group) (old new : Nodes) : Type 0 where
  agreed : Agreed g old → Agreed g new
  grows : Agreed g old → (place : ℕ) (name : List ℕ) → g.databases place name ≡ true → Grows (database_at old place name) (database_at new place name)

spares_itself : (g : Group) (a : Nodes) → Spares g a a
spares_itself g a = record { agreed = λ h. h; grows = λ h place name member. grows_itself (database_at a place name) }

spares_still : (g : Group) (a b c : Nodes) → Spares g a b → Spares g b c → Spares g a c
spares_still g a b c h k = record {
  agreed = λ x. k.agreed (h.agreed x);
  grows = λ x place name member.
      grows_still (database_at a place name) (database_at b place name) (database_at c place name) (h.grows x place name member) (k.grows (h.agreed x) place name member);
}

abbrev IsOther : Group → Asker → Type 0
IsOther g who = IsOf g who → ⊥

-- no document is written in the group
keeping : (g : Group) (old new : Nodes) → (LawfulAt old → LawfulAt new) → KeepsGroup g old new → Spares g old new
keeping g old new lawful keeps = record {
  agreed = λ h. record {
    lawful = lawful h.lawful;
    sound = λ place name member. same_sound (database_at old place name) (database_at new place name) (keeps place name member).0 (h.sound place name member);
    agree = λ p k q l one other.
        same_agree (database_at old p k) (database_at old q l) (database_at new p k) (database_at new q l) (keeps p k one).0 (keeps q l other).0 (h.agree p k q l one other);
  };
  grows = λ h place name member. grows_by [] (database_at old place name) (database_at new place name) (keeps place name member).0;
}

-- something is written that leaves the group in agreement
leaving : (g : Group) (old new : Nodes) (place : ℕ) (m : Message) (r : Reply) → IsHandled Steps old place m r new → LeavesAgreement g old new → Spares g old new
leaving g old new place m r h left =
    let lawful = lawful_after old new place m r h in
    record {
      agreed = λ a. agreed_so g new (lawful a.lawful) left.agreement;
      grows = λ a q name member. handled_grows old new place m r q name h (lawful a.lawful) (left.stay q name member);
    }

spared : (g : Group) (who : Asker) (old : Nodes) (place : ℕ) (m : Message) (r : Reply) (new : Nodes) → IsOther g who → Only g who old place m r new → Spares g old new
spared g who old place m r new other h =
    ⊎_elim (λ ours. absurd (other ours)) (λ peaceful. ⊎_elim (keeping g old new (lawful_after old new place m r h.0)) (leaving g old new place m r h.0) peaceful) h.1

-- ---- what holds at every moment

-- a pass of the group: what it has in hand can be asked, and the documents that it carries are shown by its source
pub record Stands (g : Group) (nodes : Nodes) (t : Transfer) : Type 0 where
  pub within : IsWithin g t
  pub sound : IsSoundPass t.pass
  pub shown : AreShown (database_at nodes t.from t.pass.configuration.source_db) t.pass.documents

-- the databases agree, and became later ones; and so the passes stand
pub record Holds (g : Group) (base : Nodes) (now : Network Contents) : Type 0 where
  pub lawful : LawfulAt now.nodes
  pub sound : (place : ℕ) (name : List ℕ) → g.databases place name ≡ true → IsSound (database_at now.nodes place name)
  pub agree : (p : ℕ) (k : List ℕ) (q : ℕ) (l : List ℕ) → g.databases p k ≡ true → g.databases q l ≡ true → Agree (database_at now.nodes p k) (database_at now.nodes q l)
  pub later : (place : ℕ) (name : List ℕ) → g.databases place name ≡ true → IsLater (database_at base place name) (database_at now.nodes place name)
  pub passes : (n : ℕ) (t : Transfer) → g.passes n ≡ true → transfer_at now.transfers n ≡ Some t → Stands g now.nodes t

fresh_stands : (g : Group) (nodes : Nodes) (t : Transfer) → IsFresh g t → Stands g nodes t
fresh_stands g nodes t f = record {
  within = f.within;
  sound = subst IsSoundPass (sym f.first) (first_sound t.pass.configuration);
  shown = subst (λ (p : Pass). AreShown (database_at nodes t.from t.pass.configuration.source_db) p.documents) (sym f.first) tt;
}

one_held : (d e : Held) (o : Option Held) → o ≡ Some d → o ≡ Some e → d ≡ e
one_held d e o x y = let k : Some d ≡ Some e = sym x ∙ y in cc

agree_itself : (a : Database) → Agree a a
agree_itself a id = record { parents = λ r there here. refl; held = λ r d e x y. one_held d e _ x y }

-- two databases are one, or they are apart
one_database : (q : ℕ) (name : List ℕ) (p : ℕ) (k : List ℕ) → ((q ≡ p) × (name ≡ k)) ⊎ (q ≡ p → name ≢ k)
one_database q name p k = by (cases_eq q p) (bytes_eq name k) refl
  where
    by : (q ≡ p) ⊎ (q ≢ p) → (b : Bool) → bytes_eq name k ≡ b → ((q ≡ p) × (name ≡ k)) ⊎ (q ≡ p → name ≢ k)
    by (inl e) true is = inl (e, (bytes_eq-Decides name k).0 is)
    by (inl e) false is = inr (λ _ f. false≢true (sym is ∙ (bytes_eq-Decides name k).1 f))
    by (inr e) b is = inr (λ f. absurd (e f))

-- ---- what others do

-- the databases are spared, and each pass of the group was there before, or has asked nothing
spared_holds : (g : Group) (base : Nodes) (old new : Network Contents) → Spares g old.nodes new.nodes
    → ((n : ℕ) (t : Transfer) → g.passes n ≡ true → transfer_at new.transfers n ≡ Some t → (transfer_at old.transfers n ≡ Some t) ⊎ IsFresh g t) → Holds g base old → Holds g base new
spared_holds g base old new s passes h = record {
  lawful = after.lawful;
  sound = after.sound;
  agree = after.agree;
  later = λ place name member.
      later_still (database_at base place name) (database_at old.nodes place name) (database_at new.nodes place name) (h.later place name member) (s.grows before place name member).later;
  passes = λ n t ours is. ⊎_elim (λ was. still t (h.passes n t ours was)) (λ fresh. fresh_stands g new.nodes t fresh) (passes n t ours is);
}
  where
    before : Agreed g old.nodes
    before = record { lawful = h.lawful; sound = h.sound; agree = h.agree }

    after : Agreed g new.nodes
    after = s.agreed before

    still : (t : Transfer) → Stands g old.nodes t → Stands g new.nodes t
    still t k =
        let name = t.pass.configuration.source_db in
        record {
          within = k.within;
          sound = k.sound;
          shown = all_shown_still (database_at old.nodes t.from name) (database_at new.nodes t.from name) (h.sound t.from name k.within.source)
              (s.grows before t.from name k.within.source).keeps t.pass.documents k.shown;
        }

-- ---- a turn of a pass of the group

within_as : (g : Group) (t : Transfer) (p : Pass) → p.configuration ≡ t.pass.configuration → IsWithin g t → IsWithin g (record t { pass = p })
within_as g t p e w = record {
  source = ap (λ (c : PassConfiguration). g.databases t.from c.source_db) e ∙ w.source;
  target = ap (λ (c : PassConfiguration). g.databases t.to c.target_db) e ∙ w.target;
  apart = subst (λ (c : PassConfiguration). t.from ≡ t.to → c.source_db ≢ c.target_db) (sym e) w.apart;
  told = subst IsTold (sym e) w.told;
}

module _ (g : Group) (base : Nodes) (number : ℕ) (x : Transfer) (old new : Network Contents) (ours : g.passes number ≡ true) (there : transfer_at old.transfers number ≡ Some x)
    (h : Holds g base old) (turn : HasTurn number x x.pass.phase x.pass old new) where
  abbrev k : PassConfiguration
  k = x.pass.configuration

  abbrev source : Database
  source = database_at old.nodes x.from k.source_db

  abbrev target : Database
  target = database_at old.nodes x.to k.target_db

  abbrev target_now : Database
  target_now = database_at new.nodes x.to k.target_db

  abbrev documents : List Value
  documents = pushed_in x.pass.phase x.pass

  stands : Stands g old.nodes x
  stands = h.passes number x ours there

  appended : Appends documents target target_now
  appended = turn.both.target.0

  from_sound : IsSound source
  from_sound = h.sound x.from k.source_db stands.within.source

  to_sound : IsSound target
  to_sound = h.sound x.to k.target_db stands.within.target

  pair : Agree source target
  pair = h.agree x.from k.source_db x.to k.target_db stands.within.source stands.within.target

  come : AllByRecursion (ComesFrom source) appended.writes
  come = all_come source from_sound documents (pushed_shown source x.pass.phase x.pass stands.shown) appended.writes appended.said

  replica : IsReplica source target (with_all target appended.writes)
  replica = keep_agreement source target appended.writes from_sound to_sound pair come appended.acceptable

  -- a database is the pass's target, or no document is written in it
  either : (P : ℕ → List ℕ → Type 0) (q : ℕ) (name : List ℕ) → P x.to k.target_db → (KeepsDocuments (database_at old.nodes q name) (database_at new.nodes q name) → P q name) → P q name
  either P q name here apart =
      ⊎_elim (λ same. subst (λ (n : ℕ). P n name) (sym same.0) (subst (λ (l : List ℕ). P x.to l) (sym same.1) here)) (λ away. apart (turn.both.others q name away).0)
      (one_database q name x.to k.target_db)

  sound_now : (q : ℕ) (name : List ℕ) → g.databases q name ≡ true → IsSound (database_at new.nodes q name)
  sound_now q name member =
      either (λ n l. IsSound (database_at new.nodes n l)) q name (same_sound (with_all target appended.writes) target_now appended.left replica.sound)
      (λ keeps. same_sound (database_at old.nodes q name) (database_at new.nodes q name) keeps (h.sound q name member))

  with_target : (q : ℕ) (name : List ℕ) → g.databases q name ≡ true → Agree target_now (database_at new.nodes q name)
  with_target q name member =
      either (λ n l. Agree target_now (database_at new.nodes n l)) q name (agree_itself target_now)
      (λ keeps.
      same_agree (with_all target appended.writes) (database_at old.nodes q name) target_now (database_at new.nodes q name) appended.left keeps
      (third_agrees source target (database_at old.nodes q name) appended.writes from_sound to_sound pair (h.agree x.from k.source_db q name stands.within.source member)
      (h.agree x.to k.target_db q name stands.within.target member) come appended.acceptable))

  agree_now : (p : ℕ) (m : List ℕ) (q : ℕ) (l : List ℕ) → g.databases p m ≡ true → g.databases q l ≡ true → Agree (database_at new.nodes p m) (database_at new.nodes q l)
  agree_now p m q l one other =
      either (λ n i. Agree (database_at new.nodes n i) (database_at new.nodes q l)) p m (with_target q l other)
      (λ keeps.
      either (λ n i. Agree (database_at new.nodes p m) (database_at new.nodes n i)) q l (agree_back target_now (database_at new.nodes p m) (with_target p m one))
      (λ too. same_agree (database_at old.nodes p m) (database_at old.nodes q l) (database_at new.nodes p m) (database_at new.nodes q l) keeps too (h.agree p m q l one other)))

  keeps_now : (q : ℕ) (name : List ℕ) → KeepsAll (database_at old.nodes q name) (database_at new.nodes q name)
  keeps_now q name =
      either (λ n l. KeepsAll (database_at old.nodes n l) (database_at new.nodes n l)) q name (appends_keep documents target target_now appended)
      (λ keeps. same_keeps (database_at old.nodes q name) (database_at new.nodes q name) keeps)

  later_now : (q : ℕ) (name : List ℕ) → IsLater (database_at old.nodes q name) (database_at new.nodes q name)
  later_now q name =
      either (λ n l. IsLater (database_at old.nodes n l) (database_at new.nodes n l)) q name (later_appends documents target target_now appended)
      (λ keeps. later_same (database_at old.nodes q name) (database_at new.nodes q name) keeps)

  -- the pass that has the turn
  own : Stands g new.nodes (record x { pass = after_turn x.pass turn.turn })
  own =
      let same = turn_configured x.pass turn.turn in
      record {
        within = within_as g x (after_turn x.pass turn.turn) same stands.within;
        sound = sound_after x.pass turn.turn turn.sound;
        shown = subst (λ (c : PassConfiguration). AreShown (database_at new.nodes x.from c.source_db) (after_turn x.pass turn.turn).documents) (sym same)
            (all_shown_still source (database_at new.nodes x.from k.source_db) from_sound (keeps_now x.from k.source_db) (after_turn x.pass turn.turn).documents
            (carried source x.pass turn.turn turn.shown stands.shown));
      }

  -- a pass that waits
  waits : (t : Transfer) → Stands g old.nodes t → Stands g new.nodes t
  waits t s =
      let name = t.pass.configuration.source_db in
      record {
        within = s.within;
        sound = s.sound;
        shown = all_shown_still (database_at old.nodes t.from name) (database_at new.nodes t.from name) (h.sound t.from name s.within.source) (keeps_now t.from name) t.pass.documents s.shown;
      }

  passes_now : (n : ℕ) (t : Transfer) → g.passes n ≡ true → transfer_at new.transfers n ≡ Some t → Stands g new.nodes t
  passes_now n t ours is = by (cases_eq n number)
    where
      after : Transfer
      after = record x { pass = turn.after }

      by : (n ≡ number) ⊎ (n ≢ number) → Stands g new.nodes t
      by (inl e) =
          let at : transfer_at new.transfers number ≡ Some after = ap (λ (ts : List Transfer). transfer_at ts number) turn.transfers ∙ passed_here old.transfers number x after there in
          let same : t ≡ after = one_transfer t after (sym is ∙ ap (transfer_at new.transfers) e ∙ at) in
          subst (Stands g new.nodes) (sym same) (subst (λ (p : Pass). Stands g new.nodes (record x { pass = p })) (sym turn.is) own)
      by (inr apart) =
          let same : transfer_at new.transfers n ≡ transfer_at old.transfers n = ap (λ (ts : List Transfer). transfer_at ts n) turn.transfers ∙ passed_elsewhere old.transfers number n after apart in
          waits t (h.passes n t ours (sym same ∙ is))

  turn_holds : Holds g base new
  turn_holds = record {
    lawful = turn.both.lawful h.lawful;
    sound = sound_now;
    agree = agree_now;
    later = λ q name member. later_still (database_at base q name) (database_at old.nodes q name) (database_at new.nodes q name) (h.later q name member) (later_now q name);
    passes = passes_now;
  }

-- ---- runs and courses

module _ (g : Group) (base : Nodes) where
  others_hold : (number : ℕ) (old new : Network Contents) → g.passes number ≡ false → LeavesPasses (Spares g) number old new → Holds g base old → Holds g base new
  others_hold number old new none s h =
      spared_holds g base old new s.nodes
      (λ n t ours is. inl (sym (s.passes n (λ e. false≢true (sym none ∙ ap g.passes (sym e) ∙ ours))) ∙ is)) h

  exchange_holds : (number : ℕ) (fate : Fate) (old new : Network Contents) (seen : List Sight) (x : Transfer) → transfer_at old.transfers number ≡ Some x
      → IsAsked (Only g) fate old number x (asked_of x.pass) seen new → Holds g base old → Holds g base new
  exchange_holds number fate old new seen x there i h = by (g.passes number) refl
    where
      by : (b : Bool) → g.passes number ≡ b → Holds g base new
      by true ours =
          let s = h.passes number x ours there in
          ⊎_elim (λ e. subst (Holds g base) (sym e) h) (λ turn. turn_holds g base number x old new ours there h turn)
          (turned (Only g) (handled g) fate old new number x seen s.within.told s.within.apart h.lawful s.sound x.pass.phase i)
      by false none =
          others_hold number old new none
          (others_asked (Only g) (Spares g) (spares_itself g) (spares_still g) (IsOther g) (spared g) fate old new number x (asked_of x.pass) seen (λ ours. false≢true (sym none ∙ ours)) i) h

  event_holds : (e : Happening) (old new : Network Contents) (seen : List Sight) → Happens (Only g) old e seen new → Holds g base old → Holds g base new
  event_holds (comes piece) old new seen i h =
      spared_holds g base old new
      (others_service (Only g) (Spares g) (spares_itself g) (spares_still g) (IsOther g) (spared g) old.homes old.nodes new.nodes i.1.arrivals i.0 (λ conn none. none) i.1.served)
      (λ n t ours is. inl (ap (λ (ts : List Transfer). transfer_at ts n) (sym i.1.transfers) ∙ is)) h
  event_holds (exchanges number fate) old new seen i h = exchange_holds number fate old new seen i.transfer i.there i.asked h

  play_holds : (es : List Happening) (old new : Network Contents) (seen : List Sight) → Plays (Only g) old es seen new → Holds g base old → Holds g base new
  play_holds [] old new seen i h = subst (Holds g base) (sym i.1) h
  play_holds (e ∷ es) old new seen (first, rest, between, here, later, order) h = play_holds es between new rest later (event_holds e old between first here h)

  course_holds : (ss : List QuietStage) (old new : Network Contents) → GroupCourse g ss old new → Holds g base old → Holds g base new
  course_holds [] old new is h = subst (Holds g base) (sym is) h
  course_holds (runs ∷ ss) old new (between, run, ours, rest) h =
      let only = only_of g old between run ours in
      course_holds ss between new rest (play_holds only.happenings old between only.seen only.played h)
  course_holds (arranges ∷ ss) old new (between, here, rest) h =
      course_holds ss between new rest (spared_holds g base old between (subst (Spares g old.nodes) (sym here.nodes) (spares_itself g old.nodes)) here.passes h)

holds_first : (g : Group) (old : Network Contents) → IsReady g old → IsInAgreement g old.nodes → LawfulAt old.nodes → Holds g old.nodes old
holds_first g old ready agreed lawful = record {
  lawful = lawful;
  sound = λ place name member. sound_at old.nodes place name lawful (agreed.writable place name member);
  agree = agreed.agree;
  later = λ place name member. later_itself (database_at old.nodes place name);
  passes = λ n t ours is. fresh_stands g old.nodes t (ready.fresh n t ours is);
}

pub holds_now : (g : Group) (ss : List QuietStage) (old new : Network Contents) → IsReady g old → GroupCourse g ss old new → IsInAgreement g old.nodes → LawfulAt old.nodes → Holds g old.nodes new
holds_now g ss old new ready course agreed lawful = course_holds g old.nodes ss old new course (holds_first g old ready agreed lawful)

pub groups_agree : GroupsKeepAgreement
groups_agree g ss old new ready course agreed =
    let all = all_lawful old.nodes ready.lawful in
    let by : LawfulAt old.nodes → Holds g old.nodes new = holds_now g ss old new ready course agreed in
    record {
      writable = λ place name member id r known. ∥∥₁_elim all (Bool-set _ _) (λ lawful. ((by lawful).sound place name member).writable id r known);
      agree = λ p k q l one other id. record {
        parents = λ r there back. ∥∥₁_elim all (Coded-set (coded_option revision_code) _ _) (λ lawful. ((by lawful).agree p k q l one other id).parents r there back);
        held = λ r d e there back. ∥∥₁_elim all (Coded-set held_code _ _) (λ lawful. ((by lawful).agree p k q l one other id).held r d e there back);
      };
    }
