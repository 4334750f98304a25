-- Where a pass stands in a run: what its events make a scene of, and which list of changes it took in last.
use Rattle.std.proofs.Common.{◌≡◌, ◌≤◌, ◌∙◌, ◌⊎◌, inl, inr, ◌==◌, ◌||◌, ℕ, Bool, true, false, cond, List, [], ◌∷◌, ◌++◌, Option, Some, None, Result, Ok, Err, eqb-true, refl, sym, ap, subst}
use Rattle.std.specs.Prelude.{IfSome, is_ok, ⊤}
use Rattle.couch_http.specs.Reply.{Reply}
use Rattle.store.specs.Contents.{Contents}
use Rattle.store.specs.Database.{Database, IsLater}
use Rattle.node.specs.Runs.{Steps}
use Rattle.repl.specs.Configuration.{PassConfiguration}
use Rattle.repl.specs.Passes.{Asked, Pass, answered_in, asked_of, done, first_pass, list_taken, lost_in, pass_after, stopped_by, to_source, to_target, with_changes}
use Rattle.repl.specs.Replies.{Changes}
use Rattle.repl.specs.Turns.{Turn, after_turn, after_turns, answered, has_listed, lists_at, lists_in, lost}
use Rattle.repl.specs.declared.phase.Phase.{Phase}
use Rattle.repl.specs.declared.phase.Phase.TheVariants.{ListChanges, Stopped}
use Rattle.repl.specs.declared.why.Why.{Why}
use Rattle.passes.specs.Owed.{Event, Follows, Goes, IsTruth, Scene, Went, listed_after, others, turn}
use Rattle.world.specs.Exchanging.{IsAsked, IsCarried, IsMade, Question, question_to_source, question_to_target}
use Rattle.world.specs.Happening.{Happening, Sight, comes, exchanges}
use Rattle.passes.proofs.Rounds.{turn_configured}
use Rattle.world.specs.Keeping.{Keeping}
use Rattle.world.specs.Network.{Network, Transfer, transfer_at}
use Rattle.world.specs.Playing.{Happens, Plays}
use Rattle.world.specs.Service.{IsHandled}
use Rattle.world.specs.declared.fate.Fate.{Fate}
use Rattle.world.specs.declared.fate.Fate.TheVariants.{Answered, ReplyLost, RequestLost}
use Rattle.replication.specs.Finished.{PassBegins, IsTold, database_at, scene_of, source_of, target_of}
use Rattle.replication.specs.Runs.{turns_asked, turns_at, turns_in}
use Rattle.replication.proofs.Keepings.{LawfulAt, Nodes, one_event, plays_later, plays_lawful}
use Rattle.replication.proofs.Places.{one_transfer}
use Rattle.replication.proofs.Sound.{IsSound, first_sound, lost_sound}
use Rattle.replication.proofs.Truths.{IsHandledFor, taken_rightly}
use Rattle.replication.proofs.Turned.{event_takes, turns_join}

-- ---- the source that was listed last

-- the source that was listed last, after no turn or one
abbrev pub listed_by : Pass → Database → Database → List Turn → Database
listed_by p source before [] = before
listed_by p source before (x ∷ xs) = listed_after p.phase source before x

abbrev pub IsStopped : Phase → Type 0
IsStopped f = (why : Why) × (f ≡ Stopped why)

listed_in : (f : Phase) (p : Pass) (source before : Database) (status : ℕ) (body : List ℕ) → lists_in f p status body ≡ true → listed_after f source before (answered status body) ≡ source
listed_in ListChanges p source before status body e = refl
listed_in f p source before status body e = absurd cc

listed_now : (p : Pass) (source before : Database) (x : Turn) → lists_at p x ≡ true → listed_after p.phase source before x ≡ source
listed_now p source before (answered status body) e = listed_in p.phase p source before status body e
listed_now p source before lost e = absurd cc

not_listed : (p : Pass) (r : Result Changes Why) → is_ok r ≡ false → IsStopped (pass_after with_changes p r).phase
not_listed p (Ok c) e = absurd cc
not_listed p (Err why) e = (why, refl)

unlisted_in : (f : Phase) (p : Pass) (source before : Database) (status : ℕ) (body : List ℕ) → lists_in f p status body ≡ false
    → (listed_after f source before (answered status body) ≡ before) ⊎ IsStopped (answered_in f p status body).phase
unlisted_in ListChanges p source before status body e = inr (not_listed p (list_taken p status body) e)
unlisted_in f p source before status body e = inl refl

unlisted_now : (p : Pass) (source before : Database) (x : Turn) → lists_at p x ≡ false → (listed_after p.phase source before x ≡ before) ⊎ IsStopped (after_turn p x).phase
unlisted_now p source before (answered status body) e = unlisted_in p.phase p source before status body e
unlisted_now p source before lost e = inl refl

-- a pass that has stopped stays so
stopped_turn : (p : Pass) (x : Turn) → IsStopped p.phase → after_turn p x ≡ p
stopped_turn p (answered status body) (why, e) = ap (λ (f : Phase). answered_in f p status body) e
stopped_turn p lost (why, e) = ap (λ (f : Phase). lost_in f p) e

pub stopped_turns : (p : Pass) (ts : List Turn) → IsStopped p.phase → IsStopped (after_turns p ts).phase
stopped_turns p [] s = s
stopped_turns p (x ∷ ts) s = stopped_turns (after_turn p x) ts (subst (λ (q : Pass). IsStopped q.phase) (sym (stopped_turn p x s)) s)

pub or_false : (a b : Bool) → (a || b) ≡ false → (a ≡ false) × (b ≡ false)
or_false true b e = absurd cc
or_false false b e = (refl, e)

pub lists_join : (p : Pass) (xs ys : List Turn) → has_listed p (xs ++ ys) ≡ (has_listed p xs || has_listed (after_turns p xs) ys)
lists_join p [] ys = refl
lists_join p (x ∷ xs) ys = by (lists_at p x) (lists_join (after_turn p x) xs ys)
  where
    by : (b : Bool) → has_listed (after_turn p x) (xs ++ ys) ≡ (has_listed (after_turn p x) xs || has_listed (after_turns (after_turn p x) xs) ys)
        → (b || has_listed (after_turn p x) (xs ++ ys)) ≡ ((b || has_listed (after_turn p x) xs) || has_listed (after_turns (after_turn p x) xs) ys)
    by true rest = refl
    by false rest = rest

-- ---- what the turns of an event are

-- a turn that takes in what is true, and keeps the pass sound; or none
abbrev pub AreFit : Pass → Database → Database → List Turn → Type 0
AreFit p source target [] = ⊤
AreFit p source target (answered status body ∷ []) = IsTruth p.phase p source target status body × IsSound (after_turn p (answered status body))
AreFit p source target (lost ∷ []) = IsSound (after_turn p lost)
AreFit p source target (x ∷ y ∷ ys) = ⊥

module _ (t : Transfer) where
  made_fit : (fate : Fate) (old new : Network Contents) (q : Question) (seen : List Sight) → IsTold q.transfer.pass.configuration → LawfulAt old.nodes → IsSound q.transfer.pass
      → ((r : Reply) (nodes : Nodes) → IsHandled Steps old.nodes q.place q.message r nodes → IsHandledFor q.transfer (asked_of q.transfer.pass) old.nodes r nodes)
      → (p : IsMade (Keeping t) fate old q seen new)
      → AreFit q.transfer.pass (database_at old.nodes q.transfer.from q.transfer.pass.configuration.source_db) (database_at new.nodes q.transfer.to q.transfer.pass.configuration.target_db) (p.turn ∷ [])
  made_fit fate old new q seen told lawful sound into p = by fate p.turn p.carried
    where
      u : Transfer
      u = q.transfer

      left : new.nodes ≡ p.nodes
      left = ap (λ (n : Network Contents). n.nodes) p.left

      none : (x : Turn) → x ≡ lost → AreFit u.pass (database_at old.nodes u.from u.pass.configuration.source_db) (database_at new.nodes u.to u.pass.configuration.target_db) (x ∷ [])
      none x is = subst (λ (y : Turn). AreFit u.pass (database_at old.nodes u.from u.pass.configuration.source_db) (database_at new.nodes u.to u.pass.configuration.target_db) (y ∷ [])) (sym is)
          (lost_sound u.pass sound)

      by : (f : Fate) (x : Turn) → IsCarried (Keeping t) f old.nodes q x p.nodes
          → AreFit u.pass (database_at old.nodes u.from u.pass.configuration.source_db) (database_at new.nodes u.to u.pass.configuration.target_db) (x ∷ [])
      by Answered x c =
          let h = into c.0 new.nodes (subst (λ (xs : Nodes). IsHandled Steps old.nodes q.place q.message c.0 xs) (sym left) c.1.0) in
          let k = taken_rightly u u.pass.phase u.pass old.nodes new.nodes c.0 told lawful sound h in
          subst (λ (y : Turn). AreFit u.pass (database_at old.nodes u.from u.pass.configuration.source_db) (database_at new.nodes u.to u.pass.configuration.target_db) (y ∷ [])) (sym c.2)
          (k.truth, k.sound)
      by ReplyLost x c = none x c.2
      by RequestLost x c = none x c.1

  asked_fit : (fate : Fate) (old new : Network Contents) (number : ℕ) (u : Transfer) (asked : Asked) (seen : List Sight) → asked ≡ asked_of u.pass → IsTold u.pass.configuration
      → LawfulAt old.nodes → IsSound u.pass → (p : IsAsked (Keeping t) fate old number u asked seen new)
      → AreFit u.pass (database_at old.nodes u.from u.pass.configuration.source_db) (database_at new.nodes u.to u.pass.configuration.target_db)
      (turns_asked (Keeping t) fate old number u asked seen new p)
  asked_fit fate old new number u (to_source m) seen is told lawful sound p =
      made_fit fate old new (question_to_source number u m) seen told lawful sound (λ r nodes h. subst (λ (a : Asked). IsHandledFor u a old.nodes r nodes) is h) p
  asked_fit fate old new number u (to_target m) seen is told lawful sound p =
      made_fit fate old new (question_to_target number u m) seen told lawful sound (λ r nodes h. subst (λ (a : Asked). IsHandledFor u a old.nodes r nodes) is h) p
  asked_fit fate old new number u (done s) seen is told lawful sound p = tt
  asked_fit fate old new number u (stopped_by why s) seen is told lawful sound p = tt

  pub event_fit : (n : ℕ) (h : Happening) (old new : Network Contents) (seen : List Sight) (p : Pass) → IsTold t.pass.configuration → transfer_at old.transfers n ≡ Some (record t { pass = p })
      → p.configuration ≡ t.pass.configuration → LawfulAt old.nodes → IsSound p → (run : Happens (Keeping t) old h seen new)
      → AreFit p (source_of t old) (target_of t new) (turns_at (Keeping t) n h old seen new run)
  event_fit n (comes piece) old new seen p told there same lawful sound run = tt
  event_fit n (exchanges number fate) old new seen p told there same lawful sound run = by (number == n) refl
    where
      u : Transfer
      u = run.transfer

      turns : List Turn
      turns = turns_asked (Keeping t) fate old number run.transfer (asked_of run.transfer.pass) seen new run.asked

      now : Transfer
      now = record t { pass = p }

      by : (b : Bool) → (number == n) ≡ b → AreFit p (source_of t old) (target_of t new) (cond b turns [])
      by true is =
          let at : u ≡ now = one_transfer u now (sym run.there ∙ ap (transfer_at old.transfers) (eqb-true number n is) ∙ there) in
          let config : u.pass.configuration ≡ t.pass.configuration = ap (λ (x : Transfer). x.pass.configuration) at ∙ same in
          let fit = asked_fit fate old new number u (asked_of u.pass) seen refl (subst IsTold (sym config) told) lawful (subst (λ (x : Transfer). IsSound x.pass) (sym at) sound) run.asked in
          subst (λ (c : PassConfiguration). AreFit p (database_at old.nodes t.from c.source_db) (database_at new.nodes t.to c.target_db) turns) same
          (subst (λ (x : Transfer). AreFit x.pass (database_at old.nodes x.from x.pass.configuration.source_db) (database_at new.nodes x.to x.pass.configuration.target_db) turns) at fit)
      by false is = tt

-- ---- where a pass stands

-- the pass of this number began as `t`, and came through these turns, and as a scene through these events, to where it stands now
pub record Stands (n : ℕ) (t : Transfer) (now : Network Contents) (listed : Database) (p : Pass) : Type 0 where
  pub there : transfer_at now.transfers n ≡ Some (record t { pass = p })
  pub same : p.configuration ≡ t.pass.configuration
  pub lawful : LawfulAt now.nodes
  pub sound : IsSound p
  pub turns : List Turn
  pub is : p ≡ after_turns (first_pass t.pass.configuration) turns
  pub events : List Event
  pub went : Went t.pass.configuration events (scene_of t listed now p)

goes_more : (es : List Event) (e : Event) (a b c : Scene) → Goes es a b → Follows e b c → Goes (es ++ e ∷ []) a c
goes_more [] e a b c p f = (c, subst (λ (x : Scene). Follows e x c) p f, refl)
goes_more (x ∷ es) e a b c (between, here, later) f = (between, here, goes_more es e between b c later f)

went_more : (c : PassConfiguration) (es : List Event) (e : Event) (old new : Scene) → Went c es old → Follows e old new → Went c (es ++ e ∷ []) new
went_more c es e old new w f = record { first = w.first; begins = w.begins; batch = w.batch; goes = goes_more es e w.first old new w.goes f }

next_by : (n : ℕ) (t : Transfer) (old new : Network Contents) (listed : Database) (p : Pass) (ts : List Turn) → Stands n t old listed p → LawfulAt new.nodes
    → IsLater (source_of t old) (source_of t new) × IsLater (target_of t old) (target_of t new) → transfer_at new.transfers n ≡ Some (record t { pass = after_turns p ts })
    → AreFit p (source_of t old) (target_of t new) ts → Stands n t new (listed_by p (source_of t old) listed ts) (after_turns p ts)
next_by n t old new listed p [] s lawful later there fit = record {
  there = there;
  same = s.same;
  lawful = lawful;
  sound = s.sound;
  turns = s.turns;
  is = s.is;
  events = s.events ++ others ∷ [];
  went = went_more t.pass.configuration s.events others (scene_of t listed old p) (scene_of t listed new p) s.went (record { source = later.0; target = later.1 }, refl, refl);
}
next_by n t old new listed p (answered status body ∷ []) s lawful later there fit =
    let x = answered status body in
    let q = after_turn p x in
    let after = listed_after p.phase (source_of t old) listed x in
    record {
      there = there;
      same = turn_configured p x ∙ s.same;
      lawful = lawful;
      sound = fit.1;
      turns = s.turns ++ x ∷ [];
      is = ap (λ (y : Pass). after_turn y x) s.is ∙ sym (turns_join (first_pass t.pass.configuration) s.turns (x ∷ []));
      events = s.events ++ turn x ∷ [];
      went = went_more t.pass.configuration s.events (turn x) (scene_of t listed old p) (scene_of t after new q) s.went (record { source = later.0; target = later.1 }, refl, refl, fit.0);
    }
next_by n t old new listed p (lost ∷ []) s lawful later there fit =
    let q = after_turn p lost in
    let after = listed_after p.phase (source_of t old) listed lost in
    record {
      there = there;
      same = turn_configured p lost ∙ s.same;
      lawful = lawful;
      sound = fit;
      turns = s.turns ++ lost ∷ [];
      is = ap (λ (y : Pass). after_turn y lost) s.is ∙ sym (turns_join (first_pass t.pass.configuration) s.turns (lost ∷ []));
      events = s.events ++ turn lost ∷ [];
      went = went_more t.pass.configuration s.events (turn lost) (scene_of t listed old p) (scene_of t after new q) s.went (record { source = later.0; target = later.1 }, refl, refl, tt);
    }
next_by n t old new listed p (x ∷ y ∷ ys) s lawful later there fit = absurd fit

pub event_stands : (n : ℕ) (t : Transfer) (h : Happening) (old new : Network Contents) (seen : List Sight) (listed : Database) (p : Pass) → IsTold t.pass.configuration
    → Stands n t old listed p → (run : Happens (Keeping t) old h seen new)
    → Stands n t new (listed_by p (source_of t old) listed (turns_at (Keeping t) n h old seen new run)) (after_turns p (turns_at (Keeping t) n h old seen new run))
event_stands n t h old new seen listed p told s run =
    let one = one_event t h old new seen run in
    let lawful = plays_lawful t (h ∷ []) old new seen one s.lawful in
    next_by n t old new listed p (turns_at (Keeping t) n h old seen new run) s lawful (plays_later t (h ∷ []) old new seen lawful one)
    (event_takes (Keeping t) n h old seen new (record t { pass = p }) s.there run) (event_fit t n h old new seen p told s.there s.same s.lawful s.sound run)

-- ---- through several events

-- where a pass stands after some turns: if no list of changes was taken in, the source that was listed last is the same, or the pass has stopped
pub record StandsAfter (n : ℕ) (t : Transfer) (now : Network Contents) (before : Database) (p : Pass) (ts : List Turn) : Type 0 where
  pub listed : Database
  pub stands : Stands n t now listed (after_turns p ts)
  pub kept : has_listed p ts ≡ false → (listed ≡ before) ⊎ IsStopped (after_turns p ts).phase

unlisted_by : (p : Pass) (source before target : Database) (ts : List Turn) → AreFit p source target ts → has_listed p ts ≡ false
    → (listed_by p source before ts ≡ before) ⊎ IsStopped (after_turns p ts).phase
unlisted_by p source before target [] fit e = inl refl
unlisted_by p source before target (answered status body ∷ []) fit e = unlisted_now p source before (answered status body) (or_false (lists_at p (answered status body)) false e).0
unlisted_by p source before target (lost ∷ []) fit e = unlisted_now p source before lost refl
unlisted_by p source before target (x ∷ y ∷ ys) fit e = absurd fit

pub kept_both : (before middle last : Database) (p : Pass) (xs ys : List Turn) → (has_listed p xs ≡ false → (middle ≡ before) ⊎ IsStopped (after_turns p xs).phase)
    → (has_listed (after_turns p xs) ys ≡ false → (last ≡ middle) ⊎ IsStopped (after_turns (after_turns p xs) ys).phase) → has_listed p (xs ++ ys) ≡ false
    → (last ≡ before) ⊎ IsStopped (after_turns (after_turns p xs) ys).phase
kept_both before middle last p xs ys first rest e = by (first both.0) (rest both.1)
  where
    both : (has_listed p xs ≡ false) × (has_listed (after_turns p xs) ys ≡ false)
    both = or_false (has_listed p xs) (has_listed (after_turns p xs) ys) (sym (lists_join p xs ys) ∙ e)

    by : (middle ≡ before) ⊎ IsStopped (after_turns p xs).phase → (last ≡ middle) ⊎ IsStopped (after_turns (after_turns p xs) ys).phase
        → (last ≡ before) ⊎ IsStopped (after_turns (after_turns p xs) ys).phase
    by (inr s) k = inr (stopped_turns (after_turns p xs) ys s)
    by (inl a) (inr s) = inr s
    by (inl a) (inl b) = inl (b ∙ a)

pub play_stands : (n : ℕ) (t : Transfer) (hs : List Happening) (old new : Network Contents) (seen : List Sight) (listed : Database) (p : Pass) → IsTold t.pass.configuration
    → Stands n t old listed p → (run : Plays (Keeping t) old hs seen new) → StandsAfter n t new listed p (turns_in (Keeping t) n hs old seen new run)
play_stands n t [] old new seen listed p told s run =
    record { listed = listed; stands = subst (λ (x : Network Contents). Stands n t x listed p) (sym run.1) s; kept = λ e. inl refl }
play_stands n t (h ∷ hs) old new seen listed p told s (first, rest, between, here, later, order) =
    let ts = turns_at (Keeping t) n h old first between here in
    let us = turns_in (Keeping t) n hs between rest new later in
    let middle = listed_by p (source_of t old) listed ts in
    let one = event_stands n t h old between first listed p told s here in
    let more = play_stands n t hs between new rest middle (after_turns p ts) told one later in
    record {
      listed = more.listed;
      stands = subst (λ (q : Pass). Stands n t new more.listed q) (sym (turns_join p ts us)) more.stands;
      kept = λ e. subst (λ (q : Pass). (more.listed ≡ listed) ⊎ IsStopped q.phase) (sym (turns_join p ts us))
          (kept_both listed middle more.listed p ts us (unlisted_by p (source_of t old) listed (target_of t between) ts (event_fit t n h old between first p told s.there s.same s.lawful s.sound here))
          more.kept e);
    }

-- where a pass begins
begun_batch : (batch : Option ℕ) → IfSome batch (λ size. (1 ≤ size) × (size ≤ 1000)) → IfSome batch (λ size. 1 ≤ size)
begun_batch None h = tt
begun_batch (Some size) h = h.0

pub begins_stand : (n : ℕ) (t : Transfer) (start : Network Contents) → PassBegins n t start → LawfulAt start.nodes → Stands n t start (source_of t start) t.pass
begins_stand n t start b lawful = record {
  there = b.there;
  same = refl;
  lawful = lawful;
  sound = subst IsSound (sym b.first) (first_sound t.pass.configuration);
  turns = [];
  is = b.first;
  events = [];
  went = record { first = scene_of t (source_of t start) start t.pass; begins = b.first; batch = begun_batch t.pass.configuration.batch b.told.batch; goes = refl };
}

-- ---- a list of changes that is taken in

or_none : (b : Bool) → (b || false) ≡ true → b ≡ true
or_none true e = refl
or_none false e = e

-- where a list was taken in, it is of the source as it was then
pub listed_at : (p : Pass) (source before target : Database) (ts : List Turn) → AreFit p source target ts → has_listed p ts ≡ true → listed_by p source before ts ≡ source
listed_at p source before target [] fit e = absurd cc
listed_at p source before target (answered status body ∷ []) fit e = listed_now p source before (answered status body) (or_none (lists_at p (answered status body)) e)
listed_at p source before target (lost ∷ []) fit e = absurd cc
listed_at p source before target (x ∷ y ∷ ys) fit e = absurd fit
