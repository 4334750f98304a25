-- In each round of a run what was listed is settled, and a pass that is done owes nothing.
use Rattle.std.proofs.Common.{◌≡◌, ◌≤◌, ◌<◌, ◌∙◌, ◌⊎◌, inl, inr, ⊎_elim, ◌||◌, ℕ, Bool, true, false, cond, List, [], ◌∷◌, ◌++◌, Option, Some, None, option_map, Result, Ok, Err, append_assoc, append-nil, refl, sym, ap, subst}
use Rattle.std.specs.Prelude.{IsTrue, is_ok, ⊤}
use Rattle.std.proofs.Math.Bool.{Bool-set}
use Rattle.std.proofs.Math.Logic.{∥∥₁_elim}
use Rattle.std.proofs.lemmas.List.Folds.{list_any-append}
use Rattle.couch_json.specs.Value.{Value}
use Rattle.tree.specs.History.{is_known, is_leaf}
use Rattle.tree.specs.Revision.{Revision}
use Rattle.store.specs.Contents.{Contents}
use Rattle.store.proofs.Laters.{later_itself, later_still}
use Rattle.node.specs.Runs.{Steps}
use Rattle.store.specs.Database.{Database, IsLater, history_at, sequence_at}
use Rattle.repl.specs.Configuration.{PassConfiguration}
use Rattle.repl.specs.Passes.{Pass, answered_in, first_pass, list_taken, pass_after, phase_after_loss, with_changes, with_source, with_target}
use Rattle.repl.specs.Replies.{Changes, checkpoint_read}
use Rattle.repl.specs.Turns.{Turn, after_turn, after_turns, answered, has_listed, lists_at, lists_in, lost, replies_in, start_by, told_at, told_of}
use Rattle.repl.specs.declared.phase.Phase.{Phase}
use Rattle.repl.specs.declared.phase.Phase.TheVariants.{ReadSource, ReadTarget, ListChanges, Stopped}
use Rattle.repl.specs.declared.why.Why.{Why}
use Rattle.repl.proofs.LossLemmas.{lost_by}
use Rattle.repl.proofs.ReportLemmas.{all_told}
use Rattle.repl.proofs.StartLemmas.{start_is}
use Rattle.passes.proofs.Missing.{or_left, or_parts, or_right}
use Rattle.passes.specs.Owed.{Covers, Went, has_covered}
use Rattle.passes.specs.Settled.{is_report_entry_of, is_reported, is_settled}
use Rattle.passes.proofs.Rounds.{owes_nothing, rounds_cover}
use Rattle.world.specs.Happening.{Happening, Sight}
use Rattle.world.specs.Keeping.{Keeping}
use Rattle.world.specs.Network.{Network, Transfer, transfer_at}
use Rattle.world.specs.Playing.{Happens, Plays}
use Rattle.world.specs.Service.{Handling, IsHandled, alike}
use Rattle.replication.specs.Courses.{Course, DonePassesHaveListedInCourses, DonePassesOweNothingInCourses, GoesBy, IsArranged, ListsLastBy, ListsLastThrough, RoundsCoverInCourses, Stage, arranges, requests_by, requests_through, runs, turns_by}
use Rattle.replication.specs.Finished.{PassBegins, DonePassesHaveListed, DonePassesOweNothing, IsTold, ListsLast, ListsLastIn, database_at, scene_of, source_of, takes_list, target_of}
use Rattle.replication.specs.Requests.{DatabasesStay, Handled, requests_of}
use Rattle.replication.specs.Runs.{Run, pass_at, turns_at, turns_in, turns_of}
use Rattle.replication.proofs.Keepings.{LawfulAt, Nodes, all_lawful, plays_later, plays_lawful}
use Rattle.replication.proofs.Again.{Stays, back, front, keeping, lists_again, plays_again}
use Rattle.replication.proofs.Shapes.{mapped_of}
use Rattle.replication.proofs.Standings.{IsStopped, Stands, StandsAfter, begins_stand, event_fit, event_stands, kept_both, listed_at, listed_by, lists_join, play_stands, stopped_turns}
use Rattle.replication.proofs.Turned.{event_takes, one_pass, pass_arranged, passes_along, passes_go, turns_join}

-- ---- settled stays settled

settled_more : (target now : Database) (refused more : List Value) (id : List ℕ) (r : Revision) → IsLater target now → is_settled target refused id r ≡ true
    → is_settled now (refused ++ more) id r ≡ true
settled_more target now refused more id r later e =
    ⊎_elim
    (λ known. or_left (is_known (history_at now id) r) (is_reported id r (refused ++ more)) (later.known id r known))
    (λ told. or_right (is_known (history_at now id) r) (is_reported id r (refused ++ more))
    (list_any-append (λ v. is_report_entry_of id r v) refused more ∙ or_left (is_reported id r refused) (is_reported id r more) told))
    (or_parts (is_known (history_at target id) r) (is_reported id r refused) e)

told_join : (p : Pass) (xs ys : List Turn) → told_of p (xs ++ ys) ≡ told_of p xs ++ told_of (after_turns p xs) ys
told_join p [] ys = refl
told_join p (x ∷ xs) ys =
    ap (λ (vs : List Value). told_at p x ++ vs) (told_join (after_turn p x) xs ys)
    ∙ sym (append_assoc (told_at p x) (told_of (after_turn p x) xs) (told_of (after_turns (after_turn p x) xs) ys))

-- what is reported stays, and more may come
refused_more : (c : PassConfiguration) (xs ys : List Turn) (p q : Pass) → p ≡ after_turns (first_pass c) xs → q ≡ after_turns p ys → q.refused ≡ p.refused ++ told_of (after_turns (first_pass c) xs) ys
refused_more c xs ys p q is then =
    ap (λ (x : Pass). x.refused) (then ∙ ap (λ (x : Pass). after_turns x ys) is ∙ sym (turns_join (first_pass c) xs ys))
    ∙ all_told c (xs ++ ys) ∙ told_join (first_pass c) xs ys
    ∙ ap (λ (vs : List Value). vs ++ told_of (after_turns (first_pass c) xs) ys) (sym (all_told c xs) ∙ ap (λ (x : Pass). x.refused) (sym is))

stands_at : (n : ℕ) (t : Transfer) (now : Network Contents) (last : Database) (p : Pass) → Stands n t now last p → pass_at now.transfers n ≡ Some p
stands_at n t now last p s = ap (λ (o : Option Transfer). option_map (λ x. x.pass) o) s.there

event_goes : {S : Type 0} (handling : Handling S) (n : ℕ) (h : Happening) (old : Network S) (seen : List Sight) (new : Network S) (here : Happens handling old h seen new) (p : Pass)
    → pass_at old.transfers n ≡ Some p → pass_at new.transfers n ≡ Some (after_turns p (turns_at handling n h old seen new here))
event_goes handling n h old seen new here p e =
    let m = mapped_of (λ (t : Transfer). t.pass) (transfer_at old.transfers n) p e in
    ap (λ (o : Option Transfer). option_map (λ x. x.pass) o) (event_takes handling n h old seen new m.first m.was here)
    ∙ ap (λ (x : Pass). Some (after_turns x (turns_at handling n h old seen new here))) m.is

-- ---- from the start to the list, and on to where the pass stands now

-- where the pass stands after its turns, with the source as it was at its last list
record Arrives (n : ℕ) (t : Transfer) (listed now : Network Contents) (p : Pass) : Type 0 where
  last : Database
  stands : Stands n t now last p
  is : (last ≡ source_of t listed) ⊎ IsStopped p.phase

arrives : (n : ℕ) (t : Transfer) (listed : Network Contents) (hs : List Happening) (old now : Network Contents) (seen : List Sight) (before : Database) (p : Pass) → IsTold t.pass.configuration
    → Stands n t old before p → (run : Plays (Keeping t) old hs seen now) → ListsLastIn (Keeping t) n hs old seen now run listed
    → Arrives n t listed now (after_turns p (turns_in (Keeping t) n hs old seen now run))
arrives n t listed [] old now seen before p told s run l = absurd l
arrives n t listed (h ∷ hs) old now seen before p told s (first, others, between, here, later, order) (inl (same, lists, none)) =
    let ts = turns_at (Keeping t) n h old first between here in
    let us = turns_in (Keeping t) n hs between others now later in
    let q = after_turns p ts in
    let one = event_stands n t h old between first before p told s here in
    let more = play_stands n t hs between now others (listed_by p (source_of t old) before ts) q told one later in
    let listing : has_listed p ts ≡ true = ap (λ (o : Option Pass). takes_list o ts) (sym (stands_at n t old before p s)) ∙ lists in
    let nothing : has_listed q us ≡ false = ap (λ (o : Option Pass). takes_list o us) (sym (stands_at n t between (listed_by p (source_of t old) before ts) q one)) ∙ none in
    let source : listed_by p (source_of t old) before ts ≡ source_of t listed =
    listed_at p (source_of t old) before (target_of t between) ts (event_fit t n h old between first p told s.there s.same s.lawful s.sound here) listing ∙ ap (source_of t) (sym same) in
    subst (Arrives n t listed now) (sym (turns_join p ts us)) (record {
      last = more.listed;
      stands = more.stands;
      is = ⊎_elim (λ e. inl (e ∙ source)) (λ stopped. inr stopped) (more.kept nothing);
    })
arrives n t listed (h ∷ hs) old now seen before p told s (first, others, between, here, later, order) (inr l) =
    let ts = turns_at (Keeping t) n h old first between here in
    let us = turns_in (Keeping t) n hs between others now later in
    subst (Arrives n t listed now) (sym (turns_join p ts us))
    (arrives n t listed hs between now others (listed_by p (source_of t old) before ts) (after_turns p ts) told (event_stands n t h old between first before p told s here) later l)

-- ---- through courses

abbrev plain : Handling Contents
plain who = IsHandled Steps

arranged_stands : (n : ℕ) (t : Transfer) (old new : Network Contents) (last : Database) (p : Pass) → IsArranged old new → Stands n t old last p → Stands n t new last p
arranged_stands n t old new last p a s = record {
  there = a.passes n (record t { pass = p }) s.there;
  same = s.same;
  lawful = subst LawfulAt (sym a.nodes) s.lawful;
  sound = s.sound;
  turns = s.turns;
  is = s.is;
  events = s.events;
  went = subst (λ (nodes : Nodes). Went t.pass.configuration s.events (scene_of t last (record new { nodes = nodes }) p)) (sym a.nodes) s.went;
}

-- through a run that keeps both databases
run_stands : (n : ℕ) (t : Transfer) (old new : Network Contents) (run : Run (alike Steps) old new) (before : Database) (p : Pass) → IsTold t.pass.configuration → DatabasesStay t (requests_of run)
    → Stands n t old before p → StandsAfter n t new before p (turns_of run n)
run_stands n t old new run before p told kept s =
    let again = plays_again plain (Keeping t) (Stays t) (keeping t) run.happenings old run.seen new run.played kept in
    subst (StandsAfter n t new before p) (again.1 n) (play_stands n t run.happenings old new run.seen before p told s again.0)

through : (n : ℕ) (t : Transfer) (ss : List Stage) (old new : Network Contents) (g : GoesBy Steps ss old new) (before : Database) (p : Pass) → IsTold t.pass.configuration
    → DatabasesStay t (requests_by Steps ss old new g) → Stands n t old before p → StandsAfter n t new before p (turns_by Steps n ss old new g)
through n t [] old new g before p told kept s =
    record { listed = before; stands = subst (λ (x : Network Contents). Stands n t x before p) (sym g) s; kept = λ e. inl refl }
through n t (runs ∷ ss) old new (between, run, rest) before p told kept s =
    let ts = turns_of run n in
    let us = turns_by Steps n ss between new rest in
    let rs = requests_of run in
    let others = requests_by Steps ss between new rest in
    let one = run_stands n t old between run before p told (front (Stays t) rs others kept) s in
    let more = through n t ss between new rest one.listed (after_turns p ts) told (back (Stays t) rs others kept) one.stands in
    record {
      listed = more.listed;
      stands = subst (λ (q : Pass). Stands n t new more.listed q) (sym (turns_join p ts us)) more.stands;
      kept = λ e. subst (λ (q : Pass). (more.listed ≡ before) ⊎ IsStopped q.phase) (sym (turns_join p ts us)) (kept_both before one.listed more.listed p ts us one.kept more.kept e);
    }
through n t (arranges ∷ ss) old new (between, arranged, rest) before p told kept s =
    through n t ss between new rest before p told kept (arranged_stands n t old between before p arranged s)

-- where the pass arrived, it stays, if no list is taken in
arrives_on : (n : ℕ) (t : Transfer) (listed between now : Network Contents) (q : Pass) (us : List Turn) → (a : Arrives n t listed between q) → StandsAfter n t now a.last q us → has_listed q us ≡ false
    → Arrives n t listed now (after_turns q us)
arrives_on n t listed between now q us a more nothing = record { last = more.listed; stands = more.stands; is = by a.is (more.kept nothing) }
  where
    by : (a.last ≡ source_of t listed) ⊎ IsStopped q.phase → (more.listed ≡ a.last) ⊎ IsStopped (after_turns q us).phase → (more.listed ≡ source_of t listed) ⊎ IsStopped (after_turns q us).phase
    by (inl e) (inl f) = inl (f ∙ e)
    by (inl e) (inr stopped) = inr stopped
    by (inr stopped) k = inr (stopped_turns q us stopped)

-- a run in which the last list was taken in
run_arrives : (n : ℕ) (t : Transfer) (listed old new : Network Contents) (run : Run (alike Steps) old new) (before : Database) (p : Pass) → IsTold t.pass.configuration → DatabasesStay t (requests_of run)
    → Stands n t old before p → ListsLast run n listed → Arrives n t listed new (after_turns p (turns_of run n))
run_arrives n t listed old new run before p told kept s l =
    let again = plays_again plain (Keeping t) (Stays t) (keeping t) run.happenings old run.seen new run.played kept in
    subst (λ (xs : List Turn). Arrives n t listed new (after_turns p xs)) (again.1 n)
    (arrives n t listed run.happenings old new run.seen before p told s again.0
    (lists_again plain (Keeping t) (Stays t) (keeping t) n run.happenings old run.seen new run.played kept listed l))

arrives_by : (n : ℕ) (t : Transfer) (listed : Network Contents) (ss : List Stage) (old now : Network Contents) (g : GoesBy Steps ss old now) (before : Database) (p : Pass) → IsTold t.pass.configuration
    → DatabasesStay t (requests_by Steps ss old now g) → Stands n t old before p → ListsLastBy Steps n ss old now g listed → Arrives n t listed now (after_turns p (turns_by Steps n ss old now g))
arrives_by n t listed [] old now g before p told kept s l = absurd l
arrives_by n t listed (runs ∷ ss) old now (between, run, rest) before p told kept s (inl (l, none)) =
    subst (Arrives n t listed now) (sym (turns_join p ts us)) (on (run_arrives n t listed old between run before p told (front (Stays t) rs others kept) s l))
  where
    ts : List Turn
    ts = turns_of run n

    us : List Turn
    us = turns_by Steps n ss between now rest

    rs : List (Handled Contents)
    rs = requests_of run

    others : List (Handled Contents)
    others = requests_by Steps ss between now rest

    on : Arrives n t listed between (after_turns p ts) → Arrives n t listed now (after_turns (after_turns p ts) us)
    on a =
        arrives_on n t listed between now (after_turns p ts) us a (through n t ss between now rest a.last (after_turns p ts) told (back (Stays t) rs others kept) a.stands)
        (ap (λ (o : Option Pass). takes_list o us) (sym (stands_at n t between a.last (after_turns p ts) a.stands)) ∙ none)
arrives_by n t listed (runs ∷ ss) old now (between, run, rest) before p told kept s (inr l) =
    let ts = turns_of run n in
    let us = turns_by Steps n ss between now rest in
    let rs = requests_of run in
    let others = requests_by Steps ss between now rest in
    let one = run_stands n t old between run before p told (front (Stays t) rs others kept) s in
    subst (Arrives n t listed now) (sym (turns_join p ts us))
    (arrives_by n t listed ss between now rest one.listed (after_turns p ts) told (back (Stays t) rs others kept) one.stands l)
arrives_by n t listed (arranges ∷ ss) old now (between, arranged, rest) before p told kept s l =
    arrives_by n t listed ss between now rest before p told kept (arranged_stands n t old between before p arranged s) l

-- a course that keeps both databases, from the start of the pass
arrives_from : (n : ℕ) (t : Transfer) (start listed now : Network Contents) (course : Course Steps start now) (p : Pass) → PassBegins n t start → LawfulAt start.nodes
    → DatabasesStay t (requests_through course) → ListsLastThrough course n listed → pass_at now.transfers n ≡ Some p → Arrives n t listed now p
arrives_from n t start listed now course p begins lawful kept l at =
    let a = arrives_by n t listed course.stages start now course.goes (source_of t start) t.pass begins.told kept (begins_stand n t start begins lawful) l in
    subst (Arrives n t listed now) (one_pass _ p (pass_at now.transfers n) (stands_at n t now a.last _ a.stands) at) a

-- a pass that has covered has not stopped
not_stopped : (f : Phase) → has_covered f ≡ true → IsStopped f → ⊥
not_stopped f e (why, is) = let k : false ≡ true = sym (ap has_covered is) ∙ e in cc

-- the target becomes a later one
target_later : (n : ℕ) (t : Transfer) (ss : List Stage) (old new : Network Contents) (g : GoesBy Steps ss old new) → DatabasesStay t (requests_by Steps ss old new g) → LawfulAt old.nodes
    → IsLater (target_of t old) (target_of t new)
target_later n t [] old new g kept lawful = subst (λ (x : Network Contents). IsLater (target_of t old) (target_of t x)) (sym g) (later_itself (target_of t old))
target_later n t (runs ∷ ss) old new (between, run, rest) kept lawful =
    let rs = requests_of run in
    let others = requests_by Steps ss between new rest in
    let again = (plays_again plain (Keeping t) (Stays t) (keeping t) run.happenings old run.seen between run.played (front (Stays t) rs others kept)).0 in
    let lawful_then = plays_lawful t run.happenings old between run.seen again lawful in
    later_still (target_of t old) (target_of t between) (target_of t new) (plays_later t run.happenings old between run.seen lawful_then again).1
    (target_later n t ss between new rest (back (Stays t) rs others kept) lawful_then)
target_later n t (arranges ∷ ss) old new (between, arranged, rest) kept lawful =
    subst (λ (nodes : Nodes). IsLater (database_at nodes t.to t.pass.configuration.target_db) (target_of t new)) arranged.nodes
    (target_later n t ss between new rest kept (subst LawfulAt (sym arranged.nodes) lawful))

-- a later event keeps what is settled
stays_settled : (n : ℕ) (t : Transfer) (now later : Network Contents) (last : Database) (p q : Pass) → Stands n t now last p → (more : Course Steps now later) → DatabasesStay t (requests_through more)
    → pass_at later.transfers n ≡ Some q → (id : List ℕ) (r : Revision) → is_settled (target_of t now) p.refused id r ≡ true → is_settled (target_of t later) q.refused id r ≡ true
stays_settled n t now later last p q s more kept at id r e =
    let ys = turns_by Steps n more.stages now later more.goes in
    let then : q ≡ after_turns p ys = one_pass q (after_turns p ys) (pass_at later.transfers n) at (passes_along Steps n more.stages now later more.goes p (stands_at n t now last p s)) in
    subst (λ (vs : List Value). is_settled (target_of t later) vs id r ≡ true) (sym (refused_more t.pass.configuration s.turns ys p q s.is then))
    (settled_more (target_of t now) (target_of t later) p.refused (told_of (after_turns (first_pass t.pass.configuration) s.turns) ys) id r
    (target_later n t more.stages now later more.goes kept s.lawful) e)

pub rounds_in_courses : RoundsCoverInCourses
rounds_in_courses n t start listed now later course more p q begins kept l at covered kept_later then = (
  λ id r good leaf gt le.
      ∥∥₁_elim (all_lawful start.nodes begins.lawful) (Bool-set _ _) (λ lawful. then_listed (arrives_from n t start listed now course p begins lawful kept l at) id r good leaf gt le),
  λ id r good leaf gt le.
      ∥∥₁_elim (all_lawful start.nodes begins.lawful) (Bool-set _ _) (λ lawful. then_now (arrives_from n t start listed now course p begins lawful kept l at) id r good leaf gt le),
)
  where
    then_listed : Arrives n t listed now p → Covers (source_of t listed) p.start_seq p.last_seq (scene_of t (source_of t listed) later q)
    then_listed a id r good leaf gt le =
        let same : a.last ≡ source_of t listed = ⊎_elim (λ e. e) (λ s. absurd (not_stopped p.phase covered s)) a.is in
        let k = (rounds_cover t.pass.configuration a.stands.events (scene_of t a.last now p) a.stands.went covered).0 id r good
        (subst (λ (x : Database). IsTrue (is_leaf (history_at x id) r)) (sym same) leaf)
        (subst (λ (x : Database). p.start_seq < sequence_at x id) (sym same) gt)
        (subst (λ (x : Database). sequence_at x id ≤ p.last_seq) (sym same) le) in
        stays_settled n t now later a.last p q a.stands more kept_later then id r k

    then_now : Arrives n t listed now p → Covers (source_of t now) p.start_seq p.last_seq (scene_of t (source_of t listed) later q)
    then_now a id r good leaf gt le =
        stays_settled n t now later a.last p q a.stands more kept_later then id r
        ((rounds_cover t.pass.configuration a.stands.events (scene_of t a.last now p) a.stands.went covered).1 id r good leaf gt le)

pub done_owes_in_courses : DonePassesOweNothingInCourses
done_owes_in_courses n t start listed now later course more p q begins kept l at ended kept_later then id r good leaf gt =
    ∥∥₁_elim (all_lawful start.nodes begins.lawful) (Bool-set _ _) (λ lawful. by (arrives_from n t start listed now course p begins lawful kept l at))
  where
    by : Arrives n t listed now p → is_settled (target_of t later) q.refused id r ≡ true
    by a =
        let same : a.last ≡ source_of t listed = ⊎_elim (λ e. e) (λ s. absurd (not_stopped p.phase (ap has_covered ended) s)) a.is in
        let k = owes_nothing t.pass.configuration a.stands.events (scene_of t a.last now p) a.stands.went ended id r good
        (subst (λ (x : Database). IsTrue (is_leaf (history_at x id) r)) (sym same) leaf)
        (subst (λ (x : Database). p.start_seq < sequence_at x id) (sym same) gt) in
        stays_settled n t now later a.last p q a.stands more kept_later then id r k

-- ---- a pass that is done has listed

-- the pass has listed nothing yet, or it has stopped
abbrev IsEarly : Phase → Type 0
IsEarly ReadSource = ⊤
IsEarly ReadTarget = ⊤
IsEarly ListChanges = ⊤
IsEarly (Stopped why) = ⊤
IsEarly phase = ⊥

early_after : {A : Type 0} (take : Pass → A → Pass) (p : Pass) (r : Result A Why) → ((a : A) → IsEarly (take p a).phase) → IsEarly (pass_after take p r).phase
early_after take p (Ok a) each = each a
early_after take p (Err why) each = tt

early_list : (p : Pass) (r : Result Changes Why) → is_ok r ≡ false → IsEarly (pass_after with_changes p r).phase
early_list p (Ok c) e = absurd cc
early_list p (Err why) e = tt

early_in : (f : Phase) (p : Pass) (status : ℕ) (body : List ℕ) → p.phase ≡ f → IsEarly f → lists_in f p status body ≡ false → IsEarly (answered_in f p status body).phase
early_in ReadSource p status body is h e = early_after with_source p (checkpoint_read status body) (λ s. tt)
early_in ReadTarget p status body is h e = early_after with_target p (checkpoint_read status body) (λ s. tt)
early_in ListChanges p status body is h e = early_list p (list_taken p status body) e
early_in (Stopped why) p status body is h e = subst IsEarly (sym is) tt
early_in f p status body is h e = absurd h

early_loss : (f : Phase) → IsEarly f → IsEarly (phase_after_loss f)
early_loss ReadSource h = tt
early_loss ReadTarget h = tt
early_loss ListChanges h = tt
early_loss (Stopped why) h = tt
early_loss f h = absurd h

early_turn : (p : Pass) (x : Turn) → IsEarly p.phase → lists_at p x ≡ false → IsEarly (after_turn p x).phase
early_turn p (answered status body) h e = early_in p.phase p status body refl h e
early_turn p lost h e = lost_by (λ (q : Pass). IsEarly q.phase) p.phase p h tt (early_loss p.phase h)

early_turns : (p : Pass) (ts : List Turn) → IsEarly p.phase → has_listed p ts ≡ false → IsEarly (after_turns p ts).phase
early_turns p [] h e = h
early_turns p (x ∷ ts) h e = by (lists_at p x) refl e (λ f g. early_turns (after_turn p x) ts f g)
  where
    by : (b : Bool) → lists_at p x ≡ b → (b || has_listed (after_turn p x) ts) ≡ false
        → (IsEarly (after_turn p x).phase → has_listed (after_turn p x) ts ≡ false → IsEarly (after_turns (after_turn p x) ts).phase)
        → IsEarly (after_turns (after_turn p x) ts).phase
    by true is k rest = absurd cc
    by false is k rest = rest (early_turn p x h is) k

-- the last list in some events, or none
none_taken : (o : Option Pass) → takes_list o [] ≡ false
none_taken None = refl
none_taken (Some p) = refl

last_list : {S : Type 0} (handling : Handling S) (n : ℕ) (hs : List Happening) (old : Network S) (seen : List Sight) (now : Network S) (p : Plays handling old hs seen now)
    → ((listed : Network S) × ListsLastIn handling n hs old seen now p listed) ⊎ (takes_list (pass_at old.transfers n) (turns_in handling n hs old seen now p) ≡ false)
last_list handling n [] old seen now p = inr (none_taken (pass_at old.transfers n))
last_list {S} handling n (h ∷ hs) old seen now (first, others, between, here, later, order) = by (last_list handling n hs between others now later)
  where
    ts : List Turn
    ts = turns_at handling n h old first between here

    us : List Turn
    us = turns_in handling n hs between others now later

    Found : Type 0
    Found = ((listed : Network S) × ListsLastIn handling n (h ∷ hs) old seen now (first, others, between, here, later, order) listed) ⊎ (takes_list (pass_at old.transfers n) (ts ++ us) ≡ false)

    -- nothing at this event, and nothing later
    neither : (o : Option Pass) → pass_at old.transfers n ≡ o → takes_list o ts ≡ false → takes_list (pass_at between.transfers n) us ≡ false → takes_list o (ts ++ us) ≡ false
    neither None is e f = refl
    neither (Some p) is e f =
        let next : pass_at between.transfers n ≡ Some (after_turns p ts) = event_goes handling n h old first between here p is in
        lists_join p ts us ∙ ap (λ (b : Bool). b || has_listed (after_turns p ts) us) e ∙ ap (λ (o : Option Pass). takes_list o us) (sym next) ∙ f

    here_or : takes_list (pass_at between.transfers n) us ≡ false → (b : Bool) → takes_list (pass_at old.transfers n) ts ≡ b → Found
    here_or none true is = inl (old, inl (refl, is, none))
    here_or none false is = inr (neither (pass_at old.transfers n) refl is none)

    by : ((listed : Network S) × ListsLastIn handling n hs between others now later listed) ⊎ (takes_list (pass_at between.transfers n) us ≡ false) → Found
    by (inl found) = inl (found.0, inr found.1)
    by (inr none) = here_or none (takes_list (pass_at old.transfers n) ts) refl

-- the last list in a course, or none
none_later : (n : ℕ) (old new : Network Contents) (run : Run (alike Steps) old new) (us : List Turn) (o : Option Pass) → pass_at old.transfers n ≡ o → takes_list o (turns_of run n) ≡ false
    → takes_list (pass_at new.transfers n) us ≡ false → takes_list o (turns_of run n ++ us) ≡ false
none_later n old new run us None is e f = refl
none_later n old new run us (Some p) is e f =
    let ts = turns_of run n in
    let next : pass_at new.transfers n ≡ Some (after_turns p ts) = passes_go plain n run.happenings old run.seen new run.played p is in
    lists_join p ts us ∙ ap (λ (b : Bool). b || has_listed (after_turns p ts) us) e ∙ ap (λ (o : Option Pass). takes_list o us) (sym next) ∙ f

none_arranged : (n : ℕ) (old new : Network Contents) (us : List Turn) (o : Option Pass) → pass_at old.transfers n ≡ o → IsArranged old new → takes_list (pass_at new.transfers n) us ≡ false
    → takes_list o us ≡ false
none_arranged n old new us None is a f = refl
none_arranged n old new us (Some p) is a f = ap (λ (o : Option Pass). takes_list o us) (sym (pass_arranged old new n p a is)) ∙ f

last_by : (n : ℕ) (ss : List Stage) (old now : Network Contents) (g : GoesBy Steps ss old now)
    → ((listed : Network Contents) × ListsLastBy Steps n ss old now g listed) ⊎ (takes_list (pass_at old.transfers n) (turns_by Steps n ss old now g) ≡ false)
last_by n [] old now g = inr (none_taken (pass_at old.transfers n))
last_by n (runs ∷ ss) old now (between, run, rest) = by (last_by n ss between now rest)
  where
    us : List Turn
    us = turns_by Steps n ss between now rest

    Found : Type 0
    Found = ((listed : Network Contents) × ListsLastBy Steps n (runs ∷ ss) old now (between, run, rest) listed) ⊎ (takes_list (pass_at old.transfers n) (turns_of run n ++ us) ≡ false)

    here_or : takes_list (pass_at between.transfers n) us ≡ false
        → ((listed : Network Contents) × ListsLast run n listed) ⊎ (takes_list (pass_at old.transfers n) (turns_of run n) ≡ false) → Found
    here_or none (inl found) = inl (found.0, inl (found.1, none))
    here_or none (inr e) = inr (none_later n old between run us (pass_at old.transfers n) refl e none)

    by : ((listed : Network Contents) × ListsLastBy Steps n ss between now rest listed) ⊎ (takes_list (pass_at between.transfers n) us ≡ false) → Found
    by (inl found) = inl (found.0, inr found.1)
    by (inr none) = here_or none (last_list plain n run.happenings old run.seen between run.played)
last_by n (arranges ∷ ss) old now (between, arranged, rest) =
    ⊎_elim (λ found. inl found)
    (λ none. inr (none_arranged n old between (turns_by Steps n ss between now rest) (pass_at old.transfers n) refl arranged none)) (last_by n ss between now rest)

pub done_has_listed_in_courses : DonePassesHaveListedInCourses
done_has_listed_in_courses n c start now course p first at ended = (by (last_by n course.stages start now course.goes), start_is_read)
  where
    turns : List Turn
    turns = turns_by Steps n course.stages start now course.goes

    is : p ≡ after_turns (first_pass c) turns
    is = one_pass p (after_turns (first_pass c) turns) (pass_at now.transfers n) at (passes_along Steps n course.stages start now course.goes (first_pass c) first)

    -- without a list it would not be done
    never : has_listed (first_pass c) turns ≡ false → ⊥
    never none = subst IsEarly (ap (λ (x : Pass). x.phase) (sym is) ∙ ended) (early_turns (first_pass c) turns tt none)

    by : ((listed : Network Contents) × ListsLastThrough course n listed) ⊎ (takes_list (pass_at start.transfers n) turns ≡ false) → (listed : Network Contents) × ListsLastThrough course n listed
    by (inl found) = found
    by (inr none) = absurd (never (ap (λ (o : Option Pass). takes_list o turns) (sym first) ∙ none))

    listed_once : (b : Bool) → has_listed (first_pass c) turns ≡ b → p.start_seq ≡ cond b (start_by c (replies_in turns)) 0 → p.start_seq ≡ start_by c (replies_in turns)
    listed_once true e k = k
    listed_once false e k = absurd (never e)

    start_is_read : p.start_seq ≡ start_by c (replies_in turns)
    start_is_read = listed_once (has_listed (first_pass c) turns) refl (ap (λ (x : Pass). x.start_seq) is ∙ start_is c turns)

-- ---- one run

kept_alone : (t : Transfer) (rs : List (Handled Contents)) → DatabasesStay t rs → DatabasesStay t (rs ++ [])
kept_alone t rs h = subst (DatabasesStay t) (sym (append-nil rs)) h

pub done_owes : DonePassesOweNothing
done_owes n t start listed now later run more p q begins kept l at ended kept_later then id r good leaf gt =
    done_owes_in_courses n t start listed now later (record { stages = runs ∷ []; goes = (now, run, refl) }) (record { stages = runs ∷ []; goes = (later, more, refl) }) p q begins
    (kept_alone t (requests_of run) kept) (inl (l, none_taken (pass_at now.transfers n))) at ended (kept_alone t (requests_of more) kept_later) then id r good leaf gt

pub done_has_listed : DonePassesHaveListed
done_has_listed n c start now run p first at ended = (by all.0, all.1 ∙ ap (λ (ts : List Turn). start_by c (replies_in ts)) (append-nil (turns_of run n)))
  where
    course : Course Steps start now
    course = record { stages = runs ∷ []; goes = (now, run, refl) }

    all : ((listed : Network Contents) × ListsLastThrough course n listed) × (p.start_seq ≡ start_by c (replies_in (turns_of run n ++ [])))
    all = done_has_listed_in_courses n c start now course p first at ended

    in_run : (listed : Network Contents) → ListsLastThrough course n listed → ListsLast run n listed
    in_run listed (inl (l, none)) = l
    in_run listed (inr l) = absurd l

    by : (listed : Network Contents) × ListsLastThrough course n listed → (listed : Network Contents) × ListsLast run n listed
    by found = (found.0, in_run found.0 found.1)
