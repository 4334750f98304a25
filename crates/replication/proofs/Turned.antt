-- Through a run each pass becomes what its turns make of it, and their statuses are seen.
use Rattle.std.proofs.Common.{◌≡◌, ◌≢◌, ◌∙◌, ◌==◌, ℕ, Bool, true, false, cond, List, [], ◌∷◌, ◌++◌, map, Option, Some, option_map, eqb-true, eq-eqb, refl, sym, ap}
use Rattle.repl.specs.Passes.{Asked, Pass, to_source, to_target, done, stopped_by, asked_of, first_pass}
use Rattle.repl.specs.Turns.{Turn, after_turn, after_turns}
use Rattle.repl.proofs.ReportLemmas.{all_told}
use Rattle.repl.proofs.StartLemmas.{start_is}
use Rattle.repl.proofs.StopLemmas.{stop_cause}
use Rattle.world.specs.Exchanging.{IsAsked, IsMade, Question, question_to_source, question_to_target, status_of_turn}
use Rattle.world.specs.Happening.{Happening, Sight, comes, ended, exchanged, exchanges, replied}
use Rattle.world.specs.Network.{Network, Transfer, transfer_at}
use Rattle.world.specs.Playing.{Happens, Plays, all_replied}
use Rattle.world.specs.Service.{Handling, SeenReply, StepOf, alike}
use Rattle.world.specs.declared.fate.Fate.{Fate}
use Rattle.replication.specs.Courses.{GoesBy, IsArranged, Stage, arranges, runs, turns_by}
use Rattle.replication.specs.Reported.{PassesGoByTurns, ReportsAreToldInCourses, StartsAreReadInCourses, StopsHaveCausesInCourses, TurnsAreSeen, statuses_of}
use Rattle.replication.specs.Runs.{pass_at, turns_asked, turns_at, turns_in}
use Rattle.replication.proofs.Places.{one_transfer, passed_elsewhere, passed_here}
use Rattle.replication.proofs.Shapes.{mapped_of}

pub turns_join : (p : Pass) (xs ys : List Turn) → after_turns p (xs ++ ys) ≡ after_turns (after_turns p xs) ys
turns_join p [] ys = refl
turns_join p (x ∷ xs) ys = turns_join (after_turn p x) xs ys

statuses_join : (n : ℕ) (xs ys : List Sight) → statuses_of n (xs ++ ys) ≡ statuses_of n xs ++ statuses_of n ys
statuses_join n [] ys = refl
statuses_join n (replied t ∷ xs) ys = statuses_join n xs ys
statuses_join n (exchanged number is_to_target m status ∷ xs) ys = by (number == n) (statuses_join n xs ys)
  where
    by : (b : Bool) → statuses_of n (xs ++ ys) ≡ statuses_of n xs ++ statuses_of n ys
        → cond b (status ∷ statuses_of n (xs ++ ys)) (statuses_of n (xs ++ ys)) ≡ cond b (status ∷ statuses_of n xs) (statuses_of n xs) ++ statuses_of n ys
    by true rest = ap (λ (zs : List ℕ). status ∷ zs) rest
    by false rest = rest
statuses_join n (ended number asked ∷ xs) ys = statuses_join n xs ys

map_join : (xs ys : List Turn) → map status_of_turn (xs ++ ys) ≡ map status_of_turn xs ++ map status_of_turn ys
map_join [] ys = refl
map_join (x ∷ xs) ys = ap (λ (zs : List ℕ). status_of_turn x ∷ zs) (map_join xs ys)

none_of_replies : (n : ℕ) (ts : List SeenReply) → statuses_of n (all_replied ts) ≡ []
none_of_replies n [] = refl
none_of_replies n (t ∷ ts) = none_of_replies n ts

module _ {S : Type 0} (handling : Handling S) where
  -- the pass takes its turn
  made_takes : (fate : Fate) (old new : Network S) (q : Question) (seen : List Sight) → transfer_at old.transfers q.number ≡ Some q.transfer → (p : IsMade handling fate old q seen new)
      → transfer_at new.transfers q.number ≡ Some (record q.transfer { pass = after_turn q.transfer.pass p.turn })
  made_takes fate old new q seen there p =
      ap (λ (n : Network S). transfer_at n.transfers q.number) p.left
      ∙ passed_here old.transfers q.number q.transfer (record q.transfer { pass = after_turn q.transfer.pass p.turn }) there

  pub asked_takes : (fate : Fate) (old new : Network S) (number : ℕ) (t : Transfer) (asked : Asked) (seen : List Sight) → transfer_at old.transfers number ≡ Some t
      → (p : IsAsked handling fate old number t asked seen new)
      → transfer_at new.transfers number ≡ Some (record t { pass = after_turns t.pass (turns_asked handling fate old number t asked seen new p) })
  asked_takes fate old new number t (to_source m) seen there p = made_takes fate old new (question_to_source number t m) seen there p
  asked_takes fate old new number t (to_target m) seen there p = made_takes fate old new (question_to_target number t m) seen there p
  asked_takes fate old new number t (done s) seen there p = ap (λ (n : Network S). transfer_at n.transfers number) p.1 ∙ there
  asked_takes fate old new number t (stopped_by why s) seen there p = ap (λ (n : Network S). transfer_at n.transfers number) p.1 ∙ there

  made_elsewhere : (fate : Fate) (old new : Network S) (n : ℕ) (q : Question) (seen : List Sight) → n ≢ q.number
      → IsMade handling fate old q seen new → transfer_at new.transfers n ≡ transfer_at old.transfers n
  made_elsewhere fate old new n q seen apart p =
      ap (λ (x : Network S). transfer_at x.transfers n) p.left ∙ passed_elsewhere old.transfers q.number n (record q.transfer { pass = after_turn q.transfer.pass p.turn }) apart

  pub asked_elsewhere : (fate : Fate) (old new : Network S) (number n : ℕ) (t : Transfer) (asked : Asked) (seen : List Sight) → n ≢ number
      → IsAsked handling fate old number t asked seen new → transfer_at new.transfers n ≡ transfer_at old.transfers n
  asked_elsewhere fate old new number n t (to_source m) seen apart p = made_elsewhere fate old new n (question_to_source number t m) seen apart p
  asked_elsewhere fate old new number n t (to_target m) seen apart p = made_elsewhere fate old new n (question_to_target number t m) seen apart p
  asked_elsewhere fate old new number n t (done s) seen apart p = ap (λ (x : Network S). transfer_at x.transfers n) p.1
  asked_elsewhere fate old new number n t (stopped_by why s) seen apart p = ap (λ (x : Network S). transfer_at x.transfers n) p.1

  pub event_takes : (n : ℕ) (h : Happening) (old : Network S) (seen : List Sight) (new : Network S) (t : Transfer) → transfer_at old.transfers n ≡ Some t → (p : Happens handling old h seen new)
      → transfer_at new.transfers n ≡ Some (record t { pass = after_turns t.pass (turns_at handling n h old seen new p) })
  event_takes n (comes piece) old seen new t there p = ap (λ (ts : List Transfer). transfer_at ts n) p.1.transfers ∙ there
  event_takes n (exchanges number fate) old seen new t there p = by (number == n) refl
    where
      turns : List Turn
      turns = turns_asked handling fate old number p.transfer (asked_of p.transfer.pass) seen new p.asked

      by : (b : Bool) → (number == n) ≡ b → transfer_at new.transfers n ≡ Some (record t { pass = after_turns t.pass (cond b turns []) })
      by true is =
          let at : number ≡ n = eqb-true number n is in
          let same : p.transfer ≡ t = one_transfer p.transfer t (sym p.there ∙ ap (transfer_at old.transfers) at ∙ there) in
          ap (transfer_at new.transfers) (sym at)
          ∙ asked_takes fate old new number p.transfer (asked_of p.transfer.pass) seen p.there p.asked
          ∙ ap (λ (u : Transfer). Some (record u { pass = after_turns u.pass turns })) same
      by false is =
          asked_elsewhere fate old new number n p.transfer (asked_of p.transfer.pass) seen
          (λ e. let k : true ≡ false = sym (eq-eqb number n (sym e)) ∙ is in cc) p.asked ∙ there

  pub plays_take : (n : ℕ) (hs : List Happening) (old : Network S) (seen : List Sight) (new : Network S) (t : Transfer) → transfer_at old.transfers n ≡ Some t → (p : Plays handling old hs seen new)
      → transfer_at new.transfers n ≡ Some (record t { pass = after_turns t.pass (turns_in handling n hs old seen new p) })
  plays_take n [] old seen new t there p = ap (λ (x : Network S). transfer_at x.transfers n) p.1 ∙ there
  plays_take n (h ∷ hs) old seen new t there (first, others, between, here, later, order) =
      let turns = turns_at handling n h old first between here in
      plays_take n hs between others new (record t { pass = after_turns t.pass turns }) (event_takes n h old first between t there here) later
      ∙ ap (λ (x : Pass). Some (record t { pass = x })) (sym (turns_join t.pass turns (turns_in handling n hs between others new later)))

  -- ---- what is seen

  made_shows : (fate : Fate) (old new : Network S) (n : ℕ) (q : Question) (seen : List Sight) (p : IsMade handling fate old q seen new)
      → statuses_of n seen ≡ map status_of_turn (cond (q.number == n) (p.turn ∷ []) [])
  made_shows fate old new n q seen p = ap (statuses_of n) p.sight ∙ by (q.number == n)
    where
      by : (b : Bool) → cond b (status_of_turn p.turn ∷ []) [] ≡ map status_of_turn (cond b (p.turn ∷ []) [])
      by true = refl
      by false = refl

  asked_shows : (fate : Fate) (old new : Network S) (number n : ℕ) (t : Transfer) (asked : Asked) (seen : List Sight) → (p : IsAsked handling fate old number t asked seen new)
      → statuses_of n seen ≡ map status_of_turn (cond (number == n) (turns_asked handling fate old number t asked seen new p) [])
  asked_shows fate old new number n t (to_source m) seen p = made_shows fate old new n (question_to_source number t m) seen p
  asked_shows fate old new number n t (to_target m) seen p = made_shows fate old new n (question_to_target number t m) seen p
  asked_shows fate old new number n t (done s) seen p = ap (statuses_of n) p.0 ∙ none (number == n)
    where
      none : (b : Bool) → [] ≡ map status_of_turn (cond b [] [])
      none true = refl
      none false = refl
  asked_shows fate old new number n t (stopped_by why s) seen p = ap (statuses_of n) p.0 ∙ none (number == n)
    where
      none : (b : Bool) → [] ≡ map status_of_turn (cond b [] [])
      none true = refl
      none false = refl

  event_shows : (n : ℕ) (h : Happening) (old : Network S) (seen : List Sight) (new : Network S) (p : Happens handling old h seen new)
      → statuses_of n seen ≡ map status_of_turn (turns_at handling n h old seen new p)
  event_shows n (comes piece) old seen new p = ap (statuses_of n) p.2 ∙ none_of_replies n p.0
  event_shows n (exchanges number fate) old seen new p = asked_shows fate old new number n p.transfer (asked_of p.transfer.pass) seen p.asked

  plays_show : (n : ℕ) (hs : List Happening) (old : Network S) (seen : List Sight) (new : Network S) (p : Plays handling old hs seen new)
      → statuses_of n seen ≡ map status_of_turn (turns_in handling n hs old seen new p)
  plays_show n [] old seen new p = ap (statuses_of n) p.0
  plays_show n (h ∷ hs) old seen new (first, others, between, here, later, order) =
      ap (statuses_of n) order ∙ statuses_join n first others
      ∙ ap (λ (zs : List ℕ). zs ++ statuses_of n others) (event_shows n h old first between here)
      ∙ ap (λ (zs : List ℕ). map status_of_turn (turns_at handling n h old first between here) ++ zs) (plays_show n hs between others new later)
      ∙ sym (map_join (turns_at handling n h old first between here) (turns_in handling n hs between others new later))

-- ---- the pass itself

pub passes_go : {S : Type 0} (handling : Handling S) (n : ℕ) (hs : List Happening) (old : Network S) (seen : List Sight) (new : Network S) (run : Plays handling old hs seen new) (p : Pass)
    → pass_at old.transfers n ≡ Some p → pass_at new.transfers n ≡ Some (after_turns p (turns_in handling n hs old seen new run))
passes_go handling n hs old seen new run p e =
    let m = mapped_of (λ (t : Transfer). t.pass) (transfer_at old.transfers n) p e in
    ap (λ (o : Option Transfer). option_map (λ t. t.pass) o) (plays_take handling n hs old seen new m.first m.was run)
    ∙ ap (λ (x : Pass). Some (after_turns x (turns_in handling n hs old seen new run))) m.is

pub one_pass : (a b : Pass) (o : Option Pass) → o ≡ Some a → o ≡ Some b → a ≡ b
one_pass a b o e f = let k : Some a ≡ Some b = sym e ∙ f in cc

-- a pass that is there stays through what is arranged
pub pass_arranged : {S : Type 0} (old new : Network S) (n : ℕ) (p : Pass) → IsArranged old new → pass_at old.transfers n ≡ Some p → pass_at new.transfers n ≡ Some p
pass_arranged old new n p a e =
    let m = mapped_of (λ (t : Transfer). t.pass) (transfer_at old.transfers n) p e in
    ap (λ (o : Option Transfer). option_map (λ t. t.pass) o) (a.passes n m.first m.was) ∙ ap (λ (x : Pass). Some x) m.is

pub passes_along : {S : Type 0} (step : StepOf S) (n : ℕ) (ss : List Stage) (old new : Network S) (g : GoesBy step ss old new) (p : Pass) → pass_at old.transfers n ≡ Some p
    → pass_at new.transfers n ≡ Some (after_turns p (turns_by step n ss old new g))
passes_along {S} step n [] old new g p e = ap (λ (x : Network S). pass_at x.transfers n) g ∙ e
passes_along step n (runs ∷ ss) old new (between, run, rest) p e =
    let ts = turns_in (alike step) n run.happenings old run.seen between run.played in
    passes_along step n ss between new rest (after_turns p ts) (passes_go (alike step) n run.happenings old run.seen between run.played p e)
    ∙ ap (λ (x : Pass). Some x) (sym (turns_join p ts (turns_by step n ss between new rest)))
passes_along step n (arranges ∷ ss) old new (between, arranged, rest) p e = passes_along step n ss between new rest p (pass_arranged old between n p arranged e)

module _ {S : Type 0} (step : StepOf S) where
  pub go_by_turns : PassesGoByTurns step
  go_by_turns n old new course p e = passes_along step n course.stages old new course.goes p e

  pub are_seen : TurnsAreSeen step
  are_seen n old new run = plays_show (alike step) n run.happenings old run.seen new run.played

  pub told_in_courses : ReportsAreToldInCourses step
  told_in_courses n c old new course p e f =
      let ts = turns_by step n course.stages old new course.goes in
      ap (λ (x : Pass). x.refused) (one_pass p (after_turns (first_pass c) ts) (pass_at new.transfers n) f (go_by_turns n old new course (first_pass c) e)) ∙ all_told c ts

  pub read_in_courses : StartsAreReadInCourses step
  read_in_courses n c old new course p e f =
      let ts = turns_by step n course.stages old new course.goes in
      ap (λ (x : Pass). x.start_seq) (one_pass p (after_turns (first_pass c) ts) (pass_at new.transfers n) f (go_by_turns n old new course (first_pass c) e)) ∙ start_is c ts

  pub caused_in_courses : StopsHaveCausesInCourses step
  caused_in_courses n c old new course p why e f stopped =
      let ts = turns_by step n course.stages old new course.goes in
      stop_cause c ts why
      (ap (λ (x : Pass). x.phase) (one_pass (after_turns (first_pass c) ts) p (pass_at new.transfers n) (go_by_turns n old new course (first_pass c) e) f) ∙ stopped)
