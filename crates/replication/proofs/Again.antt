-- A run all of whose requests are of a kind is a run of that kind.
use Rattle.std.proofs.Common.{◌≡◌, ◌∙◌, inl, inr, ◌==◌, ℕ, cond, List, [], ◌∷◌, ◌++◌, refl, ap}
use Rattle.std.specs.List.{AllByRecursion}
use Rattle.couch_http.specs.Message.{Message}
use Rattle.couch_http.specs.Reply.{Reply}
use Rattle.store.specs.Contents.{Contents}
use Rattle.node.specs.Runs.{IsServedReply, Steps}
use Rattle.node.specs.Step.{Serving}
use Rattle.hub.specs.Arrival.{Arrival, fault_on, request_on}
use Rattle.repl.specs.Passes.{Asked, to_source, to_target, done, stopped_by, asked_of}
use Rattle.repl.specs.Turns.{Turn}
use Rattle.world.specs.Exchanging.{IsAsked, IsCarried, Question, question_to_source, question_to_target}
use Rattle.world.specs.Happening.{Happening, Sight, comes, exchanges}
use Rattle.world.specs.Keeping.{Keeping, StaysAt}
use Rattle.world.specs.Network.{Network, Transfer, node_of_connection}
use Rattle.world.specs.Playing.{Happens, Plays}
use Rattle.world.specs.Service.{Asker, Handling, IsAnswered, IsHandled, IsService, SeenReply, alike, by_pass, on_connection}
use Rattle.world.specs.declared.fate.Fate.{Fate}
use Rattle.world.specs.declared.fate.Fate.TheVariants.{Answered, ReplyLost, RequestLost}
use Rattle.replication.specs.Finished.{ListsLastIn, takes_list}
use Rattle.replication.specs.Parted.{Serves}
use Rattle.replication.specs.Requests.{Handled, IsSameRun, RunsThatKeep, RunsThatServe, handled_answer, handled_asked, handled_at, handled_carry, handled_in, handled_service}
use Rattle.replication.specs.Runs.{Run, pass_at, turns_asked, turns_at, turns_in}

pub front : {A : Type 0} (P : A → Type 0) (xs ys : List A) → AllByRecursion P (xs ++ ys) → AllByRecursion P xs
front P [] ys h = tt
front P (x ∷ xs) ys h = (h.0, front P xs ys h.1)

pub back : {A : Type 0} (P : A → Type 0) (xs ys : List A) → AllByRecursion P (xs ++ ys) → AllByRecursion P ys
back P [] ys h = h
back P (x ∷ xs) ys h = back P xs ys h.1

module _ {S : Type 0} (handling other : Handling S) (Q : Handled S → Type 0)
    (each : (who : Asker) (old : List (Serving S)) (place : ℕ) (m : Message) (r : Reply) (new : List (Serving S)) → handling who old place m r new
    → Q (record { who = who; old = old; place = place; message = m; reply = r; new = new }) → other who old place m r new) where
  answer_again : (homes : List ℕ) (old : List (Serving S)) (a : Arrival) (t : SeenReply) (new : List (Serving S)) (p : IsAnswered handling homes old a t new)
      → AllByRecursion Q (handled_answer handling homes old a t new p) → IsAnswered other homes old a t new
  answer_again homes old (request_on conn m) t new p h = (p.0, each (on_connection conn) old (node_of_connection homes conn) m t.reply new p.1 h.0)
  answer_again homes old (fault_on conn f) t new p h = p

  service_again : (homes : List ℕ) (old : List (Serving S)) (ars : List Arrival) (ts : List SeenReply) (new : List (Serving S)) (p : IsService handling homes old ars ts new)
      → AllByRecursion Q (handled_service handling homes old ars ts new p) → IsService other homes old ars ts new
  service_again homes old [] [] new p h = p
  service_again homes old [] (t ∷ ts) new p h = absurd p
  service_again homes old (a ∷ ars) [] new p h = absurd p
  service_again homes old (a ∷ ars) (t ∷ ts) new (between, here, later) h =
      let rs = handled_answer handling homes old a t between here in
      let rest = handled_service handling homes between ars ts new later in
      (between, answer_again homes old a t between here (front Q rs rest h), service_again homes between ars ts new later (back Q rs rest h))

  carried_again : (fate : Fate) (old : List (Serving S)) (q : Question) (t : Turn) (new : List (Serving S)) (c : IsCarried handling fate old q t new)
      → AllByRecursion Q (handled_carry handling fate old q t new c) → IsCarried other fate old q t new
  carried_again Answered old q t new c h = (c.0, each (by_pass q.number Answered) old q.place q.message c.0 new c.1 h.0, c.2)
  carried_again ReplyLost old q t new c h = (c.0, each (by_pass q.number ReplyLost) old q.place q.message c.0 new c.1 h.0, c.2)
  carried_again RequestLost old q t new c h = c

  asked_again : (fate : Fate) (old : Network S) (number : ℕ) (t : Transfer) (asked : Asked) (seen : List Sight) (new : Network S) (p : IsAsked handling fate old number t asked seen new)
      → AllByRecursion Q (handled_asked handling fate old number t asked seen new p)
      → (q : IsAsked other fate old number t asked seen new) × (turns_asked other fate old number t asked seen new q ≡ turns_asked handling fate old number t asked seen new p)
  asked_again fate old number t (to_source m) seen new p h =
      (record { turn = p.turn; nodes = p.nodes; carried = carried_again fate old.nodes (question_to_source number t m) p.turn p.nodes p.carried h; sight = p.sight; left = p.left }, refl)
  asked_again fate old number t (to_target m) seen new p h =
      (record { turn = p.turn; nodes = p.nodes; carried = carried_again fate old.nodes (question_to_target number t m) p.turn p.nodes p.carried h; sight = p.sight; left = p.left }, refl)
  asked_again fate old number t (done s) seen new p h = (p, refl)
  asked_again fate old number t (stopped_by why s) seen new p h = (p, refl)

  -- an event of the other kind, with the same turns
  abbrev EventAgain : (h : Happening) (old : Network S) (seen : List Sight) (new : Network S) → Happens handling old h seen new → Type 0
  EventAgain h old seen new p = (q : Happens other old h seen new) × ((n : ℕ) → turns_at other n h old seen new q ≡ turns_at handling n h old seen new p)

  event_again : (h : Happening) (old : Network S) (seen : List Sight) (new : Network S) (p : Happens handling old h seen new) → AllByRecursion Q (handled_at handling h old seen new p)
      → EventAgain h old seen new p
  event_again (comes piece) old seen new (told, played, same) h = (
    (
      told,
      record {
        arrivals = played.arrivals;
        brought = played.brought;
        served = service_again old.homes old.nodes played.arrivals told new.nodes played.served h;
        homes = played.homes;
        transfers = played.transfers;
      },
      same,
    ),
    λ n. refl,
  )
  event_again (exchanges number fate) old seen new p h =
      let q = asked_again fate old number p.transfer (asked_of p.transfer.pass) seen new p.asked h in (
        record { transfer = p.transfer; there = p.there; asked = q.0 },
        λ n. ap (λ (ts : List Turn). cond (number == n) ts []) q.1,
      )

  abbrev PlaysAgain : (hs : List Happening) (old : Network S) (seen : List Sight) (new : Network S) → Plays handling old hs seen new → Type 0
  PlaysAgain hs old seen new p = (q : Plays other old hs seen new) × ((n : ℕ) → turns_in other n hs old seen new q ≡ turns_in handling n hs old seen new p)

  pub plays_again : (hs : List Happening) (old : Network S) (seen : List Sight) (new : Network S) (p : Plays handling old hs seen new) → AllByRecursion Q (handled_in handling hs old seen new p)
      → PlaysAgain hs old seen new p
  plays_again [] old seen new p h = (p, λ n. refl)
  plays_again (h ∷ hs) old seen new (first, others, between, here, later, order) k =
      let rs = handled_at handling h old first between here in
      let rest = handled_in handling hs between others new later in
      let one = event_again h old first between here (front Q rs rest k) in
      let more = plays_again hs between others new later (back Q rs rest k) in (
        (first, others, between, one.0, more.0, order),
        λ n. ap (λ (ts : List Turn). ts ++ turns_in other n hs between others new more.0) (one.1 n) ∙ ap (λ (ts : List Turn). turns_at handling n h old first between here ++ ts) (more.1 n),
      )

  -- its last list is of the same network
  pub lists_again : (n : ℕ) (hs : List Happening) (old : Network S) (seen : List Sight) (new : Network S) (p : Plays handling old hs seen new) (k : AllByRecursion Q (handled_in handling hs old seen new p))
      (listed : Network S) → ListsLastIn handling n hs old seen new p listed → ListsLastIn other n hs old seen new (plays_again hs old seen new p k).0 listed
  unfolding plays_again event_again
  lists_again n [] old seen new p k listed l = absurd l
  lists_again n (h ∷ hs) old seen new (first, others, between, here, later, order) k listed (inl (same, lists, none)) =
      let rs = handled_at handling h old first between here in
      let rest = handled_in handling hs between others new later in
      let one = event_again h old first between here (front Q rs rest k) in
      let more = plays_again hs between others new later (back Q rs rest k) in
      inl (same, ap (takes_list (pass_at old.transfers n)) (one.1 n) ∙ lists, ap (takes_list (pass_at between.transfers n)) (more.1 n) ∙ none)
  lists_again n (h ∷ hs) old seen new (first, others, between, here, later, order) k listed (inr l) =
      inr (lists_again n hs between others new later (back Q (handled_at handling h old first between here) (handled_in handling hs between others new later) k) listed l)

  pub run_again : (old new : Network S) (run : Run handling old new) → AllByRecursion Q (handled_in handling run.happenings old run.seen new run.played) → (again : Run other old new) × IsSameRun run again
  run_again old new run h =
      let k = plays_again run.happenings old run.seen new run.played h in
      (record { happenings = run.happenings; seen = run.seen; played = k.0 }, record { happenings = refl; seen = refl; turns = k.1 })

-- both databases of a pass stay at a request
abbrev pub Stays : Transfer → Handled Contents → Type 0
Stays t r = StaysAt r.old r.new t.from t.pass.configuration.source_db × StaysAt r.old r.new t.to t.pass.configuration.target_db

pub keeping : (t : Transfer) (who : Asker) (a : List (Serving Contents)) (place : ℕ) (m : Message) (r : Reply) (b : List (Serving Contents)) → IsHandled Steps a place m r b
    → Stays t (record { who = who; old = a; place = place; message = m; reply = r; new = b }) → Keeping t who a place m r b
keeping t who a place m r b handled stays = (handled, stays.0, stays.1)

pub that_keep : RunsThatKeep
that_keep t old new run h = run_again (alike Steps) (Keeping t) (Stays t) (keeping t) old new run h

pub that_serve : RunsThatServe
that_serve old new run h =
    run_again (alike Steps) (Serves Steps) (λ r. IsServedReply r.reply) (λ who a place m r b handled served. (handled, served)) old new run h
