-- The requests that nodes handle in a run, in order, with the nodes before and after each; and what may be said of all of them.
-- RFC 9112, section 9.3.2, for the order on a connection; CouchDB manual, replication/protocol, for passes.
use Rattle.std.specs.Prelude.{◌≡◌, Some, ℕ, List, [], ◌∷◌, ◌++◌}
use Rattle.std.specs.List.{AllByRecursion}
use Rattle.api.specs.Asking.{method_named}
use Rattle.api.specs.Paths.{database_name_in}
use Rattle.api.specs.Routing.{page_of}
use Rattle.api.specs.declared.method.RequestMethod.TheVariants.{Delete}
use Rattle.api.specs.declared.page.Page.TheVariants.{Database as DatabasePage}
use Rattle.couch_http.specs.Message.{Message}
use Rattle.couch_http.specs.Reply.{Reply}
use Rattle.store.specs.Contents.{Contents}
use Rattle.node.specs.Runs.{IsServedReply, Steps}
use Rattle.node.specs.Step.{Serving}
use Rattle.hub.specs.Arrival.{Arrival, fault_on, request_on}
use Rattle.repl.specs.Passes.{Asked, to_source, to_target, asked_of}
use Rattle.repl.specs.Turns.{Turn}
use Rattle.world.specs.Exchanging.{IsAsked, IsCarried, Question, question_to_source, question_to_target}
use Rattle.world.specs.Happening.{Happening, Sight, comes, exchanges}
use Rattle.world.specs.Keeping.{Keeping, StaysAt}
use Rattle.world.specs.Network.{Network, Transfer, node_of_connection}
use Rattle.world.specs.Playing.{Happens, Plays}
use Rattle.world.specs.Service.{Asker, Handling, IsAnswered, IsService, SeenReply, alike, by_pass, on_connection}
use Rattle.world.specs.declared.fate.Fate.{Fate}
use Rattle.world.specs.declared.fate.Fate.TheVariants.{Answered, ReplyLost, RequestLost}
use Rattle.replication.specs.Parted.{Serves}
use Rattle.replication.specs.Runs.{Run, turns_of}

-- a request that a node handled: who asked, the number of the node, its reply, and the nodes before and after
pub record Handled (S : Type 0) : Type 0 where
  pub who : Asker
  pub old : List (Serving S)
  pub place : ℕ
  pub message : Message
  pub reply : Reply
  pub new : List (Serving S)

-- ---- those of a run

module _ {S : Type 0} (handling : Handling S) where
  -- an arrival's: none where the stream is faulty
  abbrev pub handled_answer : (homes : List ℕ) (old : List (Serving S)) (a : Arrival) (told : SeenReply) (new : List (Serving S)) → IsAnswered handling homes old a told new → List (Handled S)
  handled_answer homes old (request_on conn m) told new p = record { who = on_connection conn; old = old; place = node_of_connection homes conn; message = m; reply = told.reply; new = new } ∷ []
  handled_answer homes old (fault_on conn fault) told new p = []

  -- those of several arrivals
  abbrev pub handled_service : (homes : List ℕ) (old : List (Serving S)) (ars : List Arrival) (told : List SeenReply) (new : List (Serving S)) → IsService handling homes old ars told new → List (Handled S)
  handled_service homes old [] [] new p = []
  handled_service homes old [] (t ∷ ts) new p = []
  handled_service homes old (a ∷ ars) [] new p = []
  handled_service homes old (a ∷ ars) (t ∷ ts) new (between, here, later) = handled_answer homes old a t between here ++ handled_service homes between ars ts new later

  -- that of a pass, unless the request is lost
  abbrev pub handled_carry : (fate : Fate) (old : List (Serving S)) (q : Question) (t : Turn) (new : List (Serving S)) → IsCarried handling fate old q t new → List (Handled S)
  handled_carry Answered old q t new c = record { who = by_pass q.number Answered; old = old; place = q.place; message = q.message; reply = c.0; new = new } ∷ []
  handled_carry ReplyLost old q t new c = record { who = by_pass q.number ReplyLost; old = old; place = q.place; message = q.message; reply = c.0; new = new } ∷ []
  handled_carry RequestLost old q t new c = []

  -- that of what a pass asks; a pass that has ended asks nothing
  abbrev pub handled_asked : (fate : Fate) (old : Network S) (number : ℕ) (t : Transfer) (asked : Asked) (seen : List Sight) (new : Network S) → IsAsked handling fate old number t asked seen new
      → List (Handled S)
  handled_asked fate old number t (to_source m) seen new p = handled_carry fate old.nodes (question_to_source number t m) p.turn p.nodes p.carried
  handled_asked fate old number t (to_target m) seen new p = handled_carry fate old.nodes (question_to_target number t m) p.turn p.nodes p.carried
  handled_asked fate old number t ending seen new p = []

  -- those of one event
  abbrev pub handled_at : (h : Happening) (old : Network S) (seen : List Sight) (new : Network S) → Happens handling old h seen new → List (Handled S)
  handled_at (comes piece) old seen new (told, played, same) = handled_service old.homes old.nodes played.arrivals told new.nodes played.served
  handled_at (exchanges number fate) old seen new p = handled_asked fate old number p.transfer (asked_of p.transfer.pass) seen new p.asked

  -- those of several events
  abbrev pub handled_in : (hs : List Happening) (old : Network S) (seen : List Sight) (new : Network S) → Plays handling old hs seen new → List (Handled S)
  handled_in [] old seen new p = []
  handled_in (h ∷ hs) old seen new (first, others, between, here, later, order) = handled_at h old first between here ++ handled_in hs between others new later

-- the requests that nodes handled in a run
abbrev pub requests_of : {S : Type 0} {handling : Handling S} {old new : Network S} → Run handling old new → List (Handled S)
requests_of {S} {handling} {old} {new} run = handled_in handling run.happenings old run.seen new run.played

-- ---- what is said of all of them

-- both databases of a pass stay there, at each request
abbrev pub DatabasesStay : Transfer → List (Handled Contents) → Type 0
DatabasesStay t rs =
    AllByRecursion (λ (r : Handled Contents). StaysAt r.old r.new t.from t.pass.configuration.source_db × StaysAt r.old r.new t.to t.pass.configuration.target_db) rs

-- a request to remove the database of this name
pub record AsksRemoval (m : Message) (name : List ℕ) : Type 0 where
  pub page : page_of m.path ≡ Some DatabasePage
  pub method : method_named m.method ≡ Some Delete
  pub names : database_name_in m.path ≡ Some name

-- none of them asks to remove a database of a pass
abbrev pub AreNoRemovals : Transfer → List (Handled Contents) → Type 0
AreNoRemovals t rs =
    AllByRecursion (λ (r : Handled Contents). (r.place ≡ t.from → ¬ (AsksRemoval r.message t.pass.configuration.source_db)) × (r.place ≡ t.to → ¬ (AsksRemoval r.message t.pass.configuration.target_db))) rs

-- no request is answered with 500 or 503
abbrev pub AreAllServed : {S : Type 0} → List (Handled S) → Type 0
AreAllServed {S} rs = AllByRecursion (λ (r : Handled S). IsServedReply r.reply) rs

-- the same events, what is seen of them, and the turns of each pass
pub record IsSameRun {S : Type 0} {handling other : Handling S} {old new : Network S} (run : Run handling old new) (again : Run other old new) : Type 0 where
  pub happenings : again.happenings ≡ run.happenings
  pub seen : again.seen ≡ run.seen
  pub turns : (n : ℕ) → turns_of again n ≡ turns_of run n

-- A run in which both databases of a pass stay there is one that keeps them.
abbrev pub RunsThatKeep : Type 0
RunsThatKeep =
    (t : Transfer) (old new : Network Contents) (run : Run (alike Steps) old new) → DatabasesStay t (requests_of run) → (again : Run (Keeping t) old new) × IsSameRun run again

-- A run in which no request is answered with 500 or 503 is one in which each is served.
abbrev pub RunsThatServe : Type 0
RunsThatServe = (old new : Network Contents) (run : Run (alike Steps) old new) → AreAllServed (requests_of run) → (again : Run (Serves Steps) old new) × IsSameRun run again
