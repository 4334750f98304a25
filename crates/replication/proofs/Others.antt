-- What each request of others keeps is kept through a piece, and through an exchange of a pass of others.
use Rattle.std.proofs.Common.{◌≡◌, ◌≢◌, ℕ, List, [], ◌∷◌, refl, sym, ap, ◌∙◌, subst}
use Rattle.couch_http.specs.Message.{Message}
use Rattle.couch_http.specs.Reply.{Reply}
use Rattle.store.specs.Contents.{Contents}
use Rattle.hub.specs.Arrival.{Arrival, fault_on, request_on}
use Rattle.repl.specs.Passes.{Asked, done, stopped_by, to_source, to_target}
use Rattle.repl.specs.Turns.{Turn, after_turn}
use Rattle.world.specs.Exchanging.{IsAsked, IsCarried, IsMade, Question, question_to_source, question_to_target}
use Rattle.world.specs.Happening.{Sight}
use Rattle.world.specs.Network.{Network, Transfer, transfer_at}
use Rattle.world.specs.Service.{Asker, Handling, IsAnswered, IsService, SeenReply, by_pass, on_connection}
use Rattle.world.specs.declared.fate.Fate.{Fate}
use Rattle.world.specs.declared.fate.Fate.TheVariants.{Answered, ReplyLost, RequestLost}
use Rattle.replication.proofs.Places.{passed_elsewhere}
use Rattle.replication.proofs.Handlings.{Nodes}

-- the nodes become such ones, and all passes but the one of this number stay
pub record LeavesPasses (P : Nodes → Nodes → Type 0) (number : ℕ) (old new : Network Contents) : Type 0 where
  pub nodes : P old.nodes new.nodes
  pub passes : (m : ℕ) → m ≢ number → transfer_at new.transfers m ≡ transfer_at old.transfers m

module _ (handling : Handling Contents) (P : Nodes → Nodes → Type 0) (same : (a : Nodes) → P a a) (chain : (a b c : Nodes) → P a b → P b c → P a c) (IsOther : Asker → Type 0)
    (each : (who : Asker) (old : Nodes) (place : ℕ) (m : Message) (r : Reply) (new : Nodes) → IsOther who → handling who old place m r new → P old new) where
  others_answer : (homes : List ℕ) (old new : Nodes) (a : Arrival) (s : SeenReply) → ((conn : ℕ) → IsOther (on_connection conn)) → IsAnswered handling homes old a s new → P old new
  others_answer homes old new (request_on conn m) s other h = each (on_connection conn) old _ m s.reply new (other conn) h.1
  others_answer homes old new (fault_on conn f) s other h = subst (λ (x : Nodes). P old x) (sym h.2) (same old)

  pub others_service : (homes : List ℕ) (old new : Nodes) (xs : List Arrival) (ss : List SeenReply) → ((conn : ℕ) → IsOther (on_connection conn)) → IsService handling homes old xs ss new → P old new
  others_service homes old new [] [] other h = subst (λ (x : Nodes). P old x) (sym h) (same old)
  others_service homes old new [] (s ∷ ss) other h = absurd h
  others_service homes old new (x ∷ xs) [] other h = absurd h
  others_service homes old new (x ∷ xs) (s ∷ ss) other h = chain old h.0 new (others_answer homes old h.0 x s other h.1) (others_service homes h.0 new xs ss other h.2)

  others_carried : (fate : Fate) (old new : Nodes) (q : Question) (t : Turn) → IsOther (by_pass q.number fate) → IsCarried handling fate old q t new → P old new
  others_carried Answered old new q t other c = each (by_pass q.number Answered) old q.place q.message c.0 new other c.1
  others_carried ReplyLost old new q t other c = each (by_pass q.number ReplyLost) old q.place q.message c.0 new other c.1
  others_carried RequestLost old new q t other c = subst (λ (x : Nodes). P old x) (sym c.0) (same old)

  unchanged : (number : ℕ) (old new : Network Contents) → new ≡ old → LeavesPasses P number old new
  unchanged number old new e = subst (LeavesPasses P number old) (sym e) (record { nodes = same old.nodes; passes = λ m apart. refl })

  others_made : (fate : Fate) (old new : Network Contents) (q : Question) (seen : List Sight) → IsOther (by_pass q.number fate)
      → IsMade handling fate old q seen new → LeavesPasses P q.number old new
  others_made fate old new q seen other i = record {
    nodes = subst (λ (x : Network Contents). P old.nodes x.nodes) (sym i.left) (others_carried fate old.nodes i.nodes q i.turn other i.carried);
    passes = λ n apart. ap (λ (x : Network Contents). transfer_at x.transfers n) i.left
        ∙ passed_elsewhere old.transfers q.number n (record q.transfer { pass = after_turn q.transfer.pass i.turn }) apart;
  }

  pub others_asked : (fate : Fate) (old new : Network Contents) (number : ℕ) (t : Transfer) (asked : Asked) (seen : List Sight) → IsOther (by_pass number fate)
      → IsAsked handling fate old number t asked seen new → LeavesPasses P number old new
  others_asked fate old new number t (to_source m) seen other i = others_made fate old new (question_to_source number t m) seen other i
  others_asked fate old new number t (to_target m) seen other i = others_made fate old new (question_to_target number t m) seen other i
  others_asked fate old new number t (done s) seen other i = unchanged number old new i.1
  others_asked fate old new number t (stopped_by why s) seen other i = unchanged number old new i.1
