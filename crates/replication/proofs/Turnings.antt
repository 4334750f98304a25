-- An exchange of a pass is a turn of it.
use Rattle.std.proofs.Common.{◌≡◌, ◌≢◌, ◌⊎◌, inl, inr, ℕ, Bool, true, false, List, [], refl, sym, ap, ◌∙◌, subst}
use Rattle.std.specs.Prelude.{⊤}
use Rattle.couch_http.specs.Message.{Message}
use Rattle.couch_http.specs.Reply.{Reply}
use Rattle.couch_json.specs.Value.{Value}
use Rattle.store.specs.Contents.{Contents}
use Rattle.store.specs.Database.{Database}
use Rattle.node.specs.Runs.{Steps}
use Rattle.repl.specs.Calls.{Call, compare_revisions, list_changes, open_revisions, read_checkpoint, request_of, write_checkpoint}
use Rattle.repl.specs.Checkpoints.{checkpoint_id}
use Rattle.repl.specs.Configuration.{PassConfiguration}
use Rattle.repl.specs.Passes.{Pass, answered_in, asked_by, checkpoint_after, first_of_pending, lost_of, step_in}
use Rattle.repl.specs.Turns.{Turn, after_turn, answered, lost}
use Rattle.repl.specs.declared.phase.Phase.{Phase}
use Rattle.repl.specs.declared.phase.Phase.TheVariants.{ReadSource, ReadTarget, ListChanges, Compare, Open, Push, WriteSource, WriteTarget, RereadSource, RereadTarget, Done, Stopped}
use Rattle.repl.specs.declared.side.Side.{Side}
use Rattle.repl.specs.declared.side.Side.TheVariants.{Source, Target}
use Rattle.passes.specs.Owed.{IsTruth, SaysTruth, Scene, listed_after}
use Rattle.world.specs.Exchanging.{IsAsked, IsCarried, IsMade, Question}
use Rattle.world.specs.Happening.{Sight}
use Rattle.world.specs.Keeping.{StaysAt}
use Rattle.world.specs.Network.{Network, Transfer, with_transfer}
use Rattle.world.specs.Service.{Asker, Handling, IsHandled, by_pass}
use Rattle.world.specs.declared.fate.Fate.{Fate}
use Rattle.world.specs.declared.fate.Fate.TheVariants.{Answered, ReplyLost, RequestLost}
use Rattle.replication.specs.Finished.{IsTold, database_at}
use Rattle.replication.proofs.Keepings.{LawfulAt}
use Rattle.replication.proofs.Sound.{IsSound, asks_lawfully, lost_sound}
use Rattle.replication.proofs.Truths.{IsHandledFor, taken_rightly}
use Rattle.replication.specs.Appended.{Appends, KeepsDocuments}
use Rattle.replication.specs.Crossing.{BringsShown, IsTurn, pushed_in}
use Rattle.replication.specs.Written.{AsksLawfully, is_push}
use Rattle.replication.proofs.Handlings.{BothBecome, Nodes, appends_none, into, opens_shown, pushed, quiet}
use Rattle.replication.proofs.Quiet.{same_documents}

-- ---- by phase

-- the pass after a turn in a phase
abbrev pub after_in : Phase → Pass → Turn → Pass
after_in f p (answered status body) = answered_in f p status body
after_in f p lost = lost_of p

abbrev pub TruthIn : Phase → Pass → Database → Database → Turn → Type 0
TruthIn f p source target (answered status body) = IsTruth f p source target status body
TruthIn f p source target lost = ⊤

-- the pass had a turn
pub record HasTurn (number : ℕ) (x : Transfer) (f : Phase) (p : Pass) (old new : Network Contents) : Type 0 where
  pub turn : Turn
  pub after : Pass
  pub is : after ≡ after_turn p turn
  pub transfers : new.transfers ≡ with_transfer old.transfers number (record x { pass = after })
  pub both : BothBecome x p.configuration (pushed_in f p) old.nodes new.nodes
  pub sound : IsSound (after_in f p turn)
  pub truth : TruthIn f p (database_at old.nodes x.from p.configuration.source_db) (database_at new.nodes x.to p.configuration.target_db) turn
  pub shown : BringsShown f p (database_at old.nodes x.from p.configuration.source_db) turn

-- nothing happens to the nodes
unchanged : (x : Transfer) (f : Phase) (p : Pass) (old new : Nodes) → new ≡ old → BothBecome x p.configuration (pushed_in f p) old new
unchanged x f p old new e =
    subst (λ (n : Nodes). BothBecome x p.configuration (pushed_in f p) old n) (sym e)
    (record {
      source = (same_documents (database_at old x.from p.configuration.source_db), λ db at. (db, at));
      target = (
        appends_none (pushed_in f p) (database_at old x.to p.configuration.target_db) (database_at old x.to p.configuration.target_db) (same_documents (database_at old x.to p.configuration.target_db)),
        λ db at. (db, at),
      );
      others = λ q name away. (same_documents (database_at old q name), λ db at. (db, at));
      lawful = λ h. h;
    })

module _ (handling : Handling Contents) (handled : (who : Asker) (old : Nodes) (place : ℕ) (m : Message) (r : Reply) (new : Nodes) → handling who old place m r new → IsHandled Steps old place m r new)
    (fate : Fate) (old new : Network Contents) (number : ℕ) (x : Transfer) (seen : List Sight) (told : IsTold x.pass.configuration)
    (apart : x.from ≡ x.to → x.pass.configuration.source_db ≢ x.pass.configuration.target_db) (lawful : LawfulAt old.nodes) (sound : IsSound x.pass) where
  -- a request that is made at a place
  made : (f : Phase) (place : ℕ) (is_to_target : Bool) (m : Message)
      → ((r : Reply) (nodes : Nodes) → IsHandled Steps old.nodes place m r nodes → IsHandledFor x (asked_by x.pass (step_in f x.pass)) old.nodes r nodes)
      → ((r : Reply) (nodes : Nodes) → IsHandled Steps old.nodes place m r nodes → BothBecome x x.pass.configuration (pushed_in f x.pass) old.nodes nodes)
      → ((r : Reply) (nodes : Nodes) → IsHandled Steps old.nodes place m r nodes → BringsShown f x.pass (database_at old.nodes x.from x.pass.configuration.source_db) (answered r.status r.body))
      → IsMade handling fate old (record { number = number; transfer = x; place = place; is_to_target = is_to_target; message = m }) seen new → HasTurn number x f x.pass old new
  made f place is_to_target m into effect shown i = by fate i.turn i.carried transfers_are
    where
      q : Question
      q = record { number = number; transfer = x; place = place; is_to_target = is_to_target; message = m }

      nodes_are : new.nodes ≡ i.nodes
      nodes_are = ap (λ (n : Network Contents). n.nodes) i.left

      transfers_are : new.transfers ≡ with_transfer old.transfers number (record x { pass = after_turn x.pass i.turn })
      transfers_are = ap (λ (n : Network Contents). n.transfers) i.left

      to_new : (r : Reply) → IsHandled Steps old.nodes place m r i.nodes → IsHandled Steps old.nodes place m r new.nodes
      to_new r h = subst (λ (n : Nodes). IsHandled Steps old.nodes place m r n) (sym nodes_are) h

      -- what was lost, by what became of the nodes
      without : (t : Turn) → t ≡ lost → new.transfers ≡ with_transfer old.transfers number (record x { pass = after_turn x.pass t })
          → BothBecome x x.pass.configuration (pushed_in f x.pass) old.nodes new.nodes → HasTurn number x f x.pass old new
      without t is transfers both = record {
        turn = lost;
        after = after_turn x.pass t;
        is = ap (after_turn x.pass) is;
        transfers = transfers;
        both = both;
        sound = lost_sound x.pass sound;
        truth = tt;
        shown = tt;
      }

      by : (g : Fate) (t : Turn) → IsCarried handling g old.nodes q t i.nodes → new.transfers ≡ with_transfer old.transfers number (record x { pass = after_turn x.pass t })
          → HasTurn number x f x.pass old new
      by Answered t c transfers =
          let h = to_new c.0 (handled (by_pass number Answered) old.nodes place m c.0 i.nodes c.1) in
          let right = taken_rightly x f x.pass old.nodes new.nodes c.0 told lawful sound (into c.0 new.nodes h) in
          record {
            turn = answered c.0.status c.0.body;
            after = after_turn x.pass t;
            is = ap (after_turn x.pass) c.2;
            transfers = transfers;
            both = effect c.0 new.nodes h;
            sound = right.sound;
            truth = right.truth;
            shown = shown c.0 new.nodes h;
          }
      by ReplyLost t c transfers = without t c.2 transfers (effect c.0 new.nodes (to_new c.0 (handled (by_pass number ReplyLost) old.nodes place m c.0 i.nodes c.1)))
      by RequestLost t c transfers = without t c.1 transfers (unchanged x f x.pass old.nodes new.nodes (nodes_are ∙ c.0))

  abbrev its_configuration : PassConfiguration
  its_configuration = x.pass.configuration

  -- a call that pushes nothing
  made_quietly : (f : Phase) (place : ℕ) (is_to_target : Bool) (side : Side) (call : Call) → is_push call ≡ false → AsksLawfully call → pushed_in f x.pass ≡ []
      → ((r : Reply) (nodes : Nodes) → IsHandled Steps old.nodes place (request_of its_configuration side call) r nodes → IsHandledFor x (asked_by x.pass (step_in f x.pass)) old.nodes r nodes)
      → ((r : Reply) (nodes : Nodes) → IsHandled Steps old.nodes place (request_of its_configuration side call) r nodes → BringsShown f x.pass (database_at old.nodes x.from its_configuration.source_db) (answered r.status r.body))
      → IsMade handling fate old (record { number = number; transfer = x; place = place; is_to_target = is_to_target; message = request_of its_configuration side call }) seen new → HasTurn number x f x.pass old new
  made_quietly f place is_to_target side call other asks none into shown i =
      made f place is_to_target (request_of its_configuration side call) into
      (λ r nodes h. subst (λ (ds : List Value). BothBecome x its_configuration ds old.nodes nodes) (sym none) (quiet x its_configuration told apart old.nodes nodes r place side call other asks h)) shown i

  pub turned : (f : Phase) → IsAsked handling fate old number x (asked_by x.pass (step_in f x.pass)) seen new → (new ≡ old) ⊎ HasTurn number x f x.pass old new
  turned ReadSource i = inr (made_quietly ReadSource x.from false Source (read_checkpoint (checkpoint_id its_configuration)) refl tt refl (λ r nodes h. h) (λ r nodes h. tt) i)
  turned ReadTarget i = inr (made_quietly ReadTarget x.to true Target (read_checkpoint (checkpoint_id its_configuration)) refl tt refl (λ r nodes h. h) (λ r nodes h. tt) i)
  turned ListChanges i = inr (made_quietly ListChanges x.from false Source (list_changes x.pass.since its_configuration.batch) refl tt refl (λ r nodes h. h) (λ r nodes h. tt) i)
  turned Compare i =
      inr (made_quietly Compare x.to true Target (compare_revisions x.pass.leaves) refl (asks_lawfully x.pass.leaves sound.leaves) refl (λ r nodes h. h) (λ r nodes h. tt) i)
  turned Open i =
      inr (made_quietly Open x.from false Source (open_revisions (first_of_pending x.pass.pending)) refl tt refl (λ r nodes h. h)
      (λ r nodes h. opens_shown its_configuration told x.from x.pass old.nodes nodes r sound h) i)
  turned Push i =
      inr (made Push x.to true _ (λ r nodes h. h) (λ r nodes h. pushed x its_configuration told apart old.nodes nodes r x.pass.documents sound.documents h) (λ r nodes h. tt) i)
  turned WriteSource i =
      inr (made_quietly WriteSource x.from false Source (write_checkpoint (checkpoint_id its_configuration) (checkpoint_after x.pass x.pass.source_revision)) refl tt refl (λ r nodes h. h) (λ r nodes h. tt) i)
  turned WriteTarget i =
      inr (made_quietly WriteTarget x.to true Target (write_checkpoint (checkpoint_id its_configuration) (checkpoint_after x.pass x.pass.target_revision)) refl tt refl (λ r nodes h. h) (λ r nodes h. tt) i)
  turned RereadSource i = inr (made_quietly RereadSource x.from false Source (read_checkpoint (checkpoint_id its_configuration)) refl tt refl (λ r nodes h. h) (λ r nodes h. tt) i)
  turned RereadTarget i = inr (made_quietly RereadTarget x.to true Target (read_checkpoint (checkpoint_id its_configuration)) refl tt refl (λ r nodes h. h) (λ r nodes h. tt) i)
  turned Done i = inl i.1
  turned (Stopped why) i = inl i.1

-- ---- the scene after a turn

abbrev pub scene_with : Database → Database → Database → Pass → Scene
scene_with source target listed p = record { source = source; target = target; listed = listed; pass = p }

-- a turn as the scenes have it
pub record HasTurned (number : ℕ) (x : Transfer) (old new : Network Contents) (source target listed : Database) : Type 0 where
  pub source_now : Database
  pub target_now : Database
  pub turn : Turn
  pub source_at : database_at new.nodes x.from x.pass.configuration.source_db ≡ source_now
  pub target_at : database_at new.nodes x.to x.pass.configuration.target_db ≡ target_now
  pub source_stays : StaysAt old.nodes new.nodes x.from x.pass.configuration.source_db
  pub target_stays : StaysAt old.nodes new.nodes x.to x.pass.configuration.target_db
  pub is : IsTurn turn (scene_with source target listed x.pass) (scene_with source_now target_now (listed_after x.pass.phase source listed turn) (after_turn x.pass turn))
  pub sound : IsSound (after_turn x.pass turn)
  pub lawful : LawfulAt new.nodes
  pub transfers : new.transfers ≡ with_transfer old.transfers number (record x { pass = after_turn x.pass turn })

says : (x : Transfer) (source target listed source_now target_now listed_now : Database) (q : Pass) (t : Turn) → TruthIn x.pass.phase x.pass source target_now t
    → SaysTruth (scene_with source target listed x.pass) (scene_with source_now target_now listed_now q) t
says x source target listed source_now target_now listed_now q (answered status body) h = h
says x source target listed source_now target_now listed_now q lost h = tt

pub sound_after : (p : Pass) (t : Turn) → IsSound (after_in p.phase p t) → IsSound (after_turn p t)
sound_after p (answered status body) h = h
sound_after p lost h = h

pub has_turned : (number : ℕ) (x : Transfer) (old new : Network Contents) (source target listed : Database) → LawfulAt old.nodes → database_at old.nodes x.from x.pass.configuration.source_db ≡ source
    → database_at old.nodes x.to x.pass.configuration.target_db ≡ target → HasTurn number x x.pass.phase x.pass old new → HasTurned number x old new source target listed
has_turned number x old new source target listed lawful at to h =
    let s = into old.nodes x.from x.pass.configuration.source_db new.nodes KeepsDocuments h.both.source source at in
    let d = into old.nodes x.to x.pass.configuration.target_db new.nodes (Appends (pushed_in x.pass.phase x.pass)) h.both.target target to in
    record {
      source_now = s.0;
      target_now = d.0;
      turn = h.turn;
      source_at = s.1;
      target_at = d.1;
      source_stays = h.both.source.1;
      target_stays = h.both.target.1;
      is = record {
        source = s.2;
        target = d.2;
        pass = refl;
        listed = refl;
        truth = says x source target listed s.0 d.0 (listed_after x.pass.phase source listed h.turn) (after_turn x.pass h.turn) h.turn (subst (λ (y : Database). TruthIn x.pass.phase x.pass y d.0 h.turn) at h.truth);
        shown = subst (λ (y : Database). BringsShown x.pass.phase x.pass y h.turn) at h.shown;
      };
      sound = sound_after x.pass h.turn h.sound;
      lawful = h.both.lawful lawful;
      transfers = h.transfers ∙ ap (λ (q : Pass). with_transfer old.transfers number (record x { pass = q })) h.is;
    }
