-- What a pass takes in from the nodes of a network is true of its two databases, and keeps the pass sound.
use Rattle.std.proofs.Common.{◌≡◌, ◌≤◌, ◌∙◌, ℕ, List, Option, Some, None, sym, ap, subst, arith}
use Rattle.std.specs.Prelude.{IfSome, ⊤}
use Rattle.std.specs.FinMap.{get}
use Rattle.std.specs.List.{AllByRecursion}
use Rattle.couch_http.specs.Message.{Message}
use Rattle.couch_http.specs.Reply.{Reply}
use Rattle.couch_json.specs.Lawful.{IsLawful}
use Rattle.couch_json.specs.Range.{greatest_count}
use Rattle.couch_json.specs.Value.{Value}
use Rattle.store.specs.Contents.{Contents}
use Rattle.store.specs.Database.{Database, HasSequences}
use Rattle.node.specs.Runs.{Steps}
use Rattle.node.specs.Step.{Serving}
use Rattle.repl.specs.Calls.{Revisions, compare_revisions, list_changes, open_revisions, push_documents, request_of}
use Rattle.repl.specs.Configuration.{PassConfiguration}
use Rattle.repl.specs.Passes.{Asked, Pass, answered_in, answers_list, answers_open, asked_by, done, failures_taken, first_of_pending, list_taken, opened_taken, step_in, stopped_by, to_source, to_target, with_changes, with_failures, with_lacking, with_opened, with_source, with_source_reread, with_source_written, with_target, with_target_reread, with_target_written}
use Rattle.repl.specs.Replies.{Changes, Opened, changes_in_reply, changes_listed, checkpoint_read, checkpoint_written, differences_in_reply, differences_read, documents_pushed, opened_in, revisions_opened}
use Rattle.repl.specs.Shapes.{list_in}
use Rattle.repl.specs.declared.phase.Phase.{Phase}
use Rattle.repl.specs.declared.phase.Phase.TheVariants.{ReadSource, ReadTarget, ListChanges, Compare, Open, Push, WriteSource, WriteTarget, RereadSource, RereadTarget, Done, Stopped}
use Rattle.repl.specs.declared.side.Side.TheVariants.{Source, Target}
use Rattle.repl.proofs.TakenLemmas.{was_said}
use Rattle.passes.specs.Owed.{AreDistinct, Compares, IsTruth, Names, Opens, Pushes}
use Rattle.passes.proofs.Told.{fine, true_comparison, true_listing, true_opening, true_push}
use Rattle.world.specs.Network.{Transfer}
use Rattle.world.specs.Service.{IsHandled}
use Rattle.replication.specs.Finished.{IsTold, database_at, database_of_node, found_or_new}
use Rattle.replication.proofs.Keepings.{LawfulAt, Nodes, lawful_at}
use Rattle.replication.proofs.Places.{set_here}
use Rattle.replication.proofs.Shapes.{AreTexts, changes_read, differences_texts, opened_documents}
use Rattle.replication.proofs.Sound.{IsSound, asks_lawfully, changes_sound, differences_sound, failures_sound, first_texts, id_bytes, keeps_with, list_bytes, list_lawful, opened_sound, pushes_lawfully, read_counted, said_lawfully, source_sound, target_reread_sound, target_sound, target_written_sound}

-- ---- the database of the node that is asked

-- before the step
was_there : (old new : Nodes) (place : ℕ) (m : Message) (r : Reply) (name : List ℕ) (db : Database) (h : IsHandled Steps old place m r new) → get h.node.store name ≡ Some db
    → database_at old place name ≡ db
was_there old new place m r name db h there =
    ap (λ (o : Option (Serving Contents)). found_or_new (database_of_node o name)) h.there ∙ ap found_or_new there

-- after it
is_there : (old new : Nodes) (place : ℕ) (m : Message) (r : Reply) (name : List ℕ) (db : Database) (h : IsHandled Steps old place m r new) → get h.after name ≡ Some db
    → database_at new place name ≡ db
is_there old new place m r name db h there =
    let next : Serving Contents = record h.node { store = h.after } in
    ap (λ (xs : Nodes). database_at xs place name) h.left
    ∙ ap (λ (o : Option (Serving Contents)). found_or_new (database_of_node o name)) (set_here old place h.node next h.there) ∙ ap found_or_new there

small_batch : (batch : Option ℕ) → IfSome batch (λ size. (1 ≤ size) × (size ≤ 1000)) → IfSome batch (λ n. n ≤ greatest_count)
small_batch None h = tt
small_batch (Some n) h = omega (arith, h.1)

-- ---- the four calls whose replies tell of databases

module _ (k : PassConfiguration) (told : IsTold k) (old new : Nodes) where
  listing_true : (place since : ℕ) (r : Reply) (c : Changes) → LawfulAt old → since ≤ greatest_count → IsHandled Steps old place (request_of k Source (list_changes since k.batch)) r new
      → changes_listed r.status r.body ≡ fine c → Names (database_at old place k.source_db) since k.batch c
  listing_true place since r c lawful few h e =
      let m = request_of k Source (list_changes since k.batch) in
      let t = true_listing h.node.configuration h.node.store k since k.batch r h.after c told.source_db few (small_batch k.batch told.batch) h.handled e in
      let at = was_there old new place m r k.source_db t.db h t.there in
      subst (λ (x : Database). Names x since k.batch c) (sym at) (t.says (subst (λ (x : Database). HasSequences x) at (lawful_at old place k.source_db lawful).sequences))

  comparison_true : (place : ℕ) (leaves lacking : List Revisions) (r : Reply) → AreDistinct leaves → AllByRecursion AreTexts leaves
      → IsHandled Steps old place (request_of k Target (compare_revisions leaves)) r new → differences_read leaves r.status r.body ≡ fine lacking
      → Compares (database_at new place k.target_db) leaves lacking
  comparison_true place leaves lacking r distinct texts h e =
      let m = request_of k Target (compare_revisions leaves) in
      let t = true_comparison h.node.configuration h.node.store k leaves lacking r h.after told.target_db distinct (asks_lawfully leaves texts) h.handled e in
      subst (λ (x : Database). Compares x leaves lacking) (sym (is_there old new place m r k.target_db t.db h (ap (λ (x : Contents). get x k.target_db) t.same ∙ t.there))) t.says

  opening_true : (place : ℕ) (row : Revisions) (opened : List Opened) (r : Reply) → AreTexts row → IsHandled Steps old place (request_of k Source (open_revisions row)) r new
      → revisions_opened r.status r.body ≡ fine opened → Opens row opened
  opening_true place row opened r texts h e =
      (true_opening h.node.configuration h.node.store k row opened r h.after told.source_db (id_bytes row texts) (list_bytes row texts) (list_lawful row texts) h.handled e).says

  push_true : (place : ℕ) (documents failures : List Value) (r : Reply) → AllByRecursion IsLawful documents
      → IsHandled Steps old place (request_of k Target (push_documents documents)) r new → documents_pushed r.status r.body ≡ fine failures
      → Pushes (database_at new place k.target_db) documents failures
  push_true place documents failures r lawful h e =
      let m = request_of k Target (push_documents documents) in
      let t = true_push h.node.configuration h.node.store k documents failures r h.after told.target_db (pushes_lawfully documents lawful) h.handled e in
      subst (λ (x : Database). Pushes x documents failures) (sym (is_there old new place m r k.target_db t.db h t.there)) t.says

-- ---- each phase

-- the node that is asked, of the source or of the target, has handled the request
abbrev pub IsHandledFor : Transfer → Asked → Nodes → Reply → Nodes → Type 0
IsHandledFor t (to_source m) old r new = IsHandled Steps old t.from m r new
IsHandledFor t (to_target m) old r new = IsHandled Steps old t.to m r new
IsHandledFor t (done s) old r new = ⊤
IsHandledFor t (stopped_by why s) old r new = ⊤

-- what is taken in is true, and keeps the pass sound
pub record IsTakenRightly (f : Phase) (p : Pass) (source target : Database) (r : Reply) : Type 0 where
  pub truth : IsTruth f p source target r.status r.body
  pub sound : IsSound (answered_in f p r.status r.body)

pub taken_rightly : (t : Transfer) (f : Phase) (p : Pass) (old new : Nodes) (r : Reply) → IsTold p.configuration → LawfulAt old → IsSound p → IsHandledFor t (asked_by p (step_in f p)) old r new
    → IsTakenRightly f p (database_at old t.from p.configuration.source_db) (database_at new t.to p.configuration.target_db) r
taken_rightly t ReadSource p old new r told lawful sound h = record {
  truth = tt;
  sound = keeps_with with_source p (checkpoint_read r.status r.body) sound (λ s e. source_sound p s sound (read_counted r.status r.body s e));
}
taken_rightly t ReadTarget p old new r told lawful sound h = record {
  truth = tt;
  sound = keeps_with with_target p (checkpoint_read r.status r.body) sound (λ s e. target_sound p s sound);
}
taken_rightly t ListChanges p old new r told lawful sound h =
    let names : (c : Changes) → changes_listed r.status r.body ≡ fine c → Names (database_at old t.from p.configuration.source_db) p.since p.configuration.batch c =
    λ c e. listing_true p.configuration told old new t.from p.since r c lawful sound.since h e in
    record {
      truth = names;
      sound = keeps_with with_changes p (list_taken p r.status r.body) sound (λ c taken.
          let e = was_said (λ x. answers_list p x) (changes_listed r.status r.body) c taken in
          let m = request_of p.configuration Source (list_changes p.since p.configuration.batch) in
          let s = said_lawfully 200 changes_in_reply h.node.configuration h.node.store m r h.after c (omega arith) h.handled e in
          changes_sound p c sound (changes_read s.value c s.lawful s.shaped) (names c e).distinct);
    }
taken_rightly t Compare p old new r told lawful sound h = record {
  truth = λ lacking e. comparison_true p.configuration told old new t.to p.leaves lacking r sound.distinct sound.leaves h e;
  sound = keeps_with with_lacking p (differences_read p.leaves r.status r.body) sound (λ lacking e.
      let m = request_of p.configuration Target (compare_revisions p.leaves) in
      let s = said_lawfully 200 (λ v. differences_in_reply p.leaves v) h.node.configuration h.node.store m r h.after lacking (omega arith) h.handled e in
      differences_sound p lacking sound (differences_texts s.value p.leaves lacking s.lawful sound.leaves s.shaped));
}
taken_rightly t Open p old new r told lawful sound h = record {
  truth = λ opened e. opening_true p.configuration told old new t.from (first_of_pending p.pending) opened r (first_texts p.pending sound.pending) h e;
  sound = keeps_with with_opened p (opened_taken p r.status r.body) sound (λ opened taken.
      let e = was_said (λ x. answers_open p x) (revisions_opened r.status r.body) opened taken in
      let m = request_of p.configuration Source (open_revisions (first_of_pending p.pending)) in
      let s = said_lawfully 200 (λ v. list_in opened_in v) h.node.configuration h.node.store m r h.after opened (omega arith) h.handled e in
      opened_sound p opened sound (opened_documents s.value opened s.lawful s.shaped));
}
taken_rightly t Push p old new r told lawful sound h = record {
  truth = λ failures e. push_true p.configuration told old new t.to p.documents failures r sound.documents h e;
  sound = keeps_with with_failures p (failures_taken p r.status r.body) sound (λ failures e. failures_sound p failures sound);
}
taken_rightly t WriteSource p old new r told lawful sound h = record {
  truth = tt;
  sound = keeps_with with_source_written p (checkpoint_written r.status r.body) sound (λ rev e. sound);
}
taken_rightly t WriteTarget p old new r told lawful sound h = record {
  truth = tt;
  sound = keeps_with with_target_written p (checkpoint_written r.status r.body) sound (λ rev e. target_written_sound p rev sound);
}
taken_rightly t RereadSource p old new r told lawful sound h = record {
  truth = tt;
  sound = keeps_with with_source_reread p (checkpoint_read r.status r.body) sound (λ s e. sound);
}
taken_rightly t RereadTarget p old new r told lawful sound h = record {
  truth = tt;
  sound = keeps_with with_target_reread p (checkpoint_read r.status r.body) sound (λ s e. target_reread_sound p s sound);
}
taken_rightly t Done p old new r told lawful sound h = record { truth = tt; sound = sound }
taken_rightly t (Stopped why) p old new r told lawful sound h = record { truth = tt; sound = sound }
