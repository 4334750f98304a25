-- What a request of a pass makes of its two databases at the nodes of a network.
use Rattle.std.proofs.Common.{◌≡◌, ◌≢◌, ⊎_elim, ℕ, List, [], false, Option, Some, refl, sym, ap, ◌∙◌, subst}
use Rattle.std.specs.Prelude.{⊤}
use Rattle.std.specs.List.{AllByRecursion, slice_get}
use Rattle.std.specs.FinMap.{get}
use Rattle.std.proofs.lemmas.Bool.{cases_eq}
use Rattle.couch_http.specs.Message.{Message}
use Rattle.couch_http.specs.Reply.{Reply}
use Rattle.couch_json.specs.Lawful.{IsLawful}
use Rattle.couch_json.specs.Value.{Value}
use Rattle.store.specs.Contents.{Contents}
use Rattle.store.specs.Lawful.{AreLawful}
use Rattle.store.specs.Database.{Database}
use Rattle.node.specs.Runs.{Steps}
use Rattle.node.specs.Step.{Serving}
use Rattle.node.proofs.Steps.{step_lawful}
use Rattle.repl.specs.Calls.{Call, open_revisions, push_documents, request_of}
use Rattle.repl.specs.Configuration.{PassConfiguration}
use Rattle.repl.specs.Passes.{Pass, first_of_pending}
use Rattle.repl.specs.Replies.{documents_of_opened}
use Rattle.repl.specs.declared.side.Side.{Side}
use Rattle.repl.specs.declared.side.Side.TheVariants.{Source, Target}
use Rattle.world.specs.Keeping.{IsAt}
use Rattle.world.specs.Network.{Transfer}
use Rattle.world.specs.Service.{IsHandled}
use Rattle.replication.specs.Finished.{IsTold, database_at, database_of_node, found_or_new}
use Rattle.replication.proofs.Keepings.{LawfulAt, at_found}
use Rattle.replication.proofs.Places.{set_elsewhere, set_here}
use Rattle.replication.proofs.Sound.{IsSound, first_texts, id_bytes, list_bytes, list_lawful, pushes_lawfully}
use Rattle.replication.specs.Appended.{Appends, IsShownBy, KeepsDocuments}
use Rattle.replication.specs.Crossing.{OpensShown}
use Rattle.replication.specs.Networks.{BecomesAt}
use Rattle.replication.specs.Written.{AsksLawfully, Becomes, WritesNowhere, is_push}
use Rattle.replication.proofs.Opened.{opened_shown}
use Rattle.replication.proofs.Pushed.{push_appends}
use Rattle.replication.proofs.Quiet.{others_write_nothing, same_documents}

abbrev pub Nodes : Type 0
Nodes = List (Serving Contents)

one_node : (a b : Serving Contents) → (let x : Option (Serving Contents) = Some a in x) ≡ Some b → a ≡ b
one_node a b e = cc

one_database : (a b : Database) → Some a ≡ Some b → a ≡ b
one_database a b e = cc

-- there is one database of a name at a node
pub one_at : (nodes : Nodes) (place : ℕ) (name : List ℕ) (a b : Database) → IsAt nodes place name a → IsAt nodes place name b → a ≡ b
one_at nodes place name a b x y =
    let same : x.node ≡ y.node = one_node x.node y.node (sym x.there ∙ y.there) in
    one_database a b (sym x.holds ∙ ap (λ (n : Serving Contents). get n.store name) same ∙ y.holds)

-- the database of a name at a node that is there, or a new one
found_by : (nodes : Nodes) (place : ℕ) (name : List ℕ) (node : Serving Contents) → slice_get nodes place ≡ Some node → database_at nodes place name ≡ found_or_new (get node.store name)
found_by nodes place name node there = ap (λ (o : Option (Serving Contents)). found_or_new (database_of_node o name)) there

-- what became of a database that is there, or of a new one
abbrev pub into : (old : Nodes) (place : ℕ) (name : List ℕ) (new : Nodes) (how : Database → Database → Type 0) → BecomesAt old place name new how → (db : Database) → database_at old place name ≡ db
    → (now : Database) × (database_at new place name ≡ now) × how db now
into old place name new how b db at = (database_at new place name, refl, subst (λ (x : Database). how x (database_at new place name)) at b.0)

-- ---- one node handles a request

module _ (old new : Nodes) (place : ℕ) (m : Message) (r : Reply) (h : IsHandled Steps old place m r new) where
  abbrev after : Serving Contents
  after = record h.node { store = h.after }

  pub node_after : slice_get new place ≡ Some after
  node_after = ap (λ (xs : Nodes). slice_get xs place) h.left ∙ set_here old place h.node after h.there

  -- the database of a name at this node
  pub here : (name : List ℕ) (how : Database → Database → Type 0) → Becomes h.node.store name h.after how → BecomesAt old place name new how
  here name how becomes = (
    subst (λ (x : Database). how x (database_at new place name)) (sym (found_by old place name h.node h.there))
        (subst (λ (x : Database). how (found_or_new (get h.node.store name)) x) (sym (found_by new place name after node_after)) becomes.0),
    λ db at.
        let same : at.node ≡ h.node = one_node at.node h.node (sym at.there ∙ h.there) in
        let k = becomes.1 db (ap (λ (n : Serving Contents). get n.store name) (sym same) ∙ at.holds) in
        (k.0, record { node = after; there = node_after; holds = k.1 }),
  )

  -- the databases of other nodes
  pub elsewhere : (q : ℕ) (name : List ℕ) → q ≢ place → BecomesAt old q name new KeepsDocuments
  elsewhere q name apart =
      let same : slice_get new q ≡ slice_get old q = ap (λ (xs : Nodes). slice_get xs q) h.left ∙ set_elsewhere old place q after apart in (
        subst (λ (x : Database). KeepsDocuments (database_at old q name) x) (ap (λ (o : Option (Serving Contents)). found_or_new (database_of_node o name)) (sym same)) (same_documents (database_at old q name)),
        λ db at. (db, record { node = at.node; there = same ∙ at.there; holds = at.holds }),
      )

  -- where the step writes nowhere, no database is written
  pub anywhere : (q : ℕ) (name : List ℕ) → WritesNowhere h.node.store h.after → BecomesAt old q name new KeepsDocuments
  anywhere q name nowhere = ⊎_elim (λ e. subst (λ (x : ℕ). BecomesAt old x name new KeepsDocuments) (sym e) (here name KeepsDocuments (nowhere name))) (λ e. elsewhere q name e) (cases_eq q place)

  pub lawful_after : LawfulAt old → LawfulAt new
  lawful_after lawful q node there = ⊎_elim at_place at_other (cases_eq q place)
    where
      at_place : q ≡ place → AreLawful node.store
      at_place e =
          let is : after ≡ node = one_node after node (sym node_after ∙ ap (slice_get new) (sym e) ∙ there) in
          subst (λ (n : Serving Contents). AreLawful n.store) is (step_lawful h.node.configuration h.node.store m (λ _. ⊤) r h.after h.handled (lawful place h.node h.there))

      at_other : q ≢ place → AreLawful node.store
      at_other e = lawful q node (sym (set_elsewhere old place q after e) ∙ ap (λ (xs : Nodes). slice_get xs q) (sym h.left) ∙ there)

-- ---- a call of a pass

-- what becomes of a pass's two databases, and of all others
pub record BothBecome (t : Transfer) (k : PassConfiguration) (documents : List Value) (old new : Nodes) : Type 0 where
  pub source : BecomesAt old t.from k.source_db new KeepsDocuments
  pub target : BecomesAt old t.to k.target_db new (Appends documents)
  pub others : (q : ℕ) (name : List ℕ) → (q ≡ t.to → name ≢ k.target_db) → BecomesAt old q name new KeepsDocuments
  pub lawful : LawfulAt old → LawfulAt new

pub appends_none : (documents : List Value) (db now : Database) → KeepsDocuments db now → Appends documents db now
appends_none documents db now k = record { writes = []; said = tt; acceptable = tt; left = k }

pub becomes_more : (old new : Nodes) (place : ℕ) (name : List ℕ) (documents : List Value) → BecomesAt old place name new KeepsDocuments → BecomesAt old place name new (Appends documents)
becomes_more old new place name documents b = (appends_none documents (database_at old place name) (database_at new place name) b.0, b.1)

module _ (t : Transfer) (k : PassConfiguration) (told : IsTold k) (apart : t.from ≡ t.to → k.source_db ≢ k.target_db) (old new : Nodes) (r : Reply) where
  pub quiet : (place : ℕ) (side : Side) (call : Call) → is_push call ≡ false → AsksLawfully call → IsHandled Steps old place (request_of k side call) r new → BothBecome t k [] old new
  quiet place side call other asks h =
      let nowhere = others_write_nothing h.node.configuration h.node.store k side call r h.after other asks h.handled in
      record {
        source = anywhere old new place (request_of k side call) r h t.from k.source_db nowhere;
        target = becomes_more old new t.to k.target_db [] (anywhere old new place (request_of k side call) r h t.to k.target_db nowhere);
        others = λ q name away. anywhere old new place (request_of k side call) r h q name nowhere;
        lawful = lawful_after old new place (request_of k side call) r h;
      }

  pub pushed : (documents : List Value) → AllByRecursion IsLawful documents → IsHandled Steps old t.to (request_of k Target (push_documents documents)) r new → BothBecome t k documents old new
  pushed documents lawful h =
      let m = request_of k Target (push_documents documents) in
      let p = push_appends h.node.configuration h.node.store k Target documents r h.after told.target_db (pushes_lawfully documents lawful) h.handled in
      let others : (q : ℕ) (name : List ℕ) → (q ≡ t.to → name ≢ k.target_db) → BecomesAt old q name new KeepsDocuments =
      λ q name away.
      ⊎_elim
      (λ e. subst (λ (x : ℕ). BecomesAt old x name new KeepsDocuments) (sym e) (here old new t.to m r h name KeepsDocuments (p.1 name (away e))))
      (λ e. elsewhere old new t.to m r h q name e) (cases_eq q t.to) in
      record {
        source = others t.from k.source_db apart;
        target = here old new t.to m r h k.target_db (Appends documents) p.0;
        others = others;
        lawful = lawful_after old new t.to m r h;
      }

-- ---- the documents that are opened

pub opens_shown : (k : PassConfiguration) (told : IsTold k) (place : ℕ) (p : Pass) (old new : Nodes) (r : Reply) → IsSound p
    → IsHandled Steps old place (request_of k Source (open_revisions (first_of_pending p.pending))) r new → OpensShown (database_at old place k.source_db) p r.status r.body
opens_shown k told place p old new r sound h opened e =
    let row = first_of_pending p.pending in
    let texts = first_texts p.pending sound.pending in
    let s = opened_shown h.node.configuration h.node.store k row opened r h.after told.source_db (id_bytes row texts) (list_bytes row texts) (list_lawful row texts) h.handled e in
    let same : s.db ≡ database_at old place k.source_db = sym (at_found old place k.source_db s.db (record { node = h.node; there = h.there; holds = s.there })) in
    subst (λ (x : Database). AllByRecursion (IsShownBy x row.id) (documents_of_opened opened)) same s.says
