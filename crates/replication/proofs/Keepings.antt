-- Through a run that keeps both databases of a pass they become later ones, and all databases stay lawful.
use Rattle.std.proofs.Common.{◌≡◌, ◌≢◌, ◌≤◌, ◌∙◌, ◌⊎◌, inl, inr, ℕ, zero, suc, true, false, List, [], ◌∷◌, append-nil, Option, Some, None, refl, sym, ap, subst, arith}
use Rattle.std.specs.Prelude.{IsTrue, is_some, slice_set, ⊤}
use Rattle.std.specs.FinMap.{empty, get, get-empty}
use Rattle.std.specs.List.{slice_get}
use Rattle.std.specs.Cmp.Lexicographic.{slice_cmp}
use Rattle.std.specs.Ordering.{nat_cmp}
use Rattle.std.proofs.Math.Logic.{∥∥₁_map₂}
use Rattle.std.proofs.lemmas.Bool.{cases_eq}
use Rattle.couch_http.specs.Message.{Message}
use Rattle.couch_http.specs.Reply.{Reply}
use Rattle.policy.specs.Security.{closed_security}
use Rattle.tree.specs.History.{HistoryContent, is_known}
use Rattle.tree.specs.Revision.{Revision, revision_cmp}
use Rattle.tree.specs.declared.entry.Entry.{Entry}
use Rattle.store.specs.Contents.{Contents, new_database}
use Rattle.store.specs.Database.{Database, Document, HasSequences, IsLater, history_at, sequence_in}
use Rattle.store.specs.Lawful.{AreLawful, IsLawfulDatabase}
use Rattle.store.proofs.Contents.{history_at-empty_database}
use Rattle.store.proofs.Lawfuls.{lawful_empty}
use Rattle.node.proofs.Steps.{step_lawful}
use Rattle.node.specs.Runs.{Steps}
use Rattle.node.specs.Step.{Serving}
use Rattle.world.proofs.Along.{along, become_later}
use Rattle.world.specs.Happening.{Happening, Sight}
use Rattle.world.specs.Keeping.{IsAt, Keeping}
use Rattle.world.specs.Network.{Network, Transfer}
use Rattle.world.specs.Playing.{Happens, Plays}
use Rattle.world.specs.Service.{IsHandled}
use Rattle.replication.specs.Finished.{AreAllLawful, database_at, database_of_node, found_or_new, source_of, target_of}
use Rattle.replication.proofs.Places.{set_elsewhere, set_here}

abbrev pub Nodes : Type 0
Nodes = List (Serving Contents)

-- ---- lawful databases

-- each node has lawful databases
abbrev pub LawfulAt : Nodes → Type 0
LawfulAt nodes = (place : ℕ) (node : Serving Contents) → slice_get nodes place ≡ Some node → AreLawful node.store

pub one_node : (a b : Serving Contents) → (let x : Option (Serving Contents) = Some a in x) ≡ Some b → a ≡ b
one_node a b e = cc

handled_lawful : (old new : Nodes) (place : ℕ) (m : Message) (r : Reply) → IsHandled Steps old place m r new → LawfulAt old → LawfulAt new
handled_lawful old new place m r h lawful q node there = by (cases_eq q place)
  where
    next : Serving Contents
    next = record h.node { store = h.after }

    by : (q ≡ place) ⊎ (q ≢ place) → AreLawful node.store
    by (inl e) =
        let is : next ≡ node = one_node next node (sym (set_here old place h.node next h.there) ∙ ap (slice_get (slice_set old place next)) (sym e) ∙ ap (λ (xs : Nodes). slice_get xs q) (sym h.left) ∙ there) in
        subst (λ (n : Serving Contents). AreLawful n.store) is (step_lawful h.node.configuration h.node.store m (λ _. ⊤) r h.after h.handled (lawful place h.node h.there))
    by (inr e) = lawful q node (sym (set_elsewhere old place q next e) ∙ ap (λ (xs : Nodes). slice_get xs q) (sym h.left) ∙ there)

pub plays_lawful : (t : Transfer) (hs : List Happening) (old new : Network Contents) (seen : List Sight) → Plays (Keeping t) old hs seen new → LawfulAt old.nodes → LawfulAt new.nodes
plays_lawful t hs old new seen p =
    along (Keeping t) (λ a b. LawfulAt a → LawfulAt b) (λ a x. x) (λ a b c f g x. g (f x)) (λ who a place m r b k. handled_lawful a b place m r k.0) hs old new seen p

pub all_lawful : (nodes : Nodes) → AreAllLawful nodes → ∥ LawfulAt nodes ∥₁
all_lawful [] h = ∣ (λ place node e. absurd cc) ∣₁
all_lawful (n ∷ ns) h = ∥∥₁_map₂ h.0 (all_lawful ns h.1) (λ first rest. both first rest)
  where
    both : AreLawful n.store → LawfulAt ns → LawfulAt (n ∷ ns)
    both first rest zero node e = subst (λ (x : Serving Contents). AreLawful x.store) (one_node n node e) first
    both first rest (suc k) node e = rest k node e

-- ---- a database that is there, or nothing

pub at_found : (nodes : Nodes) (place : ℕ) (name : List ℕ) (db : Database) → IsAt nodes place name db → database_at nodes place name ≡ db
at_found nodes place name db at =
    ap (λ (o : Option (Serving Contents)). found_or_new (database_of_node o name)) at.there ∙ ap found_or_new at.holds

pub look : (nodes : Nodes) (place : ℕ) (name : List ℕ) → ((db : Database) × IsAt nodes place name db) ⊎ (database_at nodes place name ≡ new_database)
look nodes place name = by (slice_get nodes place) refl
  where
    inside : (node : Serving Contents) → slice_get nodes place ≡ Some node → (d : Option Database) → get node.store name ≡ d
        → ((db : Database) × IsAt nodes place name db) ⊎ (database_at nodes place name ≡ new_database)
    inside node is None k = inr (ap (λ (o : Option (Serving Contents)). found_or_new (database_of_node o name)) is ∙ ap found_or_new k)
    inside node is (Some db) k = inl (db, record { node = node; there = is; holds = k })

    by : (o : Option (Serving Contents)) → slice_get nodes place ≡ o → ((db : Database) × IsAt nodes place name db) ⊎ (database_at nodes place name ≡ new_database)
    by None is = inr (ap (λ (o : Option (Serving Contents)). found_or_new (database_of_node o name)) is)
    by (Some node) is = inside node is (get node.store name) refl

pub lawful_at : (nodes : Nodes) (place : ℕ) (name : List ℕ) → LawfulAt nodes → IsLawfulDatabase (database_at nodes place name)
lawful_at nodes place name lawful = by (look nodes place name)
  where
    by : ((db : Database) × IsAt nodes place name db) ⊎ (database_at nodes place name ≡ new_database) → IsLawfulDatabase (database_at nodes place name)
    by (inl (db, at)) = subst IsLawfulDatabase (sym (at_found nodes place name db at)) (lawful place at.node at.there name db at.holds)
    by (inr e) = subst IsLawfulDatabase (sym e) (lawful_empty closed_security)

-- ---- later databases

unwritten : (db : Database) (id : List ℕ) (o : Option Document) → get db.documents id ≡ o → HasSequences db → sequence_in o ≤ 0 → o ≡ None
unwritten db id None is has le = refl
unwritten db id (Some d) is has le = absurd (omega (arith, has.positive id d is, le))

unknown : (id : List ℕ) (r : Revision) → IsTrue (is_known (history_at new_database id) r) → ⊥
unknown id r k =
    let known : is_some (get (empty {X = Entry} {R = revision_cmp}) r) ≡ true = subst (λ (h : HistoryContent). IsTrue (is_known h r)) (history_at-empty_database closed_security id) k in
    let none : is_some (get (empty {X = Entry} {R = revision_cmp}) r) ≡ false = ap is_some (get-empty revision_cmp r) in
    let e : false ≡ true = sym none ∙ known in cc

-- each database is later than one without documents
pub later_than_none : (db : Database) → HasSequences db → IsLater new_database db
later_than_none db has = record {
  grown = omega arith;
  known = λ id r k. absurd (unknown id r k);
  unchanged = λ id le. unwritten db id (get db.documents id) refl has le ∙ sym (get-empty (slice_cmp nat_cmp) id);
}

later_at : (old new : Nodes) (place : ℕ) (name : List ℕ) → LawfulAt new
    → ((db : Database) → IsAt old place name db → (now : Database) × IsAt new place name now × IsLater db now) → IsLater (database_at old place name) (database_at new place name)
later_at old new place name lawful goes = by (look old place name)
  where
    by : ((db : Database) × IsAt old place name db) ⊎ (database_at old place name ≡ new_database) → IsLater (database_at old place name) (database_at new place name)
    by (inl (db, at)) =
        let g = goes db at in
        subst (λ (x : Database). IsLater x (database_at new place name)) (sym (at_found old place name db at))
        (subst (λ (x : Database). IsLater db x) (sym (at_found new place name g.0 g.1)) g.2)
    by (inr e) =
        subst (λ (x : Database). IsLater x (database_at new place name)) (sym e) (later_than_none (database_at new place name) (lawful_at new place name lawful).sequences)

pub plays_later : (t : Transfer) (hs : List Happening) (old new : Network Contents) (seen : List Sight) → LawfulAt new.nodes → Plays (Keeping t) old hs seen new
    → IsLater (source_of t old) (source_of t new) × IsLater (target_of t old) (target_of t new)
plays_later t hs old new seen lawful p =
    let k = become_later t hs seen old new p in
    (later_at old.nodes new.nodes t.from t.pass.configuration.source_db lawful k.0, later_at old.nodes new.nodes t.to t.pass.configuration.target_db lawful k.1)

pub one_event : (t : Transfer) (h : Happening) (old new : Network Contents) (seen : List Sight) → Happens (Keeping t) old h seen new → Plays (Keeping t) old (h ∷ []) seen new
one_event t h old new seen p = (seen, [], new, p, (refl, refl), sym (append-nil seen))
