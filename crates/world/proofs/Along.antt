-- What each handled request keeps is kept through a run.
use Rattle.std.proofs.Common.{◌≡◌, ◌≢◌, ◌∙◌, ◌⊎◌, inl, inr, ℕ, zero, suc, Bool, List, [], ◌∷◌, Option, Some, None, refl, sym, ap, subst, cond}
use Rattle.std.specs.Prelude.{⊤, slice_set}
use Rattle.std.specs.FinMap.{get, remove, get-remove}
use Rattle.std.proofs.lemmas.Cmp.{nat_list_cmp_total}
use Rattle.std.proofs.lemmas.Map.Text.{is_eq-slice_cmp}
use Rattle.std.proofs.lemmas.Slice.Eq.{bytes_eq-Decides}
use Rattle.std.specs.List.{slice_get}
use Rattle.std.proofs.lemmas.Bool.{cases_eq}
use Rattle.couch_http.specs.Message.{Message}
use Rattle.couch_http.specs.Reply.{Reply}
use Rattle.store.specs.Contents.{Contents}
use Rattle.store.specs.Database.{Database, IsLater}
use Rattle.store.proofs.Laters.{later_itself, later_still}
use Rattle.auth.specs.Callers.{Configuration}
use Rattle.node.proofs.Steps.{answer_later, step_change}
use Rattle.node.specs.Answer.{Change, answer, with_change}
use Rattle.node.specs.Effects.{IsLaterThan}
use Rattle.node.specs.Runs.{Steps}
use Rattle.node.specs.Step.{Serving}
use Rattle.hub.specs.Arrival.{Arrival, fault_on, request_on}
use Rattle.repl.specs.Passes.{Asked, to_source, to_target, done, stopped_by, asked_of}
use Rattle.repl.specs.Turns.{Turn}
use Rattle.world.specs.Exchanging.{IsAsked, IsCarried, Question}
use Rattle.world.specs.Happening.{Happening, Sight, comes, exchanges}
use Rattle.world.specs.Keeping.{DatabasesBecomeLater, IsAt, Keeping, StaysAt}
use Rattle.world.specs.Network.{Network, Transfer}
use Rattle.world.specs.Playing.{Happens, Plays}
use Rattle.world.specs.Service.{Asker, Handling, IsAnswered, IsHandled, IsService, SeenReply}
use Rattle.world.specs.declared.fate.Fate.{Fate}
use Rattle.world.specs.declared.fate.Fate.TheVariants.{Answered, ReplyLost, RequestLost}

abbrev Nodes : Type 0
Nodes = List (Serving Contents)

module _ (handling : Handling Contents) (P : Nodes → Nodes → Type 0) (same : (a : Nodes) → P a a) (chain : (a b c : Nodes) → P a b → P b c → P a c)
    (each : (who : Asker) (old : Nodes) (place : ℕ) (m : Message) (r : Reply) (new : Nodes) → handling who old place m r new → P old new) where
  along_answer : (homes : List ℕ) (old new : Nodes) (a : Arrival) (t : SeenReply) → IsAnswered handling homes old a t new → P old new
  along_answer homes old new (request_on conn m) t p = each _ old _ m t.reply new p.1
  along_answer homes old new (fault_on conn f) t p = subst (λ (x : Nodes). P old x) (sym p.2) (same old)

  along_service : (homes : List ℕ) (old new : Nodes) (xs : List Arrival) (ts : List SeenReply) → IsService handling homes old xs ts new → P old new
  along_service homes old new [] [] p = subst (λ (x : Nodes). P old x) (sym p) (same old)
  along_service homes old new [] (t ∷ ts) p = absurd p
  along_service homes old new (x ∷ xs) [] p = absurd p
  along_service homes old new (x ∷ xs) (t ∷ ts) p = chain old p.0 new (along_answer homes old p.0 x t p.1) (along_service homes p.0 new xs ts p.2)

  along_carried : (fate : Fate) (old new : Nodes) (q : Question) (t : Turn) → IsCarried handling fate old q t new → P old new
  along_carried Answered old new q t p = each _ old q.place q.message p.0 new p.1
  along_carried ReplyLost old new q t p = each _ old q.place q.message p.0 new p.1
  along_carried RequestLost old new q t p = subst (λ (x : Nodes). P old x) (sym p.0) (same old)

  along_asked : (fate : Fate) (old new : Network Contents) (number : ℕ) (t : Transfer) (asked : Asked) (seen : List Sight) → IsAsked handling fate old number t asked seen new → P old.nodes new.nodes
  along_asked fate old new number t (to_source m) seen p =
      subst (λ (x : Network Contents). P old.nodes x.nodes) (sym p.left) (along_carried fate old.nodes p.nodes _ p.turn p.carried)
  along_asked fate old new number t (to_target m) seen p =
      subst (λ (x : Network Contents). P old.nodes x.nodes) (sym p.left) (along_carried fate old.nodes p.nodes _ p.turn p.carried)
  along_asked fate old new number t (done s) seen p = subst (λ (x : Network Contents). P old.nodes x.nodes) (sym p.1) (same old.nodes)
  along_asked fate old new number t (stopped_by why s) seen p = subst (λ (x : Network Contents). P old.nodes x.nodes) (sym p.1) (same old.nodes)

  along_event : (h : Happening) (old new : Network Contents) (seen : List Sight) → Happens handling old h seen new → P old.nodes new.nodes
  along_event (comes piece) old new seen p = along_service old.homes old.nodes new.nodes p.1.arrivals p.0 p.1.served
  along_event (exchanges number fate) old new seen p = along_asked fate old new number p.transfer (asked_of p.transfer.pass) seen p.asked

  pub along : (hs : List Happening) (old new : Network Contents) (seen : List Sight) → Plays handling old hs seen new → P old.nodes new.nodes
  along [] old new seen p = subst (λ (x : Network Contents). P old.nodes x.nodes) (sym p.1) (same old.nodes)
  along (h ∷ hs) old new seen (first, others, between, here, later, order) =
      chain old.nodes between.nodes new.nodes (along_event h old between first here) (along hs between new others later)

-- ---- one database

later_of : (db now : Database) (o : Option Database) → o ≡ Some now → IsLaterThan db o → IsLater db now
later_of db now None is h = absurd h
later_of db now (Some x) is h = let same : x ≡ now = cc in subst (λ (y : Database). IsLater db y) same h

removed_at : (a : Contents) (name : List ℕ) → get (remove a name) name ≡ None
removed_at a name =
    get-remove nat_list_cmp_total a name name ∙ ap (λ (b : Bool). cond b None (get a name)) (is_eq-slice_cmp name name ∙ (bytes_eq-Decides name name).1 refl)

-- a step that leaves a database there makes a later one of it
step_onward : (c : Configuration) (before : Contents) (m : Message) (r : Reply) (after : Contents) (name : List ℕ) (db now : Database) → Steps c before m r after → get before name ≡ Some db
    → get after name ≡ Some now → IsLater db now
step_onward c before m r after name db now step there here = by (step_change c before m (λ _. ⊤) r after step)
  where
    by : (after ≡ with_change (answer c before m).change before) ⊎ (after ≡ before) → IsLater db now
    by (inl e) =
        let left : get (with_change (answer c before m).change before) name ≡ Some now = ap (λ (x : Contents). get x name) (sym e) ∙ here in
        later_of db now (get (with_change (answer c before m).change before) name) left
        (answer_later c before m name db (λ gone. let none : None ≡ Some now = sym (removed_at before name) ∙ ap (λ (x : Change). get (with_change x before) name) (sym gone) ∙ left in cc) there)
    by (inr e) = let same : db ≡ now = (let k : Some db ≡ Some now = sym there ∙ ap (λ (x : Contents). get x name) (sym e) ∙ here in cc) in subst (λ (y : Database). IsLater db y) same (later_itself db)

pub set_here : {A : Type 0} (xs : List A) (i : ℕ) (x y : A) → slice_get xs i ≡ Some x → slice_get (slice_set xs i y) i ≡ Some y
set_here [] i x y e = absurd cc
set_here (z ∷ xs) zero x y e = refl
set_here (z ∷ xs) (suc i) x y e = set_here xs i x y e

pub set_elsewhere : {A : Type 0} (xs : List A) (i j : ℕ) (y : A) → j ≢ i → slice_get (slice_set xs i y) j ≡ slice_get xs j
set_elsewhere [] i j y apart = refl
set_elsewhere (z ∷ xs) zero zero y apart = absurd (apart refl)
set_elsewhere (z ∷ xs) zero (suc j) y apart = refl
set_elsewhere (z ∷ xs) (suc i) zero y apart = refl
set_elsewhere (z ∷ xs) (suc i) (suc j) y apart = set_elsewhere xs i j y (λ e. apart (ap suc e))

-- the database there becomes a later one
abbrev GoesOnAt : Nodes → Nodes → ℕ → List ℕ → Type 0
GoesOnAt old new place name = (db : Database) → IsAt old place name db → (now : Database) × IsAt new place name now × IsLater db now

pub one_node : (a b : Serving Contents) → (let x : Option (Serving Contents) = Some a in x) ≡ Some b → a ≡ b
one_node a b e = cc

one_database : (a b : Database) → (let x : Option Database = Some a in x) ≡ Some b → a ≡ b
one_database a b e = cc

handled_onward : (old new : Nodes) (at : ℕ) (m : Message) (r : Reply) (place : ℕ) (name : List ℕ) → IsHandled Steps old at m r new → StaysAt old new place name → GoesOnAt old new place name
handled_onward old new at m r place name h stays db was = (now.0, now.1, by (cases_eq place at))
  where
    now : (x : Database) × IsAt new place name x
    now = stays db was

    by : (place ≡ at) ⊎ (place ≢ at) → IsLater db now.0
    by (inl e) =
        let before : was.node ≡ h.node = one_node was.node h.node (sym was.there ∙ ap (slice_get old) e ∙ h.there) in
        let next : Serving Contents = record h.node { store = h.after } in
        let after : now.1.node ≡ next = one_node now.1.node next (sym now.1.there ∙ ap (λ (xs : Nodes). slice_get xs place) h.left ∙ ap (slice_get (slice_set old at next)) e ∙ set_here old at h.node next h.there) in
        step_onward h.node.configuration h.node.store m r h.after name db now.0 h.handled
        (ap (λ (n : Serving Contents). get n.store name) (sym before) ∙ was.holds)
        (ap (λ (n : Serving Contents). get n.store name) (sym after) ∙ now.1.holds)
    by (inr e) =
        let next : Serving Contents = record h.node { store = h.after } in
        let node : now.1.node ≡ was.node = one_node now.1.node was.node (sym now.1.there ∙ ap (λ (xs : Nodes). slice_get xs place) h.left ∙ set_elsewhere old at place next e ∙ was.there) in
        let db_is : now.0 ≡ db = one_database now.0 db (sym now.1.holds ∙ ap (λ (n : Serving Contents). get n.store name) node ∙ was.holds) in
        subst (λ (x : Database). IsLater db x) (sym db_is) (later_itself db)

goes_same : (place : ℕ) (name : List ℕ) (a : Nodes) → GoesOnAt a a place name
goes_same place name a = λ db at. (db, at, later_itself db)

goes_chain : (place : ℕ) (name : List ℕ) (a b c : Nodes) → GoesOnAt a b place name → GoesOnAt b c place name → GoesOnAt a c place name
goes_chain place name a b c f g = λ db at.
    let x = f db at in
    let y = g x.0 x.1 in
    (y.0, y.1, later_still db x.0 y.0 x.2 y.2)

pub become_later : DatabasesBecomeLater
become_later t hs seen old new p = (
  along (Keeping t) (λ a b. GoesOnAt a b t.from t.pass.configuration.source_db) (goes_same t.from t.pass.configuration.source_db) (goes_chain t.from t.pass.configuration.source_db)
      (λ who a place m r b k. handled_onward a b place m r t.from t.pass.configuration.source_db k.0 k.1) hs old new seen p,
  along (Keeping t) (λ a b. GoesOnAt a b t.to t.pass.configuration.target_db) (goes_same t.to t.pass.configuration.target_db) (goes_chain t.to t.pass.configuration.target_db)
      (λ who a place m r b k. handled_onward a b place m r t.to t.pass.configuration.target_db k.0 k.2) hs old new seen p,
)
