-- What any request makes of a database that it leaves there: some writes are appended, so what was known stays as it was.
use Rattle.std.proofs.Common.{◌≡◌, ◌≢◌, ◌⊎◌, inl, inr, ℕ, cond, Bool, true, false, bytes_eq, List, [], Option, Some, None, Result, Ok, Err, refl, sym, ap, ◌∙◌, subst}
use Rattle.std.specs.Prelude.{is_some}
use Rattle.std.specs.FinMap.{empty, get, get-empty, get-remove, insert, remove}
use Rattle.std.specs.List.{slice_get}
use Rattle.std.proofs.lemmas.Bool.{cases_eq}
use Rattle.std.proofs.lemmas.Cmp.{nat_list_cmp_total}
use Rattle.std.proofs.lemmas.Map.Text.{is_eq-slice_cmp}
use Rattle.std.proofs.lemmas.Slice.Eq.{bytes_eq-Decides}
use Rattle.auth.specs.Callers as auth
use Rattle.couch_http.specs.Message.{Message}
use Rattle.couch_http.specs.Reply.{Reply}
use Rattle.policy.specs.Security.{closed_security}
use Rattle.tree.specs.History.{HistoryContent, is_known}
use Rattle.tree.specs.Revision.{Revision, revision_cmp}
use Rattle.tree.specs.declared.entry.Entry.{Entry}
use Rattle.store.specs.Contents.{Contents, new_database}
use Rattle.store.specs.Database.{Database, DocumentWrite, HasSequences, IsKnownAt, IsLater, with_all}
use Rattle.store.proofs.Contents.{history_at-empty_database}
use Rattle.store.proofs.Laters.{later_by_all, later_itself, later_still}
use Rattle.api.specs.declared.refusal.Refusal.{Refusal}
use Rattle.node.specs.Answer.{Change, Outcome, creation, inside, judgement, kept, removal, settlement, with_change, with_effect_at}
use Rattle.node.specs.Runs.{Steps}
use Rattle.node.specs.Step.{Serving}
use Rattle.node.specs.Work.{Effect, appended, local_put, nothing, secured, with_effect}
use Rattle.node.proofs.Tasks.{IsMade, judged_right}
use Rattle.world.specs.Keeping.{IsAt, StaysAt}
use Rattle.world.specs.Service.{IsHandled}
use Rattle.replication.specs.Finished.{database_at}
use Rattle.replication.proofs.Keepings.{LawfulAt, at_found, later_than_none, lawful_at, look, one_node}
use Rattle.replication.specs.Appended.{KeepsDocuments}
use Rattle.replication.proofs.Crossings.{later_same}
use Rattle.replication.proofs.Handlings.{Nodes, elsewhere, node_after}
use Rattle.replication.proofs.Quiet.{get_put, same_documents}
use Rattle.replication.proofs.Replicas.{KeepsAll, all_keep, keeps_still, same_keeps}

-- all that was known is as it was, and the database is a later one
pub record Grows (old new : Database) : Type 0 where
  pub keeps : KeepsAll old new
  pub later : IsLater old new

pub grows_by : (ws : List DocumentWrite) (old new : Database) → KeepsDocuments (with_all old ws) new → Grows old new
grows_by ws old new same = record {
  keeps = keeps_still old (with_all old ws) new (all_keep ws old) (same_keeps (with_all old ws) new same);
  later = later_still old (with_all old ws) new (later_by_all ws old) (later_same (with_all old ws) new same);
}

pub grows_itself : (db : Database) → Grows db db
grows_itself db = record { keeps = λ id r known. refl; later = later_itself db }

pub grows_still : (a b c : Database) → Grows a b → Grows b c → Grows a c
grows_still a b c h g = record { keeps = keeps_still a b c h.keeps g.keeps; later = later_still a b c h.later g.later }

-- ---- one step

effect_grows : (effect : Effect) (db : Database) → Grows db (with_effect effect db)
effect_grows nothing db = grows_itself db
effect_grows (appended ws) db = grows_by ws db (with_all db ws) (same_documents (with_all db ws))
effect_grows (secured security) db = grows_by [] db _ (record { length = refl; documents = refl })
effect_grows (local_put id document) db = grows_by [] db _ (record { length = refl; documents = refl })

one_database : (a b : Database) → (let x : Option Database = Some a in x) ≡ Some b → a ≡ b
one_database a b e = cc

-- what is there twice is one
unmoved : (a b : Contents) (name : List ℕ) (db now : Database) → get b name ≡ get a name → get a name ≡ Some db → get b name ≡ Some now → Grows db now
unmoved a b name db now same there here = subst (λ (x : Database). Grows db x) (one_database db now (sym there ∙ sym same ∙ here)) (grows_itself db)

module _ (a : Contents) (name : List ℕ) (db now : Database) (there : get a name ≡ Some db) where
  put_grows : (other : List ℕ) (new : Database) → (name ≡ other → Grows db new) → get (insert a other new) name ≡ Some now → Grows db now
  put_grows other new each here = by (bytes_eq name other) refl
    where
      by : (b : Bool) → bytes_eq name other ≡ b → Grows db now
      by true is =
          let e : get (insert a other new) name ≡ Some new = get_put a other new name ∙ ap (λ (b : Bool). cond b (Some new) (get a name)) is in
          subst (λ (x : Database). Grows db x) (one_database new now (sym e ∙ here)) (each ((bytes_eq-Decides name other).0 is))
      by false is = unmoved a (insert a other new) name db now (get_put a other new name ∙ ap (λ (b : Bool). cond b (Some new) (get a name)) is) there here

  change_grows : (m : Message) (change : Change) → IsMade a m change → get (with_change change a) name ≡ Some now → Grows db now
  change_grows m kept made here = unmoved a a name db now refl there here
  change_grows m (creation other) made here =
      put_grows other new_database (λ e. absurd (let k : (let x : Option Database = None in x) ≡ Some db = sym made.1 ∙ ap (get a) (sym e) ∙ there in cc)) here
  change_grows m (removal other) made here = by (bytes_eq name other) refl
    where
      got : get (remove a other) name ≡ cond (bytes_eq name other) None (get a name)
      got = get-remove nat_list_cmp_total a other name ∙ ap (λ (b : Bool). cond b None (get a name)) (is_eq-slice_cmp name other)

      by : (b : Bool) → bytes_eq name other ≡ b → Grows db now
      by true is = absurd (let k : (let x : Option Database = None in x) ≡ Some now = sym (got ∙ ap (λ (b : Bool). cond b None (get a name)) is) ∙ here in cc)
      by false is = unmoved a (remove a other) name db now (got ∙ ap (λ (b : Bool). cond b None (get a name)) is) there here
  change_grows m (inside other effect) made here =
      let was = made.1.0 in
      let at = made.1.1 in
      put_grows other (with_effect effect was)
      (λ e. subst (λ (x : Database). Grows x (with_effect effect was)) (one_database was db (sym at ∙ ap (get a) (sym e) ∙ there)) (effect_grows effect was))
      (subst (λ (o : Option Database). get (with_effect_at a other effect o) name ≡ Some now) at here)

step_grows : (c : auth.Configuration) (a : Contents) (m : Message) (r : Reply) (after : Contents) (name : List ℕ) (db now : Database) → Steps c a m r after → get a name ≡ Some db
    → get after name ≡ Some now → Grows db now
step_grows c a m r after name db now (inl done) there here = by (judgement c a m) refl (ap (λ (x : Contents). get x name) (sym done.1) ∙ here)
  where
    by : (j : Result Outcome Refusal) → judgement c a m ≡ j → get (with_change (settlement j).change a) name ≡ Some now → Grows db now
    by (Ok o) is got = change_grows a name db now there m o.change (judged_right c a m o is).made got
    by (Err refusal) is got = unmoved a a name db now refl there got
step_grows c a m r after name db now (inr (inl none)) there here = unmoved a after name db now (ap (λ (x : Contents). get x name) none.1) there here
step_grows c a m r after name db now (inr (inr failed)) there here = unmoved a after name db now (ap (λ (x : Contents). get x name) failed.1) there here

-- ---- at the nodes

unknown : (id : List ℕ) (r : Revision) → IsKnownAt new_database id r → ⊥
unknown id r k =
    let known : is_some (get (empty {X = Entry} {R = revision_cmp}) r) ≡ true = subst (λ (h : HistoryContent). is_known h r ≡ true) (history_at-empty_database closed_security id) k in
    let none : is_some (get (empty {X = Entry} {R = revision_cmp}) r) ≡ false = ap is_some (get-empty revision_cmp r) in
    let e : false ≡ true = sym none ∙ known in cc

grows_from_none : (db : Database) → HasSequences db → Grows new_database db
grows_from_none db has = record { keeps = λ id r known. absurd (unknown id r known); later = later_than_none db has }

-- whatever is asked, a database that stays grows
pub handled_grows : (old new : Nodes) (place : ℕ) (m : Message) (r : Reply) (q : ℕ) (name : List ℕ) → IsHandled Steps old place m r new → LawfulAt new → StaysAt old new q name
    → Grows (database_at old q name) (database_at new q name)
handled_grows old new place m r q name h lawful stays = by (look old q name)
  where
    inside_place : q ≡ place → (db now : Database) → IsAt old q name db → IsAt new q name now → Grows db now
    inside_place e db now at here =
        let next : Serving Contents = record h.node { store = h.after } in
        let before : at.node ≡ h.node = one_node at.node h.node (sym at.there ∙ ap (slice_get old) e ∙ h.there) in
        let after : here.node ≡ next = one_node here.node next (sym here.there ∙ ap (slice_get new) e ∙ node_after old new place m r h) in
        step_grows h.node.configuration h.node.store m r h.after name db now h.handled (ap (λ (n : Serving Contents). get n.store name) (sym before) ∙ at.holds)
        (ap (λ (n : Serving Contents). get n.store name) (sym after) ∙ here.holds)

    at_place : (q ≡ place) ⊎ (q ≢ place) → (db : Database) → IsAt old q name db → Grows (database_at old q name) (database_at new q name)
    at_place (inl e) db at =
        let k = stays db at in
        subst (λ (x : Database). Grows x (database_at new q name)) (sym (at_found old q name db at))
        (subst (λ (x : Database). Grows db x) (sym (at_found new q name k.0 k.1)) (inside_place e db k.0 at k.1))
    at_place (inr apart) db at = grows_by [] (database_at old q name) (database_at new q name) (elsewhere old new place m r h q name apart).0

    by : ((db : Database) × IsAt old q name db) ⊎ (database_at old q name ≡ new_database) → Grows (database_at old q name) (database_at new q name)
    by (inl (db, at)) = at_place (cases_eq q place) db at
    by (inr e) = subst (λ (x : Database). Grows x (database_at new q name)) (sym e) (grows_from_none (database_at new q name) (lawful_at new q name lawful).sequences)
