-- Hidden databases can't be told: what a group of callers is answered doesn't depend on what they hold, nor on what others ask of them.
use Rattle.std.proofs.Common.{◌≡◌, ℕ, List, [], ◌∷◌, Bool, true, false, cond, not, ◌&&◌, map, Option, Some, None, Result, Ok, Err, ◌⊎◌, inl, inr, refl, sym, ap, ◌∙◌, subst, is_none, bytes_eq}
use Rattle.std.specs.Prelude.{⊤, T}
use Rattle.std.specs.FinMap.{get, insert, remove, keys, entries, entries_sorted, entries-from_sorted, from_sorted, get-entries, get-from_sorted, is_sorted, find, same_map, nat_cmp-IsAntisymmetric, slice_cmp-IsAntisymmetric}
use Rattle.std.specs.FinMap.Entries.{below_all}
use Rattle.std.specs.Ordering.{eq_by_cmp, is_lt, nat_cmp}
use Rattle.std.specs.Cmp.Lexicographic.{slice_cmp}
use Rattle.std.specs.declared.cmp.Ordering.{Ordering}
use Rattle.std.proofs.lemmas.Cmp.{nat_list_cmp_total}
use Rattle.std.proofs.lemmas.Slice.Eq.{bytes_eq-Decides}
use Rattle.auth.specs.Callers.{Configuration, Identity}
use Rattle.couch_http.specs.Message.{Message}
use Rattle.couch_json.specs.Value.{Value, text, array}
use Rattle.couch_json.specs.View.{items_of}
use Rattle.policy.specs.Security.{is_database_admin, is_member}
use Rattle.policy.specs.Verdict.{first_refusal, verdict}
use Rattle.policy.specs.declared.action.Action.{Action}
use Rattle.policy.specs.declared.action.Action.TheVariants.{Read, WriteSecurity, WriteDocument}
use Rattle.policy.specs.declared.rule.Rule.{Rule}
use Rattle.policy.specs.declared.rule.Rule.TheVariants.{DbAdmin, DbMember}
use Rattle.store.specs.Contents.{Contents, local_at, new_database}
use Rattle.store.specs.Database.{Database, DocumentWrite, with_all, with_one}
use Rattle.store.specs.declared.local_document.LocalDocument.{LocalDocument}
use Rattle.write.specs.Admission.{admission}
use Rattle.write.specs.Bulk.{DocumentOutcome}
use Rattle.write.specs.IndexWrites.{index_admission}
use Rattle.write.specs.LocalWrites.{local_outcome}
use Rattle.write.specs.Terms.{terms_in}
use Rattle.write.specs.declared.fault.WriteFault.{WriteFault}
use Rattle.find.specs.Indexes.{index_in}
use Rattle.api.specs.Asking.{asker, json_body, method_named, plain}
use Rattle.api.specs.Bulk.{bulk_in}
use Rattle.api.specs.Paths.{database_name_in, local_id_in}
use Rattle.api.specs.Refusals.{and_then, there_or, true_or}
use Rattle.api.specs.Routing.{page_of}
use Rattle.api.specs.declared.method.RequestMethod.{RequestMethod}
use Rattle.api.specs.declared.method.RequestMethod.TheVariants.{Get, Put, Post, Delete}
use Rattle.api.specs.declared.page.Page.{Page}
use Rattle.api.specs.declared.page.Page.TheVariants.{Welcome, AllDatabases, Database as DatabasePage, Security, BulkDocuments, AllDocuments, Changes, Differences, Find, Index, View, Document, LocalDocument as LocalDocumentPage}
use Rattle.api.specs.declared.refusal.Refusal.{Refusal}
use Rattle.api.specs.declared.refusal.Refusal.TheVariants.{Body, DatabaseName, Exists, Id, NoDatabase, Path}
use Rattle.node.specs.Answer.{Change, Outcome, Task, administration, admin_task, answer, change_at, created, creation, database_name_of, entry, inside, judgement, kept, listed, outcome_in_database, page_outcome, permission, removal, removed, reply, settlement, task_of, task_outcome, told, welcome, with_change, with_effect_at, work_task, worked}
use Rattle.node.specs.Hidden.{AreAlike, AreHidden, CallerGroup, IsLike, IsLikeWhere, Names, is_among_names, is_into, is_of_others, is_outside, is_spared, is_spared_at, is_struck}
use Rattle.node.specs.Work.{Done, Effect, Work, appended, local_put, nothing, read_work, secured, with_effect}
use Rattle.node.specs.Works.{change_list, database_read, deletion_outcome, difference_list, document_deleted, document_finds, document_list, document_read, document_written, documents_written, done, edit_asked, edit_done, index_done, index_written, local_read, local_set, local_written, security_read, security_written, view_read}
use Rattle.node.proofs.Steps.{answer_made, got_insert, got_remove}
use Rattle.node.proofs.Tasks.{IsMade, named, next_same, same, went}

-- ---- maps with the same keys

-- the entries, without their values
abbrev marks : {X : Type 0} → List (List ℕ × X) → List (List ℕ × Unit {0})
marks [] = []
marks (e ∷ es) = (e.0, tt) ∷ marks es

abbrev marked : {X : Type 0} → Option X → Option (Unit {0})
marked None = None
marked (Some x) = Some tt

module _ {X : Type 0} (R : List ℕ → List ℕ → Ordering) where
  below_marks : (x : List ℕ) (es : List (List ℕ × X)) → below_all R x (marks es) ≡ below_all R x es
  below_marks x [] = refl
  below_marks x (e ∷ es) = ap (λ (b : Bool). is_lt (R x e.0) && b) (below_marks x es)

  sorted_marks : (es : List (List ℕ × X)) → is_sorted R (marks es) ≡ is_sorted R es
  sorted_marks [] = refl
  sorted_marks (e ∷ es) = ap (λ (b : Bool). b && is_sorted R (marks es)) (below_marks e.0 es) ∙ ap (λ (b : Bool). below_all R e.0 es && b) (sorted_marks es)

  find_marks : (q : List ℕ) (es : List (List ℕ × X)) → find R q (marks es) ≡ marked (find R q es)
  find_marks q [] = refl
  find_marks q (e ∷ es) = by (eq_by_cmp R q e.0) (find_marks q es)
    where
      by : (b : Bool) → find R q (marks es) ≡ marked (find R q es) → cond b (Some tt) (find R q (marks es)) ≡ marked (cond b (Some e.1) (find R q es))
      by true rest = refl
      by false rest = rest

  keys_marks : (es : List (List ℕ × X)) → map (λ (e : List ℕ × Unit {0}). e.0) (marks es) ≡ map (λ (e : List ℕ × X). e.0) es
  keys_marks [] = refl
  keys_marks (e ∷ es) = ap (λ ks. e.0 ∷ ks) (keys_marks es)

mark_of : (x y : Option Database) → is_none x ≡ is_none y → marked x ≡ marked y
mark_of None None e = refl
mark_of None (Some d) e = absurd cc
mark_of (Some d) None e = absurd cc
mark_of (Some d) (Some x) e = refl

-- states with the same databases list the same names
same_names : (a b : Contents) → ((name : List ℕ) → is_none (get a name) ≡ is_none (get b name)) → keys a ≡ keys b
same_names a b same =
    sym (keys_marks (slice_cmp nat_cmp) (entries a)) ∙ ap (map (λ (e : List ℕ × Unit {0}). e.0)) one ∙ keys_marks (slice_cmp nat_cmp) (entries b)
  where
    in_order : (x : Contents) → T (is_sorted (slice_cmp nat_cmp) (marks (entries x)))
    in_order x = subst T (sym (sorted_marks (slice_cmp nat_cmp) (entries x))) (entries_sorted x)

    here : (x : Contents) (q : List ℕ) → get (from_sorted {R = slice_cmp nat_cmp} (marks (entries x))) q ≡ marked (get x q)
    here x q = get-from_sorted (slice_cmp nat_cmp) (marks (entries x)) q (in_order x) ∙ find_marks (slice_cmp nat_cmp) q (entries x) ∙ ap marked (sym (get-entries x q))

    one : marks (entries a) ≡ marks (entries b)
    one =
        sym (entries-from_sorted (slice_cmp nat_cmp) (marks (entries a)) (in_order a))
        ∙ ap entries (same_map nat_list_cmp_total (slice_cmp-IsAntisymmetric nat_cmp-IsAntisymmetric) (from_sorted (marks (entries a))) (from_sorted (marks (entries b)))
        (λ q. here a q ∙ mark_of (get a q) (get b q) (same q) ∙ sym (here b q)))
        ∙ entries-from_sorted (slice_cmp nat_cmp) (marks (entries b)) (in_order b)

-- ---- what each request asks

-- the security object stays
abbrev KeepsSecurity : Effect → Type 0
KeepsSecurity nothing = ⊤
KeepsSecurity (appended ws) = ⊤
KeepsSecurity (secured v) = ⊥
KeepsSecurity (local_put id document) = ⊤

abbrev AreKeeping : Result Done Refusal → Type 0
AreKeeping r = (d : Done) → r ≡ Ok d → KeepsSecurity d.effect

keeping_done : (x : Done) → KeepsSecurity x.effect → AreKeeping (Ok x)
keeping_done x keeps d e = subst (λ (y : Done). KeepsSecurity y.effect) (same {A = Done} x d e) keeps

keeping_refusal : (refusal : Refusal) → AreKeeping (Err refusal)
keeping_refusal refusal d e = absurd cc

keeping_next : {A : Type 0} (r : Result A Refusal) (go : A → Result Done Refusal) → ((x : A) → AreKeeping (go x)) → AreKeeping (and_then r go)
keeping_next (Ok x) go each = each x
keeping_next (Err refusal) go each = keeping_refusal refusal

keeping_reading : (read : Database → Result Value Refusal) (db : Database) → AreKeeping (read_work read db)
keeping_reading read db = keeping_next (read db) _ (λ v. keeping_done _ tt)

keeping_edit : (caller : Identity) (status : ℕ) (id : List ℕ) (r : Result DocumentWrite WriteFault) → AreKeeping (edit_done caller status id r)
keeping_edit caller status id (Ok w) = keeping_done _ tt
keeping_edit caller status id (Err fault) = keeping_refusal _

keeping_writing : (caller : Identity) (m : Message) (name : List ℕ) (db : Database) → AreKeeping (document_written caller m name db)
keeping_writing caller m name db =
    keeping_next (edit_asked m) _ (λ asked. keeping_next (json_body m) _ (λ document. keeping_edit caller 201 asked.0 (admission (terms_in caller name db) db asked.0 asked.1 document)))

keeping_deleting : (caller : Identity) (m : Message) (name : List ℕ) (db : Database) → AreKeeping (document_deleted caller m name db)
keeping_deleting caller m name db =
    keeping_next (edit_asked m) _ (λ asked. keeping_edit caller 200 asked.0 (deletion_outcome (terms_in caller name db) db asked.0 asked.1))

keeping_documents : (caller : Identity) (m : Message) (name : List ℕ) (db : Database) → AreKeeping (documents_written caller m name db)
keeping_documents caller m name db =
    keeping_next (plain m) _ (λ u. keeping_next (json_body m) _ (λ v. keeping_next (there_or Body (bulk_in v)) _ (λ bulk. keeping_done _ tt)))

keeping_index : (caller : Identity) (id name : List ℕ) (r : DocumentOutcome) → AreKeeping (index_done caller id name r)
keeping_index caller id name (Ok w) = keeping_done _ tt
keeping_index caller id name (Err fault) = keeping_refusal _

keeping_indexing : (caller : Identity) (m : Message) (name : List ℕ) (db : Database) → AreKeeping (index_written caller m name db)
keeping_indexing caller m name db =
    keeping_next (plain m) _ (λ u. keeping_next (json_body m) _ (λ v. keeping_next (there_or Body (index_in v)) _
    (λ asked. keeping_index caller asked.design asked.name (index_admission (terms_in caller name db) db asked.design asked.name asked.fields))))

keeping_local : (caller : Identity) (id : List ℕ) (r : Result LocalDocument WriteFault) → AreKeeping (local_set caller id r)
keeping_local caller id (Ok l) = keeping_done _ tt
keeping_local caller id (Err fault) = keeping_refusal _

keeping_storing : (caller : Identity) (m : Message) (db : Database) → AreKeeping (local_written caller m db)
keeping_storing caller m db =
    keeping_next (there_or Id (local_id_in m.path)) _ (λ id. keeping_next (plain m) _ (λ u. keeping_next (json_body m) _ (λ v. keeping_local caller id (local_outcome (local_at db id) id v))))

-- whoever isn't a member is refused the action for that
abbrev AsksMembers : Action → Type 0
AsksMembers action = (caller : Identity) (security : Value) → is_member security caller ≡ false → verdict action caller security ≡ Some DbMember

reading_asks : AsksMembers Read
reading_asks caller security e = ap (λ (b : Bool). first_refusal ((b, DbMember) ∷ [])) e

writing_asks : AsksMembers WriteDocument
writing_asks caller security e = ap (λ (b : Bool). first_refusal ((b, DbMember) ∷ [])) e

securing_asks : AsksMembers WriteSecurity
securing_asks caller security e = ap (λ (b : Bool). first_refusal ((b, DbMember) ∷ (is_database_admin security caller, DbAdmin) ∷ [])) e

-- work that a spared request asks is the same in each database; other work keeps the security object
abbrev IsApart : Bool → Work → Type 0
IsApart true work = (d e : Database) → work d ≡ work e
IsApart false work = (db : Database) → AreKeeping (work db)

-- what a request asks, by whether it is spared: a database as a whole is asked of by spared ones alone
abbrev IsApt : Bool → Message → Task → Type 0
IsApt spared m (told value) = ⊤
IsApt spared m listed = ⊤
IsApt spared m (created name asked) = (database_name_in m.path ≡ Some name) × (spared ≡ true)
IsApt spared m (removed name asked) = (database_name_in m.path ≡ Some name) × (spared ≡ true)
IsApt spared m (worked action name work) = (database_name_in m.path ≡ Some name) × AsksMembers action × IsApart spared work

apt_work : (spared : Bool) (action : Action) (m : Message) (w : List ℕ → Work) (task : Task) → AsksMembers action → ((name : List ℕ) → IsApart spared (w name)) → work_task action m w ≡ Ok task
    → IsApt spared m task
apt_work spared action m w task asks apart e =
    let k = went (database_name_of m) (λ name. Ok (worked action name (w name))) task e in
    subst (λ (x : Task). IsApt spared m x) (same {A = Task} _ task k.then) (named DatabaseName (database_name_in m.path) k.first k.was, asks, apart k.first)

apt_whole : (caller : Identity) (m : Message) (t : List ℕ → Task) (task : Task) → ((name : List ℕ) → database_name_in m.path ≡ Some name → IsApt true m (t name)) → admin_task caller m t ≡ Ok task
    → IsApt true m task
apt_whole caller m t task all e =
    let k = went (database_name_of m) (λ name. and_then (administration caller) (λ _. Ok (t name))) task e in
    let l = went (administration caller) (λ _. Ok (t k.first)) task k.then in
    subst (λ (x : Task). IsApt true m x) (same {A = Task} _ task l.then) (all k.first (named DatabaseName (database_name_in m.path) k.first k.was))

apt_welcome : (m : Message) (task : Task) → and_then (plain m) (λ _. Ok (told welcome)) ≡ Ok task → IsApt false m task
apt_welcome m task e = let k = went (plain m) (λ _. Ok (told welcome)) task e in subst (λ (x : Task). IsApt false m x) (same {A = Task} _ task k.then) tt

apt_list : (caller : Identity) (m : Message) (task : Task) → and_then (administration caller) (λ _. and_then (plain m) (λ _. Ok listed)) ≡ Ok task → IsApt false m task
apt_list caller m task e =
    let k = went (administration caller) (λ _. and_then (plain m) (λ _. Ok listed)) task e in
    let l = went (plain m) (λ _. Ok listed) task k.then in
    subst (λ (x : Task). IsApt false m x) (same {A = Task} _ task l.then) tt

apt : (page : Page) (method : Option RequestMethod) (caller : Identity) (m : Message) (task : Task) → task_of page method caller m ≡ Ok task → IsApt (is_spared_at (Some page) method) m task
apt Welcome (Some Get) caller m task e = apt_welcome m task e
apt AllDatabases (Some Get) caller m task e = apt_list caller m task e
apt DatabasePage (Some Get) caller m task e = apt_work false Read m (λ name. read_work (database_read m name)) task reading_asks (λ name. keeping_reading (database_read m name)) e
apt DatabasePage (Some Put) caller m task e = apt_whole caller m (λ name. created name (plain m)) task (λ name own. (own, refl)) e
apt DatabasePage (Some Delete) caller m task e = apt_whole caller m (λ name. removed name (plain m)) task (λ name own. (own, refl)) e
apt Security (Some Get) caller m task e = apt_work false Read m (λ name. read_work (security_read m)) task reading_asks (λ name. keeping_reading (security_read m)) e
apt Security (Some Put) caller m task e = apt_work true WriteSecurity m (λ name. security_written m) task securing_asks (λ name d x. refl) e
apt BulkDocuments (Some Post) caller m task e = apt_work false WriteDocument m (λ name. documents_written caller m name) task writing_asks (λ name. keeping_documents caller m name) e
apt AllDocuments (Some Get) caller m task e = apt_work false Read m (λ name. read_work (document_list m)) task reading_asks (λ name. keeping_reading (document_list m)) e
apt Changes (Some Get) caller m task e = apt_work false Read m (λ name. read_work (change_list m)) task reading_asks (λ name. keeping_reading (change_list m)) e
apt Differences (Some Post) caller m task e = apt_work false Read m (λ name. read_work (difference_list m)) task reading_asks (λ name. keeping_reading (difference_list m)) e
apt Document (Some Get) caller m task e = apt_work false Read m (λ name. read_work (document_read m)) task reading_asks (λ name. keeping_reading (document_read m)) e
apt Document (Some Put) caller m task e = apt_work false WriteDocument m (λ name. document_written caller m name) task writing_asks (λ name. keeping_writing caller m name) e
apt Document (Some Delete) caller m task e = apt_work false WriteDocument m (λ name. document_deleted caller m name) task writing_asks (λ name. keeping_deleting caller m name) e
apt Find (Some Post) caller m task e = apt_work false Read m (λ name. read_work (document_finds m)) task reading_asks (λ name. keeping_reading (document_finds m)) e
apt Index (Some Post) caller m task e = apt_work false WriteDocument m (λ name. index_written caller m name) task writing_asks (λ name. keeping_indexing caller m name) e
apt View (Some Get) caller m task e = apt_work false Read m (λ name. read_work (view_read m)) task reading_asks (λ name. keeping_reading (view_read m)) e
apt LocalDocumentPage (Some Get) caller m task e = apt_work false Read m (λ name. read_work (local_read m)) task reading_asks (λ name. keeping_reading (local_read m)) e
apt LocalDocumentPage (Some Put) caller m task e = apt_work false Read m (λ name. local_written caller m) task reading_asks (λ name. keeping_storing caller m) e
apt page method caller m task e = absurd cc

-- ---- what is answered alike

there_alike : (side : Bool) (x y : Option Database) → IsLikeWhere side x y → is_none x ≡ is_none y
there_alike true None None like = refl
there_alike true None (Some e) like = absurd like
there_alike true (Some d) None like = absurd like
there_alike true (Some d) (Some e) like = refl
there_alike false x y like = ap is_none like

removed_alike : (x y : Option Database) (r : Result Outcome Refusal) → is_none x ≡ is_none y → and_then (there_or NoDatabase x) (λ _. r) ≡ and_then (there_or NoDatabase y) (λ _. r)
removed_alike None None r e = refl
removed_alike None (Some d) r e = absurd cc
removed_alike (Some d) None r e = absurd cc
removed_alike (Some d) (Some x) r e = refl

-- what work in an entered database comes to
abbrev ends_in : List ℕ → Work → Database → Result Outcome Refusal
ends_in name work db = and_then (work db) (λ d. Ok (outcome_in_database name d))

-- a caller is no member, or what is asked is the same in each database
abbrev IsUnseeing : Identity → Action → Work → Database → Type 0
IsUnseeing caller action work db = (verdict action caller db.security ≡ Some DbMember) ⊎ ((d e : Database) → work d ≡ work e)

entered_alike : (caller : Identity) (action : Action) (name : List ℕ) (work : Work) (d e : Database) → d.security ≡ e.security → IsUnseeing caller action work d
    → and_then (entry caller action (Some d)) (ends_in name work) ≡ and_then (entry caller action (Some e)) (ends_in name work)
entered_alike caller action name work d e like (inl refused) =
    ap (λ (o : Option Rule). and_then (and_then (permission caller o) (λ _. Ok d)) (ends_in name work)) refused
    ∙ sym (ap (λ (o : Option Rule). and_then (and_then (permission caller o) (λ _. Ok e)) (ends_in name work)) (ap (verdict action caller) (sym like) ∙ refused))
entered_alike caller action name work d e like (inr every) =
    ap (λ (s : Value). and_then (and_then (permission caller (verdict action caller s)) (λ _. Ok d)) (ends_in name work)) like ∙ by (verdict action caller e.security)
  where
    by : (o : Option Rule) → and_then (and_then (permission caller o) (λ _. Ok d)) (ends_in name work) ≡ and_then (and_then (permission caller o) (λ _. Ok e)) (ends_in name work)
    by None = ap (λ (r : Result Done Refusal). and_then r (λ w. Ok (outcome_in_database name w))) (every d e)
    by (Some rule) = refl

worked_alike : (caller : Identity) (action : Action) (name : List ℕ) (work : Work) (side : Bool) (x y : Option Database) → IsLikeWhere side x y
    → (side ≡ true → (d : Database) → x ≡ Some d → IsUnseeing caller action work d) → and_then (entry caller action x) (ends_in name work) ≡ and_then (entry caller action y) (ends_in name work)
worked_alike caller action name work false x y like unseeing = ap (λ (o : Option Database). and_then (entry caller action o) (ends_in name work)) like
worked_alike caller action name work true None None like unseeing = refl
worked_alike caller action name work true None (Some e) like unseeing = absurd like
worked_alike caller action name work true (Some d) None like unseeing = absurd like
worked_alike caller action name work true (Some d) (Some e) like unseeing = entered_alike caller action name work d e like (unseeing refl d refl)

-- what isn't struck is asked by the group, or is spared
spared_or_own : (others into spared : Bool) → (others && (into && not spared)) ≡ false → into ≡ true → (others ≡ false) ⊎ (spared ≡ true)
spared_or_own false into spared e is = inl refl
spared_or_own true into true e is = inr refl
spared_or_own true true false e is = absurd cc
spared_or_own true false false e is = absurd cc

in_group : (b : Bool) → not b ≡ false → b ≡ true
in_group true e = refl
in_group false e = absurd cc

module _ (c : Configuration) (group : CallerGroup) (names : Names) (a b : Contents) (m : Message) (like : AreAlike names a b) (hidden : AreHidden group names a) (stays : is_struck c group names m ≡ false) where
  unseeing : (page : Page) (caller : Identity) (action : Action) (name : List ℕ) (work : Work) → asker c m ≡ Ok caller → page_of m.path ≡ Some page → database_name_in m.path ≡ Some name
      → AsksMembers action → IsApart (is_spared_at (Some page) (method_named m.method)) work → names name ≡ true → (d : Database) → get a name ≡ Some d → IsUnseeing caller action work d
  unseeing page caller action name work is at own asks apart among d there =
      by (spared_or_own (is_of_others c group m) (is_into names m) (is_spared m) stays (ap (is_among_names names) own ∙ among))
    where
      by : (is_of_others c group m ≡ false) ⊎ (is_spared m ≡ true) → IsUnseeing caller action work d
      by (inl outside) = inl (asks caller d.security (hidden caller name d (in_group (group caller) (ap (is_outside group) (sym is) ∙ outside)) among there))
      by (inr spared) = inr (subst (λ (s : Bool). IsApart s work) (ap (λ (o : Option Page). is_spared_at o (method_named m.method)) (sym at) ∙ spared) apart)

  outcome_alike : (page : Page) (caller : Identity) (task : Task) → asker c m ≡ Ok caller → page_of m.path ≡ Some page → IsApt (is_spared_at (Some page) (method_named m.method)) m task
      → task_outcome caller a task ≡ task_outcome caller b task
  outcome_alike page caller (told value) is at ok = refl
  outcome_alike page caller listed is at ok =
      ap (λ (ks : List (List ℕ)). Ok (reply (array (items_of (map text ks))))) (same_names a b (λ name. there_alike (names name) (get a name) (get b name) (like name)))
  outcome_alike page caller (created name asked) is at ok =
      ap (λ (absent : Bool). and_then (true_or Exists absent) (λ _. and_then asked (λ _. Ok (let x : Outcome = record { status = 201; value = done; change = creation name } in x))))
      (there_alike (names name) (get a name) (get b name) (like name))
  outcome_alike page caller (removed name asked) is at ok =
      removed_alike (get a name) (get b name) (and_then asked (λ _. Ok (let x : Outcome = record { status = 200; value = done; change = removal name } in x)))
      (there_alike (names name) (get a name) (get b name) (like name))
  outcome_alike page caller (worked action name work) is at (own, asks, apart) =
      worked_alike caller action name work (names name) (get a name) (get b name) (like name) (unseeing page caller action name work is at own asks apart)

  judged_hidden : judgement c a m ≡ judgement c b m
  judged_hidden =
      next_same (asker c m) _ _ (λ caller is.
      next_same (there_or Path (page_of m.path)) _ _ (λ page at.
      next_same (task_of page (method_named m.method) caller m) _ _ (λ task asked.
      outcome_alike page caller task is (named Path (page_of m.path) page at) (apt page (method_named m.method) caller m task asked))))

  pub answer_hidden : answer c a m ≡ answer c b m
  answer_hidden = ap settlement judged_hidden

-- ---- what stays alike

security_all : (db : Database) (ws : List DocumentWrite) → (with_all db ws).security ≡ db.security
security_all db [] = refl
security_all db (w ∷ ws) = security_all (with_one db w) ws

effect_alike : (effect : Effect) (d e : Database) → d.security ≡ e.security → (with_effect effect d).security ≡ (with_effect effect e).security
effect_alike nothing d e like = like
effect_alike (appended ws) d e like = security_all d ws ∙ like ∙ sym (security_all e ws)
effect_alike (secured v) d e like = refl
effect_alike (local_put id document) d e like = like

effect_unseen : (effect : Effect) (db : Database) → KeepsSecurity effect → (with_effect effect db).security ≡ db.security
effect_unseen nothing db keeps = refl
effect_unseen (appended ws) db keeps = security_all db ws
effect_unseen (secured v) db keeps = absurd keeps
effect_unseen (local_put id document) db keeps = refl

like_itself : (side : Bool) (x : Option Database) → IsLikeWhere side x x
like_itself true None = tt
like_itself true (Some db) = refl
like_itself false x = refl

pub alike_itself : (names : Names) (a : Contents) → AreAlike names a a
alike_itself names a name = like_itself (names name) (get a name)

like_turned : (side : Bool) (x y : Option Database) → IsLikeWhere side x y → IsLikeWhere side y x
like_turned true None None like = tt
like_turned true None (Some e) like = absurd like
like_turned true (Some d) None like = absurd like
like_turned true (Some d) (Some e) like = sym like
like_turned false x y like = sym like

pub alike_turned : (names : Names) (a b : Contents) → AreAlike names a b → AreAlike names b a
alike_turned names a b like name = like_turned (names name) (get a name) (get b name) (like name)

like_put : (names : Names) (name other : List ℕ) (d e : Option Database) (x y : Option Database) (here : Bool) → bytes_eq other name ≡ here → IsLikeWhere (names name) d e → IsLikeWhere (names other) x y
    → IsLikeWhere (names other) (cond here d x) (cond here e y)
like_put names name other d e x y true is put rest = subst (λ (n : List ℕ). IsLikeWhere (names n) d e) (sym ((bytes_eq-Decides other name).0 is)) put
like_put names name other d e x y false is put rest = rest

alike_insert : (names : Names) (a b : Contents) (name : List ℕ) (d e : Database) → AreAlike names a b → IsLikeWhere (names name) (Some d) (Some e) → AreAlike names (insert a name d) (insert b name e)
alike_insert names a b name d e like put other =
    subst (λ (o : Option Database). IsLikeWhere (names other) o (get (insert b name e) other)) (sym (got_insert a name d other))
    (subst (λ (o : Option Database). IsLikeWhere (names other) (cond (bytes_eq other name) (Some d) (get a other)) o) (sym (got_insert b name e other))
    (like_put names name other (Some d) (Some e) (get a other) (get b other) (bytes_eq other name) refl put (like other)))

alike_remove : (names : Names) (a b : Contents) (name : List ℕ) → AreAlike names a b → AreAlike names (remove a name) (remove b name)
alike_remove names a b name like other =
    subst (λ (o : Option Database). IsLikeWhere (names other) o (get (remove b name) other)) (sym (got_remove a name other))
    (subst (λ (o : Option Database). IsLikeWhere (names other) (cond (bytes_eq other name) None (get a other)) o) (sym (got_remove b name other))
    (like_put names name other None None (get a other) (get b other) (bytes_eq other name) refl (like_itself (names name) None) (like other)))

like_effect : (side : Bool) (effect : Effect) (d e : Database) → IsLikeWhere side (Some d) (Some e) → IsLikeWhere side (Some (with_effect effect d)) (Some (with_effect effect e))
like_effect true effect d e like = effect_alike effect d e like
like_effect false effect d e like = ap (λ (x : Database). Some (with_effect effect x)) (let same : d ≡ e = cc in same)

none_there : (side : Bool) (d : Database) → IsLikeWhere side None (Some d) → ⊥
none_there true d like = like
none_there false d like = cc

alike_inside : (names : Names) (a b : Contents) (name : List ℕ) (effect : Effect) (x y : Option Database) → AreAlike names a b → IsLikeWhere (names name) x y
    → AreAlike names (with_effect_at a name effect x) (with_effect_at b name effect y)
alike_inside names a b name effect None None like here = like
alike_inside names a b name effect None (Some e) like here = absurd (none_there (names name) e here)
alike_inside names a b name effect (Some d) None like here = absurd (none_there (names name) d (like_turned (names name) (Some d) None here))
alike_inside names a b name effect (Some d) (Some e) like here =
    alike_insert names a b name (with_effect effect d) (with_effect effect e) like (like_effect (names name) effect d e here)

-- one change keeps states alike
pub change_alike : (names : Names) (a b : Contents) (change : Change) → AreAlike names a b → AreAlike names (with_change change a) (with_change change b)
change_alike names a b kept like = like
change_alike names a b (creation name) like = alike_insert names a b name new_database new_database like (like_itself (names name) (Some new_database))
change_alike names a b (removal name) like = alike_remove names a b name like
change_alike names a b (inside name effect) like = alike_inside names a b name effect (get a name) (get b name) like (like name)

-- ---- what is struck

-- the change is that of a request which isn't spared
abbrev IsQuiet : Change → Type 0
IsQuiet kept = ⊤
IsQuiet (creation name) = ⊥
IsQuiet (removal name) = ⊥
IsQuiet (inside name effect) = KeepsSecurity effect

quiet_at : (name : List ℕ) (effect : Effect) → KeepsSecurity effect → IsQuiet (change_at name effect)
quiet_at name nothing keeps = tt
quiet_at name (appended ws) keeps = tt
quiet_at name (secured v) keeps = absurd keeps
quiet_at name (local_put id document) keeps = tt

quiet_outcome : (spared : Bool) (caller : Identity) (a : Contents) (m : Message) (task : Task) (o : Outcome) → spared ≡ false → IsApt spared m task → task_outcome caller a task ≡ Ok o → IsQuiet o.change
quiet_outcome spared caller a m (told value) o not_spared ok e = subst (λ (x : Outcome). IsQuiet x.change) (same {A = Outcome} _ o e) tt
quiet_outcome spared caller a m listed o not_spared ok e = subst (λ (x : Outcome). IsQuiet x.change) (same {A = Outcome} _ o e) tt
quiet_outcome spared caller a m (created name asked) o not_spared ok e = absurd (let k : true ≡ false = sym ok.1 ∙ not_spared in cc)
quiet_outcome spared caller a m (removed name asked) o not_spared ok e = absurd (let k : true ≡ false = sym ok.1 ∙ not_spared in cc)
quiet_outcome spared caller a m (worked action name work) o not_spared (own, asks, apart) e =
    let k = went (entry caller action (get a name)) (ends_in name work) o e in
    let l = went (work k.first) (λ d. Ok (outcome_in_database name d)) o k.then in
    let keeps : (db : Database) → AreKeeping (work db) = subst (λ (s : Bool). IsApart s work) not_spared apart in
    subst (λ (x : Outcome). IsQuiet x.change) (same {A = Outcome} _ o l.then) (quiet_at name l.first.effect (keeps k.first l.first l.was))

quiet_judged : (c : Configuration) (a : Contents) (m : Message) (o : Outcome) → is_spared m ≡ false → judgement c a m ≡ Ok o → IsQuiet o.change
quiet_judged c a m o not_spared e =
    let k = went (asker c m) (λ caller. and_then (there_or Path (page_of m.path)) (λ page. page_outcome page (method_named m.method) caller a m)) o e in
    let l = went (there_or Path (page_of m.path)) (λ page. page_outcome page (method_named m.method) k.first a m) o k.then in
    let t = went (task_of l.first (method_named m.method) k.first m) (λ task. task_outcome k.first a task) o l.then in
    let at = named Path (page_of m.path) l.first l.was in
    quiet_outcome (is_spared_at (Some l.first) (method_named m.method)) k.first a m t.first o
    (ap (λ (p : Option Page). is_spared_at p (method_named m.method)) (sym at) ∙ not_spared) (apt l.first (method_named m.method) k.first m t.first t.was) t.then

quiet_settled : (c : Configuration) (a : Contents) (m : Message) (r : Result Outcome Refusal) → is_spared m ≡ false → judgement c a m ≡ r → IsQuiet (settlement r).change
quiet_settled c a m (Ok o) not_spared e = quiet_judged c a m o not_spared e
quiet_settled c a m (Err refusal) not_spared e = tt

struck_parts : (others into spared : Bool) → (others && (into && not spared)) ≡ true → (into ≡ true) × (spared ≡ false)
struck_parts true true false e = (refl, refl)
struck_parts true true true e = absurd cc
struck_parts true false spared e = absurd cc
struck_parts false into spared e = absurd cc

like_unseen : (d e : Database) (y : Option Database) → e.security ≡ d.security → IsLike (Some d) y → IsLike (Some e) y
like_unseen d e None same like = absurd like
like_unseen d e (Some x) same like = same ∙ like

unseen_at : (names : Names) (name other : List ℕ) (d e : Database) (x y : Option Database) (here : Bool) → bytes_eq other name ≡ here → names name ≡ true → e.security ≡ d.security
    → (other ≡ name → x ≡ Some d) → IsLikeWhere (names other) x y → IsLikeWhere (names other) (cond here (Some e) x) y
unseen_at names name other d e x y true is among same was like =
    let at : other ≡ name = (bytes_eq-Decides other name).0 is in
    let hid : true ≡ names other = sym (ap names at ∙ among) in
    subst (λ (w : Bool). IsLikeWhere w (Some e) y) hid
    (like_unseen d e y same (subst (λ (o : Option Database). IsLike o y) (was at) (subst (λ (w : Bool). IsLikeWhere w x y) (sym hid) like)))
unseen_at names name other d e x y false is among same was like = like

change_unseen : (names : Names) (a b : Contents) (m : Message) (change : Change) → is_into names m ≡ true → IsMade a m change → IsQuiet change → AreAlike names a b
    → AreAlike names (with_change change a) b
change_unseen names a b m kept into made quiet like = like
change_unseen names a b m (creation name) into made quiet like = absurd quiet
change_unseen names a b m (removal name) into made quiet like = absurd quiet
change_unseen names a b m (inside name effect) into (own, (db, there, fits)) quiet like =
    subst (λ (o : Option Database). AreAlike names (with_effect_at a name effect o) b) (sym there)
    (λ other. subst (λ (o : Option Database). IsLikeWhere (names other) o (get b other)) (sym (got_insert a name (with_effect effect db) other))
    (unseen_at names name other db (with_effect effect db) (get a other) (get b other) (bytes_eq other name) refl (ap (is_among_names names) (sym own) ∙ into)
    (effect_unseen effect db quiet) (λ at. ap (get a) at ∙ there) (like other)))

pub answer_struck : (c : Configuration) (group : CallerGroup) (names : Names) (a b : Contents) (m : Message) → is_struck c group names m ≡ true → AreAlike names a b
    → AreAlike names (with_change (answer c a m).change a) b
answer_struck c group names a b m struck like =
    let parts = struck_parts (is_of_others c group m) (is_into names m) (is_spared m) struck in
    change_unseen names a b m (answer c a m).change parts.0 (answer_made c a m) (quiet_settled c a m (judgement c a m) parts.1 refl) like

-- what stays keeps states alike
pub answer_stays : (c : Configuration) (group : CallerGroup) (names : Names) (a b : Contents) (m : Message) → AreAlike names a b → AreHidden group names a → is_struck c group names m ≡ false
    → AreAlike names (with_change (answer c a m).change a) (with_change (answer c b m).change b)
answer_stays c group names a b m like hidden stays =
    subst (λ (o : Outcome). AreAlike names (with_change (answer c a m).change a) (with_change o.change b)) (answer_hidden c group names a b m like hidden stays)
    (change_alike names a b (answer c a m).change like)

-- ---- what is hidden

hidden_by : (x y : Option Database) (e : Database) → IsLike x y → y ≡ Some e → (d : Database) × (x ≡ Some d) × (d.security ≡ e.security)
hidden_by None None e like is = absurd (let k : None ≡ Some e = is in cc)
hidden_by None (Some f) e like is = absurd like
hidden_by (Some d) None e like is = absurd like
hidden_by (Some d) (Some f) e like is = (d, refl, like ∙ ap (λ (x : Database). x.security) (let k : f ≡ e = cc in k))

-- what is hidden in a state is hidden in those that are like it
pub hidden_alike : (group : CallerGroup) (names : Names) (a b : Contents) → AreAlike names a b → AreHidden group names a → AreHidden group names b
hidden_alike group names a b like hidden caller name e own among there =
    let k = hidden_by (get a name) (get b name) e (subst (λ (w : Bool). IsLikeWhere w (get a name) (get b name)) among (like name)) there in
    ap (λ (s : Value). is_member s caller) (sym k.2) ∙ hidden caller name k.0 own among k.1
