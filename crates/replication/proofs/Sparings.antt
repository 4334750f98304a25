-- Runs in which the two passes alone write in their databases, told by the requests.
use Rattle.std.proofs.Common.{◌≡◌, ◌≢◌, ◌⊎◌, ◌+◌, ⊎_elim, inl, inr, ℕ, zero, suc, Bool, true, false, cond, List, [], ◌∷◌, ◌++◌, Option, Some, None, Result, Ok, Err, length, refl, sym, ap, ◌∙◌, subst, arith}
use Rattle.std.specs.FinMap.{get, get-remove, remove}
use Rattle.std.specs.List.{slice_get}
use Rattle.std.specs.Cmp.Lexicographic.{slice_cmp}
use Rattle.std.specs.Ordering.{eq_by_cmp, nat_cmp}
use Rattle.std.proofs.lemmas.Bool.{cases_eq}
use Rattle.std.proofs.lemmas.Cmp.{nat_list_cmp_total}
use Rattle.std.proofs.lemmas.Map.Text.{is_eq-slice_cmp}
use Rattle.std.proofs.lemmas.Slice.Eq.{bytes_eq-Decides}
use Rattle.auth.specs.Callers as auth
use Rattle.couch_http.specs.Message.{Message}
use Rattle.couch_http.specs.Reply.{Reply}
use Rattle.store.specs.Contents.{Contents, new_database}
use Rattle.store.specs.Database.{Database}
use Rattle.policy.specs.declared.action.Action.TheVariants.{Read, WriteSecurity}
use Rattle.api.specs.Asking.{method_named, plain}
use Rattle.api.specs.Paths.{database_name_in}
use Rattle.api.specs.declared.method.RequestMethod.{RequestMethod}
use Rattle.api.specs.declared.method.RequestMethod.TheVariants.{Delete, Get, Post, Put}
use Rattle.api.specs.declared.page.Page.{Page}
use Rattle.api.specs.declared.page.Page.TheVariants.{Welcome, AllDatabases, Database as DatabasePage, Security, BulkDocuments, AllDocuments, Changes, Differences, Find, Index, View, Document, LocalDocument}
use Rattle.api.specs.Refusals.{and_then}
use Rattle.api.specs.Routing.{page_of}
use Rattle.api.specs.declared.refusal.Refusal.{Refusal}
use Rattle.node.specs.Answer.{Change, Outcome, Task, admin_task, administration, created, creation, database_name_of, inside, judgement, kept, removal, settlement, task_of, with_change, with_effect_at}
use Rattle.node.specs.Runs.{Steps}
use Rattle.node.specs.Work.{with_effect}
use Rattle.node.specs.Works.{difference_list, document_finds, local_written, security_written}
use Rattle.node.proofs.Tasks.{IsMade, judged_right, same, went}
use Rattle.world.specs.Network.{Transfer, transfer_at}
use Rattle.world.specs.Service.{Asker, IsHandled, alike}
use Rattle.replication.specs.Finished.{found_or_new}
use Rattle.replication.proofs.Places.{one_transfer}
use Rattle.replication.proofs.Removals.{plays_so}
use Rattle.replication.specs.Appended.{KeepsDocuments}
use Rattle.replication.specs.Groups.{CallsArrangeForGroups, Group, IsFresh, IsOf, IsPeaceful, SparingGroups}
use Rattle.replication.specs.Networks.{BecomesAt, CallsArrange, IsOneOf, KeepsBoth, Spares, SparingRuns, StaysOrStarts, may_write, may_write_at}
use Rattle.replication.specs.Written.{Becomes, WritesNowhere}
use Rattle.replication.proofs.Handlings.{Nodes, anywhere, elsewhere, here}
use Rattle.replication.proofs.Quiet.{IsQuiet, become, nowhere, put_elsewhere, quiet_get, quiet_local, quiet_read, quiet_security, quiet_step, quiet_work, same_documents}

-- ---- a request of another database

named_same : (name : List ℕ) (o : Option (List ℕ)) (other : List ℕ) → o ≡ Some other → o ≢ Some name → name ≢ other
named_same name o other is apart e = apart (is ∙ ap (λ (n : List ℕ). Some n) (sym e))

removed_elsewhere : (a : Contents) (name other : List ℕ) → other ≢ name → Becomes a other (remove a name) KeepsDocuments
removed_elsewhere a name other apart =
    become KeepsDocuments a (remove a name) other (get a other) (get a other) refl (get-remove nat_list_cmp_total a name other ∙ by (eq_by_cmp (slice_cmp nat_cmp) other name) refl)
    (same_documents (found_or_new (get a other))) (λ db at. (db, at))
  where
    by : (b : Bool) → eq_by_cmp (slice_cmp nat_cmp) other name ≡ b → cond b None (get a other) ≡ get a other
    by true is = absurd (apart ((bytes_eq-Decides other name).0 (sym (is_eq-slice_cmp other name) ∙ is)))
    by false is = refl

other_change : (a : Contents) (m : Message) (name : List ℕ) (change : Change) → database_name_in m.path ≢ Some name → IsMade a m change → Becomes a name (with_change change a) KeepsDocuments
other_change a m name kept apart made = nowhere a name
other_change a m name (creation other) apart made = put_elsewhere a other new_database name (named_same name (database_name_in m.path) other made.0 apart)
other_change a m name (removal other) apart made = removed_elsewhere a other name (named_same name (database_name_in m.path) other made apart)
other_change a m name (inside other effect) apart made =
    let db = made.1.0 in
    subst (λ (o : Option Database). Becomes a name (with_effect_at a other effect o) KeepsDocuments) (sym made.1.1)
    (put_elsewhere a other (with_effect effect db) name (named_same name (database_name_in m.path) other made.0 apart))

other_step : (c : auth.Configuration) (a : Contents) (m : Message) (r : Reply) (after : Contents) (name : List ℕ) → database_name_in m.path ≢ Some name → Steps c a m r after → Becomes a name after KeepsDocuments
other_step c a m r after name apart (inl did) = subst (λ (x : Contents). Becomes a name x KeepsDocuments) (sym did.1) (by (judgement c a m) refl)
  where
    by : (j : Result Outcome Refusal) → judgement c a m ≡ j → Becomes a name (with_change (settlement j).change a) KeepsDocuments
    by (Ok o) is = other_change a m name o.change apart (judged_right c a m o is).made
    by (Err refusal) is = nowhere a name
other_step c a m r after name apart (inr (inl none)) = subst (λ (x : Contents). Becomes a name x KeepsDocuments) (sym none.1) (nowhere a name)
other_step c a m r after name apart (inr (inr failed)) = subst (λ (x : Contents). Becomes a name x KeepsDocuments) (sym failed.1) (nowhere a name)

-- ---- a request that spares a database

-- what may not write asks for nothing that writes
quiet_created : (caller : auth.Identity) (m : Message) (task : Task) → admin_task caller m (λ name. created name (plain m)) ≡ Ok task → IsQuiet task
quiet_created caller m task e =
    let k = went (database_name_of m) (λ name. and_then (administration caller) (λ _. Ok (created name (plain m)))) task e in
    let l = went (administration caller) (λ _. Ok (created k.first (plain m))) task k.then in
    subst IsQuiet (same {A = Task} _ task l.then) tt

quiet_page : (page : Page) (method : Option RequestMethod) (caller : auth.Identity) (m : Message) (task : Task) → may_write page method ≡ false → task_of page method caller m ≡ Ok task → IsQuiet task
quiet_page Welcome (Some Get) caller m task none e = quiet_get Welcome caller m task e
quiet_page AllDatabases (Some Get) caller m task none e = quiet_get AllDatabases caller m task e
quiet_page DatabasePage (Some Get) caller m task none e = quiet_get DatabasePage caller m task e
quiet_page DatabasePage (Some Put) caller m task none e = quiet_created caller m task e
quiet_page DatabasePage (Some Delete) caller m task none e = absurd cc
quiet_page Security (Some Get) caller m task none e = quiet_get Security caller m task e
quiet_page Security (Some Put) caller m task none e = quiet_work WriteSecurity m (λ name. security_written m) task (λ name. quiet_security m) e
quiet_page BulkDocuments method caller m task none e = absurd cc
quiet_page AllDocuments (Some Get) caller m task none e = quiet_get AllDocuments caller m task e
quiet_page Changes (Some Get) caller m task none e = quiet_get Changes caller m task e
quiet_page Differences (Some Post) caller m task none e = quiet_read m (λ name. difference_list m) task e
quiet_page Document (Some Get) caller m task none e = quiet_get Document caller m task e
quiet_page Document (Some Put) caller m task none e = absurd cc
quiet_page Document (Some Delete) caller m task none e = absurd cc
quiet_page Find (Some Post) caller m task none e = quiet_read m (λ name. document_finds m) task e
quiet_page Index method caller m task none e = absurd cc
quiet_page View (Some Get) caller m task none e = quiet_get View caller m task e
quiet_page LocalDocument (Some Get) caller m task none e = quiet_get LocalDocument caller m task e
quiet_page LocalDocument (Some Put) caller m task none e = quiet_work Read m (λ name. local_written caller m) task (λ name. quiet_local caller m) e
quiet_page page method caller m task none e = absurd cc

writes_none : (c : auth.Configuration) (a : Contents) (m : Message) (r : Reply) (after : Contents) → may_write_at (page_of m.path) (method_named m.method) ≡ false → Steps c a m r after → WritesNowhere a after
writes_none c a m r after none step =
    quiet_step c a m r after
    (λ page caller task at e. quiet_page page (method_named m.method) caller m task (ap (λ (o : Option Page). may_write_at o (method_named m.method)) (sym at) ∙ none) e) step

module _ (who : Asker) (old : Nodes) (place : ℕ) (m : Message) (r : Reply) (new : Nodes) (h : IsHandled Steps old place m r new) where
  spared_here : (name : List ℕ) → (database_name_in m.path ≢ Some name) ⊎ (may_write_at (page_of m.path) (method_named m.method) ≡ false) → BecomesAt old place name new KeepsDocuments
  spared_here name (inl apart) = here old new place m r h name KeepsDocuments (other_step h.node.configuration h.node.store m r h.after name apart h.handled)
  spared_here name (inr none) = anywhere old new place m r h place name (writes_none h.node.configuration h.node.store m r h.after none h.handled)

  spared_at : (q : ℕ) (name : List ℕ) → (q ≡ place) ⊎ (q ≢ place) → Spares q name (record { who = who; old = old; place = place; message = m; reply = r; new = new })
      → BecomesAt old q name new KeepsDocuments
  spared_at q name (inr apart) spares = elsewhere old new place m r h q name apart
  spared_at q name (inl is) (inl apart) = absurd (apart (sym is))
  spared_at q name (inl is) (inr spares) = subst (λ (x : ℕ). BecomesAt old x name new KeepsDocuments) (sym is) (spared_here name spares)

pub sparing : SparingRuns
sparing two old new run h =
    let t = two.there in
    plays_so (alike Steps)
    (λ r. IsOneOf two.there_number two.back_number r.who ⊎ (Spares t.from t.pass.configuration.source_db r × Spares t.to t.pass.configuration.target_db r))
    (λ r. IsOneOf two.there_number two.back_number r.who ⊎ KeepsBoth t r.old r.new)
    (λ who a place m r b handled theirs.
    ⊎_elim (λ one. inl one)
    (λ both. inr (
      spared_at who a place m r b handled t.from t.pass.configuration.source_db (cases_eq t.from place) both.0,
      spared_at who a place m r b handled t.to t.pass.configuration.target_db (cases_eq t.to place) both.1,
    ))
    theirs) run.happenings old run.seen new run.played h

pub sparing_groups : SparingGroups
sparing_groups g old new run h =
    plays_so (alike Steps) (λ r. IsOf g r.who ⊎ ((place : ℕ) (name : List ℕ) → g.databases place name ≡ true → Spares place name r)) (λ r. IsOf g r.who ⊎ IsPeaceful g r.old r.new)
    (λ who a place m r b handled ours.
    ⊎_elim (λ one. inl one) (λ spares. inr (inl (λ q name member. spared_at who a place m r b handled q name (cases_eq q place) (spares q name member)))) ours) run.happenings old run.seen
    new run.played h

-- ---- what arranges

one_more : (ts : List Transfer) (v : Transfer) (n : ℕ) → (slice_get (ts ++ v ∷ []) n ≡ slice_get ts n) ⊎ ((n ≡ length ts) × (slice_get ts n ≡ None) × (slice_get (ts ++ v ∷ []) n ≡ Some v))
one_more [] v zero = inr (refl, refl, refl)
one_more [] v (suc n) = inl refl
one_more (t ∷ ts) v zero = inl refl
one_more (t ∷ ts) v (suc n) = ⊎_elim (λ e. inl e) (λ k. inr (ap suc k.0, k.1, k.2)) (one_more ts v n)

started : (ts : List Transfer) (t v : Transfer) (p : ℕ) → (p ≡ length ts + 1 → v ≡ t) → StaysOrStarts t (transfer_at ts p) (transfer_at (ts ++ v ∷ []) p)
started ts t v zero is = inl refl
started ts t v (suc n) is = ⊎_elim (λ e. inl e) (λ k. inr (k.1, k.2 ∙ ap (λ (x : Transfer). Some x) (is (omega (arith, k.0))))) (one_more ts v n)

pub arrange : CallsArrange
arrange = record {
  connecting = λ two old homes connections. record { nodes = refl; there = inl refl; back = inl refl };
  starting = λ two v old there back. record {
    nodes = refl;
    there = started old.transfers two.there v two.there_number there;
    back = started old.transfers two.back v two.back_number back;
  };
}

started_ours : (g : Group) (ts : List Transfer) (v : Transfer) (n : ℕ) (t : Transfer) → (g.passes (length ts + 1) ≡ true → IsFresh g v) → g.passes n ≡ true → transfer_at (ts ++ v ∷ []) n ≡ Some t
    → (transfer_at ts n ≡ Some t) ⊎ IsFresh g t
started_ours g ts v zero t fresh ours is = absurd cc
started_ours g ts v (suc n) t fresh ours is =
    ⊎_elim (λ e. inl (sym e ∙ is))
    (λ k.
    let same : v ≡ t = one_transfer v t (sym k.2 ∙ is) in
    let number : suc n ≡ length ts + 1 = omega (arith, k.0) in
    inr (subst (IsFresh g) same (fresh (ap g.passes (sym number) ∙ ours))))
    (one_more ts v n)

pub arrange_for_groups : CallsArrangeForGroups
arrange_for_groups = record {
  connecting = λ g old homes connections. record { nodes = refl; passes = λ n t ours is. inl is };
  starting = λ g v old fresh. record { nodes = refl; passes = λ n t ours is. started_ours g old.transfers v n t fresh ours is };
}
