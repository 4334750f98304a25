-- What holds of each answer, of each step and of runs.
use Rattle.std.proofs.Common.{◌≡◌, ◌≢◌, ◌≤◌, ℕ, List, [], ◌∷◌, Bool, true, false, cond, Option, Some, None, Result, Ok, Err, ◌⊎◌, inl, inr, refl, sym, ap, ◌∙◌, subst, arith, bytes_eq}
use Rattle.std.specs.Prelude.{⊤}
use Rattle.std.specs.FinMap.{get, insert, remove, get-insert, get-remove}
use Rattle.std.proofs.lemmas.Cmp.{nat_list_cmp_total}
use Rattle.std.proofs.lemmas.Map.Text.{is_eq-slice_cmp}
use Rattle.std.proofs.lemmas.Slice.Eq.{bytes_eq-Decides}
use Rattle.auth.specs.Callers.{Configuration}
use Rattle.couch_http.specs.Message.{Message}
use Rattle.couch_http.specs.Reply.{Reply}
use Rattle.store.specs.Causes.{HasFailed}
use Rattle.store.specs.declared.store.Store.{Ghosts}
use Rattle.store.specs.Contents.{Contents, new_database}
use Rattle.store.specs.Database.{Database, DocumentWrite, IsLater}
use Rattle.store.specs.Lawful.{AreLawful, IsLawfulDatabase}
use Rattle.store.proofs.Laters.{later_by_all, later_itself}
use Rattle.store.proofs.Lawfuls.{lawful_by_all, lawful_empty, lawful_insert, lawful_local, lawful_remove, lawful_secured}
use Rattle.policy.specs.Security.{closed_security}
use Rattle.node.specs.Answer.{Change, Outcome, answer, creation, inside, judgement, kept, removal, settlement, with_change, with_effect_at}
use Rattle.node.specs.Causes.{HasCause, LacksNumbers}
use Rattle.node.specs.Effects.{Fits, IsLaterThan}
use Rattle.api.specs.Paths.{database_name_in}
use Rattle.api.specs.Refusals.{status_of}
use Rattle.api.specs.Routing.{page_of}
use Rattle.node.specs.Runs.{AreServed, IsRun, IsServedReply, Stepped, Steps, end_of, messages_of}
use Rattle.node.specs.Step.{IsDone, IsStep, reply_to}
use Rattle.node.specs.Work.{Effect, appended, local_put, nothing, secured, with_effect}
use Rattle.api.specs.declared.page.Page.TheVariants.{AllDatabases}
use Rattle.api.specs.declared.refusal.Refusal.{Refusal}
use Rattle.api.specs.declared.refusal.Refusal.TheVariants.{Unauthorized, Forbidden, Path, Method, DatabaseName, NoDatabase, Exists, Id, Query, Syntax, Body, BadDocument, BadHistory, Conflict, Generation, Missing, Deleted}
use Rattle.node.proofs.Tasks.{IsMade, IsRight, judged_alike, judged_right}

-- ---- statuses

refusal_status : (r : Refusal) → status_of r ≤ 412
refusal_status (Unauthorized rule) = omega arith
refusal_status (Forbidden rule) = omega arith
refusal_status Path = omega arith
refusal_status Method = omega arith
refusal_status DatabaseName = omega arith
refusal_status NoDatabase = omega arith
refusal_status Exists = omega arith
refusal_status Id = omega arith
refusal_status Query = omega arith
refusal_status Syntax = omega arith
refusal_status Body = omega arith
refusal_status BadDocument = omega arith
refusal_status BadHistory = omega arith
refusal_status Conflict = omega arith
refusal_status Generation = omega arith
refusal_status Missing = omega arith
refusal_status Deleted = omega arith

good_status : (n : ℕ) → (n ≡ 200) ⊎ (n ≡ 201) → n ≤ 201
good_status n (inl e) = omega (arith, e)
good_status n (inr e) = omega (arith, e)

-- what a request comes to is right, or it is refused
data Answered (a : Contents) (m : Message) (o : Outcome) : Type 0 where
  accepted : IsRight a m o → Answered a m o
  declined : o.change ≡ kept → o.status ≤ 412 → Answered a m o

settled_answered : (c : Configuration) (a : Contents) (m : Message) (r : Result Outcome Refusal) → judgement c a m ≡ r → Answered a m (settlement r)
settled_answered c a m (Ok o) e = accepted (judged_right c a m o e)
settled_answered c a m (Err refusal) e = declined refl (refusal_status refusal)

answered : (c : Configuration) (a : Contents) (m : Message) → Answered a m (answer c a m)
answered c a m = settled_answered c a m (judgement c a m) refl

status_at : (a : Contents) (m : Message) (o : Outcome) → Answered a m o → o.status ≤ 412
status_at a m o (accepted right) = omega (arith, good_status o.status right.status)
status_at a m o (declined same low) = low

pub answer_status : (c : Configuration) (a : Contents) (m : Message) → (answer c a m).status ≤ 412
answer_status c a m = status_at a m (answer c a m) (answered c a m)

refused_at : (a : Contents) (m : Message) (o : Outcome) → Answered a m o → 400 ≤ o.status → o.change ≡ kept
refused_at a m o (accepted right) high = absurd (omega (arith, good_status o.status right.status, high))
refused_at a m o (declined same low) high = same

pub refused_keeps : (c : Configuration) (a : Contents) (m : Message) → 400 ≤ (answer c a m).status → (answer c a m).change ≡ kept
refused_keeps c a m high = refused_at a m (answer c a m) (answered c a m) high

made_in : (a : Contents) (m : Message) (o : Outcome) → Answered a m o → IsMade a m o.change
made_in a m o (accepted right) = right.made
made_in a m o (declined same low) = subst (λ (x : Change). IsMade a m x) (sym same) tt

pub answer_made : (c : Configuration) (a : Contents) (m : Message) → IsMade a m (answer c a m).change
answer_made c a m = made_in a m (answer c a m) (answered c a m)

-- ---- lawfulness

effect_lawful : (effect : Effect) (db : Database) → IsLawfulDatabase db → Fits effect db → IsLawfulDatabase (with_effect effect db)
effect_lawful nothing db lawful fits = lawful
effect_lawful (appended ws) db lawful fits = lawful_by_all ws db lawful fits
effect_lawful (secured v) db lawful fits = lawful_secured db v lawful
effect_lawful (local_put id document) db lawful fits = lawful_local db id document lawful fits

change_lawful : (a : Contents) (m : Message) (change : Change) → IsMade a m change → AreLawful a → AreLawful (with_change change a)
change_lawful a m kept made lawful = lawful
change_lawful a m (creation name) made lawful = lawful_insert a name new_database lawful (lawful_empty closed_security)
change_lawful a m (removal name) made lawful = lawful_remove a name lawful
change_lawful a m (inside name effect) made lawful =
    let db = made.1.0 in
    let there = made.1.1 in
    let ok = lawful name db there in
    subst (λ (o : Option Database). AreLawful (with_effect_at a name effect o)) (sym there)
    (lawful_insert a name (with_effect effect db) lawful (effect_lawful effect db ok (made.1.2 ok)))

pub answer_lawful : (c : Configuration) (a : Contents) (m : Message) → AreLawful a → AreLawful (with_change (answer c a m).change a)
answer_lawful c a m lawful = change_lawful a m (answer c a m).change (answer_made c a m) lawful

-- ---- one database and the others

unlike : (x y : List ℕ) (b : Bool) → bytes_eq x y ≡ b → x ≢ y → b ≡ false
unlike x y true e other = absurd (other ((bytes_eq-Decides x y).0 e))
unlike x y false e other = refl

pub got_insert : (a : Contents) (name : List ℕ) (db : Database) (other : List ℕ) → get (insert a name db) other ≡ cond (bytes_eq other name) (Some db) (get a other)
got_insert a name db other = get-insert nat_list_cmp_total a name db other ∙ ap (λ b. cond b (Some db) (get a other)) (is_eq-slice_cmp other name)

pub got_remove : (a : Contents) (name other : List ℕ) → get (remove a name) other ≡ cond (bytes_eq other name) None (get a other)
got_remove a name other = get-remove nat_list_cmp_total a name other ∙ ap (λ b. cond b None (get a other)) (is_eq-slice_cmp other name)

other_insert : (a : Contents) (name other : List ℕ) (db : Database) → other ≢ name → get (insert a name db) other ≡ get a other
other_insert a name other db h = got_insert a name db other ∙ ap (λ (b : Bool). cond b (Some db) (get a other)) (unlike other name (bytes_eq other name) refl h)

other_remove : (a : Contents) (name other : List ℕ) → other ≢ name → get (remove a name) other ≡ get a other
other_remove a name other h = got_remove a name other ∙ ap (λ (b : Bool). cond b None (get a other)) (unlike other name (bytes_eq other name) refl h)

change_others : (a : Contents) (m : Message) (change : Change) (other : List ℕ) → IsMade a m change → database_name_in m.path ≢ Some other → get (with_change change a) other ≡ get a other
change_others a m kept other made not_own = refl
change_others a m (creation name) other made not_own = other_insert a name other new_database (λ same. not_own (made.0 ∙ ap Some (sym same)))
change_others a m (removal name) other made not_own = other_remove a name other (λ same. not_own (made ∙ ap Some (sym same)))
change_others a m (inside name effect) other made not_own =
    subst (λ (o : Option Database). get (with_effect_at a name effect o) other ≡ get a other) (sym made.1.1)
    (other_insert a name other (with_effect effect made.1.0) (λ same. not_own (made.0 ∙ ap Some (sym same))))

pub answer_others : (c : Configuration) (a : Contents) (m : Message) (other : List ℕ) → database_name_in m.path ≢ Some other
    → get (with_change (answer c a m).change a) other ≡ get a other
answer_others c a m other not_own = change_others a m (answer c a m).change other (answer_made c a m) not_own

-- states that agree on the database of the path are answered alike
pub answer_alike : (c : Configuration) (a b : Contents) (m : Message) → page_of m.path ≢ Some AllDatabases
    → ((name : List ℕ) → database_name_in m.path ≡ Some name → get a name ≡ get b name) → answer c a m ≡ answer c b m
answer_alike c a b m single same = ap settlement (judged_alike c a b m single same)

-- ---- later databases

effect_later : (effect : Effect) (db : Database) → IsLater db (with_effect effect db)
effect_later nothing db = later_itself db
effect_later (appended ws) db = later_by_all ws db
effect_later (secured v) db = record { grown = omega arith; known = λ id r h. h; unchanged = λ id h. refl }
effect_later (local_put k document) db = record { grown = omega arith; known = λ id r h. h; unchanged = λ id h. refl }

later_same : (db : Database) (o : Option Database) → o ≡ Some db → IsLaterThan db o
later_same db o there = subst (λ (x : Option Database). IsLaterThan db x) (sym there) (later_itself db)

later_created : (a : Contents) (n name : List ℕ) (db : Database) (b : Bool) → bytes_eq name n ≡ b → get a n ≡ None → get a name ≡ Some db → IsLaterThan db (cond b (Some new_database) (get a name))
later_created a n name db true e none there = absurd (let same : name ≡ n = (bytes_eq-Decides name n).0 e in let here = ap (get a) same in cc)
later_created a n name db false e none there = later_same db (get a name) there

later_removed : (a : Contents) (n name : List ℕ) (db : Database) (b : Bool) → bytes_eq name n ≡ b → removal n ≢ removal name → get a name ≡ Some db → IsLaterThan db (cond b None (get a name))
later_removed a n name db true e other there = absurd (other (ap removal (sym ((bytes_eq-Decides name n).0 e))))
later_removed a n name db false e other there = later_same db (get a name) there

later_inside : (a : Contents) (n name : List ℕ) (effect : Effect) (old db : Database) (b : Bool) → bytes_eq name n ≡ b → get a n ≡ Some old → get a name ≡ Some db
    → IsLaterThan db (cond b (Some (with_effect effect old)) (get a name))
later_inside a n name effect old db true e at there =
    let same : old ≡ db = (let here = ap (get a) ((bytes_eq-Decides name n).0 e) in cc) in
    subst (λ (x : Database). IsLater db (with_effect effect x)) (sym same) (effect_later effect db)
later_inside a n name effect old db false e at there = later_same db (get a name) there

change_later : (a : Contents) (m : Message) (change : Change) (name : List ℕ) (db : Database) → IsMade a m change → change ≢ removal name → get a name ≡ Some db
    → IsLaterThan db (get (with_change change a) name)
change_later a m kept name db made other there = later_same db (get a name) there
change_later a m (creation n) name db made other there =
    subst (λ (o : Option Database). IsLaterThan db o) (sym (got_insert a n new_database name)) (later_created a n name db (bytes_eq name n) refl made.1 there)
change_later a m (removal n) name db made other there =
    subst (λ (o : Option Database). IsLaterThan db o) (sym (got_remove a n name)) (later_removed a n name db (bytes_eq name n) refl other there)
change_later a m (inside n effect) name db made other there =
    subst (λ (o : Option Database). IsLaterThan db (get (with_effect_at a n effect o) name)) (sym made.1.1)
    (subst (λ (o : Option Database). IsLaterThan db o) (sym (got_insert a n (with_effect effect made.1.0) name))
    (later_inside a n name effect made.1.0 db (bytes_eq name n) refl made.1.1 there))

pub answer_later : (c : Configuration) (a : Contents) (m : Message) (name : List ℕ) (db : Database) → (answer c a m).change ≢ removal name → get a name ≡ Some db
    → IsLaterThan db (get (with_change (answer c a m).change a) name)
answer_later c a m name db other there = change_later a m (answer c a m).change name db (answer_made c a m) other there

-- ---- steps and runs

-- a step makes the change of the answer, or none
pub step_change : (c : Configuration) (before : Contents) (m : Message) (cause : Change → Type 0) (reply : Reply) (after : Contents) → IsStep c before m cause reply after
    → (after ≡ with_change (answer c before m).change before) ⊎ (after ≡ before)
step_change c before m cause reply after (inl done) = inl done.1
step_change c before m cause reply after (inr (inl no_room)) = inr no_room.1
step_change c before m cause reply after (inr (inr failed)) = inr failed.1

pub step_lawful : (c : Configuration) (before : Contents) (m : Message) (cause : Change → Type 0) (reply : Reply) (after : Contents) → IsStep c before m cause reply after
    → AreLawful before → AreLawful after
step_lawful c before m cause reply after step lawful = by (step_change c before m cause reply after step)
  where
    by : (after ≡ with_change (answer c before m).change before) ⊎ (after ≡ before) → AreLawful after
    by (inl e) = subst AreLawful (sym e) (answer_lawful c before m lawful)
    by (inr e) = subst AreLawful (sym e) lawful

pub step_others : (c : Configuration) (before : Contents) (m : Message) (cause : Change → Type 0) (reply : Reply) (after : Contents) (other : List ℕ)
    → IsStep c before m cause reply after → database_name_in m.path ≢ Some other → get after other ≡ get before other
step_others c before m cause reply after other step not_own = by (step_change c before m cause reply after step)
  where
    by : (after ≡ with_change (answer c before m).change before) ⊎ (after ≡ before) → get after other ≡ get before other
    by (inl e) = ap (λ (x : Contents). get x other) e ∙ answer_others c before m other not_own
    by (inr e) = ap (λ (x : Contents). get x other) e

pub step_later : (c : Configuration) (before : Contents) (m : Message) (cause : Change → Type 0) (reply : Reply) (after : Contents) (name : List ℕ) (db : Database)
    → IsStep c before m cause reply after → (answer c before m).change ≢ removal name → get before name ≡ Some db → IsLaterThan db (get after name)
step_later c before m cause reply after name db step other there = by (step_change c before m cause reply after step)
  where
    by : (after ≡ with_change (answer c before m).change before) ⊎ (after ≡ before) → IsLaterThan db (get after name)
    by (inl e) = subst (λ (x : Contents). IsLaterThan db (get x name)) (sym e) (answer_later c before m name db other there)
    by (inr e) = later_same db (get after name) (ap (λ (x : Contents). get x name) e ∙ there)

-- a step whose reply stands for no failure is the answer
pub step_done : (c : Configuration) (before : Contents) (m : Message) (cause : Change → Type 0) (reply : Reply) (after : Contents) → IsStep c before m cause reply after → IsServedReply reply
    → IsDone (answer c before m) m.last before reply after
step_done c before m cause reply after (inl done) served = done
step_done c before m cause reply after (inr (inl no_room)) served = absurd (served.1 (ap (λ (r : Reply). r.status) no_room.0))
step_done c before m cause reply after (inr (inr failed)) served = absurd (served.0 (ap (λ (r : Reply). r.status) failed.0))

pub run_lawful : (c : Configuration) (before : Contents) (ss : List (Stepped Contents)) → IsRun (Steps c) before ss → AreLawful before → AreLawful (end_of before ss)
run_lawful c before [] run lawful = lawful
run_lawful c before (s ∷ ss) run lawful = run_lawful c s.after ss run.1 (step_lawful c before s.message (λ _. ⊤) s.reply s.after run.0 lawful)

same_step : (s t : Stepped Contents) → s.message ≡ t.message → s.reply ≡ t.reply → s.after ≡ t.after → s ≡ t
same_step s t e f g = λ i. record { message = e i; reply = f i; after = g i }

one_step : (c : Configuration) (before : Contents) (s t : Stepped Contents) → Steps c before s.message s.reply s.after → Steps c before t.message t.reply t.after → IsServedReply s.reply → IsServedReply t.reply
    → s.message ≡ t.message → s ≡ t
one_step c before s t p q served and_served same =
    let d = step_done c before s.message (λ _. ⊤) s.reply s.after p served in
    let e = step_done c before t.message (λ _. ⊤) t.reply t.after q and_served in
    same_step s t same
    (d.0 ∙ ap (λ (m : Message). reply_to (answer c before m) m.last) same ∙ sym e.0)
    (d.1 ∙ ap (λ (m : Message). with_change (answer c before m).change before) same ∙ sym e.1)

-- runs of the same requests from the same databases are one, where all were served
pub one_run : (c : Configuration) (before : Contents) (ss ts : List (Stepped Contents)) → IsRun (Steps c) before ss → IsRun (Steps c) before ts → AreServed ss → AreServed ts
    → messages_of ss ≡ messages_of ts → ss ≡ ts
one_run c before [] [] p q served and_served same = refl
one_run c before [] (t ∷ ts) p q served and_served same = absurd cc
one_run c before (s ∷ ss) [] p q served and_served same = absurd cc
one_run c before (s ∷ ss) (t ∷ ts) p q served and_served same =
    let first : s.message ≡ t.message = cc in
    let rest : messages_of ss ≡ messages_of ts = cc in
    let here = one_step c before s t p.0 q.0 served.0 and_served.0 first in
    let left : IsRun (Steps c) s.after ts = subst (λ (x : Contents). IsRun (Steps c) x ts) (ap (λ (x : Stepped Contents). x.after) (sym here)) q.1 in
    let others = one_run c s.after ss ts p.1 left served.1 and_served.1 rest in
    cc

pub answer_served : (c : Configuration) (a : Contents) (m : Message) → ((answer c a m).status ≢ 500) × ((answer c a m).status ≢ 503)
answer_served c a m = (λ e. omega (arith, answer_status c a m, e), λ e. omega (arith, answer_status c a m, e))

pub refused_changes_nothing : (c : Configuration) (a : Contents) (m : Message) → 400 ≤ (answer c a m).status → with_change (answer c a m).change a ≡ a
refused_changes_nothing c a m high = ap (λ (x : Change). with_change x a) (refused_keeps c a m high)

-- ---- over a store that never fails

lacking_nothing : {S : Type 0} (g : Ghosts S) (s : S) (change : Change) → (g.lacks_number s → ⊥) → ((name : List ℕ) (ws : List DocumentWrite) → g.lacks_room s name ws → ⊥)
    → LacksNumbers g s change → ⊥
lacking_nothing g s kept numbers room h = h
lacking_nothing g s (creation name) numbers room h = numbers h
lacking_nothing g s (removal name) numbers room h = h
lacking_nothing g s (inside name nothing) numbers room h = h
lacking_nothing g s (inside name (appended ws)) numbers room h = room name ws h
lacking_nothing g s (inside name (secured v)) numbers room h = h
lacking_nothing g s (inside name (local_put id document)) numbers room h = h

pub step_unfailing : {S : Type 0} (g : Ghosts S) (old new : S) (c : Configuration) (before : Contents) (m : Message) (reply : Reply) (after : Contents)
    → (HasFailed (g.fault_count old) (g.fault_count new) → ⊥) → (g.lacks_number old → ⊥) → ((name : List ℕ) (ws : List DocumentWrite) → g.lacks_room old name ws → ⊥)
    → IsStep c before m (HasCause g old new) reply after → IsStep c before m (λ _. ⊥) reply after
step_unfailing g old new c before m reply after failed numbers room (inl done) = inl done
step_unfailing g old new c before m reply after failed numbers room (inr (inl no_room)) = inr (inl no_room)
step_unfailing g old new c before m reply after failed numbers room (inr (inr (r, same, inl rose))) = absurd (failed rose)
step_unfailing g old new c before m reply after failed numbers room (inr (inr (r, same, inr lacking))) = absurd (lacking_nothing g old (answer c before m).change numbers room lacking)

pub unfailing_status : (c : Configuration) (before : Contents) (m : Message) (reply : Reply) (after : Contents) → IsStep c before m (λ _. ⊥) reply after → reply.status ≢ 500
unfailing_status c before m reply after (inl done) = λ e. omega (arith, answer_status c before m, ap (λ (r : Reply). r.status) done.0, e)
unfailing_status c before m reply after (inr (inl no_room)) = λ e. omega (arith, ap (λ (r : Reply). r.status) no_room.0, e)
unfailing_status c before m reply after (inr (inr failed)) = absurd failed.2
