-- What a shape reads of a lawful value: texts in UTF-8, lawful documents, and counts up to the greatest.
use Rattle.std.proofs.Common.{◌≡◌, ◌≤◌, ◌==◌, ℕ, ℤ, pos, negsuc, leb, leb-true, Bool, true, false, cond, List, [], ◌∷◌, ◌++◌, length, Option, Some, None, option_map, option_and_then, unwrap_or, codes, refl, subst, arith}
use Rattle.std.specs.Prelude.{IfSome, IsUtf8, min, ⊤}
use Rattle.std.specs.List.{AllByRecursion}
use Rattle.couch_json.specs.Lawful.{AreLawfulItems, IsLawful}
use Rattle.couch_json.specs.Parts.{has_only, is_object, items_in, text_in, whole_in}
use Rattle.couch_json.specs.Range.{greatest_count}
use Rattle.couch_json.specs.Value.{Items, Value, item, member_of, no_items}
use Rattle.repl.specs.Calls.{Revisions}
use Rattle.repl.specs.Checkpoints.{Checkpoint, Session, checkpoint_in, session_in, start_of, start_with, common_sequence, smaller_or, sequence_of_session}
use Rattle.repl.specs.Replies.{Changes, Opened, change_in, changes_in_reply, differences_in_reply, document, opened_by, documents_of_opened, groups_from, has_missing_lists, missing, missing_in, missing_of, missing_of_each, most_revisions, of_document, opened_in, revision_in_reply}
use Rattle.repl.specs.Shapes.{count_at, count_in_value, count_of, each_in, list_at, list_in, text_at}
use Rattle.couch_json.proofs.LawfulParts.{member_part}
use Rattle.replication.proofs.LawfulParts.{text_part, items_part}

-- ---- options

pub record Then {A B : Type 0} (f : A → Option B) (o : Option A) (b : B) : Type 0 where
  pub first : A
  pub was : o ≡ Some first
  pub then : f first ≡ Some b

pub then_of : {A B : Type 0} (f : A → Option B) (o : Option A) (b : B) → option_and_then f o ≡ Some b → Then f o b
then_of f None b e = absurd cc
then_of f (Some a) b e = record { first = a; was = refl; then = e }

pub record Mapped {A B : Type 0} (f : A → B) (o : Option A) (b : B) : Type 0 where
  pub first : A
  pub was : o ≡ Some first
  pub is : f first ≡ b

pub mapped_of : {A B : Type 0} (f : A → B) (o : Option A) (b : B) → option_map f o ≡ Some b → Mapped f o b
mapped_of f None b e = absurd cc
mapped_of f (Some a) b e = record { first = a; was = refl; is = cc }

-- ---- lists of a shape

module _ {A : Type 0} (read : Value → Option A) (P : A → Type 0) (each : (v : Value) (a : A) → IsLawful v → read v ≡ Some a → P a) where
  pub all_read : (vs : Items) (xs : List A) → AreLawfulItems vs → each_in read vs ≡ Some xs → AllByRecursion P xs
  all_read no_items [] h e = tt
  all_read no_items (x ∷ xs) h e = absurd cc
  all_read (item v vs) xs h e =
      let t = then_of (λ a. option_map (λ as_. a ∷ as_) (each_in read vs)) (read v) xs e in
      let m = mapped_of (λ as_. t.first ∷ as_) (each_in read vs) xs t.then in
      subst (AllByRecursion P) m.is (each v t.first h.0 t.was, all_read vs m.first h.1 m.was)

  pub list_read : (v : Value) (xs : List A) → IsLawful v → list_in read v ≡ Some xs → AllByRecursion P xs
  list_read v xs h e = let t = then_of (λ vs. each_in read vs) (items_in v) xs e in all_read t.first xs (items_part v t.first h t.was) t.then

  pub list_there : (name : List ℕ) (v : Value) (xs : List A) → IsLawful v → list_at name read v ≡ Some xs → AllByRecursion P xs
  list_there name v xs h e = let t = then_of (λ w. list_in read w) (member_of v name) xs e in list_read t.first xs (member_part v t.first name h t.was) t.then

pub text_there : (name : List ℕ) (v : Value) (s : List ℕ) → IsLawful v → text_at name v ≡ Some s → IsUtf8 s
text_there name v s h e = let t = then_of (λ w. text_in w) (member_of v name) s e in text_part t.first s (member_part v t.first name h t.was) t.then

-- ---- counts

counted_by : (z : ℤ) (n : ℕ) → count_of z ≡ Some n → n ≤ greatest_count
counted_by (pos m) n e = by (leb m greatest_count) refl e
  where
    by : (b : Bool) → leb m greatest_count ≡ b → cond b (Some m) None ≡ Some n → n ≤ greatest_count
    by true is k = let same : m ≡ n = cc in subst (λ (x : ℕ). x ≤ greatest_count) same (leb-true m greatest_count is)
    by false is k = absurd cc
counted_by (negsuc m) n e = absurd cc

pub count_there : (name : List ℕ) (v : Value) (n : ℕ) → count_at name v ≡ Some n → n ≤ greatest_count
count_there name v n e =
    let t = then_of (λ w. count_in_value w) (member_of v name) n e in
    let u = then_of (λ z. count_of z) (whole_in t.first) n t.then in
    counted_by u.first n u.then

-- ---- checkpoints

-- no sequence of a checkpoint is above the greatest count
pub record AreCounts (c : Checkpoint) : Type 0 where
  pub last : c.sequence ≤ greatest_count
  pub each : AllByRecursion (λ (s : Session). s.sequence ≤ greatest_count) c.history

session_counted : (v : Value) (s : Session) → session_in v ≡ Some s → s.sequence ≤ greatest_count
session_counted v s e =
    let t = then_of (λ (x : List ℕ). option_map (λ (n : ℕ). record { session = x; sequence = n }) (count_at (codes "recorded_seq") v)) (text_at (codes "session_id") v) s e in
    let m = mapped_of (λ (n : ℕ). record { session = t.first; sequence = n }) (count_at (codes "recorded_seq") v) s t.then in
    subst (λ (x : Session). x.sequence ≤ greatest_count) m.is (count_there (codes "recorded_seq") v m.first m.was)

-- sessions are counted, whatever the value
all_sessions : (vs : Items) (xs : List Session) → each_in session_in vs ≡ Some xs → AllByRecursion (λ (s : Session). s.sequence ≤ greatest_count) xs
all_sessions no_items [] e = tt
all_sessions no_items (x ∷ xs) e = absurd cc
all_sessions (item v vs) xs e =
    let t = then_of (λ a. option_map (λ as_. a ∷ as_) (each_in session_in vs)) (session_in v) xs e in
    let m = mapped_of (λ as_. t.first ∷ as_) (each_in session_in vs) xs t.then in
    subst (AllByRecursion (λ (s : Session). s.sequence ≤ greatest_count)) m.is (session_counted v t.first t.was, all_sessions vs m.first m.was)

pub checkpoint_counted : (v : Value) (c : Checkpoint) → checkpoint_in v ≡ Some c → AreCounts c
checkpoint_counted v c e =
    let t = then_of (λ (s : List ℕ). option_and_then (λ (n : ℕ). option_map (λ (h : List Session). record { session = s; sequence = n; history = h }) (list_at (codes "history") session_in v)) (count_at (codes "source_last_seq") v)) (text_at (codes "session_id") v) c e in
    let u = then_of (λ (n : ℕ). option_map (λ (h : List Session). record { session = t.first; sequence = n; history = h }) (list_at (codes "history") session_in v)) (count_at (codes "source_last_seq") v) c t.then in
    let m = mapped_of (λ (h : List Session). record { session = t.first; sequence = u.first; history = h }) (list_at (codes "history") session_in v) c u.then in
    let l = then_of (λ w. list_in session_in w) (member_of v (codes "history")) m.first m.was in
    let i = then_of (λ vs. each_in session_in vs) (items_in l.first) m.first l.then in
    subst AreCounts m.is (record { last = count_there (codes "source_last_seq") v u.first u.was; each = all_sessions i.first m.first i.then })

smaller_counted : (n other : ℕ) (o : Option ℕ) → n ≤ greatest_count → other ≤ greatest_count → smaller_or n other o ≤ greatest_count
smaller_counted n other None p q = q
smaller_counted n other (Some m) p q = omega (arith, p)

common_counted : (ss target : List Session) → AllByRecursion (λ (s : Session). s.sequence ≤ greatest_count) ss → common_sequence ss target ≤ greatest_count
common_counted [] target h = omega arith
common_counted (s ∷ ss) target h = smaller_counted s.sequence (common_sequence ss target) (sequence_of_session s.session target) h.0 (common_counted ss target h.1)

either : (b : Bool) (m n : ℕ) → m ≤ greatest_count → n ≤ greatest_count → cond b m n ≤ greatest_count
either true m n p q = p
either false m n p q = q

-- the start is a count where the source's sequences are
start_counted : (a b : Option Checkpoint) → IfSome a AreCounts → start_of a b ≤ greatest_count
start_counted None b h = omega arith
start_counted (Some c) None h = omega arith
start_counted (Some c) (Some d) h = either _ (min c.sequence d.sequence) (common_sequence c.history d.history) (omega (arith, h.last)) (common_counted c.history d.history h.each)

pub told_counted : (told : Bool) (a b : Option Checkpoint) → IfSome a AreCounts → start_with told a b ≤ greatest_count
told_counted told a b h = either told 0 (start_of a b) (omega arith) (start_counted a b h)

-- ---- revisions

-- the id and the revisions are texts
pub record AreTexts (row : Revisions) : Type 0 where
  pub id : IsUtf8 row.id
  pub revisions : AllByRecursion IsUtf8 row.revisions

revision_text : (v : Value) (s : List ℕ) → IsLawful v → revision_in_reply v ≡ Some s → IsUtf8 s
revision_text v s h e = text_there (codes "rev") v s h e

change_texts : (v : Value) (row : Revisions) → IsLawful v → change_in v ≡ Some row → AreTexts row
change_texts v row h e =
    let t = then_of (λ (i : List ℕ). option_map (λ (rs : List (List ℕ)). record { id = i; revisions = rs }) (list_at (codes "changes") revision_in_reply v)) (text_at (codes "id") v) row e in
    let m = mapped_of (λ (rs : List (List ℕ)). record { id = t.first; revisions = rs }) (list_at (codes "changes") revision_in_reply v) row t.then in
    subst AreTexts m.is (record {
      id = text_there (codes "id") v t.first h t.was;
      revisions = list_there revision_in_reply IsUtf8 revision_text (codes "changes") v m.first h m.was;
    })

-- what a list of changes says: its end is a count, and its leaves are texts
pub record AreRead (c : Changes) : Type 0 where
  pub sequence : c.sequence ≤ greatest_count
  pub leaves : AllByRecursion AreTexts c.leaves

pub changes_read : (v : Value) (c : Changes) → IsLawful v → changes_in_reply v ≡ Some c → AreRead c
changes_read v c h e =
    let t = then_of (λ (n : ℕ). option_map (λ (ls : List Revisions). record { sequence = n; leaves = ls }) (list_at (codes "results") change_in v)) (count_at (codes "last_seq") v) c e in
    let m = mapped_of (λ (ls : List Revisions). record { sequence = t.first; leaves = ls }) (list_at (codes "results") change_in v) c t.then in
    subst AreRead m.is (record {
      sequence = count_there (codes "last_seq") v t.first t.was;
      leaves = list_there change_in AreTexts change_texts (codes "results") v m.first h m.was;
    })

-- ---- differences

missing_by : (o : Option Value) → IfSome o IsLawful → AllByRecursion IsUtf8 (unwrap_or (option_and_then (λ w. missing_in w) o) [])
missing_by None h = tt
missing_by (Some w) h = by (missing_in w) refl
  where
    by : (o : Option (List (List ℕ))) → missing_in w ≡ o → AllByRecursion IsUtf8 (unwrap_or o [])
    by None is = tt
    by (Some ts) is = list_there text_in IsUtf8 text_part (codes "missing") w ts h is

missing_texts : (id : List ℕ) (v : Value) → IsLawful v → AllByRecursion IsUtf8 (missing_of id v)
missing_texts id v h = missing_by (member_of v id) (by (member_of v id) refl)
  where
    by : (o : Option Value) → member_of v id ≡ o → IfSome o IsLawful
    by None is = tt
    by (Some w) is = member_part v w id h is

joined_texts : (ts us : List (List ℕ)) → AllByRecursion IsUtf8 ts → AllByRecursion IsUtf8 us → AllByRecursion IsUtf8 (ts ++ us)
joined_texts [] us h k = k
joined_texts (t ∷ ts) us h k = (h.0, joined_texts ts us h.1 k)

group_texts : (group rs : List (List ℕ)) → AllByRecursion IsUtf8 group → AllByRecursion IsUtf8 rs → AllByRecursion (λ g. AllByRecursion IsUtf8 g) (groups_from group rs)
group_texts [] [] h k = tt
group_texts (g ∷ gs) [] h k = (h, tt)
group_texts group (r ∷ rs) h k =
    by (length group == most_revisions) (group_texts (r ∷ []) rs (k.0, tt) k.1) (group_texts (group ++ r ∷ []) rs (joined_texts group (r ∷ []) h (k.0, tt)) k.1)
  where
    by : (b : Bool) → AllByRecursion (λ g. AllByRecursion IsUtf8 g) (groups_from (r ∷ []) rs) → AllByRecursion (λ g. AllByRecursion IsUtf8 g) (groups_from (group ++ r ∷ []) rs)
        → AllByRecursion (λ g. AllByRecursion IsUtf8 g) (cond b (group ∷ groups_from (r ∷ []) rs) (groups_from (group ++ r ∷ []) rs))
    by true anew on = (h, anew)
    by false anew on = on

document_texts : (id : List ℕ) (gs : List (List (List ℕ))) (others : List Revisions) → IsUtf8 id → AllByRecursion (λ g. AllByRecursion IsUtf8 g) gs → AllByRecursion AreTexts others
    → AllByRecursion AreTexts (of_document id gs others)
document_texts id [] others u h k = k
document_texts id (g ∷ gs) others u h k = (record { id = u; revisions = h.0 }, document_texts id gs others u h.1 k)

each_missing : (v : Value) (ls : List Revisions) → IsLawful v → AllByRecursion AreTexts ls → AllByRecursion AreTexts (missing_of_each v ls)
each_missing v [] h k = tt
each_missing v (l ∷ ls) h k =
    document_texts l.id (groups_from [] (missing_of l.id v)) (missing_of_each v ls) k.0.id (group_texts [] (missing_of l.id v) tt (missing_texts l.id v h)) (each_missing v ls h k.1)

pub differences_texts : (v : Value) (listed lacking : List Revisions) → IsLawful v → AllByRecursion AreTexts listed → differences_in_reply listed v ≡ Some lacking → AllByRecursion AreTexts lacking
differences_texts v listed lacking h k e = by (has_missing_lists v) e
  where
    by : (b : Bool) → cond b (Some (missing_of_each v listed)) None ≡ Some lacking → AllByRecursion AreTexts lacking
    by true same = let is : missing_of_each v listed ≡ lacking = cc in subst (AllByRecursion AreTexts) is (each_missing v listed h k)
    by false same = absurd cc

-- ---- opened revisions

-- the document, if one came, is lawful
abbrev pub IsLawfulIfOpened : Opened → Type 0
IsLawfulIfOpened (document v) = IsLawful v
IsLawfulIfOpened (missing rev) = ⊤

document_lawful : (o : Option Value) (x : Opened) → IfSome o IsLawful → opened_by o ≡ Some x → IsLawfulIfOpened x
document_lawful None x h e = absurd cc
document_lawful (Some v) x h e = by (is_object v) e
  where
    by : (b : Bool) → cond b (Some (document v)) None ≡ Some x → IsLawfulIfOpened x
    by true same = let is : document v ≡ x = cc in subst IsLawfulIfOpened is h
    by false same = absurd cc

missing_lawful : (o : Option (List ℕ)) (x : Opened) → option_map missing o ≡ Some x → IsLawfulIfOpened x
missing_lawful None x e = absurd cc
missing_lawful (Some rev) x e = let is : missing rev ≡ x = cc in subst IsLawfulIfOpened is tt

opened_lawful : (v : Value) (x : Opened) → IsLawful v → opened_in v ≡ Some x → IsLawfulIfOpened x
opened_lawful v x h e = by (has_only (codes "ok" ∷ []) v) (has_only (codes "missing" ∷ []) v) e
  where
    ok : (o : Option Value) → member_of v (codes "ok") ≡ o → IfSome o IsLawful
    ok None is = tt
    ok (Some w) is = member_part v w (codes "ok") h is

    by : (a b : Bool) → cond a (opened_by (member_of v (codes "ok"))) (cond b (option_map missing (text_at (codes "missing") v)) None) ≡ Some x → IsLawfulIfOpened x
    by true b same = document_lawful (member_of v (codes "ok")) x (ok (member_of v (codes "ok")) refl) same
    by false true same = missing_lawful (text_at (codes "missing") v) x same
    by false false same = absurd cc

came_lawful : (xs : List Opened) → AllByRecursion IsLawfulIfOpened xs → AllByRecursion IsLawful (documents_of_opened xs)
came_lawful [] h = tt
came_lawful (document v ∷ xs) h = (h.0, came_lawful xs h.1)
came_lawful (missing rev ∷ xs) h = came_lawful xs h.1

-- the documents that came are lawful
pub opened_documents : (v : Value) (xs : List Opened) → IsLawful v → list_in opened_in v ≡ Some xs → AllByRecursion IsLawful (documents_of_opened xs)
opened_documents v xs h e = came_lawful xs (list_read opened_in IsLawfulIfOpened opened_lawful v xs h e)
