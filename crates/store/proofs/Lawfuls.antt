-- Acceptable writes keep a database lawful; what that says of its documents.
use Rattle.std.proofs.Common.{◌≡◌, ◌⊎◌, ℕ, suc, ◌+◌, ◌≤◌, Bool, true, false, cond, eqb-true, List, [], ◌∷◌, ◌++◌, length, Option, Some, None, Result, Ok, Err, OnOk, OnErr, option_map, nat_cmp, refl, sym, ap, subst, ◌∙◌, inl, inr, bytes_eq, arith}
use Rattle.std.specs.Prelude.{IsTrue, is_some, MatchOption}
use Rattle.std.specs.List.{AllByRecursion}
use Rattle.std.proofs.Math.Logic.{∥∥₁_map}
use Rattle.std.proofs.lemmas.Cmp.{nat_list_cmp_total}
use Rattle.std.proofs.lemmas.Slice.Eq.{bytes_eq-Decides}
use Rattle.std.proofs.lemmas.Map.Text.{is_eq-slice_cmp}
use Rattle.std.specs.Cmp.Lexicographic.{slice_cmp}
use Rattle.std.specs.Ordering.{eq_by_cmp}
use Rattle.std.specs.FinMap as map
use Rattle.couch_json.specs.Value.{Value}
use Rattle.tree.specs.DocumentId.{is_local_id}
use Rattle.tree.specs.Revision.{Revision}
use Rattle.tree.specs.Write.{Write, AreLawfulWrites as AreWritten, StandsIn, IsBehind, IsKnown, IsParent, IsBrought, AreWhole, head, counts_down, is_whole_path}
use Rattle.tree.specs.History.{HistoryContent, content_of, with_write, placement, IsBetter, is_leaf, parent_of, winner, held_of}
use Rattle.tree.specs.declared.entry.Held.{Held}
use Rattle.tree.specs.declared.placement.Placed.TheVariants.{Added}
use Rattle.tree.proofs.RevisionText.{parts}
use Rattle.tree.proofs.Contents.{one_more_write}
use Rattle.tree.proofs.Continued.{added_goes_on}
use Rattle.tree.proofs.Leaves.{leaf_is_childless, leaf_is_held, winner_is_best}
use Rattle.tree.proofs.Shown.{behind_below, inside, is_known_writes, parent_below, shown, stands_behind, whole_counts}
use Rattle.store.specs.Database.{Database, Document, DocumentWrite, history_at, history_in, with_one, with_all, empty_database}
use Rattle.store.specs.declared.local_document.LocalDocument.{LocalDocument}
use Rattle.store.specs.Contents.{AllAre, Contents, IsAcceptable, AreAcceptable, IfThere, with_local, with_security}
use Rattle.store.specs.Lawful.{IsBody, IsWritten, IsLawfulDatabase, IsLocalDocument, AreLawful}
use Rattle.store.specs.Writing.{Addition, writings_in}
use Rattle.store.proofs.Contents.{document_after}
use Rattle.store.proofs.Laters.{sequences_by_one}

-- ---- the empty list, and one more write

none_lawful : AreWritten []
none_lawful = record { whole = tt; heads_new = λ before after w r e. absurd (no_middle before after w e); one_parent = λ r p q h. absurd h }
  where
    no_middle : (before after : List Write) (w : Write) → before ++ w ∷ after ≡ [] → ⊥
    no_middle [] after w e = cc
    no_middle (v ∷ before) after w e = cc

bodies_more : (ws : List Write) (w : Write) → AllByRecursion (λ v. IsBody v.body) ws → IsBody w.body → AllByRecursion (λ v. IsBody v.body) (ws ++ w ∷ [])
bodies_more [] w h k = (k, tt)
bodies_more (v ∷ ws) w h k = (h.0, bodies_more ws w h.1 k)

-- a write that is added to what was written
written_next : (ws : List Write) (h : HistoryContent) (w : Write) → AreWritten ws → AllByRecursion (λ v. IsBody v.body) ws → h ≡ content_of ws
    → placement h w.path ≡ Ok Added → IsBody w.body → IsWritten (with_write h w)
written_next ws h w lawful bodies is placed body =
    record {
      before = ws;
      last = w;
      lawful = added_goes_on ws w lawful (ap (λ g. placement g w.path) (sym is) ∙ placed);
      bodies = bodies_more ws w bodies body;
      content = ap (λ g. with_write g w) is ∙ sym (one_more_write ws w);
    }

written_in : (o : Option Document) (w : Write) → ((d : Document) → o ≡ Some d → IsWritten d.history) → placement (history_in o) w.path ≡ Ok Added → IsBody w.body
    → IsWritten (with_write (history_in o) w)
written_in None w h placed body = written_next [] map.empty w none_lawful tt refl placed body
written_in (Some d) w h placed body = let was = h d refl in written_next (was.before ++ was.last ∷ []) d.history w was.lawful was.bodies was.content placed body

at_key : (b : Bool) (n : ℕ) (h : HistoryContent) (o : Option Document) (d : Document) → IsWritten h → ((e : Document) → o ≡ Some e → IsWritten e.history)
    → cond b (Some (record { sequence = n; history = h })) o ≡ Some d → IsWritten d.history
at_key true n h o d new old is = subst (λ (x : Document). IsWritten x.history) (inside _ d is) new
at_key false n h o d new old is = old d is

apart_at : (b : Bool) (id other : List ℕ) (o : Option Document) (new d : Document) → bytes_eq id other ≡ b → is_local_id other ≡ false → (o ≡ Some d → is_local_id id ≡ false)
    → cond b (Some new) o ≡ Some d → is_local_id id ≡ false
apart_at true id other o new d same apart old is = ap is_local_id ((bytes_eq-Decides id other).0 same) ∙ apart
apart_at false id other o new d same apart old is = old is

pub lawful_by_one : (db : Database) (w : DocumentWrite) → IsLawfulDatabase db → IsAcceptable db w → IsLawfulDatabase (with_one db w)
lawful_by_one db w h ok =
    let body : IsBody w.write.body = record { object = ok.body; shallow = ok.shallow; plain = ok.plain } in
    let new = written_in (map.get db.documents w.id) w.write (h.documents w.id) ok.placed body in
    record {
      documents = λ id d is. at_key (bytes_eq id w.id) (db.length + 1) (with_write (history_at db w.id) w.write) (map.get db.documents id) d new (h.documents id) (sym (document_after db w id) ∙ is);
      apart = λ id d is. apart_at (bytes_eq id w.id) id w.id (map.get db.documents id) _ d refl ok.apart (h.apart id d) (sym (document_after db w id) ∙ is);
      sequences = sequences_by_one db w h.sequences;
      locals = h.locals;
    }

pub lawful_by_all : (ws : List DocumentWrite) (db : Database) → IsLawfulDatabase db → AreAcceptable db ws → IsLawfulDatabase (with_all db ws)
lawful_by_all [] db h ok = h
lawful_by_all (w ∷ ws) db h ok = lawful_by_all ws (with_one db w) (lawful_by_one db w h ok.0) ok.1

pub lawful_empty : (security : Value) → IsLawfulDatabase (empty_database security)
lawful_empty security =
    record {
      documents = λ id d is. absurd (none id d is);
      apart = λ id d is. absurd (none id d is);
      sequences = record { positive = λ id d is. absurd (none id d is); within = λ id d is. absurd (none id d is); distinct = λ id other d e is was same. absurd (none id d is) };
      locals = λ id d is. let none = sym (map.get-empty {X = LocalDocument} (slice_cmp nat_cmp) id) ∙ is in absurd (cc);
    }
  where
    none : (id : List ℕ) (d : Document) → map.get (empty_database security).documents id ≡ Some d → ⊥
    none id d is = let none = sym (map.get-empty {X = Document} (slice_cmp nat_cmp) id) ∙ is in cc

pub lawful_secured : (db : Database) (security : Value) → IsLawfulDatabase db → IsLawfulDatabase (with_security db security)
lawful_secured db security h =
    record { documents = h.documents; apart = h.apart; sequences = record { positive = h.sequences.positive; within = h.sequences.within; distinct = h.sequences.distinct }; locals = h.locals }

local_key : (b : Bool) (id other : List ℕ) (new : LocalDocument) (old : Option LocalDocument) (d : LocalDocument) → (b ≡ true → other ≡ id) → IsLocalDocument id new
    → (old ≡ Some d → IsLocalDocument other d) → cond b (Some new) old ≡ Some d → IsLocalDocument other d
local_key true id other new old d same n o is = subst (λ (x : LocalDocument). IsLocalDocument other x) (inside new d is) (subst (λ (k : List ℕ). IsLocalDocument k new) (sym (same refl)) n)
local_key false id other new old d same n o is = o is

pub lawful_local : (db : Database) (id : List ℕ) (document : LocalDocument) → IsLawfulDatabase db → IsLocalDocument id document → IsLawfulDatabase (with_local db id document)
lawful_local db id document h ok =
    record {
      documents = h.documents;
      apart = h.apart;
      sequences = record { positive = h.sequences.positive; within = h.sequences.within; distinct = h.sequences.distinct };
      locals = λ other d is.
          local_key (eq_by_cmp (slice_cmp nat_cmp) other id) id other document (map.get db.locals other) d (λ t. (bytes_eq-Decides other id).0 (sym (is_eq-slice_cmp other id) ∙ t)) ok (h.locals other d)
          (sym (map.get-insert nat_list_cmp_total db.locals id document other) ∙ is);
    }

-- the lawful writes that stand behind the history of an id, none where it was never written
pub writes_behind : (db : Database) (id : List ℕ) → IsLawfulDatabase db → (ws : List Write) × AreWritten ws × (history_at db id ≡ content_of ws)
writes_behind db id h = by (map.get db.documents id) (h.documents id)
  where
    by : (o : Option Document) → ((d : Document) → o ≡ Some d → IsWritten d.history) → (ws : List Write) × AreWritten ws × (history_in o ≡ content_of ws)
    by None k = ([], none_lawful, refl)
    by (Some d) k = let was = k d refl in (was.before ++ was.last ∷ [], was.lawful, was.content)

-- ---- the newest write's head is a leaf

stands_low : (path : List Revision) (s : Revision) → counts_down path ≡ true → StandsIn path s → s.number ≤ length path
stands_low [] s w i = absurd i
stands_low (r ∷ path) s w (inl e) = let n : r.number ≡ suc (length path) = eqb-true r.number (suc (length path)) (parts _ _ w).0 in omega (arith, n, ap (λ (x : Revision). x.number) e)
stands_low (r ∷ path) s w (inr i) = omega (arith, stands_low path s (parts _ _ w).1 i)

known_last : (ws : List Write) (w : Write) (r : Revision) → StandsIn w.path r → IsKnown (ws ++ w ∷ []) r
known_last [] w r i = inl i
known_last (v ∷ ws) w r i = inr (known_last ws w r i)

parent_split : (ws : List Write) (w : Write) (s r : Revision) → IsParent (ws ++ w ∷ []) s r → IsParent ws s r ⊎ IsBehind w.path s r
parent_split [] w s r (inl b) = inr b
parent_split [] w s r (inr b) = absurd b
parent_split (v ∷ ws) w s r (inl b) = inl (inl b)
parent_split (v ∷ ws) w s r (inr b) = elim (parent_split ws w s r b) as (λ _. IsParent (v ∷ ws) s r ⊎ IsBehind w.path s r) [ inl k ↦ inl (inr k) | inr k ↦ inr k ]

whole_front : (ws : List Write) (w : Write) → AreWhole (ws ++ w ∷ []) → AreWhole ws × (is_whole_path w.path ≡ true)
whole_front [] w h = (tt, h.0)
whole_front (v ∷ ws) w h = let k = whole_front ws w h.1 in ((h.0, k.0), k.1)

-- a whole path has a head, and it stands there by its length
pub record HasHead (path : List Revision) : Type 0 where
  pub rev : Revision
  pub head : head path ≡ Some rev
  pub stands : StandsIn path rev
  pub number : rev.number ≡ length path

whole_head : (path : List Revision) → is_whole_path path ≡ true → HasHead path
whole_head [] h = cc
whole_head (r ∷ path) h = record { rev = r; head = refl; stands = inl refl; number = eqb-true r.number (suc (length path)) (parts _ _ h).0 }

last_is_leaf : (ws : List Write) (w : Write) → AreWritten (ws ++ w ∷ []) → (r : Revision) × IsTrue (is_leaf (content_of (ws ++ w ∷ [])) r)
last_is_leaf ws w lawful =
    let whole = whole_front ws w lawful.whole in
    let top = whole_head w.path whole.1 in
    let h = content_of (ws ++ w ∷ []) in
    let known = (is_known_writes (ws ++ w ∷ []) top.rev).1 (known_last ws w top.rev top.stands) in
    let counts = whole_counts w.path whole.1 in
    let childless : (s : Revision) → parent_of (content_of (ws ++ w ∷ [])) s ≡ Some top.rev → ⊥ =
    λ s up.
    elim (parent_split ws w s top.rev (((shown (ws ++ w ∷ []) lawful).parent s top.rev).0 up)) as (λ _. ⊥) [
      | inl k ↦ lawful.heads_new ws [] w top.rev refl top.head (parent_below ws s top.rev whole.0 k).known
      | inr b ↦ omega (arith, (behind_below w.path s top.rev counts b).number, stands_low w.path s counts (stands_behind w.path s top.rev b), top.number)
    ] in
    (top.rev, (leaf_is_childless h top.rev).1 (known, childless))

-- ---- what a lawful database says of its documents

some_winner : (h : HistoryContent) (o : Option Revision) (r : Revision) → IsTrue (is_leaf h r)
    → MatchOption o ((s : Revision) → IsTrue (is_leaf h s) → ⊥) (λ w. IsTrue (is_leaf h w) × ((s : Revision) → IsTrue (is_leaf h s) → (s ≡ w) ⊎ IsBetter h w s)) → IsTrue (is_some o)
some_winner h None r leaf best = absurd (best r leaf)
some_winner h (Some w) r leaf best = refl

pub has_winner : (h : HistoryContent) → IsWritten h → IsTrue (is_some (winner h))
has_winner h k =
    let leaf = last_is_leaf k.before k.last k.lawful in
    some_winner h (winner h) leaf.0 (subst (λ (g : HistoryContent). IsTrue (is_leaf g leaf.0)) (sym k.content) leaf.1) (winner_is_best h)

winner_leaf : (h : HistoryContent) (o : Option Revision) (r : Revision) → o ≡ Some r
    → MatchOption o ((s : Revision) → IsTrue (is_leaf h s) → ⊥) (λ w. IsTrue (is_leaf h w) × ((s : Revision) → IsTrue (is_leaf h s) → (s ≡ w) ⊎ IsBetter h w s)) → IsTrue (is_leaf h r)
winner_leaf h None r is best = cc
winner_leaf h (Some w) r is best = subst (λ s. IsTrue (is_leaf h s)) (inside w r is) best.0

pub winner_held : (h : HistoryContent) (r : Revision) → IsWritten h → winner h ≡ Some r → IsTrue (is_some (held_of h r))
winner_held h r k is =
    let ws = k.before ++ k.last ∷ [] in
    let leaf = winner_leaf h (winner h) r is (winner_is_best h) in
    subst (λ (g : HistoryContent). IsTrue (is_some (held_of g r))) (sym k.content) (leaf_is_held ws k.lawful r (subst (λ (g : HistoryContent). IsTrue (is_leaf g r)) k.content leaf))

brought_body : (ws : List Write) (r : Revision) (d : Held) → AllByRecursion (λ w. IsBody w.body) ws → IsBrought ws r d → IsBody d.body
brought_body [] r d h b = absurd b
brought_body (w ∷ ws) r d h (inl b) = subst (λ (e : Held). IsBody e.body) b.1 h.0
brought_body (w ∷ ws) r d h (inr b) = brought_body ws r d h.1 b

pub held_body : (h : HistoryContent) (r : Revision) (d : Held) → IsWritten h → held_of h r ≡ Some d → IsBody d.body
held_body h r d k is =
    let ws = k.before ++ k.last ∷ [] in
    brought_body ws r d k.bodies (((shown ws k.lawful).held r d).0 (subst (λ (g : HistoryContent). held_of g r ≡ Some d) k.content is))

-- ---- the contents of a store

-- what holds of each database of a store, and still does where one is added, removed or changed
pub all_none : (P : Database → Type 0) → AllAre P map.empty
all_none P name db is = let none = sym (map.get-empty {X = Database} (slice_cmp nat_cmp) name) ∙ is in absurd (cc)

inserted_at : (P : Database → Type 0) (b : Bool) (old : Option Database) (new db : Database) → P new → (old ≡ Some db → P db) → cond b (Some new) old ≡ Some db → P db
inserted_at P true old new db n o is = subst P (inside new db is) n
inserted_at P false old new db n o is = o is

pub all_insert : (P : Database → Type 0) (c : Contents) (name : List ℕ) (new : Database) → AllAre P c → P new → AllAre P (map.insert c name new)
all_insert P c name new h n other db is =
    inserted_at P (eq_by_cmp (slice_cmp nat_cmp) other name) (map.get c other) new db n (h other db) (sym (map.get-insert nat_list_cmp_total c name new other) ∙ is)

removed_at : (P : Database → Type 0) (b : Bool) (old : Option Database) (db : Database) → (old ≡ Some db → P db) → cond b None old ≡ Some db → P db
removed_at P true old db o is = cc
removed_at P false old db o is = o is

pub all_remove : (P : Database → Type 0) (c : Contents) (name : List ℕ) → AllAre P c → AllAre P (map.remove c name)
all_remove P c name h other db is =
    removed_at P (eq_by_cmp (slice_cmp nat_cmp) other name) (map.get c other) db (h other db) (sym (map.get-remove nat_list_cmp_total c name other) ∙ is)

pub all_change : (P : Database → Type 0) (c d : Contents) (name : List ℕ) (o : Option Database) (change : Database → Database) → o ≡ map.get c name
    → option_map (λ db. map.insert c name (change db)) o ≡ Some d → ((db : Database) → o ≡ Some db → P db → P (change db)) → AllAre P c → AllAre P d
all_change P c d name None change at is keeps h = cc
all_change P c d name (Some db) change at is keeps h = subst (AllAre P) (inside _ d is) (all_insert P c name (change db) h (keeps db refl (h name db (sym at))))

pub lawful_none : AreLawful map.empty
lawful_none = all_none IsLawfulDatabase

pub lawful_insert : (c : Contents) (name : List ℕ) (new : Database) → AreLawful c → IsLawfulDatabase new → AreLawful (map.insert c name new)
lawful_insert = all_insert IsLawfulDatabase

pub lawful_remove : (c : Contents) (name : List ℕ) → AreLawful c → AreLawful (map.remove c name)
lawful_remove = all_remove IsLawfulDatabase

pub lawful_commit : (c d : Contents) (name : List ℕ) (all : List Addition) → IfThere (map.get c name) (λ db. AreAcceptable db (writings_in db all))
    → option_map (λ db. map.insert c name (with_all db (writings_in db all))) (map.get c name) ≡ Some d → AreLawful c → AreLawful d
lawful_commit c d name all ok is h =
    all_change IsLawfulDatabase c d name (map.get c name) (λ db. with_all db (writings_in db all)) refl is
    (λ db at l. lawful_by_all (writings_in db all) db l (subst (λ (o : Option Database). IfThere o (λ e. AreAcceptable e (writings_in e all))) at ok)) h

pub lawful_write_local : (c d : Contents) (name id : List ℕ) (document : LocalDocument) → IfThere (map.get c name) (λ db. IsLocalDocument id document)
    → option_map (λ db. map.insert c name (with_local db id document)) (map.get c name) ≡ Some d → AreLawful c → AreLawful d
lawful_write_local c d name id document ok is h =
    all_change IsLawfulDatabase c d name (map.get c name) (λ db. with_local db id document) refl is
    (λ db at l. lawful_local db id document l (subst (λ (o : Option Database). IfThere o (λ e. IsLocalDocument id document)) at ok)) h

-- a call that keeps what holds of contents where it changes them, or leaves them
pub all_after : {T E : Type 0} (P : Database → Type 0) (r : Result T E) (c d : Contents) (Made : Type 0) → OnOk r Made → OnErr r (d ≡ c) → (Made → AllAre P c → AllAre P d) → ∥ AllAre P c ∥₁ → ∥ AllAre P d ∥₁
all_after P (Ok v) c d Made made same keeps h = ∥∥₁_map h (keeps made)
all_after P (Err e) c d Made made same keeps h = subst (λ (x : Contents). ∥ AllAre P x ∥₁) (sym same) h
