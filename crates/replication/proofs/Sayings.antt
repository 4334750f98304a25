-- What a document says that a database shows: the revision that is held there, with its path, its mark and its body.
use Rattle.std.proofs.Common.{◌≡◌, ◌==◌, ◌&&◌, ℕ, zero, suc, Bool, true, false, cond, List, [], ◌∷◌, length, map, Option, Some, None, option_map, option_and_then, codes, bytes_eq, eq-eqb, eqb-true, refl, sym, ap, ◌∙◌, subst, arith}
use Rattle.couch_json.specs.Parts.{has_only, is_object, text_in}
use Rattle.couch_json.specs.Value.{Value, Items, Members, array, member_at, member_of, null, object, put, text, truth, whole}
use Rattle.couch_json.specs.View.{items_of}
use Rattle.tree.specs.History.{HistoryContent, IsRooted, chain, held_of, is_known, path_from, onward, parent_of}
use Rattle.tree.specs.Revision.{Revision, is_revision, text_of}
use Rattle.tree.specs.ShownDocument.{body_members, shown_members, with_mark}
use Rattle.tree.specs.Write.{counts_down, held_of_write}
use Rattle.tree.specs.declared.entry.Held.{Held}
use Rattle.tree.proofs.Kept.{line_on}
use Rattle.tree.proofs.RevisionText.{parts}
use Rattle.store.specs.Database.{Database, DocumentWrite, history_at}
use Rattle.read.specs.Path.{revisions_of, with_path, with_revisions}
use Rattle.read.specs.Shown.{shown_document}
use Rattle.write.specs.Document.{Ancestry, ancestry_by, ancestry_if_newest, ancestry_in, body_for, body_if, body_in, item_count, fits_id, id_in_bulk, ids_in, is_body_for, is_bulk_id, is_newest, mark_in, member_text, onto, path_of_hashes, given_revision, revisions_if, ancestry_given, sent_in, sent_with, start_in, without_special, words_in}
use Rattle.passes.proofs.MemberLemmas.{put_at_other, put_at_same}
use Rattle.replication.specs.Appended.{ComesFrom, IsSaidBy, IsShownBy}
use Rattle.replication.specs.Sound.{IsSound}
use Rattle.store.specs.SpecialMembers.{is_plain}
use Rattle.replication.proofs.PlainMembers.{plain_lacks, plain_whole, put_special}
use Rattle.replication.proofs.Replicas.{KeepsAll, body_at, rooted_at}
use Rattle.replication.proofs.Writings.{held_known, kept_chain, kept_held, positive}

same_inside : {X : Type 0} (x y : X) → Some x ≡ Some y → x ≡ y
same_inside x y e = cc

-- ---- a path as hashes, read back

-- the path of a known revision counts down to 1
line_counts : (k : HistoryContent) → IsRooted k → (n : ℕ) (r : Revision) → r.number ≡ n → is_known k r ≡ true → (length (path_from k n r) ≡ n) × (counts_down (path_from k n r) ≡ true)
line_counts k root zero r is known = absurd (omega (arith, is, positive k root r known))
line_counts k root (suc n) r is known =
    subst (λ (path : List Revision). (length path ≡ suc n) × (counts_down path ≡ true)) (sym (line_on k n r known))
    (by (λ p near there. line_counts k root n p near there) (parent_of k r) refl)
  where
    by : ((p : Revision) → p.number ≡ n → is_known k p ≡ true → (length (path_from k n p) ≡ n) × (counts_down (path_from k n p) ≡ true))
        → (o : Option Revision) → parent_of k r ≡ o → (length (r ∷ onward (λ p. path_from k n p) o) ≡ suc n) × (counts_down (r ∷ onward (λ p. path_from k n p) o) ≡ true)
    by rest None up =
        let one = root.begins r known up in
        (omega (arith, is, one), ap (λ (b : Bool). b && true) (eq-eqb r.number 1 one))
    by rest (Some p) up =
        let k = rest p (omega (arith, is, root.descends r p up)) (root.parents_known r p up) in
        (omega (arith, k.0), rw (k.0, k.1, eq-eqb r.number (suc n) is) refl)

hashes : List Revision → Items
hashes path = items_of (map (λ s. text s.hash) path)

hashes_counted : (path : List Revision) → item_count (items_of (map (λ s. text s.hash) path)) ≡ length path
hashes_counted [] = refl
hashes_counted (s ∷ rest) = ap suc (hashes_counted rest)

-- what is read back of the hashes of a path that counts down, is that path
path_back : (path found : List Revision) → counts_down path ≡ true → path_of_hashes (items_of (map (λ s. text s.hash) path)) ≡ Some found → found ≡ path
path_back [] found counts e = sym (same_inside [] found e)
path_back (s ∷ rest) found counts e =
    let both = parts (s.number == suc (length rest)) (counts_down rest) counts in
    by (is_revision made) (path_of_hashes tail) (λ p k. path_back rest p both.1 k) refl (ap suc (hashes_counted rest) ∙ sym (eqb-true s.number (suc (length rest)) both.0)) e
  where
    tail : Items
    tail = items_of (map (λ (x : Revision). text x.hash) rest)

    made : Revision
    made = record { number = suc (item_count tail); hash = s.hash }

    by : (b : Bool) (o : Option (List Revision)) → ((p : List Revision) → path_of_hashes tail ≡ Some p → p ≡ rest) → path_of_hashes tail ≡ o → suc (item_count tail) ≡ s.number
        → onto (cond b (Some made) None) o ≡ Some found → found ≡ s ∷ rest
    by true None below is number k = absurd cc
    by true (Some p) below is number k =
        let all : made ∷ p ≡ found = same_inside (made ∷ p) found k in
        let first : made ≡ s = λ i. let x : Revision = record { number = number i; hash = s.hash } in x in
        sym all ∙ (λ i. first i ∷ below p is i)
    by false o below is number k = absurd cc

-- ---- what `_revisions` says

pub given_path : (b : Bool) (v : Value) (said : Ancestry) → revisions_if b v ≡ Some said → ids_in v ≡ Some said.path
given_path false v said e = absurd cc
given_path true v said e = by (start_in v) (ids_in v) e
  where
    by : (start : Option ℕ) (path : Option (List Revision)) → option_and_then (λ s. option_map (λ p. let x : Ancestry = record { start = s; path = p } in x) path) start ≡ Some said → path ≡ Some said.path
    by None path k = absurd cc
    by (Some s) None k = absurd cc
    by (Some s) (Some p) k =
        let made : Ancestry = record { start = s; path = p } in
        let same : made ≡ said = same_inside made said k in ap (λ (x : Ancestry). Some x.path) same

pub newest_given : (rev : Option Revision) (o : Option Ancestry) (ancestry : Ancestry) → option_and_then (λ said. ancestry_if_newest rev said) o ≡ Some ancestry → o ≡ Some ancestry
newest_given rev None ancestry e = absurd cc
newest_given rev (Some said) ancestry e = by (is_newest said.start said.path rev) e
  where
    by : (b : Bool) → cond b (Some said) None ≡ Some ancestry → Some said ≡ Some ancestry
    by true k = k
    by false k = absurd cc

-- ---- the members of a shown document

abbrev shown_all : List ℕ → Revision → List Revision → Held → Members
shown_all id r path held = put (codes "_revisions") (revisions_of r path) (shown_members id r held)

abbrev named_members : List ℕ → Revision → Held → Members
named_members id r held = put (codes "_rev") (text (text_of r)) (put (codes "_id") (text id) (body_members held.body))

at_marked : (b : Bool) (name : List ℕ) (ms : Members) → bytes_eq name (codes "_deleted") ≡ false → member_at name (with_mark b ms) ≡ member_at name ms
at_marked true name ms h = put_at_other name (codes "_deleted") _ ms h
at_marked false name ms h = refl

id_shown : (id : List ℕ) (r : Revision) (path : List Revision) (held : Held) → member_at (codes "_id") (shown_all id r path held) ≡ Some (text id)
id_shown id r path held =
    put_at_other (codes "_id") (codes "_revisions") (revisions_of r path) (shown_members id r held) refl
    ∙ at_marked held.deleted (codes "_id") (named_members id r held) refl
    ∙ put_at_other (codes "_id") (codes "_rev") (text (text_of r)) (put (codes "_id") (text id) (body_members held.body)) refl
    ∙ put_at_same (codes "_id") (text id) (body_members held.body)

mark_shown : (id : List ℕ) (r : Revision) (path : List Revision) (held : Held) → is_plain held.body ≡ true → mark_in (member_at (codes "_deleted") (shown_all id r path held)) ≡ Some held.deleted
mark_shown id r path held plain =
    ap mark_in (put_at_other (codes "_deleted") (codes "_revisions") (revisions_of r path) (shown_members id r held) refl) ∙ by held.deleted
  where
    by : (b : Bool) → mark_in (member_at (codes "_deleted") (with_mark b (named_members id r held))) ≡ Some b
    by true = ap mark_in (put_at_same (codes "_deleted") (truth true) (named_members id r held))
    by false =
        ap mark_in
        (put_at_other (codes "_deleted") (codes "_rev") (text (text_of r)) (put (codes "_id") (text id) (body_members held.body)) refl
        ∙ put_at_other (codes "_deleted") (codes "_id") (text id) (body_members held.body) refl
        ∙ plain_lacks (codes "_deleted") (body_members held.body) refl plain)

body_shown : (id : List ℕ) (r : Revision) (path : List Revision) (held : Held) → is_plain held.body ≡ true → without_special (shown_all id r path held) ≡ body_members held.body
body_shown id r path held plain =
    put_special (codes "_revisions") (revisions_of r path) (shown_members id r held) refl
    ∙ by held.deleted
    ∙ put_special (codes "_rev") (text (text_of r)) (put (codes "_id") (text id) (body_members held.body)) refl
    ∙ put_special (codes "_id") (text id) (body_members held.body) refl
    ∙ plain_whole (body_members held.body) plain
  where
    by : (b : Bool) → without_special (with_mark b (named_members id r held)) ≡ without_special (named_members id r held)
    by true = put_special (codes "_deleted") (truth true) (named_members id r held) refl
    by false = refl

object_of : (body : Value) → is_object body ≡ true → object (body_members body) ≡ body
object_of null e = absurd cc
object_of (truth b) e = absurd cc
object_of (whole n) e = absurd cc
object_of (text s) e = absurd cc
object_of (array vs) e = absurd cc
object_of (object ms) e = refl

-- ---- what is sent

pub record Said {A : Type 0} (with_words : Option Revision × Bool → Value → A) (words : Option (Option Revision × Bool)) (body : Option Value) (sent : A) : Type 0 where
  pub words_said : Option Revision × Bool
  pub body_said : Value
  pub words_are : words ≡ Some words_said
  pub body_is : body ≡ Some body_said
  pub is : sent ≡ with_words words_said body_said

pub said_of : {A : Type 0} (with_words : Option Revision × Bool → Value → A) (words : Option (Option Revision × Bool)) (body : Option Value) (sent : A)
    → option_and_then (λ w. option_map (λ b. with_words w b) body) words ≡ Some sent → Said with_words words body sent
said_of with_words None body sent e = absurd cc
said_of with_words (Some w) None sent e = absurd cc
said_of with_words (Some w) (Some b) sent e = record { words_said = w; body_said = b; words_are = refl; body_is = refl; is = sym (same_inside (with_words w b) sent e) }

-- a field of equal values
pub along : {A B : Type 0} (with_words : Option Revision × Bool → Value → A) (field : A → B) (x y : A) → x ≡ y → field x ≡ field y
along with_words field x y e = ap field e

pub mark_of : (fits : Bool) (rev : Option (Option Revision)) (mark : Option Bool) (words : Option Revision × Bool)
    → cond fits (option_and_then (λ r. option_map (λ deleted. (r, deleted)) mark) rev) None ≡ Some words → mark ≡ Some words.1
mark_of false rev mark words e = absurd cc
mark_of true None mark words e = absurd cc
mark_of true (Some r) None words e = absurd cc
mark_of true (Some r) (Some d) words e = let pair : Option Revision × Bool = (r, d) in let k : pair ≡ words = same_inside pair words e in ap (λ (x : Option Revision × Bool). Some x.1) k

pub suited : (id : List ℕ) (plain : Option Value) (body : Value) → option_and_then (λ b. body_if (is_body_for id b) b) plain ≡ Some body → plain ≡ Some body
suited id None body e = absurd cc
suited id (Some b) body e = by (is_body_for id b) e
  where
    by : (good : Bool) → cond good (Some b) None ≡ Some body → Some b ≡ Some body
    by true k = k
    by false k = absurd cc

pub kept_body : (good : Bool) (v body : Value) → body_if good v ≡ Some body → body ≡ v
kept_body true v body e = sym (same_inside v body e)
kept_body false v body e = absurd cc

-- what a shown document sends is what is held: the mark and the body
sent_held : (id other : List ℕ) (r : Revision) (path : List Revision) (held : Held) (rev : Option Revision) (deleted : Bool) (body : Value) → is_plain held.body ≡ true → is_object held.body ≡ true
    → sent_in other (object (shown_all id r path held)) ≡ Some (sent_with (rev, deleted) body) → (deleted ≡ held.deleted) × (body ≡ held.body)
sent_held id other r path held rev deleted body plain is_body e =
    let v = object (shown_all id r path held) in
    let s = said_of sent_with (words_in other v) (body_for other v) (sent_with (rev, deleted) body) e in
    let marked : Some held.deleted ≡ Some s.words_said.1 =
    sym (mark_shown id r path held plain)
    ∙ mark_of (fits_id other (member_of v (codes "_id"))) (given_revision (member_of v (codes "_rev"))) (mark_in (member_of v (codes "_deleted"))) s.words_said s.words_are in
    let is : s.body_said ≡ object (without_special (shown_all id r path held)) = kept_body _ (object (without_special (shown_all id r path held))) s.body_said (suited other (body_in v) s.body_said s.body_is) in (
      along sent_with (λ x. x.deleted) (sent_with (rev, deleted) body) (sent_with s.words_said s.body_said) s.is ∙ sym (same_inside held.deleted s.words_said.1 marked),
      along sent_with (λ x. x.body) (sent_with (rev, deleted) body) (sent_with s.words_said s.body_said) s.is ∙ is ∙ ap object (body_shown id r path held plain) ∙ object_of held.body is_body,
    )

-- the path that it leads to is the one that is shown
path_led : (id : List ℕ) (r : Revision) (path : List Revision) (held : Held) (rev : Option Revision) (ancestry : Ancestry) → counts_down path ≡ true
    → ancestry_in (object (shown_all id r path held)) rev ≡ Some ancestry → ancestry.path ≡ path
path_led id r path held rev ancestry counts e =
    let given : ancestry_by (Some (ancestry_given (revisions_of r path))) rev ≡ Some ancestry =
    ap (λ (o : Option Value). ancestry_by (option_map ancestry_given o) rev) (sym (put_at_same (codes "_revisions") (revisions_of r path) (shown_members id r held))) ∙ e in
    path_back path ancestry.path counts (given_path (has_only (codes "start" ∷ codes "ids" ∷ []) (revisions_of r path)) (revisions_of r path) ancestry (newest_given rev (ancestry_given (revisions_of r path)) ancestry given))

-- it is the document of this id
id_said : (o : Option (List ℕ)) (id named : List ℕ) → o ≡ Some id → option_and_then (λ t. id_in_bulk t) o ≡ Some named → named ≡ id
id_said o id named is e = by (is_bulk_id id) (ap (λ (x : Option (List ℕ)). option_and_then (λ t. id_in_bulk t) x) (sym is) ∙ e)
  where
    by : (b : Bool) → cond b (Some id) None ≡ Some named → named ≡ id
    by true k = sym (same_inside id named k)
    by false k = absurd cc

-- ---- the write

abbrev shown_by : List ℕ → HistoryContent → Revision → Held → Value
shown_by id h r held = object (with_revisions true h r (shown_members id r held))

comes : (db : Database) (id : List ℕ) (r : Revision) (held : Held) (w : DocumentWrite) → IsSound db → held_of (history_at db id) r ≡ Some held
    → IsSaidBy (shown_by id (history_at db id) r held) w → ComesFrom db w
comes db id r held w sound holds said =
    let h = history_at db id in
    let root = rooted_at db sound id in
    let known = held_known h r held holds in
    let path = path_from h r.number r in
    let chained : chain h r ≡ Some path = ap (λ (b : Bool). cond b (Some path) None) known in
    let s : IsSaidBy (object (shown_all id r path held)) w = subst (λ (o : Option (List Revision)). IsSaidBy (object (with_path r o (shown_members id r held))) w) chained said in
    let body = body_at db sound id r held holds in
    let sent = sent_held id w.id r path held s.rev w.write.deleted w.write.body body.plain body.object s.says in
    let led = path_led id r path held s.rev s.ancestry (line_counts h root r.number r refl known).1 s.leads in
    let same : w.id ≡ id = id_said (member_text (codes "_id") (object (shown_all id r path held))) id w.id (ap (λ (o : Option Value). option_and_then (λ m. text_in m) o) (id_shown id r path held)) s.named in
    let brought : held_of_write w.write ≡ held = (λ i. let x : Held = record { deleted = sent.0 i; body = sent.1 i } in x) in
    record {
      rev = r;
      path = ap (λ (i : List ℕ). chain (history_at db i) r) same ∙ chained ∙ ap Some (sym led ∙ sym s.path);
      held = ap (λ (i : List ℕ). held_of (history_at db i) r) same ∙ holds ∙ ap Some (sym brought);
    }

pub shown_is_said : (db : Database) (id : List ℕ) (v : Value) (w : DocumentWrite) → IsSound db → IsShownBy db id v → IsSaidBy v w → ComesFrom db w
shown_is_said db id v w sound shown said = by (held_of (history_at db id) shown.rev) refl shown.is
  where
    by : (o : Option Held) → held_of (history_at db id) shown.rev ≡ o → option_map (λ held. shown_by id (history_at db id) shown.rev held) o ≡ Some v → ComesFrom db w
    by None is k = absurd cc
    by (Some held) is k =
        comes db id shown.rev held w sound is (subst (λ (x : Value). IsSaidBy x w) (sym (same_inside (shown_by id (history_at db id) shown.rev held) v k)) said)

-- ---- what is shown stays shown

pub shown_still : (old new : Database) (id : List ℕ) (v : Value) → IsSound old → KeepsAll old new → IsShownBy old id v → IsShownBy new id v
shown_still old new id v sound keeps shown = record { rev = shown.rev; is = by (held_of (history_at old id) shown.rev) refl shown.is }
  where
    h : HistoryContent
    h = history_at old id

    by : (o : Option Held) → held_of (history_at old id) shown.rev ≡ o → option_map (λ held. shown_by id h shown.rev held) o ≡ Some v
        → shown_document id (history_at new id) shown.rev true ≡ Some v
    by None is k = absurd cc
    by (Some held) is k =
        ap (option_map (λ (d : Held). shown_by id (history_at new id) shown.rev d)) (kept_held h (history_at new id) (keeps id) shown.rev held is)
        ∙ ap (λ (o : Option (List Revision)). Some (object (with_path shown.rev o (shown_members id shown.rev held))))
        (kept_chain h (history_at new id) (rooted_at old sound id) (keeps id) shown.rev (held_known h shown.rev held is))
        ∙ k
