-- What an accepted write brings: revisions that can be written.
use Rattle.std.proofs.Common.{◌≡◌, ◌≢◌, ◌≤◌, ◌<◌, ◌+◌, ◌==◌, ◌&&◌, ◌⊎◌, ⊎_elim, inl, inr, ℕ, zero, suc, Bool, true, false, cond, not, List, [], ◌∷◌, ◌++◌, Option, Some, None, option_map, option_and_then, codes, nat_le, le-leb, leb-true, eq-eqb, refl, sym, ap, ◌∙◌, subst, arith}
use Rattle.std.specs.Prelude.{IsTrue, MatchOption, is_some, slice_index}
use Rattle.std.specs.List.{AllByRecursion}
use Rattle.std.proofs.lemmas.Bool.{false≢true}
use Rattle.std.specs.FinMap.{find, get}
use Rattle.std.specs.Ordering.{eq_by_cmp}
use Rattle.std.specs.Int.{to_le_bytes, w32}
use Rattle.couch_json.specs.Canonical.{canonical}
use Rattle.couch_json.specs.Parts.{has_only, items_in, text_in}
use Rattle.couch_json.specs.Value.{Items, Members, Value, array, item, member, member_of, no_items, no_members, null, object, text, truth, whole}
use Rattle.hex.specs.Hex.{IsBytes, encode_lower}
use Rattle.md5.specs.Md5.{digest_bytes, md5}
use Rattle.md5.proofs.StandardFacts.{length-md5}
use Rattle.tree.specs.History.{HistoryContent, IsBetter, ancestors_of_parent, held_of, is_deleted, is_known, is_leaf, path_entries, winner, with_write, write_entries}
use Rattle.tree.specs.NextRevision.{edit_value, next_revision, number_before}
use Rattle.tree.specs.Revision.{Revision, greatest_number, is_hash, is_revision, revision_cmp, revision_of, revision_read}
use Rattle.tree.specs.Write.{StandsIn, Write, head, held_of_write}
use Rattle.tree.specs.declared.entry.Entry.{Entry}
use Rattle.tree.specs.declared.entry.Held.{Held}
use Rattle.tree.proofs.Behind.{stands_known}
use Rattle.tree.proofs.Contents.{entry_after_write, entry_kept}
use Rattle.tree.proofs.EditText.{hash_of_bytes}
use Rattle.tree.proofs.Leaves.{leaf_is_childless, winner_is_best}
use Rattle.tree.proofs.RevisionText.{parts, read_gives}
use Rattle.tree.proofs.Shown.{entry_of_known, found_stands, inside}
use Rattle.store.specs.Database.{Database, DocumentWrite, IsKnownAt, history_at, with_one}
use Rattle.write.specs.Admission.{parent_for_edit, edit_of, implicit_parent, named_revision, revision_after, with_named_revision}
use Rattle.write.specs.Document.{Ancestry, ancestry_alone, ancestry_by, body_for, body_in, item_count, fits_id, mark_in, onto, path_of_hashes, given_revision, ancestry_given, sent_in, sent_with, without_special, words_in}
use Rattle.write.specs.Terms.{Terms}
use Rattle.write.proofs.Outcomes.{IsEdit, IsReplicated}
use Rattle.replication.specs.Sound.{AreWritable}
use Rattle.replication.proofs.Replicas.{after_write}
use Rattle.replication.proofs.Sayings.{along, given_path, kept_body, newest_given, said_of, suited}
use Rattle.replication.proofs.Writings.{held_in, held_known}

-- ---- one write

-- each revision of its path can be written, or was known
pub record IsClean (db : Database) (w : DocumentWrite) : Type 0 where
  pub path : (s : Revision) → StandsIn w.write.path s → IsKnownAt db w.id s ⊎ IsTrue (is_revision s)

abbrev pub AreClean : Database → List DocumentWrite → Type 0
AreClean db [] = Unit {0}
AreClean db (w ∷ ws) = IsClean db w × AreClean (with_one db w) ws

-- what is known after a write was known, or stands in its path
known_or_stands : (h : HistoryContent) (w : Write) (s : Revision) → is_known (with_write h w) s ≡ true → (is_known h s ≡ true) ⊎ StandsIn w.path s
known_or_stands h w s known = by (is_known h s) refl
  where
    by : (b : Bool) → is_known h s ≡ b → (is_known h s ≡ true) ⊎ StandsIn w.path s
    by true is = inl is
    by false is =
        inr (found_stands w.path (Some (held_of_write w)) s
        (ap (λ (b : Bool). is_some (cond b (get h s) (find revision_cmp s (write_entries w)))) (sym is) ∙ ap is_some (sym (entry_after_write h w s)) ∙ known))

-- what a clean write leaves can be written
pub one_writable : (db : Database) (w : DocumentWrite) → AreWritable db → IsClean db w → AreWritable (with_one db w)
one_writable db w h k id r =
    after_write (λ x. is_known x r ≡ true → IsTrue (is_revision r)) db w id (λ e. h id r e)
    (λ same e. ⊎_elim (λ old. h id r old) (λ in_path. ⊎_elim (λ old. h w.id r old) (λ good. good) (k.path r in_path)) (known_or_stands (history_at db id) w.write r e))

-- ---- revisions of edits

are_bytes : (xs : List ℕ) → AllByRecursion (λ b. b < 256) xs → IsBytes xs
are_bytes [] h i = omega arith
are_bytes (x ∷ xs) h zero = h.0
are_bytes (x ∷ xs) h (suc i) = are_bytes xs h.1 i

joined_bytes : (xs ys : List ℕ) → AllByRecursion (λ b. b < 256) xs → AllByRecursion (λ b. b < 256) ys → AllByRecursion (λ b. b < 256) (xs ++ ys)
joined_bytes [] ys h k = k
joined_bytes (x ∷ xs) ys h k = (h.0, joined_bytes xs ys h.1 k)

word_bytes : (n : ℕ) → AllByRecursion (λ b. b < 256) (to_le_bytes w32 n)
word_bytes n = (omega arith, (omega arith, (omega arith, (omega arith, tt))))

digest_parts : (h : List ℕ) (n : ℕ) → AllByRecursion (λ b. b < 256) (digest_bytes h n)
unfolding digest_bytes
digest_parts h zero = tt
digest_parts h (suc n) = joined_bytes (digest_bytes h n) (to_le_bytes w32 (slice_index h n)) (digest_parts h n) (word_bytes (slice_index h n))

bytes_of_digest : (m : List ℕ) → IsBytes (md5 m)
unfolding md5
bytes_of_digest m = are_bytes _ (digest_parts _ 4)

-- an edit that follows no revision of the greatest number makes one that can be written
next_good : (parent : Option Revision) (deleted : Bool) (body : Value) → number_before parent < greatest_number → IsTrue (is_revision (next_revision parent deleted body))
next_good parent deleted body low =
    let digest = md5 (canonical (edit_value parent deleted body)) in
    let hash : is_hash (encode_lower digest) ≡ true = hash_of_bytes digest (length-md5 (canonical (edit_value parent deleted body))) (bytes_of_digest (canonical (edit_value parent deleted body))) in
    let first : nat_le 1 (number_before parent + 1) ≡ true = le-leb 1 (number_before parent + 1) (omega arith) in
    let last : nat_le (number_before parent + 1) greatest_number ≡ true = le-leb (number_before parent + 1) greatest_number (omega (arith, low)) in
    rw (first, last, hash) refl

-- what an edit follows is known
best_known : (h : HistoryContent) (o : Option Revision) → MatchOption o ((r : Revision) → IsTrue (is_leaf h r) → ⊥) (λ w. IsTrue (is_leaf h w) × ((s : Revision) → IsTrue (is_leaf h s) → (s ≡ w) ⊎ IsBetter h w s))
    → (r : Revision) → implicit_parent h o ≡ Some (Some r) → is_known h r ≡ true
best_known h None best r e = absurd (let k : (let x : Option Revision = None in x) ≡ Some r = inside None (Some r) e in cc)
best_known h (Some w) best r e = by (is_deleted (held_of h w)) e
  where
    by : (b : Bool) → cond b (Some (Some w)) None ≡ Some (Some r) → is_known h r ≡ true
    by true k =
        let same : w ≡ r = inside w r (inside (Some w) (Some r) k) in
        ap (is_known h) (sym same) ∙ ((leaf_is_childless h w).0 best.0).0
    by false k = absurd cc

base_known : (h : HistoryContent) (named : Option Revision) (r : Revision) → parent_for_edit h named ≡ Some (Some r) → is_known h r ≡ true
base_known h None r e = best_known h (winner h) (winner_is_best h) r e
base_known h (Some s) r e = by (is_leaf h s) refl e
  where
    by : (b : Bool) → is_leaf h s ≡ b → cond b (Some (Some s)) None ≡ Some (Some r) → is_known h r ≡ true
    by true leaf k =
        let same : s ≡ r = inside s r (inside (Some s) (Some r) k) in
        ap (is_known h) (sym same) ∙ ((leaf_is_childless h s).0 leaf).0
    by false leaf k = absurd cc

-- a revision that can be written, and is not of the greatest number, can be followed
follow_low : (parent : Option Revision) → ((r : Revision) → parent ≡ Some r → IsTrue (is_revision r)) → number_before parent ≢ greatest_number → number_before parent < greatest_number
follow_low None good apart = omega arith
follow_low (Some r) good apart =
    let k = parts (nat_le 1 r.number && nat_le r.number greatest_number) (is_hash r.hash) (good r refl) in
    let l = parts (nat_le 1 r.number) (nat_le r.number greatest_number) k.0 in
    let most : r.number ≤ greatest_number = leb-true r.number greatest_number l.1 in
    less r.number most apart
  where
    less : (n : ℕ) → n ≤ greatest_number → n ≢ greatest_number → n < greatest_number
    less n le ne = grind (arith, le, ne)

next_known : (rev : Option Revision) (deleted : Bool) (body : Value) (parent : Option Revision) (r : Revision) → revision_after (sent_with (rev, deleted) body) parent ≡ Some r
    → (number_before parent ≢ greatest_number) × (next_revision parent deleted body ≡ r)
next_known rev deleted body parent r e = by (number_before parent == greatest_number) refl e
  where
    by : (b : Bool) → (number_before parent == greatest_number) ≡ b → cond b None (Some (next_revision parent deleted body)) ≡ Some r
        → (number_before parent ≢ greatest_number) × (next_revision parent deleted body ≡ r)
    by true is k = absurd cc
    by false is k = (λ same. false≢true (sym is ∙ eq-eqb (number_before parent) greatest_number same), inside (next_revision parent deleted body) r k)

pub edit_clean : (terms : Terms) (db : Database) (id : List ℕ) (query : Option Revision) (document : Value) (w : DocumentWrite) → AreWritable db
    → IsEdit terms id (history_at db id) query document w → IsClean db w
edit_clean terms db id query document w writable k =
    let h = history_at db id in
    let next = next_known k.sent.rev k.sent.deleted k.sent.body k.parent k.rev k.makes in
    let good : IsTrue (is_revision k.rev) =
    subst (λ (r : Revision). IsTrue (is_revision r)) next.1
    (next_good k.parent k.sent.deleted k.sent.body
    (follow_low k.parent (λ r is. writable id r (base_known h k.sent.rev r (k.follows ∙ ap (λ (o : Option Revision). Some o) is))) next.0)) in
    let path : (s : Revision) → StandsIn (k.rev ∷ ancestors_of_parent h k.parent) s → IsKnownAt db id s ⊎ IsTrue (is_revision s) =
    λ s i. ⊎_elim (λ e. inr (subst (λ (r : Revision). IsTrue (is_revision r)) e good)) (λ j. inl (stands_known h k.parent s j)) i in
    subst (IsClean db) (sym k.is) (record { path = path })

-- ---- revisions of replicated documents

read_good : (rev : Option Value) (r : Revision) → given_revision rev ≡ Some (Some r) → IsTrue (is_revision r)
read_good None r e = absurd (let k : (let x : Option Revision = None in x) ≡ Some r = inside None (Some r) e in cc)
read_good (Some v) r e = by (text_in v) e
  where
    by : (o : Option (List ℕ)) → option_and_then (λ t. option_map (λ x. Some x) (revision_read t)) o ≡ Some (Some r) → IsTrue (is_revision r)
    by None k = absurd cc
    by (Some t) k = read (revision_read t) refl k
      where
        read : (o : Option Revision) → revision_read t ≡ o → option_map (λ x. Some x) o ≡ Some (Some r) → IsTrue (is_revision r)
        read None is l = absurd cc
        read (Some x) is l = let same : x ≡ r = inside x r (inside (Some x) (Some r) l) in subst (λ (y : Revision). IsTrue (is_revision y)) same (read_gives t x is).0

rev_of : (fits : Bool) (rev : Option (Option Revision)) (mark : Option Bool) (words : Option Revision × Bool)
    → cond fits (option_and_then (λ r. option_map (λ deleted. (r, deleted)) mark) rev) None ≡ Some words → rev ≡ Some words.0
rev_of false rev mark words e = absurd cc
rev_of true None mark words e = absurd cc
rev_of true (Some r) None words e = absurd cc
rev_of true (Some r) (Some d) words e = let pair : Option Revision × Bool = (r, d) in let k : pair ≡ words = inside pair words e in ap (λ (x : Option Revision × Bool). Some x.0) k

sent_rev_good : (id : List ℕ) (document : Value) (said : Option Revision) (deleted : Bool) (body : Value) (r : Revision) → sent_in id document ≡ Some (sent_with (said, deleted) body) → said ≡ Some r
    → IsTrue (is_revision r)
sent_rev_good id document said deleted body r e is =
    let s = said_of sent_with (words_in id document) (body_for id document) (sent_with (said, deleted) body) e in
    let rev = rev_of (fits_id id (member_of document (codes "_id"))) (given_revision (member_of document (codes "_rev"))) (mark_in (member_of document (codes "_deleted"))) s.words_said s.words_are in
    read_good (member_of document (codes "_rev")) r (rev ∙ ap (λ (o : Option Revision). Some o) (sym (along sent_with (λ x. x.rev) (sent_with (said, deleted) body) (sent_with s.words_said s.body_said) s.is) ∙ is))

made_good : (n : ℕ) (o : Option (List ℕ)) (r : Revision) → option_and_then (λ hash. revision_of n hash) o ≡ Some r → IsTrue (is_revision r)
made_good n None r e = absurd cc
made_good n (Some hash) r e = by (is_revision made) refl e
  where
    made : Revision
    made = record { number = n; hash = hash }

    by : (b : Bool) → is_revision made ≡ b → cond b (Some made) None ≡ Some r → IsTrue (is_revision r)
    by true is k = subst (λ (x : Revision). IsTrue (is_revision x)) (inside made r k) is
    by false is k = absurd cc

path_good : (vs : Items) (path : List Revision) → path_of_hashes vs ≡ Some path → (s : Revision) → StandsIn path s → IsTrue (is_revision s)
path_good no_items path e s i = absurd (subst (λ (p : List Revision). StandsIn p s) (sym (inside [] path e)) i)
path_good (item v vs) path e s i = by (option_and_then (λ hash. revision_of (suc (item_count vs)) hash) (text_in v)) refl (path_of_hashes vs) (λ p is. path_good vs p is) refl e
  where
    by : (o : Option Revision) → option_and_then (λ hash. revision_of (suc (item_count vs)) hash) (text_in v) ≡ o → (rest : Option (List Revision))
        → ((p : List Revision) → path_of_hashes vs ≡ Some p → (r : Revision) → StandsIn p r → IsTrue (is_revision r)) → path_of_hashes vs ≡ rest → onto o rest ≡ Some path → IsTrue (is_revision s)
    by None is rest below rest_is k = absurd cc
    by (Some q) is None below rest_is k = absurd cc
    by (Some q) is (Some p) below rest_is k =
        ⊎_elim
        (λ same. subst (λ (x : Revision). IsTrue (is_revision x)) same (made_good (suc (item_count vs)) (text_in v) q is))
        (λ j. below p rest_is s j)
        (subst (λ (x : List Revision). StandsIn x s) (sym (inside (q ∷ p) path k)) i)

items_good : (o : Option Items) (path : List Revision) → option_and_then (λ vs. path_of_hashes vs) o ≡ Some path → (s : Revision) → StandsIn path s → IsTrue (is_revision s)
items_good None path e s i = absurd cc
items_good (Some vs) path e s i = path_good vs path e s i

given_good : (m : Value) (said : Ancestry) → ancestry_given m ≡ Some said → (s : Revision) → StandsIn said.path s → IsTrue (is_revision s)
given_good m said e s i =
    items_good (option_and_then (λ x. items_in x) (member_of m (codes "ids"))) said.path (given_path (has_only (codes "start" ∷ codes "ids" ∷ []) m) m said e) s i

alone_good : (rev : Option Revision) (ancestry : Ancestry) → ((r : Revision) → rev ≡ Some r → IsTrue (is_revision r)) → option_map ancestry_alone rev ≡ Some ancestry
    → (s : Revision) → StandsIn ancestry.path s → IsTrue (is_revision s)
alone_good None ancestry good e s i = absurd cc
alone_good (Some r) ancestry good e s i =
    ⊎_elim (λ same. subst (λ (x : Revision). IsTrue (is_revision x)) same (good r refl)) (λ j. absurd j)
    (subst (λ (x : Ancestry). StandsIn x.path s) (sym (inside (ancestry_alone r) ancestry e)) i)

ancestry_good : (m : Option Value) (rev : Option Revision) (ancestry : Ancestry) → ((r : Revision) → rev ≡ Some r → IsTrue (is_revision r))
    → ancestry_by (option_map ancestry_given m) rev ≡ Some ancestry → (s : Revision) → StandsIn ancestry.path s → IsTrue (is_revision s)
ancestry_good None rev ancestry good e s i = alone_good rev ancestry good e s i
ancestry_good (Some m) rev ancestry good e s i = given_good m ancestry (newest_given rev (ancestry_given m) ancestry e) s i

pub replicated_clean : (terms : Terms) (db : Database) (id : List ℕ) (document : Value) (w : DocumentWrite) → IsReplicated terms id (history_at db id) document (Some w) → IsClean db w
replicated_clean terms db id document w k =
    let path : (s : Revision) → StandsIn k.ancestry.path s → IsKnownAt db id s ⊎ IsTrue (is_revision s) =
    λ s i. inr (ancestry_good (member_of document (codes "_revisions")) k.sent.rev k.ancestry (λ r is. sent_rev_good id document k.sent.rev k.sent.deleted k.sent.body r k.says is) k.leads s i) in
    subst (IsClean db) (sym k.taken.1) (record { path = path })
