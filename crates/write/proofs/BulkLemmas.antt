-- Histories as functions of ids, and what a map of them holds.
use Rattle.std.proofs.Common.{◌≡◌, ◌||◌, ℕ, Bool, true, false, cond, List, ◌∷◌, Ok, Err, option_map, option_and_then, Option, Some, None, refl, ap, sym, ◌∙◌}
use Rattle.std.specs.BTreeMap.{BTreeMap, get}
use Rattle.std.specs.Ordering.{is_eq, nat_cmp}
use Rattle.std.specs.Cmp.Lexicographic.{slice_cmp}
use Rattle.std.proofs.lemmas.Map.Text.{is_eq-slice_cmp}
use Rattle.std.proofs.lemmas.Slice.Eq.{bytes_eq-Decides}
use Rattle.std.specs.Prelude.{bytes_eq, codes, is_some}
use Rattle.tree.specs.History.{HistoryContent}
use Rattle.tree.specs.History.{with_write}
use Rattle.couch_json.specs.Value.{Value}
use Rattle.store.specs.Database.{DocumentWrite, is_write_of}
use Rattle.store.specs.Writing.{addition_of, written_in}
use Rattle.store.specs.declared.write.Write.{Write}
use Rattle.write.specs.Admission.{given, history_with}
use Rattle.write.specs.Bulk.{DocumentOutcome, Histories, after, document_outcome, with_write_in}
use Rattle.write.specs.inner.Drafts.{request_outcome}
use Rattle.write.specs.BulkResults.{AgreeAt, brought, held_or, seen_in, with_history}
use Rattle.write.specs.Document.{id_in_bulk, id_in, is_bulk_id, is_same_text, member_text}
use Rattle.write.specs.inner.Repeats.{IsKept, is_named, is_named_if_any}
use Rattle.write.specs.Terms.{Terms}
use Rattle.write.specs.declared.draft.Request.{Request}
use Rattle.write.specs.declared.fault.WriteFault.TheVariants.{BadDocument}
use Rattle.write.proofs.Names.{request-named}

or_cond : (b : Bool) (stored h : HistoryContent) (o : Option HistoryContent) → held_or stored (cond b (Some h) o) ≡ cond b h (held_or stored o)
or_cond true stored h o = refl
or_cond false stored h o = refl

cond_twice : (b : Bool) (stored h : HistoryContent) (o : Option HistoryContent) → cond b h (held_or stored (cond b None o)) ≡ cond b h (held_or stored o)
cond_twice true stored h o = refl
cond_twice false stored h o = refl

-- after an insertion the map holds the history for the id
pub put_seen : (m n : BTreeMap (List ℕ) HistoryContent) (id : List ℕ) (h : HistoryContent)
    → ((q : List ℕ) → get (slice_cmp nat_cmp) n q ≡ cond (is_eq (slice_cmp nat_cmp id q)) (Some h) (get (slice_cmp nat_cmp) m q))
    → (stored : Histories) → seen_in stored n ≡ with_history (seen_in stored m) id h
put_seen m n id h updates stored =
    λ i q. (ap (held_or (stored q)) (updates q) ∙ or_cond (is_eq (slice_cmp nat_cmp id q)) (stored q) h (get (slice_cmp nat_cmp) m q)
    ∙ ap (λ b. cond b h (held_or (stored q) (get (slice_cmp nat_cmp) m q))) (is_eq-slice_cmp id q)) i

own : (id : List ℕ) → is_eq (slice_cmp nat_cmp id id) ≡ true
own id = is_eq-slice_cmp id id ∙ (bytes_eq-Decides id id).1 refl

pub put_held : (m n : BTreeMap (List ℕ) HistoryContent) (id : List ℕ) (h : HistoryContent)
    → ((q : List ℕ) → get (slice_cmp nat_cmp) n q ≡ cond (is_eq (slice_cmp nat_cmp id q)) (Some h) (get (slice_cmp nat_cmp) m q))
    → is_some (get (slice_cmp nat_cmp) n id) ≡ true
put_held m n id h updates = ap is_some (updates id ∙ ap (λ b. cond b (Some h) (get (slice_cmp nat_cmp) m id)) (own id))

-- after a removal only the id's history can be another
pub removed_seen : (m n : BTreeMap (List ℕ) HistoryContent) (id : List ℕ)
    → ((q : List ℕ) → get (slice_cmp nat_cmp) n q ≡ cond (is_eq (slice_cmp nat_cmp id q)) None (get (slice_cmp nat_cmp) m q))
    → (stored : Histories) (h : HistoryContent) → with_history (seen_in stored n) id h ≡ with_history (seen_in stored m) id h
removed_seen m n id updates stored h =
    λ i q. (ap (λ b. cond b h (held_or (stored q) (get (slice_cmp nat_cmp) n q))) (sym (is_eq-slice_cmp id q))
    ∙ ap (λ o. cond (is_eq (slice_cmp nat_cmp id q)) h (held_or (stored q) o)) (updates q)
    ∙ cond_twice (is_eq (slice_cmp nat_cmp id q)) (stored q) h (get (slice_cmp nat_cmp) m q)
    ∙ ap (λ b. cond b h (held_or (stored q) (get (slice_cmp nat_cmp) m q))) (is_eq-slice_cmp id q)) i

-- ---- a document and the histories

same_at : (old : Histories) (id k : List ℕ) (b : Bool) → bytes_eq id k ≡ b → cond b (old id) (old k) ≡ old k
same_at old id k true e = ap old ((bytes_eq-Decides id k).0 e)
same_at old id k false e = refl

-- the same history put back changes nothing
pub put_same : (old : Histories) (id : List ℕ) → with_history old id (old id) ≡ old
put_same old id = λ i k. same_at old id k (bytes_eq id k) refl i

absent_seen : (stored : HistoryContent) (o : Option HistoryContent) → is_some o ≡ false → held_or stored o ≡ stored
absent_seen stored None e = refl
absent_seen stored (Some h) e = cc

-- the stored history put in, where none is held, changes nothing that is seen
pub load_seen : (m n : BTreeMap (List ℕ) HistoryContent) (id : List ℕ) (stored : Histories)
    → is_some (get (slice_cmp nat_cmp) m id) ≡ false → seen_in stored n ≡ with_history (seen_in stored m) id (stored id) → seen_in stored n ≡ seen_in stored m
load_seen m n id stored absent put =
    put ∙ ap (with_history (seen_in stored m) id) (sym (absent_seen (stored id) (get (slice_cmp nat_cmp) m id) absent)) ∙ put_same (seen_in stored m) id

write_at : (old : Histories) (w : DocumentWrite) (k : List ℕ) (b : Bool) → bytes_eq w.id k ≡ b
    → cond b (with_write (old w.id) w.write) (old k) ≡ cond b (with_write (old k) w.write) (old k)
write_at old w k true e = ap (λ j. with_write (old j) w.write) ((bytes_eq-Decides w.id k).0 e)
write_at old w k false e = refl

put_written : (old : Histories) (w : DocumentWrite) → with_history old w.id (with_write (old w.id) w.write) ≡ with_write_in old w
put_written old w = λ i k. write_at old w k (bytes_eq w.id k) refl i

put_taken : (old : Histories) (id : List ℕ) (w : Option DocumentWrite) → ((v : DocumentWrite) → w ≡ Some v → v.id ≡ id)
    → with_history old id (history_with (old id) w) ≡ after old (Ok w)
put_taken old id None own = put_same old id
put_taken old id (Some w) own =
    ap (λ (k : List ℕ). with_history old k (with_write (old k) w.write)) (sym (own w refl)) ∙ put_written old w

-- a write by the history of its own id
pub brought_at : (old : Histories) (id : List ℕ) (h : HistoryContent) (w : Option Write) → h ≡ old id
    → ((v : DocumentWrite) → option_map (λ (x : Write). written_in h (addition_of x)) w ≡ Some v → v.id ≡ id)
    → option_map (λ (x : Write). written_in h (addition_of x)) w ≡ option_map (brought old) w
brought_at old id h None is own = refl
brought_at old id h (Some w) is own = ap (λ (g : HistoryContent). Some (written_in g (addition_of w))) (is ∙ ap old (sym (own (written_in h (addition_of w)) refl)))

pub judged_seen : (terms : Terms) (old : Histories) (id : List ℕ) (h : HistoryContent) (request : Request) (w : Option Write) → h ≡ old id
    → request_outcome terms id h request ≡ Ok (option_map (λ (x : Write). written_in h (addition_of x)) w)
    → request_outcome terms id (old id) request ≡ Ok (option_map (brought old) w)
judged_seen terms old id h request w is became =
    ap (λ g. request_outcome terms id g request) (sym is) ∙ became
    ∙ ap Ok (brought_at old id h w is (λ v e. request-named terms id h request v (became ∙ ap Ok e)))

pub seen_after : (terms : Terms) (old mid new : Histories) (id : List ℕ) (h k : HistoryContent) (request : Request) (w : Option Write)
    → h ≡ old id → ((g : HistoryContent) → with_history mid id g ≡ with_history old id g) → new ≡ with_history mid id k
    → request_outcome terms id h request ≡ Ok (option_map (λ (x : Write). written_in h (addition_of x)) w)
    → k ≡ history_with h (option_map (λ (x : Write). written_in h (addition_of x)) w)
    → new ≡ after old (Ok (option_map (brought old) w))
seen_after terms old mid new id h k request w is others put became taken_in =
    let named = λ (v : DocumentWrite) (e : option_map (λ (x : Write). written_in h (addition_of x)) w ≡ Some v). request-named terms id h request v (became ∙ ap Ok e) in
    put ∙ others k ∙ ap (with_history old id) (taken_in ∙ ap (λ g. history_with g (option_map (λ (x : Write). written_in h (addition_of x)) w)) is)
    ∙ put_taken old id (option_map (λ (x : Write). written_in h (addition_of x)) w) named
    ∙ ap (λ o. after old (Ok o)) (brought_at old id h w is named)

pub seen_still : (old mid new : Histories) (id : List ℕ) (h : HistoryContent)
    → h ≡ old id → ((g : HistoryContent) → with_history mid id g ≡ with_history old id g) → new ≡ with_history mid id h → new ≡ old
seen_still old mid new id h is others put = put ∙ others h ∙ ap (with_history old id) is ∙ put_same old id

-- ---- at another id

put_elsewhere : (old : Histories) (id k : List ℕ) (h : HistoryContent) → (id ≡ k → ⊥) → with_history old id h k ≡ old k
put_elsewhere old id k h other = by (bytes_eq id k) refl
  where
    by : (b : Bool) → bytes_eq id k ≡ b → cond b h (old k) ≡ old k
    by true e = absurd (other ((bytes_eq-Decides id k).0 e))
    by false e = refl

-- where only the id's history can be another, those of others are the same
pub still_elsewhere : (old mid : Histories) (id k : List ℕ) → ((g : HistoryContent) → with_history mid id g ≡ with_history old id g) → (id ≡ k → ⊥) → mid k ≡ old k
still_elsewhere old mid id k others other =
    sym (put_elsewhere mid id k (old id) other) ∙ ap (λ (hs : Histories). hs k) (others (old id)) ∙ put_elsewhere old id k (old id) other

-- a write is in the history of its own id
pub after_elsewhere : (old : Histories) (id k : List ℕ) (h : HistoryContent) (w : Option Write)
    → ((v : DocumentWrite) → option_map (λ (x : Write). written_in h (addition_of x)) w ≡ Some v → v.id ≡ id) → (id ≡ k → ⊥)
    → after old (Ok (option_map (brought old) w)) k ≡ old k
after_elsewhere old id k h None own other = refl
after_elsewhere old id k h (Some w) own other = by (bytes_eq w.id k) refl
  where
    by : (b : Bool) → bytes_eq w.id k ≡ b → cond b (with_write (old k) (brought old w).write) (old k) ≡ old k
    by true e = absurd (other (sym (own (written_in h (addition_of w)) refl) ∙ (bytes_eq-Decides w.id k).0 e))
    by false e = refl

-- the id of a document that doesn't come again is another one than one whose history is kept
pub kept_is_other : (own : Option (List ℕ)) (id k : List ℕ) (again : Bool) → own ≡ Some id → again ≡ false → IsKept again own k → id ≡ k → ⊥
kept_is_other own id k again named last kept same = let wrong : false ≡ true = sym last ∙ kept (named ∙ ap Some same) in absurd cc

-- ---- by the history at the id alone

pub agree_at : (h g : Histories) (i : Option (List ℕ)) → ((id : List ℕ) → i ≡ Some id → h id ≡ g id) → AgreeAt i h g
agree_at h g None same = tt
agree_at h g (Some id) same = same id refl

-- the same becomes of a document by histories that agree at its id
pub outcome_agrees : (terms : Terms) (new_edits : Bool) (h g : Histories) (document : Value) (i : Option (List ℕ)) → AgreeAt i h g
    → given BadDocument i (λ id. document_outcome terms new_edits id (h id) document) ≡ given BadDocument i (λ id. document_outcome terms new_edits id (g id) document)
outcome_agrees terms new_edits h g document None same = refl
outcome_agrees terms new_edits h g document (Some id) same = ap (λ (x : HistoryContent). document_outcome terms new_edits id x document) same

pub after_agrees : (h g : Histories) (o : DocumentOutcome) (k : List ℕ) → h k ≡ g k → after h o k ≡ after g o k
after_agrees h g (Ok (Some w)) k same = ap (λ (x : HistoryContent). cond (is_write_of k w) (with_write x w.write) x) same
after_agrees h g (Ok None) k same = same
after_agrees h g (Err fault) k same = same

-- ---- documents that name an id

-- the id of a document is its `_id`
text_of_id : (t : Option (List ℕ)) (id : List ℕ) → option_and_then (λ x. id_in_bulk x) t ≡ Some id → t ≡ Some id
text_of_id None id e = absurd cc
text_of_id (Some t) id e = by (is_bulk_id t) e
  where
    by : (b : Bool) → cond b (Some t) None ≡ Some id → Some t ≡ Some id
    by true k = k
    by false k = absurd cc

pub first_named : (id : List ℕ) (v : Value) (vs : List Value) → id_in v ≡ Some id → is_named id (v ∷ vs) ≡ true
first_named id v vs is =
    ap (λ (t : Option (List ℕ)). is_same_text id t || is_named id vs) (text_of_id (member_text (codes "_id") v) id is)
    ∙ ap (λ (b : Bool). b || is_named id vs) ((bytes_eq-Decides id id).1 refl)

pub named_behind : (id : List ℕ) (v : Value) (vs : List Value) → is_named id vs ≡ true → is_named id (v ∷ vs) ≡ true
named_behind id v vs named = by (is_same_text id (member_text (codes "_id") v)) (is_named id vs) named
  where
    by : (b c : Bool) → c ≡ true → (b || c) ≡ true
    by true c e = refl
    by false c e = e

pub named_again : (id : List ℕ) (v : Value) (vs : List Value) → id_in v ≡ Some id → is_named id vs ≡ true → is_named_if_any (member_text (codes "_id") v) vs ≡ true
named_again id v vs is named = ap (λ (t : Option (List ℕ)). is_named_if_any t vs) (text_of_id (member_text (codes "_id") v) id is) ∙ named
