-- The content of a database's log, with one more write at its end.
use Rattle.std.proofs.Common.{◌≡◌, ℕ, suc, ◌+◌, ◌≤◌, max, List, [], ◌∷◌, ◌++◌, length, map, filter, Bool, true, false, cond, Some, nat_cmp, refl, sym, ap, ap₂, ◌∙◌, bytes_eq, arith, length-append, subst, append-nil, append_assoc}
use Rattle.std.proofs.lemmas.Cmp.{nat_list_cmp_total}
use Rattle.std.proofs.lemmas.Slice.Eq.{bytes_eq-Decides}
use Rattle.std.specs.Cmp.Lexicographic.{slice_cmp}
use Rattle.std.specs.FinMap as finite
use Rattle.std.specs.FinMap.{slice_cmp-IsAntisymmetric, nat_cmp-IsAntisymmetric}
use Rattle.tree.specs.Write as tree
use Rattle.tree.specs.History.{content_of, with_write}
use Rattle.tree.proofs.Contents.{one_more_write}
use Rattle.store.specs.Database.{Database, Document, DocumentWrite, Log, IsContentOf, is_write_of, writes_of, places_from, greatest, sequence_of, document_with, document_of, history_in, history_at, with_one, with_all, with_write_logged}
use Rattle.store.proofs.Contents.{bytes_eq_comm, document_after}

-- ---- the writes of a document

writes_of-push : (id : List ℕ) (ws : List DocumentWrite) (w : DocumentWrite) → writes_of id (ws ++ w ∷ []) ≡ cond (is_write_of id w) (writes_of id ws ++ w.write ∷ []) (writes_of id ws)
writes_of-push id [] w = one (is_write_of id w)
  where
    one : (b : Bool) → map (λ (v : DocumentWrite). v.write) (cond b (w ∷ []) []) ≡ cond b (w.write ∷ []) []
    one true = refl
    one false = refl
writes_of-push id (v ∷ ws) w = front (is_write_of id v) (is_write_of id w) (writes_of-push id ws w)
  where
    front : (b c : Bool) → writes_of id (ws ++ w ∷ []) ≡ cond c (writes_of id ws ++ w.write ∷ []) (writes_of id ws)
        → map (λ (u : DocumentWrite). u.write) (cond b (v ∷ filter (is_write_of id) (ws ++ w ∷ [])) (filter (is_write_of id) (ws ++ w ∷ [])))
        ≡ cond c (map (λ (u : DocumentWrite). u.write) (cond b (v ∷ filter (is_write_of id) ws) (filter (is_write_of id) ws)) ++ w.write ∷ []) (map (λ (u : DocumentWrite). u.write) (cond b (v ∷ filter (is_write_of id) ws) (filter (is_write_of id) ws)))
    front true true h = ap (λ us. v.write ∷ us) h
    front true false h = ap (λ us. v.write ∷ us) h
    front false c h = h

-- ---- its last place

place_more : (b c : Bool) (n k : ℕ) (rest after : List ℕ) → rest ≡ cond c (after ++ k ∷ []) after → cond b (n ∷ rest) rest ≡ cond c (cond b (n ∷ after) after ++ k ∷ []) (cond b (n ∷ after) after)
place_more true true n k rest after h = ap (λ ns. n ∷ ns) h
place_more true false n k rest after h = ap (λ ns. n ∷ ns) h
place_more false c n k rest after h = h

alone : (b : Bool) (n k : ℕ) → n ≡ k → cond b (n ∷ []) [] ≡ cond b ([] ++ k ∷ []) []
alone true n k e = ap (λ m. m ∷ []) e
alone false n k e = refl

places_from-push : (n : ℕ) (id : List ℕ) (ws : List DocumentWrite) (w : DocumentWrite)
    → places_from n id (ws ++ w ∷ []) ≡ cond (is_write_of id w) (places_from n id ws ++ (n + length ws) ∷ []) (places_from n id ws)
places_from-push n id [] w = alone (is_write_of id w) n (n + 0) (omega arith)
places_from-push n id (v ∷ ws) w =
    let moved : n + 1 + length ws ≡ n + suc (length ws) = omega arith in
    place_more (is_write_of id v) (is_write_of id w) n (n + suc (length ws)) (places_from (n + 1) id (ws ++ w ∷ [])) (places_from (n + 1) id ws)
    (places_from-push (n + 1) id ws w ∙ ap (λ k. cond (is_write_of id w) (places_from (n + 1) id ws ++ k ∷ []) (places_from (n + 1) id ws)) moved)

greatest-push : (ns : List ℕ) (k : ℕ) → greatest (ns ++ k ∷ []) ≡ max (greatest ns) k
greatest-push [] k = omega arith
greatest-push (n ∷ ns) k = let more = greatest-push ns k in ap (max n) more ∙ omega arith

bounded : (b : Bool) (n m k : ℕ) (rest : List ℕ) → n ≤ k → greatest rest ≤ k → greatest (cond b (n ∷ rest) rest) ≤ k
bounded true n m k rest here more = omega arith
bounded false n m k rest here more = more

places_within : (m : ℕ) (id : List ℕ) (ws : List DocumentWrite) → greatest (places_from (m + 1) id ws) ≤ m + length ws
places_within m id [] = omega arith
places_within m id (v ∷ ws) = let more = places_within (m + 1) id ws in bounded (is_write_of id v) (m + 1) m (m + suc (length ws)) (places_from (m + 1 + 1) id ws) (omega arith) (omega arith)

-- ---- the document

document_with-push : (vs : List tree.Write) (v : tree.Write) (sequence : ℕ) → document_with (vs ++ v ∷ []) sequence ≡ Some (record { sequence = sequence; history = content_of (vs ++ v ∷ []) })
document_with-push [] v sequence = refl
document_with-push (u ∷ vs) v sequence = refl

history_in-document_with : (vs : List tree.Write) (sequence : ℕ) → history_in (document_with vs sequence) ≡ content_of vs
history_in-document_with [] sequence = refl
history_in-document_with (v ∷ vs) sequence = refl

document_pushed : (id : List ℕ) (ws : List DocumentWrite) (w : DocumentWrite) (b : Bool) → is_write_of id w ≡ b
    → document_of id (ws ++ w ∷ []) ≡ cond b (Some (record { sequence = length ws + 1; history = with_write (content_of (writes_of id ws)) w.write })) (document_of id ws)
document_pushed id ws w true is =
    let own = writes_of-push id ws w ∙ ap (λ b. cond b (writes_of id ws ++ w.write ∷ []) (writes_of id ws)) is in
    let places = places_from-push 1 id ws w ∙ ap (λ b. cond b (places_from 1 id ws ++ (1 + length ws) ∷ []) (places_from 1 id ws)) is in
    let within : greatest (places_from 1 id ws) ≤ length ws = let h = places_within 0 id ws in omega arith in
    let last : sequence_of id (ws ++ w ∷ []) ≡ length ws + 1 = ap greatest places ∙ greatest-push (places_from 1 id ws) (1 + length ws) ∙ omega arith in
    ap₂ document_with own last ∙ document_with-push (writes_of id ws) w.write (length ws + 1)
    ∙ ap (λ h. Some (record { sequence = length ws + 1; history = h })) (one_more_write (writes_of id ws) w.write)
document_pushed id ws w false is =
    let own = writes_of-push id ws w ∙ ap (λ b. cond b (writes_of id ws ++ w.write ∷ []) (writes_of id ws)) is in
    let places = places_from-push 1 id ws w ∙ ap (λ b. cond b (places_from 1 id ws ++ (1 + length ws) ∷ []) (places_from 1 id ws)) is in
    ap₂ document_with own (ap greatest places)

-- ---- the content

same_id : (id other : List ℕ) → bytes_eq id other ≡ true → id ≡ other
same_id id other h = (bytes_eq-Decides id other).0 h

pub one_more_write_logged : (log : Log) (db : Database) (w : DocumentWrite) → IsContentOf log db → IsContentOf (with_write_logged log w) (with_one db w)
one_more_write_logged log db w h =
    let ws = log.writes in
    let document = λ (id : List ℕ).
    (let history : history_at db w.id ≡ content_of (writes_of w.id ws) = ap history_in (h.documents w.id) ∙ history_in-document_with (writes_of w.id ws) (sequence_of w.id ws) in
    let made : Document = record { sequence = length ws + 1; history = with_write (content_of (writes_of w.id ws)) w.write } in
    let made_here : record { sequence = db.length + 1; history = with_write (history_at db w.id) w.write } ≡ made = ap₂ (λ n g. record { sequence = n + 1; history = with_write g w.write }) h.length history in
    document_after db w id ∙ ap₂ (λ d o. cond (bytes_eq id w.id) (Some d) o) made_here (h.documents id)
    ∙ at_id id (bytes_eq id w.id) refl) in
    record {
      length = omega (arith, h.length, length-append ws (w ∷ []));
      security = h.security;
      locals = h.locals;
      documents = document;
    }
  where
    at_id : (id : List ℕ) (b : Bool) → bytes_eq id w.id ≡ b
        → cond b (Some (record { sequence = length log.writes + 1; history = with_write (content_of (writes_of w.id log.writes)) w.write })) (document_of id log.writes) ≡ document_of id (log.writes ++ w ∷ [])
    at_id id true is =
        let here = same_id id w.id is in
        ap (λ k. Some (record { sequence = length log.writes + 1; history = with_write (content_of (writes_of k log.writes)) w.write })) (sym here) ∙ sym (document_pushed id log.writes w true (bytes_eq_comm w.id id ∙ is))
    at_id id false is = sym (document_pushed id log.writes w false (bytes_eq_comm w.id id ∙ is))

exact : finite.IsAntisymmetric (slice_cmp nat_cmp)
exact = slice_cmp-IsAntisymmetric nat_cmp-IsAntisymmetric

pub one_content : (log : Log) (a b : Database) → IsContentOf log a → IsContentOf log b → a ≡ b
one_content log a b h g =
    let documents = finite.same_map nat_list_cmp_total exact a.documents b.documents (λ id. h.documents id ∙ sym (g.documents id)) in
    λ i. record { length = (h.length ∙ sym g.length) i; security = (h.security ∙ sym g.security) i; locals = (h.locals ∙ sym g.locals) i; documents = documents i }

-- ---- every log has a content

abbrev pub beginning : Log → Database
beginning log = record { length = 0; security = log.security; locals = log.locals; documents = finite.empty }

abbrev pub content_logged : Log → Database
content_logged log = with_all (beginning log) log.writes

abbrev upto : Log → List DocumentWrite → Log
upto log ws = record log { writes = ws }

at_beginning : (log : Log) → IsContentOf (upto log []) (beginning log)
at_beginning log = record { length = refl; security = refl; locals = refl; documents = λ id. finite.get-empty (slice_cmp nat_cmp) id }

continued : (log : Log) (ws before : List DocumentWrite) (db : Database) → IsContentOf (upto log before) db → IsContentOf (upto log (before ++ ws)) (with_all db ws)
continued log [] before db h = subst (λ vs. IsContentOf (upto log vs) db) (sym (append-nil before)) h
continued log (w ∷ ws) before db h =
    subst (λ vs. IsContentOf (upto log vs) (with_all (with_one db w) ws)) (append_assoc before (w ∷ []) ws)
    (continued log ws (before ++ w ∷ []) (with_one db w) (one_more_write_logged (upto log before) db w h))

pub content_exists : (log : Log) → IsContentOf log (content_logged log)
content_exists log = continued log log.writes [] (beginning log) (at_beginning log)
