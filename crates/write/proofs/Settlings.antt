-- Replicated documents are known afterwards, or refused.
use Rattle.std.proofs.Common.{◌≡◌, ℕ, Bool, true, false, cond, List, [], ◌∷◌, Option, Some, None, Ok, Err, refl, ap, ◌∙◌, subst, sym, inl}
use Rattle.std.specs.Prelude.{IsTrue, is_some}
use Rattle.std.specs.FinMap.{find}
use Rattle.std.proofs.lemmas.Slice.Eq.{bytes_eq-Decides}
use Rattle.couch_json.specs.Value.{Value}
use Rattle.tree.specs.Revision.{Revision, revision_cmp}
use Rattle.tree.specs.Write as tree
use Rattle.tree.specs.History.{HistoryContent, is_known, placement, with_write, write_entries}
use Rattle.tree.specs.declared.entry.Entry.{Entry}
use Rattle.tree.specs.declared.placement.Placed.{Placed}
use Rattle.tree.specs.declared.placement.Placed.TheVariants.{Added, Known}
use Rattle.tree.specs.declared.placement.TreeFault.TheVariants.{BadPath, OtherParent}
use Rattle.tree.proofs.Contents.{entry_kept, or, write_shows}
use Rattle.tree.proofs.Shown.{stands_found}
use Rattle.store.specs.Database.{Database, DocumentWrite, history_at, is_write_of, with_all}
use Rattle.write.specs.Admission.{given, replicated_outcome}
use Rattle.write.specs.Bulk.{Histories, DocumentOutcome, after, document_outcome, outcome_in, outcomes, put_before, writes_in}
use Rattle.write.specs.Document.{id_in}
use Rattle.write.specs.Settling.{AreKnownOrRefused, IsKnownIn, IsKnownOrRefused, after_all}
use Rattle.write.specs.Terms.{Terms}
use Rattle.write.specs.declared.fault.WriteFault.TheVariants.{BadDocument}
use Rattle.write.proofs.Acceptances.{after_is, db_after}
use Rattle.write.proofs.Outcomes.{IsReplicated, replicated_accepted}

-- ---- a known revision stays known

kept : (h : HistoryContent) (w : tree.Write) (r : Revision) (b : Bool) → IsTrue (is_known h r) → IsTrue (is_known (cond b (with_write h w) h) r)
kept h w r true k = subst (λ o. IsTrue (is_some o)) (sym (entry_kept h w r k)) k
kept h w r false k = k

kept_after : (histories : Histories) (o : DocumentOutcome) (id : List ℕ) (r : Revision)
    → IsTrue (is_known (histories id) r) → IsTrue (is_known (after histories o id) r)
kept_after histories (Ok (Some w)) id r k = kept (histories id) w.write r (is_write_of id w) k
kept_after histories (Ok None) id r k = k
kept_after histories (Err fault) id r k = k

kept_after_all : (os : List DocumentOutcome) (histories : Histories) (id : List ℕ) (r : Revision)
    → IsTrue (is_known (histories id) r) → IsTrue (is_known (after_all histories os id) r)
kept_after_all [] histories id r k = k
kept_after_all (o ∷ os) histories id r k = kept_after_all os (after histories o) id r (kept_after histories o id r k)

still : (histories : Histories) (os : List DocumentOutcome) (document : Value) (o : DocumentOutcome)
    → IsKnownOrRefused histories document o → IsKnownOrRefused (after_all histories os) document o
still histories os document (Ok w) k =
    record { id = k.id; rev = k.rev; named = k.named; brought = k.brought; known = kept_after_all os histories k.id k.rev k.known }
still histories os document (Err fault) k = tt

-- ---- a write that is taken makes its revision known

or_found : (o found : Option Entry) → is_some found ≡ true → is_some (or o found) ≡ true
or_found None found f = f
or_found (Some e) found f = refl

newest_known : (h : HistoryContent) (w : tree.Write) (r : Revision) (rest : List Revision) → w.path ≡ r ∷ rest → IsTrue (is_known (with_write h w) r)
newest_known h w r rest is =
    let stands : tree.StandsIn w.path r = subst (λ path. tree.StandsIn path r) (sym is) (inl refl) in
    ap is_some (write_shows h w r)
    ∙ or_found _ (find revision_cmp r (write_entries w)) (stands_found w.path (Some (tree.held_of_write w)) r stands)

head_known : (bad other known : Bool) → cond bad (Err BadPath) (cond other (Err OtherParent) (cond known (Ok Known) (Ok Added))) ≡ Ok Known → known ≡ true
head_known true other known e = absurd cc
head_known false true known e = absurd cc
head_known false false true e = refl
head_known false false false e = absurd cc

-- the outcome of a document that was replicated
settled : (terms : Terms) (histories : Histories) (id : List ℕ) (document : Value) (w : Option DocumentWrite) (k : IsReplicated terms id (histories id) document w) (r : Revision) (rest : List Revision)
    → id_in document ≡ Some id → k.ancestry.path ≡ r ∷ rest → IsTrue (is_known (after histories (Ok w) id) r) → IsKnownIn (after histories (Ok w)) document
settled terms histories id document w k r rest named is known =
    record {
      id = id;
      rev = r;
      named = named;
      brought = rw (k.says, k.leads, is) refl;
      known = known;
    }

-- a path that has a place is not empty
not_empty : (h : HistoryContent) (path : List Revision) (placed : Placed) → placement h path ≡ Ok placed → (r : Revision) × (rest : List Revision) × (path ≡ r ∷ rest)
not_empty h [] placed e = absurd cc
not_empty h (r ∷ rest) placed e = (r, rest, refl)

outcome_settled : (terms : Terms) (histories : Histories) (id : List ℕ) (document : Value) (w : Option DocumentWrite) → id_in document ≡ Some id
    → IsReplicated terms id (histories id) document w → IsKnownIn (after histories (Ok w)) document
outcome_settled terms histories id document (Some v) named k =
    let front = not_empty (histories id) k.ancestry.path Added k.taken.0 in
    let own : is_write_of id v ≡ true = (bytes_eq-Decides v.id id).1 (ap (λ (x : DocumentWrite). x.id) k.taken.1) in
    settled terms histories id document (Some v) k front.0 front.1 named front.2
    (subst (λ b. IsTrue (is_known (cond b (with_write (histories id) v.write) (histories id)) front.0)) (sym own)
    (newest_known (histories id) v.write front.0 front.1 (ap (λ (x : DocumentWrite). x.write.path) k.taken.1 ∙ front.2)))
outcome_settled terms histories id document None named k =
    let front = not_empty (histories id) k.ancestry.path Known k.taken in
    settled terms histories id document None k front.0 front.1 named front.2
    (head_known _ _ (is_known (histories id) front.0) (ap (placement (histories id)) (sym front.2) ∙ k.taken))

result_settled : (terms : Terms) (histories : Histories) (id : List ℕ) (document : Value) (o : DocumentOutcome) → id_in document ≡ Some id
    → replicated_outcome terms id (histories id) document ≡ o → IsKnownOrRefused (after histories o) document o
result_settled terms histories id document (Err fault) named e = tt
result_settled terms histories id document (Ok w) named e = outcome_settled terms histories id document w named (replicated_accepted terms id (histories id) document w e)

id_settled : (terms : Terms) (histories : Histories) (document : Value) (id : Option (List ℕ)) → id_in document ≡ id
    → IsKnownOrRefused (after histories (given BadDocument id (λ k. document_outcome terms false k (histories k) document))) document
    (given BadDocument id (λ k. document_outcome terms false k (histories k) document))
id_settled terms histories document None named = tt
id_settled terms histories document (Some id) named = result_settled terms histories id document (replicated_outcome terms id (histories id) document) named refl

-- ---- all of them

pub all_settled : (terms : Terms) (documents : List Value) (histories : Histories)
    → AreKnownOrRefused (after_all histories (outcomes terms false histories documents)) documents (outcomes terms false histories documents)
all_settled terms [] histories = tt
all_settled terms (v ∷ vs) histories =
    let o : DocumentOutcome = outcome_in terms false histories v in
    let left : Histories = after histories o in
    (still left (outcomes terms false left vs) v o (id_settled terms histories v (id_in v) refl), all_settled terms vs left)

-- ---- the database with the writes

with_before : (db : Database) (o : DocumentOutcome) (ws : List DocumentWrite) → with_all (db_after db o) ws ≡ with_all db (put_before o ws)
with_before db (Ok (Some w)) ws = refl
with_before db (Ok None) ws = refl
with_before db (Err fault) ws = refl

pub after_all_is : (os : List DocumentOutcome) (db : Database) → after_all (history_at db) os ≡ history_at (with_all db (writes_in os))
after_all_is [] db = refl
after_all_is (o ∷ os) db =
    ap (λ (histories : Histories). after_all histories os) (after_is db o)
    ∙ after_all_is os (db_after db o)
    ∙ ap history_at (with_before db o (writes_in os))

pub all_settled_in : (terms : Terms) (db : Database) (documents : List Value)
    → AreKnownOrRefused (history_at (with_all db (writes_in (outcomes terms false (history_at db) documents)))) documents
    (outcomes terms false (history_at db) documents)
all_settled_in terms db documents =
    let os : List DocumentOutcome = outcomes terms false (history_at db) documents in
    subst (λ histories. AreKnownOrRefused histories documents os) (after_all_is os db) (all_settled terms documents (history_at db))
