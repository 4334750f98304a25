-- Later contents, and the sequences of documents.
use Rattle.std.proofs.Common.{◌≡◌, ◌⊎◌, ℕ, ◌+◌, ◌≤◌, List, [], ◌∷◌, Bool, true, false, cond, Option, Some, None, IsTrue, nat_cmp, is_some, refl, sym, ap, ◌∙◌, subst, bytes_eq, arith, inl, inr}
use Rattle.std.proofs.lemmas.Slice.Eq.{bytes_eq-Decides}
use Rattle.std.specs.Cmp.Lexicographic.{slice_cmp}
use Rattle.std.specs.FinMap as finite
use Rattle.tree.specs.Revision.{Revision}
use Rattle.tree.specs.Write as tree
use Rattle.tree.specs.History.{HistoryContent, is_known, with_write}
use Rattle.tree.proofs.Contents.{entry_kept}
use Rattle.store.specs.Database.{Database, Document, DocumentWrite, Log, IsContentOf, IsLater, HasSequences, is_write_of, history_at, sequence_at, sequence_in, with_one, with_all}
use Rattle.store.proofs.Contents.{document_after, history_at-with_one}
use Rattle.store.proofs.Logs.{beginning, content_logged, content_exists, one_content}

pub later_itself : (db : Database) → IsLater db db
later_itself db = record { grown = omega arith; known = λ id r h. h; unchanged = λ id h. refl }

pub later_still : (a b c : Database) → IsLater a b → IsLater b c → IsLater a c
later_still a b c h g =
    record {
      grown = omega (arith, h.grown, g.grown);
      known = λ id r k. g.known id r (h.known id r k);
      unchanged = λ id early.
          (let same = g.unchanged id (omega (arith, early, h.grown)) in
          let before : sequence_at b id ≤ a.length = subst (λ o. sequence_in o ≤ a.length) same early in
          same ∙ h.unchanged id before);
    }

known_kept : (h : HistoryContent) (w : tree.Write) (r : Revision) (b : Bool) → IsTrue (is_known h r) → IsTrue (is_known (cond b (with_write h w) h) r)
known_kept h w r true k = subst (λ o. IsTrue (is_some o)) (sym (entry_kept h w r k)) k
known_kept h w r false k = k

unless_new : (b : Bool) (n : ℕ) (d : Document) (o : Option Document) → d.sequence ≡ n + 1 → sequence_in (cond b (Some d) o) ≤ n → cond b (Some d) o ≡ o
unless_new true n d o is early = absurd (omega arith)
unless_new false n d o is early = refl

pub later_by_one : (db : Database) (w : DocumentWrite) → IsLater db (with_one db w)
later_by_one db w =
    let made : List ℕ → Document = λ id. record { sequence = db.length + 1; history = with_write (history_at db w.id) w.write } in
    record {
      grown = omega arith;
      known = λ id r k. subst (λ h. IsTrue (is_known h r)) (sym (history_at-with_one db w id)) (known_kept (history_at db id) w.write r (is_write_of id w) k);
      unchanged = λ id early.
          (let after = document_after db w id in
          after ∙ unless_new (bytes_eq id w.id) db.length (made id) (finite.get db.documents id) refl (subst (λ o. sequence_in o ≤ db.length) after early));
    }

pub later_by_all : (ws : List DocumentWrite) (db : Database) → IsLater db (with_all db ws)
later_by_all [] db = later_itself db
later_by_all (w ∷ ws) db = later_still db (with_one db w) (with_all (with_one db w) ws) (later_by_one db w) (later_by_all ws (with_one db w))

-- ---- sequences

abbrev IsNewOrOld : Database → DocumentWrite → List ℕ → Document → Type 0
IsNewOrOld db w id d = ((id ≡ w.id) × (d.sequence ≡ db.length + 1)) ⊎ (finite.get db.documents id ≡ Some d)

abbrev inside : Option Document → Document → Document
inside None d = d
inside (Some e) d = e

new_or_old_at : (db : Database) (w : DocumentWrite) (id : List ℕ) (d : Document) (b : Bool) → bytes_eq id w.id ≡ b
    → cond b (Some (record { sequence = db.length + 1; history = with_write (history_at db w.id) w.write })) (finite.get db.documents id) ≡ Some d → IsNewOrOld db w id d
new_or_old_at db w id d true is h = inl ((bytes_eq-Decides id w.id).0 is, sym (ap (λ o. (inside o d).sequence) h))
new_or_old_at db w id d false is h = inr h

new_or_old : (db : Database) (w : DocumentWrite) (id : List ℕ) (d : Document) → finite.get (with_one db w).documents id ≡ Some d → IsNewOrOld db w id d
new_or_old db w id d h = new_or_old_at db w id d (bytes_eq id w.id) refl (sym (document_after db w id) ∙ h)

positive_one : (db : Database) (w : DocumentWrite) (id : List ℕ) (d : Document) → HasSequences db → IsNewOrOld db w id d → 1 ≤ d.sequence
positive_one db w id d h (inl new) = omega (arith, new.1)
positive_one db w id d h (inr old) = h.positive id d old

within_one : (db : Database) (w : DocumentWrite) (id : List ℕ) (d : Document) → HasSequences db → IsNewOrOld db w id d → d.sequence ≤ db.length + 1
within_one db w id d h (inl new) = omega (arith, new.1)
within_one db w id d h (inr old) = omega (arith, h.within id d old)

distinct_one : (db : Database) (w : DocumentWrite) (id other : List ℕ) (d e : Document) → HasSequences db → IsNewOrOld db w id d → IsNewOrOld db w other e → d.sequence ≡ e.sequence → id ≡ other
distinct_one db w id other d e h (inl new) (inl late) same = new.0 ∙ sym late.0
distinct_one db w id other d e h (inl new) (inr old) same = absurd (omega (arith, new.1, h.within other e old))
distinct_one db w id other d e h (inr old) (inl new) same = absurd (omega (arith, new.1, h.within id d old))
distinct_one db w id other d e h (inr old) (inr older) same = h.distinct id other d e old older same

pub sequences_by_one : (db : Database) (w : DocumentWrite) → HasSequences db → HasSequences (with_one db w)
sequences_by_one db w h =
    record {
      positive = λ id d is. positive_one db w id d h (new_or_old db w id d is);
      within = λ id d is. within_one db w id d h (new_or_old db w id d is);
      distinct = λ id other d e is was same. distinct_one db w id other d e h (new_or_old db w id d is) (new_or_old db w other e was) same;
    }

pub sequences_by_all : (ws : List DocumentWrite) (db : Database) → HasSequences db → HasSequences (with_all db ws)
sequences_by_all [] db h = h
sequences_by_all (w ∷ ws) db h = sequences_by_all ws (with_one db w) (sequences_by_one db w h)

no_document : (log : Log) (id : List ℕ) (d : Document) → finite.get (beginning log).documents id ≡ Some d → ⊥
no_document log id d h = let none = sym (finite.get-empty {X = Document} (slice_cmp nat_cmp) id) ∙ h in cc

pub sequences_of_content : (log : Log) (db : Database) → IsContentOf log db → HasSequences db
sequences_of_content log db h =
    subst HasSequences (one_content log (content_logged log) db (content_exists log) h)
    (sequences_by_all log.writes (beginning log)
    (record {
      positive = λ id d is. absurd (no_document log id d is);
      within = λ id d is. absurd (no_document log id d is);
      distinct = λ id other d e is was same. absurd (no_document log id d is);
    }))
