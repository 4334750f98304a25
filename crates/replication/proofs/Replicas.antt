-- Writes that come from a database, appended to another one that agrees with it.
use Rattle.std.proofs.Common.{◌≡◌, ◌≤◌, ◌⊎◌, ⊎_elim, ℕ, Bool, true, false, cond, List, [], ◌∷◌, Option, Some, None, refl, sym, ap, ◌∙◌, subst, inl, inr}
use Rattle.std.specs.Prelude.{is_some, option_and_then}
use Rattle.std.specs.Ordering.{nat_cmp}
use Rattle.std.specs.Cmp.Lexicographic.{slice_cmp}
use Rattle.std.specs.List.{AllByRecursion}
use Rattle.std.specs.FinMap.{empty, get, get-empty}
use Rattle.std.proofs.lemmas.Slice.Eq.{bytes_eq-Decides}
use Rattle.tree.specs.History.{HistoryContent, IsRooted, chain, content_of, held_of, is_known, with_write}
use Rattle.tree.specs.Revision.{Revision, revision_cmp}
use Rattle.tree.specs.Write.{AreLawfulWrites as AreWritten, Write}
use Rattle.tree.specs.declared.entry.Entry.{Entry}
use Rattle.tree.specs.declared.entry.Held.{Held}
use Rattle.tree.proofs.Contents.{entry_kept}
use Rattle.tree.proofs.LawfulContents.{rooted}
use Rattle.store.specs.Contents.{AreAcceptable, IsAcceptable}
use Rattle.store.specs.Database.{Database, Document, DocumentWrite, IsKnownAt, TextMap, history_at, history_in, is_write_of, with_all, with_one}
use Rattle.store.specs.Lawful.{IsBody, IsLawfulDatabase}
use Rattle.store.specs.declared.local_document.LocalDocument.{LocalDocument}
use Rattle.store.proofs.Contents.{history_at-with_one}
use Rattle.store.proofs.Lawfuls.{held_body, lawful_by_one, writes_behind}
use Rattle.replication.specs.Agreement.{Agrees}
use Rattle.replication.specs.Appended.{ComesFrom, IsReplica, KeepsDocuments}
use Rattle.replication.specs.Converged.{NewRevisionsKeepAgreement, WritesKeepOthersAgreement}
use Rattle.replication.specs.Sound.{Agree, IsSound}
use Rattle.replication.proofs.Writings.{IsCopied, Keeps, agrees_on, held_from, kept_known, kept_parent, known_from}

-- ---- sound databases

-- the database without its local documents
abbrev pub bare : Database → Database
bare db = record db { locals = empty }

no_locals : (db : Database) → IsSound db → IsLawfulDatabase (bare db)
no_locals db s = record {
  documents = s.documents;
  apart = s.apart;
  sequences = record { positive = s.sequences.positive; within = s.sequences.within; distinct = s.sequences.distinct };
  locals = λ id d is. absurd (let none = sym (get-empty {X = LocalDocument} (slice_cmp nat_cmp) id) ∙ is in cc);
}

-- the lawful writes behind the history of an id
pub past_at : (db : Database) → IsSound db → (id : List ℕ) → (ws : List Write) × AreWritten ws × (history_at db id ≡ content_of ws)
past_at db s id = writes_behind (bare db) id (no_locals db s)

pub rooted_at : (db : Database) → IsSound db → (id : List ℕ) → IsRooted (history_at db id)
rooted_at db s id = let past = past_at db s id in subst IsRooted (sym past.2) (rooted past.0 past.1)

-- what is held has the body of a document
pub body_at : (db : Database) → IsSound db → (id : List ℕ) (r : Revision) (d : Held) → held_of (history_at db id) r ≡ Some d → IsBody d.body
body_at db s id r d e = by (get db.documents id) refl e
  where
    by : (o : Option Document) → get db.documents id ≡ o → held_of (history_in o) r ≡ Some d → IsBody d.body
    by None is k = absurd (let none : get empty r ≡ None = get-empty {X = Entry} revision_cmp r in let z : None ≡ Some d = ap (option_and_then (λ (e : Entry). e.held)) (sym none) ∙ k in cc)
    by (Some x) is k = held_body x.history r d (s.documents id x is) k

-- ---- the histories after a write

pub after_write : (P : HistoryContent → Type 0) (db : Database) (w : DocumentWrite) (id : List ℕ) → P (history_at db id) → (w.id ≡ id → P (with_write (history_at db id) w.write)) → P (history_at (with_one db w) id)
after_write P db w id old new = subst P (sym (history_at-with_one db w id)) (by (is_write_of id w) refl)
  where
    by : (b : Bool) → is_write_of id w ≡ b → P (cond b (with_write (history_at db id) w.write) (history_at db id))
    by true is = new ((bytes_eq-Decides w.id id).0 is)
    by false is = old

copied_at : (source : Database) (w : DocumentWrite) (c : ComesFrom source w) (id : List ℕ) → w.id ≡ id → IsCopied (history_at source id) c.rev w.write
copied_at source w c id same = record {
  path = ap (λ (i : List ℕ). chain (history_at source i) c.rev) (sym same) ∙ c.path;
  held = ap (λ (i : List ℕ). held_of (history_at source i) c.rev) (sym same) ∙ c.held;
}

one_agrees : (source target : Database) (w : DocumentWrite) → IsSound source → Agree source target → ComesFrom source w → Agree source (with_one target w)
one_agrees source target w sound agree c id =
    after_write (λ h. Agrees (history_at source id) h) target w id (agree id)
    (λ same. agrees_on (history_at source id) (history_at target id) c.rev w.write (rooted_at source sound id) (copied_at source w c id same) (agree id))

one_known : (source target : Database) (w : DocumentWrite) → IsSound source → ComesFrom source w → (id : List ℕ) (r : Revision) → IsKnownAt (with_one target w) id r → IsKnownAt target id r ⊎ IsKnownAt source id r
one_known source target w sound c id r =
    after_write (λ h. is_known h r ≡ true → IsKnownAt target id r ⊎ IsKnownAt source id r) target w id (λ known. inl known)
    (λ same known. known_from (history_at source id) (history_at target id) c.rev w.write (rooted_at source sound id) (copied_at source w c id same) r known)

one_held : (source target : Database) (w : DocumentWrite) → IsSound source → ComesFrom source w → (id : List ℕ) (r : Revision) (d : Held) → held_of (history_at (with_one target w) id) r ≡ Some d
    → (held_of (history_at target id) r ≡ Some d) ⊎ (held_of (history_at source id) r ≡ Some d)
one_held source target w sound c id r d =
    after_write (λ h. held_of h r ≡ Some d → (held_of (history_at target id) r ≡ Some d) ⊎ (held_of (history_at source id) r ≡ Some d)) target w id (λ e. inl e)
    (λ same e. held_from (history_at source id) (history_at target id) c.rev w.write (rooted_at source sound id) (copied_at source w c id same) r d e)

one_sound : (source target : Database) (w : DocumentWrite) → IsSound source → IsSound target → ComesFrom source w → IsAcceptable target w → IsSound (with_one target w)
one_sound source target w from s c ok =
    let lawful : IsLawfulDatabase (with_one (bare target) w) = lawful_by_one (bare target) w (no_locals target s) (record { apart = ok.apart; placed = ok.placed; body = ok.body; shallow = ok.shallow; plain = ok.plain }) in
    record {
      documents = lawful.documents;
      apart = lawful.apart;
      sequences = record { positive = lawful.sequences.positive; within = lawful.sequences.within; distinct = lawful.sequences.distinct };
      writable = λ id r known. ⊎_elim (λ k. s.writable id r k) (λ k. from.writable id r k) (one_known source target w from c id r known);
    }

known_still : (source a b c : Database) → ((id : List ℕ) (r : Revision) → IsKnownAt b id r → IsKnownAt a id r ⊎ IsKnownAt source id r)
    → ((id : List ℕ) (r : Revision) → IsKnownAt c id r → IsKnownAt b id r ⊎ IsKnownAt source id r) → (id : List ℕ) (r : Revision) → IsKnownAt c id r → IsKnownAt a id r ⊎ IsKnownAt source id r
known_still source a b c first then id r known = ⊎_elim (λ k. first id r k) (λ k. inr k) (then id r known)

pub keep_agreement : (source target : Database) (ws : List DocumentWrite) → IsSound source → IsSound target → Agree source target → AllByRecursion (ComesFrom source) ws
    → AreAcceptable target ws → IsReplica source target (with_all target ws)
keep_agreement source target [] from s agree come ok = record { sound = s; agree = agree; known = λ id r known. inl known }
keep_agreement source target (w ∷ ws) from s agree come ok =
    let next = with_one target w in
    let rest = keep_agreement source next ws from (one_sound source target w from s come.0 ok.0) (one_agrees source target w from agree come.0) come.1 ok.1 in
    record {
      sound = rest.sound;
      agree = rest.agree;
      known = known_still source target next (with_all next ws) (one_known source target w from come.0) rest.known;
    }

-- ---- a database that keeps what another knows

abbrev pub KeepsAll : Database → Database → Type 0
KeepsAll old new = (id : List ℕ) → Keeps (history_at old id) (history_at new id)

pub keeps_still : (a b c : Database) → KeepsAll a b → KeepsAll b c → KeepsAll a c
keeps_still a b c h g id r known = g id r (kept_known (history_at a id) (history_at b id) (h id) r known) ∙ h id r known

one_keeps : (db : Database) (w : DocumentWrite) → KeepsAll db (with_one db w)
one_keeps db w id = after_write (λ h. Keeps (history_at db id) h) db w id (λ r known. refl) (λ same r known. entry_kept (history_at db id) w.write r known)

pub all_keep : (ws : List DocumentWrite) (db : Database) → KeepsAll db (with_all db ws)
all_keep [] db = λ id r known. refl
all_keep (w ∷ ws) db = keeps_still db (with_one db w) (with_all (with_one db w) ws) (one_keeps db w) (all_keep ws (with_one db w))

-- ---- a database with the same documents

pub same_history : (old new : Database) → KeepsDocuments old new → (id : List ℕ) → history_at new id ≡ history_at old id
same_history old new k id = ap (λ (ds : TextMap Document). history_in (get ds id)) k.documents

pub same_keeps : (old new : Database) → KeepsDocuments old new → KeepsAll old new
same_keeps old new k id r known = ap (λ (h : HistoryContent). get h r) (same_history old new k id)

pub same_sound : (old new : Database) → KeepsDocuments old new → IsSound old → IsSound new
same_sound old new k s = record {
  documents = λ id d is. s.documents id d (back id d is);
  apart = λ id d is. s.apart id d (back id d is);
  sequences = record {
    positive = λ id d is. s.sequences.positive id d (back id d is);
    within = λ id d is. subst (λ (n : ℕ). d.sequence ≤ n) (sym k.length) (s.sequences.within id d (back id d is));
    distinct = λ id other d e is was same. s.sequences.distinct id other d e (back id d is) (back other e was) same;
  };
  writable = λ id r known. s.writable id r (ap (λ (h : HistoryContent). is_known h r) (sym (same_history old new k id)) ∙ known);
}
  where
    back : (id : List ℕ) (d : Document) → get new.documents id ≡ Some d → get old.documents id ≡ Some d
    back id d is = ap (λ (ds : TextMap Document). get ds id) (sym k.documents) ∙ is

pub same_agree : (a b c d : Database) → KeepsDocuments a c → KeepsDocuments b d → Agree a b → Agree c d
same_agree a b c d k l agree id =
    subst (λ (h : HistoryContent). Agrees h (history_at d id)) (sym (same_history a c k id))
    (subst (λ (h : HistoryContent). Agrees (history_at a id) h) (sym (same_history b d l id)) (agree id))

-- ---- a third database

-- a write that comes from a database that agrees with a third one keeps the target's agreement with that
one_third : (source target third : Database) (w : DocumentWrite) → IsSound source → Agree source target → Agree source third → Agree target third → ComesFrom source w → Agree (with_one target w) third
one_third source target third w from agree one other c id =
    let new = history_at (with_one target w) id in
    record {
      parents = λ r known there.
          ⊎_elim
          (λ old. kept_parent (history_at target id) new (one_keeps target w id) r old ∙ (other id).parents r old there)
          (λ came. sym ((one_agrees source target w from agree c id).parents r came known) ∙ (one id).parents r came there)
          (one_known source target w from c id r known);
      held = λ r d e is there. ⊎_elim (λ old. (other id).held r d e old there) (λ came. (one id).held r d e came there) (one_held source target w from c id r d is);
    }

pub third_agrees : WritesKeepOthersAgreement
third_agrees source target third [] from s agree one other come ok = other
third_agrees source target third (w ∷ ws) from s agree one other come ok =
    third_agrees source (with_one target w) third ws from (one_sound source target w from s come.0 ok.0) (one_agrees source target w from agree come.0) one
    (one_third source target third w from agree one other come.0) come.1 ok.1

-- ---- revisions that the other one doesn't know

held_is_known : (o : Option Entry) (d : Held) → option_and_then (λ (e : Entry). e.held) o ≡ Some d → is_some o ≡ true
held_is_known None d e = absurd cc
held_is_known (Some x) d e = refl

pub new_agree : NewRevisionsKeepAgreement
new_agree old third ws agree fresh id =
    let new = with_all old ws in
    let keeps = all_keep ws old id in
    record {
      parents = λ r known there.
          let was = fresh id r known there in
          kept_parent (history_at old id) (history_at new id) keeps r was ∙ (agree id).parents r was there;
      held = λ r d e is there.
          let was = fresh id r (held_is_known (get (history_at new id) r) d is) (held_is_known (get (history_at third id) r) e there) in
          (agree id).held r d e (ap (λ (o : Option Entry). option_and_then (λ (x : Entry). x.held) o) (sym (keeps r was)) ∙ is) there;
    }
