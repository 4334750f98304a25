-- A database's sequence stays that of its last document, whatever is written.
use Rattle.std.proofs.Common.{◌≡◌, ◌⊎◌, ℕ, ◌+◌, List, [], ◌∷◌, cond, Some, refl, sym, ap, ◌∙◌, inl, inr, bytes_eq}
use Rattle.std.proofs.lemmas.Slice.Eq.{bytes_eq-Decides}
use Rattle.std.specs.FinMap as map
use Rattle.couch_json.specs.Value.{Value}
use Rattle.tree.specs.History.{with_write}
use Rattle.store.specs.Contents.{with_local, with_security}
use Rattle.store.specs.Database.{Database, Document, DocumentWrite, empty_database, history_at, with_all, with_one}
use Rattle.store.specs.Lawful.{EndsAtLast, HasLast}
use Rattle.store.specs.declared.local_document.LocalDocument.{LocalDocument}
use Rattle.store.proofs.Contents.{document_after}

pub ends_empty : (security : Value) → EndsAtLast (empty_database security)
ends_empty security = inl refl

pub last_by_one : (db : Database) (w : DocumentWrite) → HasLast (with_one db w)
last_by_one db w =
    let d : Document = record { sequence = db.length + 1; history = with_write (history_at db w.id) w.write } in
    record { id = w.id; document = d; there = document_after db w w.id ∙ ap (λ b. cond b (Some d) (map.get db.documents w.id)) ((bytes_eq-Decides w.id w.id).1 refl); sequence = refl }

pub ends_by_all : (ws : List DocumentWrite) (db : Database) → EndsAtLast db → EndsAtLast (with_all db ws)
ends_by_all [] db h = h
ends_by_all (w ∷ ws) db h = ends_by_all ws (with_one db w) (inr (last_by_one db w))

same_documents : (a b : Database) → a.length ≡ b.length → a.documents ≡ b.documents → EndsAtLast a → EndsAtLast b
same_documents a b length documents (inl none) = inl (sym length ∙ none)
same_documents a b length documents (inr h) =
    inr (record { id = h.id; document = h.document; there = ap (λ ds. map.get ds h.id) (sym documents) ∙ h.there; sequence = h.sequence ∙ length })

pub ends_secured : (db : Database) (security : Value) → EndsAtLast db → EndsAtLast (with_security db security)
ends_secured db security = same_documents db (with_security db security) refl refl

pub ends_local : (db : Database) (id : List ℕ) (document : LocalDocument) → EndsAtLast db → EndsAtLast (with_local db id document)
ends_local db id document = same_documents db (with_local db id document) refl refl
