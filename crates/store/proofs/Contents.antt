-- The content that a list of writes makes, a write at a time.
use Rattle.std.proofs.Common.{◌≡◌, ℕ, ◌+◌, List, [], ◌∷◌, ◌++◌, Bool, true, false, cond, Option, Some, nat_cmp, refl, sym, ap, ◌∙◌, bytes_eq}
use Rattle.std.proofs.lemmas.Cmp.{nat_list_cmp_total}
use Rattle.std.proofs.lemmas.Map.Text.{is_eq-slice_cmp}
use Rattle.std.proofs.lemmas.Slice.Eq.{bytes_eq-Decides}
use Rattle.std.specs.Cmp.Lexicographic.{slice_cmp}
use Rattle.std.specs.Cmp.{eq_by_cmp_equiv}
use Rattle.std.specs.FinMap as map
use Rattle.couch_json.specs.Value.{Value}
use Rattle.tree.specs.History.{HistoryContent, with_write}
use Rattle.store.specs.declared.local_document.LocalDocument.{LocalDocument}
use Rattle.store.specs.Database.{TextMap, Database, DocumentWrite, Document, history_at, history_in, with_one, with_all, empty_database, is_write_of}
use Rattle.store.specs.Contents.{with_security}
use Rattle.store.specs.Plain.{content, history_after, with_addition}
use Rattle.store.specs.Writing.{Addition, addition_of, additions, written_at, written_in, writings_in}
use Rattle.store.specs.declared.plain.PlainDatabase.{PlainDatabase}
use Rattle.store.specs.declared.write.Write.{Write}

pub with_all-append : (db : Database) (ws vs : List DocumentWrite) → with_all db (ws ++ vs) ≡ with_all (with_all db ws) vs
with_all-append db [] vs = refl
with_all-append db (w ∷ ws) vs = with_all-append (with_one db w) ws vs

pub with_all-with_security : (db : Database) (security : Value) (ws : List DocumentWrite) → with_all (with_security db security) ws ≡ with_security (with_all db ws) security
with_all-with_security db security [] = refl
with_all-with_security db security (w ∷ ws) = with_all-with_security (with_one db w) security ws

-- ---- the document of an id after a write

pub document_after : (db : Database) (w : DocumentWrite) (id : List ℕ)
    → map.get (with_one db w).documents id ≡ cond (bytes_eq id w.id) (Some (record { sequence = db.length + 1; history = with_write (history_at db w.id) w.write })) (map.get db.documents id)
document_after db w id =
    map.get-insert nat_list_cmp_total db.documents w.id (record { sequence = db.length + 1; history = with_write (history_at db w.id) w.write }) id
    ∙ ap (λ b. cond b (Some (record { sequence = db.length + 1; history = with_write (history_at db w.id) w.write })) (map.get db.documents id)) (is_eq-slice_cmp id w.id)

pub bytes_eq_comm : (a b : List ℕ) → bytes_eq a b ≡ bytes_eq b a
bytes_eq_comm a b = sym (is_eq-slice_cmp a b) ∙ (eq_by_cmp_equiv nat_list_cmp_total).symm a b ∙ is_eq-slice_cmp b a

history_after-document : (b : Bool) (d : Document) (o : Option Document) → history_in (cond b (Some d) o) ≡ cond b d.history (history_in o)
history_after-document true d o = refl
history_after-document false d o = refl

of_id : (h : List ℕ → HistoryContent) (w : DocumentWrite) (id : List ℕ) (b : Bool) → bytes_eq id w.id ≡ b → cond b (with_write (h w.id) w.write) (h id) ≡ cond (is_write_of id w) (with_write (h id) w.write) (h id)
of_id h w id true is =
    let same : id ≡ w.id = (bytes_eq-Decides id w.id).0 is in
    let back : is_write_of id w ≡ true = (bytes_eq-Decides w.id id).1 (sym same) in
    rw back (ap (λ k. with_write (h k) w.write) (sym same))
of_id h w id false is = let back : is_write_of id w ≡ false = bytes_eq_comm w.id id ∙ is in rw back

pub history_at-with_one : (db : Database) (w : DocumentWrite) (id : List ℕ) → history_at (with_one db w) id ≡ cond (is_write_of id w) (with_write (history_at db id) w.write) (history_at db id)
history_at-with_one db w id =
    ap history_in (document_after db w id) ∙ history_after-document (bytes_eq id w.id) _ (map.get db.documents id) ∙ of_id (history_at db) w id (bytes_eq id w.id) refl

-- ---- writes of the code, each in the database that those before it left

pub writings_in-append : (db : Database) (all more : List Addition) → writings_in db (all ++ more) ≡ writings_in db all ++ writings_in (with_all db (writings_in db all)) more
writings_in-append db [] more = refl
writings_in-append db (a ∷ all) more = ap (λ ws. written_at db a ∷ ws) (writings_in-append (with_one db (written_at db a)) all more)

pub with_all-writings_in : (db : Database) (all more : List Addition) → with_all db (writings_in db (all ++ more)) ≡ with_all (with_all db (writings_in db all)) (writings_in (with_all db (writings_in db all)) more)
with_all-writings_in db all more =
    ap (with_all db) (writings_in-append db all more) ∙ with_all-append db (writings_in db all) (writings_in (with_all db (writings_in db all)) more)

-- a security object changes none of them
pub writings_in-with_security : (db : Database) (security : Value) (all : List Addition) → writings_in (with_security db security) all ≡ writings_in db all
writings_in-with_security db security [] = refl
writings_in-with_security db security (a ∷ all) = ap (λ ws. written_at db a ∷ ws) (writings_in-with_security (with_one db (written_at db a)) security all)

pub additions-append : (ws vs : List Write) → additions (ws ++ vs) ≡ additions ws ++ additions vs
additions-append [] vs = refl
additions-append (w ∷ ws) vs = ap (λ all. addition_of w ∷ all) (additions-append ws vs)

-- the history of a document is what its writes made of it
added_to : (h : List ℕ → HistoryContent) (a : Addition) (id : List ℕ) (b : Bool) → bytes_eq a.id id ≡ b → cond b (with_write (h id) (written_in (h a.id) a).write) (h id) ≡ cond b (with_addition (h id) a) (h id)
added_to h a id true is = ap (λ k. with_write (h id) (written_in (h k) a).write) ((bytes_eq-Decides a.id id).0 is)
added_to h a id false is = refl

history_at-with_one-addition : (db : Database) (a : Addition) (id : List ℕ) → history_at (with_one db (written_at db a)) id ≡ cond (bytes_eq a.id id) (with_addition (history_at db id) a) (history_at db id)
history_at-with_one-addition db a id = history_at-with_one db (written_at db a) id ∙ added_to (history_at db) a id (bytes_eq a.id id) refl

pub history_at-with_all : (all : List Addition) (db : Database) (id : List ℕ) → history_at (with_all db (writings_in db all)) id ≡ history_after (history_at db id) id all
history_at-with_all [] db id = refl
history_at-with_all (a ∷ all) db id = history_at-with_all all (with_one db (written_at db a)) id ∙ ap (λ h. history_after h id all) (history_at-with_one-addition db a id)

pub history_at-empty_database : (security : Value) (id : List ℕ) → history_at (empty_database security) id ≡ map.empty
history_at-empty_database security id = ap history_in (map.get-empty (slice_cmp nat_cmp) id)

pub security-with_all : (db : Database) (ws : List DocumentWrite) → (with_all db ws).security ≡ db.security
security-with_all db [] = refl
security-with_all db (w ∷ ws) = security-with_all (with_one db w) ws

-- a plain database with another security object
pub content-with_security : (security other : Value) (all : List Addition)
    → with_all (empty_database other) (writings_in (empty_database other) all) ≡ with_security (with_all (empty_database security) (writings_in (empty_database security) all)) other
content-with_security security other all =
    ap (with_all (empty_database other)) (writings_in-with_security (empty_database security) other all) ∙ with_all-with_security (empty_database security) other (writings_in (empty_database security) all)

-- a database with other local documents
abbrev pub with_locals : Database → TextMap LocalDocument → Database
with_locals db locals = record db { locals = locals }

pub with_all-with_locals : (db : Database) (locals : TextMap LocalDocument) (all : List Addition)
    → with_all (with_locals db locals) (writings_in (with_locals db locals) all) ≡ with_locals (with_all db (writings_in db all)) locals
with_all-with_locals db locals [] = refl
with_all-with_locals db locals (a ∷ all) = with_all-with_locals (with_one db (written_at db a)) locals all

-- a plain database's security object and histories
pub security-content : (d : PlainDatabase) → (content d).security ≡ d.security
security-content d = security-with_all (empty_database d.security) (writings_in (empty_database d.security) (additions d.writes.items))

pub history_at-content : (d : PlainDatabase) (id : List ℕ) → history_at (content d) id ≡ history_after map.empty id (additions d.writes.items)
history_at-content d id =
    history_at-with_all (additions d.writes.items) (empty_database d.security) id ∙ ap (λ h. history_after h id (additions d.writes.items)) (history_at-empty_database d.security id)
