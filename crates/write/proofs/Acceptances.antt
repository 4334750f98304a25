-- A write that is admitted may be appended.
use Rattle.std.proofs.Common.{◌≡◌, ◌==◌, ℕ, Bool, true, false, not, ◌&&◌, cond, List, [], ◌∷◌, Option, Some, None, option_map, option_and_then, Result, Ok, Err, refl, ap, ◌∙◌, subst, sym}
use Rattle.couch_json.specs.Value.{Value}
use Rattle.std.specs.Cmp.{first_so}
use Rattle.std.specs.Prelude.{codes}
use Rattle.tree.specs.DocumentId.{is_design_id, is_document_id, is_local_id}
use Rattle.tree.specs.Revision.{Revision, greatest_number}
use Rattle.tree.specs.NextRevision.{next_revision, number_before}
use Rattle.tree.specs.Write.{Write, AreLawfulWrites as AreWritten}
use Rattle.tree.specs.History.{HistoryContent, ancestors_of_parent, content_of, is_known, placement, winner}
use Rattle.tree.specs.declared.placement.Placed.{Placed}
use Rattle.tree.specs.declared.placement.Placed.TheVariants.{Added, Known}
use Rattle.tree.specs.declared.placement.TreeFault.{TreeFault}
use Rattle.store.specs.Contents.{AreAcceptable, Contents, IsAcceptable}
use Rattle.store.specs.Lawful.{AreLawful, IsBody, IsLawfulDatabase}
use Rattle.store.specs.SpecialMembers.{is_plain}
use Rattle.store.specs.Database.{Database, DocumentWrite, history_at, with_one}
use Rattle.store.proofs.Contents.{history_at-with_one}
use Rattle.store.proofs.DesignIds.{behind}
use Rattle.store.proofs.Lawfuls.{lawful_by_one, writes_behind}
use Rattle.write.specs.Admission.{admission, edit_outcome, given, named_revision, replication, revision_after, with_named_revision}
use Rattle.write.specs.Bulk.{DocumentOutcome, after, as_outcome, document_outcome, outcome_in, outcomes, put_before, writes_in}
use Rattle.write.specs.Document.{id_in, id_in_bulk, member_text, sent_in}
use Rattle.write.specs.IndexWrites.{index_admission, index_document}
use Rattle.write.specs.Terms.{Terms}
use Rattle.write.specs.declared.document.ParsedDocument.{ParsedDocument}
use Rattle.write.specs.declared.fault.WriteFault.TheVariants.{BadDocument}
use Rattle.write.proofs.Bodies.{sent_in-Some}
use Rattle.write.proofs.Fitting.{edit_placed}
use Rattle.write.proofs.Names.{as_outcome-Some, index_by_edit}
use Rattle.write.proofs.Outcomes.{IsEdit, IsReplicated, edit_accepted, replicated_accepted}
use Rattle.std.specs.FinMap.{get}
use Rattle.std.proofs.Math.Logic.{∥∥₁_elim, ∥∥₁_map}
use Rattle.std.proofs.Math.Bridge.{le_prop}
use Rattle.std.proofs.lemmas.Grind.{not_there}
use Rattle.couch_json.specs.Parts.{is_object}

-- the write fits a history of its document
pub record Fits (id : List ℕ) (h : HistoryContent) (w : DocumentWrite) : Type 0 where
  pub named : w.id ≡ id
  pub placed : placement h w.write.path ≡ Ok Added
  pub body : IsBody w.write.body

-- the history is what a lawful list of writes made
pub record IsMade (h : HistoryContent) : Type 0 where
  pub writes : List Write
  pub lawful : AreWritten writes
  pub is : h ≡ content_of writes

pub made_at : (db : Database) (id : List ℕ) → IsLawfulDatabase db → IsMade (history_at db id)
made_at db id lawful = let past = writes_behind db id lawful in record { writes = past.0; lawful = past.1; is = past.2 }

-- ---- edits

next_of : (sent : ParsedDocument) (parent : Option Revision) (r : Revision) → revision_after sent parent ≡ Some r → r ≡ next_revision parent sent.deleted sent.body
next_of sent parent r e = by (number_before parent == greatest_number) e
  where
    by : (last : Bool) → cond last None (Some (next_revision parent sent.deleted sent.body)) ≡ Some r → r ≡ next_revision parent sent.deleted sent.body
    by true k = absurd cc
    by false k = cc

is_same : (s t : ParsedDocument) → Some s ≡ Some t → t ≡ s
is_same s t e = cc

renamed_body : (names : Option (Option Revision)) (sent s : ParsedDocument) → option_map (λ rev. record sent { rev = rev }) names ≡ Some s → s.body ≡ sent.body
renamed_body None sent s e = absurd cc
renamed_body (Some rev) sent s e = ap (λ (t : ParsedDocument). t.body) (is_same (record sent { rev = rev }) s e)

edit_body : (query : Option Revision) (sent : Option ParsedDocument) (s : ParsedDocument) → ((t : ParsedDocument) → sent ≡ Some t → IsBody t.body)
    → option_and_then (λ t. with_named_revision query t) sent ≡ Some s → IsBody s.body
edit_body query None s are_bodies e = absurd cc
edit_body query (Some t) s are_bodies e = rw (renamed_body (named_revision query t.rev) t s e) (are_bodies t refl)

edit_fits : (terms : Terms) (id : List ℕ) (h : HistoryContent) (query : Option Revision) (document : Value) (v : DocumentWrite) → IsMade h → IsEdit terms id h query document v → Fits id h v
edit_fits terms id h query document v made k =
    let next : k.rev ≡ next_revision k.parent k.sent.deleted k.sent.body = next_of k.sent k.parent k.rev k.makes in
    let placed : placement h (k.rev ∷ ancestors_of_parent h k.parent) ≡ Ok Added =
    ap (λ r. placement h (r ∷ ancestors_of_parent h k.parent)) next
    ∙ edit_placed made.writes h k.sent.rev k.parent k.sent.deleted k.sent.body made.lawful made.is k.follows (ap (is_known h) (sym next) ∙ k.unknown) in
    subst (Fits id h) (sym k.is)
    (record { named = refl; placed = placed; body = edit_body query (sent_in id document) k.sent (sent_in-Some id document) k.says })

-- ---- replicated writes

replicated_fits : (terms : Terms) (id : List ℕ) (h : HistoryContent) (document : Value) (v : DocumentWrite) → IsReplicated terms id h document (Some v) → Fits id h v
replicated_fits terms id h document v k =
    subst (Fits id h) (sym k.taken.1) (record { named = refl; placed = k.taken.0; body = sent_in-Some id document k.sent k.says })

-- ---- several documents

judged_fits : (terms : Terms) (new_edits : Bool) (id : List ℕ) (h : HistoryContent) (document : Value) (v : DocumentWrite)
    → IsMade h → document_outcome terms new_edits id h document ≡ Ok (Some v) → Fits id h v
judged_fits terms true id h document v made e =
    edit_fits terms id h None document v made (edit_accepted terms id h None document v (as_outcome-Some (edit_outcome terms id h None document) v e))
judged_fits terms false id h document v made e = replicated_fits terms id h document v (replicated_accepted terms id h document (Some v) e)

acceptable : (db : Database) (id : List ℕ) (w : DocumentWrite) → is_local_id id ≡ false → Fits id (history_at db id) w → IsAcceptable db w
acceptable db id w apart f = record { apart = ap is_local_id f.named ∙ apart; placed = ap (λ k. placement (history_at db k) w.write.path) f.named ∙ f.placed; body = f.body.object; shallow = f.body.shallow; plain = f.body.plain }

pub edit_acceptable : (terms : Terms) (db : Database) (id : List ℕ) (query : Option Revision) (document : Value) (w : DocumentWrite)
    → IsLawfulDatabase db → is_local_id id ≡ false → admission terms db id query document ≡ Ok w → IsAcceptable db w
edit_acceptable terms db id query document w lawful apart e =
    acceptable db id w apart (edit_fits terms id (history_at db id) query document w (made_at db id lawful) (edit_accepted terms id (history_at db id) query document w e))

pub replicated_acceptable : (terms : Terms) (db : Database) (id : List ℕ) (document : Value) (w : DocumentWrite) → is_local_id id ≡ false → replication terms db id document ≡ Ok (Some w) → IsAcceptable db w
replicated_acceptable terms db id document w apart e =
    acceptable db id w apart (replicated_fits terms id (history_at db id) document w (replicated_accepted terms id (history_at db id) document (Some w) e))

by_id-acceptable : (terms : Terms) (new_edits : Bool) (db : Database) (document : Value) (id : Option (List ℕ)) (w : DocumentWrite)
    → IsLawfulDatabase db → ((k : List ℕ) → id ≡ Some k → is_local_id k ≡ false) → given BadDocument id (λ k. document_outcome terms new_edits k (history_at db k) document) ≡ Ok (Some w) → IsAcceptable db w
by_id-acceptable terms new_edits db document None w lawful apart e = absurd cc
by_id-acceptable terms new_edits db document (Some id) w lawful apart e =
    acceptable db id w (apart id refl) (judged_fits terms new_edits id (history_at db id) document w (made_at db id lawful) e)

-- ---- ids that are no local ones

-- that of a design document
pub design_apart : (id : List ℕ) → is_design_id id ≡ true → is_local_id id ≡ false
design_apart id design = ap is_local_id (behind (codes "_design/") id (first_so _ _ design)).1

-- that of a document of a bulk
in_bulk : (text id : List ℕ) (document local : Bool) → local ≡ is_local_id text → cond (document && not local) (Some text) None ≡ Some id → is_local_id id ≡ false
in_bulk text id true true is e = absurd cc
in_bulk text id true false is e = let same : text ≡ id = cc in ap is_local_id (sym same) ∙ sym is
in_bulk text id false local is e = absurd cc

bulk_apart : (document : Value) (id : List ℕ) → id_in document ≡ Some id → is_local_id id ≡ false
bulk_apart document id e = by (member_text (codes "_id") document) e
  where
    by : (o : Option (List ℕ)) → option_and_then (λ t. id_in_bulk t) o ≡ Some id → is_local_id id ≡ false
    by None k = absurd cc
    by (Some text) k = in_bulk text id (is_document_id text) (is_local_id text) refl k

-- ---- outcomes in turn

-- the database after an outcome
abbrev pub db_after : Database → DocumentOutcome → Database
db_after db (Ok (Some w)) = with_one db w
db_after db (Ok None) = db
db_after db (Err fault) = db

pub after_is : (db : Database) (o : DocumentOutcome) → after (history_at db) o ≡ history_at (db_after db o)
after_is db (Ok (Some w)) = λ i id. sym (history_at-with_one db w id) i
after_is db (Ok None) = refl
after_is db (Err fault) = refl

-- what one outcome brings may be appended, and so may what follows it
before_acceptable : (db : Database) (o : DocumentOutcome) (ws : List DocumentWrite) → IsLawfulDatabase db → ((w : DocumentWrite) → o ≡ Ok (Some w) → IsAcceptable db w)
    → (IsLawfulDatabase (db_after db o) → AreAcceptable (db_after db o) ws) → AreAcceptable db (put_before o ws)
before_acceptable db (Ok (Some w)) ws lawful one rest = (one w refl, rest (lawful_by_one db w lawful (one w refl)))
before_acceptable db (Ok None) ws lawful one rest = rest lawful
before_acceptable db (Err fault) ws lawful one rest = rest lawful

pub all_acceptable : (terms : Terms) (new_edits : Bool) (db : Database) (documents : List Value) → IsLawfulDatabase db → AreAcceptable db (writes_in (outcomes terms new_edits (history_at db) documents))
all_acceptable terms new_edits db [] lawful = tt
all_acceptable terms new_edits db (v ∷ vs) lawful =
    let o : DocumentOutcome = outcome_in terms new_edits (history_at db) v in
    before_acceptable db o (writes_in (outcomes terms new_edits (after (history_at db) o) vs)) lawful
    (λ w e. by_id-acceptable terms new_edits db v (id_in v) w lawful (bulk_apart v) e)
    (λ next. subst (λ hs. AreAcceptable (db_after db o) (writes_in (outcomes terms new_edits hs vs))) (sym (after_is db o)) (all_acceptable terms new_edits (db_after db o) vs next))

-- one document alone
pub alone_acceptable : (db : Database) (o : DocumentOutcome) → ((w : DocumentWrite) → o ≡ Ok (Some w) → IsAcceptable db w) → AreAcceptable db (writes_in (o ∷ []))
alone_acceptable db (Ok (Some w)) one = (one w refl, tt)
alone_acceptable db (Ok None) one = tt
alone_acceptable db (Err fault) one = tt

pub edit_alone_acceptable : (terms : Terms) (db : Database) (id : List ℕ) (query : Option Revision) (document : Value) → IsLawfulDatabase db → is_local_id id ≡ false
    → AreAcceptable db (writes_in (as_outcome (admission terms db id query document) ∷ []))
edit_alone_acceptable terms db id query document lawful apart =
    alone_acceptable db (as_outcome (admission terms db id query document)) (λ w e. edit_acceptable terms db id query document w lawful apart (as_outcome-Some (admission terms db id query document) w e))

pub replicated_alone_acceptable : (terms : Terms) (db : Database) (id : List ℕ) (document : Value) → is_local_id id ≡ false → AreAcceptable db (writes_in (replication terms db id document ∷ []))
replicated_alone_acceptable terms db id document apart = alone_acceptable db (replication terms db id document) (λ w e. replicated_acceptable terms db id document w apart e)

pub index_alone_acceptable : (terms : Terms) (db : Database) (id : List ℕ) (name : List ℕ) (fields : List (List ℕ)) → IsLawfulDatabase db → is_design_id id ≡ true
    → AreAcceptable db (writes_in (index_admission terms db id name fields ∷ []))
index_alone_acceptable terms db id name fields lawful design =
    alone_acceptable db (index_admission terms db id name fields)
    (λ w e. edit_acceptable terms db id (winner (history_at db id)) (index_document (history_at db id) name fields) w lawful (design_apart id design) (index_by_edit terms id (history_at db id) name fields w e))

-- ---- what is said of the contents of a store

-- what is merely known of a write that may be appended is known
added : (placed : Result Placed TreeFault) → ¬ (¬ (placed ≡ Ok Added)) → placed ≡ Ok Added
added (Ok Added) sure = refl
added (Ok Known) sure = absurd (sure (λ e. cc))
added (Err fault) sure = absurd (sure (λ e. cc))

tested : (b : Bool) → ¬ (¬ (b ≡ true)) → b ≡ true
tested true sure = refl
tested false sure = absurd (sure (λ e. cc))

untested : (b : Bool) → ¬ (¬ (b ≡ false)) → b ≡ false
untested true sure = absurd (sure (λ e. cc))
untested false sure = refl

sure_acceptable : (db : Database) (w : DocumentWrite) → ∥ IsAcceptable db w ∥₁ → IsAcceptable db w
sure_acceptable db w known =
    record {
      apart = untested (is_local_id w.id) (λ no. not_there known (λ a. no a.apart));
      placed = added (placement (history_at db w.id) w.write.path) (λ no. not_there known (λ a. no a.placed));
      body = tested (is_object w.write.body) (λ no. not_there known (λ a. no a.body));
      shallow = ∥∥₁_elim known le_prop (λ a. a.shallow);
      plain = tested (is_plain w.write.body) (λ no. not_there known (λ a. no a.plain));
    }

sure_all : (db : Database) (ws : List DocumentWrite) → ∥ AreAcceptable db ws ∥₁ → AreAcceptable db ws
sure_all db [] known = tt
sure_all db (w ∷ ws) known = (sure_acceptable db w (∥∥₁_map known (λ all. all.0)), sure_all (with_one db w) ws (∥∥₁_map known (λ all. all.1)))

-- what lawful databases accept may be appended
pub acceptable_in : (contents : Contents) (name : List ℕ) (db : Database) (ws : List DocumentWrite) → ∥ AreLawful contents ∥₁ → get contents name ≡ Some db
    → (IsLawfulDatabase db → AreAcceptable db ws) → AreAcceptable db ws
acceptable_in contents name db ws lawful there follows = sure_all db ws (∥∥₁_map lawful (λ are. follows (are name db there)))
