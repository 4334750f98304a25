-- What is planned for a database has the effect that the definition says.
use Rattle.std.proofs.Common.{◌≡◌, ℕ, Bool, true, is_some, List, [], ◌∷◌, Option, Some, None, Result, Ok, Err, ap, subst, sym, ◌∙◌, map}
use Rattle.auth.specs.Callers.{Identity}
use Rattle.couch_json.specs.Value.{Value, null, object}
use Rattle.store.specs.Contents.{IfThere}
use Rattle.store.specs.Database.{Database, DocumentWrite, history_at}
use Rattle.store.specs.Writing.{additions, writings_in}
use Rattle.tree.specs.Revision.{Revision}
use Rattle.write.specs.Bulk.{DocumentOutcome, Told, all_told, as_outcome, outcome_of_revision, outcome_told, outcomes, put_before, result_told, writes_alone}
use Rattle.write.specs.BulkResults.{IsUnrefused, OfFirst, told_of}
use Rattle.write.specs.Planning.{AreWrites, Plans, planned_writes}
use Rattle.write.specs.Admission.{new_revision}
use Rattle.write.specs.Terms.{terms_in}
use Rattle.write.specs.declared.fault.WriteFault.{WriteFault}
use Rattle.write.specs.declared.planned.Changes.{Changes}
use Rattle.write.specs.declared.planned.Changes.TheVariants.{Local, Writes, Security}
use Rattle.write.specs.declared.planned.DocumentResult.{DocumentResult}
use Rattle.write.specs.declared.planned.Outcome.{Outcome}
use Rattle.write.specs.declared.planned.Outcome.TheVariants.{Made}
use Rattle.write.specs.declared.planned.Planned.{Planned}
use Rattle.node.specs.inner.Drafts.{effect_of, says_made}
use Rattle.api.specs.Bulk.{Bulk}
use Rattle.node.specs.Bulk.{bulk_reply, edit_members, made_members}
use Rattle.node.specs.Work.{appended}
use Rattle.node.specs.Works.{bulk_written, edit_done, index_done, index_reply}

-- what holds where there is a database holds of it
pub of_there : (o : Option Database) (db : Database) (fact : Database → Type 0) → o ≡ Some db → IfThere o fact → fact db
of_there None db fact e h = absurd cc
of_there (Some d) db fact e h = subst (λ (x : Database). fact x) (let same : d ≡ db = cc in same) h

-- ---- an edit

first_told : (items : List DocumentResult) (t : Told) (rev : Revision) → map told_of items ≡ t ∷ [] → OfFirst (λ o. o ≡ Made rev) items → t.outcome ≡ Made rev
first_told [] t rev e h = absurd h
first_told (r ∷ rs) t rev e h = let same : told_of r ≡ t = cc in ap (λ (x : Told). x.outcome) (sym same) ∙ h

effect_alone : (changes : Changes) (db : Database) (w : DocumentWrite) → writes_alone (Ok (Some w)) ≡ Ok (planned_writes db changes) → appended (w ∷ []) ≡ effect_of changes db
effect_alone (Writes ws) db w e = let same : w ∷ [] ≡ writings_in db (additions ws.items) = cc in ap appended same
effect_alone (Local id document) db w e = absurd (let same : w ∷ [] ≡ [] = cc in cc)
effect_alone (Security v) db w e = absurd (let same : w ∷ [] ≡ [] = cc in cc)

-- an edit comes to what is planned
pub edit_comes : (caller : Identity) (status : ℕ) (id : List ℕ) (db : Database) (document : Value) (r : Result DocumentWrite WriteFault) (planned : Planned) (rev : Revision) (value : Value)
    → writes_alone (as_outcome r) ≡ Ok (planned_writes db planned.changes) → Plans db (document ∷ []) (as_outcome r ∷ []) planned
    → OfFirst (λ o. o ≡ Made rev) planned.results.items → value ≡ object (made_members (Some id) rev)
    → edit_done caller status id r ≡ Ok (record { status = status; value = value; effect = effect_of planned.changes db })
edit_comes caller status id db document (Err fault) planned rev value alone plans first made = absurd cc
edit_comes caller status id db document (Ok w) planned rev value alone plans first made =
    let o : outcome_told (Ok (Some w)) ≡ Made rev = first_told planned.results.items (result_told document (Ok (Some w))) rev plans.results first in
    let v : object (edit_members caller (Some id) (outcome_told (Ok (Some w)))) ≡ value = ap (λ (x : Outcome). object (edit_members caller (Some id) x)) o ∙ sym made in
    let e : appended (w ∷ []) ≡ effect_of planned.changes db = effect_alone planned.changes db w alone in
    λ i. Ok (record { status = status; value = v i; effect = e i })

first_is : (items : List DocumentResult) (t : Told) (kind : Outcome → Type 0) → map told_of items ≡ t ∷ [] → OfFirst kind items → kind t.outcome
first_is [] t kind e h = absurd h
first_is (r ∷ rs) t kind e h = let same : told_of r ≡ t = cc in subst kind (ap (λ (x : Told). x.outcome) same) h

-- ---- several documents

effect_written : (changes : Changes) (db : Database) (ws : List DocumentWrite) → AreWrites changes → planned_writes db changes ≡ ws → appended ws ≡ effect_of changes db
effect_written (Writes vs) db ws are e = ap appended (sym e)
effect_written (Security v) db ws are e = absurd are
effect_written (Local id document) db ws are e = absurd are

-- several documents come to what is planned
pub bulk_comes : (caller : Identity) (bulk : Bulk) (name : List ℕ) (db : Database) (value : Value) (planned : Planned)
    → Plans db bulk.documents (outcomes (terms_in caller name db) bulk.new_edits (history_at db) bulk.documents) planned → AreWrites planned.changes
    → value ≡ bulk_reply caller bulk.new_edits (map told_of planned.results.items)
    → bulk_written caller bulk name db ≡ Ok (record { status = 201; value = value; effect = effect_of planned.changes db })
bulk_comes caller bulk name db value planned plans are made =
    let os = outcomes (terms_in caller name db) bulk.new_edits (history_at db) bulk.documents in
    let v : bulk_reply caller bulk.new_edits (all_told bulk.documents os) ≡ value = ap (bulk_reply caller bulk.new_edits) (sym plans.results) ∙ sym made in
    let e = effect_written planned.changes db _ are plans.writes in
    λ i. Ok (record { status = 201; value = v i; effect = e i })

-- ---- an index

made_by : (rev : Option Revision) (created : Bool) → IsUnrefused (outcome_of_revision rev) → created ≡ says_made (outcome_of_revision rev) → created ≡ true
made_by None created h e = absurd h
made_by (Some r) created h e = e

created_is : (w : Option DocumentWrite) (created : Bool) → IsUnrefused (outcome_told (Ok w)) → created ≡ says_made (outcome_told (Ok w)) → created ≡ is_some w
created_is None created h e = e
created_is (Some w) created h e = made_by (new_revision w) created h e

-- the declaration of an index comes to what is planned
pub index_comes : (caller : Identity) (id name : List ℕ) (db : Database) (r : DocumentOutcome) (planned : Planned) (created : Bool) (value : Value)
    → writes_alone r ≡ Ok (planned_writes db planned.changes) → Plans db (null ∷ []) (r ∷ []) planned → AreWrites planned.changes
    → OfFirst IsUnrefused planned.results.items → OfFirst (λ o. created ≡ says_made o) planned.results.items → value ≡ index_reply id name created
    → index_done caller id name r ≡ Ok (record { status = 200; value = value; effect = effect_of planned.changes db })
index_comes caller id name db (Err fault) planned created value alone plans are unrefused first made = absurd cc
index_comes caller id name db (Ok w) planned created value alone plans are unrefused first made =
    let t : Told = result_told null (Ok w) in
    let is : created ≡ is_some w =
    created_is w created (first_is planned.results.items t IsUnrefused plans.results unrefused) (first_is planned.results.items t (λ o. created ≡ says_made o) plans.results first) in
    let v : index_reply id name (is_some w) ≡ value = ap (index_reply id name) (sym is) ∙ sym made in
    let written : put_before (Ok w) [] ≡ planned_writes db planned.changes = cc in
    let e : appended (put_before (Ok w) []) ≡ effect_of planned.changes db = effect_written planned.changes db _ are (sym written) in
    λ i. Ok (record { status = 200; value = v i; effect = e i })
