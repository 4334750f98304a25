-- What a plan makes of its database, where there is one.
use Rattle.std.proofs.Common.{◌≡◌, ◌≢◌, ℕ, List, [], ◌∷◌, map, Option, Some, None, option_map, Result, Ok, Err, IfErr, refl, ap, sym, ◌∙◌, subst}
use Rattle.std.specs.Prelude.{codes, string_bytes}
use Rattle.couch_json.specs.Value.{Value}
use Rattle.tree.specs.History.{HistoryContent}
use Rattle.store.specs.Contents.{AreAcceptable, IfThere}
use Rattle.store.specs.Database.{Database, DocumentWrite, history_at, with_all}
use Rattle.store.specs.Writing.{addition_of, written_at, written_in}
use Rattle.store.specs.declared.write.Write.{Write}
use Rattle.write.specs.Bulk.{DocumentOutcome, Told, all_told, outcome_told, put_before, writes_alone, writes_in}
use Rattle.write.specs.BulkResults.{told_as, told_of}
use Rattle.write.specs.Document.{member_text}
use Rattle.write.specs.Planning.{MayBeMade, Plans, database_after, planned_writes}
use Rattle.write.specs.Refusing.{IsOwn}
use Rattle.write.specs.Terms.{Terms}
use Rattle.write.specs.declared.fault.WriteFault.{WriteFault}
use Rattle.write.specs.declared.fault.WriteFault.TheVariants.{BadDocument, BadHistory, Conflict, Denied, Generation, Memory, Store}
use Rattle.write.specs.declared.planned.Planned.{Planned}
use Rattle.write.specs.declared.planning.Label.{Label}
use Rattle.write.proofs.BulkLemmas.{brought_at}
use Rattle.write.proofs.Judgings.{is_history, told_is}

-- ---- one document

-- the history that was read is the document's, so its outcome in the database brings this write
one_outcome : (d : Database) (id : List ℕ) (h : HistoryContent) (became : HistoryContent → DocumentOutcome) (w : Option Write) → h ≡ history_at d id
    → became h ≡ Ok (option_map (λ x. written_in h (addition_of x)) w) → ((g : HistoryContent) (v : DocumentWrite) → became g ≡ Ok (Some v) → v.id ≡ id)
    → became (history_at d id) ≡ Ok (option_map (λ x. written_at d (addition_of x)) w)
one_outcome d id h became w is e named =
    ap became (sym is) ∙ e ∙ ap Ok (brought_at (history_at d) id h w is (λ v k. named h v (e ∙ ap Ok k)))

-- a fact about the database that is there
pub if_there : (fact : Database → Type 0) (there : Option Database) (d : Database) → there ≡ Some d → IfThere there fact → fact d
if_there fact there d is known = subst (λ o. IfThere o fact) is known

-- the terms that were read are those of the database, so the same becomes of the document on them
on_terms : (d : Database) (id : List ℕ) (became : Terms → HistoryContent → DocumentOutcome) (terms own : Terms) → terms ≡ own
    → became own (history_at d id) ≡ became terms (history_at d id)
on_terms d id became terms own same = ap (λ (t : Terms). became t (history_at d id)) (sym same)

pub one_made : (there : Option Database) (id : List ℕ) (h : HistoryContent) (became : Terms → HistoryContent → DocumentOutcome) (terms : Terms) (own : Database → Terms) (w : Option Write) (planned : Planned)
    → IfThere there (λ d. terms ≡ own d)
    → option_map (λ db. history_at db id) there ≡ Some h → became terms h ≡ Ok (option_map (λ x. written_in h (addition_of x)) w)
    → ((g : HistoryContent) (v : DocumentWrite) → became terms g ≡ Ok (Some v) → v.id ≡ id)
    → ((d : Database) → planned_writes d planned.changes ≡ put_before (Ok (option_map (λ x. written_at d (addition_of x)) w)) [])
    → IfThere there (λ d. writes_alone (became (own d) (history_at d id)) ≡ Ok (planned_writes d planned.changes))
one_made None id h became terms own w planned same read e named writes = tt
one_made (Some d) id h became terms own w planned same read e named writes =
    ap writes_alone (on_terms d id became terms (own d) same ∙ one_outcome d id h (became terms) w (is_history d id h (Some d) refl read) e named)
    ∙ ap Ok (sym (writes d))

pub one_plan : (there : Option Database) (id : List ℕ) (h : HistoryContent) (document : Value) (became : Terms → HistoryContent → DocumentOutcome) (terms : Terms) (own : Database → Terms) (w : Option Write) (label : Label) (planned : Planned)
    → IfThere there (λ d. terms ≡ own d)
    → option_map (λ db. history_at db id) there ≡ Some h → became terms h ≡ Ok (option_map (λ x. written_in h (addition_of x)) w)
    → ((g : HistoryContent) (v : DocumentWrite) → became terms g ≡ Ok (Some v) → v.id ≡ id)
    → ((d : Database) → there ≡ Some d → AreAcceptable d (writes_in (became (own d) (history_at d id) ∷ [])))
    → ((d : Database) → planned_writes d planned.changes ≡ put_before (Ok (option_map (λ x. written_at d (addition_of x)) w)) [])
    → ((d : Database) → database_after planned.changes d ≡ with_all d (planned_writes d planned.changes))
    → ((d : Database) → AreAcceptable d (planned_writes d planned.changes) → MayBeMade planned.changes d)
    → ((g : HistoryContent) → map told_of planned.results.items ≡ told_as label (Ok (option_map (λ x. written_in g (addition_of x)) w)) ∷ [])
    → option_map string_bytes label.id ≡ member_text (codes "_id") document → option_map string_bytes label.rev ≡ member_text (codes "_rev") document
    → IfThere there (λ d. Plans d (document ∷ []) (became (own d) (history_at d id) ∷ []) planned)
one_plan None id h document became terms own w label planned same read e named may writes changes allowed results is_id is_rev = tt
one_plan (Some d) id h document became terms own w label planned same read e named may writes changes allowed results is_id is_rev =
    let is : h ≡ history_at d id = is_history d id h (Some d) refl read in
    let o : DocumentOutcome = became (own d) (history_at d id) in
    let same_outcome : o ≡ became terms (history_at d id) = on_terms d id became terms (own d) same in
    let made : planned_writes d planned.changes ≡ writes_in (o ∷ []) =
    writes d ∙ ap (λ (x : DocumentOutcome). put_before x []) (sym (same_outcome ∙ one_outcome d id h (became terms) w is e named)) in
    let told : o ≡ Ok (option_map (λ x. written_in h (addition_of x)) w) = same_outcome ∙ ap (became terms) (sym is) ∙ e in
    record {
      writes = made;
      changes = changes d ∙ ap (with_all d) made;
      may = allowed d (subst (AreAcceptable d) (sym made) (may d refl));
      results = results h ∙ ap (λ (t : Told). t ∷ []) (sym (told_is document o _ _ _ _ is_id is_rev (ap outcome_told told) refl));
    }

-- the same where the outcome is told of the document in the database
pub made_there : (there : Option Database) (id : List ℕ) (became : Terms → HistoryContent → DocumentOutcome) (terms : Terms) (own : Database → Terms) (w : Option Write) (planned : Planned)
    → IfThere there (λ d. terms ≡ own d)
    → IfThere there (λ d. became terms (history_at d id) ≡ Ok (option_map (λ x. written_in (history_at d id) (addition_of x)) w))
    → ((g : HistoryContent) (v : DocumentWrite) → became terms g ≡ Ok (Some v) → v.id ≡ id)
    → ((d : Database) → planned_writes d planned.changes ≡ put_before (Ok (option_map (λ x. written_at d (addition_of x)) w)) [])
    → IfThere there (λ d. writes_alone (became (own d) (history_at d id)) ≡ Ok (planned_writes d planned.changes))
made_there None id became terms own w planned same e named writes = tt
made_there (Some d) id became terms own w planned same e named writes = one_made (Some d) id (history_at d id) became terms own w planned same refl e named writes

pub plan_there : (there : Option Database) (id : List ℕ) (document : Value) (became : Terms → HistoryContent → DocumentOutcome) (terms : Terms) (own : Database → Terms) (w : Option Write) (label : Label) (planned : Planned)
    → IfThere there (λ d. terms ≡ own d)
    → IfThere there (λ d. became terms (history_at d id) ≡ Ok (option_map (λ x. written_in (history_at d id) (addition_of x)) w))
    → ((g : HistoryContent) (v : DocumentWrite) → became terms g ≡ Ok (Some v) → v.id ≡ id)
    → ((d : Database) → there ≡ Some d → AreAcceptable d (writes_in (became (own d) (history_at d id) ∷ [])))
    → ((d : Database) → planned_writes d planned.changes ≡ put_before (Ok (option_map (λ x. written_at d (addition_of x)) w)) [])
    → ((d : Database) → database_after planned.changes d ≡ with_all d (planned_writes d planned.changes))
    → ((d : Database) → AreAcceptable d (planned_writes d planned.changes) → MayBeMade planned.changes d)
    → ((g : HistoryContent) → map told_of planned.results.items ≡ told_as label (Ok (option_map (λ x. written_in g (addition_of x)) w)) ∷ [])
    → option_map string_bytes label.id ≡ member_text (codes "_id") document → option_map string_bytes label.rev ≡ member_text (codes "_rev") document
    → IfThere there (λ d. Plans d (document ∷ []) (became (own d) (history_at d id) ∷ []) planned)
plan_there None id document became terms own w label planned same e named may writes changes allowed results is_id is_rev = tt
plan_there (Some d) id document became terms own w label planned same e named may writes changes allowed results is_id is_rev =
    one_plan (Some d) id (history_at d id) document became terms own w label planned same refl e named may writes changes allowed results is_id is_rev

-- a fault of its own is none of memory
pub own_refusal : (fault : WriteFault) (fact : Type 0) → (fault ≢ Memory → fact) → IsOwn fault → fact
own_refusal Memory fact h mine = absurd mine
own_refusal BadDocument fact h mine = h (λ e. cc)
own_refusal (Denied rule) fact h mine = h (λ e. cc)
own_refusal BadHistory fact h mine = h (λ e. cc)
own_refusal Conflict fact h mine = h (λ e. cc)
own_refusal Generation fact h mine = h (λ e. cc)
own_refusal (Store cause) fact h mine = absurd mine

-- and what refuses it there refuses it in the database
pub one_refused : (there : Option Database) (id : List ℕ) (h : HistoryContent) (became : Terms → HistoryContent → DocumentOutcome) (terms : Terms) (own : Database → Terms) (r : Result Planned WriteFault) (fault : WriteFault)
    → IfThere there (λ d. terms ≡ own d) → option_map (λ db. history_at db id) there ≡ Some h → r ≡ Err fault → (IsOwn fault → became terms h ≡ Err fault)
    → IfErr r (λ e. IsOwn e → IfThere there (λ d. became (own d) (history_at d id) ≡ Err e))
one_refused there id h became terms own r fault same read is refused =
    subst (λ (x : Result Planned WriteFault). IfErr x (λ e. IsOwn e → IfThere there (λ d. became (own d) (history_at d id) ≡ Err e))) (sym is) (λ mine. by there same read (refused mine))
  where
    by : (there : Option Database) → IfThere there (λ d. terms ≡ own d) → option_map (λ db. history_at db id) there ≡ Some h → became terms h ≡ Err fault
        → IfThere there (λ d. became (own d) (history_at d id) ≡ Err fault)
    by None same read e = tt
    by (Some d) same read e = on_terms d id became terms (own d) same ∙ ap (became terms) (sym (is_history d id h (Some d) refl read)) ∙ e

-- ---- several documents

pub all_planned : (there : Option Database) (documents : List Value) (os : Database → List DocumentOutcome) (planned : Planned)
    → ((d : Database) → there ≡ Some d → planned_writes d planned.changes ≡ writes_in (os d))
    → ((d : Database) → database_after planned.changes d ≡ with_all d (planned_writes d planned.changes))
    → ((d : Database) → AreAcceptable d (planned_writes d planned.changes) → MayBeMade planned.changes d)
    → ((d : Database) → there ≡ Some d → AreAcceptable d (writes_in (os d)))
    → ((d : Database) → there ≡ Some d → map told_of planned.results.items ≡ all_told documents (os d))
    → IfThere there (λ d. Plans d documents (os d) planned)
all_planned None documents os planned writes changes allowed may results = tt
all_planned (Some d) documents os planned writes changes allowed may results =
    record {
      writes = writes d refl;
      changes = changes d ∙ ap (with_all d) (writes d refl);
      may = allowed d (subst (AreAcceptable d) (sym (writes d refl)) (may d refl));
      results = results d refl;
    }
