-- The rows of the range of design documents give the design documents of the database, and rules are taken in row by row.
use Rattle.std.proofs.Common.{◌≡◌, ℕ, suc, ◌+◌, ◌<◌, arith, get_or, length, Bool, true, false, cond, drop, List, [], ◌∷◌, ◌++◌, Option, Some, None, option_map, Result, Ok, Err, refl, sym, ap, subst, ◌∙◌, inl, inr}
use Rattle.std.proofs.Math.Seq.{drop-cons}
use Rattle.std.specs.Prelude.{IfOk, filter, flat_map}
use Rattle.std.specs.FinMap as finite
use Rattle.std.specs.Option.{option_to_list}
use Rattle.auth.specs.Callers.{Identity}
use Rattle.couch_json.specs.Value.{Value}
use Rattle.policy.specs.UpdateRules.{Rules, rules_of, with_rule, with_rules}
use Rattle.tree.specs.DocumentId.{is_design_id}
use Rattle.tree.specs.Revision.{Revision}
use Rattle.tree.specs.declared.entry.Held.{Held}
use Rattle.tree.proofs.Kept.{true_from_T}
use Rattle.store.specs.Contents.{IfThere}
use Rattle.store.specs.Database.{Database, history_in}
use Rattle.store.specs.DesignRows.{IsDesignRange}
use Rattle.store.specs.Pages.{IdPage, in_direction, is_within, live_rev, live_rows, page_of_ids, rows_within, up_to_limit, with_row}
use Rattle.store.specs.declared.listing.IdRange.{IdRange}
use Rattle.store.specs.declared.listing.IdRow.{IdRow}
use Rattle.store.proofs.Listings.{Entry, In, in_found}
use Rattle.write.specs.Terms.{Terms, as_design_document, design_document_of, design_documents_in, rules_in, terms_in}
use Rattle.store.specs.Indexes.{held_by, winning_body}
use Rattle.write.specs.declared.fault.WriteFault.{WriteFault}
use Rattle.write.specs.TermsRead.{document_at}

-- ---- the rows

no_document : (id : List ℕ) (body : Option Value) → body ≡ None → as_design_document id body ≡ []
no_document id body none = ap (as_design_document id) none ∙ by (is_design_id id)
  where
    by : (b : Bool) → cond b (option_to_list {X = List ℕ × Value} None) [] ≡ []
    by true = refl
    by false = refl

no_design : (range : IdRange) (id : List ℕ) (body : Option Value) → IsDesignRange range → is_within range id ≡ false → as_design_document id body ≡ []
no_design range id body is outside = by (is_design_id id) refl
  where
    by : (b : Bool) → is_design_id id ≡ b → as_design_document id body ≡ []
    by true design = cc (sym (is.within id design) ∙ outside)
    by false other = ap (λ b. cond b (option_to_list (option_map (λ v. (id, v)) body)) []) other

abbrev Gives : IdRange → Database → List Entry → Type 0
Gives range d es = flat_map (λ r. document_at d r.id) (filter (λ r. is_within range r.id) (live_rows es)) ≡ flat_map design_document_of es

rows_give : (range : IdRange) (d : Database) (es : List Entry) → IsDesignRange range → ((x : Entry) → In es x → finite.get d.documents x.0 ≡ Some x.1)
    → Gives range d es
rows_give range d [] is found = refl
rows_give range d (e ∷ es) is found = by (rows_give range d es is (λ x i. found x (inr i))) (live_rev e.1.history) refl
  where
    read : document_at d e.0 ≡ design_document_of e
    read = ap (λ o. as_design_document e.0 (winning_body (history_in o))) (found e (inl refl))

    within : Gives range d es → (r : Revision) (b : Bool) → is_within range e.0 ≡ b
        → flat_map (λ r. document_at d r.id) (cond b (record { id = e.0; rev = r } ∷ filter (λ r. is_within range r.id) (live_rows es)) (filter (λ r. is_within range r.id) (live_rows es)))
        ≡ design_document_of e ++ flat_map design_document_of es
    within rest r true k = λ i. read i ++ rest i
    within rest r false k = rest ∙ ap (λ ds. ds ++ flat_map design_document_of es) (sym (no_design range e.0 _ is k))

    by : Gives range d es → (o : Option Revision) → live_rev e.1.history ≡ o → flat_map (λ r. document_at d r.id) (filter (λ r. is_within range r.id) (with_row e.0 o (live_rows es))) ≡ design_document_of e ++ flat_map design_document_of es
    by rest None k = rest ∙ ap (λ ds. ds ++ flat_map design_document_of es) (sym (no_document e.0 _ (ap (λ (o : Option Revision). option_map (λ (h : Held). h.body) (held_by e.1.history o)) k)))
    by rest (Some r) k = within rest r (is_within range e.0) refl

cut : (range : IdRange) (rs : List IdRow) → IsDesignRange range → up_to_limit range.limit (drop range.skip (rows_within range rs)) ≡ filter (λ r. is_within range r.id) rs
cut range rs is = λ i. up_to_limit (is.whole i) (drop (is.from_the_first i) (filter (λ r. is_within range r.id) (in_direction (is.ascending i) rs)))

-- the rows of the range give the design documents
pub rows_give_documents : (range : IdRange) (d : Database) (rows : List IdRow) → IsDesignRange range → rows ≡ (page_of_ids range d).rows → flat_map (λ r. document_at d r.id) rows ≡ design_documents_in d
rows_give_documents range d rows is e =
    ap (flat_map (λ (r : IdRow). document_at d r.id)) (e ∙ cut range _ is)
    ∙ rows_give range d (finite.entries d.documents) is (λ x i. finite.get-entries d.documents x.0 ∙ in_found (finite.entries d.documents) x (true_from_T _ (finite.entries_sorted d.documents)) i)

-- ---- row by row

with_rules-append : (rules : Rules) (ds es : List (List ℕ × Value)) → with_rules rules (ds ++ es) ≡ with_rules (with_rules rules ds) es
with_rules-append rules [] es = refl
with_rules-append rules (d ∷ ds) es = with_rules-append (with_rule rules d) ds es

pub row_taken : (d : Database) (rows : List IdRow) (i : ℕ) (r : IdRow) (before after all : Rules) → i < length rows → r ≡ get_or rows i r → after ≡ with_rules before (document_at d r.id)
    → with_rules before (flat_map (λ x. document_at d x.id) (drop i rows)) ≡ all → with_rules after (flat_map (λ x. document_at d x.id) (drop (i + 1) rows)) ≡ all
row_taken d rows i r before after all lt is put so =
    let next : i + 1 ≡ suc i = omega arith in
    let left : drop i rows ≡ r ∷ drop (i + 1) rows = drop-cons rows i r lt ∙ (λ j. sym is j ∷ drop (sym next j) rows) in
    ap (λ (rules : Rules). with_rules rules (flat_map (λ (x : IdRow). document_at d x.id) (drop (i + 1) rows))) put
    ∙ sym (with_rules-append before (document_at d r.id) (flat_map (λ (x : IdRow). document_at d x.id) (drop (i + 1) rows)))
    ∙ ap (λ (rs : List IdRow). with_rules before (flat_map (λ (x : IdRow). document_at d x.id) rs)) (sym left)
    ∙ so

-- ---- the terms

inside : {X : Type 0} (x y : X) → Some x ≡ Some y → x ≡ y
inside x y e = cc

pub rules_read : (there mid : Option Database) (range : IdRange) (page : IdPage) (rows : List IdRow) (r : Result Rules WriteFault) → mid ≡ there → IsDesignRange range → rows ≡ page.rows
    → option_map (λ d. page_of_ids range d) there ≡ Some page
    → IfOk r (λ rules. (d : Database) → mid ≡ Some d → rules ≡ rules_of (flat_map (λ x. document_at d x.id) rows))
    → IfOk r (λ rules. IfThere there (λ d. rules ≡ rules_in d))
rules_read there mid range page rows (Err fault) same is its pages taken = tt
rules_read None mid range page rows (Ok rules) same is its pages taken = tt
rules_read (Some d) mid range page rows (Ok rules) same is its pages taken =
    taken d same ∙ ap rules_of (rows_give_documents range d rows is (its ∙ ap (λ (p : IdPage). p.rows) (sym (inside _ page pages))))

pub terms_read : (there mid : Option Database) (caller : Identity) (name : List ℕ) (t : Terms) → mid ≡ there → t.caller ≡ caller → t.name ≡ name
    → option_map (λ d. d.security) there ≡ Some t.security → IfThere mid (λ d. t.rules ≡ rules_in d)
    → IfThere there (λ d. t ≡ terms_in caller name d)
terms_read None mid caller name t same is_caller is_name secured rules = tt
terms_read (Some d) mid caller name t same is_caller is_name secured rules =
    let read : t.rules ≡ rules_in d = subst (λ o. IfThere o (λ d. t.rules ≡ rules_in d)) same rules in
    λ i. record { caller = is_caller i; name = is_name i; security = inside t.security d.security (sym secured) i; rules = read i }
