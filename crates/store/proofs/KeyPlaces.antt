-- The places of documents in an index, put one after the other, the last first.
use Rattle.std.proofs.Common.{◌≡◌, ℕ, List, [], ◌∷◌, ◌++◌, map, Option, Some, refl, sym, ap, ◌∙◌}
use Rattle.std.proofs.lemmas.List.{map-append}
use Rattle.couch_json.specs.View.{view}
use Rattle.couch_json.specs.declared.value.Json.{Json}
use Rattle.std.specs.FinMap.{put}
use Rattle.couch_json.specs.Value.{Items, Value, array}
use Rattle.store.specs.Database.{Document}
use Rattle.store.specs.Indexes.{IndexPlace, index_over, field_values, place_order, put_at_values, put_in_index, queried_document}
use Rattle.store.specs.Plain.{document_entries, document_entry, place_views, places_over}
use Rattle.store.specs.declared.plain.PlainDocument.{PlainDocument}
use Rattle.store.proofs.PageStructs.{put-seen}

-- the documents put in an index that has these already
abbrev pub index_onto : List (List ℕ) → List (List ℕ × Document) → List (IndexPlace × Value) → List (IndexPlace × Value)
index_onto fields [] among = among
index_onto fields (e ∷ es) among = put_in_index fields e.0 (queried_document e.0 e.1.history) (index_onto fields es among)

index_onto-push : (fields : List (List ℕ)) (es : List (List ℕ × Document)) (e : List ℕ × Document) (among : List (IndexPlace × Value))
    → index_onto fields (es ++ e ∷ []) among ≡ index_onto fields es (put_in_index fields e.0 (queried_document e.0 e.1.history) among)
index_onto-push fields [] e among = refl
index_onto-push fields (f ∷ es) e among = ap (put_in_index fields f.0 (queried_document f.0 f.1.history)) (index_onto-push fields es e among)

index_onto-nothing : (fields : List (List ℕ)) (es : List (List ℕ × Document)) → index_onto fields es [] ≡ index_over fields es
index_onto-nothing fields [] = refl
index_onto-nothing fields (e ∷ es) = ap (put_in_index fields e.0 (queried_document e.0 e.1.history)) (index_onto-nothing fields es)

-- the last of the documents that are left is put among the others
pub one_placed : (fields : List (List ℕ)) (es left : List (List ℕ × PlainDocument)) (id : List ℕ) (d : PlainDocument) (among after : List (IndexPlace × Json)) → es ≡ left ++ (id, d) ∷ []
    → place_views after ≡ put_in_index fields id (queried_document id d.history) (place_views among)
    → index_onto fields (document_entries left) (place_views after) ≡ index_onto fields (document_entries es) (place_views among)
one_placed fields es left id d among after is made =
    ap (index_onto fields (document_entries left)) made
    ∙ sym (index_onto-push fields (document_entries left) (document_entry (id, d)) (place_views among))
    ∙ ap (λ fs. index_onto fields fs (place_views among)) (sym (map-append document_entry left ((id, d) ∷ [])))
    ∙ ap (λ fs. index_onto fields (document_entries fs) (place_views among)) (sym is)

firsts-place_views : (es : List (IndexPlace × Json)) → map (λ e. e.0) es ≡ map (λ e. e.0) (place_views es)
firsts-place_views [] = refl
firsts-place_views (e ∷ es) = ap (λ ps. e.0 ∷ ps) (firsts-place_views es)

-- no document is left
pub all_placed : (fields : List (List ℕ)) (left all : List (List ℕ × PlainDocument)) (es : List (IndexPlace × Json)) → left ≡ []
    → index_onto fields (document_entries left) (place_views es) ≡ index_onto fields (document_entries all) [] → map (λ e. e.0) es ≡ places_over fields (document_entries all)
all_placed fields left all es none h =
    firsts-place_views es ∙ ap (map (λ (e : IndexPlace × Value). e.0)) (ap (λ fs. index_onto fields (document_entries fs) (place_views es)) (sym none) ∙ h ∙ index_onto-nothing fields (document_entries all))

-- a document that queries look at is put at its values
pub document_placed : (fields : List (List ℕ)) (id : List ℕ) (shown : Option Value) (document : Json) (values : Items) (es new : List (IndexPlace × Json)) → Some (view document) ≡ shown
    → Some values ≡ field_values fields (view document) → new ≡ put place_order (record { key = array values; id = id }) document es → place_views new ≡ put_in_index fields id shown (place_views es)
document_placed fields id shown document values es new is has made =
    ap place_views made ∙ put-seen place_order view (record { key = array values; id = id }) document es
    ∙ ap (λ vs. put_at_values id (view document) vs (place_views es)) has
    ∙ ap (λ o. put_in_index fields id o (place_views es)) is
