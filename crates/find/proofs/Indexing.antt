-- An index that is asked for stands in a design document.
use Rattle.std.proofs.Common.{◌≡◌, ◌++◌, ◌&&◌, ℕ, Bool, true, false, cond, List, Option, Some, None, option_and_then, option_map, refl, ap, sym, ◌∙◌}
use Rattle.std.specs.Cmp.{second_so}
use Rattle.std.specs.Prelude.{codes}
use Rattle.couch_json.specs.Parts.{has_only, text_in}
use Rattle.couch_json.specs.Value.{Value, member_of}
use Rattle.tree.specs.DocumentId.{is_design_id, is_document_id}
use Rattle.find.specs.Indexes.{IndexAsked, design_id, design_in, index_by, index_fields, index_in, index_name_in, index_names, index_with, is_json_type}

record Then {A B : Type 0} (o : Option A) (f : A → Option B) (b : B) : Type 0 where
  first : A
  was : o ≡ Some first
  then : f first ≡ Some b

then_some : {A B : Type 0} (o : Option A) (f : A → Option B) (b : B) → option_and_then f o ≡ Some b → Then o f b
then_some None f b e = absurd cc
then_some (Some a) f b e = record { first = a; was = refl; then = e }

design_of : (id d : List ℕ) (b : Bool) → (is_document_id id && is_design_id id) ≡ b → cond b (Some id) None ≡ Some d → is_design_id d ≡ true
design_of id d true is e = let same : id ≡ d = cc in ap is_design_id (sym same) ∙ second_so (is_document_id id) (is_design_id id) is
design_of id d false is e = absurd cc

design_in-design : (v : Value) (d : List ℕ) → design_in v ≡ Some d → is_design_id d ≡ true
design_in-design v d e =
    let k = then_some (text_in v) (λ name. design_id (codes "_design/" ++ name)) d e in
    design_of (codes "_design/" ++ k.first) d (is_document_id (codes "_design/" ++ k.first) && is_design_id (codes "_design/" ++ k.first)) refl k.then

with_fields : (design name : List ℕ) (fields : Option (List (List ℕ))) (asked : IndexAsked) → option_map (λ fs. index_by design name fs) fields ≡ Some asked → design ≡ asked.design
with_fields design name None asked e = absurd cc
with_fields design name (Some fs) asked e = let same : index_by design name fs ≡ asked = cc in ap (λ (x : IndexAsked). x.design) same

with_design : (v : Value) (design : List ℕ) (asked : IndexAsked) → index_with v design ≡ Some asked → design ≡ asked.design
with_design v design asked e =
    let k = then_some (option_and_then index_name_in (member_of v (codes "name"))) (λ name. option_map (λ fields. index_by design name fields) (option_and_then index_fields (member_of v (codes "index")))) asked e in
    with_fields design k.first (option_and_then index_fields (member_of v (codes "index"))) asked k.then

by_form : (v : Value) (asked : IndexAsked) (b : Bool)
    → cond b (option_and_then (λ design. index_with v design) (option_and_then design_in (member_of v (codes "ddoc")))) None ≡ Some asked → is_design_id asked.design ≡ true
by_form v asked false e = absurd cc
by_form v asked true e =
    let k = then_some (option_and_then design_in (member_of v (codes "ddoc"))) (λ design. index_with v design) asked e in
    let l = then_some (member_of v (codes "ddoc")) design_in k.first k.was in
    ap is_design_id (sym (with_design v k.first asked k.then)) ∙ design_in-design l.first k.first l.then

pub index_in-design : (v : Value) (asked : IndexAsked) → index_in v ≡ Some asked → is_design_id asked.design ≡ true
index_in-design v asked e = by_form v asked (has_only index_names v && is_json_type (member_of v (codes "type"))) e
