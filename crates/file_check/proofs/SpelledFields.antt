-- The fields of an index, as the text of their list.
use Rattle.index.proofs.Common.{Result, Some, [], ap, codes, fields_text, refl, sym, true, Ok, Err, IfOk, OnOk, ◌∙◌, ◌∷◌, ◌≡◌, and_parts, subst}
use Rattle.std.specs.Cmp.{second_so}
use Rattle.std.specs.Prelude.{option_and_then}
use Rattle.couch_json.specs.Canonical.{canonical}
use Rattle.couch_json.specs.Lawful.{AreLawfulItems, IsLawful}
use Rattle.couch_json.specs.Parts.{has_only, is_there_and, items_in, items_or_none}
use Rattle.couch_json.specs.Value.{Items, Value, array, item, member_of, no_items, null, object, text, truth, whole}
use Rattle.index.specs.Rows.{path_items}
use Rattle.policy.specs.DesignDocuments.{are_paths, is_field_list, is_index, is_path}
use Rattle.store.specs.Indexes.{fields_in, paths_in}
use Rattle.file_check.specs.Indexes.{ArePaths}

pub on_if : {X E : Type 0} (P : Type 0) (r : Result X E) → OnOk r P → IfOk r (λ x. P)
on_if P (Ok x) p = p
on_if P (Err e) p = tt

-- the list of the fields is one of paths
paths_of : (w : Value) → is_field_list w ≡ true → (vs : Items) × (w ≡ array vs) × (are_paths vs ≡ true)
paths_of null h = absurd (cc)
paths_of (truth b) h = absurd (cc)
paths_of (whole n) h = absurd (cc)
paths_of (text s) h = absurd (cc)
paths_of (array vs) h = (vs, refl, second_so _ (are_paths vs) h)
paths_of (object ms) h = absurd (cc)

module _ (v w : Value) (is : is_index v ≡ true) (there : member_of v (codes "fields") ≡ Some w) where
  listed : (vs : Items) × (w ≡ array vs) × (are_paths vs ≡ true)
  listed = paths_of w (ap (is_there_and is_field_list) (sym there) ∙ second_so (has_only (codes "fields" ∷ []) v) (is_there_and is_field_list (member_of v (codes "fields"))) is)

  fields_are : fields_in v ≡ paths_in listed.0
  fields_are = ap (λ o. paths_in (items_or_none (option_and_then items_in o))) (there ∙ ap Some listed.1)

paths_back : (vs : Items) → are_paths vs ≡ true → path_items (paths_in vs) ≡ vs
paths_back no_items h = refl
paths_back (item null vs) h = absurd (cc)
paths_back (item (truth b) vs) h = absurd (cc)
paths_back (item (whole n) vs) h = absurd (cc)
paths_back (item (text s) vs) h = ap (item (text s)) (paths_back vs (and_parts (is_path (text s)) (are_paths vs) h).1)
paths_back (item (array us) vs) h = absurd (cc)
paths_back (item (object ms) vs) h = absurd (cc)

paths_good : (vs : Items) → are_paths vs ≡ true → AreLawfulItems vs → ArePaths (paths_in vs)
paths_good no_items h l = tt
paths_good (item null vs) h l = absurd (cc)
paths_good (item (truth b) vs) h l = absurd (cc)
paths_good (item (whole n) vs) h l = absurd (cc)
paths_good (item (text s) vs) h l = let parts = and_parts (is_path (text s)) (are_paths vs) h in ((parts.0, l.0), paths_good vs parts.1 l.1)
paths_good (item (array us) vs) h l = absurd (cc)
paths_good (item (object ms) vs) h l = absurd (cc)

module _ (v w : Value) (is : is_index v ≡ true) (there : member_of v (codes "fields") ≡ Some w) where
  pub list_text : canonical w ≡ fields_text (fields_in v)
  list_text =
      let vs = listed v w is there in
      ap canonical (vs.1 ∙ ap array (sym (paths_back vs.0 vs.2))) ∙ ap fields_text (sym (fields_are v w is there))

  pub list_paths : IsLawful w → ArePaths (fields_in v)
  list_paths lawful =
      let vs = listed v w is there in
      subst ArePaths (sym (fields_are v w is there)) (paths_good vs.0 vs.2 (subst IsLawful vs.1 lawful))
