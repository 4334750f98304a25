-- What is known of an index that stands among indexes of their form.
use Rattle.std.proofs.Common.{◌≡◌, ◌∷◌, [], ℕ, List, Bool, true, false, ◌&&◌, Some, Ordering, refl, ap, sym, ◌∙◌}
use Rattle.std.specs.Cmp.{second_so}
use Rattle.std.specs.Cmp.Lexicographic.{slice_cmp}
use Rattle.std.specs.Ordering.{match_ordering, nat_cmp}
use Rattle.std.specs.Prelude.{codes}
use Rattle.std.specs.declared.cmp.Ordering.TheVariants.{Less, Equal, Greater}
use Rattle.couch_json.specs.Parts.{has_only, is_there_and}
use Rattle.couch_json.specs.Value.{Value, null, truth, whole, text, array, object, Items, Members, no_members, member, member_at, member_of}
use Rattle.policy.specs.DesignDocuments.{are_indexes, are_paths, is_field_list, is_index, is_index_name, is_index_object}
use Rattle.tree.specs.ShownDocument.{body_members}

pub member_of-members_in : (v : Value) (name : List ℕ) → member_of (object (body_members v)) name ≡ member_of v name
member_of-members_in null name = refl
member_of-members_in (truth b) name = refl
member_of-members_in (whole n) name = refl
member_of-members_in (text s) name = refl
member_of-members_in (array vs) name = refl
member_of-members_in (object ms) name = refl

all_three : (a b c : Bool) → (a && b && c) ≡ true → (b ≡ true) × (c ≡ true)
all_three true true true h = (refl, refl)
all_three true true false h = absurd cc
all_three true false c h = absurd cc
all_three false b c h = absurd cc

index_by : (o : Ordering) (v w : Value) (name : List ℕ) (ms : Members) → is_index v ≡ true → (member_at name ms ≡ Some w → is_index w ≡ true)
    → match_ordering o (member_at name ms) (Some v) (member_at name ms) ≡ Some w → is_index w ≡ true
index_by Less v w name ms here later e = later e
index_by Equal v w name ms here later e = let same : v ≡ w = cc in ap is_index (sym same) ∙ here
index_by Greater v w name ms here later e = later e

index_at : (name : List ℕ) (ms : Members) (w : Value) → are_indexes ms ≡ true → member_at name ms ≡ Some w → is_index w ≡ true
index_at name no_members w h is = absurd cc
index_at name (member other v ms) w h is =
    let both = all_three (is_index_name other) (is_index v) (are_indexes ms) h in
    index_by (slice_cmp nat_cmp name other) v w name ms both.0 (index_at name ms w both.1) is

pub is_index_at : (v : Value) (name : List ℕ) (w : Value) → is_index_object v ≡ true → member_of v name ≡ Some w → is_index w ≡ true
is_index_at null name w h is = absurd cc
is_index_at (truth b) name w h is = absurd cc
is_index_at (whole n) name w h is = absurd cc
is_index_at (text s) name w h is = absurd cc
is_index_at (array vs) name w h is = absurd cc
is_index_at (object ms) name w h is = index_at name ms w h is

pub index_paths : (v : Value) (vs : Items) → is_index v ≡ true → member_of v (codes "fields") ≡ Some (array vs) → are_paths vs ≡ true
index_paths v vs h is =
    let listed = second_so (has_only (codes "fields" ∷ []) v) (is_there_and is_field_list (member_of v (codes "fields"))) h in
    second_so _ (are_paths vs) (ap (is_there_and is_field_list) (sym is) ∙ listed)
