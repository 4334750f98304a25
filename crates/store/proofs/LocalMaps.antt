-- Local documents by their ids: what entries hold, as a map.
use Rattle.std.proofs.Common.{◌≡◌, ◌∙◌, ℕ, Bool, cond, List, [], ◌∷◌, Some, nat_cmp, refl, sym, ap}
use Rattle.std.proofs.lemmas.Cmp.{nat_list_cmp_total}
use Rattle.std.specs.BTreeMap.{is_at}
use Rattle.std.specs.Cmp.{eq_by_cmp_equiv}
use Rattle.std.specs.Cmp.Lexicographic.{slice_cmp}
use Rattle.std.specs.FinMap as map
use Rattle.std.specs.FinMap.{find}
use Rattle.std.specs.Map.{lookup}
use Rattle.std.specs.Ordering.{eq_by_cmp}
use Rattle.store.specs.Plain.{locals_of}
use Rattle.store.specs.declared.local_document.LocalDocument.{LocalDocument}
use Rattle.store.proofs.Plains.{exact}

abbrev Entries : Type 0
Entries = List (List ℕ × LocalDocument)

find-lookup : (es : Entries) (q : List ℕ) → find (slice_cmp nat_cmp) q es ≡ lookup (is_at (slice_cmp nat_cmp q)) es
find-lookup [] q = refl
find-lookup (e ∷ es) q = ap (cond (eq_by_cmp (slice_cmp nat_cmp) q e.0) (Some e.1)) (find-lookup es q)

pub get-locals_of : (es : Entries) (q : List ℕ) → map.get (locals_of es) q ≡ lookup (is_at (slice_cmp nat_cmp q)) es
get-locals_of es q = map.get-from_entries nat_list_cmp_total es q ∙ find-lookup es q

pub no_locals : locals_of [] ≡ map.empty
no_locals = map.same_map nat_list_cmp_total exact _ _ (λ q. get-locals_of [] q ∙ sym (map.get-empty (slice_cmp nat_cmp) q))

turned : (k q : List ℕ) → is_at (slice_cmp nat_cmp k) q ≡ eq_by_cmp (slice_cmp nat_cmp) q k
turned k q = (eq_by_cmp_equiv nat_list_cmp_total).symm k q

-- entries that differ at one id make maps that differ there
pub locals_with : (es fs : Entries) (k : List ℕ) (x : LocalDocument)
    → ((q : List ℕ) → lookup (is_at (slice_cmp nat_cmp q)) fs ≡ cond (is_at (slice_cmp nat_cmp k) q) (Some x) (lookup (is_at (slice_cmp nat_cmp q)) es))
    → locals_of fs ≡ map.insert (locals_of es) k x
locals_with es fs k x h = map.same_map nat_list_cmp_total exact _ _ (λ q.
    get-locals_of fs q ∙ h q ∙ ap (λ (b : Bool). cond b (Some x) (lookup (is_at (slice_cmp nat_cmp q)) es)) (turned k q)
    ∙ sym (map.get-insert nat_list_cmp_total (locals_of es) k x q ∙ ap (cond (eq_by_cmp (slice_cmp nat_cmp) q k) (Some x)) (get-locals_of es q)))
