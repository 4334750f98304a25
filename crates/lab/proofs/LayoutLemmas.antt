-- A database that is made, and is then open to everyone.
use Rattle.std.proofs.Common.{ℕ, ◌≡◌, ◌∙◌, Bool, true, false, cond, List, Option, Some, None, ap, sym, refl}
use Rattle.std.proofs.lemmas.Cmp.{nat_list_cmp_total}
use Rattle.std.specs.Cmp.{eq_by_cmp_equiv}
use Rattle.std.specs.Cmp.Lexicographic.{slice_cmp}
use Rattle.std.specs.FinMap.{get, get-insert, insert, nat_cmp-IsAntisymmetric, same_map, slice_cmp-IsAntisymmetric, IsAntisymmetric}
use Rattle.std.specs.Ordering.{eq_by_cmp, nat_cmp}
use Rattle.std.specs.Prelude.{option_map}
use Rattle.store.specs.Contents.{Contents, new_database, with_security}
use Rattle.store.specs.Database.{Database}
use Rattle.couch_json.specs.Value.{Value}

exact : IsAntisymmetric (slice_cmp nat_cmp)
exact = slice_cmp-IsAntisymmetric nat_cmp-IsAntisymmetric

get_same : (m : Contents) (name : List ℕ) (db : Database) → get (insert m name db) name ≡ Some db
get_same m name db =
    get-insert nat_list_cmp_total m name db name ∙ ap (λ (b : Bool). cond b (Some db) (get m name)) ((eq_by_cmp_equiv nat_list_cmp_total).refl name)

twice : (b : Bool) (first last : Option Database) (other : Option Database) → cond b last (cond b first other) ≡ cond b last other
twice true first last other = refl
twice false first last other = refl

insert_twice : (m : Contents) (name : List ℕ) (first last : Database) → insert (insert m name first) name last ≡ insert m name last
insert_twice m name first last = same_map nat_list_cmp_total exact _ _ (λ q.
    get-insert nat_list_cmp_total (insert m name first) name last q
    ∙ ap (λ (o : Option Database). cond (eq_by_cmp (slice_cmp nat_cmp) q name) (Some last) o) (get-insert nat_list_cmp_total m name first q)
    ∙ twice (eq_by_cmp (slice_cmp nat_cmp) q name) (Some first) (Some last) (get m q)
    ∙ sym (get-insert nat_list_cmp_total m name last q))

-- the security object of the new database was set
pub opened : (old made new : Contents) (name : List ℕ) (security : Value) → made ≡ insert old name new_database
    → option_map (λ db. insert made name (with_security db security)) (get made name) ≡ Some new → new ≡ insert old name (with_security new_database security)
opened old made new name security is set =
    let there : get made name ≡ Some new_database = ap (λ (m : Contents). get m name) is ∙ get_same old name new_database in
    let put : Some (insert made name (with_security new_database security)) ≡ Some new =
    ap (option_map (λ db. insert made name (with_security db security))) (sym there) ∙ set in
    let same : insert made name (with_security new_database security) ≡ new = cc in
    sym same ∙ ap (λ (m : Contents). insert m name (with_security new_database security)) is ∙ insert_twice old name new_database (with_security new_database security)

-- a database that was made is there
pub made_there : (old made : Contents) (name : List ℕ) → made ≡ insert old name new_database → get made name ≡ None → ⊥
made_there old made name is none =
    let there : get made name ≡ Some new_database = ap (λ (m : Contents). get m name) is ∙ get_same old name new_database in
    absurd cc
