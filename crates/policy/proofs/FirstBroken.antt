-- The rule that is named is the first that is broken.
use Rattle.std.proofs.Common.{◌≡◌, Bool, true, false, cond, ℕ, List, [], ◌∷◌, Option, Some, None, refl, sym, ap, ◌∙◌}
use Rattle.std.specs.declared.cmp.Ordering.TheVariants.{Less, Greater}
use Rattle.std.specs.Ordering.{eq_by_cmp, is_eq, ordering_reverse}
use Rattle.std.specs.Cmp.{first_so, second_so, tied_itself}
use Rattle.std.specs.Cmp.Lexicographic.{nat_list_cmp_total}
use Rattle.std.specs.FinMap.{entries, entries_sorted, find, get, get-entries, is_sorted, nat_cmp-IsAntisymmetric, slice_cmp-IsAntisymmetric}
use Rattle.std.specs.FinMap.Entries.{below_all}
use Rattle.couch_json.specs.Value.{Value}
use Rattle.tree.proofs.Kept.{true_from_T}
use Rattle.tree.proofs.SortedEntries.{less}
use Rattle.policy.proofs.RuleEntries.{Entry, cmp, equal}
use Rattle.policy.specs.UpdateRules.{IsFirstBroken, Rules, first_broken, holds, update_refusal}

inside : {X : Type 0} (x y : X) → Some x ≡ Some y → x ≡ y
inside x y e = cc

same : (a b : List ℕ) → eq_by_cmp cmp a b ≡ true → a ≡ b
same a b t = slice_cmp-IsAntisymmetric nat_cmp-IsAntisymmetric a b (equal _ t)

above : (a b : List ℕ) → cmp a b ≡ Less → cmp b a ≡ Greater
above a b lt = nat_list_cmp_total.antisymm b a ∙ ap ordering_reverse lt

-- what is found among entries that are all above a key is above it too
below_found : (k : List ℕ) (es : List Entry) (q : List ℕ) (r : Option Value) → below_all cmp k es ≡ true → find cmp q es ≡ Some r → cmp k q ≡ Less
below_found k [] q r below there = cc
below_found k (e ∷ es) q r below there =
    elim (eq_by_cmp cmp q e.0) as (λ b. eq_by_cmp cmp q e.0 ≡ b → cond b (Some e.1) (find cmp q es) ≡ Some r → cmp k q ≡ Less) [
      | true ↦ λ t f. ap (cmp k) (same q e.0 t) ∙ less _ (first_so _ _ below)
      | false ↦ λ t f. below_found k es q r (second_so _ _ below) f
    ] refl there

record IsFirstIn (es : List Entry) (argument : Value) (id : List ℕ) : Type 0 where
  rule : Option Value
  there : find cmp id es ≡ Some rule
  broken : holds rule argument ≡ false
  first : (other : List ℕ) (r : Option Value) → find cmp other es ≡ Some r → cmp other id ≡ Less → holds r argument ≡ true

first_in : (es : List Entry) (argument : Value) (id : List ℕ) → is_sorted cmp es ≡ true → first_broken es argument ≡ Some id → IsFirstIn es argument id
first_in [] argument id sorted e = cc
first_in (x ∷ es) argument id sorted e = by (λ f. first_in es argument id (second_so _ _ sorted) f) (holds x.1 argument) refl e
  where
    by : (first_broken es argument ≡ Some id → IsFirstIn es argument id) → (b : Bool) → holds x.1 argument ≡ b → cond b (first_broken es argument) (Some x.0) ≡ Some id → IsFirstIn (x ∷ es) argument id
    by more true h f =
        let m = more f in
        record {
          rule = m.rule;
          there = ap (λ o. cond (is_eq o) (Some x.1) (find cmp id es)) (above x.0 id (below_found x.0 es id m.rule (first_so _ _ sorted) m.there)) ∙ m.there;
          broken = m.broken;
          first = λ other r k lt.
              elim (eq_by_cmp cmp other x.0) as (λ b. cond b (Some x.1) (find cmp other es) ≡ Some r → holds r argument ≡ true) [
                | true ↦ λ j. ap (λ v. holds v argument) (sym (inside x.1 r j)) ∙ h
                | false ↦ λ j. m.first other r j lt
              ] k;
        }
    by more false h f =
        let is : x.0 ≡ id = inside x.0 id f in
        record {
          rule = x.1;
          there = ap (λ k. cond (is_eq (cmp k x.0)) (Some x.1) (find cmp k es)) (sym is) ∙ ap (λ o. cond (is_eq o) (Some x.1) (find cmp x.0 es)) (tied_itself nat_list_cmp_total x.0);
          broken = h;
          first = λ other r k lt.
              let before : cmp other x.0 ≡ Less = ap (cmp other) is ∙ lt in
              let left : find cmp other es ≡ Some r = ap (λ o. cond (is_eq o) (Some x.1) (find cmp other es)) (sym before) ∙ k in
              let behind = above x.0 other (below_found x.0 es other r (first_so _ _ sorted) left) in
              cc;
        }

pub named_first : (rules : Rules) (argument : Value) (id : List ℕ) → update_refusal rules argument ≡ Some id → IsFirstBroken rules argument id
named_first rules argument id e =
    let m = first_in (entries rules) argument id (true_from_T _ (entries_sorted rules)) e in
    record {
      rule = m.rule;
      there = get-entries rules id ∙ m.there;
      broken = m.broken;
      first = λ other r k lt. m.first other r (sym (get-entries rules other) ∙ k) lt;
    }

all_hold : (es : List Entry) (argument : Value) → first_broken es argument ≡ None → (id : List ℕ) (rule : Option Value) → find cmp id es ≡ Some rule → holds rule argument ≡ true
all_hold [] argument e id rule k = cc
all_hold (x ∷ es) argument e id rule k = by (λ f j. all_hold es argument f id rule j) (holds x.1 argument) refl e
  where
    by : (first_broken es argument ≡ None → find cmp id es ≡ Some rule → holds rule argument ≡ true) → (b : Bool) → holds x.1 argument ≡ b → cond b (first_broken es argument) (Some x.0) ≡ None → holds rule argument ≡ true
    by more false h f = cc
    by more true h f =
        elim (eq_by_cmp cmp id x.0) as (λ b. cond b (Some x.1) (find cmp id es) ≡ Some rule → holds rule argument ≡ true) [
          | true ↦ λ j. ap (λ v. holds v argument) (sym (inside x.1 rule j)) ∙ h
          | false ↦ λ j. more f j
        ] k

pub none_broken : (rules : Rules) (argument : Value) → update_refusal rules argument ≡ None → (id : List ℕ) (rule : Option Value) → get rules id ≡ Some rule → holds rule argument ≡ true
none_broken rules argument e id rule k = all_hold (entries rules) argument e id rule (sym (get-entries rules id) ∙ k)
