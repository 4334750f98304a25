-- A code for values: it tells any two of them apart, so that a type of the program may stand for one.
-- No outside source decides.
use Rattle.std.specs.Prelude.{◌≡◌, ℕ}
use Rattle.std.proofs.Common.{ap, arith}
use base.Stored.{Gv, gnil, gnum, gcons, num, Coded, coded_ℕ, coded_ℤ, coded_bool, coded_list}
use Rattle.couch_json.specs.Value.{Value, null, truth, whole, text, array, object, Items, no_items, item, Members, no_members, member}

abbrev front : Gv → Gv
front gnil = gnil
front (gnum n) = gnil
front (gcons a b) = a

abbrev back : Gv → Gv
back gnil = gnil
back (gnum n) = gnil
back (gcons a b) = b

-- 1 where there is a pair
abbrev pair_count : Gv → ℕ
pair_count gnil = 0
pair_count (gnum n) = 0
pair_count (gcons a b) = 1

abbrev mutual
  pub value_numbers : Value → Gv
  value_numbers null = gcons (gnum 0) gnil
  value_numbers (truth b) = gcons (gnum 1) (coded_bool.code b)
  value_numbers (whole n) = gcons (gnum 2) (coded_ℤ.code n)
  value_numbers (text s) = gcons (gnum 3) ((coded_list coded_ℕ).code s)
  value_numbers (array vs) = gcons (gnum 4) (items_numbers vs)
  value_numbers (object ms) = gcons (gnum 5) (members_numbers ms)

  pub items_numbers : Items → Gv
  items_numbers no_items = gnil
  items_numbers (item v vs) = gcons (value_numbers v) (items_numbers vs)

  pub members_numbers : Members → Gv
  members_numbers no_members = gnil
  members_numbers (member name v ms) = gcons ((coded_list coded_ℕ).code name) (gcons (value_numbers v) (members_numbers ms))

mutual
  pub same_value : (v w : Value) → value_numbers v ≡ value_numbers w → v ≡ w
  same_value null null p = λ i. null
  same_value (truth a) (truth b) p = ap truth (coded_bool.inj a b (ap back p))
  same_value (whole m) (whole n) p = ap whole (coded_ℤ.inj m n (ap back p))
  same_value (text s) (text t) p = ap text ((coded_list coded_ℕ).inj s t (ap back p))
  same_value (array vs) (array ws) p = ap array (same_items vs ws (ap back p))
  same_value (object ms) (object ns) p = ap object (same_members ms ns (ap back p))
  same_value v w p = absurd (omega (arith, ap (λ g. num (front g)) p))

  pub same_items : (vs ws : Items) → items_numbers vs ≡ items_numbers ws → vs ≡ ws
  same_items no_items no_items p = λ i. no_items
  same_items (item v vs) (item w ws) p = λ i. item (same_value v w (ap front p) i) (same_items vs ws (ap back p) i)
  same_items vs ws p = absurd (omega (arith, ap pair_count p))

  pub same_members : (ms ns : Members) → members_numbers ms ≡ members_numbers ns → ms ≡ ns
  same_members no_members no_members p = λ i. no_members
  same_members (member a v ms) (member b w ns) p =
      λ i. member ((coded_list coded_ℕ).inj a b (ap front p) i) (same_value v w (ap (λ g. front (back g)) p) i) (same_members ms ns (ap (λ g. back (back g)) p) i)
  same_members ms ns p = absurd (omega (arith, ap pair_count p))

abbrev pub value_code : Coded Value
value_code = record { code = value_numbers; inj = same_value }

abbrev pub members_code : Coded Members
members_code = record { code = members_numbers; inj = same_members }
