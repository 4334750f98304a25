-- The order of values: null, false, true, numbers, texts, arrays, objects.
-- CouchDB manual, "Views Collation"; texts go by their bytes here, and not by ICU.
use Rattle.std.specs.Prelude.{ℕ}
use Rattle.std.specs.declared.cmp.Ordering.{Ordering}
use Rattle.std.specs.declared.cmp.Ordering.TheVariants.{Less, Equal, Greater}
use Rattle.std.specs.Ordering.{nat_cmp, int_cmp, bool_cmp, ordering_then}
use Rattle.std.specs.Cmp.Lexicographic.{slice_cmp}
use Rattle.couch_json.specs.Value.{Value, null, truth, whole, text, array, object, Items, no_items, item, Members, no_members, member}

-- where the value's kind stands among the kinds
abbrev pub kind_rank : Value → ℕ
kind_rank null = 0
kind_rank (truth b) = 1
kind_rank (whole n) = 2
kind_rank (text s) = 3
kind_rank (array vs) = 4
kind_rank (object ms) = 5

-- Values of one kind: numbers by size, texts by bytes, arrays element by element, objects member by member (name, then
-- value). What is a proper front of the other is less.
abbrev mutual
  pub collation : Value → Value → Ordering
  collation (truth a) (truth b) = bool_cmp a b
  collation (whole m) (whole n) = int_cmp m n
  collation (text s) (text t) = slice_cmp nat_cmp s t
  collation (array vs) (array ws) = items_collation vs ws
  collation (object ms) (object ns) = members_collation ms ns
  collation v w = nat_cmp (kind_rank v) (kind_rank w)

  -- two arrays, element by element
  pub items_collation : Items → Items → Ordering
  items_collation no_items no_items = Equal
  items_collation no_items (item w ws) = Less
  items_collation (item v vs) no_items = Greater
  items_collation (item v vs) (item w ws) = ordering_then (collation v w) (items_collation vs ws)

  -- two objects, member by member: the name, then the value
  pub members_collation : Members → Members → Ordering
  members_collation no_members no_members = Equal
  members_collation no_members (member name w ns) = Less
  members_collation (member name v ms) no_members = Greater
  members_collation (member name v ms) (member other w ns) =
      ordering_then (slice_cmp nat_cmp name other) (ordering_then (collation v w) (members_collation ms ns))
