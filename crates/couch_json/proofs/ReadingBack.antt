-- The canonical text of a lawful value reads as that value, and is the text of no other.
-- serde_json's own limit on depth refuses no text that is not nested too deep.
use Rattle.std.proofs.Common.{◌≡◌, ℕ, suc, ◌^◌, ◌<◌, ◌≤◌, ℤ, pos, negsuc, List, [], ◌∷◌, ◌++◌, Bool, true, false, cond, Ordering, Less, Equal, Greater, Option, Some, None, option_and_then, nat_cmp, IsUtf8, refl, sym, ap, ◌∙◌, arith, Result, Ok, Err, subst, append-nil, ◌+◌}
use Rattle.std.specs.Prelude.{⊤}
use Rattle.std.proofs.lemmas.Int.{ints}
use Rattle.std.proofs.lemmas.Fmt.{IsAscii-decimal, IsAscii-signed}
use Rattle.std.proofs.lemmas.Str.{IsUtf8-append, IsUtf8-nil, IsUtf8-from_ascii}
use Rattle.std.specs.Cmp.Lexicographic.{slice_cmp}
use Rattle.std.specs.List.{AllByRecursion, join_with_byte}
use Rattle.std.specs.Ordering.{match_ordering}
use Rattle.json.specs.Token.{Token}
use Rattle.json.specs.Lex.{tokens}
use Rattle.json.specs.Print.{quoted}
use Rattle.json.specs.Json.{if_last}
use Rattle.json.specs.Json as json
use Rattle.json.specs.Tree as tree
use Rattle.json.specs.Tree.{json_tokens}
use Rattle.json.proofs.Printed.Tokens.{tokens-print}
use Rattle.json.proofs.Printed.Trees.{ArePrintable-json_tokens, value-json_tokens}
use Rattle.json.proofs.Printed.Utf8.{IsUtf8-are_ascii, IsUtf8-quoted}
use Rattle.json.proofs.Unique.Spelling.{value-json_tokens_back}
use Rattle.json.proofs.Printed.Decimals.{IsNumber-decimal, IsNumber-signed_decimal}
use Rattle.serde_json.specs.Data as serde
use Rattle.serde_json.specs.Find.{as_integer, of_integer}
use Rattle.serde_json.specs.Read.{number_of, of_json, of_items, of_members, read, max_depth}
use Rattle.serde_json.specs.Written.{number_text, outline, items_outline, members_outline}
use Rattle.serde_json.proofs.Numbers.{number_of-decimal, number_of-negative}
use Rattle.couch_json.specs.Range.{IsInRange}
use Rattle.couch_json.specs.Value.{Value, null, truth, whole, text, array, object, Items, no_items, item, Members, no_members, member, put, put_all, depth, items_depth, members_depth}
use Rattle.couch_json.specs.Lawful.{IsLawful, AreLawfulItems, AreLawfulMembers}
use Rattle.couch_json.specs.Canonical.{canonical, items_texts, members_texts}
use Rattle.couch_json.specs.Nesting.{max_open, nests_too_deep}
use Rattle.couch_json.specs.Reading.{value_of, items_of_data, members_of_data, whole_or_fault, value_or_fault, data_read, reading, data_read_within}
use Rattle.couch_json.specs.declared.fault.JsonFault.{JsonFault}
use Rattle.couch_json.specs.declared.fault.JsonFault.TheVariants.{Depth}
use Rattle.couch_json.specs.inner.Written.{data_of, items_data, members_data, value_tokens}
use Rattle.couch_json.proofs.Objects.{put_all-no_members}
use Rattle.couch_json.proofs.OpenCounts.{passes, NoBad, nests_too_deep-tokens}
use Rattle.couch_json.proofs.Readings.{data_read-IsUtf8}
use Rattle.couch_json.proofs.Texts.{print-value_tokens}
use Rattle.couch_json.proofs.TreeDepths.{NoBad-json_tokens, passes-json_tokens, depth_within}

-- ---- numbers

below : (n : ℕ) → IsInRange (pos n) → n < 2 ^ 64
below n h = let most = h.below in omega (arith, ints)

above : (n : ℕ) → IsInRange (negsuc n) → n < 2 ^ 63
above n h = let least = h.above in omega (arith, ints)

pub number_of-number_text : (z : ℤ) → IsInRange z → number_of (number_text (of_integer z)) ≡ Some (of_integer z)
number_of-number_text (pos n) h = number_of-decimal n (below n h)
number_of-number_text (negsuc n) h = number_of-negative n (above n h)

as_integer-of_integer : (z : ℤ) → as_integer (of_integer z) ≡ Some z
as_integer-of_integer (pos n) = refl
as_integer-of_integer (negsuc n) = refl

-- ---- members

members_data-match_ordering : (o : Ordering) (a b c : Members) → members_data (match_ordering o a b c) ≡ match_ordering o (members_data a) (members_data b) (members_data c)
members_data-match_ordering Less a b c = refl
members_data-match_ordering Equal a b c = refl
members_data-match_ordering Greater a b c = refl

members_data-put : (name : List ℕ) (v : Value) (ms : Members) → members_data (put name v ms) ≡ serde.put name (data_of v) (members_data ms)
members_data-put name v no_members = refl
members_data-put name v (member other w ms) = members_data-match_ordering (slice_cmp nat_cmp name other) _ _ _ ∙ rw (members_data-put name v ms)

-- ---- what was outlined is read

mutual
  pub of_json-outline : (v : Value) → IsLawful v → of_json (outline (data_of v)) ≡ Some (data_of v)
  of_json-outline null h = refl
  of_json-outline (truth b) h = refl
  of_json-outline (whole n) h = rw (number_of-number_text n h)
  of_json-outline (text s) h = refl
  of_json-outline (array vs) h = rw (of_items-outline vs h)
  of_json-outline (object ms) h = rw (of_members-outline ms no_members h.1, put_all-no_members ms h.0)

  of_items-outline : (vs : Items) → AreLawfulItems vs → of_items (items_outline (items_data vs)) ≡ Some (items_data vs)
  of_items-outline no_items h = refl
  of_items-outline (item v vs) h = rw (of_json-outline v h.0, of_items-outline vs h.1)

  of_members-outline : (ms found : Members) → AreLawfulMembers ms → of_members (members_outline (members_data ms)) (members_data found) ≡ Some (members_data (put_all ms found))
  of_members-outline no_members found h = refl
  of_members-outline (member name v ms) found h =
      rw (of_json-outline v h.1) (ap (of_members (members_outline (members_data ms))) (sym (members_data-put name v found)) ∙ of_members-outline ms (put name v found) h.2)

mutual
  pub value_of-data_of : (v : Value) → IsLawful v → value_of (data_of v) ≡ Some v
  value_of-data_of null h = refl
  value_of-data_of (truth b) h = refl
  value_of-data_of (whole n) h = rw (as_integer-of_integer n)
  value_of-data_of (text s) h = refl
  value_of-data_of (array vs) h = rw (items_of_data-items_data vs h)
  value_of-data_of (object ms) h = rw (members_of_data-members_data ms no_members h.1, put_all-no_members ms h.0)

  items_of_data-items_data : (vs : Items) → AreLawfulItems vs → items_of_data (items_data vs) ≡ Some vs
  items_of_data-items_data no_items h = refl
  items_of_data-items_data (item v vs) h = rw (value_of-data_of v h.0, items_of_data-items_data vs h.1)

  members_of_data-members_data : (ms found : Members) → AreLawfulMembers ms → members_of_data (members_data ms) found ≡ Some (put_all ms found)
  members_of_data-members_data no_members found h = refl
  members_of_data-members_data (member name v ms) found h = rw (value_of-data_of v h.1) (members_of_data-members_data ms (put name v found) h.2)

-- ---- depth

mutual
  depth-outline : (v : Value) → tree.depth (outline (data_of v)) ≡ depth v
  depth-outline null = refl
  depth-outline (truth b) = refl
  depth-outline (whole n) = refl
  depth-outline (text s) = refl
  depth-outline (array vs) = ap suc (items_depth-outline vs)
  depth-outline (object ms) = ap suc (members_depth-outline ms)

  items_depth-outline : (vs : Items) → tree.items_depth (items_outline (items_data vs)) ≡ items_depth vs
  items_depth-outline no_items = refl
  items_depth-outline (item v vs) = rw (depth-outline v, items_depth-outline vs)

  members_depth-outline : (ms : Members) → tree.members_depth (members_outline (members_data ms)) ≡ members_depth ms
  members_depth-outline no_members = refl
  members_depth-outline (member name v ms) = rw (depth-outline v, members_depth-outline ms)

-- ---- the tokens of the text

mutual
  HasNumbers-outline : (v : Value) → IsLawful v → tree.HasNumbers (outline (data_of v))
  HasNumbers-outline null h = tt
  HasNumbers-outline (truth b) h = tt
  HasNumbers-outline (whole (pos n)) h = IsNumber-decimal n (below n h)
  HasNumbers-outline (whole (negsuc n)) h = IsNumber-signed_decimal (negsuc n) (above n h)
  HasNumbers-outline (text s) h = tt
  HasNumbers-outline (array vs) h = ItemsHaveNumbers-outline vs h
  HasNumbers-outline (object ms) h = MembersHaveNumbers-outline ms h.1

  ItemsHaveNumbers-outline : (vs : Items) → AreLawfulItems vs → tree.ItemsHaveNumbers (items_outline (items_data vs))
  ItemsHaveNumbers-outline no_items h = tt
  ItemsHaveNumbers-outline (item v vs) h = (HasNumbers-outline v h.0, ItemsHaveNumbers-outline vs h.1)

  MembersHaveNumbers-outline : (ms : Members) → AreLawfulMembers ms → tree.MembersHaveNumbers (members_outline (members_data ms))
  MembersHaveNumbers-outline no_members h = tt
  MembersHaveNumbers-outline (member name v ms) h = (HasNumbers-outline v h.1, MembersHaveNumbers-outline ms h.2)

pub tokens-canonical : (v : Value) → IsLawful v → tokens (canonical v) ≡ value_tokens v
tokens-canonical v h = ap tokens (sym (print-value_tokens v)) ∙ tokens-print (value_tokens v) (ArePrintable-json_tokens (outline (data_of v)) (HasNumbers-outline v h))

-- ---- the text is UTF-8

IsUtf8-join : (texts : List (List ℕ)) → AllByRecursion IsUtf8 texts → IsUtf8 (join_with_byte 44 texts)
IsUtf8-join [] h = IsUtf8-nil
IsUtf8-join (t ∷ []) h = h.0
IsUtf8-join (t ∷ u ∷ texts) h = IsUtf8-append t _ h.0 (IsUtf8-append (44 ∷ []) _ (IsUtf8-are_ascii (44 ∷ []) refl) (IsUtf8-join (u ∷ texts) h.1))

mutual
  IsUtf8-canonical : (v : Value) → IsLawful v → IsUtf8 (canonical v)
  IsUtf8-canonical null h = IsUtf8-are_ascii (canonical null) refl
  IsUtf8-canonical (truth true) h = IsUtf8-are_ascii (canonical (truth true)) refl
  IsUtf8-canonical (truth false) h = IsUtf8-are_ascii (canonical (truth false)) refl
  IsUtf8-canonical (whole (pos n)) h = IsUtf8-from_ascii _ (IsAscii-decimal n (below n h))
  IsUtf8-canonical (whole (negsuc n)) h = IsUtf8-from_ascii _ (IsAscii-signed (negsuc n) (above n h))
  IsUtf8-canonical (text s) h = IsUtf8-quoted s h
  IsUtf8-canonical (array vs) h =
      IsUtf8-append (91 ∷ []) _ (IsUtf8-are_ascii (91 ∷ []) refl) (IsUtf8-append (join_with_byte 44 (items_texts vs)) (93 ∷ []) (IsUtf8-join (items_texts vs) (utf8_items vs h)) (IsUtf8-are_ascii (93 ∷ []) refl))
  IsUtf8-canonical (object ms) h =
      IsUtf8-append (123 ∷ []) _ (IsUtf8-are_ascii (123 ∷ []) refl) (IsUtf8-append (join_with_byte 44 (members_texts ms)) (125 ∷ []) (IsUtf8-join (members_texts ms) (utf8_members ms h.1)) (IsUtf8-are_ascii (125 ∷ []) refl))

  utf8_items : (vs : Items) → AreLawfulItems vs → AllByRecursion IsUtf8 (items_texts vs)
  utf8_items no_items h = tt
  utf8_items (item v vs) h = (IsUtf8-canonical v h.0, utf8_items vs h.1)

  utf8_members : (ms : Members) → AreLawfulMembers ms → AllByRecursion IsUtf8 (members_texts ms)
  utf8_members no_members h = tt
  utf8_members (member name v ms) h =
      (IsUtf8-append (quoted name) _ (IsUtf8-quoted name h.0) (IsUtf8-append (58 ∷ []) _ (IsUtf8-are_ascii (58 ∷ []) refl) (IsUtf8-canonical v h.1)), utf8_members ms h.2)

-- ---- the text nests as deep as the value

nests_too_deep-canonical : (v : Value) → IsLawful v → depth v ≤ max_open → nests_too_deep (canonical v) ≡ false
nests_too_deep-canonical v h shallow =
    let tree = outline (data_of v) in
    let is : tokens (canonical v) ≡ json_tokens tree ++ [] = tokens-canonical v h ∙ sym (append-nil (json_tokens tree)) in
    let well : NoBad (tokens (canonical v)) = subst NoBad (sym (tokens-canonical v h)) (NoBad-json_tokens tree) in
    nests_too_deep-tokens (canonical v) well ∙ ap (passes 0) is ∙ passes-json_tokens tree 0 [] (omega (arith, depth-outline v))

-- ---- reading back

pub value-json_tokens_alone : (limit : ℕ) (j : json.Json) → tree.depth j ≤ limit → json.value limit (json_tokens j) ≡ Some (j, [])
value-json_tokens_alone limit j small = ap (json.value limit) (sym (append-nil (json_tokens j))) ∙ value-json_tokens j limit [] small

abbrev pub whole_tree : Option (json.Json × List Token) → Option json.Json
whole_tree o = option_and_then (λ p. if_last p.0 p.1) o

read-canonical : (v : Value) → IsLawful v → depth v ≤ max_open → read (canonical v) ≡ Some (data_of v)
read-canonical v h shallow =
    let tree = outline (data_of v) in
    ap (λ ts. option_and_then of_json (whole_tree (json.value max_depth ts))) (tokens-canonical v h)
    ∙ ap (λ o. option_and_then of_json (whole_tree o)) (value-json_tokens_alone max_depth tree (omega (arith, depth-outline v))) ∙ of_json-outline v h

pub reading-canonical : (v : Value) → IsLawful v → depth v ≤ max_open → reading (canonical v) ≡ Ok v
reading-canonical v h shallow =
    rw (nests_too_deep-canonical v h shallow) (ap value_or_fault (data_read-IsUtf8 (canonical v) (IsUtf8-canonical v h) ∙ read-canonical v h shallow) ∙ ap whole_or_fault (value_of-data_of v h))

abbrev value_or : Value → Result Value JsonFault → Value
value_or v (Ok w) = w
value_or v (Err fault) = v

abbrev IsOkOf : Result Value JsonFault → Type 0
IsOkOf (Ok w) = ⊤
IsOkOf (Err fault) = ⊥

read_shallow : (deep : Bool) (rest : Result Value JsonFault) → IsOkOf (cond deep (Err Depth) rest) → deep ≡ false
read_shallow true rest h = absurd h
read_shallow false rest h = refl

-- what is read isn't nested too deep
pub what_was_read : (v w : Value) → IsLawful v → reading (canonical v) ≡ Ok w → v ≡ w
what_was_read v w h is =
    let tree = outline (data_of v) in
    let whole_text : tokens (canonical v) ≡ json_tokens tree ++ [] = tokens-canonical v h ∙ sym (append-nil (json_tokens tree)) in
    let well : NoBad (tokens (canonical v)) = subst NoBad (sym (tokens-canonical v h)) (NoBad-json_tokens tree) in
    let shallow = read_shallow (nests_too_deep (canonical v)) (value_or_fault (data_read (canonical v))) (subst IsOkOf (sym is) tt) in
    let few : passes 0 (json_tokens tree ++ []) ≡ false = sym (ap (passes 0) whole_text) ∙ sym (nests_too_deep-tokens (canonical v) well) ∙ shallow in
    let within = depth_within tree 0 [] few in
    ap (value_or v) (sym (reading-canonical v h (omega (arith, within.0, depth-outline v))) ∙ is)

-- ---- one text, one value

abbrev from_some : {A : Type 0} → A → Option A → A
from_some a None = a
from_some a (Some b) = b

json_tokens-injective : (i j : json.Json) → json_tokens i ≡ json_tokens j → i ≡ j
json_tokens-injective i j same =
    let limit = tree.depth i + tree.depth j in
    let both = sym (value-json_tokens_alone limit i (omega arith)) ∙ ap (json.value limit) same ∙ value-json_tokens_alone limit j (omega arith) in
    ap (λ o. (from_some {A = json.Json × List Token} (i, []) o).0) both

pub canonical-injective : (v w : Value) → IsLawful v → IsLawful w → canonical v ≡ canonical w → v ≡ w
canonical-injective v w h g same =
    let outlines = json_tokens-injective (outline (data_of v)) (outline (data_of w)) (sym (tokens-canonical v h) ∙ ap tokens same ∙ tokens-canonical w g) in
    let datas = ap (from_some (data_of v)) (sym (of_json-outline v h) ∙ ap of_json outlines ∙ of_json-outline w g) in
    ap (from_some v) (sym (value_of-data_of v h) ∙ ap value_of datas ∙ value_of-data_of w g)

-- ---- the limit of serde_json

last_whole : (o : Option (json.Json × List Token)) (j : json.Json) → whole_tree o ≡ Some j → o ≡ Some (j, [])
last_whole None j h = absurd (cc)
last_whole (Some (i, [])) j h = ap (λ k. Some (k, [])) (ap (from_some i) h)
last_whole (Some (i, t ∷ rest)) j h = absurd (cc)

some_tree : (o : Option json.Json) (d : serde.Data) → option_and_then of_json o ≡ Some d → (j : json.Json) × (o ≡ Some j) × (of_json j ≡ Some d)
some_tree None d h = absurd (cc)
some_tree (Some j) d h = (j, refl, h)

pub read-within : (bytes : List ℕ) → nests_too_deep bytes ≡ false → (limit : ℕ) (d : serde.Data) → data_read_within limit bytes ≡ Some d → read bytes ≡ Some d
read-within bytes shallow limit d h =
    let found = some_tree _ d h in
    let j = found.0 in
    let alone = last_whole _ j found.1 in
    let is : tokens bytes ≡ json_tokens j ++ [] = value-json_tokens_back limit (tokens bytes) [] j alone in
    let well : NoBad (tokens bytes) = subst NoBad (sym (is ∙ append-nil (json_tokens j))) (NoBad-json_tokens j) in
    let few : passes 0 (json_tokens j ++ []) ≡ false = sym (ap (passes 0) is) ∙ sym (nests_too_deep-tokens bytes well) ∙ shallow in
    let within = depth_within j 0 [] few in
    ap (λ ts. option_and_then of_json (whole_tree (json.value max_depth ts))) (is ∙ append-nil (json_tokens j))
    ∙ ap (λ o. option_and_then of_json (whole_tree o)) (value-json_tokens_alone max_depth j (omega (arith, within.0))) ∙ found.2
