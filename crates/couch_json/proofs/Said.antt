-- A canonical text says its value, and the text of an array or an object that is not closed yet says what stands there so far.
use Rattle.std.proofs.Common.{◌≡◌, ℕ, ◌≤◌, List, [], ◌∷◌, ◌++◌, Bool, true, false, length, option_and_then, codes, refl, sym, ap, ◌∙◌, subst, arith, append_assoc, length-append}
use Rattle.std.specs.List.{join_with_byte}
use Rattle.std.specs.declared.cmp.Ordering.TheVariants.{Less}
use Rattle.std.specs.Ordering.{nat_cmp}
use Rattle.std.specs.Cmp.Lexicographic.{slice_cmp}
use Rattle.std.specs.Prelude.{IsUtf8}
use Rattle.json.specs.Json as json
use Rattle.json.specs.Print.{quoted}
use Rattle.json.specs.Tree as tree
use Rattle.json.specs.Tree.{json_tokens}
use Rattle.serde_json.specs.Read.{of_json}
use Rattle.serde_json.specs.Written.{outline}
use Rattle.couch_json.specs.Canonical.{canonical, items_texts, members_texts}
use Rattle.couch_json.specs.Lawful.{IsLawful, AreLawfulItems, IsBefore, HasAscendingNames, AreLawfulMembers}
use Rattle.couch_json.specs.Reading.{value_of}
use Rattle.couch_json.specs.Said.{value_said, IsText, list_of_items, elements_of, elements_said, has_no_values, BeginsArray, members_of_value, members_said, has_no_members, with_last, IsBehind, BeginsObject, behind_comma}
use Rattle.couch_json.specs.Parts.{value_or_null}
use Rattle.couch_json.specs.Value.{Value, array, object, Members, no_members, member}
use Rattle.couch_json.specs.View.{items_of}
use Rattle.couch_json.specs.inner.Written.{data_of}
use Rattle.couch_json.proofs.ReadingBack.{of_json-outline, tokens-canonical, value-json_tokens_alone, value_of-data_of, whole_tree}

-- ---- a tree is no deeper than it has tokens

mutual
  depth-tokens : (j : json.Json) → tree.depth j ≤ length (json_tokens j)
  depth-tokens json.null = omega arith
  depth-tokens (json.boolean b) = omega arith
  depth-tokens (json.number s) = omega arith
  depth-tokens (json.string s) = omega arith
  depth-tokens (json.array js) = let inside = items_depth-tokens js in omega (arith, inside)
  depth-tokens (json.object ms) = let inside = members_depth-tokens ms in omega (arith, inside)

  items_depth-tokens : (js : json.Items) → tree.items_depth js ≤ length (tree.items_tokens js)
  items_depth-tokens json.no_items = omega arith
  items_depth-tokens (json.item j js) =
      let first = depth-tokens j in
      let rest = items_depth-tokens js in
      omega (arith, first, rest, length-append (json_tokens j) (tree.items_tokens js))

  members_depth-tokens : (ms : json.Members) → tree.members_depth ms ≤ length (tree.members_tokens ms)
  members_depth-tokens json.no_members = omega arith
  members_depth-tokens (json.member k j ms) =
      let first = depth-tokens j in
      let rest = members_depth-tokens ms in
      omega (arith, first, rest, length-append (json_tokens j) (tree.members_tokens ms))

-- ---- a canonical text says its value

pub value_said-canonical : (v : Value) → IsLawful v → value_said (canonical v) ≡ v
unfolding value_said
value_said-canonical v h =
    let j = outline (data_of v) in
    ap (λ ts. value_or_null (option_and_then value_of (option_and_then of_json (whole_tree (json.value (length ts) ts))))) (tokens-canonical v h)
    ∙ ap (λ o. value_or_null (option_and_then value_of (option_and_then of_json (whole_tree o)))) (value-json_tokens_alone (length (json_tokens j)) j (depth-tokens j))
    ∙ ap (λ o. value_or_null (option_and_then value_of o)) (of_json-outline v h) ∙ ap value_or_null (value_of-data_of v h)

pub said_by : (bytes : List ℕ) (v : Value) → bytes ≡ canonical v → IsLawful v → value_said bytes ≡ v
said_by bytes v is h = ap value_said is ∙ value_said-canonical v h

pub is_text : (bytes : List ℕ) (v : Value) → bytes ≡ canonical v → IsLawful v → IsText bytes
is_text bytes v is h =
    let said = said_by bytes v is h in
    (is ∙ ap canonical (sym said), subst IsLawful (sym said) h)

-- ---- what stands so far

list_of_items-items_of : (vs : List Value) → list_of_items (items_of vs) ≡ vs
list_of_items-items_of [] = refl
list_of_items-items_of (v ∷ vs) = ap (λ ws. v ∷ ws) (list_of_items-items_of vs)

-- the text of an array that is closed
pub closed_array : (bytes : List ℕ) (empty : Bool) (vs : List Value) → BeginsArray bytes empty vs → bytes ++ codes "]" ≡ canonical (array (items_of vs))
closed_array bytes empty vs h = ap (λ s. s ++ codes "]") h.0

pub closed_object : (bytes : List ℕ) (empty : Bool) (ms : Members) → BeginsObject bytes empty ms → bytes ++ codes "}" ≡ canonical (object ms)
closed_object bytes empty ms h = ap (λ s. s ++ codes "}") h.0

pub elements_said_by : (bytes : List ℕ) (empty : Bool) (vs : List Value) → BeginsArray bytes empty vs → elements_said bytes ≡ vs
elements_said_by bytes empty vs h =
    ap elements_of (said_by (bytes ++ codes "]") (array (items_of vs)) (closed_array bytes empty vs h) h.2) ∙ list_of_items-items_of vs

pub members_said_by : (bytes : List ℕ) (empty : Bool) (ms : Members) → BeginsObject bytes empty ms → members_said bytes ≡ ms
members_said_by bytes empty ms h = ap members_of_value (said_by (bytes ++ codes "}") (object ms) (closed_object bytes empty ms h) h.2)

-- what was begun is what the bytes say
pub array_begun : (bytes : List ℕ) (empty : Bool) (vs : List Value) → BeginsArray bytes empty vs → BeginsArray bytes empty (elements_said bytes)
array_begun bytes empty vs h = subst (BeginsArray bytes empty) (sym (elements_said_by bytes empty vs h)) h

pub object_begun : (bytes : List ℕ) (empty : Bool) (ms : Members) → BeginsObject bytes empty ms → BeginsObject bytes empty (members_said bytes)
object_begun bytes empty ms h = subst (BeginsObject bytes empty) (sym (members_said_by bytes empty ms h)) h

-- ---- one more

abbrev has_no_texts : List (List ℕ) → Bool
has_no_texts [] = true
has_no_texts (t ∷ ts) = false

joined_more : (ts : List (List ℕ)) (t : List ℕ) → join_with_byte 44 (ts ++ t ∷ []) ≡ join_with_byte 44 ts ++ behind_comma (has_no_texts ts) t
joined_more [] t = refl
joined_more (s ∷ []) t = refl
joined_more (s ∷ u ∷ ts) t =
    ap (λ r. s ++ 44 ∷ r) (joined_more (u ∷ ts) t) ∙ sym (append_assoc s (44 ∷ join_with_byte 44 (u ∷ ts)) (44 ∷ t))

items_texts-more : (vs : List Value) (v : Value) → items_texts (items_of (vs ++ v ∷ [])) ≡ items_texts (items_of vs) ++ canonical v ∷ []
items_texts-more [] v = refl
items_texts-more (w ∷ vs) v = ap (λ ts. canonical w ∷ ts) (items_texts-more vs v)

no_texts_of_values : (vs : List Value) → has_no_texts (items_texts (items_of vs)) ≡ has_no_values vs
no_texts_of_values [] = refl
no_texts_of_values (v ∷ vs) = refl

lawful_more : (vs : List Value) (v : Value) → AreLawfulItems (items_of vs) → IsLawful v → AreLawfulItems (items_of (vs ++ v ∷ []))
lawful_more [] v h is = (is, tt)
lawful_more (w ∷ vs) v h is = (h.0, lawful_more vs v h.1 is)

filled_more : (vs : List Value) (v : Value) → false ≡ has_no_values (vs ++ v ∷ [])
filled_more [] v = refl
filled_more (w ∷ vs) v = refl

-- an array with one more element
pub array_more : (bytes more : List ℕ) (empty : Bool) (vs : List Value) (v : Value) → BeginsArray bytes empty vs → IsLawful v → more ≡ behind_comma empty (canonical v)
    → BeginsArray (bytes ++ more) false (vs ++ v ∷ [])
array_more bytes more empty vs v h is same =
    let ts = items_texts (items_of vs) in
    let comma : more ≡ behind_comma (has_no_texts ts) (canonical v) = same ∙ ap (λ e. behind_comma e (canonical v)) (h.1 ∙ sym (no_texts_of_values vs)) in
    let joined : join_with_byte 44 (items_texts (items_of (vs ++ v ∷ []))) ≡ join_with_byte 44 ts ++ behind_comma (has_no_texts ts) (canonical v) =
    ap (join_with_byte 44) (items_texts-more vs v) ∙ joined_more ts (canonical v) in
    ((λ i. h.0 i ++ comma i) ∙ ap (λ s. codes "[" ++ s) (sym joined), filled_more vs v, lawful_more vs v h.2 is)

members_texts-more : (ms : Members) (name : List ℕ) (v : Value) → members_texts (with_last ms name v) ≡ members_texts ms ++ (quoted name ++ (codes ":" ++ canonical v)) ∷ []
members_texts-more no_members name v = refl
members_texts-more (member other w ms) name v = ap (λ ts. (quoted other ++ (codes ":" ++ canonical w)) ∷ ts) (members_texts-more ms name v)

no_texts_of_members : (ms : Members) → has_no_texts (members_texts ms) ≡ has_no_members ms
no_texts_of_members no_members = refl
no_texts_of_members (member name v ms) = refl

before_more : (other : List ℕ) (ms : Members) (name : List ℕ) (v : Value) → IsBefore other ms → slice_cmp nat_cmp other name ≡ Less → IsBefore other (with_last ms name v)
before_more other no_members name v h less = (less, tt)
before_more other (member third w ms) name v h less = (h.0, before_more other ms name v h.1 less)

ascending_more : (ms : Members) (name : List ℕ) (v : Value) → HasAscendingNames ms → IsBehind name ms → HasAscendingNames (with_last ms name v)
ascending_more no_members name v h behind = (tt, tt)
ascending_more (member other w ms) name v h behind = (before_more other ms name v h.0 behind.0, ascending_more ms name v h.1 behind.1)

lawful_members_more : (ms : Members) (name : List ℕ) (v : Value) → AreLawfulMembers ms → IsUtf8 name → IsLawful v → AreLawfulMembers (with_last ms name v)
lawful_members_more no_members name v h utf8 is = (utf8, is, tt)
lawful_members_more (member other w ms) name v h utf8 is = (h.0, h.1, lawful_members_more ms name v h.2 utf8 is)

filled_members : (ms : Members) (name : List ℕ) (v : Value) → false ≡ has_no_members (with_last ms name v)
filled_members no_members name v = refl
filled_members (member other w ms) name v = refl

comma_apart : (empty : Bool) (s t : List ℕ) → behind_comma empty s ++ t ≡ behind_comma empty (s ++ t)
comma_apart true s t = refl
comma_apart false s t = refl

-- an object with one more member
pub object_more : (bytes key more : List ℕ) (empty : Bool) (ms : Members) (name : List ℕ) (v : Value) → BeginsObject bytes empty ms → IsBehind name ms → IsUtf8 name → IsLawful v
    → key ≡ behind_comma empty (quoted name ++ codes ":") → more ≡ canonical v → BeginsObject ((bytes ++ key) ++ more) false (with_last ms name v)
object_more bytes key more empty ms name v h behind utf8 is same value =
    let ts = members_texts ms in
    let t = quoted name ++ (codes ":" ++ canonical v) in
    let comma : key ++ more ≡ behind_comma (has_no_texts ts) t =
    (λ i. same i ++ value i) ∙ comma_apart empty (quoted name ++ codes ":") (canonical v)
    ∙ ap (behind_comma empty) (append_assoc (quoted name) (codes ":") (canonical v))
    ∙ ap (λ e. behind_comma e t) (h.1 ∙ sym (no_texts_of_members ms)) in
    let joined : join_with_byte 44 (members_texts (with_last ms name v)) ≡ join_with_byte 44 ts ++ behind_comma (has_no_texts ts) t =
    ap (join_with_byte 44) (members_texts-more ms name v) ∙ joined_more ts t in (
      append_assoc bytes key more ∙ (λ i. h.0 i ++ comma i) ∙ ap (λ s. codes "{" ++ s) (sym joined),
      filled_members ms name v,
      (ascending_more ms name v h.2.0 behind, lawful_members_more ms name v h.2.1 utf8 is),
    )

-- ---- as the code has it

-- one more element behind those that the bytes say
pub pushed : (before after more : List ℕ) (empty : Bool) (vs : List Value) (v : Value) → BeginsArray before empty (elements_said before) → elements_said before ≡ vs → IsLawful v
    → more ≡ behind_comma empty (canonical v) → after ≡ before ++ more → BeginsArray after false (vs ++ v ∷ [])
pushed before after more empty vs v h said is same all =
    subst (λ bytes. BeginsArray bytes false (vs ++ v ∷ [])) (sym all) (array_more before more empty vs v (subst (BeginsArray before empty) said h) is same)

-- one more member behind those that the bytes say
pub put_behind : (before key more after : List ℕ) (empty : Bool) (ms : Members) (name : List ℕ) (v : Value) → BeginsObject before empty (members_said before) → members_said before ≡ ms
    → IsBehind name ms → IsUtf8 name → IsLawful v → key ≡ behind_comma empty (quoted name ++ codes ":") → more ≡ canonical v → after ≡ (before ++ key) ++ more
    → BeginsObject after false (with_last ms name v)
put_behind before key more after empty ms name v h said behind utf8 is same value all =
    subst (λ bytes. BeginsObject bytes false (with_last ms name v)) (sym all)
    (object_more before key more empty ms name v (subst (BeginsObject before empty) said h) behind utf8 is same value)

-- the array that is closed
pub ended_array : (before after : List ℕ) (empty : Bool) (vs : List Value) → BeginsArray before empty (elements_said before) → elements_said before ≡ vs → after ≡ before ++ codes "]"
    → (after ≡ canonical (array (items_of vs))) × IsLawful (array (items_of vs))
ended_array before after empty vs h said all =
    let g = subst (BeginsArray before empty) said h in
    (all ∙ closed_array before empty vs g, g.2)

pub ended_object : (before after : List ℕ) (empty : Bool) (ms : Members) → BeginsObject before empty (members_said before) → members_said before ≡ ms → after ≡ before ++ codes "}"
    → (after ≡ canonical (object ms)) × IsLawful (object ms)
ended_object before after empty ms h said all =
    let g = subst (BeginsObject before empty) said h in
    (all ∙ closed_object before empty ms g, g.2)
