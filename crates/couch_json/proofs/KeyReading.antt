-- What is left to read of a key.
use Rattle.std.proofs.Common.{◌≡◌, ◌≢◌, ◌≤◌, ◌<◌, ◌-◌, ◌*◌, ◌%◌, ◌^◌, ℕ, ℤ, zero, suc, ◌+◌, List, [], ◌∷◌, ◌++◌, length, take, drop, Bool, true, false, Option, Some, None, option_map, Result, Ok, Err, OnErr, IfErr, IsUtf8, refl, sym, ap, ap₂, subst, ◌∙◌, append_assoc, append-nil, length-append, String, Global, Vec, string_bytes, arith, rules}
use Rattle.std.specs.declared.cmp.Ordering.{Ordering}
use Rattle.std.specs.declared.cmp.Ordering.TheVariants.{Less, Equal, Greater}
use Rattle.std.specs.Ordering.{match_ordering, nat_cmp}
use Rattle.std.specs.Cmp.Lexicographic.{slice_cmp}
use Rattle.std.specs.Int.{byte_at, bytes_high_first, from_be_bytes, w64}
use Rattle.name_map.specs.Seen.{NameMap}
use Rattle.couch_json.specs.Key.{key, height, number_key, text_key, items_key, members_key}
use Rattle.couch_json.specs.Lawful.{AreLawfulItems, HasAscendingNames, AreLawfulMembers}
use Rattle.couch_json.specs.Range.{IsInRange}
use Rattle.couch_json.specs.inner.KeyFront.{FindsValue, FindsItems, FindsMembers, FindsNumber, FindsText}
use Rattle.couch_json.specs.Value.{Value, null, truth, whole, text, array, object, Items, no_items, item, Members, no_members, member, put, depth, items_depth, members_depth}
use Rattle.couch_json.specs.View.{view, items_view, members_view}
use Rattle.couch_json.specs.declared.value.Json.{Json, Null, Truth, Whole, Text, Array, Object, the_lemmas}
use Rattle.couch_json.proofs.Items.{items_after, items_after-no_items, items_after-push}
use Rattle.couch_json.proofs.KeyOrder.{text_cons, byte_is, height_below, height_order}
use Rattle.couch_json.proofs.Objects.{joined, joined_assoc, joined-no_members, put_last, view-Object}

abbrev pub first_byte : List ℕ → ℕ
first_byte [] = 0
first_byte (b ∷ bs) = b

abbrev pub after_first : List ℕ → List ℕ
after_first [] = []
after_first (b ∷ bs) = bs

-- ---- the kinds

pub finds_null : (limit : ℕ) (bytes : List ℕ) → FindsValue limit (1 ∷ bytes) (Some (null, bytes))
finds_null limit bytes null r h d e = ap (λ t. Some (null, after_first t)) (sym e)
finds_null limit bytes (truth false) r h d e = absurd (omega (arith, ap first_byte e))
finds_null limit bytes (truth true) r h d e = absurd (omega (arith, ap first_byte e))
finds_null limit bytes v r h d e = absurd (omega (arith, ap first_byte e))

pub finds_false : (limit : ℕ) (bytes : List ℕ) → FindsValue limit (2 ∷ bytes) (Some (truth false, bytes))
finds_false limit bytes (truth false) r h d e = ap (λ t. Some (truth false, after_first t)) (sym e)
finds_false limit bytes (truth true) r h d e = absurd (omega (arith, ap first_byte e))
finds_false limit bytes v r h d e = absurd (omega (arith, ap first_byte e))

pub finds_true : (limit : ℕ) (bytes : List ℕ) → FindsValue limit (3 ∷ bytes) (Some (truth true, bytes))
finds_true limit bytes (truth true) r h d e = ap (λ t. Some (truth true, after_first t)) (sym e)
finds_true limit bytes (truth false) r h d e = absurd (omega (arith, ap first_byte e))
finds_true limit bytes v r h d e = absurd (omega (arith, ap first_byte e))

pub finds_text : (limit : ℕ) (bytes : List ℕ) (o : Option (List ℕ × List ℕ)) → FindsText bytes o → FindsValue limit (5 ∷ bytes) (option_map (λ p. (text p.0, p.1)) o)
finds_text limit bytes o found (text s) r h d e = ap (option_map (λ p. (text p.0, p.1))) (found s r h (ap after_first e))
finds_text limit bytes o found (truth false) r h d e = absurd (omega (arith, ap first_byte e))
finds_text limit bytes o found (truth true) r h d e = absurd (omega (arith, ap first_byte e))
finds_text limit bytes o found v r h d e = absurd (omega (arith, ap first_byte e))

pub finds_array : (limit : ℕ) (bytes : List ℕ) (o : Option (Items × List ℕ)) → FindsItems (limit - 1) bytes o
    → FindsValue limit (6 ∷ bytes) (option_map (λ p. (array p.0, p.1)) o)
finds_array limit bytes o found (array vs) r h d e = ap (option_map (λ p. (array p.0, p.1))) (found vs r h (omega (arith, d)) (ap after_first e))
finds_array limit bytes o found (truth false) r h d e = absurd (omega (arith, ap first_byte e))
finds_array limit bytes o found (truth true) r h d e = absurd (omega (arith, ap first_byte e))
finds_array limit bytes o found v r h d e = absurd (omega (arith, ap first_byte e))

pub finds_object : (limit : ℕ) (bytes : List ℕ) (o : Option (Members × List ℕ)) → FindsMembers (limit - 1) bytes o
    → FindsValue limit (7 ∷ bytes) (option_map (λ p. (object p.0, p.1)) o)
finds_object limit bytes o found (object ms) r h d e = ap (option_map (λ p. (object p.0, p.1))) (found ms r h.0 h.1 (omega (arith, d)) (ap after_first e))
finds_object limit bytes o found (truth false) r h d e = absurd (omega (arith, ap first_byte e))
finds_object limit bytes o found (truth true) r h d e = absurd (omega (arith, ap first_byte e))
finds_object limit bytes o found v r h d e = absurd (omega (arith, ap first_byte e))

-- no value has such a first byte, or none that is so flat
pub finds_none : (limit : ℕ) (bytes : List ℕ) → first_byte bytes ≢ 1 → first_byte bytes ≢ 2 → first_byte bytes ≢ 3 → first_byte bytes ≢ 4 → first_byte bytes ≢ 5
    → (first_byte bytes ≡ 6 → limit ≡ 0) → (first_byte bytes ≡ 7 → limit ≡ 0) → FindsValue limit bytes None
finds_none limit bytes n1 n2 n3 n4 n5 n6 n7 null r h d e = absurd (n1 (sym (ap first_byte e)))
finds_none limit bytes n1 n2 n3 n4 n5 n6 n7 (truth false) r h d e = absurd (n2 (sym (ap first_byte e)))
finds_none limit bytes n1 n2 n3 n4 n5 n6 n7 (truth true) r h d e = absurd (n3 (sym (ap first_byte e)))
finds_none limit bytes n1 n2 n3 n4 n5 n6 n7 (whole n) r h d e = absurd (n4 (sym (ap first_byte e)))
finds_none limit bytes n1 n2 n3 n4 n5 n6 n7 (text s) r h d e = absurd (n5 (sym (ap first_byte e)))
finds_none limit bytes n1 n2 n3 n4 n5 n6 n7 (array vs) r h d e = absurd (omega (arith, d, n6 (sym (ap first_byte e))))
finds_none limit bytes n1 n2 n3 n4 n5 n6 n7 (object ms) r h d e = absurd (omega (arith, d, n7 (sym (ap first_byte e))))

-- ---- numbers

eight_bytes : (b0 b1 b2 b3 b4 b5 b6 b7 r0 r1 r2 r3 r4 r5 r6 r7 r8 : ℕ) → r0 ≡ 0 → r1 ≡ b0 * 1 + r0 → r2 ≡ b1 * 256 + r1 → r3 ≡ b2 * 256 ^ 2 + r2 → r4 ≡ b3 * 256 ^ 3 + r3
    → r5 ≡ b4 * 256 ^ 4 + r4 → r6 ≡ b5 * 256 ^ 5 + r5 → r7 ≡ b6 * 256 ^ 6 + r6 → r8 ≡ b7 * 256 ^ 7 + r7
    → b7 * 256 ^ 7 + b6 * 256 ^ 6 + b5 * 256 ^ 5 + b4 * 256 ^ 4 + b3 * 256 ^ 3 + b2 * 256 ^ 2 + b1 * 256 + b0 ≡ r8
eight_bytes b0 b1 b2 b3 b4 b5 b6 b7 r0 r1 r2 r3 r4 r5 r6 r7 r8 e0 e1 e2 e3 e4 e5 e6 e7 e8 = omega arith

-- the lowest eight bytes of a number
low_bytes : (n : ℕ) → from_be_bytes w64 (bytes_high_first 8 n) ≡ n % 256 ^ 8
low_bytes n =
    eight_bytes (byte_at 0 n) (byte_at 1 n) (byte_at 2 n) (byte_at 3 n) (byte_at 4 n) (byte_at 5 n) (byte_at 6 n) (byte_at 7 n) (n % 1) (n % 256) (n % 256 ^ 2) (n % 256 ^ 3) (n % 256 ^ 4) (n % 256 ^ 5)
    (n % 256 ^ 6) (n % 256 ^ 7) (n % 256 ^ 8) (omega arith) (byte_is 0 n) (byte_is 1 n) (byte_is 2 n) (byte_is 3 n) (byte_is 4 n) (byte_is 5 n) (byte_is 6 n) (byte_is 7 n)

height_bytes : (z : ℤ) → IsInRange z → height z ≡ byte_at 8 (height z) * 2 ^ 64 + from_be_bytes w64 (bytes_high_first 8 (height z))
height_bytes z h =
    let fits : height z ≡ height z % 256 ^ 9 = omega (arith, height_below z h) in
    fits ∙ byte_is 8 (height z) ∙ ap (λ low. byte_at 8 (height z) * 2 ^ 64 + low) (sym (low_bytes (height z)))

-- what these bytes say where they are the key of the number
height_of_bytes : (high : ℕ) (between r : List ℕ) (z : ℤ) → IsInRange z → number_key z ++ r ≡ high ∷ between → height z ≡ high * 2 ^ 64 + from_be_bytes w64 (take 8 between)
height_of_bytes high between r z h e =
    height_bytes z h ∙ ap₂ (λ top low. top * 2 ^ 64 + from_be_bytes w64 low) (ap first_byte e) (ap (λ t. take 8 (after_first t)) e)

pub finds_number : (bytes between rest : List ℕ) (high : ℕ) (n : ℤ) → IsInRange n → bytes ≡ high ∷ between → rest ≡ drop 8 between
    → height n ≡ high * 2 ^ 64 + from_be_bytes w64 (take 8 between) → FindsNumber bytes (Some (n, rest))
finds_number bytes between rest high n p is left level z r h e =
    let same : height n ≡ height z = level ∙ sym (height_of_bytes high between r z h (e ∙ is)) in
    let behind : rest ≡ r = left ∙ sym (ap (λ t. drop 8 (after_first t)) (e ∙ is)) in
    λ i. Some (height_order n z p h Equal same i, behind i)

pub finds_high_number : (bytes between : List ℕ) (high : ℕ) → bytes ≡ high ∷ between → ((n : ℤ) → IsInRange n → height n ≢ high * 2 ^ 64 + from_be_bytes w64 (take 8 between))
    → FindsNumber bytes None
finds_high_number bytes between high is none z r h e = absurd (none z h (height_of_bytes high between r z h (e ∙ is)))

pub finds_short_number : (bytes : List ℕ) → length bytes < 9 → FindsNumber bytes None
finds_short_number bytes few z r h e = absurd (omega (arith, few, ap length e))

pub finds_whole : (limit : ℕ) (bytes : List ℕ) (o : Option (ℤ × List ℕ)) → FindsNumber bytes o → FindsValue limit (4 ∷ bytes) (option_map (λ p. (whole p.0, p.1)) o)
finds_whole limit bytes o found (whole n) r h d e = ap (option_map (λ p. (whole p.0, p.1))) (found n r h (ap after_first e))
finds_whole limit bytes o found (truth false) r h d e = absurd (omega (arith, ap first_byte e))
finds_whole limit bytes o found (truth true) r h d e = absurd (omega (arith, ap first_byte e))
finds_whole limit bytes o found v r h d e = absurd (omega (arith, ap first_byte e))

-- ---- the kinds as the code has them

view-Null : view Null ≡ null
view-Null = search (rules, the_lemmas)

view-Truth : (b : Bool) → view (Truth b) ≡ truth b
view-Truth b = search (rules, the_lemmas)

pub view-Whole : (n : ℤ) → view (Whole n) ≡ whole n
view-Whole n = search (rules, the_lemmas)

view-Text : (s : String Global) → view (Text s) ≡ text (string_bytes s)
view-Text s = search (rules, the_lemmas)

view-Array : (v : Vec Json Global) → view (Array v) ≡ array (items_view v.items)
view-Array v = search (rules, the_lemmas)

pub finds_Null : (limit : ℕ) (bytes rest : List ℕ) → bytes ≡ 1 ∷ rest → FindsValue limit bytes (Some (view Null, rest))
finds_Null limit bytes rest is = rw (is, view-Null) (finds_null limit rest)

pub finds_Truth_false : (limit : ℕ) (bytes rest : List ℕ) → bytes ≡ 2 ∷ rest → FindsValue limit bytes (Some (view (Truth false), rest))
finds_Truth_false limit bytes rest is = rw (is, view-Truth false) (finds_false limit rest)

pub finds_Truth_true : (limit : ℕ) (bytes rest : List ℕ) → bytes ≡ 3 ∷ rest → FindsValue limit bytes (Some (view (Truth true), rest))
finds_Truth_true limit bytes rest is = rw (is, view-Truth true) (finds_true limit rest)

pub finds_Whole : (limit : ℕ) (bytes between rest : List ℕ) (v : Value) → bytes ≡ 4 ∷ between → (n : ℤ) × (v ≡ whole n) × FindsNumber between (Some (n, rest))
    → FindsValue limit bytes (Some (v, rest))
finds_Whole limit bytes between rest v is (n, same, found) = rw (is, same) (finds_whole limit between (Some (n, rest)) found)

pub depth_whole : (v : Value) (rest between : List ℕ) → (n : ℤ) × (v ≡ whole n) × FindsNumber between (Some (n, rest)) → depth v ≡ 0
depth_whole v rest between (n, same, found) = ap depth same

-- what every fault shows, each fault shows
pub none_in : {X E : Type 0} (r : Result X E) {P : Type 0} (Q : E → Type 0) → (P → (e : E) → Q e) → OnErr r P → IfErr r Q
none_in (Ok x) Q f h = tt
none_in (Err e) Q f h = f h e

pub finds_Text : (limit : ℕ) (bytes between rest : List ℕ) (s : String Global) → bytes ≡ 5 ∷ between → FindsText between (Some (string_bytes s, rest))
    → FindsValue limit bytes (Some (view (Text s), rest))
finds_Text limit bytes between rest s is found = rw (is, view-Text s) (finds_text limit between (Some (string_bytes s, rest)) found)

pub finds_Array : (limit : ℕ) (bytes between rest : List ℕ) (v : Vec Json Global) → bytes ≡ 6 ∷ between → FindsItems (limit - 1) between (Some (items_view v.items, rest))
    → FindsValue limit bytes (Some (view (Array v), rest))
finds_Array limit bytes between rest v is found = rw (is, view-Array v) (finds_array limit between (Some (items_view v.items, rest)) found)

pub finds_Object : (limit : ℕ) (bytes between rest : List ℕ) (m : NameMap Json) → bytes ≡ 7 ∷ between
    → FindsMembers (limit - 1) between (Some (members_view m.entries, rest)) → FindsValue limit bytes (Some (view (Object m), rest))
finds_Object limit bytes between rest m is found = rw (is, view-Object m) (finds_object limit between (Some (members_view m.entries, rest)) found)

-- ---- a text

-- a text that the bytes begin with goes on, behind what is done, with what is left
abbrev pub TextLeft : List ℕ → List ℕ → List ℕ → ℕ → Type 0
TextLeft bytes done rest count = (s r : List ℕ) → IsUtf8 s → text_key s ++ r ≡ bytes → (t : List ℕ) × (s ≡ done ++ t) × (text_key t ++ r ≡ rest) × (length rest + count ≤ length bytes)

pub text_starts : (bytes : List ℕ) → TextLeft bytes [] bytes 0
text_starts bytes s r h e = (s, refl, e, omega arith)

text_long : (t r : List ℕ) → 2 ≤ length (text_key t ++ r)
text_long [] r = omega arith
text_long (zero ∷ t) r = omega (arith, text_long t r)
text_long (suc x ∷ t) r = omega (arith, text_long t r, ap (λ l. length (l ++ r)) (text_cons (suc x) t (omega arith)))

pub text_fails : (bytes done rest : List ℕ) (count : ℕ) → TextLeft bytes done rest count → (length rest + count ≤ length bytes → length rest ≤ 1) → FindsText bytes None
text_fails bytes done rest count left short s r h e =
    let it = left s r h e in
    absurd (omega (arith, text_long it.0 r, ap length it.2, short it.3))

pub text_ends : (bytes done after : List ℕ) (count : ℕ) → TextLeft bytes done (0 ∷ 0 ∷ after) count → FindsText bytes (Some (done, after))
text_ends bytes done after count left s r h e = let it = left s r h e in go it.0 it.1 it.2
  where
    go : (t : List ℕ) → s ≡ done ++ t → text_key t ++ r ≡ 0 ∷ 0 ∷ after → ◌≡◌ {A = Option (List ℕ × List ℕ)} (Some (done, after)) (Some (s, r))
    go [] is same = λ i. Some (sym (is ∙ append-nil done) i, after_first (after_first (sym same i)))
    go (zero ∷ t) is same = absurd (omega (arith, ap (λ l. first_byte (after_first l)) same))
    go (suc x ∷ t) is same = absurd (omega (arith, ap first_byte (sym (ap (λ l. l ++ r) (text_cons (suc x) t (omega arith))) ∙ same)))

pub text_goes : (bytes done rest : List ℕ) (b count : ℕ) → TextLeft bytes done (b ∷ rest) count → b ≢ 0 → TextLeft bytes (done ++ b ∷ []) rest (count + 1)
text_goes bytes done rest b count left some s r h e = let it = left s r h e in go it.0 it.1 it.2 (omega (arith, it.3))
  where
    go : (t : List ℕ) → s ≡ done ++ t → text_key t ++ r ≡ b ∷ rest → length rest + (count + 1) ≤ length bytes
        → (t : List ℕ) × (s ≡ (done ++ b ∷ []) ++ t) × (text_key t ++ r ≡ rest) × (length rest + (count + 1) ≤ length bytes)
    go [] is same few = absurd (some (sym (ap first_byte same)))
    go (zero ∷ t) is same few = absurd (some (sym (ap first_byte same)))
    go (suc x ∷ t) is same few =
        let opened = sym (ap (λ l. l ++ r) (text_cons (suc x) t (omega arith))) ∙ same in
        (t, is ∙ ap (λ y. done ++ y ∷ t) (ap first_byte opened) ∙ sym (append_assoc done (b ∷ []) t), ap after_first opened, few)

pub text_marked : (bytes done rest : List ℕ) (m count : ℕ) → TextLeft bytes done (0 ∷ m ∷ rest) count → m ≢ 0 → TextLeft bytes (done ++ 0 ∷ []) rest (count + 1)
text_marked bytes done rest m count left some s r h e = let it = left s r h e in go it.0 it.1 it.2 (omega (arith, it.3))
  where
    go : (t : List ℕ) → s ≡ done ++ t → text_key t ++ r ≡ 0 ∷ m ∷ rest → length rest + (count + 1) ≤ length bytes
        → (t : List ℕ) × (s ≡ (done ++ 0 ∷ []) ++ t) × (text_key t ++ r ≡ rest) × (length rest + (count + 1) ≤ length bytes)
    go [] is same few = absurd (some (sym (ap (λ l. first_byte (after_first l)) same)))
    go (zero ∷ t) is same few = (t, is ∙ sym (append_assoc done (0 ∷ []) t), ap (λ l. after_first (after_first l)) same, few)
    go (suc x ∷ t) is same few = absurd (omega (arith, ap first_byte (sym (ap (λ l. l ++ r) (text_cons (suc x) t (omega arith))) ∙ same)))

-- ---- values in a row

key_first : (v : Value) (r : List ℕ) → 0 < first_byte (key v ++ r)
key_first null r = omega arith
key_first (truth false) r = omega arith
key_first (truth true) r = omega arith
key_first (whole n) r = omega arith
key_first (text s) r = omega arith
key_first (array vs) r = omega arith
key_first (object ms) r = omega arith

key_long : (v : Value) → 1 ≤ length (key v)
key_long null = omega arith
key_long (truth false) = omega arith
key_long (truth true) = omega arith
key_long (whole n) = omega arith
key_long (text s) = omega arith
key_long (array vs) = omega arith
key_long (object ms) = omega arith

abbrev pub found_value : Value → List ℕ → Option (Value × List ℕ) → Value × List ℕ
found_value v r None = (v, r)
found_value v r (Some p) = p

-- elements that the bytes begin with go on, behind those that are done, with what is left
abbrev pub ItemsLeft : ℕ → List ℕ → List Json → List ℕ → ℕ → Type 0
ItemsLeft limit bytes done rest count =
    (vs : Items) (r : List ℕ) → AreLawfulItems vs → items_depth vs ≤ limit → items_key vs ++ r ≡ bytes
    → (ws : Items) × (vs ≡ items_after done ws) × AreLawfulItems ws × (items_depth ws ≤ limit) × (items_key ws ++ r ≡ rest) × (length rest + count ≤ length bytes)

pub items_start : (limit : ℕ) (bytes : List ℕ) → ItemsLeft limit bytes [] bytes 0
items_start limit bytes vs r h d e = (vs, refl, h, d, e, omega arith)

pub items_end : (limit : ℕ) (bytes : List ℕ) (done : List Json) (after : List ℕ) (count : ℕ) → ItemsLeft limit bytes done (0 ∷ after) count
    → FindsItems limit bytes (Some (items_view done, after))
items_end limit bytes done after count left vs r h d e = let it = left vs r h d e in go it.0 it.1 it.4
  where
    go : (ws : Items) → vs ≡ items_after done ws → items_key ws ++ r ≡ 0 ∷ after → ◌≡◌ {A = Option (Items × List ℕ)} (Some (items_view done, after)) (Some (vs, r))
    go no_items is same = λ i. Some (sym (is ∙ items_after-no_items done) i, after_first (sym same i))
    go (item w ws) is same = absurd (omega (arith, key_first w (items_key ws ++ r), ap first_byte (sym (append_assoc (key w) (items_key ws) r) ∙ same)))

pub items_go : (limit : ℕ) (bytes : List ℕ) (done : List Json) (rest after : List ℕ) (count : ℕ) (v : Json) → ItemsLeft limit bytes done rest count → first_byte rest ≢ 0
    → FindsValue limit rest (Some (view v, after)) → ItemsLeft limit bytes (done ++ v ∷ []) after (count + 1)
items_go limit bytes done rest after count v left some found vs r h d e = let it = left vs r h d e in go it.0 it.1 it.2 it.3 it.4 it.5
  where
    go : (ws : Items) → vs ≡ items_after done ws → AreLawfulItems ws → items_depth ws ≤ limit → items_key ws ++ r ≡ rest → length rest + count ≤ length bytes
        → (ws : Items) × (vs ≡ items_after (done ++ v ∷ []) ws) × AreLawfulItems ws × (items_depth ws ≤ limit) × (items_key ws ++ r ≡ after) × (length after + (count + 1) ≤ length bytes)
    go no_items is lawful deep same few = absurd (some (sym (ap first_byte same)))
    go (item w ws) is lawful deep same few =
        let opened = sym (append_assoc (key w) (items_key ws) r) ∙ same in
        let this = ap (found_value w []) (found w (items_key ws ++ r) lawful.0 (omega (arith, deep)) opened) in
        let is_after : after ≡ items_key ws ++ r = ap (λ p. p.1) this in
        let long : length rest ≡ length (key w) + length after = ap length (sym opened) ∙ length-append (key w) (items_key ws ++ r) ∙ ap (λ t. length (key w) + length t) (sym is_after) in
        (ws, is ∙ ap (λ x. items_after done (item x ws)) (sym (ap (λ p. p.0) this)) ∙ items_after-push done v ws, lawful.1, omega (arith, deep), sym is_after, omega (arith, few, long, key_long w))

pub items_fail : (limit : ℕ) (bytes : List ℕ) (done : List Json) (rest : List ℕ) (count : ℕ) → ItemsLeft limit bytes done rest count → first_byte rest ≢ 0
    → FindsValue limit rest None → FindsItems limit bytes None
items_fail limit bytes done rest count left some found vs r h d e = let it = left vs r h d e in go it.0 it.2 it.3 it.4
  where
    go : (ws : Items) → AreLawfulItems ws → items_depth ws ≤ limit → items_key ws ++ r ≡ rest → ◌≡◌ {A = Option (Items × List ℕ)} None (Some (vs, r))
    go no_items lawful deep same = absurd (some (sym (ap first_byte same)))
    go (item w ws) lawful deep same = absurd (cc (found w (items_key ws ++ r) lawful.0 (omega (arith, deep)) (sym (append_assoc (key w) (items_key ws) r) ∙ same)))

items_long : (ws : Items) (r : List ℕ) → 1 ≤ length (items_key ws ++ r)
items_long no_items r = omega arith
items_long (item w ws) r = omega (arith, key_long w, length-append (key w) (items_key ws), length-append (key w ++ items_key ws) r)

pub items_short : (limit : ℕ) (bytes : List ℕ) (done : List Json) (rest : List ℕ) (count : ℕ) → ItemsLeft limit bytes done rest count
    → (length rest + count ≤ length bytes → length rest ≤ 0) → FindsItems limit bytes None
items_short limit bytes done rest count left short vs r h d e =
    let it = left vs r h d e in
    absurd (omega (arith, items_long it.0 r, ap length it.4, short it.5))

-- ---- members in a row

abbrev pub MembersLeft : ℕ → List ℕ → Members → List ℕ → ℕ → Type 0
MembersLeft limit bytes done rest count =
    (ms : Members) (r : List ℕ) → HasAscendingNames ms → AreLawfulMembers ms → members_depth ms ≤ limit → members_key ms ++ r ≡ bytes
    → (ns : Members) × (ms ≡ joined done ns) × AreLawfulMembers ns × (members_depth ns ≤ limit) × (members_key ns ++ r ≡ rest) × (length rest + count ≤ length bytes)

pub members_start : (limit : ℕ) (bytes : List ℕ) → MembersLeft limit bytes no_members bytes 0
members_start limit bytes ms r a h d e = (ms, refl, h, d, e, omega arith)

pub members_end : (limit : ℕ) (bytes : List ℕ) (done : Members) (after : List ℕ) (count : ℕ) → MembersLeft limit bytes done (0 ∷ after) count
    → FindsMembers limit bytes (Some (done, after))
members_end limit bytes done after count left ms r a h d e = let it = left ms r a h d e in go it.0 it.1 it.4
  where
    go : (ns : Members) → ms ≡ joined done ns → members_key ns ++ r ≡ 0 ∷ after → ◌≡◌ {A = Option (Members × List ℕ)} (Some (done, after)) (Some (ms, r))
    go no_members is same = λ i. Some (sym (is ∙ joined-no_members done) i, after_first (sym same i))
    go (member name v ns) is same = absurd (omega (arith, ap first_byte same))

member_key : (name : List ℕ) (v : Value) (ns : Members) (r : List ℕ) → members_key (member name v ns) ++ r ≡ 5 ∷ (text_key name ++ (key v ++ (members_key ns ++ r)))
member_key name v ns r = ap (λ t. 5 ∷ t) (append_assoc (text_key name) (key v ++ members_key ns) r ∙ ap (λ t. text_key name ++ t) (append_assoc (key v) (members_key ns) r))

abbrev found_text : List ℕ → Option (List ℕ × List ℕ) → List ℕ × List ℕ
found_text s None = (s, [])
found_text s (Some p) = p

pub members_go : (limit : ℕ) (bytes : List ℕ) (done : Members) (b : ℕ) (rest name between after : List ℕ) (v : Value) (count : ℕ)
    → MembersLeft limit bytes done (b ∷ rest) count → b ≢ 0
    → FindsText rest (Some (name, between)) → FindsValue limit between (Some (v, after)) → MembersLeft limit bytes (put name v done) after (count + 1)
members_go limit bytes done b rest name between after v count left some named found ms r a h d e = let it = left ms r a h d e in go it.0 it.1 it.2 it.3 it.4 it.5
  where
    go : (ns : Members) → ms ≡ joined done ns → AreLawfulMembers ns → members_depth ns ≤ limit → members_key ns ++ r ≡ b ∷ rest → length (b ∷ rest) + count ≤ length bytes
        → (ns : Members) × (ms ≡ joined (put name v done) ns) × AreLawfulMembers ns × (members_depth ns ≤ limit) × (members_key ns ++ r ≡ after) × (length after + (count + 1) ≤ length bytes)
    go no_members is lawful deep same few = absurd (some (sym (ap first_byte same)))
    go (member m w ns) is lawful deep same few =
        let opened = ap after_first (sym (member_key m w ns r) ∙ same) in
        let this = ap (found_text m) (named m (key w ++ (members_key ns ++ r)) lawful.0 opened) in
        let that = ap (found_value w []) (found w (members_key ns ++ r) lawful.1 (omega (arith, deep)) (sym (ap (λ p. p.1) this))) in
        let is_after : after ≡ members_key ns ++ r = ap (λ p. p.1) that in
        let is_name : name ≡ m = ap (λ p. p.0) this in
        let is_value : v ≡ w = ap (λ p. p.0) that in
        let placed : put name v done ≡ joined done (member m w no_members) =
        ap₂ (λ x y. put x y done) is_name is_value ∙ put_last done m w ns (subst HasAscendingNames is a) in
        let counted : length rest ≡ length (text_key m) + (length (key w) + length after) =
        ap length (sym opened) ∙ length-append (text_key m) (key w ++ (members_key ns ++ r))
        ∙ ap (λ n. length (text_key m) + n) (length-append (key w) (members_key ns ++ r) ∙ ap (λ t. length (key w) + length t) (sym is_after)) in
        (ns, is ∙ sym (joined_assoc done (member m w no_members) ns) ∙ ap (λ x. joined x ns) (sym placed), lawful.2, omega (arith, deep), sym is_after, omega (arith, few, counted))

pub members_fail : (limit : ℕ) (bytes : List ℕ) (done : Members) (b : ℕ) (rest name between : List ℕ) (count : ℕ) → MembersLeft limit bytes done (b ∷ rest) count → b ≢ 0
    → FindsText rest (Some (name, between)) → FindsValue limit between None → FindsMembers limit bytes None
members_fail limit bytes done b rest name between count left some named found ms r a h d e = let it = left ms r a h d e in go it.0 it.2 it.3 it.4
  where
    go : (ns : Members) → AreLawfulMembers ns → members_depth ns ≤ limit → members_key ns ++ r ≡ b ∷ rest → ◌≡◌ {A = Option (Members × List ℕ)} None (Some (ms, r))
    go no_members lawful deep same = absurd (some (sym (ap first_byte same)))
    go (member m w ns) lawful deep same =
        let opened = ap after_first (sym (member_key m w ns r) ∙ same) in
        let this = ap (found_text m) (named m (key w ++ (members_key ns ++ r)) lawful.0 opened) in
        absurd (cc (found w (members_key ns ++ r) lawful.1 (omega (arith, deep)) (sym (ap (λ p. p.1) this))))

pub members_unnamed : (limit : ℕ) (bytes : List ℕ) (done : Members) (b : ℕ) (rest : List ℕ) (count : ℕ) → MembersLeft limit bytes done (b ∷ rest) count → b ≢ 0
    → FindsText rest None → FindsMembers limit bytes None
members_unnamed limit bytes done b rest count left some named ms r a h d e = let it = left ms r a h d e in go it.0 it.2 it.4
  where
    go : (ns : Members) → AreLawfulMembers ns → members_key ns ++ r ≡ b ∷ rest → ◌≡◌ {A = Option (Members × List ℕ)} None (Some (ms, r))
    go no_members lawful same = absurd (some (sym (ap first_byte same)))
    go (member m w ns) lawful same = absurd (cc (named m (key w ++ (members_key ns ++ r)) lawful.0 (ap after_first (sym (member_key m w ns r) ∙ same))))

members_long : (ns : Members) (r : List ℕ) → 1 ≤ length (members_key ns ++ r)
members_long no_members r = omega arith
members_long (member m w ns) r = omega arith

pub members_short : (limit : ℕ) (bytes : List ℕ) (done : Members) (rest : List ℕ) (count : ℕ) → MembersLeft limit bytes done rest count
    → (length rest + count ≤ length bytes → length rest ≤ 0) → FindsMembers limit bytes None
members_short limit bytes done rest count left short ms r a h d e =
    let it = left ms r a h d e in
    absurd (omega (arith, members_long it.0 r, ap length it.4, short it.5))

-- ---- depth

pub items_depth-push : (done : List Json) (v : Json) (limit : ℕ) → items_depth (items_view done) ≤ limit → depth (view v) ≤ limit
    → items_depth (items_view (done ++ v ∷ [])) ≤ limit
items_depth-push [] v limit h d = omega (arith, d)
items_depth-push (w ∷ done) v limit h d = omega (arith, h, items_depth-push done v limit (omega (arith, h)) d)

put_depth : (o : Ordering) (name other : List ℕ) (v w : Value) (ms put_ms : Members) (limit : ℕ) → members_depth (member other w ms) ≤ limit → depth v ≤ limit
    → members_depth put_ms ≤ limit
    → members_depth (match_ordering o (member name v (member other w ms)) (member other v ms) (member other w put_ms)) ≤ limit
put_depth Less name other v w ms put_ms limit h d k = omega (arith, h, d)
put_depth Equal name other v w ms put_ms limit h d k = omega (arith, h, d)
put_depth Greater name other v w ms put_ms limit h d k = omega (arith, h, k)

pub members_depth-put : (name : List ℕ) (v : Value) (ms : Members) (limit : ℕ) → members_depth ms ≤ limit → depth v ≤ limit → members_depth (put name v ms) ≤ limit
members_depth-put name v no_members limit h d = omega (arith, d)
members_depth-put name v (member other w ms) limit h d =
    put_depth (slice_cmp nat_cmp name other) name other v w ms (put name v ms) limit h d (members_depth-put name v ms limit (omega (arith, h)) d)
