-- Edges of bounds: which of two is the narrower, and which the wider.
use Rattle.std.proofs.Common.{◌≡◌, Bool, true, false, not, ◌&&◌, ◌||◌, cond, Ordering, Less, Equal, Greater, Option, Some, None, refl, sym, ap, ap₂, ◌∙◌}
use Rattle.std.specs.Ordering.{is_ge, is_gt, is_le, is_lt, match_ordering, ordering_reverse}
use Rattle.couch_json.specs.Collation.{collation}
use Rattle.couch_json.specs.Value.{Value}
use Rattle.couch_json.proofs.Orders.{collation_total}
use Rattle.couch_json.specs.View.{view}
use Rattle.selector.specs.Bounds.{contain, is_above, is_below, is_no_higher, is_no_lower}
use Rattle.selector.specs.declared.bounds.Bounds.TheVariants.{Range}
use Rattle.selector.specs.declared.bounds.Edge.{Edge}

-- ---- truth values

pub both_true : (a b : Bool) → a ≡ true → b ≡ true → a && b ≡ true
both_true a b h g = ap (λ x. x && b) h ∙ g

pub first_true : (a b : Bool) → a && b ≡ true → a ≡ true
first_true true b h = refl
first_true false b h = h

pub second_true : (a b : Bool) → a && b ≡ true → b ≡ true
second_true true b h = h
second_true false b h = absurd (cc)

-- one of two that follows from the other
pub and_second : (a b : Bool) → (b ≡ true → a ≡ true) → b ≡ a && b
and_second true b h = refl
and_second false true h = sym (h refl)
and_second false false h = refl

pub and_first : (a b : Bool) → (a ≡ true → b ≡ true) → a ≡ a && b
and_first true b h = sym (h refl)
and_first false b h = refl

pub or_first : (a b : Bool) → (b ≡ true → a ≡ true) → a ≡ a || b
or_first true b h = refl
or_first false true h = h refl
or_first false false h = refl

pub or_second : (a b : Bool) → (a ≡ true → b ≡ true) → b ≡ a || b
or_second true b h = h refl
or_second false b h = refl

-- ---- a value beside two edges

abbrev above : Bool → Ordering → Bool
above inside o = cond inside (is_ge o) (is_gt o)

abbrev below : Bool → Ordering → Bool
below inside o = cond inside (is_le o) (is_lt o)

tied : (v e f : Value) → collation e f ≡ Equal → collation v f ≡ collation v e
tied v e f level =
    collation_total.antisymm v f ∙ ap ordering_reverse (sym (collation_total.congr e f v level)) ∙ sym (collation_total.antisymm v e)

greater_over : (v e f : Value) → collation e f ≡ Less → (o : Ordering) → o ≡ collation v f → (inside : Bool) → above inside o ≡ true → collation v e ≡ Greater
greater_over v e f less Less is true h = absurd (cc)
greater_over v e f less Less is false h = absurd (cc)
greater_over v e f less Equal is inside h =
    collation_total.congr v f e (sym is) ∙ collation_total.antisymm f e ∙ ap ordering_reverse less
greater_over v e f less Greater is inside h =
    let over : collation f v ≡ Less = collation_total.antisymm f v ∙ ap ordering_reverse (sym is) in
    collation_total.antisymm v e ∙ ap ordering_reverse (collation_total.trans e f v less over)

less_under : (v e f : Value) → collation e f ≡ Greater → (o : Ordering) → o ≡ collation v f → (inside : Bool) → below inside o ≡ true → collation v e ≡ Less
less_under v e f greater Less is inside h =
    let under : collation f e ≡ Less = collation_total.antisymm f e ∙ ap ordering_reverse greater in
    collation_total.trans v f e (sym is) under
less_under v e f greater Equal is inside h =
    collation_total.congr v f e (sym is) ∙ collation_total.antisymm f e ∙ ap ordering_reverse greater
less_under v e f greater Greater is true h = absurd (cc)
less_under v e f greater Greater is false h = absurd (cc)

above_Greater : (inside : Bool) → above inside Greater ≡ true
above_Greater true = refl
above_Greater false = refl

below_Less : (inside : Bool) → below inside Less ≡ true
below_Less true = refl
below_Less false = refl

above_wider : (inside other : Bool) (o : Ordering) → inside || not other ≡ true → above other o ≡ true → above inside o ≡ true
above_wider true true o w h = h
above_wider true false Less w h = h
above_wider true false Equal w h = refl
above_wider true false Greater w h = refl
above_wider false true o w h = absurd (cc)
above_wider false false o w h = h

below_wider : (inside other : Bool) (o : Ordering) → inside || not other ≡ true → below other o ≡ true → below inside o ≡ true
below_wider true true o w h = h
below_wider true false Less w h = refl
below_wider true false Equal w h = refl
below_wider true false Greater w h = h
below_wider false true o w h = absurd (cc)
below_wider false false o w h = h

narrower : (inside other : Bool) → inside || not other ≡ false → other || not inside ≡ true
narrower true other h = absurd (cc)
narrower false true h = refl
narrower false false h = refl

-- ---- two edges

pub above_first : (v e f : Value) (b c : Bool) → is_no_higher e b f c ≡ true → above c (collation v f) ≡ true → above b (collation v e) ≡ true
above_first v e f b c = go (collation e f) refl
  where
    go : (o : Ordering) → o ≡ collation e f → match_ordering o true (b || not c) false ≡ true → above c (collation v f) ≡ true → above b (collation v e) ≡ true
    go Less is wider h = ap (above b) (greater_over v e f (sym is) (collation v f) refl c h) ∙ above_Greater b
    go Equal is wider h = above_wider b c (collation v e) wider (ap (above c) (sym (tied v e f (sym is))) ∙ h)
    go Greater is wider h = absurd (cc)

pub above_second : (v e f : Value) (b c : Bool) → is_no_higher e b f c ≡ false → above b (collation v e) ≡ true → above c (collation v f) ≡ true
above_second v e f b c = go (collation e f) refl
  where
    go : (o : Ordering) → o ≡ collation e f → match_ordering o true (b || not c) false ≡ false → above b (collation v e) ≡ true → above c (collation v f) ≡ true
    go Less is wider h = absurd (cc)
    go Equal is wider h = above_wider c b (collation v f) (narrower b c wider) (ap (above b) (tied v e f (sym is)) ∙ h)
    go Greater is wider h =
        let less : collation f e ≡ Less = collation_total.antisymm f e ∙ ap ordering_reverse (sym is) in
        ap (above c) (greater_over v f e less (collation v e) refl b h) ∙ above_Greater c

pub below_first : (v e f : Value) (b c : Bool) → is_no_lower e b f c ≡ true → below c (collation v f) ≡ true → below b (collation v e) ≡ true
below_first v e f b c = go (collation e f) refl
  where
    go : (o : Ordering) → o ≡ collation e f → match_ordering o false (b || not c) true ≡ true → below c (collation v f) ≡ true → below b (collation v e) ≡ true
    go Less is wider h = absurd (cc)
    go Equal is wider h = below_wider b c (collation v e) wider (ap (below c) (sym (tied v e f (sym is))) ∙ h)
    go Greater is wider h = ap (below b) (less_under v e f (sym is) (collation v f) refl c h) ∙ below_Less b

pub below_second : (v e f : Value) (b c : Bool) → is_no_lower e b f c ≡ false → below b (collation v e) ≡ true → below c (collation v f) ≡ true
below_second v e f b c = go (collation e f) refl
  where
    go : (o : Ordering) → o ≡ collation e f → match_ordering o false (b || not c) true ≡ false → below b (collation v e) ≡ true → below c (collation v f) ≡ true
    go Less is wider h =
        let greater : collation f e ≡ Greater = collation_total.antisymm f e ∙ ap ordering_reverse (sym is) in
        ap (below c) (less_under v f e greater (collation v e) refl b h) ∙ below_Less c
    go Equal is wider h = below_wider c b (collation v f) (narrower b c wider) (ap (below b) (tied v e f (sym is)) ∙ h)
    go Greater is wider h = absurd (cc)

-- ---- two edges that may be missing

pub above_from : {first second : Option Edge} {e f : Edge} (v : Value) → first ≡ Some e → second ≡ Some f
    → is_no_higher (view e.value.now) e.inclusive (view f.value.now) f.inclusive ≡ true → is_above second v ≡ true → is_above first v ≡ true
above_from {first} {second} {e} {f} v is_first is_second wide h =
    ap (λ o. is_above o v) is_first ∙ above_first v (view e.value.now) (view f.value.now) e.inclusive f.inclusive wide (ap (λ o. is_above o v) (sym is_second) ∙ h)

pub above_to : {first second : Option Edge} {e f : Edge} (v : Value) → first ≡ Some e → second ≡ Some f
    → is_no_higher (view e.value.now) e.inclusive (view f.value.now) f.inclusive ≡ false → is_above first v ≡ true → is_above second v ≡ true
above_to {first} {second} {e} {f} v is_first is_second wide h =
    ap (λ o. is_above o v) is_second ∙ above_second v (view e.value.now) (view f.value.now) e.inclusive f.inclusive wide (ap (λ o. is_above o v) (sym is_first) ∙ h)

pub below_from : {first second : Option Edge} {e f : Edge} (v : Value) → first ≡ Some e → second ≡ Some f
    → is_no_lower (view e.value.now) e.inclusive (view f.value.now) f.inclusive ≡ true → is_below second v ≡ true → is_below first v ≡ true
below_from {first} {second} {e} {f} v is_first is_second wide h =
    ap (λ o. is_below o v) is_first ∙ below_first v (view e.value.now) (view f.value.now) e.inclusive f.inclusive wide (ap (λ o. is_below o v) (sym is_second) ∙ h)

pub below_to : {first second : Option Edge} {e f : Edge} (v : Value) → first ≡ Some e → second ≡ Some f
    → is_no_lower (view e.value.now) e.inclusive (view f.value.now) f.inclusive ≡ false → is_below first v ≡ true → is_below second v ≡ true
below_to {first} {second} {e} {f} v is_first is_second wide h =
    ap (λ o. is_below o v) is_second ∙ below_second v (view e.value.now) (view f.value.now) e.inclusive f.inclusive wide (ap (λ o. is_below o v) (sym is_first) ∙ h)

-- ---- two ranges

regrouped : (a b c d : Bool) → (a && c) && (b && d) ≡ (a && b) && (c && d)
regrouped true true c d = refl
regrouped true false true d = refl
regrouped true false false d = refl
regrouped false b c d = refl

pub contain-both : (low high other_low other_high l h : Option Edge) → ((v : Value) → is_above l v ≡ is_above low v && is_above other_low v)
    → ((v : Value) → is_below h v ≡ is_below high v && is_below other_high v)
    → (field : Option Value) → contain (Range l h) field ≡ contain (Range low high) field && contain (Range other_low other_high) field
contain-both low high other_low other_high l h above below None = refl
contain-both low high other_low other_high l h above below (Some v) =
    ap₂ (λ a b. a && b) (above v) (below v) ∙ regrouped (is_above low v) (is_below high v) (is_above other_low v) (is_below other_high v)

pub or_left : (a b : Bool) → a ≡ true → a || b ≡ true
or_left a b h = ap (λ x. x || b) h

or_right : (a b : Bool) → b ≡ true → a || b ≡ true
or_right true b h = refl
or_right false b h = h

pub contain-either_first : (low high other_low other_high l h : Option Edge) → ((v : Value) → is_above l v ≡ is_above low v || is_above other_low v)
    → ((v : Value) → is_below h v ≡ is_below high v || is_below other_high v)
    → (field : Option Value) → contain (Range low high) field ≡ true → contain (Range l h) field ≡ true
contain-either_first low high other_low other_high l h above below None inside = inside
contain-either_first low high other_low other_high l h above below (Some v) inside =
    let a = is_above low v in
    let b = is_below high v in
    both_true (is_above l v) (is_below h v) (above v ∙ or_left a (is_above other_low v) (first_true a b inside)) (below v ∙ or_left b (is_below other_high v) (second_true a b inside))

pub contain-either_second : (low high other_low other_high l h : Option Edge) → ((v : Value) → is_above l v ≡ is_above low v || is_above other_low v)
    → ((v : Value) → is_below h v ≡ is_below high v || is_below other_high v)
    → (field : Option Value) → contain (Range other_low other_high) field ≡ true → contain (Range l h) field ≡ true
contain-either_second low high other_low other_high l h above below None inside = inside
contain-either_second low high other_low other_high l h above below (Some v) inside =
    let a = is_above other_low v in
    let b = is_below other_high v in
    both_true (is_above l v) (is_below h v) (above v ∙ or_right (is_above low v) a (first_true a b inside)) (below v ∙ or_right (is_below high v) b (second_true a b inside))
