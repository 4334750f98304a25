-- Bounds of all fields, with those of one field added.
use Rattle.std.proofs.Common.{◌≡◌, ◌⊎◌, inl, inr, ℕ, List, Bool, true, false, ◌&&◌, cond, bytes_eq, Option, Some, None, Ordering, Less, Equal, Greater, refl, subst, sym, ap, ap₂, ◌∙◌}
use Rattle.std.specs.Cmp.Lexicographic.{slice_cmp}
use Rattle.std.specs.Ordering.{is_ge, is_gt, is_le, is_lt, match_ordering, nat_cmp}
use Rattle.std.proofs.lemmas.Map.Lookups.{exact_bytes}
use Rattle.std.proofs.lemmas.Slice.Eq.{bytes_eq-Decides}
use Rattle.couch_json.proofs.Orders.{collation_tied}
use Rattle.couch_json.specs.Collation.{collation}
use Rattle.couch_json.specs.Value.{Value, Members, member, member_at, no_members}
use Rattle.selector.specs.Bounds.{AreJust, contain, is_above, is_below, path_value}
use Rattle.selector.specs.FieldBounds.{AreWider, ContainOnly, IsWith, LieWithin, bounds_at}
use Rattle.selector.specs.declared.bounds.Bounds.{Bounds}
use Rattle.selector.specs.declared.bounds.Bounds.TheVariants.{Any, Range}
use Rattle.selector.specs.declared.field_bounds.FieldBounds.{FieldBounds}
use Rattle.selector.proofs.Edges.{both_true, first_true, second_true}

and_true : (a : Bool) → a && true ≡ a
and_true true = refl
and_true false = refl

cond_true : (b x : Bool) → (b ≡ true → x ≡ true) → cond b x true ≡ true
cond_true true x h = h refl
cond_true false x h = refl

-- bounds put in place of a field's own, which contain what both contain
pub put_with : (fields more : FieldBounds) (path : List ℕ) (bounds all : Bounds)
    → ((field : Option Value) → contain all field ≡ contain (bounds_at fields path) field && contain bounds field)
    → ((other : List ℕ) → bounds_at more other ≡ cond (bytes_eq path other) all (bounds_at fields other)) → IsWith fields path bounds more
put_with fields more path bounds all both put other field = by (bytes_eq path other) refl
  where
    by : (b : Bool) → bytes_eq path other ≡ b → contain (bounds_at more other) field ≡ contain (bounds_at fields other) field && cond (bytes_eq path other) (contain bounds field) true
    by true same =
        ap (λ (b : Bounds). contain b field) (put other ∙ ap (λ (b : Bool). cond b all (bounds_at fields other)) same)
        ∙ both field
        ∙ ap (λ (p : List ℕ). contain (bounds_at fields p) field && contain bounds field) ((bytes_eq-Decides path other).0 same)
        ∙ ap (λ (b : Bool). contain (bounds_at fields other) field && cond b (contain bounds field) true) (sym same)
    by false same =
        ap (λ (b : Bounds). contain b field) (put other ∙ ap (λ (b : Bool). cond b all (bounds_at fields other)) same)
        ∙ sym (and_true (contain (bounds_at fields other) field))
        ∙ ap (λ (b : Bool). contain (bounds_at fields other) field && cond b (contain bounds field) true) (sym same)

pub narrower_with : (fields more : FieldBounds) (path : List ℕ) (bounds : Bounds) → IsWith fields path bounds more → AreWider more fields
narrower_with fields more path bounds adds other field h =
    first_true (contain (bounds_at fields other) field) (cond (bytes_eq path other) (contain bounds field) true) (sym (adds other field) ∙ h)

pub wider_with : (narrow fields more : FieldBounds) (path : List ℕ) (bounds : Bounds) → IsWith fields path bounds more
    → ((field : Option Value) → contain (bounds_at narrow path) field ≡ true → contain bounds field ≡ true) → AreWider narrow fields → AreWider narrow more
wider_with narrow fields more path bounds adds holds wide other field h =
    adds other field
    ∙ both_true (contain (bounds_at fields other) field) (cond (bytes_eq path other) (contain bounds field) true) (wide other field h)
    (cond_true (bytes_eq path other) (contain bounds field)
    (λ same. holds field (subst (λ p. contain (bounds_at narrow p) field ≡ true) (sym ((bytes_eq-Decides path other).0 same)) h)))

pub lie_with : (fields more : FieldBounds) (path : List ℕ) (bounds : Bounds) (current : Option Value) → IsWith fields path bounds more
    → contain bounds (path_value (Some path) current) ≡ true → LieWithin fields current → LieWithin more current
lie_with fields more path bounds current adds inside lie other =
    adds other (path_value (Some other) current)
    ∙ both_true (contain (bounds_at fields other) (path_value (Some other) current)) (cond (bytes_eq path other) (contain bounds (path_value (Some other) current)) true) (lie other)
    (cond_true (bytes_eq path other) (contain bounds (path_value (Some other) current))
    (λ same. subst (λ p. contain bounds (path_value (Some p) current) ≡ true) ((bytes_eq-Decides path other).0 same) inside))

pub lie_in_any : (fields : FieldBounds) → ((path : List ℕ) → bounds_at fields path ≡ Any) → (current : Option Value) → LieWithin fields current
lie_in_any fields none current path = ap (λ (b : Bounds). contain b (path_value (Some path) current)) (none path)

-- ---- a field with a bare value

both_equal : (o : Ordering) → is_ge o ≡ true → is_le o ≡ true → o ≡ Equal
both_equal Less above below = absurd cc
both_equal Equal above below = refl
both_equal Greater above below = absurd cc

AreJust-only : (bounds : Bounds) (v : Value) → AreJust v bounds → ContainOnly v bounds
AreJust-only Any v just w h = absurd just
AreJust-only (Range None high) v just w h = absurd just.0
AreJust-only (Range (Some e) None) v just w h = absurd just.1
AreJust-only (Range (Some e) (Some f)) v just w h =
    collation_tied w v
    (both_equal (collation w v)
    (sym (ap₂ (λ b x. cond b (is_ge (collation w x)) (is_gt (collation w x))) just.0.1 just.0.0) ∙ first_true (is_above (Some e) w) (is_below (Some f) w) h)
    (sym (ap₂ (λ b x. cond b (is_le (collation w x)) (is_lt (collation w x))) just.1.1 just.1.0) ∙ second_true (is_above (Some e) w) (is_below (Some f) w) h))

pub only_with : (fields more : FieldBounds) (path : List ℕ) (bounds : Bounds) (v : Value) → AreJust v bounds → IsWith fields path bounds more → ContainOnly v (bounds_at more path)
only_with fields more path bounds v just adds w h =
    AreJust-only bounds v just w
    (ap (λ (b : Bool). cond b (contain bounds (Some w)) true) (sym ((bytes_eq-Decides path path).1 refl))
    ∙ second_true (contain (bounds_at fields path) (Some w)) (cond (bytes_eq path path) (contain bounds (Some w)) true) (sym (adds path (Some w)) ∙ h))

-- the member of this name is among those that are left, or the bounds of its field contain no other value than its own
abbrev pub LeftOrOnly : List ℕ → Value → FieldBounds → Members → Type 0
LeftOrOnly p b fields left = (member_at p left ≡ Some b) ⊎ ContainOnly b (bounds_at fields p)

pub LeftOrOnly-next : (p : List ℕ) (b : Value) (name : List ℕ) (v : Value) (rest : Members) (fields more : FieldBounds) → AreWider more fields
    → (name ≡ p → v ≡ b → ContainOnly v (bounds_at more name)) → LeftOrOnly p b fields (member name v rest) → LeftOrOnly p b more rest
LeftOrOnly-next p b name v rest fields more wide only (inr h) = inr (λ w inside. h w (wide p (Some w) inside))
LeftOrOnly-next p b name v rest fields more wide only (inl h) = by (slice_cmp nat_cmp p name) refl h
  where
    by : (o : Ordering) → slice_cmp nat_cmp p name ≡ o → match_ordering o (member_at p rest) (Some v) (member_at p rest) ≡ Some b → LeftOrOnly p b more rest
    by Less is h = inl h
    by Greater is h = inl h
    by Equal is h =
        let named : name ≡ p = sym (exact_bytes p name is) in
        let valued : v ≡ b = cc in
        inr (subst (λ q. ContainOnly b (bounds_at more q)) named (subst (λ x. ContainOnly x (bounds_at more name)) valued (only named valued)))

pub LeftOrOnly-end : (p : List ℕ) (b : Value) (fields : FieldBounds) (left : Members) → left ≡ no_members → LeftOrOnly p b fields left → ContainOnly b (bounds_at fields p)
LeftOrOnly-end p b fields left none (inr h) = h
LeftOrOnly-end p b fields left none (inl h) = let there : None ≡ Some b = ap (member_at p) (sym none) ∙ h in absurd cc
