-- Rows that go in the order of a query give what it finds, as they come.
use Rattle.std.proofs.Common.{◌≡◌, ◌&&◌, ℕ, suc, Bool, true, false, not, List, [], ◌∷◌, ◌++◌, AllPairs, Option, Some, None, Ordering, drop, filter, map, option_map, reverse, take, refl, sym, ap, ap₂, subst, ◌∙◌, inl, inr, arith}
use Rattle.std.specs.Prelude.{is_some}
use Rattle.std.specs.Option.{option_to_list}
use Rattle.std.specs.declared.cmp.Ordering.TheVariants.{Less, Equal, Greater}
use Rattle.std.specs.Cmp.{tied_itself}
use Rattle.std.specs.Cmp.Lexicographic.{slice_cmp}
use Rattle.std.specs.Ordering.{is_ge, is_gt, nat_cmp, ordering_then}
use Rattle.std.proofs.lemmas.List.Kept.{AllPairs-filter}
use Rattle.couch_json.specs.Collation.{collation}
use Rattle.couch_json.specs.Value.{Items, Value, array, no_items}
use Rattle.couch_json.proofs.Orders.{collation_tied, collation_total}
use Rattle.store.proofs.Among.{contained, from_filter, from_map}
use Rattle.store.proofs.Directed.{filter-directed, from_directed, in_directed, map_directed, options-directed, pairs_drop, reverse-cons}
use Rattle.store.proofs.IndexRows.{place_from, rows_ascend}
use Rattle.store.proofs.Listings.{In}
use Rattle.store.specs.Database.{Database, history_at, history_in}
use Rattle.store.specs.Indexes.{IndexPlace, IsPlaceOf, field_values, index_rows, place_order, put_at_values, put_in_index, queried_document}
use Rattle.store.specs.KeyPages.{is_key_within, key_rows_within}
use Rattle.store.specs.Pages.{in_direction}
use Rattle.store.specs.declared.index_page.CutSide.TheVariants.{After, Before}
use Rattle.store.specs.declared.index_page.KeyRange.{KeyRange}
use Rattle.find.proofs.Candidates.{found_by_index, ids_at, ids_of_index, index_covers, matched}
use Rattle.find.proofs.Covered.{HasMatches, IsMatch, covered, from_all}
use Rattle.find.proofs.Filtered.{HasKeys, put_front}
use Rattle.find.proofs.Indexed.{after_put}
use Rattle.find.specs.inner.Candidates.{put_candidates}
use Rattle.find.specs.Found.{found_documents}
use Rattle.find.specs.IndexRead.{index_asked}
use Rattle.find.specs.inner.Matching.{match_in, matches_at}
use Rattle.find.specs.inner.Planning.{AreFixed, Covers, IsInOrder, MayServe, has_key_within}
use Rattle.find.specs.inner.Sources.{ids_in}
use Rattle.find.specs.declared.plan.Plan.{Plan}
use Rattle.find.specs.declared.query.Query.{Query}
use Rattle.find.specs.declared.source.Source.TheVariants.{Index}

-- ---- the key of a document that matches

has_key : (o : Option Items) (key : Value) → option_map array o ≡ Some key → (values : Items) × (o ≡ Some values) × (array values ≡ key)
has_key None key e = absurd cc
has_key (Some values) key e = let same : array values ≡ key = cc in (values, refl, same)

place_value : (fields : List (List ℕ)) (selector : Value) (d : Database) (p : IndexPlace) (v : Value) → IsPlaceOf fields d p → match_in selector d p.id ≡ Some v
    → option_map array (field_values fields v) ≡ Some p.key
place_value fields selector d p v h e =
    let m = matched selector (queried_document p.id (history_at d p.id)) v e in
    let shown : Some h.shown ≡ Some v = sym h.looked_at ∙ ap (λ o. queried_document p.id (history_in o)) (sym h.there) ∙ m.0 in
    let same : h.shown ≡ v = cc in
    ap (λ w. option_map array (field_values fields w)) (sym same) ∙ h.values

-- the rows are those of documents, at keys in the range
abbrev AreRows : List (List ℕ) → KeyRange → Database → List IndexPlace → Type 0
AreRows fields range d ps = (p : IndexPlace) → In ps p → IsPlaceOf fields d p × (is_key_within range p.key ≡ true)

-- two rows stand to each other as the places of their documents by the sort do
ordered : (query : Query) (d : Database) (fields : List (List ℕ)) (range : KeyRange) (p q : IndexPlace) (x y : IndexPlace × Value) → IsInOrder fields range query
    → IsPlaceOf fields d p → IsPlaceOf fields d q → is_key_within range p.key ≡ true → is_key_within range q.key ≡ true
    → IsMatch query.sort query.selector d x → IsMatch query.sort query.selector d y → p.id ≡ x.0.id → q.id ≡ y.0.id → place_order p q ≡ Less → place_order x.0 y.0 ≡ Less
ordered query d fields range p q x y order hp hq wp wq mx my xi yi lt =
    let a = has_key (field_values fields x.1) p.key (place_value fields query.selector d p x.1 hp (ap (match_in query.selector d) xi ∙ mx.0)) in
    let b = has_key (field_values fields y.1) q.key (place_value fields query.selector d q y.1 hq (ap (match_in query.selector d) yi ∙ my.0)) in
    let m = has_key (field_values query.sort x.1) x.0.key mx.1 in
    let n = has_key (field_values query.sort y.1) y.0.key my.1 in
    let keys = order.order x.1 y.1 a.0 b.0 m.0 n.0 a.1 b.1 (ap (is_key_within range) a.2 ∙ wp) (ap (is_key_within range) b.2 ∙ wq) m.1 n.1 in
    let same : collation p.key q.key ≡ collation x.0.key y.0.key = ap₂ collation (sym a.2) (sym b.2) ∙ keys ∙ ap₂ collation m.2 n.2 in
    (λ i. ordering_then (sym same i) (slice_cmp nat_cmp (sym xi i) (sym yi i))) ∙ lt

-- ---- candidates at their places

candidates-append : (fields : List (List ℕ)) (selector : Value) (d : Database) (ids more : List (List ℕ)) (among : List (IndexPlace × Value))
    → put_candidates fields selector d (ids ++ more) among ≡ put_candidates fields selector d more (put_candidates fields selector d ids among)
candidates-append fields selector d [] more among = refl
candidates-append fields selector d (id ∷ ids) more among = candidates-append fields selector d ids more (put_in_index fields id (match_in selector d id) among)

candidate_keys : (P : IndexPlace → Type 0) (fields : List (List ℕ)) (selector : Value) (d : Database) (ids : List (List ℕ)) (among : List (IndexPlace × Value))
    → ((id : List ℕ) → In ids id → (key : Value) → P (record { key = key; id = id })) → HasKeys P among → HasKeys P (put_candidates fields selector d ids among)
candidate_keys P fields selector d [] among p h = h
candidate_keys P fields selector d (id ∷ ids) among p h =
    candidate_keys P fields selector d ids (put_in_index fields id (match_in selector d id) among) (λ i j. p i (inr j)) (after_put P fields id (match_in selector d id) among (p id (inl refl)) h)

no_keys : (P : IndexPlace → Type 0) → HasKeys {X = Value} P []
no_keys P x i = absurd i

-- ---- rows in order

abbrev Ascend : List IndexPlace → Type 0
Ascend ps = AllPairs (λ a b. place_order a b ≡ Less) ps

first_before : (p q : IndexPlace) (ps : List IndexPlace) → Ascend (p ∷ ps) → In ps q → place_order p q ≡ Less
first_before p q ps h i =
    let c = contained ps q i in
    subst (λ r. place_order p r ≡ Less) c.2 (h 0 (suc c.0) q (omega arith) (omega (arith, c.1)))

-- the candidates, the last of them first, come out in the order of the rows
rows_in_order : (query : Query) (d : Database) (fields : List (List ℕ)) (range : KeyRange) → IsInOrder fields range query → (ps : List IndexPlace) → Ascend ps → AreRows fields range d ps
    → map (λ e. e.1) (put_candidates query.sort query.selector d (reverse (ids_at ps)) []) ≡ matches_at query.selector d (ids_at ps)
rows_in_order query d fields range order [] pairs rows = refl
rows_in_order query d fields range order (p ∷ ps) pairs rows =
    ap (λ ids. map (λ e. e.1) (put_candidates query.sort query.selector d ids [])) (reverse-cons p.id (ids_at ps))
    ∙ ap (map (λ e. e.1)) (candidates-append query.sort query.selector d (reverse (ids_at ps)) (p.id ∷ []) [])
    ∙ by (match_in query.selector d p.id) refl (rows_in_order query d fields range order ps (pairs_drop (λ a b. place_order a b ≡ Less) 1 (p ∷ ps) pairs) (λ q i. rows q (inr i)))
  where
    rest : List (IndexPlace × Value)
    rest = put_candidates query.sort query.selector d (reverse (ids_at ps)) []

    own : IsPlaceOf fields d p × (is_key_within range p.key ≡ true)
    own = rows p (inl refl)

    before : (v : Value) (ms : Items) → match_in query.selector d p.id ≡ Some v → field_values query.sort v ≡ Some ms → (x : IndexPlace × Value) → In rest x
        → place_order (record { key = array ms; id = p.id }) x.0 ≡ Less
    before v ms is has x i =
        let match : IsMatch query.sort query.selector d x = elim (from_all query.sort query.selector d (reverse (ids_at ps)) [] x i) as (λ _. IsMatch query.sort query.selector d x) [ inl h ↦ h | inr j ↦ absurd j ] in
        let among : In (reverse (ids_at ps)) x.0.id = candidate_keys (λ q. In (reverse (ids_at ps)) q.id) query.sort query.selector d (reverse (ids_at ps)) [] (λ id j key. j) (no_keys (λ q. In (reverse (ids_at ps)) q.id)) x i in
        let q = from_map (λ (r : IndexPlace). r.id) ps x.0.id (from_directed true (ids_at ps) x.0.id among) in
        let other = rows q.0 (inr q.1) in
        ordered query d fields range p q.0 (record { key = array ms; id = p.id }, v) x order own.0 other.0 own.1 other.1 (is, ap (option_map array) has) match refl q.2 (first_before p q.0 ps pairs q.1)

    by : (o : Option Value) → match_in query.selector d p.id ≡ o → map (λ e. e.1) rest ≡ matches_at query.selector d (ids_at ps)
        → map (λ e. e.1) (put_in_index query.sort p.id o rest) ≡ option_to_list o ++ matches_at query.selector d (ids_at ps)
    by None none e = e
    by (Some v) is e = placed (field_values query.sort v) refl
      where
        placed : (o : Option Items) → field_values query.sort v ≡ o → map (λ f. f.1) (put_at_values p.id v o rest) ≡ v ∷ matches_at query.selector d (ids_at ps)
        placed None none =
            let k = has_key (field_values fields v) p.key (place_value fields query.selector d p v own.0 is) in
            let there = order.placed v (ap (has_key_within range) k.1 ∙ ap (is_key_within range) k.2 ∙ own.1) in
            let never : false ≡ true = ap (is_some {T = Items}) (sym none) ∙ there in
            absurd cc
        placed (Some ms) has = ap (map (λ f. f.1)) (put_front place_order (record { key = array ms; id = p.id }) v rest (before v ms is has)) ∙ ap (λ vs. v ∷ vs) e

-- ---- what is found

pub found_in_order : (query : Query) (d : Database) (plan : Plan) → MayServe (index_asked plan.index) plan.rows.range query d → IsInOrder plan.index.fields.items plan.rows.range query
    → take query.limit (drop query.skip (matches_at query.selector d (ids_in (Index plan) d))) ≡ found_documents query d
found_in_order query d plan serves order =
    let fields = plan.index.fields.items in
    let range = plan.rows.range in
    let within = λ (p : IndexPlace). is_key_within range p.key in
    let ps = filter within (index_rows fields d) in
    let turned : ids_at (key_rows_within range (index_rows fields d)) ≡ in_direction range.descending (ids_at ps) =
    ap ids_at (filter-directed within range.descending (index_rows fields d)) ∙ map_directed (λ (p : IndexPlace). p.id) range.descending ps in
    let whole = ids_of_index plan d fields serves.declared in
    let all = index_covers query d fields range serves.covers in
    let rows : AreRows fields range d ps = λ p i. (let f = from_filter within (index_rows fields d) p i in (place_from fields d p f.0, f.1)) in
    let ascend : Ascend ps = AllPairs-filter (λ a b. place_order a b ≡ Less) within (index_rows fields d) (rows_ascend fields d) in
    let back : HasMatches query.sort query.selector d (reverse (ids_at ps)) =
    λ x h. in_directed true (ids_at ps) x.0.id (from_directed range.descending (ids_at ps) x.0.id (subst (λ ids. In ids x.0.id) turned (all x h))) in
    ap (λ vs. take query.limit (drop query.skip vs))
    (ap (matches_at query.selector d) (whole ∙ turned)
    ∙ options-directed (match_in query.selector d) range.descending (ids_at ps)
    ∙ ap (in_direction range.descending) (sym (rows_in_order query d fields range order ps ascend rows))
    ∙ ap (λ b. in_direction b (map (λ e. e.1) (put_candidates query.sort query.selector d (reverse (ids_at ps)) []))) order.direction
    ∙ ap (λ es. in_direction query.descending (map (λ e. e.1) es))
    (covered query.sort query.selector d (reverse (ids_at ps)) (ids_in (Index plan) d) back (subst (λ ids. HasMatches query.sort query.selector d ids) (sym whole) all)))
    ∙ found_by_index query d plan serves

-- ---- which rows go in order

some_values : (range : KeyRange) (o : Option Items) → has_key_within range o ≡ true → is_some o ≡ true
some_values range None h = absurd cc
some_values range (Some values) h = refl

one_values : (o : Option Items) (ks ms : Items) → o ≡ Some ks → o ≡ Some ms → array ks ≡ array ms
one_values o ks ms a b = let same : ks ≡ ms = cc in ap array same

-- an index by the fields of the sort goes in its order
pub sorted_by_fields : (query : Query) (fields : List (List ℕ)) (range : KeyRange) → fields ≡ query.sort → range.descending ≡ query.descending → IsInOrder fields range query
sorted_by_fields query fields range is direction =
    record {
      direction = direction;
      placed = λ v h. ap (λ fs. is_some (field_values fs v)) (sym is) ∙ some_values range (field_values fields v) h;
      order = λ v w ks ls ms ns a b wa wb m n.
          ap₂ collation (one_values (field_values fields v) ks ms a (ap (λ fs. field_values fs v) is ∙ m)) (one_values (field_values fields w) ls ns b (ap (λ fs. field_values fs w) is ∙ n));
    }

-- rows of one key go by id
sorted_at_key : (query : Query) (fields : List (List ℕ)) (range : KeyRange) (key : Value) → query.sort ≡ [] → ((k : Value) → is_key_within range k ≡ true → k ≡ key)
    → range.descending ≡ query.descending → IsInOrder fields range query
sorted_at_key query fields range key unsorted alone direction =
    record {
      direction = direction;
      placed = λ v h. ap (λ fs. is_some (field_values fs v)) unsorted;
      order = λ v w ks ls ms ns a b wa wb m n.
          ap₂ collation (alone (array ks) wa) (alone (array ls) wb) ∙ tied_itself collation_total key
          ∙ sym (ap₂ collation (one_values (Some no_items) ms no_items (ap (λ fs. field_values fs v) (sym unsorted) ∙ m) refl) (one_values (Some no_items) ns no_items (ap (λ fs. field_values fs w) (sym unsorted) ∙ n) refl));
    }

-- the one key has all documents that match
fixed_covers : (query : Query) (fields : List (List ℕ)) (range : KeyRange) (values : Items) → AreFixed fields values query → is_key_within range (array values) ≡ true → Covers fields range query
fixed_covers query fields range values fixed inside = λ v keys m s. ap (has_key_within range) (fixed v m) ∙ inside

-- ---- the range of one key

both_sides : (o : Ordering) → is_ge o && not (is_gt o) ≡ true → o ≡ Equal
both_sides Less h = absurd cc
both_sides Equal h = refl
both_sides Greater h = absurd cc

-- the range of one key
abbrev pub range_of_key : Value → Bool → KeyRange
range_of_key key descending = record { low = Some (record { key = key; side = Before }); high = Some (record { key = key; side = After }); descending = descending; skip = 0; limit = None; counted = false }

within_itself : (key : Value) (descending : Bool) → is_key_within (range_of_key key descending) key ≡ true
within_itself key descending = ap (λ o. is_ge o && not (is_gt o)) (tied_itself collation_total key)

alone_within : (key other : Value) (descending : Bool) → is_key_within (range_of_key key descending) other ≡ true → other ≡ key
alone_within key other descending h = collation_tied other key (both_sides (collation other key) h)

pub key_covers : (query : Query) (fields : List (List ℕ)) (range : KeyRange) (values : Items) → range ≡ range_of_key (array values) query.descending → AreFixed fields values query → Covers fields range query
key_covers query fields range values is fixed =
    subst (λ r. Covers fields r query) (sym is) (fixed_covers query fields (range_of_key (array values) query.descending) values fixed (within_itself (array values) query.descending))

pub key_in_order : (query : Query) (fields : List (List ℕ)) (range : KeyRange) (values : Items) → range ≡ range_of_key (array values) query.descending → query.sort ≡ [] → IsInOrder fields range query
key_in_order query fields range values is unsorted =
    subst (λ r. IsInOrder fields r query) (sym is)
    (sorted_at_key query fields (range_of_key (array values) query.descending) (array values) unsorted (λ k h. alone_within (array values) k query.descending h) refl)
