-- Places that are sorted without their documents give these again.
use Rattle.std.proofs.Common.{◌≡◌, ℕ, ◌+◌, Bool, List, [], ◌∷◌, ◌++◌, Option, Some, None, Ordering, append-nil, drop, map, reverse, take, zero, suc, refl, subst, sym, ap, true, false, ◌∙◌, inl, inr, arith}
use Rattle.std.specs.BTreeSet.{insert_key}
use Rattle.std.specs.FinMap.{put}
use Rattle.std.specs.FinMap.Entries.{by_order}
use Rattle.std.specs.Option.{option_to_list}
use Rattle.std.specs.Prelude.{is_some}
use Rattle.std.specs.Ordering.{match_ordering}
use Rattle.std.specs.declared.cmp.Ordering.TheVariants.{Less, Equal, Greater}
use Rattle.couch_json.specs.Value.{Items, Value, array}
use Rattle.std.proofs.lemmas.List.{drop-take, reverse-reverse, take-map, take-take}
use Rattle.store.proofs.Directed.{in_directed, map_directed}
use Rattle.store.proofs.Listings.{In}
use Rattle.store.specs.Database.{Database}
use Rattle.store.specs.Indexes.{IndexPlace, field_values, place_order, put_at_values, put_in_index}
use Rattle.store.specs.Pages.{in_direction}
use Rattle.find.proofs.ByChunk.{none_left}
use Rattle.find.proofs.Covered.{from_all}
use Rattle.find.proofs.Distinct.{distinct_candidates}
use Rattle.find.proofs.FirstPlaces.{first_directed, kept_places}
use Rattle.find.specs.inner.Candidates.{put_candidates, put_place, put_place_at, put_places}
use Rattle.find.specs.inner.Kept.{distinct, keep_place, keep_places, kept_of}
use Rattle.find.specs.inner.Matching.{completion, match_in, matches_at}
use Rattle.find.specs.declared.part.Part.{Part}
use Rattle.find.specs.declared.query.Query.{Query}

abbrev places_of : List (IndexPlace × Value) → List IndexPlace
places_of es = map (λ e. e.0) es

-- ---- the places of candidates

keys-put : {K X : Type 0} (R : K → K → Ordering) (k : K) (v : X) (es : List (K × X)) → insert_key R (map (λ e. e.0) es) k ≡ map (λ e. e.0) (put R k v es)
keys-put R k v [] = refl
keys-put R k v (e ∷ es) = by (keys-put R k v es) (R k e.0)
  where
    by : insert_key R (map (λ f. f.0) es) k ≡ map (λ f. f.0) (put R k v es) → (o : Ordering)
        → match_ordering o (k ∷ e.0 ∷ map (λ f. f.0) es) (e.0 ∷ map (λ f. f.0) es) (e.0 ∷ insert_key R (map (λ f. f.0) es) k) ≡ map (λ f. f.0) (by_order o ((k, v) ∷ e ∷ es) ((e.0, v) ∷ es) (e ∷ put R k v es))
    by later Less = refl
    by later Equal = refl
    by later Greater = ap (λ ks. e.0 ∷ ks) later

place-at : (id : List ℕ) (v : Value) (o : Option Items) (es : List (IndexPlace × Value)) → put_place_at id o (places_of es) ≡ places_of (put_at_values id v o es)
place-at id v None es = refl
place-at id v (Some values) es = keys-put place_order (record { key = array values; id = id }) v es

place : (fields : List (List ℕ)) (id : List ℕ) (o : Option Value) (es : List (IndexPlace × Value)) → put_place fields id o (places_of es) ≡ places_of (put_in_index fields id o es)
place fields id None es = refl
place fields id (Some v) es = place-at id v (field_values fields v) es

places : (fields : List (List ℕ)) (selector : Value) (d : Database) (ids : List (List ℕ)) (es : List (IndexPlace × Value))
    → put_places fields selector d ids (places_of es) ≡ places_of (put_candidates fields selector d ids es)
places fields selector d [] es = refl
places fields selector d (id ∷ ids) es =
    ap (put_places fields selector d ids) (place fields id (match_in selector d id) es) ∙ places fields selector d ids (put_in_index fields id (match_in selector d id) es)

kept-append : (fields : List (List ℕ)) (query : Query) (d : Database) (ids more : List (List ℕ)) (kept : List IndexPlace) → keep_places fields query d (ids ++ more) kept ≡ keep_places fields query d more (keep_places fields query d ids kept)
kept-append fields query d [] more kept = refl
kept-append fields query d (id ∷ ids) more kept = kept-append fields query d ids more (keep_place fields query id (match_in query.selector d id) kept)

-- the places of a chunk were put in
pub chunk_sorted : (fields : List (List ℕ)) (query : Query) (d : Database) (all ids left : List (List ℕ)) (before after : List IndexPlace) → all ≡ ids ++ left
    → after ≡ keep_places fields query d ids before → keep_places fields query d left after ≡ keep_places fields query d all before
chunk_sorted fields query d all ids left before after is put =
    ap (keep_places fields query d left) put ∙ sym (kept-append fields query d ids left before) ∙ ap (λ xs. keep_places fields query d xs before) (sym is)

-- ---- their documents

abbrev AreMatches : Value → Database → List (IndexPlace × Value) → Type 0
AreMatches selector d es = (x : IndexPlace × Value) → In es x → match_in selector d x.0.id ≡ Some x.1

ids-places : (es : List (IndexPlace × Value)) → map (λ p. p.id) (places_of es) ≡ map (λ e. e.0.id) es
ids-places [] = refl
ids-places (e ∷ es) = ap (λ ids. e.0.id ∷ ids) (ids-places es)

-- without the first ones
again : (selector : Value) (d : Database) (n : ℕ) (es : List (IndexPlace × Value)) → AreMatches selector d es → matches_at selector d (drop n (map (λ e. e.0.id) es)) ≡ drop n (map (λ e. e.1) es)
again selector d zero [] h = refl
again selector d zero (e ∷ es) h = λ i. option_to_list (h e (inl refl) i) ++ again selector d zero es (λ x j. h x (inr j)) i
again selector d (suc n) [] h = refl
again selector d (suc n) (e ∷ es) h = again selector d n es (λ x j. h x (inr j))

matches_directed : (selector : Value) (d : Database) (descending : Bool) (es : List (IndexPlace × Value)) → AreMatches selector d es → AreMatches selector d (in_direction descending es)
matches_directed selector d true es h x i = h x (subst (λ xs. In xs x) (reverse-reverse es) (in_directed true (reverse es) x i))
matches_directed selector d false es h x i = h x i

candidates_match : (fields : List (List ℕ)) (selector : Value) (d : Database) (ids : List (List ℕ)) → AreMatches selector d (put_candidates fields selector d ids [])
candidates_match fields selector d ids x i =
    elim (from_all fields selector d ids [] x i) as (λ _. match_in selector d x.0.id ≡ Some x.1) [ inl h ↦ h.0 | inr j ↦ absurd j ]

from_take : {X : Type 0} (n : ℕ) (xs : List X) (x : X) → In (take n xs) x → In xs x
from_take zero xs x i = absurd i
from_take (suc n) [] x i = absurd i
from_take (suc n) (y ∷ xs) x (inl i) = inl i
from_take (suc n) (y ∷ xs) x (inr i) = inr (from_take n xs x i)

-- the ids of the places that are kept, in the direction, are those of the first candidates in it
ids_kept : (query : Query) (d : Database) (ids : List (List ℕ))
    → in_direction query.descending (map (λ p. p.id) (keep_places (distinct query.sort) query d ids []))
    ≡ map (λ e. e.0.id) (take (query.skip + query.limit) (in_direction query.descending (put_candidates (distinct query.sort) query.selector d ids [])))
ids_kept query d ids =
    let es = put_candidates (distinct query.sort) query.selector d ids [] in
    let n = query.skip + query.limit in
    ap (λ ps. in_direction query.descending (map (λ p. p.id) ps)) (kept_places (distinct query.sort) query d ids ∙ ap (kept_of query) (places (distinct query.sort) query.selector d ids []))
    ∙ sym (map_directed (λ (p : IndexPlace). p.id) query.descending (kept_of query (places_of es)))
    ∙ ap (map (λ p. p.id)) (first_directed query.descending n (places_of es) ∙ ap (take n) (sym (map_directed (λ (e : IndexPlace × Value). e.0) query.descending es))
    ∙ take-map (λ (e : IndexPlace × Value). e.0) n (in_direction query.descending es))
    ∙ ids-places (take n (in_direction query.descending es))

read_again : (query : Query) (d : Database) (ids : List (List ℕ))
    → matches_at query.selector d (drop query.skip (in_direction query.descending (map (λ p. p.id) (keep_places (distinct query.sort) query d ids []))))
    ≡ drop query.skip (take (query.skip + query.limit) (in_direction query.descending (map (λ e. e.1) (put_candidates query.sort query.selector d ids []))))
read_again query d ids =
    let es = put_candidates (distinct query.sort) query.selector d ids [] in
    let n = query.skip + query.limit in
    let turned = in_direction query.descending es in
    ap (λ xs. matches_at query.selector d (drop query.skip xs)) (ids_kept query d ids)
    ∙ again query.selector d query.skip (take n turned)
    (λ x i. matches_directed query.selector d query.descending es (candidates_match (distinct query.sort) query.selector d ids) x (from_take n turned x i))
    ∙ ap (drop query.skip) (sym (take-map (λ (e : IndexPlace × Value). e.1) n turned) ∙ ap (take n) (map_directed (λ (e : IndexPlace × Value). e.1) query.descending es
    ∙ ap (in_direction query.descending) (distinct_candidates query.sort query.selector d ids)))

-- the documents at the places that are kept, behind those that are left out, put into the part, are the part of the candidates in the
-- direction
pub part_read : (query : Query) (d : Database) (ids sorted wanted : List (List ℕ)) (fresh after : Part) → sorted ≡ in_direction query.descending (map (λ p. p.id) (keep_places (distinct query.sort) query d ids []))
    → wanted ≡ drop query.skip sorted → ((rest : List Value) → completion fresh rest ≡ take query.limit rest) → ((rest : List Value) → completion after rest ≡ completion fresh (matches_at query.selector d wanted ++ rest))
    → take query.limit (drop query.skip (in_direction query.descending (map (λ e. e.1) (put_candidates query.sort query.selector d ids [])))) ≡ after.documents
part_read query d ids sorted wanted fresh after is left begun put =
    let all = in_direction query.descending (map (λ e. e.1) (put_candidates query.sort query.selector d ids [])) in
    let matches : matches_at query.selector d wanted ++ [] ≡ take query.limit (drop query.skip all) =
    append-nil (matches_at query.selector d wanted) ∙ ap (matches_at query.selector d) (left ∙ ap (drop query.skip) is) ∙ read_again query d ids ∙ drop-take query.skip query.limit all in
    sym (take-take query.limit query.limit (drop query.skip all) (omega arith))
    ∙ ap (take query.limit) (sym matches) ∙ sym (begun (matches_at query.selector d wanted ++ [])) ∙ sym (put []) ∙ none_left after

pub there_is : {X : Type 0} (o : Option X) → is_some o ≡ true → (x : X) × (o ≡ Some x)
there_is None h = absurd cc
there_is (Some x) h = (x, refl)
