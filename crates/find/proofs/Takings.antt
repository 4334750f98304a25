-- Candidates that are taken from a source are those of its rows.
use Rattle.std.proofs.Common.{◌≡◌, ◌||◌, ℕ, zero, suc, Bool, true, false, not, List, [], ◌∷◌, Option, Some, None, drop, filter, map, option_map, take, refl, sym, ap, subst, ◌∙◌}
use Rattle.std.proofs.Math.Seq.{drop-nil, take-nil}
use Rattle.store.proofs.Among.{all_in, from_map}
use Rattle.store.proofs.Directed.{from_directed, from_drop, map_directed}
use Rattle.store.proofs.IdRows.{id_row_from}
use Rattle.store.proofs.Listings.{In}
use Rattle.store.specs.Database.{Database, Document, history_in}
use Rattle.store.specs.Indexes.{IndexPlace, index_fields_at, index_rows}
use Rattle.store.specs.KeyPages.{KeyPage, key_page, key_rows_within, page_of_keys}
use Rattle.store.specs.Pages.{IdPage, comes_before, in_direction, live_rev, page_of_ids, up_to_limit}
use Rattle.store.specs.declared.index_page.KeyRange.{KeyRange}
use Rattle.store.specs.declared.listing.IdRange.{IdRange}
use Rattle.store.specs.declared.listing.IdRow.{IdRow}
use Rattle.find.proofs.Finding.{all_pass}
use Rattle.find.specs.inner.Sources.{AreCandidates, IsCandidate, candidate_at, candidate_of, documents_by_id, documents_from, ids_ahead, ids_beyond, ids_of, ids_of_places, range_ahead}
use Rattle.find.specs.declared.candidate.Candidate.{Candidate}
use Rattle.find.specs.declared.reached.Reached.{Reached}
use Rattle.find.specs.declared.source.Source.TheVariants.{Documents}

-- ---- lists that are cut

pub drop_map : {X Y : Type 0} (f : X → Y) (n : ℕ) (xs : List X) → drop n (map f xs) ≡ map f (drop n xs)
drop_map f zero xs = refl
drop_map f (suc n) [] = refl
drop_map f (suc n) (x ∷ xs) = drop_map f n xs

take_map : {X Y : Type 0} (f : X → Y) (n : ℕ) (xs : List X) → take n (map f xs) ≡ map f (take n xs)
take_map f zero xs = refl
take_map f (suc n) [] = refl
take_map f (suc n) (x ∷ xs) = ap (λ ys. f x ∷ ys) (take_map f n xs)

limit_map : {X Y : Type 0} (f : X → Y) (limit : Option ℕ) (xs : List X) → up_to_limit limit (map f xs) ≡ map f (up_to_limit limit xs)
limit_map f None xs = refl
limit_map f (Some n) xs = take_map f n xs

cut_map : {X Y : Type 0} (f : X → Y) (skip : ℕ) (limit : Option ℕ) (xs : List X) → up_to_limit limit (drop skip (map f xs)) ≡ map f (up_to_limit limit (drop skip xs))
cut_map f skip limit xs = ap (up_to_limit limit) (drop_map f skip xs) ∙ limit_map f limit (drop skip xs)

none_limited : {X : Type 0} (limit : Option ℕ) → up_to_limit {A = X} limit [] ≡ []
none_limited None = refl
none_limited {X} (Some n) = take-nil {A = X} n

cut_none : {X : Type 0} (skip : ℕ) (limit : Option ℕ) → up_to_limit {A = X} limit (drop skip []) ≡ []
cut_none {X} skip limit = ap (up_to_limit limit) (drop-nil {A = X} skip) ∙ none_limited limit

inside : {X : Type 0} (x y : X) → Some x ≡ Some y → x ≡ y
inside x y e = cc

-- ---- documents

or_none : (b : Bool) → not b ≡ not (b || false)
or_none true = refl
or_none false = refl

ids_of_rows : (rows : List IdRow) → map (λ r. r.id) rows ≡ ids_of (map candidate_of rows)
ids_of_rows [] = refl
ids_of_rows (r ∷ rows) = ap (λ ids. r.id ∷ ids) (ids_of_rows rows)

page_ahead : (descending : Bool) (last : Option (List ℕ)) (count : ℕ) (limit : Option ℕ) (d : Database)
    → up_to_limit limit (ids_beyond (Documents descending) last count d) ≡ map (λ r. r.id) (page_of_ids (range_ahead descending (record { last = last; count = count }) limit) d).rows
page_ahead descending None count limit d =
    let all = documents_by_id descending d in
    cut_map (λ (r : IdRow). r.id) count limit all ∙ ap (λ (rs : List IdRow). map (λ r. r.id) (up_to_limit limit (drop count rs))) (sym (all_pass all))
page_ahead descending (Some last) count limit d =
    cut_map (λ (r : IdRow). r.id) 1 limit (documents_from descending last d)
    ∙ (λ i. map (λ (r : IdRow). r.id) (up_to_limit limit (drop 1 (filter (λ (r : IdRow). or_none (comes_before descending r.id last) i) (documents_by_id descending d)))))

pub documents_taken : (descending : Bool) (reached : Reached) (limit : Option ℕ) (range : IdRange) (there : Option Database) (page : IdPage) (rows : List IdRow) (candidates : List Candidate)
    → range ≡ range_ahead descending reached limit → option_map (λ d. page_of_ids range d) there ≡ Some page → rows ≡ page.rows → candidates ≡ map candidate_of rows
    → option_map (λ d. up_to_limit limit (ids_ahead (Documents descending) reached d)) there ≡ Some (ids_of candidates)
documents_taken descending reached limit range None page rows candidates ahead e its made = absurd cc
documents_taken descending reached limit range (Some d) page rows candidates ahead e its made =
    let is = ap (λ (r : IdRange). page_of_ids r d) (sym ahead) ∙ inside (page_of_ids range d) page e in
    ap Some (page_ahead descending reached.last reached.count limit d ∙ ap (λ (p : IdPage). map (λ r. r.id) p.rows) is ∙ ap (map (λ (r : IdRow). r.id)) (sym its)
    ∙ ids_of_rows rows ∙ ap ids_of (sym made))

-- the revision of a row is the winner
row_known : (range : IdRange) (d : Database) (r : IdRow) → In (page_of_ids range d).rows r → IsCandidate d (candidate_of r)
row_known range d r i = let row = id_row_from range d r i in λ rev given. ap (λ (o : Option Document). live_rev (history_in o)) row.there ∙ row.live ∙ given

pub documents_known : (range : IdRange) (there : Option Database) (page : IdPage) (rows : List IdRow) (candidates : List Candidate) → option_map (λ d. page_of_ids range d) there ≡ Some page
    → rows ≡ page.rows → candidates ≡ map candidate_of rows → (d : Database) → there ≡ Some d → AreCandidates d candidates
documents_known range there page rows candidates e its made d is =
    let paged : page_of_ids range d ≡ page = inside (page_of_ids range d) page (ap (option_map (λ (x : Database). page_of_ids range x)) (sym is) ∙ e) in
    let from : rows ≡ (page_of_ids range d).rows = its ∙ ap (λ (p : IdPage). p.rows) (sym paged) in
    subst (AreCandidates d) (sym made)
    (all_in (λ (c : Candidate). IsCandidate d c) (map candidate_of rows)
    (λ c i. let k = from_map candidate_of rows c i in subst (IsCandidate d) k.2 (row_known range d k.0 (subst (λ (rs : List IdRow). In rs k.0) from k.1))))

-- ---- documents of which the id alone is known

ids_alone : (ids : List (List ℕ)) → ids ≡ ids_of (map candidate_at ids)
ids_alone [] = refl
ids_alone (id ∷ ids) = ap (λ more. id ∷ more) (ids_alone ids)

id_alone : (d : Database) (id : List ℕ) → IsCandidate d (candidate_at id)
id_alone d id = λ rev given. absurd cc

pub known_alone : (d : Database) (ids : List (List ℕ)) (candidates : List Candidate) → candidates ≡ map candidate_at ids → AreCandidates d candidates
known_alone d ids candidates made =
    subst (AreCandidates d) (sym made) (all_in (λ (c : Candidate). IsCandidate d c) (map candidate_at ids) (λ c i. let k = from_map candidate_at ids c i in subst (IsCandidate d) k.2 (id_alone d k.0)))

-- in a direction, without the first ones
pub known_later : (d : Database) (descending : Bool) (skip : ℕ) (ids : List (List ℕ)) (candidates wanted : List Candidate) → candidates ≡ in_direction descending (map candidate_at ids)
    → wanted ≡ drop skip candidates → AreCandidates d wanted
known_later d descending skip ids candidates wanted made left =
    subst (AreCandidates d) (sym (left ∙ ap (drop skip) made))
    (all_in (λ (c : Candidate). IsCandidate d c) (drop skip (in_direction descending (map candidate_at ids)))
    (λ c i. let k = from_map candidate_at ids c (from_directed descending (map candidate_at ids) c (from_drop skip (in_direction descending (map candidate_at ids)) c i)) in subst (IsCandidate d) k.2 (id_alone d k.0)))

pub ids_directed : (descending : Bool) (ids : List (List ℕ)) (candidates : List Candidate) → candidates ≡ in_direction descending (map candidate_at ids) → ids_of candidates ≡ in_direction descending ids
ids_directed descending ids candidates made =
    ap ids_of made ∙ map_directed (λ (c : Candidate). c.id) descending (map candidate_at ids) ∙ ap (in_direction descending) (sym (ids_alone ids))

pub ids_later : (skip : ℕ) (candidates wanted : List Candidate) → wanted ≡ drop skip candidates → ids_of wanted ≡ drop skip (ids_of candidates)
ids_later skip candidates wanted left = ap ids_of left ∙ sym (drop_map (λ (c : Candidate). c.id) skip candidates)

-- ---- rows of an index

abbrev part_by_key : KeyRange → ℕ → Option ℕ → KeyRange
part_by_key range skip limit = record { low = range.low; high = range.high; descending = range.descending; skip = skip; limit = limit; counted = false }

places_of : (range : KeyRange) (skip : ℕ) (limit : Option ℕ) (d : Database) (page : KeyPage) (fields : Option (List (List ℕ)))
    → option_map (λ fs. key_page (part_by_key range skip limit) (index_rows fs d)) fields ≡ Some page
    → up_to_limit limit (drop skip (ids_of_places (option_map (λ fs. key_rows_within range (index_rows fs d)) fields))) ≡ map (λ p. p.id) page.rows
places_of range skip limit d page None e = absurd cc
places_of range skip limit d page (Some fs) e =
    cut_map (λ (p : IndexPlace). p.id) skip limit (key_rows_within range (index_rows fs d))
    ∙ ap (λ (p : KeyPage). map (λ r. r.id) p.rows) (inside (key_page (part_by_key range skip limit) (index_rows fs d)) page e)

pub places_taken : (range part : KeyRange) (design name : List ℕ) (skip : ℕ) (limit : Option ℕ) (there : Option Database) (page : KeyPage) (rows : List IndexPlace) (candidates : List Candidate)
    → part ≡ record { low = range.low; high = range.high; descending = range.descending; skip = skip; limit = limit; counted = false }
    → option_map (λ d. page_of_keys part design name d) there ≡ Some (Some page) → rows ≡ page.rows → candidates ≡ map candidate_at (map (λ r. r.id) rows)
    → option_map (λ d. up_to_limit limit (drop skip (ids_of_places (option_map (λ fields. key_rows_within range (index_rows fields d)) (index_fields_at d design name))))) there ≡ Some (ids_of candidates)
places_taken range part design name skip limit None page rows candidates cut e its made = absurd cc
places_taken range part design name skip limit (Some d) page rows candidates cut e its made =
    let is = ap (λ (p : KeyRange). page_of_keys p design name d) (sym cut) ∙ inside (page_of_keys part design name d) (Some page) e in
    ap Some (places_of range skip limit d page (index_fields_at d design name) is ∙ ap (map (λ r. r.id)) (sym its) ∙ ids_alone (map (λ (r : IndexPlace). r.id) rows)
    ∙ ap ids_of (sym made))

no_places_of : (range part : KeyRange) (skip : ℕ) (limit : Option ℕ) (d : Database) (fields : Option (List (List ℕ)))
    → option_map (λ fs. key_page part (index_rows fs d)) fields ≡ None
    → up_to_limit limit (drop skip (ids_of_places (option_map (λ fs. key_rows_within range (index_rows fs d)) fields))) ≡ []
no_places_of range part skip limit d None e = cut_none skip limit
no_places_of range part skip limit d (Some fs) e = absurd cc

-- where there is no index there are no candidates
pub no_places : (range part : KeyRange) (design name : List ℕ) (skip : ℕ) (limit : Option ℕ) (there : Option Database) (candidates : List Candidate)
    → option_map (λ d. page_of_keys part design name d) there ≡ Some None → candidates ≡ []
    → option_map (λ d. up_to_limit limit (drop skip (ids_of_places (option_map (λ fields. key_rows_within range (index_rows fields d)) (index_fields_at d design name))))) there ≡ Some (ids_of candidates)
no_places range part design name skip limit None candidates e made = absurd cc
no_places range part design name skip limit (Some d) candidates e made =
    ap Some (no_places_of range part skip limit d (index_fields_at d design name) (inside (page_of_keys part design name d) None e) ∙ ap ids_of (sym made))
