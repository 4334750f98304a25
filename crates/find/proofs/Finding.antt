-- The rows of a page give the documents that a query finds.
use Rattle.std.proofs.Common.{◌≡◌, ℕ, ◌≤◌, Bool, true, false, List, [], ◌∷◌, Option, Some, None, Result, Ok, Err, drop, filter, map, option_map, take, refl, sym, ap, ◌∙◌, inl, inr, arith}
use Rattle.std.specs.Prelude.{IfErr, IfOk}
use Rattle.std.specs.Cmp.Lexicographic.{slice_cmp}
use Rattle.std.specs.FinMap as finite
use Rattle.std.specs.Ordering.{nat_cmp}
use Rattle.couch_json.specs.Value.{Value}
use Rattle.selector.specs.Truth.{selector_matches}
use Rattle.tree.proofs.Kept.{true_from_T}
use Rattle.store.proofs.Listings.{in_found}
use Rattle.store.specs.Calls.{OnlyReads}
use Rattle.store.specs.Causes.{HasFailed}
use Rattle.store.specs.Database.{Database}
use Rattle.store.specs.Indexes.{index_entries}
use Rattle.store.proofs.Calls.{reads_nothing}
use Rattle.store.specs.Pages.{in_direction, live_rows, page_of_ids}
use Rattle.store.specs.declared.fault.StoreFault.{StoreFault}
use Rattle.store.specs.declared.fault.StoreFault.TheVariants as store
use Rattle.store.specs.declared.listing.IdRange.{IdRange}
use Rattle.store.specs.declared.listing.IdRow.{IdRow}
use Rattle.store.specs.declared.store.Store.{Ghosts}
use Rattle.read.specs.Answers.{Stops, StopsBy}
use Rattle.read.specs.declared.fault.ReadFault.{ReadFault}
use Rattle.read.specs.declared.fault.ReadFault.TheVariants.{Missing, Deleted, BadQuery, Store, Memory}
use Rattle.find.proofs.Filtered.{filter-seconds}
use Rattle.find.proofs.Indexed.{AreOf, filter_index, index_by_id, index_of, matches_ids, put_matches, rows_match, rows_sorted}
use Rattle.store.proofs.Directed.{filter-directed, options-directed}
use Rattle.find.specs.Answers.{Finds}
use Rattle.find.specs.Found.{found_documents, sorted_documents}
use Rattle.find.specs.inner.Matching.{match_in, matches_at}
use Rattle.find.specs.inner.Sources.{ids_in}
use Rattle.find.specs.declared.source.Source.TheVariants.{Documents}
use Rattle.find.specs.declared.query.Query.{Query}

-- ---- the rows of a page

abbrev pub every_row : Bool → IdRange
every_row descending = record { start = None; end = None; inclusive_end = false; descending = descending; skip = 0; limit = None; counted = false }

pub all_pass : {X : Type 0} (xs : List X) → filter (λ x. true) xs ≡ xs
all_pass [] = refl
all_pass (x ∷ xs) = ap (λ ys. x ∷ ys) (all_pass xs)

pub rows_of_page : (descending : Bool) (d : Database) → (page_of_ids (every_row descending) d).rows ≡ in_direction descending (live_rows (finite.entries d.documents))
rows_of_page descending d = all_pass (in_direction descending (live_rows (finite.entries d.documents)))

up : (d : Database) → finite.is_sorted (slice_cmp nat_cmp) (finite.entries d.documents) ≡ true
up d = true_from_T _ (finite.entries_sorted d.documents)

own : (d : Database) → AreOf d (finite.entries d.documents)
own d e i = finite.get-entries d.documents e.0 ∙ in_found (finite.entries d.documents) e (up d) i

-- ---- what is found

matching_index : (fields : List (List ℕ)) (descending : Bool) (selector : Value) (d : Database)
    → filter (λ v. selector_matches selector v) (sorted_documents fields descending d) ≡ in_direction descending (map (λ e. e.1) (index_of fields selector (finite.entries d.documents)))
matching_index fields descending selector d =
    filter-directed (selector_matches selector) descending (map (λ e. e.1) (index_entries fields d))
    ∙ ap (in_direction descending) (filter-seconds (selector_matches selector) (index_entries fields d) ∙ ap (map (λ e. e.1)) (filter_index fields selector (finite.entries d.documents) (up d)))

part_of : Query → List Value → List Value
part_of query vs = take query.limit (drop query.skip vs)

pub found_by_id : (query : Query) (d : Database) → query.sort ≡ []
    → take query.limit (drop query.skip (matches_at query.selector d (ids_in (Documents query.descending) d))) ≡ found_documents query d
unfolding part_of
found_by_id query d unsorted =
    let es = finite.entries d.documents in
    ap (part_of query)
    (matches_ids query.selector d (in_direction query.descending (live_rows es))
    ∙ options-directed (λ (r : IdRow). match_in query.selector d r.id) query.descending (live_rows es)
    ∙ ap (in_direction query.descending) (rows_match d query.selector es (own d) ∙ sym (index_by_id query.selector es (up d)))
    ∙ sym (matching_index [] query.descending query.selector d))
    ∙ ap (λ fields. part_of query (filter (λ v. selector_matches query.selector v) (sorted_documents fields query.descending d))) (sym unsorted)

pub found_sorted : (query : Query) (d : Database)
    → take query.limit (drop query.skip (in_direction query.descending (map (λ e. e.1) (put_matches query.sort query.selector d (page_of_ids (every_row true) d).rows [])))) ≡ found_documents query d
unfolding part_of
found_sorted query d =
    let es = finite.entries d.documents in
    ap (λ rows. part_of query (in_direction query.descending (map (λ e. e.1) (put_matches query.sort query.selector d rows [])))) (rows_of_page true d)
    ∙ ap (λ entries. part_of query (in_direction query.descending (map (λ e. e.1) entries))) (rows_sorted query.sort d query.selector es (own d))
    ∙ ap (part_of query) (sym (matching_index query.sort query.descending query.selector d))

-- ---- one call after another

failed_later : (a b c : ℕ) → a ≤ b → HasFailed b c → HasFailed a c
failed_later a b c le (inl lt) = inl (omega (arith, le, lt))
failed_later a b c le (inr full) = inr full

stops_by : {S : Type 0} (g : Ghosts S) (old mid new : S) (absent missing : Type 0) (cause : StoreFault) → OnlyReads g old mid → (g.is_honest new → absent → missing) → StopsBy g mid new absent cause → StopsBy g old new missing cause
stops_by g old mid new absent missing store.NoDatabase reads so h = λ honest. so honest (h honest)
stops_by g old mid new absent missing store.Failed reads so h = failed_later _ _ _ reads.goes_on.counted h
stops_by g old mid new absent missing store.Damaged reads so h = h
stops_by g old mid new absent missing store.Memory reads so h = h
stops_by g old mid new absent missing store.Exists reads so h = h
stops_by g old mid new absent missing store.Full reads so h = h

pub stops_later : {S : Type 0} (g : Ghosts S) (old mid new : S) (absent missing : Type 0) (fault : ReadFault) → OnlyReads g old mid → (g.is_honest new → absent → missing) → Stops g mid new absent fault → Stops g old new missing fault
stops_later g old mid new absent missing Missing reads so h = h
stops_later g old mid new absent missing Deleted reads so h = h
stops_later g old mid new absent missing BadQuery reads so h = h
stops_later g old mid new absent missing (Store cause) reads so h = stops_by g old mid new absent missing cause reads so h
stops_later g old mid new absent missing Memory reads so h = tt

-- what the calls of a find give is what it answers
pub finds_by : {S X : Type 0} (g : Ghosts S) (old new : S) (shown : X → List Value) (there : Option Database) (give defined : Database → List Value) (r : Result X ReadFault)
    → (g.is_honest new → IfOk r (λ x. option_map give there ≡ Some (shown x))) → IfErr r (Stops g old new (there ≡ None)) → ((d : Database) → give d ≡ defined d)
    → Finds g old new shown (option_map defined there) r
finds_by g old new shown there give defined (Err fault) found stops is =
    stops_later g old old new (there ≡ None) (option_map defined there ≡ None) fault (reads_nothing g old) (λ honest none. ap (option_map defined) none) stops
finds_by g old new shown None give defined (Ok x) found stops is = λ honest. let never : None ≡ Some (shown x) = found honest in absurd cc
finds_by g old new shown (Some d) give defined (Ok x) found stops is = λ honest. ap Some (sym (is d)) ∙ found honest
