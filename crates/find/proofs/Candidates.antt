-- Ids that have all documents that match give the documents that a query finds, and the rows of an index have such ids.
use Rattle.std.proofs.Common.{◌≡◌, ℕ, Bool, true, false, cond, List, [], ◌∷◌, Option, Some, None, drop, map, option_map, take, refl, sym, ap, subst, ◌∙◌}
use Rattle.std.specs.FinMap as finite
use Rattle.std.specs.Prelude.{string_bytes}
use Rattle.couch_json.specs.Value.{Items, Value, array}
use Rattle.selector.specs.Truth.{selector_matches}
use Rattle.tree.specs.DocumentId.{is_design_id}
use Rattle.tree.specs.History.{HistoryContent}
use Rattle.tree.specs.Revision.{Revision}
use Rattle.store.proofs.Among.{in_filter, in_map}
use Rattle.store.proofs.Directed.{in_directed}
use Rattle.store.proofs.IdRows.{id_row_there}
use Rattle.store.proofs.IndexRows.{place_there}
use Rattle.store.proofs.Winnings.{no_winner}
use Rattle.store.specs.Database.{Database, Document, history_at, history_in}
use Rattle.store.specs.Indexes.{IndexPlace, field_values, index_fields_at, index_rows, put_in_index, queried_document, shown_by}
use Rattle.store.specs.KeyPages.{is_key_within, key_rows_within}
use Rattle.store.specs.Pages.{in_direction, live_rev, live_rev_by, page_of_ids}
use Rattle.store.specs.declared.index_page.KeyRange.{KeyRange}
use Rattle.store.specs.declared.listing.IdRow.{IdRow}
use Rattle.find.proofs.Covered.{HasMatches, covered}
use Rattle.find.proofs.Finding.{every_row, found_sorted, rows_of_page}
use Rattle.find.proofs.Indexed.{put_matches}
use Rattle.find.specs.inner.Candidates.{put_candidates}
use Rattle.find.specs.Found.{found_documents}
use Rattle.find.specs.IndexRead.{index_asked}
use Rattle.find.specs.inner.Matching.{if_matches, match_in}
use Rattle.find.specs.inner.Planning.{Covers, MayServe, has_key_within}
use Rattle.find.specs.inner.Sources.{ids_in, ids_of_places}
use Rattle.find.specs.declared.plan.Plan.{Plan}
use Rattle.find.specs.declared.source.Source.TheVariants.{Documents, Index}
use Rattle.find.specs.declared.query.Query.{Query}

-- ---- a document that matches

pub matched : (selector : Value) (o : Option Value) (v : Value) → if_matches selector o ≡ Some v → (o ≡ Some v) × (selector_matches selector v ≡ true)
matched selector None v h = absurd cc
matched selector (Some w) v h = by (selector_matches selector w) refl h
  where
    by : (b : Bool) → selector_matches selector w ≡ b → cond b (Some w) None ≡ Some v → (Some w ≡ Some v) × (selector_matches selector v ≡ true)
    by true is e = let same : w ≡ v = cc in (e, ap (selector_matches selector) (sym same) ∙ is)
    by false is e = absurd cc

abbrev nothing : HistoryContent
nothing = finite.empty

nothing_shown : (id : List ℕ) → queried_document id nothing ≡ None
nothing_shown id = ap (λ w. cond (is_design_id id) None (shown_by id nothing (live_rev_by nothing w))) no_winner ∙ by (is_design_id id)
  where
    by : (b : Bool) → cond b None (shown_by id nothing None) ≡ None
    by true = refl
    by false = refl

-- the document is there, and queries look at it
record IsSeen (db : Database) (id : List ℕ) (v : Value) : Type 0 where
  document : Document
  there : finite.get db.documents id ≡ Some document
  shown : queried_document id document.history ≡ Some v

seen_at : (db : Database) (id : List ℕ) (v : Value) → queried_document id (history_at db id) ≡ Some v → IsSeen db id v
seen_at db id v e = by (finite.get db.documents id) refl e
  where
    by : (o : Option Document) → finite.get db.documents id ≡ o → queried_document id (history_in o) ≡ Some v → IsSeen db id v
    by None none h = let never : None ≡ Some v = sym (nothing_shown id) ∙ h in absurd cc
    by (Some d) is h = record { document = d; there = is; shown = h }

live_one : (id : List ℕ) (h : HistoryContent) (v : Value) → queried_document id h ≡ Some v → (r : Revision) × (live_rev h ≡ Some r)
live_one id h v e = by (is_design_id id) (live_rev h) refl e
  where
    by : (b : Bool) (o : Option Revision) → live_rev h ≡ o → cond b None (shown_by id h o) ≡ Some v → (r : Revision) × (live_rev h ≡ Some r)
    by true o is k = absurd cc
    by false None is k = absurd cc
    by false (Some r) is k = (r, is)

-- ---- the rows of all documents

abbrev ids_of : List IdRow → List (List ℕ)
ids_of rows = map (λ r. r.id) rows

put_matches-ids : (fields : List (List ℕ)) (selector : Value) (d : Database) (rows : List IdRow) (among : List (IndexPlace × Value)) → put_matches fields selector d rows among ≡ put_candidates fields selector d (ids_of rows) among
put_matches-ids fields selector d [] among = refl
put_matches-ids fields selector d (r ∷ rows) among = put_matches-ids fields selector d rows (put_in_index fields r.id (match_in selector d r.id) among)

pub all_rows : (descending : Bool) (fields : List (List ℕ)) (selector : Value) (d : Database) → HasMatches fields selector d (ids_of (page_of_ids (every_row descending) d).rows)
all_rows descending fields selector d x h =
    let id = x.0.id in
    let m = matched selector (queried_document id (history_at d id)) x.1 h.0 in
    let s = seen_at d id x.1 m.0 in
    let l = live_one id s.document.history x.1 s.shown in
    in_map (λ (r : IdRow). r.id) (page_of_ids (every_row descending) d).rows (record { id = id; rev = l.0 })
    (id_row_there (every_row descending) d (record { id = id; rev = l.0 }) refl refl (record { document = s.document; there = s.there; live = l.1; within = refl }))

-- all documents, in either direction
pub all_documents : (descending : Bool) (fields : List (List ℕ)) (selector : Value) (d : Database) → HasMatches fields selector d (ids_in (Documents descending) d)
all_documents descending fields selector d =
    subst (λ rows. HasMatches fields selector d (ids_of rows)) (rows_of_page descending d) (all_rows descending fields selector d)

-- ids that have all documents that match give what is found
pub found_among : (query : Query) (d : Database) (ids : List (List ℕ)) → HasMatches query.sort query.selector d ids
    → take query.limit (drop query.skip (in_direction query.descending (map (λ e. e.1) (put_candidates query.sort query.selector d ids [])))) ≡ found_documents query d
found_among query d ids h =
    let rows = (page_of_ids (every_row true) d).rows in
    ap (λ es. take query.limit (drop query.skip (in_direction query.descending (map (λ e. e.1) es))))
    (covered query.sort query.selector d ids (ids_of rows) h (all_rows true query.sort query.selector d) ∙ sym (put_matches-ids query.sort query.selector d rows []))
    ∙ found_sorted query d

-- ---- the rows of an index

abbrev pub ids_at : List IndexPlace → List (List ℕ)
ids_at ps = map (λ p. p.id) ps

has_keys : (o : Option Items) (key : Value) → option_map array o ≡ Some key → (values : Items) × (o ≡ Some values)
has_keys None key e = absurd cc
has_keys (Some values) key e = (values, refl)

has_values : (range : KeyRange) (o : Option Items) → has_key_within range o ≡ true → (values : Items) × (o ≡ Some values) × (is_key_within range (array values) ≡ true)
has_values range None h = absurd cc
has_values range (Some values) h = (values, refl, h)

-- a range that covers a query has the rows of all documents that match
pub index_covers : (query : Query) (d : Database) (fields : List (List ℕ)) (range : KeyRange) → Covers fields range query
    → HasMatches query.sort query.selector d (ids_at (key_rows_within range (index_rows fields d)))
index_covers query d fields range covers x h =
    let id = x.0.id in
    let m = matched query.selector (queried_document id (history_at d id)) x.1 h.0 in
    let s = seen_at d id x.1 m.0 in
    let k = has_keys (field_values query.sort x.1) x.0.key h.1 in
    let w = has_values range (field_values fields x.1) (covers x.1 k.0 m.1 k.1) in
    let rows = in_direction range.descending (index_rows fields d) in
    in_map (λ (p : IndexPlace). p.id) (key_rows_within range (index_rows fields d)) (record { key = array w.0; id = id })
    (in_filter (λ (p : IndexPlace). is_key_within range p.key) rows (record { key = array w.0; id = id })
    (in_directed range.descending (index_rows fields d) (record { key = array w.0; id = id })
    (place_there fields d (record { key = array w.0; id = id }) (record { document = s.document; there = s.there; shown = x.1; looked_at = s.shown; values = ap (option_map array) w.1 }))) w.2)

-- the ids of an index that is declared
pub ids_of_index : (plan : Plan) (d : Database) (fields : List (List ℕ)) → index_fields_at d plan.index.design (string_bytes plan.index.name) ≡ Some fields
    → ids_in (Index plan) d ≡ ids_at (key_rows_within plan.rows.range (index_rows fields d))
ids_of_index plan d fields declared = ap (λ o. ids_of_places (option_map (λ fs. key_rows_within plan.rows.range (index_rows fs d)) o)) declared

pub found_by_index : (query : Query) (d : Database) (plan : Plan) → MayServe (index_asked plan.index) plan.rows.range query d
    → take query.limit (drop query.skip (in_direction query.descending (map (λ e. e.1) (put_candidates query.sort query.selector d (ids_in (Index plan) d) [])))) ≡ found_documents query d
found_by_index query d plan serves =
    let fields = plan.index.fields.items in
    found_among query d (ids_in (Index plan) d)
    (subst (λ ids. HasMatches query.sort query.selector d ids) (sym (ids_of_index plan d fields serves.declared)) (index_covers query d fields plan.rows.range serves.covers))
