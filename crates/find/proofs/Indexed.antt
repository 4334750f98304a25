-- The documents that match, put at their places row by row, are those of the index that match.
use Rattle.std.proofs.Common.{◌≡◌, ℕ, Bool, true, false, cond, List, [], ◌∷◌, ◌++◌, Option, Some, None, Ordering, filter, map, reverse, refl, sym, ap, subst, ◌∙◌, inl, inr}
use Rattle.std.proofs.Math.Dec.{T}
use Rattle.std.specs.Prelude.{flat_map}
use Rattle.std.specs.declared.cmp.Ordering.TheVariants.{Less, Equal, Greater}
use Rattle.std.specs.Cmp.{first_so, second_so}
use Rattle.std.specs.Cmp.Lexicographic.{slice_cmp}
use Rattle.std.specs.FinMap as finite
use Rattle.std.specs.FinMap.{is_sorted}
use Rattle.std.specs.FinMap.Entries.{below_all, is_sorted-put}
use Rattle.std.specs.Option.{option_to_list}
use Rattle.std.specs.Ordering.{nat_cmp, ordering_then}
use Rattle.couch_json.specs.Collation.{collation}
use Rattle.couch_json.specs.Value.{Value, Items, no_items, array}
use Rattle.selector.specs.Truth.{selector_matches}
use Rattle.tree.proofs.Kept.{true_from_T}
use Rattle.tree.proofs.SortedEntries.{less}
use Rattle.tree.specs.DocumentId.{is_design_id}
use Rattle.tree.specs.Revision.{Revision}
use Rattle.store.proofs.Listings.{Entry, In}
use Rattle.store.specs.Database.{Database, history_in}
use Rattle.store.specs.Indexes.{IndexPlace, field_values, index_over, place_order, put_at_values, put_in_index, queried_document, shown_by}
use Rattle.store.specs.PlaceOrder.{place_order_total}
use Rattle.store.specs.Pages.{live_rev, live_rows, with_row}
use Rattle.store.specs.declared.listing.IdRow.{IdRow}
use Rattle.find.proofs.Filtered.{HasKeys, filter-put, keys_put, put_front}
use Rattle.store.proofs.Directed.{reverse-cons}
use Rattle.find.specs.inner.Matching.{if_matches, match_in, matches_at}

-- ---- an index of documents that match

abbrev pub seen : Entry → Option Value
seen e = queried_document e.0 e.1.history

abbrev pub index_of : List (List ℕ) → Value → List Entry → List (IndexPlace × Value)
index_of fields selector [] = []
index_of fields selector (e ∷ es) = put_in_index fields e.0 (if_matches selector (seen e)) (index_of fields selector es)

T_from_true : (b : Bool) → b ≡ true → T b
T_from_true b e = subst T (sym e) tt

pub sorted_put : (fields : List (List ℕ)) (id : List ℕ) (o : Option Value) (es : List (IndexPlace × Value)) → is_sorted place_order es ≡ true → is_sorted place_order (put_in_index fields id o es) ≡ true
sorted_put fields id None es h = h
sorted_put fields id (Some v) es h = by (field_values fields v)
  where
    by : (values : Option Items) → is_sorted place_order (put_at_values id v values es) ≡ true
    by None = h
    by (Some values) = true_from_T _ (is_sorted-put place_order place_order_total (record { key = array values; id = id }) v es (T_from_true _ h))

pub sorted_index : (fields : List (List ℕ)) (es : List Entry) → is_sorted place_order (index_over fields es) ≡ true
sorted_index fields [] = refl
sorted_index fields (e ∷ es) = sorted_put fields e.0 (seen e) (index_over fields es) (sorted_index fields es)

-- where documents stand after an id that comes before theirs
abbrev pub After : List ℕ → IndexPlace → Type 0
After id p = slice_cmp nat_cmp id p.id ≡ Less

pub after_put : (P : IndexPlace → Type 0) (fields : List (List ℕ)) (id : List ℕ) (o : Option Value) (es : List (IndexPlace × Value)) → ((key : Value) → P (record { key = key; id = id })) → HasKeys P es → HasKeys P (put_in_index fields id o es)
after_put P fields id None es p h = h
after_put P fields id (Some v) es p h = by (field_values fields v)
  where
    by : (values : Option Items) → HasKeys P (put_at_values id v values es)
    by None = h
    by (Some values) = keys_put place_order P (record { key = array values; id = id }) v es (p (array values)) h

pub after_index : (fields : List (List ℕ)) (id : List ℕ) (es : List Entry) → below_all (slice_cmp nat_cmp) id es ≡ true → HasKeys (After id) (index_over fields es)
after_index fields id [] h = λ x i. absurd i
after_index fields id (e ∷ es) h = after_put (After id) fields e.0 (seen e) (index_over fields es) (λ key. less _ (first_so _ _ h)) (after_index fields id es (second_so _ _ h))

pub not_tied : (a b : Ordering) → b ≡ Less → ordering_then a b ≡ Equal → ⊥
not_tied Less b e t = cc
not_tied Equal b e t = cc
not_tied Greater b e t = cc

filter_one : (fields : List (List ℕ)) (selector : Value) (id : List ℕ) (o : Option Value) (es : List (IndexPlace × Value)) → is_sorted place_order es ≡ true → HasKeys (After id) es
    → filter (λ e. selector_matches selector e.1) (put_in_index fields id o es) ≡ put_in_index fields id (if_matches selector o) (filter (λ e. selector_matches selector e.1) es)
filter_one fields selector id None es sorted after = refl
filter_one fields selector id (Some v) es sorted after = by (field_values fields v) refl ∙ same (selector_matches selector v)
  where
    left : List (IndexPlace × Value)
    left = filter (λ e. selector_matches selector e.1) es

    by : (values : Option Items) → field_values fields v ≡ values → filter (λ e. selector_matches selector e.1) (put_at_values id v values es) ≡ cond (selector_matches selector v) (put_at_values id v values left) left
    by None is = both (selector_matches selector v)
      where
        both : (b : Bool) → left ≡ cond b left left
        both true = refl
        both false = refl
    by (Some values) is =
        filter-put place_order place_order_total (selector_matches selector) (record { key = array values; id = id }) v es sorted
        (λ x i t. not_tied (collation (array values) x.0.key) (slice_cmp nat_cmp id x.0.id) (after x i) t)

    same : (b : Bool) → cond b (put_at_values id v (field_values fields v) left) left ≡ put_in_index fields id (cond b (Some v) None) left
    same true = refl
    same false = refl

-- those of the index that match are the index of those that match
pub filter_index : (fields : List (List ℕ)) (selector : Value) (es : List Entry) → is_sorted (slice_cmp nat_cmp) es ≡ true
    → filter (λ e. selector_matches selector e.1) (index_over fields es) ≡ index_of fields selector es
filter_index fields selector [] h = refl
filter_index fields selector (e ∷ es) h =
    filter_one fields selector e.0 (seen e) (index_over fields es) (sorted_index fields es) (after_index fields e.0 es (first_so _ _ h))
    ∙ ap (put_in_index fields e.0 (if_matches selector (seen e))) (filter_index fields selector es (second_so _ _ h))

-- ---- by no fields the index goes by id

abbrev pub matching : Value → List Entry → List Value
matching selector es = flat_map (λ e. option_to_list (if_matches selector (seen e))) es

-- a place without values, after an id
abbrev First : List ℕ → IndexPlace → Type 0
First id p = place_order (record { key = array no_items; id = id }) p ≡ Less

first_put : (id other : List ℕ) (o : Option Value) (es : List (IndexPlace × Value)) → slice_cmp nat_cmp id other ≡ Less → HasKeys (First id) es → HasKeys (First id) (put_in_index [] other o es)
first_put id other None es lt h = h
first_put id other (Some v) es lt h = keys_put place_order (First id) (record { key = array no_items; id = other }) v es lt h

first_index : (selector : Value) (id : List ℕ) (es : List Entry) → below_all (slice_cmp nat_cmp) id es ≡ true → HasKeys (First id) (index_of [] selector es)
first_index selector id [] h = λ x i. absurd i
first_index selector id (e ∷ es) h = first_put id e.0 (if_matches selector (seen e)) (index_of [] selector es) (less _ (first_so _ _ h)) (first_index selector id es (second_so _ _ h))

pub index_by_id : (selector : Value) (es : List Entry) → is_sorted (slice_cmp nat_cmp) es ≡ true → map (λ e. e.1) (index_of [] selector es) ≡ matching selector es
index_by_id selector [] h = refl
index_by_id selector (e ∷ es) h = by (if_matches selector (seen e)) (index_by_id selector es (second_so _ _ h))
  where
    by : (o : Option Value) → map (λ e. e.1) (index_of [] selector es) ≡ matching selector es → map (λ e. e.1) (put_in_index [] e.0 o (index_of [] selector es)) ≡ option_to_list o ++ matching selector es
    by None rest = rest
    by (Some v) rest =
        ap (map (λ e. e.1)) (put_front place_order (record { key = array no_items; id = e.0 }) v (index_of [] selector es) (first_index selector e.0 es (first_so _ _ h)))
        ∙ ap (λ vs. v ∷ vs) rest

-- ---- rows

-- the documents of these rows that match
abbrev pub matches_of : Value → Database → List IdRow → List Value
matches_of selector d rows = flat_map (λ r. option_to_list (match_in selector d r.id)) rows

pub matches_ids : (selector : Value) (d : Database) (rows : List IdRow) → matches_at selector d (map (λ r. r.id) rows) ≡ matches_of selector d rows
matches_ids selector d [] = refl
matches_ids selector d (r ∷ rows) = ap (λ vs. option_to_list (match_in selector d r.id) ++ vs) (matches_ids selector d rows)

-- the same documents at their places in an index of these fields
abbrev pub put_matches : List (List ℕ) → Value → Database → List IdRow → List (IndexPlace × Value) → List (IndexPlace × Value)
put_matches fields selector d [] among = among
put_matches fields selector d (r ∷ rows) among = put_matches fields selector d rows (put_in_index fields r.id (match_in selector d r.id) among)

-- these are entries of the database
abbrev pub AreOf : Database → List Entry → Type 0
AreOf d es = (e : Entry) → In es e → finite.get d.documents e.0 ≡ Some e.1

no_document : (id : List ℕ) (o : Option Revision) (e : Entry) → o ≡ None → cond (is_design_id id) None (shown_by id e.1.history o) ≡ None
no_document id o e none = ap (λ r. cond (is_design_id id) None (shown_by id e.1.history r)) none ∙ by (is_design_id id)
  where
    by : (b : Bool) → cond b None (shown_by id e.1.history None) ≡ None
    by true = refl
    by false = refl

row_match : (d : Database) (selector : Value) (e : Entry) → finite.get d.documents e.0 ≡ Some e.1 → match_in selector d e.0 ≡ if_matches selector (seen e)
row_match d selector e there = ap (λ o. if_matches selector (queried_document e.0 (history_in o))) there

pub rows_match : (d : Database) (selector : Value) (es : List Entry) → AreOf d es → matches_of selector d (live_rows es) ≡ matching selector es
rows_match d selector [] are = refl
rows_match d selector (e ∷ es) are = by (live_rev e.1.history) refl (rows_match d selector es (λ x i. are x (inr i)))
  where
    by : (o : Option Revision) → live_rev e.1.history ≡ o → matches_of selector d (live_rows es) ≡ matching selector es
        → matches_of selector d (with_row e.0 o (live_rows es)) ≡ option_to_list (if_matches selector (seen e)) ++ matching selector es
    by None none rest = rest ∙ ap (λ v. option_to_list (if_matches selector v) ++ matching selector es) (sym (no_document e.0 _ e none))
    by (Some r) is rest = λ i. option_to_list (row_match d selector e (are e (inl refl)) i) ++ rest i

put_matches-append : (fields : List (List ℕ)) (selector : Value) (d : Database) (rows more : List IdRow) (among : List (IndexPlace × Value))
    → put_matches fields selector d (rows ++ more) among ≡ put_matches fields selector d more (put_matches fields selector d rows among)
put_matches-append fields selector d [] more among = refl
put_matches-append fields selector d (r ∷ rows) more among = put_matches-append fields selector d rows more (put_in_index fields r.id (match_in selector d r.id) among)

-- the rows, the last of them first, give the index
pub rows_sorted : (fields : List (List ℕ)) (d : Database) (selector : Value) (es : List Entry) → AreOf d es → put_matches fields selector d (reverse (live_rows es)) [] ≡ index_of fields selector es
rows_sorted fields d selector [] are = refl
rows_sorted fields d selector (e ∷ es) are = by (live_rev e.1.history) refl (rows_sorted fields d selector es (λ x i. are x (inr i)))
  where
    by : (o : Option Revision) → live_rev e.1.history ≡ o → put_matches fields selector d (reverse (live_rows es)) [] ≡ index_of fields selector es
        → put_matches fields selector d (reverse (with_row e.0 o (live_rows es))) [] ≡ put_in_index fields e.0 (if_matches selector (seen e)) (index_of fields selector es)
    by None none rest = rest ∙ ap (λ v. put_in_index fields e.0 (if_matches selector v) (index_of fields selector es)) (sym (no_document e.0 _ e none))
    by (Some r) is rest =
        ap (λ rows. put_matches fields selector d rows []) (reverse-cons (record { id = e.0; rev = r }) (live_rows es))
        ∙ put_matches-append fields selector d (reverse (live_rows es)) (record { id = e.0; rev = r } ∷ []) []
        ∙ (λ i. put_in_index fields e.0 (row_match d selector e (are e (inl refl)) i) (rest i))
