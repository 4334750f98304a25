-- A page by key is that of the entries of its index.
use Rattle.sqlstore.proofs.Common.{AllByRecursion, Coded, Coded-set, Damaged, Err, Failed, Ghosts, IfErr, IfOk, IndexPlace, IsWellFormed, KeyPage, List, Memory, NoDatabase, None, NumberValues, Ok, Option, Result, Row, Some, SqlStore, Stands, StoreFault, Trees, [], ap, code_by, coded_list, coded_option, coded×, coded_ℕ, coded_ℤ, contents_in, database_of_row, dbs_tree, drop, filter, index_rows, inl, inr, is_honest, key_page, length, map, numbers_in, is_named, option_map, place_code, refl, slice_get, subst, sym, trees_of, ℕ, ℤ, ∥∥₁_elim, ∥∥₁_map, ◌+◌, ◌<◌, ◌^◌, ◌∙◌, ◌∷◌, ◌≡◌, ◌≤◌, arith, up_to_limit, if_counted, page_of_keys}
use Rattle.std.proofs.Common.{min, true}
use Rattle.std.specs.FinMap as finite
use Rattle.std.specs.List.{count_by}
use Rattle.std.specs.Prelude.{find}
use Rattle.index.proofs.IndexPlaces.{entries_at}
use Rattle.index.proofs.PagePlaces.{entries_read, entries_shown, total_counted, within_counted}
use Rattle.index.specs.Indexed.{IsIndexed}
use Rattle.index.specs.Places.{AreEntriesAt, IsHighBound, IsLowBound, IsShownEntry, spot_of, spot_shown}
use Rattle.index.specs.Rows.{count_of, fields_of, is_declaration_of}
use Rattle.index.specs.Shown.{Declared, declared_at}
use Rattle.couch_json.specs.Lawful as json
use Rattle.store.proofs.KeyCounts.{counted_key_within}
use Rattle.store.specs.Causes.{HasFailed}
use Rattle.store.specs.Database.{Database}
use Rattle.store.specs.KeyPages.{is_key_before, key_counts, key_rows_within}
use Rattle.store.specs.Leaving as leaving
use Rattle.store.specs.declared.index_page.KeyRange.{KeyRange}
use Rattle.store.specs.declared.listing.RowCounts.{RowCounts}
use Rattle.tables.proofs.RowMaps.{mapped_some}
use Rattle.tables.specs.Rows.{number_of}
use Rattle.tables.specs.Schema.{decls_tree, entries_tree}
use Rattle.sqlstore.proofs.Afterwards.{stands_same}
use Rattle.sqlstore.proofs.Answering.{IsThere, there, was_honest}
use Rattle.sqlstore.proofs.Cuts.{limited, none_limited, nothing_left}
use Rattle.sqlstore.proofs.FoundPages.{key_page_by}
use Rattle.sqlstore.proofs.ListedRows.{counts_code}
use Rattle.sqlstore.specs.inner.ByKey.{IsRangeOf}
use Rattle.index.specs.Calls.{IsRefused}
use Rattle.index.specs.declared.fault.IndexFault.{IndexFault}
use Rattle.index.specs.declared.fault.IndexFault.TheVariants as index
use Rattle.sqlstore.specs.inner.Causes.{IsJudged}
use Rattle.sqlstore.specs.inner.Commits.{IsIndexToldAs, IsUncommitted}

-- ---- answers

-- what is read answers, from what was refused
pub answers_by : {S X A : Type 0} (H : S → Type 0) (count : S → ℕ) (old new : S) (view : X → A) (defined : Option A) (intact : Type 0) (r : Result X StoreFault) → IfOk r (λ x. H new → defined ≡ Some (view x))
    → IfErr r (IsUncommitted (count old) (count new) intact) → (H new → ¬ ¬ intact) → leaving.Answers H count old new view defined r
answers_by H count old new view defined intact (Ok x) ok err so = ok
answers_by H count old new view defined intact (Err Memory) ok err so = tt
answers_by H count old new view defined intact (Err Failed) ok err so = err
answers_by H count old new view defined intact (Err Damaged) ok err so = λ h. so h err
answers_by H count old new view defined intact (Err fault) ok err so = absurd err

-- a fault is one of a further call too, where something is defined
pub fault_of : {S X Y A B : Type 0} (H K : S → Type 0) (count : S → ℕ) (old mid new : S) (view : X → A) (other : Y → B) (defined : A) (further : Option B) (fault : StoreFault) → count old ≤ count mid → (K new → ¬ ¬ H new)
    → leaving.Answers {X = X} H count mid new view (Some defined) (Err fault) → leaving.Answers {X = Y} K count old new other further (Err fault)
fault_of H K count old mid new view other defined further NoDatabase up so h = λ k. absurd (so k (λ x. let never = h x in absurd (cc)))
fault_of H K count old mid new view other defined further Damaged up so h = λ k. so k h
fault_of H K count old mid new view other defined further Failed up so h = later (count old) (count mid) (count new) up h
  where
    later : (a b c : ℕ) → a ≤ b → HasFailed b c → HasFailed a c
    later a b c le (inl lt) = inl (omega (arith, le, lt))
    later a b c le (inr is) = inr is
fault_of H K count old mid new view other defined further Memory up so h = tt
fault_of H K count old mid new view other defined further fault up so h = absurd h

-- what is told of an index that was refused
pub index_refused : {X Y : Type 0} (old new : ℕ) (intact : Type 0) (answer : Result X IndexFault) (r : Result Y StoreFault) → IfErr answer (IsRefused intact)
    → IfErr r (λ told. (fault : IndexFault) × (answer ≡ Err fault) × IsIndexToldAs old new fault told) → IfErr r (IsUncommitted old new intact)
index_refused old new intact answer (Ok y) h told = tt
index_refused {X} old new intact answer (Err said) h told = by told.0 said (subst (λ (a : Result X IndexFault). IfErr a (IsRefused intact)) told.1 h) told.2
  where
    judged : (f : StoreFault) → IsJudged old new f → IsUncommitted old new intact f
    judged Memory j = tt
    judged Failed j = j
    judged f j = absurd j

    by : (fault : IndexFault) (f : StoreFault) → IsRefused intact fault → IsIndexToldAs old new fault f → IsUncommitted old new intact f
    by (index.Sqlite e) f k is = judged f is
    by index.Memory f k is = subst (IsUncommitted old new intact) (sym is) tt
    by index.Damaged f k is = subst (IsUncommitted old new intact) (sym is) k

-- what an answer says under a premise
pub when_ok : {X E H : Type 0} (P : X → Type 0) (r : Result X E) → (H → IfOk r P) → IfOk r (λ x. H → P x)
when_ok P (Ok x) f = f
when_ok P (Err e) f = tt

pub also_ok : {X E : Type 0} {P Q : X → Type 0} (r : Result X E) → ((x : X) → P x → Q x) → IfOk r P → IfOk r Q
also_ok (Ok x) f p = f x p
also_ok (Err e) f p = tt

-- what was read is what was answered
pub read_ok : {X E F : Type 0} (P : X → Type 0) (answer : Result X E) (r : Result X F) → IfOk r (λ x. answer ≡ Ok x) → IfOk answer P → IfOk r P
read_ok P answer (Err e) is p = tt
read_ok {X} {E} P answer (Ok x) is p = subst (λ (a : Result X E). IfOk a P) is p

-- the same where what is defined hangs on what is so
pub fault_any : {S X Y A B P : Type 0} (H : P → S → Type 0) (K : S → Type 0) (count : S → ℕ) (old mid new : S) (view : X → A) (other : Y → B) (defined : P → A) (further : Option B) (fault : StoreFault) (p : P) → count old ≤ count mid
    → (K new → ¬ ¬ ((q : P) × H q new)) → ((q : P) → leaving.Answers {X = X} (H q) count mid new view (Some (defined q)) (Err fault)) → leaving.Answers {X = Y} K count old new other further (Err fault)
fault_any H K count old mid new view other defined further NoDatabase p up so h = λ k. absurd (so k (λ x. let never = h x.0 x.1 in absurd (cc)))
fault_any H K count old mid new view other defined further Damaged p up so h = λ k. so k (λ x. h x.0 x.1)
fault_any H K count old mid new view other defined further Failed p up so h = later (count old) (count mid) (count new) up (h p)
  where
    later : (a b c : ℕ) → a ≤ b → HasFailed b c → HasFailed a c
    later a b c le (inl lt) = inl (omega (arith, le, lt))
    later a b c le (inr is) = inr is
fault_any H K count old mid new view other defined further Memory p up so h = tt
fault_any H K count old mid new view other defined further fault p up so h = absurd (h p)

-- what is answered is so of what is told of it
pub answers_as : {S X A : Type 0} (H K : S → Type 0) (count : S → ℕ) (old new : S) (view : X → A) (defined further : A) (r : Result X StoreFault) → (K new → H new) → (K new → defined ≡ further)
    → leaving.Answers H count old new view (Some defined) r → leaving.Answers K count old new view (Some further) r
answers_as H K count old new view defined further (Ok x) so same h = λ k. ap Some (sym (same k)) ∙ h (so k)
answers_as H K count old new view defined further (Err NoDatabase) so same h = λ k. absurd (let never = h (so k) in cc)
answers_as H K count old new view defined further (Err Damaged) so same h = λ k. h (so k)
answers_as H K count old new view defined further (Err Failed) so same h = h
answers_as H K count old new view defined further (Err Memory) so same h = tt
answers_as H K count old new view defined further (Err fault) so same h = absurd h

-- the entries of a store that stands are those of before
pub entries_before : {S : Type 0} (g : Ghosts S) (old new : SqlStore S g) (declaration : ℤ) (places : List IndexPlace) → Stands g old new → AreEntriesAt declaration places (trees_of g new entries_tree) → AreEntriesAt declaration places (trees_of g old entries_tree)
entries_before g old new declaration places s h = subst (λ (t : Trees). AreEntriesAt declaration places (t entries_tree)) (stands_same g old new s) h

-- ---- rows

module _ (declaration : ℤ) (places : List IndexPlace) (rows : List Row) (h : AreEntriesAt declaration places rows) (range : KeyRange) (low high : List ℕ) (lows : IsLowBound range low) (highs : IsHighBound range high) where
  pub range_shown : (shown : List Row) → IsRangeOf range declaration low high rows shown → AllByRecursion IsShownEntry shown
  range_shown shown r = subst (AllByRecursion IsShownEntry) (sym r.2) (entries_shown declaration places rows h range low high lows highs r.0 range.skip)

  pub rows_read : (shown : List Row) (read cut : List IndexPlace) → IsRangeOf range declaration low high rows shown → AllByRecursion (λ p. json.IsLawful p.key) read
      → map spot_of read ≡ map spot_shown shown → cut ≡ up_to_limit range.limit read → up_to_limit range.limit (drop range.skip (key_rows_within range places)) ≡ cut
  rows_read shown read cut r lawful spots made =
      let same = entries_read declaration places rows h range low high lows highs r.0 range.skip read lawful (spots ∙ ap (map spot_shown) r.2) in
      sym (made ∙ ap (up_to_limit range.limit) same ∙ limited range.limit r.0 (drop range.skip (key_rows_within range places)) r.1)

  pub rows_skipped : (count : ℕ) → count_of declaration low high rows ≡ count → count < 2 ^ 63 → 2 ^ 63 ≤ range.skip → up_to_limit range.limit (drop range.skip (key_rows_within range places)) ≡ []
  rows_skipped count is lt far =
      let counted = sym (within_counted declaration places rows h range low high lows highs) ∙ is in
      ap (up_to_limit range.limit) (nothing_left range.skip (key_rows_within range places) (omega (arith, counted, lt, far))) ∙ none_limited range.limit

  pub skipped_counted : (within : ℕ) → count_of declaration low high rows ≡ within → min range.skip (length (key_rows_within range places)) ≡ min range.skip within
  skipped_counted within is = ap (min range.skip) (sym (within_counted declaration places rows h range low high lows highs) ∙ is)

  pub counts_made : (before skipped total : ℕ) (made : RowCounts) → range.counted ≡ true → count_of declaration [] (8 ∷ []) rows ≡ total → min range.skip (length (key_rows_within range places)) ≡ skipped
      → count_by (λ p. is_key_before range p.key) places ≡ before → (before + skipped ≤ total → made.offset ≡ before + skipped) → made.total ≡ total → if_counted range.counted (key_counts range places) ≡ Some made
  counts_made before skipped total made asked all left first offset sum =
      let totals = sym (total_counted declaration places rows h) ∙ all in
      let fits = counted_key_within range places in
      let least : before + skipped ≤ total = omega (arith, totals, left, fits, first) in
      let is_offset = offset least in
      ap (λ b. if_counted b (key_counts range places)) asked
      ∙ (λ i. Some (record { offset = (ap (λ n. n + min range.skip (length (key_rows_within range places))) first ∙ ap (λ n. before + n) left ∙ sym is_offset) i; total = (totals ∙ sym sum) i }))

-- ---- the index of a database that is found

-- there is an index, whose entries are those of these places, and the page is theirs
pub record HasPage (range : KeyRange) (trees : Trees) (name design index : List ℕ) (declaration : ℤ) : Type 0 where
  pub places : List IndexPlace
  pub entries : AreEntriesAt declaration places (trees entries_tree)
  pub page : option_map (λ (db : Database). page_of_keys range design index db) (finite.get (contents_in trees) name) ≡ Some (Some (key_page range places))

module _ (range : KeyRange) (trees : Trees) (name : List ℕ) (k : NumberValues) (l : IsWellFormed trees) (is : IsIndexed trees) (t : IsThere numbers_in trees name k) (design index : List ℕ) where
  abbrev stored : Option Row
  stored = find (is_declaration_of k.0 design index) (trees decls_tree)

  page_of : (o : Option (List (List ℕ))) → option_map fields_of stored ≡ o
      → option_map (λ (db : Database). page_of_keys range design index db) (finite.get (contents_in trees) name) ≡ Some (option_map (λ fields. key_page range (index_rows fields (database_of_row trees t.row))) o)
  page_of o has =
      key_page_by trees name k ∣ l ∣₁ t range design index
      ∙ ap (λ x. Some (option_map (λ fields. key_page range (index_rows fields (database_of_row trees t.row))) x)) (sym (is.declared k.0 design index) ∙ has)

  pub has_page : (x : Declared) → Some x ≡ option_map declared_at stored → HasPage range trees name design index x.number
  has_page x has =
      let d = mapped_some declared_at stored x (sym has) in
      let own : find (is_declaration_of (number_of t.row) design index) (trees decls_tree) ≡ Some d.0 = ap (λ (v : NumberValues). find (is_declaration_of v.0 design index) (trees decls_tree)) t.values ∙ d.1 in
      record {
        places = index_rows (fields_of d.0) (database_of_row trees t.row);
        entries = subst (λ n. AreEntriesAt n (index_rows (fields_of d.0) (database_of_row trees t.row)) (trees entries_tree)) (ap (λ (y : Declared). y.number) d.2) (entries_at trees l is t.row d.0 design index own);
        page = page_of (Some (fields_of d.0)) (ap (option_map fields_of) d.1);
      }

  pub no_page : None ≡ option_map declared_at stored → option_map (λ (db : Database). page_of_keys range design index db) (finite.get (contents_in trees) name) ≡ Some None
  no_page none = page_of None (go stored none)
    where
      go : (o : Option Row) → None ≡ option_map declared_at o → option_map fields_of o ≡ None
      go None e = refl
      go (Some d) e = absurd (cc)

-- ---- what is told of them is one thing

page_code : Coded KeyPage
page_code = code_by (List IndexPlace × Option RowCounts) (coded× (coded_list place_code) (coded_option counts_code)) (λ p. (p.rows, p.counts)) (λ p. record { rows = p.0; counts = p.1 }) (λ _. refl)

pub pages_set : (a b : Option (Option KeyPage)) → IsProp (a ≡ b)
pages_set = Coded-set (coded_option (coded_option page_code))

pub declared_set : (a b : Option Declared) → IsProp (a ≡ b)
declared_set = Coded-set (coded_option (code_by (ℤ × List (List ℕ)) (coded× coded_ℤ (coded_list (coded_list coded_ℕ))) (λ d. (d.number, d.fields)) (λ p. record { number = p.0; fields = p.1 }) (λ _. refl)))

-- the rows of indexes of an honest store are those of what is stored
pub indexed : {S : Type 0} (g : Ghosts S) (s : SqlStore S g) → is_honest g s → ∥ IsWellFormed (trees_of g s) × IsIndexed (trees_of g s) ∥₁
indexed g s honest = ∥∥₁_map (s.standing.held honest.0 honest.1) (λ holds. (holds.store.laid, holds.indexed))

-- ---- what is found of an index of a store

module _ {S : Type 0} (g : Ghosts S) (s first second : SqlStore S g) (range : KeyRange) (name design index : List ℕ) (k : NumberValues) (one : Stands g s first) (two : Stands g first second) (honest : is_honest g second)
    (found : option_map numbers_in (slice_get (filter (is_named name) (trees_of g s dbs_tree)) 0) ≡ Some k) where
  at_first : is_honest g first
  at_first = was_honest g first second two honest

  stored_at : (o : Option Declared) → option_map declared_at (find (is_declaration_of k.0 design index) (trees_of g first decls_tree)) ≡ o → o ≡ option_map declared_at (find (is_declaration_of k.0 design index) (trees_of g s decls_tree))
  stored_at o is = sym is ∙ ap (λ (t : Trees). option_map declared_at (find (is_declaration_of k.0 design index) (t decls_tree))) (stands_same g s first one)

  pub page_found : (x : Declared) → option_map declared_at (find (is_declaration_of k.0 design index) (trees_of g first decls_tree)) ≡ Some x → ∥ HasPage range (trees_of g s) name design index x.number ∥₁
  page_found x is =
      ∥∥₁_map (indexed g s (was_honest g s first one at_first))
      (λ both. has_page range (trees_of g s) name k both.0 both.1 (there numbers_in (trees_of g s) name k found) design index x (stored_at (Some x) is))

  pub no_page_found : option_map declared_at (find (is_declaration_of k.0 design index) (trees_of g first decls_tree)) ≡ None
      → option_map (λ (db : Database). page_of_keys range design index db) (finite.get (contents_in (trees_of g s)) name) ≡ Some None
  no_page_found is =
      ∥∥₁_elim (indexed g s (was_honest g s first one at_first)) (pages_set _ _)
      (λ both. no_page range (trees_of g s) name k both.0 both.1 (there numbers_in (trees_of g s) name k found) design index (stored_at None is))
