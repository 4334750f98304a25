-- The keys of the entries of an index are those that the documents of its database have in it.
use Rattle.std.proofs.Common.{◌≡◌, ◌≢◌, ℕ, ℤ, List, [], ◌∷◌, Bool, true, false, if◌then◌else◌, Option, None, Some, filter, inl, inr, map, refl, sym, ap, subst, ◌∙◌}
use Rattle.std.specs.Prelude.{pos}
use Rattle.std.specs.Cmp.{first_so, second_so, tied_itself}
use Rattle.std.specs.Cmp.Lexicographic.{nat_list_cmp_total, slice_cmp}
use Rattle.std.specs.FinMap as finite
use Rattle.std.specs.FinMap.{is_sorted}
use Rattle.std.specs.List.Sorted.{IsPermutation}
use Rattle.std.specs.Ordering.{nat_cmp}
use Rattle.std.proofs.lemmas.List.Sorted.{IsPermutation-map, IsPermutation-sym}
use Rattle.sqlite_keyed.proofs.ListLemmas.{ascending-filter, ascending-map, map-map}
use Rattle.sqlite_trees.specs.Tree.{Trees}
use Rattle.sqlite_value.specs.Order.{Row}
use Rattle.store.proofs.Among.{from_filter, from_map, in_contained, in_filter, in_map}
use Rattle.store.proofs.Listings.{In, below_in, found_in, in_found}
use Rattle.store.proofs.Winnings.{no_winner}
use Rattle.store.specs.Database as store
use Rattle.store.specs.Database.{Document, TextMap}
use Rattle.store.specs.Indexes.{queried_document, shown_by}
use Rattle.store.specs.Pages.{live_rev_by}
use Rattle.tables.proofs.Common.{same_int}
use Rattle.tables.proofs.Lookups.{document_found}
use Rattle.tables.proofs.RowMaps.{passing}
use Rattle.tables.proofs.Sorted.{both_in}
use Rattle.tables.specs.Layout.{IsWellFormed}
use Rattle.tables.specs.Rows.{database_row, number_of}
use Rattle.tables.specs.Schema.{decls_tree, entries_tree}
use Rattle.tree.proofs.Kept.{true_from_T}
use Rattle.tree.specs.DocumentId.{is_design_id}
use Rattle.couch_json.specs.Value.{Value}
use Rattle.index.proofs.Alike.{key_is}
use Rattle.index.proofs.EntryChanges.{entry_from, of_entry, same_bytes, same_number}
use Rattle.index.proofs.Following.{found_each}
use Rattle.index.proofs.Spots.{any_in, at_in, each_in, in_any}
use Rattle.index.specs.Indexed.{IsIndexed, is_due_by}
use Rattle.index.specs.Meaning.{is_key, key_if_seen, sees_in}
use Rattle.index.specs.Places.{Spot, spot_at}
use Rattle.index.specs.Rows.{database_of_declaration, declaration_at, declaration_of, entry_id, fields_of, has_entry, is_at_home, is_entry_in, is_entry_of, key_of}
use Rattle.index.specs.Shown.{Declared, declared_at}
use Rattle.ranks.proofs.Lists.{counts_permuted}
use Rattle.ranks.specs.Counts.{AreRanksOf}
use Rattle.ranks.specs.Seen.{Ranks}
use Rattle.sqlstore.proofs.SameElements.{IsApart, same_elements}
use Rattle.sqlstore.specs.inner.Keys.{HasIndex, document_key, document_keys, entry_keys, keys_over, with_one_key}
use Rattle.sqlstore.specs.inner.Marks.{documents_at}

abbrev Entry : Type 0
Entry = List ℕ × Document

-- ---- the keys of documents, with their ids

abbrev with_spot : Option (List ℕ) → List ℕ → List Spot → List Spot
with_spot None id spots = spots
with_spot (Some key) id spots = (key, id) ∷ spots

module _ (fields : List (List ℕ)) where
  abbrev key_in : Entry → Option (List ℕ)
  key_in e = document_key fields e.0 (Some e.1)

  abbrev spots_over : List Entry → List Spot
  spots_over [] = []
  spots_over (e ∷ es) = with_spot (key_in e) e.0 (spots_over es)

  keys_of_spots : (es : List Entry) → map (λ (s : Spot). s.0) (spots_over es) ≡ keys_over fields es
  keys_of_spots [] = refl
  keys_of_spots (e ∷ es) = more (key_in e) ∙ ap (with_one_key (key_in e)) (keys_of_spots es)
    where
      more : (o : Option (List ℕ)) → map (λ (s : Spot). s.0) (with_spot o e.0 (spots_over es)) ≡ with_one_key o (map (λ (s : Spot). s.0) (spots_over es))
      more None = refl
      more (Some key) = refl

  spot_first : (o : Option (List ℕ)) (id : List ℕ) (spots : List Spot) (k : List ℕ) → o ≡ Some k → In (with_spot o id spots) (k, id)
  spot_first None id spots k is = absurd (cc)
  spot_first (Some key) id spots k is = let same : key ≡ k = cc in inl (ap (λ x. (x, id)) same)

  spot_later : (o : Option (List ℕ)) (id : List ℕ) (spots : List Spot) (s : Spot) → In spots s → In (with_spot o id spots) s
  spot_later None id spots s i = i
  spot_later (Some key) id spots s i = inr i

  -- a document that has a key has a spot
  spot_there : (es : List Entry) (e : Entry) (k : List ℕ) → In es e → key_in e ≡ Some k → In (spots_over es) (k, e.0)
  spot_there [] e k i is = absurd i
  spot_there (f ∷ es) e k (inl same) is = subst (λ (g : Entry). In (spots_over (f ∷ es)) (k, g.0)) same (spot_first (key_in f) f.0 (spots_over es) k (ap key_in same ∙ is))
  spot_there (f ∷ es) e k (inr i) is = spot_later (key_in f) f.0 (spots_over es) (k, e.0) (spot_there es e k i is)

  -- a spot is that of a document that has its key
  spot_from : (es : List Entry) (s : Spot) → In (spots_over es) s → (e : Entry) × In es e × (key_in e ≡ Some s.0) × (e.0 ≡ s.1)
  spot_from [] s i = absurd i
  spot_from (f ∷ es) s i = by (key_in f) refl (spot_from es s) i
    where
      by : (o : Option (List ℕ)) → key_in f ≡ o → (In (spots_over es) s → (e : Entry) × In es e × (key_in e ≡ Some s.0) × (e.0 ≡ s.1)) → In (with_spot o f.0 (spots_over es)) s
          → (e : Entry) × In (f ∷ es) e × (key_in e ≡ Some s.0) × (e.0 ≡ s.1)
      by None none rest j = let r = rest j in (r.0, inr r.1, r.2, r.3)
      by (Some key) has rest (inl same) = (f, inl refl, has ∙ ap (λ (t : Spot). Some t.0) same, ap (λ (t : Spot). t.1) same)
      by (Some key) has rest (inr j) = let r = rest j in (r.0, inr r.1, r.2, r.3)

  -- no two documents have one spot
  spots_apart : (es : List Entry) → is_sorted (slice_cmp nat_cmp) es ≡ true → IsApart (spots_over es)
  spots_apart [] up = tt
  spots_apart (e ∷ es) up = by (key_in e) (spots_apart es (second_so _ _ up))
    where
      other : (key : List ℕ) (s : Spot) → In (spots_over es) s → (key, e.0) ≢ s
      other key s i same =
          let f = spot_from es s i in
          let id : e.0 ≡ f.0.0 = ap (λ (t : Spot). t.1) same ∙ sym f.3 in
          let less = ap (slice_cmp nat_cmp e.0) id ∙ below_in e.0 es f.0 (first_so _ _ up) f.1 in
          let tied = tied_itself nat_list_cmp_total e.0 in
          absurd (cc)

      by : (o : Option (List ℕ)) → IsApart (spots_over es) → IsApart (with_spot o e.0 (spots_over es))
      by None rest = rest
      by (Some key) rest = (each_in (λ s. (key, e.0) ≢ s) (spots_over es) (other key), rest)

-- ---- what queries see of a document

unseen : (id : List ℕ) → queried_document id finite.empty ≡ None
unseen id = ap (λ w. if is_design_id id then None else shown_by id finite.empty (live_rev_by finite.empty w)) no_winner ∙ neither (is_design_id id)
  where
    neither : (b : Bool) → if◌then◌else◌ {A = Option Value} b None None ≡ None
    neither true = refl
    neither false = refl

-- the key that a document has by its rows
pub key_seen : (trees : Trees) → IsWellFormed trees → (db : ℤ) (fields : List (List ℕ)) (id : List ℕ) → key_if_seen fields (sees_in trees db id) ≡ document_key fields id (finite.get (documents_at trees db) id)
key_seen trees laid db fields id =
    ap (λ h. key_if_seen fields (queried_document id h)) (sym (document_found trees (database_row db [] [] (pos 0)) id laid)) ∙ by (finite.get (documents_at trees db) id)
  where
    by : (o : Option Document) → key_if_seen fields (queried_document id (store.history_in o)) ≡ document_key fields id o
    by None = ap (key_if_seen fields) (unseen id)
    by (Some d) = refl

-- ---- the index of a row

module _ (trees : Trees) (laid : IsWellFormed trees) (is : IsIndexed trees) (db : ℤ) (r : Row) (found : declaration_at (trees decls_tree) (number_of r) ≡ Some r) (home : database_of_declaration r ≡ db) where
  abbrev n : ℤ
  n = number_of r

  abbrev fields : List (List ℕ)
  fields = fields_of r

  abbrev documents : TextMap Document
  documents = documents_at trees db

  abbrev es : List Entry
  es = finite.entries documents

  abbrev own : List Row
  own = filter (is_entry_in n) (trees entries_tree)

  up : is_sorted (slice_cmp nat_cmp) es ≡ true
  up = true_from_T _ (finite.entries_sorted documents)

  -- there is an entry where a document has the key
  due : (k id : List ℕ) → has_entry (trees entries_tree) n k id ≡ is_key (document_key fields id (finite.get documents id)) k
  due k id =
      is.entries.exact n k id
      ∙ ap (λ o. is_due_by (sees_in trees) o k id) found
      ∙ ap (λ m. is_key (key_if_seen fields (sees_in trees m id)) k) home
      ∙ ap (λ o. is_key o k) (key_seen trees laid db fields id)

  at_key : (k id : List ℕ) (o : Option Document) → finite.get documents id ≡ o → document_key fields id o ≡ Some k → In (spots_over fields es) (k, id)
  at_key k id None none has = absurd (cc)
  at_key k id (Some d) there has = spot_there fields es (id, d) k (found_in es id d (sym (finite.get-entries documents id) ∙ there)) has

  into : (s : Spot) → In (map spot_at own) s → In (spots_over fields es) s
  into s i =
      let m = from_map spot_at own s i in
      let e = m.0 in
      let f = from_filter (is_entry_in n) (trees entries_tree) e m.1 in
      let listed = in_any (is_entry_of n (key_of e) (entry_id e)) (trees entries_tree) e f.0 (entry_from n (key_of e) (entry_id e) e (same_int (declaration_of e) n f.1) refl refl) in
      let has = key_is (document_key fields (entry_id e) (finite.get documents (entry_id e))) (key_of e) (sym (due (key_of e) (entry_id e)) ∙ listed) in
      subst (In (spots_over fields es)) m.2 (at_key (key_of e) (entry_id e) (finite.get documents (entry_id e)) refl has)

  back : (s : Spot) → In (spots_over fields es) s → In (map spot_at own) s
  back s i =
      let f = spot_from fields es s i in
      let e = f.0 in
      let there : finite.get documents e.0 ≡ Some e.1 = finite.get-entries documents e.0 ∙ in_found es e up f.1 in
      let has : document_key fields e.0 (finite.get documents e.0) ≡ Some s.0 = ap (document_key fields e.0) there ∙ f.2 in
      let listed = any_in (is_entry_of n s.0 e.0) (trees entries_tree) (due s.0 e.0 ∙ ap (λ o. is_key o s.0) has ∙ same_bytes s.0 s.0 refl) in
      let row = listed.0 in
      let parts = of_entry n s.0 e.0 row listed.2 in
      let same : spot_at row ≡ s = λ j. (parts.1 j, (parts.2 ∙ f.3) j) in
      subst (In (map spot_at own)) same (in_map spot_at own row (in_filter (is_entry_in n) (trees entries_tree) row listed.1 (same_number (declaration_of row) n parts.0)))

  rows_apart : IsApart (map spot_at own)
  rows_apart =
      ascending-map (λ a b. a ≢ b) spot_at own
      (both_in (λ x. is_entry_in n x ≡ true) (λ a b. declaration_of a ≡ declaration_of b → key_of a ≡ key_of b → entry_id a ≢ entry_id b) (λ a b. spot_at a ≢ spot_at b)
      (λ a b k l apart same. apart (same_int (declaration_of a) n k ∙ sym (same_int (declaration_of b) n l)) (ap (λ (s : Spot). s.0) same) (ap (λ (s : Spot). s.1) same))
      own (passing (is_entry_in n) (trees entries_tree)) (ascending-filter _ (is_entry_in n) (trees entries_tree) is.entries.laid.apart))

  keys_of_row : IsPermutation (entry_keys trees n) (document_keys fields documents)
  keys_of_row =
      let spots = same_elements (map spot_at own) (spots_over fields es) rows_apart (spots_apart fields es up) into back in
      subst (λ keys. IsPermutation keys (document_keys fields documents)) (map-map (λ (s : Spot). s.0) spot_at own)
      (subst (IsPermutation (map (λ (s : Spot). s.0) (map spot_at own))) (keys_of_spots fields es) (IsPermutation-map (λ (s : Spot). s.0) (map spot_at own) (spots_over fields es) spots))

-- ---- an index of a database

module _ (trees : Trees) (laid : IsWellFormed trees) (is : IsIndexed trees) (db : ℤ) (d : Declared) (has : HasIndex trees db d) where
  pub keys_linked : IsPermutation (entry_keys trees d.number) (document_keys d.fields (documents_at trees db))
  keys_linked =
      let row = from_map declared_at (filter (is_at_home db) (trees decls_tree)) d (in_contained _ d has) in
      let there = from_filter (is_at_home db) (trees decls_tree) row.0 row.1 in
      let found = at_in (λ r. declaration_at (trees decls_tree) (number_of r) ≡ Some r) (trees decls_tree) row.0 (found_each (trees decls_tree) is.decls.rising) there.0 in
      subst (λ (x : Declared). IsPermutation (entry_keys trees x.number) (document_keys x.fields (documents_at trees db))) row.2 (keys_of_row trees laid is db row.0 found (same_int (database_of_declaration row.0) db there.1))

  -- ranks of the keys of entries are those of the keys of documents
  pub ranks_linked : (r : Ranks) → AreRanksOf r (entry_keys trees d.number) → AreRanksOf r (document_keys d.fields (documents_at trees db))
  ranks_linked r ranks = counts_permuted r.head (entry_keys trees d.number) (document_keys d.fields (documents_at trees db)) r.segments keys_linked ranks

  pub ranks_linked_back : (r : Ranks) → AreRanksOf r (document_keys d.fields (documents_at trees db)) → AreRanksOf r (entry_keys trees d.number)
  ranks_linked_back r ranks = counts_permuted r.head (document_keys d.fields (documents_at trees db)) (entry_keys trees d.number) r.segments (IsPermutation-sym _ _ keys_linked) ranks
