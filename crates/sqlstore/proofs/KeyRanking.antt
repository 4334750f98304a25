-- Counts of the entries of an index, by the ranks of its keys.
use Rattle.sqlstore.proofs.Common.{Bool, Err, Failed, List, None, Ok, Option, Result, Row, Some, StoreFault, Trees, [], and_parts, ap, ap₂, arith, false, filter, filter-map, find, inside, inl, inr, length, length-map, map, not, option_map, refl, same_int, subst, sym, true, ℕ, ℤ, ◌&&◌, ◌-◌, ◌∙◌, ◌∷◌, ◌≡◌, ◌≤◌}
use Rattle.couch_json.proofs.KeyCuts.{above-bound_above_all, above-bound_below_all}
use Rattle.couch_json.specs.Key.{key}
use Rattle.couch_json.specs.Value.{Items, Value, array}
use Rattle.index.proofs.Alike.{key_is}
use Rattle.index.proofs.EntryChanges.{entry_from}
use Rattle.index.proofs.PagePlaces.{key_between}
use Rattle.index.proofs.Spots.{each_in, in_any}
use Rattle.index.specs.Indexed.{IsIndexed, is_due_by}
use Rattle.index.specs.Meaning.{key_if_seen, sees_in}
use Rattle.index.specs.Rows.{count_of, database_of_declaration, declaration_at, declaration_of, entry_id, fields_of, is_at_home, is_declaration_of, is_entry_between, is_entry_in, is_entry_of, key_of}
use Rattle.index.specs.Shown.{Declared, declared_at}
use Rattle.ranks.proofs.Lists.{between_below, between_filter, between_least, is_part}
use Rattle.ranks.specs.Counts.{AreRanksOf, below, between, is_below}
use Rattle.ranks.specs.Seen.{Ranks}
use Rattle.sqlite_trees.proofs.ListLemmas as lists
use Rattle.store.proofs.Among.{contained, in_filter, in_map}
use Rattle.store.proofs.Listings.{In}
use Rattle.store.specs.Causes.{HasFailed}
use Rattle.store.specs.Indexes.{field_values}
use Rattle.store.specs.Leaving as leaving
use Rattle.tables.proofs.Common.{filter_same}
use Rattle.tables.proofs.RowMaps.{filter_both, find_found, mapped_some}
use Rattle.tables.specs.Listings.{is_between}
use Rattle.tables.specs.Schema.{decls_tree, entries_tree}
use Rattle.index.proofs.IdBounds.{at_most}
use Rattle.sqlstore.specs.inner.Keys.{HasIndex, IsIndexRanks, entry_keys}
use Rattle.sqlstore.specs.declared.index_ranks.IndexRanks.{IndexRanks}

-- ---- keys

-- a key is the bytes of a value
key_made : (fields : List (List ℕ)) (seen : Option Value) (k : List ℕ) → key_if_seen fields seen ≡ Some k → (v : Value) × (key v ≡ k)
key_made fields None k h = absurd (cc)
key_made fields (Some v) k h = go (field_values fields v) h
  where
    go : (o : Option Items) → option_map (λ values. key (array values)) o ≡ Some k → (v : Value) × (key v ≡ k)
    go None e = absurd (cc)
    go (Some vs) e = (array vs, inside (key (array vs)) k e)

-- it lies between what is below all keys and what is above them
between_all : (v : Value) → is_between [] (8 ∷ []) (key v) ≡ true
between_all v = key_between [] (8 ∷ []) (key v) ∙ ap₂ (λ a b. a && not b) (above-bound_below_all v) (above-bound_above_all v)

and_first : (a b : Bool) → (a ≡ true → b ≡ true) → (a && b) ≡ a
and_first true b h = h refl
and_first false b h = refl

-- ---- the entries of an index

module _ (trees : Trees) (declaration : ℤ) where
  abbrev rows : List Row
  rows = trees entries_tree

  abbrev own : List Row
  own = filter (is_entry_in declaration) rows

  abbrev keys : List (List ℕ)
  keys = entry_keys trees declaration

  -- an entry lies between two bounds if and only if its key does
  same_test : (low high : List ℕ) (r : Row) → is_entry_between declaration low high r ≡ (is_entry_in declaration r && is_part key_of low high r)
  same_test low high r = ap (λ b. is_entry_in declaration r && (b && is_below (key_of r) high)) (at_most low (key_of r))

  in_part : (low high : List ℕ) → filter (is_entry_between declaration low high) rows ≡ filter (is_part key_of low high) own
  in_part low high =
      filter_same (is_entry_between declaration low high) (λ r. is_entry_in declaration r && is_part key_of low high r) (same_test low high) rows
      ∙ sym (filter_both (is_part key_of low high) (is_entry_in declaration) rows)

  -- as many keys lie between two bounds as entries
  pub keys_between : (low high : List ℕ) → count_of declaration low high rows ≡ between low high keys
  keys_between low high =
      let passes : List ℕ → Bool = λ k. not (is_below k low) && is_below k high in
      ap length (in_part low high)
      ∙ sym (between_filter low high keys ∙ ap length (filter-map passes key_of own) ∙ length-map (filter (is_part key_of low high) own) key_of)

  pub keys_below : (low high : List ℕ) → count_of declaration low high rows ≡ below high keys - below low keys
  keys_below low high = keys_between low high ∙ between_below low high keys

  pub all_below : count_of declaration [] (8 ∷ []) rows ≡ below (8 ∷ []) keys
  all_below = keys_between [] (8 ∷ []) ∙ between_least (8 ∷ []) keys

  -- ---- where the rows of indexes are those of what is stored

  module _ (is : IsIndexed trees) where
    due_between : (r : Row) (d : Option Row) → is_due_by (sees_in trees) d (key_of r) (entry_id r) ≡ true → is_between [] (8 ∷ []) (key_of r) ≡ true
    due_between r None h = absurd (cc)
    due_between r (Some d) h =
        let seen = sees_in trees (database_of_declaration d) (entry_id r) in
        let made = key_made (fields_of d) seen (key_of r) (key_is (key_if_seen (fields_of d) seen) (key_of r) h) in
        subst (λ k. is_between [] (8 ∷ []) k ≡ true) made.1 (between_all made.0)

    entry_between : (r : Row) → In rows r → is_entry_in declaration r ≡ true → is_between [] (8 ∷ []) (key_of r) ≡ true
    entry_between r i home =
        let there = in_any (is_entry_of declaration (key_of r) (entry_id r)) rows r i (entry_from declaration (key_of r) (entry_id r) r (same_int (declaration_of r) declaration home) refl refl) in
        due_between r (declaration_at (trees decls_tree) declaration) (sym (is.entries.exact declaration (key_of r) (entry_id r)) ∙ there)

    -- all keys are counted
    pub keys_counted : count_of declaration [] (8 ∷ []) rows ≡ length keys
    keys_counted =
        ap length
        (lists.filter_same (is_entry_between declaration [] (8 ∷ [])) (is_entry_in declaration) rows
        (each_in (λ r. is_entry_between declaration [] (8 ∷ []) r ≡ is_entry_in declaration r) rows
        (λ r i. and_first (is_entry_in declaration r) (is_between [] (8 ∷ []) (key_of r)) (entry_between r i))))
        ∙ sym (length-map own key_of)

-- ---- indexes

-- a database has the index that is found
pub has_index : (trees : Trees) (db : ℤ) (design name : List ℕ) (x : Declared) → option_map declared_at (find (is_declaration_of db design name) (trees decls_tree)) ≡ Some x → HasIndex trees db x
has_index trees db design name x is =
    let decls = trees decls_tree in
    let d = mapped_some declared_at (find (is_declaration_of db design name) decls) x is in
    let found = find_found (In decls) (is_declaration_of db design name) decls d.0 (each_in (In decls) decls (λ r i. i)) d.1 in
    let home = (and_parts (is_at_home db d.0) _ found.1).0 in
    contained (map declared_at (filter (is_at_home db) decls)) x
    (subst (In (map declared_at (filter (is_at_home db) decls))) d.2 (in_map declared_at (filter (is_at_home db) decls) d.0 (in_filter (is_at_home db) decls d.0 found.0 home)))

-- the ranks of an index, after others were made of them
pub ranked_anew : (trees : Trees) (db declaration : ℤ) (r : IndexRanks) (new : Ranks) → r.declaration.number ≡ declaration → (AreRanksOf r.ranks (entry_keys trees declaration) → AreRanksOf new (entry_keys trees declaration))
    → IsIndexRanks trees db r → IsIndexRanks trees db (record { declaration = r.declaration; ranks = new })
ranked_anew trees db declaration r new named so is = record {
  index = is.index;
  ranks = subst (λ n. AreRanksOf r.ranks (entry_keys trees n) → AreRanksOf new (entry_keys trees n)) (sym named) so is.ranks;
}

-- ---- answers

-- what is answered later is said of the store as it was before
pub answers_later : {S X A : Type 0} (H : S → Type 0) (count : S → ℕ) (old mid new : S) (view : X → A) (defined : Option A) (r : Result X StoreFault) → count old ≤ count mid
    → leaving.Answers H count mid new view defined r → leaving.Answers H count old new view defined r
answers_later H count old mid new view defined (Ok x) up h = h
answers_later H count old mid new view defined (Err Failed) up h = later (count old) (count mid) (count new) up h
  where
    later : (a b c : ℕ) → a ≤ b → HasFailed b c → HasFailed a c
    later a b c le (inl lt) = inl (omega (arith, le, lt))
    later a b c le (inr is) = inr is
answers_later H count old mid new view defined (Err fault) up h = h
