-- Which keys documents have in an index, after a document was put in.
use Rattle.std.proofs.Common.{◌≡◌, ℕ, ◌+◌, ◌<◌, List, [], ◌∷◌, ◌++◌, Option, None, Some, drop, get_or, length, refl, sym, ap, subst, ◌∙◌}
use Rattle.std.proofs.lemmas.List.{drop_more}
use Rattle.std.proofs.lemmas.List.Sorted.{IsPermutation-sym}
use Rattle.std.specs.FinMap as finite
use Rattle.std.specs.List.{flat_map}
use Rattle.std.specs.List.Sorted.{IsPermutation}
use Rattle.sqlite_keyed.proofs.ListLemmas.{IsPermutation-flat_map}
use Rattle.ranks.proofs.Lists.{counts_permuted}
use Rattle.ranks.specs.Counts.{AreRanksOf}
use Rattle.ranks.specs.Seen.{Ranks}
use Rattle.store.specs.Database.{Document, TextMap}
use Rattle.sqlstore.specs.inner.Keys.{AreKeyChanges, document_key, document_keys, keys_over, with_one_key}
use Rattle.sqlstore.specs.declared.key_change.KeyChange.{KeyChange}
use Rattle.sqlstore.proofs.EntriesInserted.{entries_inserted, with_entry}

abbrev Entry : Type 0
Entry = List ℕ × Document

-- ---- the keys of entries in another order

abbrev part : List (List ℕ) → Entry → List (List ℕ)
part fields e = with_one_key (document_key fields e.0 (Some e.1)) []

in_front : (o : Option (List ℕ)) (keys : List (List ℕ)) → with_one_key o keys ≡ with_one_key o [] ++ keys
in_front None keys = refl
in_front (Some key) keys = refl

by_parts : (fields : List (List ℕ)) (es : List Entry) → keys_over fields es ≡ flat_map (part fields) es
by_parts fields [] = refl
by_parts fields (e ∷ es) = in_front (document_key fields e.0 (Some e.1)) (keys_over fields es) ∙ ap (λ keys. part fields e ++ keys) (by_parts fields es)

keys_permuted : (fields : List (List ℕ)) (es fs : List Entry) → IsPermutation es fs → IsPermutation (keys_over fields es) (keys_over fields fs)
keys_permuted fields es fs p =
    subst (λ keys. IsPermutation keys (keys_over fields fs)) (sym (by_parts fields es))
    (subst (IsPermutation (flat_map (part fields) es)) (sym (by_parts fields fs)) (IsPermutation-flat_map (part fields) es fs p))

-- ---- one document

with_its_key : (fields : List (List ℕ)) (id : List ℕ) (o : Option Document) (es : List Entry) → keys_over fields (with_entry id o es) ≡ with_one_key (document_key fields id o) (keys_over fields es)
with_its_key fields id None es = refl
with_its_key fields id (Some d) es = refl

module _ (fields : List (List ℕ)) (old : TextMap Document) (id : List ℕ) (d : Document) where
  -- the keys beside that of an id are the same, before a document is put in there and after it
  pub keys_inserted : (rest : List (List ℕ)) × IsPermutation (document_keys fields old) (with_one_key (document_key fields id (finite.get old id)) rest)
      × IsPermutation (document_keys fields (finite.insert old id d)) (with_one_key (document_key fields id (Some d)) rest)
  keys_inserted =
      let p = entries_inserted old id d in
      let there = finite.get old id in (
        keys_over fields p.0,
        subst (IsPermutation (document_keys fields old)) (with_its_key fields id there p.0) (keys_permuted fields (finite.entries old) (with_entry id there p.0) p.1),
        keys_permuted fields (finite.entries (finite.insert old id d)) ((id, d) ∷ p.0) p.2,
      )

  -- ranks that moved by what one document does to its key are those of the keys with it
  pub keys_moved : (was is : Option (List ℕ)) (before after : Ranks) → was ≡ document_key fields id (finite.get old id) → is ≡ document_key fields id (Some d)
      → ((rest : List (List ℕ)) → AreRanksOf before (with_one_key was rest) → AreRanksOf after (with_one_key is rest)) → AreRanksOf before (document_keys fields old) → AreRanksOf after (document_keys fields (finite.insert old id d))
  keys_moved was is before after a b moved ranks =
      let l = keys_inserted in
      let new = document_keys fields (finite.insert old id d) in
      let left = subst (λ (o : Option (List ℕ)). IsPermutation (document_keys fields old) (with_one_key o l.0)) (sym a) l.1 in
      let right = subst (λ (o : Option (List ℕ)). IsPermutation new (with_one_key o l.0)) (sym b) l.2 in
      counts_permuted after.head (with_one_key is l.0) new after.segments (IsPermutation-sym _ _ right)
      (moved l.0 (counts_permuted before.head (document_keys fields old) (with_one_key was l.0) before.segments left ranks))

-- ---- one change of many

pub keys_step : (fields : List (List ℕ)) (cs : List KeyChange) (i : ℕ) (one : KeyChange) (before after : Ranks) (mid new : TextMap Document) → i < length cs → one ≡ get_or cs i one
    → ((rest : List (List ℕ)) → AreRanksOf before (with_one_key one.was rest) → AreRanksOf after (with_one_key one.is rest))
    → AreKeyChanges fields (drop i cs) mid new → AreRanksOf before (document_keys fields mid) → (then : TextMap Document) × AreKeyChanges fields (drop (i + 1) cs) then new × AreRanksOf after (document_keys fields then)
keys_step fields cs i one before after mid new more is moves rest are =
    let left = subst (λ (l : List KeyChange). AreKeyChanges fields l mid new) (drop_more cs i one more ∙ (λ j. sym is j ∷ drop (i + 1) cs)) rest in
    (finite.insert mid one.id left.0, left.3, keys_moved fields mid one.id left.0 one.was one.is before after left.1 left.2 moves are)
