-- Which ids are those of documents whose winner is not deleted, after a document was put in.
use Rattle.std.proofs.Common.{◌≡◌, ℕ, ◌+◌, List, ◌∷◌, Bool, true, false, cond, not, Option, None, Some, drop, filter, get_or, length, map, ◌<◌, refl, sym, subst, ◌∙◌}
use Rattle.std.proofs.lemmas.List.{drop_more}
use Rattle.std.proofs.lemmas.List.Sorted.{IsPermutation-map, IsPermutation-sym}
use Rattle.std.specs.FinMap as finite
use Rattle.std.specs.List.Sorted.{IsPermutation}
use Rattle.sqlite_keyed.proofs.ListLemmas.{IsPermutation-filter}
use Rattle.ranks.proofs.Lists.{counts_permuted}
use Rattle.ranks.specs.Counts.{AreRanksOf, with_key}
use Rattle.ranks.specs.Seen.{Ranks}
use Rattle.store.specs.Database.{Document, TextMap}
use Rattle.store.specs.Pages.{is_gone}
use Rattle.sqlstore.proofs.EntriesInserted.{entries_inserted, with_entry}
use Rattle.sqlstore.specs.inner.Marks.{AreChanges, is_live, live_keys, mark_of}
use Rattle.sqlstore.specs.declared.marked.Marked.{Marked}

-- ---- the ids of entries

abbrev Entry : Type 0
Entry = List ℕ × Document

abbrev live : List Entry → List (List ℕ)
live es = map (λ e. e.0) (filter (λ e. not (is_gone e.1.history)) es)

live_permuted : (es fs : List Entry) → IsPermutation es fs → IsPermutation (live es) (live fs)
live_permuted es fs p =
    let there = λ (e : Entry). not (is_gone e.1.history) in
    IsPermutation-map (λ (e : Entry). e.0) (filter there es) (filter there fs) (IsPermutation-filter there es fs p)

key_more : (there : Bool) (e : Entry) (es : List Entry) → map (λ (e : Entry). e.0) (cond there (e ∷ es) es) ≡ with_key there e.0 (map (λ (e : Entry). e.0) es)
key_more true e es = refl
key_more false e es = refl

live_with : (id : List ℕ) (o : Option Document) (es : List Entry) → live (with_entry id o es) ≡ with_key (is_live (mark_of o)) id (live es)
live_with id None es = refl
live_with id (Some d) es = key_more (not (is_gone d.history)) (id, d) (filter (λ e. not (is_gone e.1.history)) es)

-- ---- the ids of documents

module _ (old : TextMap Document) (id : List ℕ) (d : Document) where
  -- those beside an id are the same, before a document is put in there and after it
  pub live_inserted : (rest : List (List ℕ)) × IsPermutation (live_keys old) (with_key (is_live (mark_of (finite.get old id))) id rest) × IsPermutation (live_keys (finite.insert old id d)) (with_key (not (is_gone d.history)) id rest)
  live_inserted =
      let p = entries_inserted old id d in
      let there = finite.get old id in (
        live p.0,
        subst (IsPermutation (live_keys old)) (live_with id there p.0) (live_permuted (finite.entries old) (with_entry id there p.0) p.1),
        subst (IsPermutation (live_keys (finite.insert old id d))) (live_with id (Some d) p.0) (live_permuted (finite.entries (finite.insert old id d)) ((id, d) ∷ p.0) p.2),
      )

  -- ranks that moved by what one document does to its id are those of the ids with it
  pub ranks_moved : (was : Option Bool) (is : Bool) (before after : Ranks) → was ≡ mark_of (finite.get old id) → is ≡ is_gone d.history
      → ((rest : List (List ℕ)) → AreRanksOf before (with_key (is_live was) id rest) → AreRanksOf after (with_key (not is) id rest)) → AreRanksOf before (live_keys old) → AreRanksOf after (live_keys (finite.insert old id d))
  ranks_moved was is before after a b moved ranks =
      let l = live_inserted in
      let left = subst (λ (o : Option Bool). IsPermutation (live_keys old) (with_key (is_live o) id l.0)) (sym a) l.1 in
      let right = subst (λ (g : Bool). IsPermutation (live_keys (finite.insert old id d)) (with_key (not g) id l.0)) (sym b) l.2 in
      counts_permuted after.head (with_key (not is) id l.0) (live_keys (finite.insert old id d)) after.segments (IsPermutation-sym _ _ right)
      (moved l.0 (counts_permuted before.head (live_keys old) (with_key (is_live was) id l.0) before.segments left ranks))

-- ---- ranks after one change of many

pub ranks_step : (cs : List Marked) (i : ℕ) (one : Marked) (before after : Ranks) (mid new : TextMap Document) → i < length cs → one ≡ get_or cs i one
    → ((old : TextMap Document) (d : Document) → one.was ≡ mark_of (finite.get old one.id) → one.is ≡ is_gone d.history → AreRanksOf before (live_keys old) → AreRanksOf after (live_keys (finite.insert old one.id d)))
    → AreChanges (drop i cs) mid new → AreRanksOf before (live_keys mid) → (then : TextMap Document) × AreChanges (drop (i + 1) cs) then new × AreRanksOf after (live_keys then)
ranks_step cs i one before after mid new more is moves rest are =
    let left = subst (λ (l : List Marked). AreChanges l mid new) (drop_more cs i one more ∙ (λ j. sym is j ∷ drop (i + 1) cs)) rest in
    (finite.insert mid one.id left.0, left.3, moves mid left.0 left.1 left.2 are)
