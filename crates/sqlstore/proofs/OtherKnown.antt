-- What is known of a database after another one was changed, or after a table was that says nothing of it.
use Rattle.std.specs.Prelude.{if◌then◌else◌}
use Rattle.sqlstore.proofs.Common.{AllByRecursion, Bool, Contents, IsKnown, IfSome, IsWellFormed, KnownDatabase, List, None, Option, Row, Some, Trees, [], ap, by_sequence, contents_in, database_of_row, dbs_tree, docs_tree, false, filter, found_in, get, insert, inside, is_row_of_database, is_named, known_values, listed_document, listed_mark, map, nat_list_cmp_total, number_of, option_map, remove, revs_tree, slice_get, sort_by, subst, sym, true, ℕ, ◌∙◌, ◌∷◌, ◌≡◌, ◌≢◌}
use Rattle.std.specs.FinMap as finite
use Rattle.index.specs.Rows.{is_at_home, is_entry_in, key_of}
use Rattle.index.specs.Shown.{declared, declared_at}
use Rattle.index.specs.declared.declaration.Declaration.{Declaration}
use Rattle.sqlstore.proofs.Common.{Global, Vec}
use Rattle.ranks.specs.Counts.{AreRanksOf}
use Rattle.std.specs.Prelude.{◌&&◌, Contains}
use Rattle.tables.specs.Rows.{id_of, is_gone_row as is_gone_row}
use Rattle.sqlstore.proofs.LiveIds.{live_there, ranked_same}
use Rattle.sqlstore.proofs.Designs.{known_designs_still}
use Rattle.sqlstore.specs.inner.Designs.{AreKnownDesigns}
use Rattle.sqlstore.specs.inner.Keys.{AreIndexRanks, AreKnownRanks, IsIndexRanks}
use Rattle.sqlstore.specs.inner.Listing.{all_count, document_count, live_ids}
use Rattle.sqlstore.specs.inner.Marks.{live_keys}
use Rattle.std.proofs.lemmas.List.Sorted.{IsPermutation-sym, IsPermutation-trans}
use Rattle.std.specs.List.Sorted.{IsPermutation}
use Rattle.sqlstore.specs.inner.Reading.{count_kept}
use Rattle.sqlstore.specs.Standing.{AreKnown, IsKnownDatabase}
use Rattle.sqlstore.specs.declared.document_count.DocumentCount.{DocumentCount}
use Rattle.sqlstore.specs.declared.index_ranks.IndexRanks.{IndexRanks}
use Rattle.std.specs.List.{count_by}
use Rattle.store.specs.Database as store
use Rattle.store.specs.Pages.{is_gone}
use Rattle.sqlstore.proofs.Common.{Document, arith, ℤ}
use Rattle.tables.proofs.ListingRows.{both_counted, counts_by_sequence}
use Rattle.tables.proofs.Lookups.{database_there}
use Rattle.tables.proofs.RowMaps.{mapped_some, text_exact, untied}
use Rattle.tables.specs.Listings.{has_mark}
use Rattle.tables.specs.Schema.{decls_tree, entries_tree}
use Rattle.transactions.specs.Indexing.{AreKnownIndexes}

-- the rows of documents are as many as the documents of the database
pub counted_there : (trees : Trees) (d : Row) (l : IsWellFormed trees) (deleted : Bool) → all_count trees (number_of d) deleted ≡ document_count deleted (database_of_row trees d)
counted_there trees d l true = ap (λ c. c.deleted) (sym (counts_by_sequence trees d l))
counted_there trees d l false =
    let es = finite.entries (database_of_row trees d).documents in
    let both = both_counted (λ (e : List ℕ × Document). is_gone e.1.history) es in
    ap (λ c. c.documents) (sym (counts_by_sequence trees d l)) ∙ omega (arith, both)

-- ---- another database was changed

module _ (old new : Trees) (was : IsWellFormed old) (is : IsWellFormed new) where
  -- the ids of the same documents
  same_ids : (r : Row) → database_of_row new r ≡ database_of_row old r → IsPermutation (live_ids old (number_of r)) (live_ids new (number_of r))
  same_ids r same =
      IsPermutation-trans _ _ _ (live_there old r was)
      (subst (λ (db : store.Database). IsPermutation (live_keys db.documents) (live_ids new (number_of r))) same (IsPermutation-sym _ _ (live_there new r is)))

  other_known : (k : KnownDatabase) → k.indexes ≡ None → k.index_ranks ≡ None → k.designs ≡ None → filter (is_named k.name) (new dbs_tree) ≡ filter (is_named k.name) (old dbs_tree) → get (contents_in new) k.name ≡ get (contents_in old) k.name
      → IsKnownDatabase old k → IsKnownDatabase new k
  other_known k none unranked undesigned rows same known =
      let found = mapped_some found_in (slice_get (filter (is_named k.name) (old dbs_tree)) 0) (known_values k) known.row in
      let r = found.0 in
      let number : number_of r ≡ k.found.number = ap (λ v. v.0) found.2 in
      let here : slice_get (filter (is_named k.name) (new dbs_tree)) 0 ≡ Some r = ap (λ l. slice_get l 0) rows ∙ found.1 in
      let database : database_of_row new r ≡ database_of_row old r = inside _ _ (sym (database_there new is k.name r here) ∙ same ∙ database_there old was k.name r found.1) in
      let count : (deleted : Bool) → all_count old k.found.number deleted ≡ all_count new k.found.number deleted = λ deleted.
      ap (λ n. all_count old n deleted) (sym number) ∙ counted_there old r was deleted ∙ ap (document_count deleted) (sym database) ∙ sym (counted_there new r is deleted) ∙ ap (λ n. all_count new n deleted) number in
      record {
        row = ap (λ l. option_map found_in (slice_get l 0)) rows ∙ known.row;
        counts = λ deleted. subst (λ n. IfSome (count_kept deleted k) (λ (c : DocumentCount). c.value ≡ n)) (count deleted) (known.counts deleted);
        ranked = ranked_same k.ranks (live_ids old k.found.number) (live_ids new k.found.number) (subst (λ n. IsPermutation (live_ids old n) (live_ids new n)) number (same_ids r database)) known.ranked;
        indexes = subst (λ o. AreKnownIndexes o k.found.number new) (sym none) tt;
        index_ranked = subst (AreKnownRanks new k.found.number) (sym unranked) tt;
        designed = subst (AreKnownDesigns new k.found.number) (sym undesigned) tt;
      }

  -- each of those that were asked for before is another one
  pub others_known : (name : List ℕ) (ks : List KnownDatabase) → AllByRecursion (λ k. k.name ≢ name) ks
      → ((other : List ℕ) → other ≢ name → filter (is_named other) (new dbs_tree) ≡ filter (is_named other) (old dbs_tree))
      → ((other : List ℕ) → other ≢ name → get (contents_in new) other ≡ get (contents_in old) other) → AreKnown old ks → AreKnown new ks
  others_known name [] apart rows same known = tt
  others_known name (k ∷ ks) apart rows same known = (
    (other_known k known.0.1 known.0.2 known.0.3 (rows k.name apart.0) (same k.name apart.0) known.0.0, known.0.1, known.0.2, known.0.3),
    others_known name ks apart.1 rows same known.1,
  )

-- what stands at another name
pub inserted_other : (m : Contents) (name other : List ℕ) (x : store.Database) → other ≢ name → get (insert m name x) other ≡ get m other
inserted_other m name other x apart =
    finite.get-insert nat_list_cmp_total m name x other ∙ ap (λ b. if b then Some x else get m other) (untied nat_list_cmp_total text_exact other name apart)

pub removed_other : (m : Contents) (name other : List ℕ) → other ≢ name → get (remove m name) other ≡ get m other
removed_other m name other apart =
    finite.get-remove nat_list_cmp_total m name other ∙ ap (λ b. if b then None else get m other) (untied nat_list_cmp_total text_exact other name apart)

-- ---- the tables that say something of a database are as they were

module _ (old new : Trees) (dbs : new dbs_tree ≡ old dbs_tree) (docs : new docs_tree ≡ old docs_tree) (revs : new revs_tree ≡ old revs_tree) (decls : new decls_tree ≡ old decls_tree) (entries : new entries_tree ≡ old entries_tree) where
  index_ranks_still : (db : ℤ) (r : IndexRanks) → IsIndexRanks old db r → IsIndexRanks new db r
  index_ranks_still db r is = record {
    index = subst (λ (rows : List Row). Contains (map declared_at (filter (is_at_home db) rows)) (declared r.declaration)) (sym decls) is.index;
    ranks = subst (λ (rows : List Row). AreRanksOf r.ranks (map key_of (filter (is_entry_in (declared r.declaration).number) rows))) (sym entries) is.ranks;
  }

  all_ranks_still : (db : ℤ) (rs : List IndexRanks) → AreIndexRanks old db rs → AreIndexRanks new db rs
  all_ranks_still db [] are = tt
  all_ranks_still db (r ∷ rs) are = (index_ranks_still db r are.0, all_ranks_still db rs are.1)

  known_ranks_still : (db : ℤ) (known : Option (Vec IndexRanks Global)) → AreKnownRanks old db known → AreKnownRanks new db known
  known_ranks_still db None are = tt
  known_ranks_still db (Some rs) are = all_ranks_still db rs.items are

  known_still : (k : KnownDatabase) → IsKnownDatabase old k → IsKnownDatabase new k
  known_still k known = record {
    row = ap (λ rows. option_map found_in (slice_get (filter (is_named k.name) rows) 0)) dbs ∙ known.row;
    counts = λ deleted.
        subst (λ (rows : List Row). IfSome (count_kept deleted k) (λ (c : DocumentCount). c.value ≡ count_by (λ s. has_mark deleted (listed_mark s)) (map listed_document (sort_by by_sequence (filter (is_row_of_database k.found.number) rows)))))
        (sym docs) (known.counts deleted);
    ranked = subst (λ (rows : List Row). IfSome k.ranks (λ r. AreRanksOf r (map id_of (filter (λ r. is_row_of_database k.found.number r && has_mark false (is_gone_row r)) rows)))) (sym docs) known.ranked;
    indexes = subst (λ (rows : List Row). IfSome k.indexes (λ (all : Vec Declaration Global). map declared all.items ≡ map declared_at (filter (is_at_home k.found.number) rows))) (sym decls) known.indexes;
    index_ranked = known_ranks_still k.found.number k.index_ranks known.index_ranked;
    designed = known_designs_still old new docs revs k.found.number k.designs known.designed;
  }

  pub all_still : (ks : List KnownDatabase) → AreKnown old ks → AreKnown new ks
  all_still [] known = tt
  all_still (k ∷ ks) known = ((known_still k known.0.0, known.0.1, known.0.2, known.0.3), all_still ks known.1)

  pub one_still : (known : Option KnownDatabase) → IsKnown old known → IsKnown new known
  one_still None h = tt
  one_still (Some k) h = known_still k h
