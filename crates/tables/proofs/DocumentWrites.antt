-- Writes of documents, one after another, are all of them in the database.
use Rattle.tables.proofs.Common.{AreAcceptable, Contents, DocumentWrite, Equal-is, HasWritten, IsAcceptable, IsStorable, IsStore, IsWritable, IsWrite, List, Row, Some, [], all-filter, all-slice_get, ap, ap₂, arith, cases_Bool, cond, contents_in, database_of_row, database_row, dbs_tree, eq_by_cmp, filter, inl, inr, is_named, length, length-append, sequence_of_database, name_of, nat_cmp, nat_list_cmp_total, number_of, pos, row_after, row_at_sequence, security_text, slice_cmp, slice_get, subst, sym, with_all, with_all-append, with_one, ℕ, ◌++◌, ◌+◌, ◌<◌, ◌^◌, ◌∙◌, ◌∷◌, ◌≡◌}
use Rattle.std.specs.FinMap as finite
use Rattle.store.specs.Database.{Database}
use Rattle.sqlite.specs.Effect as sqlite
use Rattle.tables.proofs.DocumentWrite.{one_write-store, one_write-contents, one_write-row, one_write-database}
use Rattle.tables.proofs.Lookups.{database_there}
use Rattle.tables.proofs.RowMaps.{insert_over, text_exact}
use Rattle.tables.proofs.Tables.{databases_laid}

-- ---- contents

insert_same : (m : Contents) (k : List ℕ) (x : Database) → finite.get m k ≡ Some x → finite.insert m k x ≡ m
insert_same m k x is = finite.same_map nat_list_cmp_total text_exact _ _ (λ q.
    finite.get-insert nat_list_cmp_total m k x q ∙ elim (cases_Bool (eq_by_cmp (slice_cmp nat_cmp) q k)) as (λ _. cond (eq_by_cmp (slice_cmp nat_cmp) q k) (Some x) (finite.get m q) ≡ finite.get m q) [
      | inl ties ↦ rw ties (sym is ∙ ap (finite.get m) (sym (text_exact q k ((Equal-is (slice_cmp nat_cmp q k)).0 ties))))
      | inr apart ↦ rw apart
    ])

insert_again : (m : Contents) (k : List ℕ) (x y : Database) → finite.insert (finite.insert m k x) k y ≡ finite.insert m k y
insert_again m k x y = insert_over nat_list_cmp_total text_exact (finite.insert m k x) m k y (λ q apart. finite.get-insert nat_list_cmp_total m k x q ∙ rw apart)

pub acceptable_in_turn : (ws : List DocumentWrite) (db : Database) (w : DocumentWrite) (vs : List DocumentWrite) → AreAcceptable db (ws ++ w ∷ vs) → IsAcceptable (with_all db ws) w
acceptable_in_turn [] db w vs h = h.0
acceptable_in_turn (v ∷ ws) db w vs h = acceptable_in_turn ws (with_one db v) w vs h.1

-- ---- no write, and one more

pub none_written : (a : sqlite.Database) (name : List ℕ) (r : Row) → IsStore a → slice_get (filter (is_named name) (a.trees dbs_tree)) 0 ≡ Some r → HasWritten [] name r a a
none_written a name r is found =
    let laid : r ≡ row_at_sequence (pos (sequence_of_database r)) r =
    all-slice_get (λ x. x ≡ database_row (number_of x) (name_of x) (security_text x) (pos (sequence_of_database x))) (filter (is_named name) (a.trees dbs_tree)) 0 r found (all-filter _ (is_named name) (a.trees dbs_tree) (databases_laid a.trees is.laid).each) in
    let count : sequence_of_database r ≡ sequence_of_database r + 0 = omega arith in
    let own : r ≡ row_after r 0 = laid ∙ ap (λ n. row_at_sequence (pos n) r) count in
    record {
      store = is;
      row = found ∙ ap Some own;
      database = ap (database_of_row a.trees) (sym own);
      contents = sym (insert_same (contents_in a.trees) name (database_of_row a.trees r) (database_there a.trees is.laid name r found));
    }

pub one_more_written : (ws : List DocumentWrite) (w : DocumentWrite) (name : List ℕ) (r : Row) (a b c : sqlite.Database) → HasWritten ws name r a b → IsAcceptable (with_all (database_of_row a.trees r) ws) w → IsStorable w
    → sequence_of_database r + length ws + 1 < 2 ^ 63 → IsWrite (row_after r (length ws)) w b c → HasWritten (ws ++ w ∷ []) name r a c
one_more_written ws w name r a b c h acceptable storable room write =
    let row : Row = row_after r (length ws) in
    let ok : IsWritable b.trees name row w = record { found = h.row; acceptable = subst (λ (d : Database). IsAcceptable d w) (sym h.database) acceptable; storable = storable; room = room } in
    let count : sequence_of_database r + length ws + 1 ≡ sequence_of_database r + length (ws ++ w ∷ []) = omega (arith, length-append ws (w ∷ [])) in
    let next : row_at_sequence (pos (sequence_of_database row + 1)) row ≡ row_after r (length (ws ++ w ∷ [])) = ap (λ n. row_at_sequence (pos n) r) count in
    let made : with_one (database_of_row b.trees row) w ≡ with_all (database_of_row a.trees r) (ws ++ w ∷ []) = ap (λ d. with_one d w) h.database ∙ sym (with_all-append (database_of_row a.trees r) ws (w ∷ [])) in
    record {
      store = one_write-store b c name row w h.store ok write;
      row = one_write-row b c name row w h.store ok write ∙ ap Some next;
      database = ap (database_of_row c.trees) (sym next) ∙ one_write-database b c name row w h.store ok write ∙ made;
      contents = one_write-contents b c name row w h.store ok write ∙ ap₂ (λ m d. finite.insert m name d) h.contents made ∙ insert_again (contents_in a.trees) name (with_all (database_of_row a.trees r) ws) (with_all (database_of_row a.trees r) (ws ++ w ∷ []));
    }
