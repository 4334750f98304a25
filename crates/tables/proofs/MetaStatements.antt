-- What the statements on the version mean.
use Rattle.tables.proofs.Common.{Delete, IfOk, Insert, Int, IsPermutation, List, Null, Result, Row, Select, Shown, State, Values, [], all_of, ap, arith, cast_row, codes, col, count_cell, everything, filter_all, length_permutation, lit, map, meta_table, meta_tree, one_permutation, pos, refl, same, schema, shown_version, subst, true, understood, version_in, version_shown, ℕ, ◌∷◌, ◌≡◌}
use Rattle.tables.proofs.Cells.{cast_null, cast_int}
use Rattle.tables.proofs.Finds.{finds_where}
use Rattle.tables.proofs.Queries.{program_on}
use Rattle.tables.proofs.Writes.{IsCommand}
use Rattle.tables.specs.Presence.{version_text}

pub inserts_version : IsCommand schema (codes "INSERT INTO meta (version) VALUES (2)") (Insert 0 (Values (lit Null ∷ lit (Int (pos 2)) ∷ []) 2))
unfolding understood everything
inserts_version = record { is = refl; plain = (refl, refl); unlisted = refl }

pub clears_version : IsCommand schema (codes "DELETE FROM meta") (Delete 0 (program_on meta_tree [] (col 1 0 ∷ []) []))
unfolding understood everything
clears_version = record { is = refl; plain = (refl, refl); unlisted = refl }

pub cast_version : cast_row meta_table (Null ∷ count_cell 2 ∷ []) ≡ Null ∷ count_cell 2 ∷ []
cast_version = λ i. cast_null i ∷ cast_int (pos 2) i ∷ []

pub version_is : IsCommand schema version_text (Select (program_on meta_tree [] (col 1 1 ∷ []) []) (codes "version" ∷ []))
unfolding understood everything
version_is = record { is = refl; plain = (refl, refl); unlisted = refl }

pub finds_version : {X E : Type 0} (old new : State) → old.now.schema ≡ schema → (r : Result X E) (items : X → List Row) → IfOk r (λ x. Shown version_text [] old new (items x))
    → IfOk r (λ x. IsPermutation (map shown_version (old.now.trees meta_tree)) (items x))
finds_version old new has r items h =
    let all = all_of (λ x. true ≡ true) (λ x. refl) (old.now.trees meta_tree) in
    subst (λ l. IfOk r (λ x. IsPermutation (map shown_version l) (items x))) (filter_all (λ x. true) (old.now.trees meta_tree) all) (finds_where old new has version_is [] (λ x. true) shown_version refl (λ x. refl) all r items h)

-- what is shown tells the version
pub shows_version : (rows shown : List Row) → IsPermutation (map shown_version rows) shown → version_shown shown ≡ version_in rows
shows_version [] [] same = refl
shows_version [] (s ∷ more) same = absurd (omega (arith, length_permutation [] (s ∷ more) same))
shows_version (r ∷ []) shown same = ap version_shown (one_permutation (shown_version r) shown same)
shows_version (r ∷ s ∷ rows) [] same = refl
shows_version (r ∷ s ∷ rows) (x ∷ []) same = absurd (omega (arith, length_permutation (shown_version r ∷ shown_version s ∷ map shown_version rows) (x ∷ []) same))
shows_version (r ∷ s ∷ rows) (x ∷ y ∷ more) same = refl
