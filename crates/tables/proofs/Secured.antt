-- The databases that the tables hold after one has another security object.
use Rattle.tables.proofs.Common.{AreLawful, Changes, IsDatabaseRow, IsWellFormed, IsLawful, IsStore, IsTrue, List, None, Option, Row, Some, Trees, and_parts, ap, arith, canonical, contents_in, database_row_at, database_of_row, database_row, dbs_tree, false, filter, has_number, if◌then◌else◌, is_named, is_security, lawful_insert, lawful_secured, sequence_of_database, name_of, nat_le, nat_tests, number_of, option_map, pos, refl, row_with_security, rows_with_security, security_of, slice_get, subst, sym, true, with_security, ℕ, ∥∥₁_map, ◌∙◌, ◌≡◌, ◌≤◌}
use Rattle.std.specs.FinMap as finite
use Rattle.couch_json.specs.Value as json
use Rattle.sqlite.specs.Effect as sqlite
use Rattle.tables.proofs.Changed.{changed, all_changed, numbered_changed, names_changed, found_changed, contents_changed}
use Rattle.tables.proofs.Lookups.{database_there}
use Rattle.tables.proofs.Rests.{contents_same, dbs_laid, after_change, spelled, store_of, unchanged, with_rows}

low : (n : ℕ) → nat_le n 100 ≡ true → n ≤ 110
low n h = grind (arith, nat_tests)

module _ (old new : sqlite.Database) (name : List ℕ) (d : Row) (v : json.Value) (h : IsStore old) (is : slice_get (filter (is_named name) (old.trees dbs_tree)) 0 ≡ Some d)
    (secure : IsTrue (is_security v)) (lawful : IsLawful v) (c : Changes dbs_tree (rows_with_security (number_of d) (canonical v) (old.trees dbs_tree)) old new) where
  abbrev rows : List Row
  rows = old.trees dbs_tree

  abbrev change : Row → Row
  change = row_with_security (canonical v)

  abbrev secured : Trees
  secured = with_rows old.trees dbs_tree (rows_with_security (number_of d) (canonical v) rows)

  text_is : (r : Row) → security_of (change r) ≡ v
  text_is r = spelled v lawful (low (json.depth v) (and_parts _ (nat_le (json.depth v) 100) secure).1)

  secured_contents : contents_in secured ≡ finite.insert (contents_in old.trees) name (with_security (database_of_row old.trees d) v)
  secured_contents =
      contents_changed old.trees h.laid name d is change (λ r. refl) (λ r. refl) secured (with_security (database_of_row old.trees d) v) refl
      (ap (λ w. with_security (database_of_row old.trees d) w) (text_is d)) (λ r out. refl)

  -- ---- layout

  row_kept : (r : Row) → IsDatabaseRow r → IsDatabaseRow (change r)
  row_kept r k = record {
    is = ap (λ x. database_row (number_of r) (name_of r) (canonical x) (pos (sequence_of_database r))) (sym (text_is r));
    named = k.named;
    security = subst (λ x. IsTrue (is_security x)) (sym (text_is r)) secure;
    bounded = k.bounded;
  }

  same_length : (o : Option Row) → option_map sequence_of_database (option_map (changed (number_of d) change (λ r. refl) (λ r. refl)) o) ≡ option_map sequence_of_database o
  same_length None = refl
  same_length (Some r) = ap Some (elim (has_number (number_of d) r) as (λ b. sequence_of_database (if b then change r else r) ≡ sequence_of_database r) [ true ↦ refl | false ↦ refl ])

  secured_laid : IsWellFormed secured
  secured_laid =
      dbs_laid old.trees (rows_with_security (number_of d) (canonical v) rows) h.laid
      (numbered_changed (number_of d) change (λ r. refl) (λ r. refl) (λ r. refl) rows h.laid.dbs_numbered)
      (all_changed (number_of d) change (λ r. refl) (λ r. refl) IsDatabaseRow row_kept rows h.laid.dbs)
      (names_changed (number_of d) change (λ r. refl) (λ r. refl) rows h.laid.names_apart)
      (λ n there. ap (option_map sequence_of_database) (found_changed (number_of d) change (λ r. refl) (λ r. refl) rows n) ∙ same_length (database_row_at rows n))
      (∥∥₁_map h.laid.lawful (λ l.
      subst AreLawful (sym secured_contents)
      (lawful_insert (contents_in old.trees) name (with_security (database_of_row old.trees d) v) l
      (lawful_secured (database_of_row old.trees d) v (l name (database_of_row old.trees d) (database_there old.trees h.laid name d is))))))

  pub secured_store : IsStore new × (option_map (λ db. finite.insert (contents_in old.trees) name (with_security db v)) (finite.get (contents_in old.trees) name) ≡ Some (contents_in new.trees))
  secured_store =
      let same = after_change old.trees old new dbs_tree _ _ h.schema_is (unchanged old.trees) c refl in (
        store_of secured new (c.schema ∙ h.schema_is) same secured_laid,
        ap (option_map (λ db. finite.insert (contents_in old.trees) name (with_security db v))) (database_there old.trees h.laid name d is)
            ∙ ap Some (sym (contents_same secured new.trees same ∙ secured_contents)),
      )
