-- The tables are plain ones, and what their layout says of their keys.
use Rattle.tables.proofs.Common.{AreDatabaseRows, AreKeyed, AreNumbered, Int, IsAscending, IsDatabaseRow, IsDocumentRow, IsKeyed, IsWellFormed, IsLocalRow, IsRevisionRow, List, Row, Trees, all_weaker, and_parts, ap, arith, ascending_weaker, bytes_eq-Decides, column, database_row, db_of, dbs_table, dbs_tree, decls_table, docs_table, docs_tree, entries_table, has_number, id_of, ints, is_row_of_database, is_named, is_row_of_document, sequence_of_database, locals_table, locals_tree, meta_table, name_of, number_of, pos, refl, revs_table, revs_tree, rowid, same_int, schema, security_text, sym, true, ℕ, ℤ, ◌<ℤ◌, ◌∙◌, ◌≡◌, ◌≢◌}
use Rattle.tables.proofs.Single.{HasOneAtMost}
use Rattle.tables.proofs.Writes.{IsPlainTable}

pub meta_plain : IsPlainTable schema 0 meta_table
meta_plain = record { there = refl; uncounted = refl; unstamped = refl; alone = λ olds news. refl }

pub dbs_plain : IsPlainTable schema 1 dbs_table
dbs_plain = record { there = refl; uncounted = refl; unstamped = refl; alone = λ olds news. refl }

pub docs_plain : IsPlainTable schema 2 docs_table
docs_plain = record { there = refl; uncounted = refl; unstamped = refl; alone = λ olds news. refl }

pub revs_plain : IsPlainTable schema 3 revs_table
revs_plain = record { there = refl; uncounted = refl; unstamped = refl; alone = λ olds news. refl }

pub locals_plain : IsPlainTable schema 4 locals_table
locals_plain = record { there = refl; uncounted = refl; unstamped = refl; alone = λ olds news. refl }

pub decls_plain : IsPlainTable schema 5 decls_table
decls_plain = record { there = refl; uncounted = refl; unstamped = refl; alone = λ olds news. refl }

pub entries_plain : IsPlainTable schema 6 entries_table
entries_plain = record { there = refl; uncounted = refl; unstamped = refl; alone = λ olds news. refl }

pub docs_keyed : (trees : Trees) → IsWellFormed trees → AreKeyed (trees docs_tree)
docs_keyed trees h = record {
  keyed = all_weaker (IsDocumentRow trees) IsKeyed (λ r k. record { number = ap rowid k.is; db = ap (λ x. column x 1) k.is; id = ap (λ x. column x 2) k.is }) (trees docs_tree) h.docs;
  rising = h.docs_numbered.rising;
}

pub revs_keyed : (trees : Trees) → IsWellFormed trees → AreKeyed (trees revs_tree)
revs_keyed trees h = record {
  keyed = all_weaker (IsRevisionRow trees) IsKeyed (λ r k. record { number = ap rowid k.is; db = ap (λ x. column x 1) k.is; id = ap (λ x. column x 2) k.is }) (trees revs_tree) h.revs;
  rising = h.revs_numbered.rising;
}

pub locals_keyed : (trees : Trees) → IsWellFormed trees → AreKeyed (trees locals_tree)
locals_keyed trees h = record {
  keyed = all_weaker (IsLocalRow trees) IsKeyed (λ r k. record { number = ap rowid k.is; db = ap (λ x. column x 1) k.is; id = ap (λ x. column x 2) k.is }) (trees locals_tree) h.locals;
  rising = h.locals_numbered.rising;
}

-- a row of a database's id is of these
pub of_these : (db : ℤ) (id : List ℕ) (r : Row) → is_row_of_document db id r ≡ true → (db_of r ≡ db) × (id_of r ≡ id)
of_these db id r is = let parts = and_parts (is_row_of_database db r) _ is in (same_int (db_of r) db parts.0, (bytes_eq-Decides (id_of r) id).0 parts.1)

-- at most one row has this database and this id
pub one_of : (rows : List Row) → IsAscending (λ a b. db_of a ≡ db_of b → id_of a ≢ id_of b) rows → (db : ℤ) (id : List ℕ) → HasOneAtMost (is_row_of_document db id) rows
one_of rows apart db id =
    ascending_weaker (λ a b. db_of a ≡ db_of b → id_of a ≢ id_of b) (λ a b. is_row_of_document db id a ≡ true → is_row_of_document db id b ≡ true → ⊥)
    (λ a b h p q. let x = of_these db id a p in let y = of_these db id b q in h (x.0 ∙ sym y.0) (x.1 ∙ sym y.1)) rows apart

-- at most one row has this name
pub one_named : (rows : List Row) → IsAscending (λ a b. name_of a ≢ name_of b) rows → (name : List ℕ) → HasOneAtMost (is_named name) rows
one_named rows apart name =
    ascending_weaker (λ a b. name_of a ≢ name_of b) (λ a b. is_named name a ≡ true → is_named name b ≡ true → ⊥)
    (λ a b h p q. h ((bytes_eq-Decides (name_of a) name).0 p ∙ sym ((bytes_eq-Decides (name_of b) name).0 q))) rows apart

pub databases_laid : (trees : Trees) → IsWellFormed trees → AreDatabaseRows (trees dbs_tree)
databases_laid trees h = record {
  each = all_weaker IsDatabaseRow (λ r. r ≡ database_row (number_of r) (name_of r) (security_text r) (pos (sequence_of_database r)))
      (λ r k. k.is ∙ ap (λ t. database_row (number_of r) (name_of r) t (pos (sequence_of_database r))) (sym (ap security_text k.is))) (trees dbs_tree) h.dbs;
  rising = h.dbs_numbered.rising;
}

pub numbered_databases : (rows : List Row) → AreDatabaseRows rows → AreNumbered rows
numbered_databases rows h = record { numbers = all_weaker _ (λ r. rowid r ≡ Int (number_of r)) (λ r k. ap rowid k) rows h.each; rising = h.rising }

-- at most one row has this number
pub one_numbered : (rows : List Row) → IsAscending (λ a b. number_of a <ℤ number_of b) rows → (n : ℤ) → HasOneAtMost (has_number n) rows
one_numbered rows rising n =
    ascending_weaker (λ a b. number_of a <ℤ number_of b) (λ a b. has_number n a ≡ true → has_number n b ≡ true → ⊥)
    (λ a b h p q. let x = same_int (number_of a) n p in let y = same_int (number_of b) n q in omega (arith, ints)) rows rising
