-- The name of a database is ASCII, and the rows of the names.
use Rattle.sqlstore.proofs.Common.{AllByRecursion, Coded-set, IsDatabaseRow, IsWellFormed, IsPermutation-sort_by, IsPermutation-sym, IsShownName, IsTrue, List, Option, Row, Some, Trees, [], all_map, all_weaker, and_parts, ap, arith, by_name, coded_list, coded_option, coded_ℕ, column, contents_in, dbs_tree, is_database_name, is_name_byte, list_all, map, map-map, name_of, name_shown, nat_list_cmp_total, on_total, refl, shown_name, sort_by, subst, sym, true, ℕ, ◌<◌, ◌∙◌, ◌∷◌, ◌≡◌}
use Rattle.std.specs.FinMap as finite
use Rattle.std.specs.Str.{IsAscii, IsUtf8}
use Rattle.std.proofs.lemmas.Str.{IsUtf8-from_ascii}
use Rattle.std.proofs.lemmas.Str.Ascii.{IsAscii-nil, IsAscii-cons}
use Rattle.sqlite_trees.proofs.ListLemmas.{all-permutation}
use Rattle.tables.proofs.Lookups.{names_found}

small : (b : ℕ) → is_name_byte b ≡ true → b < 128
small b h = grind arith

ascii_bytes : (bs : List ℕ) → list_all is_name_byte bs ≡ true → IsAscii bs
ascii_bytes [] h = IsAscii-nil
ascii_bytes (b ∷ bs) h = let parts = and_parts (is_name_byte b) (list_all is_name_byte bs) h in IsAscii-cons b bs (small b parts.0) (ascii_bytes bs parts.1)

pub name_is_text : (bs : List ℕ) → IsTrue (is_database_name bs) → IsUtf8 bs
name_is_text bs h = IsUtf8-from_ascii bs (ascii_bytes bs (and_parts _ (list_all is_name_byte bs) h).1)

-- the rows of the names are intact, and say them in order
shown_row : (r : Row) → IsDatabaseRow r → IsShownName (shown_name r)
shown_row r h = record { width = refl; name = ap (λ x. column x 2) h.is; lawful = h.named }

pub names_intact : (trees : Trees) (rows : List Row) → IsWellFormed trees → rows ≡ map shown_name (sort_by by_name (trees dbs_tree)) → AllByRecursion IsShownName rows
names_intact trees rows l is =
    subst (AllByRecursion IsShownName) (sym is)
    (all_map IsShownName shown_name _ (all-permutation (λ r. IsShownName (shown_name r)) (trees dbs_tree) _ (IsPermutation-sym _ _ (IsPermutation-sort_by by_name (on_total name_of nat_list_cmp_total) (trees dbs_tree))) (all_weaker IsDatabaseRow (λ r. IsShownName (shown_name r)) shown_row _ l.dbs)))

pub names_set : IsSet (Option (List (List ℕ)))
names_set = Coded-set (coded_option (coded_list (coded_list coded_ℕ)))

pub names_there : (trees : Trees) (rows : List Row) → IsWellFormed trees → rows ≡ map shown_name (sort_by by_name (trees dbs_tree)) → Some (finite.keys (contents_in trees)) ≡ Some (map name_shown rows)
names_there trees rows l is = ap Some (names_found trees l ∙ sym (map-map name_shown shown_name _) ∙ ap (map name_shown) (sym is))
