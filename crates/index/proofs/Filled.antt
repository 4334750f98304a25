-- An index that is filled, one document after another.
use Rattle.index.proofs.Common.{AllByRecursion, Bool, ChangesOnly, Database, Entries, IsAscending, List, None, Option, Ordering, Row, Some, Trees, [], ap, arith, bytes_eq, bytes_eq-Decides, cond, drop, entries_tree, false, find, get_or, if◌then◌else◌, insert_sorted, int_eq, is_gt, length, list_any, map, refl, same_int, schema, sees_in, sort_by, suc, sym, true, ℕ, ℤ, ◌&&◌, ◌<◌, ◌||◌, ◌∙◌, ◌∷◌, ◌≡◌, ◌≢◌}
use Rattle.index.proofs.SeenDocuments.{design_unseen, gone_unseen}
use Rattle.index.specs.Filling.{HaveKeyOf, numbers_of, without_ids}
use Rattle.index.specs.inner.Seen.{IsListedAs}
use Rattle.index.specs.Shown.{Declared}
use Rattle.std.proofs.lemmas.Bool.{false_from_ne_true}
use Rattle.std.specs.FinMap.{empty}
use Rattle.store.proofs.Winnings.{no_winner}
use Rattle.store.specs.Indexes.{queried_document, shown_by}
use Rattle.store.specs.Pages.{live_rev, live_rev_by}
use Rattle.couch_json.specs.Value.{Value}
use Rattle.tables.proofs.Common.{IsPermutation-sort_by, list_any-IsPermutation, nat_list_cmp_total, on_total}
use Rattle.tables.proofs.Lookups.{unwritten}
use Rattle.tables.proofs.Rests.{AreSame, leaves, store_of}
use Rattle.tables.specs.Layout.{IsDocumentRow, IsWellFormed, IsStore}
use Rattle.tables.specs.Rows.{by_id, db_of, history_in_rows, id_of, is_gone_row, is_row_of_document}
use Rattle.tables.specs.Schema.{docs_tree, revs_tree}
use Rattle.tables.specs.declared.decode.ListedDocument.{ListedDocument}
use Rattle.tree.specs.DocumentId.{is_design_id}
use Rattle.tree.specs.Revision.{Revision}

-- ---- a document that is not seen

pub unseen_of : (trees : Trees) (l : IsWellFormed trees) (d : Row) (k : IsDocumentRow trees d) (listed : ListedDocument) → IsListedAs d listed → (listed.deleted || is_design_id listed.id) ≡ true → (db : ℤ) → db_of d ≡ db → sees_in trees db (id_of d) ≡ None
unseen_of trees l d k listed as_listed unseen db own = (λ j. queried_document (id_of d) (history_in_rows (trees revs_tree) (sym own j) (id_of d))) ∙ go listed.deleted (sym as_listed.deleted) unseen
  where
    go : (b : Bool) → is_gone_row d ≡ b → (b || is_design_id listed.id) ≡ true → queried_document (id_of d) (history_in_rows (trees revs_tree) (db_of d) (id_of d)) ≡ None
    go true gone out = gone_unseen trees l d k gone
    go false gone out = design_unseen trees l d k (sym (ap is_design_id as_listed.id) ∙ out)

-- ---- the store stays

pub same_tables : (a b : Database) → a.schema ≡ schema → ChangesOnly entries_tree a b → AreSame a.trees b.trees
same_tables a b has h =
    let kept = leaves entries_tree (b.trees entries_tree) a b has (record { schema = h.schema; rows = refl; others = h.others }) in
    record { meta = kept.meta (omega arith); dbs = kept.dbs (omega arith); docs = kept.docs (omega arith); revs = kept.revs (omega arith); locals = kept.locals (omega arith) }

pub store_stays : (a b : Database) → IsStore a → ChangesOnly entries_tree a b → IsStore b
store_stays a b store h = store_of a.trees b (h.schema ∙ store.schema_is) (same_tables a b store.schema_is h) store.laid

pub seen_stays : (a b : Database) → a.schema ≡ schema → ChangesOnly entries_tree a b → (db : ℤ) (id : List ℕ) → sees_in b.trees db id ≡ sees_in a.trees db id
seen_stays a b has h db id = ap (λ rows. queried_document id (history_in_rows rows db id)) (same_tables a b has h).revs

-- ---- one document more

and_false : (b : Bool) → (b && false) ≡ false
and_false true = refl
and_false false = refl

and_true : (b : Bool) → (b && true) ≡ b
and_true true = refl
and_true false = refl

pub all_get : (P : Row → Type 0) (xs : List Row) (i : ℕ) (x : Row) → i < length xs → AllByRecursion P xs → P (get_or xs i x)
all_get P [] i x lt all = absurd (omega (arith, lt))
all_get P (y ∷ xs) Prim.Native.Nat.zero x lt all = all.0
all_get P (y ∷ xs) (suc i) x lt all = all_get P xs i x (omega (arith, lt)) all.1

-- ---- entries that are missing

-- where no document is missing, none of its entries is
pub none_missing : (due : Entries) (numbers : List ℤ) (m : ℤ) (k i : List ℕ) → without_ids due numbers [] m k i ≡ due m k i
none_missing due numbers m k i = go (list_any (int_eq m) numbers)
  where
    go : (b : Bool) → (if (b && false) then false else due m k i) ≡ due m k i
    go true = refl
    go false = refl

-- the first of the documents that are missing
pub first_missing : (due : Entries) (ns : List ℤ) (id : List ℕ) (ids : List (List ℕ)) (m : ℤ) (k i : List ℕ) → without_ids (without_ids due ns ids) ns (id ∷ []) m k i ≡ without_ids due ns (id ∷ ids) m k i
first_missing due ns id ids m k i = go (list_any (int_eq m) ns) (bytes_eq i id) (list_any (bytes_eq i) ids)
  where
    go : (a b c : Bool) → (if (a && (b || false)) then false else (if (a && c) then false else due m k i)) ≡ (if (a && (b || c)) then false else due m k i)
    go false b c = refl
    go true true c = refl
    go true false c = refl

-- no declaration that comes later has this number
pub numbers_apart : (n : ℤ) (xs : List Declared) → AllByRecursion (λ (y : Declared). n ≢ y.number) xs → list_any (int_eq n) (numbers_of xs) ≡ false
numbers_apart n [] all = refl
numbers_apart n (y ∷ ys) all =
    ap (λ b. b || list_any (int_eq n) (numbers_of ys)) (false_from_ne_true (int_eq n y.number) (λ same. all.0 (same_int n y.number same))) ∙ numbers_apart n ys all.1

-- of a document that is not seen there is no key
pub keyless : (xs : List Declared) (id : List ℕ) (due : Entries) → HaveKeyOf xs id None due → (m : ℤ) (k : List ℕ) → list_any (int_eq m) (numbers_of xs) ≡ true → due m k id ≡ false
keyless [] id due says m k is = absurd (cc)
keyless (x ∷ xs) id due says m k is = go (int_eq m x.number) refl is (keyless xs id due says.1 m k)
  where
    go : (b : Bool) → int_eq m x.number ≡ b → (b || list_any (int_eq m) (numbers_of xs)) ≡ true → (list_any (int_eq m) (numbers_of xs) ≡ true → due m k id ≡ false) → due m k id ≡ false
    go true number found more = (λ j. due (same_int m x.number number j) k id) ∙ says.0 k
    go false number found more = more found

-- so nothing is missing of it
pub unseen_missing : (xs : List Declared) (id : List ℕ) (due : Entries) → HaveKeyOf xs id None due → (m : ℤ) (k i : List ℕ) → without_ids due (numbers_of xs) (id ∷ []) m k i ≡ due m k i
unseen_missing xs id due says m k i = go (list_any (int_eq m) (numbers_of xs)) refl (bytes_eq i id) refl
  where
    go : (a : Bool) → list_any (int_eq m) (numbers_of xs) ≡ a → (b : Bool) → bytes_eq i id ≡ b → (if (a && (b || false)) then false else due m k i) ≡ due m k i
    go false number b name = refl
    go true number false name = refl
    go true number true name = sym ((λ j. due m k ((bytes_eq-Decides i id).0 name j)) ∙ keyless xs id due says m k number)

-- ---- rows of documents

-- the ids of rows that come later are others
pub ids_apart : (d : Row) (docs : List Row) → AllByRecursion (λ e. id_of d ≢ id_of e) docs → list_any (bytes_eq (id_of d)) (map id_of docs) ≡ false
ids_apart d [] all = refl
ids_apart d (e ∷ docs) all =
    ap (λ b. b || list_any (bytes_eq (id_of d)) (map id_of docs)) (false_from_ne_true (bytes_eq (id_of d) (id_of e)) (λ same. all.0 ((bytes_eq-Decides (id_of d) (id_of e)).0 same))) ∙ ids_apart d docs all.1

pub ascending-drop : (R : Row → Row → Type 0) (i : ℕ) (xs : List Row) → IsAscending R xs → IsAscending R (drop i xs)
ascending-drop R Prim.Native.Nat.zero xs up = up
ascending-drop R (suc i) [] up = tt
ascending-drop R (suc i) (x ∷ xs) up = ascending-drop R i xs up.1

pub all-drop : (P : Row → Type 0) (i : ℕ) (xs : List Row) → AllByRecursion P xs → AllByRecursion P (drop i xs)
all-drop P Prim.Native.Nat.zero xs all = all
all-drop P (suc i) [] all = tt
all-drop P (suc i) (x ∷ xs) all = all-drop P i xs all.1

-- ---- rows in the order of a list

all_inserted : (P : Row → Type 0) (cmp : Row → Row → Ordering) (new : Row) (rows : List Row) → P new → AllByRecursion P rows → AllByRecursion P (insert_sorted cmp new rows)
all_inserted P cmp new [] own all = (own, tt)
all_inserted P cmp new (r ∷ rows) own all =
    elim (is_gt (cmp new r)) as (λ b. AllByRecursion P (cond b (r ∷ insert_sorted cmp new rows) (new ∷ r ∷ rows))) [ true ↦ (all.0, all_inserted P cmp new rows own all.1) | false ↦ (own, all) ]

-- what holds of any two rows, whichever stands first, holds in any order
pub ascending-sorted : (R : Row → Row → Type 0) → ((a b : Row) → R a b → R b a) → (cmp : Row → Row → Ordering) (rows : List Row) → IsAscending R rows → IsAscending R (sort_by cmp rows)
ascending-sorted R turns cmp [] up = tt
ascending-sorted R turns cmp (r ∷ rows) up = put r (sort_by cmp rows) (all_put rows up.0) (ascending-sorted R turns cmp rows up.1)
  where
    all_put : (xs : List Row) → AllByRecursion (R r) xs → AllByRecursion (R r) (sort_by cmp xs)
    all_put [] all = tt
    all_put (x ∷ xs) all = all_inserted (R r) cmp x (sort_by cmp xs) all.0 (all_put xs all.1)

    put : (new : Row) (xs : List Row) → AllByRecursion (R new) xs → IsAscending R xs → IsAscending R (insert_sorted cmp new xs)
    put new [] all rising = (tt, tt)
    put new (x ∷ xs) all rising =
        elim (is_gt (cmp new x)) as (λ b. IsAscending R (cond b (x ∷ insert_sorted cmp new xs) (new ∷ x ∷ xs))) [
          | true ↦ (all_inserted (R x) cmp new xs (turns new x all.0) rising.0, put new xs all.1 rising.1)
          | false ↦ (all, rising)
        ]

-- ids of rows, in whatever order
pub any_in_order : (i : List ℕ) (rows : List Row) → list_any (bytes_eq i) (map id_of (sort_by by_id rows)) ≡ list_any (λ r. bytes_eq i (id_of r)) rows
any_in_order i rows = of_map (sort_by by_id rows) ∙ list_any-IsPermutation (λ r. bytes_eq i (id_of r)) (sort_by by_id rows) rows (IsPermutation-sort_by by_id (on_total id_of nat_list_cmp_total) rows)
  where
    of_map : (xs : List Row) → list_any (bytes_eq i) (map id_of xs) ≡ list_any (λ r. bytes_eq i (id_of r)) xs
    of_map [] = refl
    of_map (x ∷ xs) = ap (λ b. bytes_eq i (id_of x) || b) (of_map xs)

none_found : (p : Row → Bool) (xs : List Row) → list_any p xs ≡ false → find p xs ≡ None
none_found p [] out = refl
none_found p (x ∷ xs) out = go (p x) out (none_found p xs)
  where
    go : (b : Bool) → (b || list_any p xs) ≡ false → (list_any p xs ≡ false → find p xs ≡ None) → cond b (Some x) (find p xs) ≡ None
    go true out more = absurd (cc)
    go false out more = more out

-- what was never written is not seen
pub unwritten_unseen : (trees : Trees) → IsWellFormed trees → (db : ℤ) (i : List ℕ) → list_any (is_row_of_document db i) (trees docs_tree) ≡ false → sees_in trees db i ≡ None
unwritten_unseen trees l db i none =
    ap (queried_document i) (unwritten trees db i l (none_found (is_row_of_document db i) (trees docs_tree) none))
    ∙ ap (λ (r : Option Revision). if is_design_id i then None else shown_by i empty r) no_live ∙ hidden (is_design_id i)
  where
    no_live : live_rev empty ≡ None
    no_live = ap (live_rev_by empty) no_winner

    hidden : (b : Bool) → ◌≡◌ {A = Option Value} (if b then None else None) None
    hidden true = refl
    hidden false = refl

pub get_map : {B : Type 0} (f : Row → B) (xs : List Row) (i : ℕ) (x : Row) (y : B) → i < length xs → get_or (map f xs) i y ≡ f (get_or xs i x)
get_map f [] i x y lt = absurd (omega (arith, lt))
get_map f (z ∷ xs) Prim.Native.Nat.zero x y lt = refl
get_map f (z ∷ xs) (suc i) x y lt = get_map f xs i x y (omega (arith, lt))
