-- Histories that are held by a map while documents are written one after another.
use Rattle.transactions.proofs.Common.{Addition, AreStored, Bool, Database, HasWritten, HistoryContent, IsWith, IsWithin, List, None, Option, Row, Some, [], addition_of, additions, ap, bytes_eq-Decides, cond, database_of_row, false, get_or, history_at, history_at-with_all, history_in_rows, is_eq-slice_cmp, length, map-append, number_of, refl, revs_tree, row_after, slice_cmp, subst, sym, take, take_more, true, with_addition, with_all, with_all-writings_in, writings_in, ℕ, ℤ, ◌++◌, ◌+◌, ◌<◌, ◌∙◌, ◌∷◌, ◌≡◌}
use Rattle.std.specs.Prelude.{bytes_eq}
use Rattle.std.specs.BTreeMap.{BTreeMap, IsEmpty, get, is_at}
use Rattle.std.specs.Map.{lookup}
use Rattle.std.specs.Ordering.{is_eq, nat_cmp}
use Rattle.store.specs.Database as store
use Rattle.store.specs.declared.write.Write.{Write}
use Rattle.tables.proofs.Lookups.{document_found}

-- an empty map holds no history, so what one asks of each holds
pub none_held : (P : List ℕ → HistoryContent → Type 0) (m : BTreeMap (List ℕ) HistoryContent) → IsEmpty m → (id : List ℕ) (h : HistoryContent) → get (slice_cmp nat_cmp) m id ≡ Some h → P id h
none_held P m empty id h is =
    let gone : get (slice_cmp nat_cmp) m id ≡ None = ap (lookup (is_at (slice_cmp nat_cmp id))) empty in
    let apart : ◌≡◌ {A = Option HistoryContent} None (Some h) = sym gone ∙ is in
    absurd (cc)

-- one that was taken out and is put in again
twice : (b : Bool) (h k : HistoryContent) (o p : Option HistoryContent) → p ≡ cond b None o → h ≡ k → cond b (Some h) p ≡ cond b (Some k) o
twice true h k o p out is = ap Some is
twice false h k o p out is = out

pub put_again : (m r n : BTreeMap (List ℕ) HistoryContent) (id : List ℕ) (h k : HistoryContent)
    → ((q : List ℕ) → get (slice_cmp nat_cmp) r q ≡ cond (is_eq (slice_cmp nat_cmp id q)) None (get (slice_cmp nat_cmp) m q))
    → IsWith r id h n → h ≡ k → IsWith m id k n
put_again m r n id h k out put is q = put q ∙ twice (is_eq (slice_cmp nat_cmp id q)) h k (get (slice_cmp nat_cmp) m q) (get (slice_cmp nat_cmp) r q) (out q) is

-- one that is as it is wanted is within
pub with_within : (m n : BTreeMap (List ℕ) HistoryContent) (id : List ℕ) (h : HistoryContent) → IsWith m id h n → IsWithin m id h n
with_within m n id h is q k found = sym (is q) ∙ found

-- one that was taken out, and not put in again
pub left_within : (m n : BTreeMap (List ℕ) HistoryContent) (id : List ℕ) (h : HistoryContent)
    → ((q : List ℕ) → get (slice_cmp nat_cmp) n q ≡ cond (is_eq (slice_cmp nat_cmp id q)) None (get (slice_cmp nat_cmp) m q)) → IsWithin m id h n
left_within m n id h out q k found = by (is_eq (slice_cmp nat_cmp id q)) (sym (out q) ∙ found)
  where
    by : (b : Bool) → cond b None (get (slice_cmp nat_cmp) m q) ≡ Some k → cond b (Some h) (get (slice_cmp nat_cmp) m q) ≡ Some k
    by true is = absurd (cc)
    by false is = is

-- what a map holds is stored after a write too, if the history of its document was put in
pub stored_on : (m n : BTreeMap (List ℕ) HistoryContent) (M N : List ℕ → HistoryContent) (a : Addition)
    → ((id : List ℕ) → N id ≡ cond (bytes_eq a.id id) (with_addition (M id) a) (M id))
    → AreStored m M → IsWithin m a.id (with_addition (M a.id) a) n → AreStored n N
stored_on m n M N a grown stored put id h is =
    go (bytes_eq a.id id) refl (ap (λ b. cond b (Some (with_addition (M a.id) a)) (get (slice_cmp nat_cmp) m id)) (sym (is_eq-slice_cmp a.id id)) ∙ put id h is) ∙ sym (grown id)
  where
    go : (b : Bool) → bytes_eq a.id id ≡ b → cond b (Some (with_addition (M a.id) a)) (get (slice_cmp nat_cmp) m id) ≡ Some h → h ≡ cond b (with_addition (M id) a) (M id)
    go true same here =
        let it : with_addition (M a.id) a ≡ h = cc in
        sym it ∙ ap (λ k. with_addition (M k) a) ((bytes_eq-Decides a.id id).0 same)
    go false other there = stored id h there

-- the history that a document has when some of the writes were done
pub known : (ws : List store.DocumentWrite) (name : List ℕ) (r : Row) (old now : Database) (id : List ℕ) → HasWritten ws name r old now
    → history_in_rows (now.trees revs_tree) (number_of r) id ≡ history_at (with_all (database_of_row old.trees r) ws) id
known ws name r old now id h = sym (document_found now.trees (row_after r (length ws)) id h.store.laid) ∙ ap (λ (d : store.Database). history_at d id) h.database

-- one write more changes the history of its document alone
one_more_known : (before : List Addition) (a : Addition) (name : List ℕ) (r : Row) (old mid new : Database)
    → HasWritten (writings_in (database_of_row old.trees r) before) name r old mid → HasWritten (writings_in (database_of_row old.trees r) (before ++ a ∷ [])) name r old new
    → (id : List ℕ) → history_in_rows (new.trees revs_tree) (number_of r) id
    ≡ cond (bytes_eq a.id id) (with_addition (history_in_rows (mid.trees revs_tree) (number_of r) id) a) (history_in_rows (mid.trees revs_tree) (number_of r) id)
one_more_known before a name r old mid new first second id =
    let db = database_of_row old.trees r in
    known (writings_in db (before ++ a ∷ [])) name r old new id second
    ∙ ap (λ (d : store.Database). history_at d id) (with_all-writings_in db before (a ∷ []))
    ∙ history_at-with_all (a ∷ []) (with_all db (writings_in db before)) id
    ∙ ap (λ h. cond (bytes_eq a.id id) (with_addition h a) h) (sym (known (writings_in db before) name r old mid id first))

pub stored_further : (ws : List Write) (i : ℕ) (w : Write) (name : List ℕ) (db : ℤ) (r : Row) (old mid new : Database) (m n : BTreeMap (List ℕ) HistoryContent) → i < length ws → w ≡ get_or ws i w → number_of r ≡ db
    → HasWritten (writings_in (database_of_row old.trees r) (additions (take i ws))) name r old mid → HasWritten (writings_in (database_of_row old.trees r) (additions (take (i + 1) ws))) name r old new
    → AreStored m (history_in_rows (mid.trees revs_tree) db) → IsWithin m (addition_of w).id (with_addition (history_in_rows (mid.trees revs_tree) db (addition_of w).id) (addition_of w)) n
    → AreStored n (history_in_rows (new.trees revs_tree) db)
stored_further ws i w name db r old mid new m n lt is numbered first second stored put =
    let before = additions (take i ws) in
    let a = addition_of w in
    let grown : additions (take (i + 1) ws) ≡ before ++ a ∷ [] = ap additions (take_more ws i w lt ∙ ap (λ x. take i ws ++ x ∷ []) (sym is)) ∙ map-append addition_of (take i ws) (w ∷ []) in
    let later = subst (λ all. HasWritten (writings_in (database_of_row old.trees r) all) name r old new) grown second in
    let follows = one_more_known before a name r old mid new first later in
    stored_on m n (history_in_rows (mid.trees revs_tree) db) (history_in_rows (new.trees revs_tree) db) a
    (subst (λ k. (id : List ℕ) → history_in_rows (new.trees revs_tree) k id ≡ cond (bytes_eq a.id id) (with_addition (history_in_rows (mid.trees revs_tree) k id) a) (history_in_rows (mid.trees revs_tree) k id)) numbered follows)
    stored put
