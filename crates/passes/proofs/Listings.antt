-- A list of changes, as a pass reads it back, names all leaves above its start.
use Rattle.std.proofs.Common.{◌≡◌, ◌≤◌, ◌<◌, inl, inr, ◌&&◌, ◌||◌, ℕ, zero, suc, List, [], ◌∷◌, map, take, ◌≢◌, eq-eqb, min, Bool, true, false, cond, Option, Some, None, option_map, bytes_eq, nat_le, length, AllPairs, refl, sym, ap, ◌∙◌, subst, arith}
use Rattle.std.specs.Prelude.{IsTrue}
use Rattle.std.specs.FinMap.{get}
use Rattle.std.specs.List.{list_any}
use Rattle.std.proofs.lemmas.List.{length-map}
use Rattle.std.proofs.lemmas.Slice.Eq.{bytes_eq-Decides}
use Rattle.couch_json.specs.Value.{object}
use Rattle.couch_json.specs.View.{items_of}
use Rattle.tree.specs.Revision.{Revision, text_of}
use Rattle.tree.specs.History.{is_leaf, leaves}
use Rattle.tree.specs.Write.{StandsIn}
use Rattle.tree.proofs.Leaves.{leaves_are}
use Rattle.store.specs.Database.{Database, Document, HasSequences, history_in, sequence_at, sequence_in}
use Rattle.store.specs.Pages.{IsRowOf, SequencePage, SequenceRow, last_sequence, page_by_sequence, row_of, up_to_limit}
use Rattle.store.specs.declared.listing.SeqRange.{SeqRange}
use Rattle.store.proofs.Listings.{In}
use Rattle.store.proofs.RowOrders.{page_ascends}
use Rattle.store.proofs.Rows.{page_within, row_from, row_there}
use Rattle.read.specs.Changes as read
use Rattle.read.specs.Changes.{change_members, change_object, changes_of, with_deletion}
use Rattle.read.specs.Listing.{revision_object}
use Rattle.repl.specs.Calls.{Revisions}
use Rattle.repl.specs.Replies.{Changes, change_in, changes_by_parts, changes_in_reply, revision_in_reply}
use Rattle.couch_json.specs.Range.{greatest_count}
use Rattle.repl.specs.Passes.{fills}
use Rattle.repl.specs.Shapes.{before, each_in}
use Rattle.passes.specs.Owed.{AreDistinct, Names}
use Rattle.passes.specs.Settled.{is_among}
use Rattle.passes.specs.Spelled.{changes_after}

-- ---- reading back

revs_read : (rs : List Revision) → each_in revision_in_reply (items_of (map revision_object rs)) ≡ Some (map text_of rs)
revs_read [] = refl
revs_read (r ∷ rs) = ap (λ (o : Option (List (List ℕ))). before (Some (text_of r)) o) (revs_read rs)

-- a row as it is read
abbrev row_read : SequenceRow → Revisions
row_read r = record { id = r.id; revisions = map text_of r.revs }

change_by : (b : Bool) (r : SequenceRow) → change_in (object (with_deletion b (change_members r))) ≡ Some (row_read r)
change_by false r = ap (λ (o : Option (List (List ℕ))). option_map (λ rs. let x : Revisions = record { id = r.id; revisions = rs } in x) o) (revs_read r.revs)
change_by true r = ap (λ (o : Option (List (List ℕ))). option_map (λ rs. let x : Revisions = record { id = r.id; revisions = rs } in x) o) (revs_read r.revs)

rows_read : (rows : List SequenceRow) → each_in change_in (items_of (map change_object rows)) ≡ Some (map row_read rows)
rows_read [] = refl
rows_read (r ∷ rows) = (λ i. before (change_by r.deleted r i) (rows_read rows i))

-- what is read is the page
page_read : (page : SequencePage) (c : Changes) → changes_in_reply (changes_of page) ≡ Some c → (c.sequence ≡ page.last) × (c.leaves ≡ map row_read page.rows)
page_read page c e = by (nat_le page.last greatest_count) (ap (λ (o : Option (List Revisions)). changes_by_parts (cond (nat_le page.last greatest_count) (Some page.last) None) o) (sym (rows_read page.rows)) ∙ e)
  where
    by : (b : Bool) → changes_by_parts (cond b (Some page.last) None) (Some (map row_read page.rows)) ≡ Some c → (c.sequence ≡ page.last) × (c.leaves ≡ map row_read page.rows)
    by true is =
        let read : Changes = record { sequence = page.last; leaves = map row_read page.rows } in
        let same : read ≡ c = cc in
        (sym (ap (λ (x : Changes). x.sequence) same), sym (ap (λ (x : Changes). x.leaves) same))
    by false is = absurd cc

-- ---- what stands there

equal_bytes : (a b : List ℕ) → a ≡ b → bytes_eq a b ≡ true
equal_bytes a b e = (bytes_eq-Decides a b).1 e

here_any : (b c : Bool) → b ≡ true → (b || c) ≡ true
here_any b c e = ap (λ (x : Bool). x || c) e

there_any : (b c : Bool) → c ≡ true → (b || c) ≡ true
there_any true c e = refl
there_any false c e = e

both_any : (b c : Bool) → b ≡ true → c ≡ true → (b && c) ≡ true
both_any b c e f = ap (λ (x : Bool). x && c) e ∙ f

named_rev : (rs : List Revision) (r : Revision) → StandsIn rs r → list_any (λ t. bytes_eq t (text_of r)) (map text_of rs) ≡ true
named_rev [] r h = absurd h
named_rev (s ∷ rs) r (inl e) = here_any _ _ (equal_bytes (text_of s) (text_of r) (ap text_of e))
named_rev (s ∷ rs) r (inr h) = there_any _ _ (named_rev rs r h)

named_row : (rows : List SequenceRow) (row : SequenceRow) (id : List ℕ) (r : Revision) → In rows row → row.id ≡ id → StandsIn row.revs r → is_among id r (map row_read rows) ≡ true
named_row [] row id r h is stands = absurd h
named_row (q ∷ rows) row id r (inl e) is stands =
    here_any _ _ (both_any (bytes_eq q.id id) _ (equal_bytes q.id id (ap (λ (x : SequenceRow). x.id) e ∙ is))
    (named_rev q.revs r (subst (λ (x : SequenceRow). StandsIn x.revs r) (sym e) stands)))
named_row (q ∷ rows) row id r (inr h) is stands = there_any _ _ (named_row rows row id r h is stands)

-- ---- the last row

abbrev Below : SequenceRow → SequenceRow → Type 0
Below a b = a.sequence < b.sequence

later_pairs : (r : SequenceRow) (rs : List SequenceRow) → AllPairs Below (r ∷ rs) → AllPairs Below rs
later_pairs r rs all = λ i j d lt le. all (suc i) (suc j) d (omega (arith, lt)) (omega (arith, le))

-- the first is below the others
first_below : (r : SequenceRow) (rs : List SequenceRow) (q : SequenceRow) → AllPairs Below (r ∷ rs) → In rs q → r.sequence < q.sequence
first_below r [] q all i = absurd i
first_below r (s ∷ rs) q all (inl e) = let step : r.sequence < s.sequence = all 0 1 r (omega arith) (omega arith) in omega (arith, step, ap (λ (x : SequenceRow). x.sequence) e)
first_below r (s ∷ rs) q all (inr i) =
    let step : r.sequence < s.sequence = all 0 1 r (omega arith) (omega arith) in
    omega (arith, step, first_below s rs q (later_pairs r (s ∷ rs) all) i)

-- no row is above the last
at_most_last : (n : ℕ) (rs : List SequenceRow) (q : SequenceRow) → AllPairs Below rs → In rs q → q.sequence ≤ last_sequence n rs
at_most_last n [] q all h = absurd h
at_most_last n (r ∷ rs) q all (inl e) = omega (arith, onward r rs all, ap (λ (x : SequenceRow). x.sequence) e)
  where
    onward : (r : SequenceRow) (rs : List SequenceRow) → AllPairs Below (r ∷ rs) → r.sequence ≤ last_sequence r.sequence rs
    onward r [] all = omega arith
    onward r (s ∷ rs) all =
        let step : r.sequence < s.sequence = all 0 1 r (omega arith) (omega arith) in
        omega (arith, step, onward s rs (later_pairs r (s ∷ rs) all))
at_most_last n (r ∷ rs) q all (inr h) = at_most_last r.sequence rs q (later_pairs r rs all) h

-- ---- the first rows, at most so many

-- a row that is not above the last of the first ones is one of them
among_first : (n other : ℕ) (rs : List SequenceRow) (q : SequenceRow) → AllPairs Below rs → In rs q → other < q.sequence → q.sequence ≤ last_sequence other (take n rs) → In (take n rs) q
among_first zero other rs q all i gt le = absurd (omega (arith, gt, le))
among_first (suc n) other [] q all i gt le = absurd i
among_first (suc n) other (r ∷ rs) q all (inl e) gt le = inl e
among_first (suc n) other (r ∷ rs) q all (inr i) gt le = inr (among_first n r.sequence rs q (later_pairs r rs all) i (first_below r rs q all i) le)

limited_in : (most : Option ℕ) (other : ℕ) (rs : List SequenceRow) (q : SequenceRow) → AllPairs Below rs → In rs q → other < q.sequence → q.sequence ≤ last_sequence other (up_to_limit most rs)
    → In (up_to_limit most rs) q
limited_in None other rs q all i gt le = i
limited_in (Some n) other rs q all i gt le = among_first n other rs q all i gt le

-- fewer than so many are all
few_are_all : (n : ℕ) (rs : List SequenceRow) → length (take n rs) ≢ n → take n rs ≡ rs
few_are_all zero rs h = absurd (h refl)
few_are_all (suc n) [] h = refl
few_are_all (suc n) (r ∷ rs) h = ap (λ (xs : List SequenceRow). r ∷ xs) (few_are_all n rs (λ e. h (omega (arith, e))))

limited_all : (most : Option ℕ) (rs : List SequenceRow) → fills most (map row_read (up_to_limit most rs)) ≡ false → up_to_limit most rs ≡ rs
limited_all None rs e = refl
limited_all (Some n) rs e =
    few_are_all n rs (λ same. let full : fills (Some n) (map row_read (take n rs)) ≡ true = eq-eqb _ n (length-map (take n rs) row_read ∙ same) in
    let k : true ≡ false = sym full ∙ e in cc)

-- ---- no document twice

abbrev OfDocuments : SeqRange → Database → List SequenceRow → Type 0
OfDocuments range db rs = (r : SequenceRow) → In rs r → IsRowOf range db r

-- rows of one document have one sequence
one_sequence : (range : SeqRange) (db : Database) (r q : SequenceRow) → IsRowOf range db r → IsRowOf range db q → q.id ≡ r.id → q.sequence ≡ r.sequence
one_sequence range db r q a b same =
    let there : Some b.document ≡ Some a.document = sym b.there ∙ ap (get db.documents) same ∙ a.there in
    let one : b.document ≡ a.document = cc in
    sym (ap (λ (x : SequenceRow). x.sequence) b.is) ∙ ap (λ (d : Document). d.sequence) one ∙ ap (λ (x : SequenceRow). x.sequence) a.is

not_again : (range : SeqRange) (db : Database) (r : SequenceRow) (rs : List SequenceRow) → IsRowOf range db r → OfDocuments range db rs → ((q : SequenceRow) → In rs q → r.sequence < q.sequence)
    → list_any (λ k. bytes_eq k.id r.id) (map row_read rs) ≡ false
not_again range db r [] is are above = refl
not_again range db r (q ∷ rs) is are above = by (bytes_eq q.id r.id) refl (not_again range db r rs is (λ x i. are x (inr i)) (λ x i. above x (inr i)))
  where
    by : (b : Bool) → bytes_eq q.id r.id ≡ b → list_any (λ k. bytes_eq k.id r.id) (map row_read rs) ≡ false → (b || list_any (λ k. bytes_eq k.id r.id) (map row_read rs)) ≡ false
    by true e rest = absurd (omega (arith, above q (inl refl), one_sequence range db r q is (are q (inl refl)) ((bytes_eq-Decides q.id r.id).0 e)))
    by false e rest = rest

all_distinct : (range : SeqRange) (db : Database) (rs : List SequenceRow) → OfDocuments range db rs → AllPairs Below rs → AreDistinct (map row_read rs)
all_distinct range db [] are all = tt
all_distinct range db (r ∷ rs) are all = (
  not_again range db r rs (are r (inl refl)) (λ x i. are x (inr i)) (λ q i. first_below r rs q all i),
  all_distinct range db rs (λ x i. are x (inr i)) (later_pairs r rs all),
)

-- ---- the whole

-- all rows above the start, in order
abbrev later_of : Database → ℕ → List SequenceRow
later_of db since = (page_by_sequence (changes_after since None) db).rows

row_at : (db : Database) (since : ℕ) (id : List ℕ) (o : Option Document) → HasSequences db → get db.documents id ≡ o → since < sequence_in o
    → (d : Document) × (o ≡ Some d) × In (later_of db since) (row_of true (id, d))
row_at db since id None has is lt = absurd (omega (arith, lt))
row_at db since id (Some d) has is lt = (d, refl, row_there (changes_after since None) db id d has refl is lt)

-- no end of rows is below what stands for it where there is none
last_onward : (n : ℕ) (rs : List SequenceRow) → ((r : SequenceRow) → In rs r → n ≤ r.sequence) → AllPairs Below rs → n ≤ last_sequence n rs
last_onward n [] each all = omega arith
last_onward n (r ∷ rs) each all = omega (arith, each r (inl refl), at_most_last n (r ∷ rs) r all (inl refl))

pub whole_listing : (db : Database) (since : ℕ) (most : Option ℕ) (c : Changes) → HasSequences db → changes_in_reply (read.changes_in (changes_after since most) db) ≡ Some c → Names db since most c
whole_listing db since most c has e =
    let page = page_by_sequence (changes_after since most) db in
    let read = page_read page c e in
    let rows = later_of db since in
    let ascend : AllPairs Below rows = page_ascends (changes_after since None) db in
    record {
      leaf = λ id r leaf lt le.
          let row = row_at db since id (get db.documents id) has refl lt in
          let at : sequence_at db id ≡ row.0.sequence = ap sequence_in row.1 in
          let here : In page.rows (row_of true (id, row.0)) = limited_in most (min since db.length) rows (row_of true (id, row.0)) ascend row.2 (omega (arith, lt, at)) (omega (arith, le, at, read.0)) in
          let stands : StandsIn (leaves row.0.history) r = (leaves_are row.0.history r).1 (subst (λ (o : Option Document). IsTrue (is_leaf (history_in o) r)) row.1 leaf) in
          ap (is_among id r) read.1 ∙ named_row page.rows (row_of true (id, row.0)) id r here refl stands;
      distinct = subst AreDistinct (sym read.1) (all_distinct (changes_after since most) db page.rows (row_from (changes_after since most) db) (page_ascends (changes_after since most) db));
      whole = λ few id lt.
          let row = row_at db since id (get db.documents id) has refl lt in
          let at : sequence_at db id ≡ row.0.sequence = ap sequence_in row.1 in
          let all : page.rows ≡ rows = limited_all most rows (ap (fills most) (sym read.1) ∙ few) in
          let last : page.last ≡ last_sequence (min since db.length) rows = ap (last_sequence (min since db.length)) all in
          omega (arith, at, read.0, last, at_most_last (min since db.length) rows (row_of true (id, row.0)) ascend row.2);
      onward = λ inside.
          let each : (r : SequenceRow) → In page.rows r → min since db.length ≤ r.sequence =
          λ r i. let row = row_from (changes_after since most) db r i in omega (arith, row.later, ap (λ (q : SequenceRow). q.sequence) row.is) in
          omega (arith, read.0, inside, last_onward (min since db.length) page.rows each (page_ascends (changes_after since most) db));
      bound = omega (arith, read.0, page_within (changes_after since most) db has);
    }
