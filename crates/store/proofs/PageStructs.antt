-- The rows of a plain store beside those of its contents.
use Rattle.std.proofs.Common.{◌≡◌, ℕ, suc, ◌+◌, ◌≤◌, ◌<◌, ◌^◌, List, [], ◌∷◌, ◌++◌, length, set, map, filter, min, drop, reverse, nat_lt, subst, IfSome, is_some, Bool, true, false, cond, Ordering, Option, Some, None, option_map, nat_cmp, refl, sym, ap, ap₂, ◌∙◌, arith}
use Rattle.std.proofs.lemmas.Bool.Decides.{nat_tests}
use Rattle.std.proofs.lemmas.Cmp.{nat_list_cmp_total}
use Rattle.std.proofs.lemmas.List.{drop_min, length-map, length-reverse, map-append, take-map}
use Rattle.std.proofs.lemmas.List.Sorted.{IsPermutation-reverse, sum_by-IsPermutation}
use Rattle.std.proofs.lemmas.List.Sums.{length-filter}
use Rattle.std.specs.declared.cmp.Ordering.TheVariants.{Less, Equal, Greater}
use Rattle.std.specs.Ordering.{ord_min}
use Rattle.std.specs.Cmp.Lexicographic.{slice_cmp}
use Rattle.std.specs.BTreeMap.{is_at}
use Rattle.std.specs.List.Sorted.{IsStrictlySortedBy}
use Rattle.std.specs.Map.{keys_of, lookup, set_value}
use Rattle.std.specs.FinMap as finite
use Rattle.std.specs.FinMap.{put}
use Rattle.std.specs.FinMap.Entries.{by_order}
use Rattle.store.specs.Database.{Database, Document, DocumentWrite, history_at, history_in, with_one, with_all, empty_database}
use Rattle.std.specs.List.{count_by}
use Rattle.store.specs.Pages.{document_counts, in_direction, if_counted, id_page, is_before_start, is_within, live_rows, rows_within, page_of_ids, SequenceRow, in_sequence, last_sequence, up_to_limit, page_by_sequence, page_with, put_in_sequence, rows_after, rows_of}
use Rattle.store.specs.PageStructs.{sequence_row_of, sequence_rows}
use Rattle.couch_json.specs.Value.{Value}
use Rattle.store.specs.Plain.{content, document_entries, gathered_after, value_in, with_addition, with_write_at, written_content}
use Rattle.store.specs.Writing.{Addition, addition_of, additions, written_at, writings_in}
use Rattle.store.specs.declared.listing.DocumentCounts.{DocumentCounts}
use Rattle.store.specs.declared.listing.IdRange.{IdRange}
use Rattle.store.specs.declared.listing.IdRow.{IdRow}
use Rattle.store.specs.declared.listing.RowCounts.{RowCounts}
use Rattle.store.specs.declared.listing.SeqRange.{SeqRange}
use Rattle.store.specs.declared.listing.SeqRow.{SeqRow}
use Rattle.store.specs.declared.plain.PlainDatabase.{PlainDatabase}
use Rattle.store.specs.declared.plain.PlainDocument.{PlainDocument}
use Rattle.store.proofs.Orders.{set_value-put, value_in-find, value_in-lookup}
use Rattle.tree.proofs.Kept.{true_from_T}

-- ---- entries whose values are seen as others

abbrev pub seen : {K X Y : Type 0} → (X → Y) → List (K × X) → List (K × Y)
seen f es = map (λ e. (e.0, f e.1)) es

put_by-seen : {K X Y : Type 0} (f : X → Y) (r : Ordering) (k : K) (v : X) (e : K × X) (es put_later : List (K × X)) (put_seen : List (K × Y)) → seen f put_later ≡ put_seen
    → seen f (by_order r ((k, v) ∷ e ∷ es) ((e.0, v) ∷ es) (e ∷ put_later)) ≡ by_order r ((k, f v) ∷ (e.0, f e.1) ∷ seen f es) ((e.0, f v) ∷ seen f es) ((e.0, f e.1) ∷ put_seen)
put_by-seen f Less k v e es put_later put_seen h = refl
put_by-seen f Equal k v e es put_later put_seen h = refl
put_by-seen f Greater k v e es put_later put_seen h = ap (λ r. (e.0, f e.1) ∷ r) h

pub put-seen : {K X Y : Type 0} (R : K → K → Ordering) (f : X → Y) (k : K) (v : X) (es : List (K × X)) → seen f (put R k v es) ≡ put R k (f v) (seen f es)
put-seen R f k v [] = refl
put-seen R f k v (e ∷ es) = put_by-seen f (R k e.0) k v e es (put R k v es) (put R k (f v) (seen f es)) (put-seen R f k v es)

value_by-seen : {X Y : Type 0} (f : X → Y) (r : Ordering) (v : X) (o : Option X) (p : Option Y) → p ≡ option_map f o → by_order r None (Some (f v)) p ≡ option_map f (by_order r None (Some v) o)
value_by-seen f Less v o p h = refl
value_by-seen f Equal v o p h = refl
value_by-seen f Greater v o p h = h

value_in-seen : {K X Y : Type 0} (R : K → K → Ordering) (f : X → Y) (q : K) (es : List (K × X)) → value_in R q (seen f es) ≡ option_map f (value_in R q es)
value_in-seen R f q [] = refl
value_in-seen R f q (e ∷ es) = value_by-seen f (R q e.0) e.1 (value_in R q es) (value_in R q (seen f es)) (value_in-seen R f q es)

-- ---- the documents gathered from the writes are those of the content

abbrev pub document : PlainDocument → Document
document d = record { sequence = d.sequence; history = d.history }

gathered_entry : (db : Database) (a : Addition) → finite.entries (with_one db (written_at db a)).documents ≡ with_write_at (db.length + 1) (finite.entries db.documents) a
gathered_entry db a =
    finite.entries-insert nat_list_cmp_total db.documents a.id (record { sequence = db.length + 1; history = with_addition (history_at db a.id) a })
    ∙ ap (λ o. put (slice_cmp nat_cmp) a.id (record { sequence = db.length + 1; history = with_addition (history_in o) a }) (finite.entries db.documents))
    (finite.get-entries db.documents a.id ∙ sym (value_in-find (slice_cmp nat_cmp) nat_list_cmp_total a.id (finite.entries db.documents) (true_from_T _ (finite.entries_sorted db.documents))))

-- a write goes into the document that has its id
pub written_there : (sequence : ℕ) (a : Addition) (es new : List (List ℕ × PlainDocument)) (old d : PlainDocument) → IsStrictlySortedBy (slice_cmp nat_cmp) (keys_of es)
    → Some old ≡ lookup (is_at (slice_cmp nat_cmp a.id)) es → new ≡ set_value (is_at (slice_cmp nat_cmp a.id)) es d → d ≡ record { sequence = sequence; history = with_addition old.history a }
    → document_entries new ≡ with_write_at sequence (document_entries es) a
written_there sequence a es new old d ascend there set made =
    let R = slice_cmp nat_cmp in
    let here = value_in-lookup R nat_list_cmp_total a.id es ascend ∙ sym there in
    let seen = value_in-seen R document a.id es ∙ ap (option_map document) here in
    ap document_entries (set ∙ set_value-put R a.id old d es here) ∙ put-seen R document a.id d es
    ∙ ap (λ x. put R a.id (document x) (document_entries es)) made ∙ ap (λ o. put R a.id (record { sequence = sequence; history = with_addition (history_in o) a }) (document_entries es)) (sym seen)

-- a write makes a document, where none has its id
pub written_new : (sequence : ℕ) (a : Addition) (es new : List (List ℕ × PlainDocument)) (d : PlainDocument) → IsStrictlySortedBy (slice_cmp nat_cmp) (keys_of es)
    → None ≡ lookup (is_at (slice_cmp nat_cmp a.id)) es → new ≡ put (slice_cmp nat_cmp) a.id d es → d ≡ record { sequence = sequence; history = with_addition finite.empty a }
    → document_entries new ≡ with_write_at sequence (document_entries es) a
written_new sequence a es new d ascend none is made =
    let R = slice_cmp nat_cmp in
    let seen = value_in-seen R document a.id es ∙ ap (option_map document) (value_in-lookup R nat_list_cmp_total a.id es ascend ∙ sym none) in
    ap document_entries is ∙ put-seen R document a.id d es
    ∙ ap (λ x. put R a.id (document x) (document_entries es)) made ∙ ap (λ o. put R a.id (record { sequence = sequence; history = with_addition (history_in o) a }) (document_entries es)) (sym seen)

entries-with_all : (all : List Addition) (db : Database) → finite.entries (with_all db (writings_in db all)).documents ≡ gathered_after db.length (finite.entries db.documents) all
entries-with_all [] db = refl
entries-with_all (a ∷ all) db = entries-with_all all (with_one db (written_at db a)) ∙ ap (λ es. gathered_after (db.length + 1) es all) (gathered_entry db a)

pub length-with_all : (ws : List DocumentWrite) (db : Database) → (with_all db ws).length ≡ db.length + length ws
length-with_all [] db = omega arith
length-with_all (w ∷ ws) db = let more = length-with_all ws (with_one db w) in omega arith

length-writings_in : (db : Database) (all : List Addition) → length (writings_in db all) ≡ length all
length-writings_in db [] = refl
length-writings_in db (a ∷ all) = ap suc (length-writings_in (with_one db (written_at db a)) all)

pub length-written_content : (security : Value) (all : List Addition) → (written_content security all).length ≡ length all
length-written_content security all =
    let e = empty_database security in
    omega (arith, length-with_all (writings_in e all) e, length-writings_in e all)

-- a plain database is as long as its list of writes
pub length-content : (d : PlainDatabase) → (content d).length ≡ length d.writes.items
length-content d = length-written_content d.security (additions d.writes.items) ∙ length-map d.writes.items addition_of

pub no_length : {A : Type 0} (xs : List A) → length xs ≡ 0 → xs ≡ []
no_length [] e = refl
no_length (x ∷ xs) e = absurd (omega arith)

pub entries-written_content : (security : Value) (all : List Addition) → finite.entries (written_content security all).documents ≡ gathered_after 0 [] all
entries-written_content security all =
    let none : finite.entries (empty_database security).documents ≡ [] = no_length _ (sym (finite.len-entries (empty_database security).documents) ∙ finite.len-empty (slice_cmp nat_cmp) Document) in
    entries-with_all all (empty_database security) ∙ ap (λ es. gathered_after 0 es all) none

pub entries-content : (d : PlainDatabase) → finite.entries (content d).documents ≡ gathered_after 0 [] (additions d.writes.items)
entries-content d = entries-written_content d.security (additions d.writes.items)

pub page_by_sequence-content : (range : SeqRange) (d : PlainDatabase) → page_by_sequence range (content d) ≡ page_with range (length d.writes.items) (gathered_after 0 [] (additions d.writes.items))
page_by_sequence-content range d = ap₂ (page_with range) (length-content d) (entries-content d)

pub page_by_id-content : (range : IdRange) (d : PlainDatabase) → page_of_ids range (content d) ≡ id_page range (live_rows (gathered_after 0 [] (additions d.writes.items)))
page_by_id-content range d = ap (λ es. id_page range (live_rows es)) (entries-content d)

-- ---- rows in the order of their sequences

abbrev pub keyed : List (ℕ × SeqRow) → List (ℕ × SequenceRow)
keyed es = seen sequence_row_of es

pub put_in_sequence-push : (rs : List SequenceRow) (r : SequenceRow) (among : List (ℕ × SequenceRow)) → put_in_sequence (rs ++ r ∷ []) among ≡ put_in_sequence rs (put nat_cmp r.sequence r among)
put_in_sequence-push [] r among = refl
put_in_sequence-push (q ∷ rs) r among = ap (put nat_cmp q.sequence q) (put_in_sequence-push rs r among)

-- the last of the rows that are left is put among the others
pub one_put : (rs left : List SeqRow) (r : SeqRow) (among after : List (ℕ × SeqRow)) → rs ≡ left ++ r ∷ [] → after ≡ put nat_cmp r.sequence r among
    → put_in_sequence (sequence_rows left) (keyed after) ≡ put_in_sequence (sequence_rows rs) (keyed among)
one_put rs left r among after is made =
    ap (λ es. put_in_sequence (sequence_rows left) (keyed es)) made
    ∙ ap (put_in_sequence (sequence_rows left)) (put-seen nat_cmp sequence_row_of r.sequence r among)
    ∙ sym (put_in_sequence-push (sequence_rows left) (sequence_row_of r) (keyed among))
    ∙ ap (λ qs. put_in_sequence qs (keyed among)) (sym (map-append sequence_row_of left (r ∷ [])))
    ∙ ap (λ qs. put_in_sequence (sequence_rows qs) (keyed among)) (sym is)

pub seconds-keyed : (es : List (ℕ × SeqRow)) → map (λ e. e.1) (keyed es) ≡ sequence_rows (map (λ e. e.1) es)
seconds-keyed [] = refl
seconds-keyed (e ∷ es) = ap (λ r. sequence_row_of e.1 ∷ r) (seconds-keyed es)

-- ---- rows after a sequence

kept : (b : Bool) (r : SeqRow) (rs : List SeqRow) (qs : List SequenceRow) → sequence_rows rs ≡ qs → sequence_rows (cond b (r ∷ rs) rs) ≡ cond b (sequence_row_of r ∷ qs) qs
kept true r rs qs h = ap (λ ps. sequence_row_of r ∷ ps) h
kept false r rs qs h = h

pub sequence_rows-filter : (since : ℕ) (rs : List SeqRow) → sequence_rows (filter (λ r. nat_lt since r.sequence) rs) ≡ filter (λ r. nat_lt since r.sequence) (sequence_rows rs)
sequence_rows-filter since [] = refl
sequence_rows-filter since (r ∷ rs) = kept (nat_lt since r.sequence) r (filter (λ q. nat_lt since q.sequence) rs) _ (sequence_rows-filter since rs)

-- ---- the page

pub length-gathered : (es : List (List ℕ × PlainDocument)) → length es ≡ length (document_entries es)
length-gathered [] = refl
length-gathered (e ∷ es) = ap suc (length-gathered es)

pub page_made : (range : SeqRange) (n last : ℕ) (counts : Option DocumentCounts) (all : List SeqRow) (cut : List SequenceRow) (es : List (List ℕ × Document))
    → sequence_rows all ≡ rows_of range.all_leaves es → cut ≡ up_to_limit range.limit (filter (λ r. nat_lt range.since r.sequence) (in_sequence (sequence_rows all)))
    → last ≡ last_sequence (min range.since n) cut → counts ≡ if_counted range.counted (document_counts es)
    → record { rows = cut; last = last; sequence = n; counts = counts } ≡ page_with range n es
page_made range n last counts all cut es is made at count =
    let rows = made ∙ ap (rows_after range) is in
    let end = at ∙ ap (last_sequence (min range.since n)) rows in
    λ i. record { rows = rows i; last = end i; sequence = n; counts = count i }

pub smaller : (a b : ℕ) → ord_min nat_cmp a b ≡ min a b
smaller a b = grind (arith, nat_tests)

pub id_page_made : (range : IdRange) (before skipped total : ℕ) (counts : Option RowCounts) (all within cut rs : List IdRow) → all ≡ rs → before ≡ count_by (λ r. is_before_start range r.id) all
    → within ≡ rows_within range all → skipped ≡ min range.skip (length within) → cut ≡ up_to_limit range.limit (drop skipped within) → total ≡ length all
    → counts ≡ if_counted range.counted (record { offset = before + skipped; total = total })
    → record { rows = cut; counts = counts } ≡ id_page range rs
id_page_made range before skipped total counts all within cut rs is count made least at sum told =
    let counted = count ∙ ap (count_by (λ r. is_before_start range r.id)) is in
    let rows = made ∙ ap (rows_within range) is in
    let left = least ∙ ap (λ ws. min range.skip (length ws)) rows in
    let page = at ∙ ap (λ n. up_to_limit range.limit (drop n within)) least ∙ ap (up_to_limit range.limit) (drop_min range.skip within) ∙ ap (λ ws. up_to_limit range.limit (drop range.skip ws)) rows in
    let summed = sum ∙ ap length is in
    λ i. record { rows = page i; counts = (told ∙ (λ j. if_counted range.counted (record { offset = counted j + left j; total = summed j }))) i }

pub sequence_rows-limited : (limit : Option ℕ) (rs : List SeqRow) → sequence_rows (up_to_limit limit rs) ≡ up_to_limit limit (sequence_rows rs)
sequence_rows-limited None rs = refl
sequence_rows-limited (Some n) rs = sym (take-map sequence_row_of n rs)

-- ---- counts

pub apart : {X : Type 0} (p q : X → Bool) → ((x : X) → p x ≡ true → q x ≡ false) → (xs : List X) → length (filter p xs) + length (filter q xs) ≤ length xs
apart p q h [] = omega arith
apart p q h (x ∷ xs) = by (p x) (q x) (h x) (apart p q h xs)
  where
    by : (b c : Bool) → (b ≡ true → c ≡ false) → length (filter p xs) + length (filter q xs) ≤ length xs
        → length (cond b (x ∷ filter p xs) (filter p xs)) + length (cond c (x ∷ filter q xs) (filter q xs)) ≤ suc (length xs)
    by true true k le = let no = k refl in cc
    by true false k le = omega (arith, le)
    by false true k le = omega (arith, le)
    by false false k le = omega (arith, le)

pub count-directed : {X : Type 0} (descending : Bool) (p : X → Bool) (rs : List X) → count_by p (in_direction descending rs) ≡ count_by p rs
count-directed true p rs = sum_by-IsPermutation (λ r. cond (p r) 1 0) rs (reverse rs) (IsPermutation-reverse rs)
count-directed false p rs = refl

pub length-directed : {X : Type 0} (descending : Bool) (rs : List X) → length (in_direction descending rs) ≡ length rs
length-directed true rs = length-reverse rs
length-directed false rs = refl

before_not_within : (range : IdRange) (id : List ℕ) → is_before_start range id ≡ true → is_within range id ≡ false
before_not_within range id h = rw h refl

-- the rows before the range and those of the range are not more than there are
pub counted_within : (range : IdRange) (rs : List IdRow) → count_by (λ r. is_before_start range r.id) rs + length (rows_within range rs) ≤ length rs
counted_within range rs =
    let ds = in_direction range.descending rs in
    let p = λ (r : IdRow). is_before_start range r.id in
    let before = length-filter p ds ∙ count-directed range.descending p rs in
    omega (arith, before, apart p (λ r. is_within range r.id) (λ r. before_not_within range r.id) ds, length-directed range.descending rs)

pub counts_fit : (b : Bool) (counts : Option RowCounts) (offset total : ℕ) → counts ≡ if_counted b (record { offset = offset; total = total }) → offset ≤ total → total < 2 ^ 63
    → IfSome counts (λ c. (c.offset ≤ c.total) × (c.total < 2 ^ 63))
counts_fit b counts offset total is le lt = subst (λ (o : Option RowCounts). IfSome {T = RowCounts} o (λ c. (c.offset ≤ c.total) × (c.total < 2 ^ 63))) (sym is) (by b)
  where
    by : (b : Bool) → IfSome {T = RowCounts} (if_counted b (record { offset = offset; total = total })) (λ c. (c.offset ≤ c.total) × (c.total < 2 ^ 63))
    by true = (le, lt)
    by false = tt

pub counts_below : (n : ℕ) (counts : Option DocumentCounts) → IfSome counts (λ c. (c.documents ≤ n) × (c.deleted ≤ n)) → n < 2 ^ 63
    → IfSome counts (λ c. (c.documents < 2 ^ 63) × (c.deleted < 2 ^ 63))
counts_below n None h lt = tt
counts_below n (Some c) h lt = (omega (arith, h.0, lt), omega (arith, h.1, lt))

pub is_counted : {A : Type 0} (b : Bool) (counts : A) → is_some (if_counted b counts) ≡ b
is_counted true counts = refl
is_counted false counts = refl
