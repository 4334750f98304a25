-- Rows that ascend, taken page by page, are the rows.
use Rattle.std.proofs.Common.{◌≡◌, ℕ, zero, suc, ◌-◌, ◌<◌, ◌≤◌, List, [], ◌∷◌, ◌++◌, AllPairs, Bool, true, false, cond, length, map, min, nat_lt, take, drop, Option, Some, None, refl, sym, ap, ◌∙◌, subst, arith, append_assoc}
use Rattle.std.proofs.lemmas.Bool.Decides.{nat_tests}
use Rattle.std.proofs.lemmas.List.{map-append, take-append-drop}
use Rattle.std.proofs.Math.Seq.{take-nil}
use Rattle.std.specs.Prelude.{⊤, codes, pos}
use Rattle.std.specs.FinMap.{entries}
use Rattle.couch_json.specs.Value.{whole, array, object, no_members, member}
use Rattle.couch_json.specs.View.{items_of}
use Rattle.store.specs.Database.{Database}
use Rattle.store.specs.Pages.{SequenceRow, in_sequence, last_sequence, rows_of, up_to_limit}
use Rattle.store.proofs.RowOrders.{page_ascends}
use Rattle.read.specs.Changes.{change_object}
use Rattle.read.specs.inner.ChangesSoFar.{whole_changes, later_than, left_after, page_size, rows_to_come}
use Rattle.read.specs.declared.change_pages.ChangesSoFar.{ChangesSoFar}

abbrev Rises : ℕ → List SequenceRow → Type 0
Rises s [] = ⊤
Rises s (r ∷ rs) = (s < r.sequence) × Rises r.sequence rs

-- ---- tests

less : (a b : ℕ) → nat_lt a b ≡ true → a < b
less a b h = grind (arith, nat_tests, h)

not_above : (a b : ℕ) → nat_lt a b ≡ false → b ≤ a
not_above a b h = grind (arith, nat_tests, h)

is_less : (a b : ℕ) → a < b → nat_lt a b ≡ true
is_less a b h = grind (arith, nat_tests, h)

is_not_less : (a b : ℕ) → b ≤ a → nat_lt a b ≡ false
is_not_less a b h = grind (arith, nat_tests, h)

-- ---- rows after a sequence rise

abbrev AreAbove : ℕ → List SequenceRow → Type 0
AreAbove s [] = ⊤
AreAbove s (r ∷ rs) = (s < r.sequence) × AreAbove s rs

are_above : (s : ℕ) (rows : List SequenceRow) → AreAbove s (later_than s rows)
are_above s [] = tt
are_above s (x ∷ xs) =
    elim (nat_lt s x.sequence) as (λ t. nat_lt s x.sequence ≡ t → AreAbove s (cond t (x ∷ later_than s xs) (later_than s xs))) [
      | true ↦ λ is. (less s x.sequence is, are_above s xs)
      | false ↦ λ is. are_above s xs
    ] refl

rises_on : (x : SequenceRow) (xs : List SequenceRow) → AllPairs (λ (a b : SequenceRow). a.sequence < b.sequence) (x ∷ xs) → Rises x.sequence xs
rises_on x [] h = tt
rises_on x (y ∷ ys) h = (h 0 1 x (omega arith) (omega arith), rises_on y ys (λ i j d lt within. h (suc i) (suc j) d (omega (arith, lt)) (omega (arith, within))))

rises_by : (s : ℕ) (rows : List SequenceRow) → AreAbove s rows → AllPairs (λ (a b : SequenceRow). a.sequence < b.sequence) rows → Rises s rows
rises_by s [] above h = tt
rises_by s (x ∷ xs) above h = (above.0, rises_on x xs h)

abbrev pub all_rows : Bool → Database → List SequenceRow
all_rows leaves d = in_sequence (rows_of leaves (entries d.documents))

rises : (leaves : Bool) (d : Database) (s : ℕ) → Rises s (later_than s (all_rows leaves d))
rises leaves d s =
    rises_by s _ (are_above s (all_rows leaves d)) (page_ascends (record { since = s; limit = None; all_leaves = leaves; counted = false }) d)

-- ---- a page of rows that rise

keep : (s t : ℕ) (rows : List SequenceRow) → Rises t rows → s ≤ t → later_than s rows ≡ rows
keep s t [] h le = refl
keep s t (x ∷ xs) h le =
    ap (λ b. cond b (x ∷ later_than s xs) (later_than s xs)) (is_less s x.sequence (omega (arith, h.0, le)))
    ∙ ap (λ ys. x ∷ ys) (keep s x.sequence xs h.1 (omega (arith, h.0, le)))

onward : (t n : ℕ) (rows : List SequenceRow) → Rises t rows → t ≤ last_sequence t (take n rows)
onward t zero rows h = omega arith
onward t (suc n) [] h = omega arith
onward t (suc n) (y ∷ ys) h = omega (arith, h.0, onward y.sequence n ys h.1)

-- what lies after the last row of a page is what comes behind the page
dropped : (s n : ℕ) (rows : List SequenceRow) → Rises s rows → later_than (last_sequence s (take n rows)) rows ≡ drop n rows
dropped s zero rows h = keep s s rows h (omega arith)
dropped s (suc n) [] h = refl
dropped s (suc n) (y ∷ ys) h =
    let e = last_sequence y.sequence (take n ys) in
    ap (λ b. cond b (y ∷ later_than e ys) (later_than e ys)) (is_not_less e y.sequence (onward y.sequence n ys h.1)) ∙ dropped y.sequence n ys h.1

again : (s e : ℕ) (rows : List SequenceRow) → s ≤ e → later_than e (later_than s rows) ≡ later_than e rows
again s e [] le = refl
again s e (x ∷ xs) le =
    elim (nat_lt s x.sequence) as (λ t. nat_lt s x.sequence ≡ t → later_than e (cond t (x ∷ later_than s xs) (later_than s xs)) ≡ cond (nat_lt e x.sequence) (x ∷ later_than e xs) (later_than e xs)) [
      | true ↦ λ is. ap (λ ys. cond (nat_lt e x.sequence) (x ∷ ys) ys) (again s e xs le)
      | false ↦ λ is. again s e xs le ∙ sym (ap (λ b. cond b (x ∷ later_than e xs) (later_than e xs)) (is_not_less e x.sequence (omega (arith, not_above s x.sequence is, le))))
    ] refl

pub take_parts : {X : Type 0} (l k : ℕ) (rows : List X) → k ≤ l → take l rows ≡ take k rows ++ take (l - length (take k rows)) (drop k rows)
take_parts l zero rows le = ap (λ n. take n rows) (omega arith)
take_parts l (suc k) [] le = take-nil l ∙ sym (take-nil (l - 0))
take_parts zero (suc k) (y ∷ ys) le = absurd (omega (arith, le))
take_parts (suc l) (suc k) (y ∷ ys) le =
    ap (λ rs. y ∷ rs) (take_parts l k ys (omega (arith, le))) ∙ ap (λ n. y ∷ (take k ys ++ take n (drop k ys))) (omega arith)

parts : (left : Option ℕ) (rows : List SequenceRow) → up_to_limit left rows ≡ take (page_size left) rows ++ up_to_limit (left_after left (length (take (page_size left) rows))) (drop (page_size left) rows)
parts None rows = sym (take-append-drop 1000 rows)
parts (Some l) rows = take_parts l (min l 1000) rows (omega arith)

-- ---- the last of them

-- of rows that have a last one above, it is the same whatever comes before
real_last : (s o p : ℕ) (rows : List SequenceRow) → o ≤ s → s < last_sequence o rows → last_sequence p rows ≡ last_sequence o rows
real_last s o p [] le lt = absurd (omega (arith, le, lt))
real_last s o p (r ∷ rs) le lt = refl

last_joined : (o : ℕ) (rows more : List SequenceRow) → last_sequence o (rows ++ more) ≡ last_sequence (last_sequence o rows) more
last_joined o [] more = refl
last_joined o (r ∷ rs) more = last_joined r.sequence rs more

-- one more page was listed
pub advanced : (leaves : Bool) (before after : ChangesSoFar) (rows : List SequenceRow) (last : ℕ) (d : Database)
    → rows ≡ take (page_size before.left) (later_than before.since (all_rows leaves d)) → last ≡ last_sequence (min before.since d.length) rows → before.since < last
    → after.results ≡ before.results ++ map change_object rows → after.since ≡ last → after.last ≡ last → after.left ≡ left_after before.left (length rows)
    → whole_changes after (rows_to_come leaves after d) ≡ whole_changes before (rows_to_come leaves before d)
advanced leaves before after rows last d are is up results since end left =
    let s = before.since in
    let all = all_rows leaves d in
    let later = later_than s all in
    let k = page_size before.left in
    let h : Rises s later = rises leaves d s in
    let low : min s d.length ≤ s = omega arith in
    let up_it : s < last_sequence (min s d.length) rows = subst (λ n. s < n) is up in
    let at : last ≡ last_sequence s (take k later) = is ∙ sym (real_last s (min s d.length) s rows low up_it) ∙ ap (last_sequence s) are in
    let behind : later_than last all ≡ drop k later =
    ap (λ n. later_than n all) at ∙ sym (again s (last_sequence s (take k later)) all (onward s k later h)) ∙ dropped s k later h in
    let come = up_to_limit (left_after before.left (length rows)) (drop k later) in
    let coming : rows_to_come leaves after d ≡ come = (λ i. up_to_limit (left i) (later_than (since i) all)) ∙ ap (up_to_limit (left_after before.left (length rows))) behind in
    let whole_rows : rows_to_come leaves before d ≡ rows ++ come = parts before.left later ∙ (λ i. sym are i ++ up_to_limit (left_after before.left (length (sym are i))) (drop k later)) in
    let lasts : last_sequence after.last come ≡ last_sequence before.last (rows ++ come) =
    ap (λ n. last_sequence n come) (end ∙ is ∙ sym (real_last s (min s d.length) before.last rows low up_it)) ∙ sym (last_joined before.last rows come) in
    let listed : after.results ++ map change_object come ≡ before.results ++ map change_object (rows ++ come) =
    ap (λ vs. vs ++ map change_object come) results ∙ append_assoc before.results (map change_object rows) (map change_object come)
    ∙ ap (λ vs. before.results ++ vs) (sym (map-append change_object rows come)) in
    ap (whole_changes after) coming
    ∙ (λ i. object (member (codes "last_seq") (whole (pos (lasts i))) (member (codes "results") (array (items_of (listed i))) no_members)))
    ∙ sym (ap (whole_changes before) whole_rows)

-- ---- the end

above_last : (s o n : ℕ) (y : SequenceRow) (ys : List SequenceRow) → Rises s (y ∷ ys) → s < last_sequence o (take (suc n) (y ∷ ys))
above_last s o n y ys h = omega (arith, h.0, onward y.sequence n ys h.1)

nothing_left : (s o k : ℕ) (rows : List SequenceRow) → Rises s rows → 0 < k → last_sequence o (take k rows) ≤ s → rows ≡ []
nothing_left s o k [] h some le = refl
nothing_left s o zero (y ∷ ys) h some le = absurd (omega (arith, some))
nothing_left s o (suc n) (y ∷ ys) h some le = absurd (omega (arith, le, above_last s o n y ys h))

none_come : (left : Option ℕ) (s o : ℕ) (rows : List SequenceRow) → Rises s rows → last_sequence o (take (page_size left) rows) ≤ s → up_to_limit left rows ≡ []
none_come None s o rows h le = nothing_left s o 1000 rows h (omega arith) le
none_come (Some zero) s o rows h le = refl
none_come (Some (suc l)) s o rows h le =
    ap (take (suc l)) (nothing_left s o (min (suc l) 1000) rows h (omega arith) le)

-- no more rows come behind a page that leads no further
pub ended : (leaves : Bool) (before : ChangesSoFar) (rows : List SequenceRow) (last : ℕ) (d : Database)
    → rows ≡ take (page_size before.left) (later_than before.since (all_rows leaves d)) → last ≡ last_sequence (min before.since d.length) rows → last ≤ before.since
    → rows_to_come leaves before d ≡ []
ended leaves before rows last d are is le =
    none_come before.left before.since (min before.since d.length) (later_than before.since (all_rows leaves d)) (rises leaves d before.since)
    (subst (λ n. n ≤ before.since) (is ∙ ap (last_sequence (min before.since d.length)) are) le)
