-- A document with as many known revisions as the number of one of them: they are its path, and it is the only leaf.
use Rattle.tables.proofs.Common.{AllByRecursion, IsWellFormed, IsPermutation, IsRevisionRow, Row, Text, Trees, all_map, all_weaker, and_parts, column, count_in_cell, db_of, entry_of, history_in_rows, inside, is_row_of_document, length-map, map, parent_cell, parent_in, revision_cmp_total, revision_of_row, revs_tree, shown_hash, slice_get, ℤ, ◌-◌}
use Rattle.tables.proofs.Tables.{of_these}
use Rattle.tables.specs.Shown.{revision_shown}
use Rattle.std.specs.FinMap as finite
use Rattle.std.proofs.lemmas.List.Sorted.{length_permutation}
use Rattle.sqlite_trees.proofs.ListLemmas.{all-permutation}
use Rattle.std.proofs.Common.{arith, ◌≡◌, ◌∙◌, inl, inr, ℕ, zero, suc, ◌<◌, ◌≤◌, Bool, true, false, cond, not, List, [], ◌∷◌, length, Option, Some, None, refl, sym, ap, subst}
use Rattle.std.specs.Prelude.{IsTrue, filter, ◌==◌, is_some, nat_le, option_and_then}
use Rattle.std.proofs.lemmas.Bool.Decides.{nat_tests}
use Rattle.std.specs.Ordering.{eq_by_cmp}
use Rattle.std.specs.FinMap.{get}
use Rattle.tree.specs.Revision.{Revision, revision_cmp}
use Rattle.tree.specs.Write.{StandsIn}
use Rattle.tree.specs.History.{AreBestFirst, HistoryContent, IsBetter, IsRooted, is_known, is_leaf, leaves, parent_of}
use Rattle.tree.specs.declared.entry.Entry.{Entry}
use Rattle.tree.proofs.Revisions.{same, tied}
use Rattle.tree.proofs.Leaves.{best_first, better_not_itself, leaf_is_childless, leaves_are}

-- ---- lists of revisions, by their numbers

-- one of these has this number
abbrev Has : List Revision → ℕ → Type 0
Has rs k = (r : Revision) × StandsIn rs r × (r.number ≡ k)

-- each number from 1 to n is had
abbrev HasAll : List Revision → ℕ → Type 0
HasAll rs n = (k : ℕ) → 1 ≤ k → k ≤ n → Has rs k

stays : (p : Revision → Bool) (rs : List Revision) (r : Revision) → StandsIn rs r → p r ≡ true → StandsIn (filter p rs) r
stays p [] r h t = absurd h
stays p (s ∷ rs) r (inl is) t = subst (λ b. StandsIn (cond b (s ∷ filter p rs) (filter p rs)) r) (sym (ap p is ∙ t)) (inl is)
stays p (s ∷ rs) r (inr h) t = elim (p s) as (λ b. StandsIn (cond b (s ∷ filter p rs) (filter p rs)) r) [ true ↦ inr (stays p rs r h t) | false ↦ stays p rs r h t ]

no_longer : (p : Revision → Bool) (rs : List Revision) → length (filter p rs) ≤ length rs
no_longer p [] = omega arith
no_longer p (s ∷ rs) =
    elim (p s) as (λ b. length (cond b (s ∷ filter p rs) (filter p rs)) ≤ suc (length rs)) [ true ↦ omega (arith, no_longer p rs) | false ↦ omega (arith, no_longer p rs) ]

shorter : (p : Revision → Bool) (rs : List Revision) (r : Revision) → StandsIn rs r → p r ≡ false → length (filter p rs) < length rs
shorter p [] r h t = absurd h
shorter p (s ∷ rs) r (inl is) t = subst (λ b. length (cond b (s ∷ filter p rs) (filter p rs)) < suc (length rs)) (sym (ap p is ∙ t)) (omega (arith, no_longer p rs))
shorter p (s ∷ rs) r (inr h) t =
    elim (p s) as (λ b. length (cond b (s ∷ filter p rs) (filter p rs)) < suc (length rs)) [ true ↦ omega (arith, shorter p rs r h t) | false ↦ omega (arith, shorter p rs r h t) ]

-- so many numbers take as many revisions
covers : (n : ℕ) (rs : List Revision) → HasAll rs n → n ≤ length rs
covers zero rs all = omega arith
covers (suc n) rs all =
    let top = all (suc n) (omega arith) (omega arith) in
    let fewer = shorter (λ (r : Revision). not (r.number == suc n)) rs top.0 top.1 (rw (top.2) (is_own (suc n))) in
    let rest = covers n (filter (λ (r : Revision). not (r.number == suc n)) rs) (λ k one most. kept k one most (all k one (omega (arith, most)))) in
    omega (arith, fewer, rest)
  where
    is_own : (m : ℕ) → not (m == m) ≡ false
    is_own m = grind (arith)

    is_other : (k : ℕ) → k ≤ n → not (k == suc n) ≡ true
    is_other k most = grind (arith)

    kept : (k : ℕ) → 1 ≤ k → k ≤ n → Has rs k → Has (filter (λ (r : Revision). not (r.number == suc n)) rs) k
    kept k one most (r, h, is) = (r, stays (λ (s : Revision). not (s.number == suc n)) rs r h (rw (is) (is_other k most)), is)

-- where there are no more of them than numbers, each number is that of one
alone : (n : ℕ) (rs : List Revision) → HasAll rs n → length rs ≡ n → (r s : Revision) → StandsIn rs r → StandsIn rs s → r.number ≡ s.number → r ≡ s
alone n rs all many r s at_r at_s tie = by (eq_by_cmp revision_cmp r s) refl
  where
    other : Revision → Bool
    other q = not (eq_by_cmp revision_cmp r q)

    by : (b : Bool) → eq_by_cmp revision_cmp r s ≡ b → r ≡ s
    by true e = same r s e
    by false e =
        let fewer = shorter other rs r at_r (ap not (tied r r refl)) in
        let rest = covers n (filter other rs) (λ k one most. kept k (all k one most)) in
        absurd (omega (arith, fewer, rest, many))
      where
        kept : (k : ℕ) → Has rs k → Has (filter other rs) k
        kept k (q, h, is) = go (eq_by_cmp revision_cmp r q) refl
          where
            go : (b : Bool) → eq_by_cmp revision_cmp r q ≡ b → Has (filter other rs) k
            go true t = (s, stays other rs s at_s (ap not e), sym tie ∙ ap (λ (x : Revision). x.number) (same r q t) ∙ is)
            go false t = (q, stays other rs q h (ap not t), is)

-- ---- a history, by the list of its revisions

-- what is in a list is known, and what is known is in it
abbrev pub AreKnown : HistoryContent → List Revision → Type 0
AreKnown h rs = (r : Revision) → (StandsIn rs r → is_known h r ≡ true) × (is_known h r ≡ true → StandsIn rs r)

parent_known : (h : HistoryContent) (s r : Revision) → parent_of h s ≡ Some r → is_known h s ≡ true
parent_known h s r up = by (get h s) refl up
  where
    by : (o : Option Entry) → get h s ≡ o → option_and_then (λ (e : Entry). e.parent) o ≡ Some r → is_known h s ≡ true
    by None g u = cc
    by (Some e) g u = ap is_some g

module _ (h : HistoryContent) (rs : List Revision) (are : AreKnown h rs) (rooted : IsRooted h) where
  positive : (r : Revision) → is_known h r ≡ true → 1 ≤ r.number
  positive r known = by (parent_of h r) refl
    where
      by : (o : Option Revision) → parent_of h r ≡ o → 1 ≤ r.number
      by None up = omega (arith, rooted.begins r known up)
      by (Some p) up = omega (arith, rooted.descends r p up)

  -- the path of a known revision has each number up to its own
  path_has : (m : ℕ) (r : Revision) → is_known h r ≡ true → r.number ≡ m → HasAll rs m
  path_has zero r known number k one most = absurd (omega (arith, one, most))
  path_has (suc m) r known number k one most =
      from (λ p up less. path_has m p (rooted.parents_known r p up) (omega (arith, rooted.descends r p up, number)) k one less) (nat_le k m) refl (parent_of h r) refl
    where
      from : ((p : Revision) → parent_of h r ≡ Some p → k ≤ m → Has rs k) → (b : Bool) → nat_le k m ≡ b → (o : Option Revision) → parent_of h r ≡ o → Has rs k
      from onward true less None up = absurd (grind (arith, nat_tests, one, less, rooted.begins r known up, number))
      from onward true less (Some p) up = onward p up (grind (arith, nat_tests, less))
      from onward false more o up = (r, (are r).1 known, grind (arith, nat_tests, number, more, most))

  module _ (r : Revision) (known : is_known h r ≡ true) (many : length rs ≡ r.number) where
    no_greater : (s : Revision) → is_known h s ≡ true → s.number ≤ r.number
    no_greater s k = omega (arith, covers s.number rs (path_has s.number s k refl), many)

    one_each : (s t : Revision) → is_known h s ≡ true → is_known h t ≡ true → s.number ≡ t.number → s ≡ t
    one_each s t a b tie = alone r.number rs (path_has r.number r known refl) many s t ((are s).1 a) ((are t).1 b) tie

    is_leaf_here : IsTrue (is_leaf h r)
    is_leaf_here = (leaf_is_childless h r).1 (known, λ s up. absurd (omega (arith, no_greater s (parent_known h s r up), rooted.descends s r up)))

    only_leaf : (s : Revision) → IsTrue (is_leaf h s) → s ≡ r
    only_leaf s leaf = by (nat_le r.number s.number) refl
      where
        here : is_known h s ≡ true
        here = ((leaf_is_childless h s).0 leaf).0

        -- the revision of the next number follows it
        child : Has rs (suc s.number) → s ≡ r
        child (c, at, is) = go (parent_of h c) refl
          where
            go : (o : Option Revision) → parent_of h c ≡ o → s ≡ r
            go None up = absurd (omega (arith, rooted.begins c ((are c).0 at) up, is, positive s here))
            go (Some p) up =
                absurd (((leaf_is_childless h s).0 leaf).1 c (up ∙ ap Some (one_each p s (rooted.parents_known c p up) here (omega (arith, rooted.descends c p up, is)))))

        by : (b : Bool) → nat_le r.number s.number ≡ b → s ≡ r
        by true e = one_each s r here known (grind (arith, nat_tests, e, no_greater s here))
        by false e = child (path_has r.number r known refl (suc s.number) (omega arith) (grind (arith, nat_tests, e)))

    pub only_leaves : leaves h ≡ r ∷ []
    only_leaves = by (leaves h) refl
      where
        at : (s : Revision) → StandsIn (leaves h) s → s ≡ r
        at s i = only_leaf s ((leaves_are h s).0 i)

        by : (xs : List Revision) → leaves h ≡ xs → xs ≡ r ∷ []
        by [] e = absurd (subst (λ (xs : List Revision). StandsIn xs r) e ((leaves_are h r).1 is_leaf_here))
        by (x ∷ []) e = ap (λ (y : Revision). y ∷ []) (at x (subst (λ (xs : List Revision). StandsIn xs x) (sym e) (inl refl)))
        by (x ∷ y ∷ ys) e =
            let first = at x (subst (λ (xs : List Revision). StandsIn xs x) (sym e) (inl refl)) in
            let second = at y (subst (λ (xs : List Revision). StandsIn xs y) (sym e) (inr (inl refl))) in
            let ordered : AreBestFirst h (x ∷ y ∷ ys) = subst (AreBestFirst h) e (best_first h) in
            absurd (better_not_itself h r (subst (λ (z : Revision). IsBetter h r z) second (subst (λ (z : Revision). IsBetter h z y) first ordered.0.0)))

-- ---- the rows of a document

abbrev known_entry : Row → Revision × Entry
known_entry r = (revision_of_row r, entry_of r)

-- what is found at a revision is what one of its rows says
pub record IsAt (rows : List Row) (holds : Row → Type 0) (q : Revision) (e : Entry) : Type 0 where
  pub row : Row
  pub so : holds row
  pub named : revision_of_row row ≡ q
  pub said : entry_of row ≡ e
  pub among : StandsIn (map revision_of_row rows) q

found_at : (holds : Row → Type 0) (rows : List Row) → AllByRecursion holds rows → (q : Revision) (e : Entry) → finite.find revision_cmp q (map known_entry rows) ≡ Some e → IsAt rows holds q e
found_at holds [] all q e found = absurd (cc)
found_at holds (r ∷ rows) all q e found = by (eq_by_cmp revision_cmp q (revision_of_row r)) refl found (found_at holds rows all.1 q e)
  where
    by : (b : Bool) → eq_by_cmp revision_cmp q (revision_of_row r) ≡ b → cond b (Some (entry_of r)) (finite.find revision_cmp q (map known_entry rows)) ≡ Some e
        → (finite.find revision_cmp q (map known_entry rows) ≡ Some e → IsAt rows holds q e) → IsAt (r ∷ rows) holds q e
    by true t f rest = record { row = r; so = all.0; named = sym (same q (revision_of_row r) t); said = inside _ e f; among = inl (sym (same q (revision_of_row r) t)) }
    by false t f rest = let at = rest f in record { row = at.row; so = at.so; named = at.named; said = at.said; among = inr at.among }

stands_found : (rows : List Row) (q : Revision) → StandsIn (map revision_of_row rows) q → is_some (finite.find revision_cmp q (map known_entry rows)) ≡ true
stands_found [] q at = absurd at
stands_found (r ∷ rows) q (inl is) = ap (λ (b : Bool). is_some (cond b (Some (entry_of r)) (finite.find revision_cmp q (map known_entry rows)))) (tied q (revision_of_row r) (sym is))
stands_found (r ∷ rows) q (inr at) =
    elim (eq_by_cmp revision_cmp q (revision_of_row r)) as (λ b. is_some (cond b (Some (entry_of r)) (finite.find revision_cmp q (map known_entry rows))) ≡ true) [ true ↦ refl | false ↦ stands_found rows q at ]

both_passing : (P : Row → Type 0) (p : Row → Bool) (rows : List Row) → AllByRecursion P rows → AllByRecursion (λ r. P r × (p r ≡ true)) (filter p rows)
both_passing P p [] all = tt
both_passing P p (r ∷ rows) all =
    elim (p r) as (λ b. p r ≡ b → AllByRecursion (λ s. P s × (p s ≡ true)) (cond b (r ∷ filter p rows) (filter p rows))) [
      | true ↦ λ t. ((all.0, t), both_passing P p rows all.1)
      | false ↦ λ t. both_passing P p rows all.1
    ] refl

named_in : (rows : List Row) → AllByRecursion (λ r. StandsIn (map revision_of_row rows) (revision_of_row r)) rows
named_in [] = tt
named_in (r ∷ rows) = (inl refl, all_weaker (λ s. StandsIn (map revision_of_row rows) (revision_of_row s)) (λ s. StandsIn (map revision_of_row (r ∷ rows)) (revision_of_row s)) (λ s k. inr k) rows (named_in rows))

one_at : (P : Row → Type 0) (rows : List Row) (i : ℕ) (s : Row) → AllByRecursion P rows → slice_get rows i ≡ Some s → P s
one_at P [] i s all is = absurd (cc)
one_at P (r ∷ rows) zero s all is = subst P (inside r s is) all.0
one_at P (r ∷ rows) (suc i) s all is = one_at P rows i s all.1 is

module _ (trees : Trees) (laid : IsWellFormed trees) (db : ℤ) (id : List ℕ) where
  abbrev own_rows : List Row
  own_rows = filter (is_row_of_document db id) (trees revs_tree)

  abbrev history : HistoryContent
  history = history_in_rows (trees revs_tree) db id

  kept : (q : Revision) → get history q ≡ finite.find revision_cmp q (map known_entry own_rows)
  kept q = finite.get-from_entries revision_cmp_total (map known_entry own_rows) q

  abbrev Holds : Row → Type 0
  Holds r = IsRevisionRow trees r × (is_row_of_document db id r ≡ true)

  row_at : (q : Revision) (e : Entry) → get history q ≡ Some e → IsAt own_rows Holds q e
  row_at q e got = found_at Holds own_rows (both_passing (IsRevisionRow trees) (is_row_of_document db id) (trees revs_tree) laid.revs) q e (sym (kept q) ∙ got)

  are_known : AreKnown history (map revision_of_row own_rows)
  are_known q = (λ at. ap is_some (kept q) ∙ stands_found own_rows q at, λ known. by (get history q) refl known)
    where
      by : (o : Option Entry) → get history q ≡ o → is_some o ≡ true → StandsIn (map revision_of_row own_rows) q
      by None got known = absurd (cc)
      by (Some e) got known = (row_at q e got).among

  -- a row's parent
  record HasParent (q : Revision) (o : Option Revision) : Type 0 where
    row : Row
    so : Holds row
    named : revision_of_row row ≡ q
    parent : (entry_of row).parent ≡ o

  parent_at : (q : Revision) (o : Option Revision) → is_known history q ≡ true → parent_of history q ≡ o → HasParent q o
  parent_at q o known up = by (get history q) refl known up
    where
      by : (g : Option Entry) → get history q ≡ g → is_some g ≡ true → option_and_then (λ (e : Entry). e.parent) g ≡ o → HasParent q o
      by None got known up = absurd (cc)
      by (Some e) got known up = let at = row_at q e got in record { row = at.row; so = at.so; named = at.named; parent = ap (λ (x : Entry). x.parent) at.said ∙ up }

  is_rooted : IsRooted history
  is_rooted = record {
    parents_known = λ q p up.
        let at = parent_at q (Some p) (parent_known history q p up) up in
        let own = of_these db id at.row at.so.1 in
        subst (λ (n : ℤ). is_known (history_in_rows (trees revs_tree) n id) p ≡ true) own.0
        (subst (λ (k : List ℕ). is_known (history_in_rows (trees revs_tree) (db_of at.row) k) p ≡ true) own.1 (at.so.0.follows p at.parent));
    descends = λ q p up.
        let at = parent_at q (Some p) (parent_known history q p up) up in
        let cell : column at.row 5 ≡ Text p.hash = ap (λ x. column x 5) at.so.0.is ∙ ap parent_cell at.parent in
        let number = ap (λ (x : Revision). x.number) (sym (inside _ p (sym (ap (parent_in (count_in_cell (column at.row 3))) cell) ∙ at.parent))) in
        let least = (and_parts _ _ (and_parts _ _ at.so.0.lawful).0).0 in
        less_one q.number p.number (ap (λ (x : Revision). x.number) (sym at.named)) number least;
    begins = λ q known up.
        let at = parent_at q None known up in
        ap (λ (x : Revision). x.number) (sym at.named) ∙ at.so.0.first.0 at.parent;
  }
    where
      less_one : (n m : ℕ) {k : ℕ} → n ≡ k → m ≡ k - 1 → nat_le 1 k ≡ true → n ≡ suc m
      less_one n m is below least = grind (arith, nat_tests, is, below, least)

  -- a row shown for the document, with the number of all that are shown
  pub single_shown : (shown : List Row) (i : ℕ) (s : Row) → IsPermutation (map shown_hash own_rows) shown → slice_get shown i ≡ Some s → (revision_shown s).number ≡ length shown
      → leaves history ≡ revision_shown s ∷ []
  single_shown shown i s permuted at many =
      let among = one_at (λ t. StandsIn (map revision_of_row own_rows) (revision_shown t)) shown i s
      (all-permutation (λ t. StandsIn (map revision_of_row own_rows) (revision_shown t)) (map shown_hash own_rows) shown permuted (all_map (λ t. StandsIn (map revision_of_row own_rows) (revision_shown t)) shown_hash own_rows (named_in own_rows))) at in
      let all : length (map revision_of_row own_rows) ≡ (revision_shown s).number = length-map own_rows revision_of_row ∙ sym (length-map own_rows shown_hash) ∙ sym (length_permutation _ _ permuted) ∙ sym many in
      only_leaves history (map revision_of_row own_rows) are_known is_rooted (revision_shown s) ((are_known (revision_shown s)).0 among) all
