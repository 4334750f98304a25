-- A history whose parents are known, and whose leaves are held, is one that writes made: each revision that is held is the newest of the path of one.
use Rattle.std.proofs.Common.{◌≡◌, ◌≢◌, ◌⊎◌, ◌≤◌, ◌<◌, ◌+◌, ◌&&◌, ◌||◌, ℕ, zero, suc, Bool, true, false, cond, List, [], ◌∷◌, ◌++◌, length, Option, Some, None, Ok, refl, sym, ap, subst, ◌∙◌, arith, inl, inr, eq-eqb}
use Rattle.std.specs.Prelude.{is_some, option_and_then}
use Rattle.std.specs.List.{AllByRecursion, list_any}
use Rattle.std.proofs.lemmas.Bool.Decides.{nat_tests}
use Rattle.std.specs.Cmp.{first_so, second_so}
use Rattle.std.specs.Cmp.Lexicographic.{slice_cmp}
use Rattle.std.specs.FinMap.{find, get, entries, entries_sorted, get-entries, is_sorted, same_map, empty, get-empty}
use Rattle.std.specs.FinMap.Entries.{below_all}
use Rattle.std.specs.Ordering.{eq_by_cmp, is_lt, is_eq, nat_cmp, ordering_reverse, ordering_then}
use Rattle.std.specs.declared.cmp.Ordering.{Ordering}
use Rattle.std.specs.declared.cmp.Ordering.TheVariants.{Less, Equal, Greater}
use Rattle.tree.specs.History.{HistoryContent, IsRooted, agrees, content_of, has_child, held_of, is_head_known, is_known, is_leaf, is_parent_in, keeps_parents, path_from, names, onward, parent_of, path_entries, placement, same_parent, with_write, write_entries}
use Rattle.tree.specs.Revision.{Revision, revision_cmp}
use Rattle.tree.specs.Write.{Write, StandsIn, counts_down, head, held_of_write, is_whole_path, AreLawfulWrites as IsLawfulList}
use Rattle.tree.specs.declared.entry.Entry.{Entry}
use Rattle.tree.specs.declared.entry.Held.{Held}
use Rattle.tree.specs.declared.placement.Placed.TheVariants.{Added}
use Rattle.tree.proofs.Contents.{entry_after_write, entry_kept, one_more_write, write_shows}
use Rattle.tree.proofs.Continued.{added_goes_on}
use Rattle.tree.proofs.Kept.{Node, line_on, revision_cmp_total, true_from_T}
use Rattle.tree.proofs.LawfulContents.{rooted}
use Rattle.tree.proofs.Revisions.{revision_cmp_exact, same, tied}
use Rattle.tree.proofs.Shown.{entry_of_known, inside, right_some, stands_found}
use Rattle.store.specs.Lawful.{IsBody, IsWritten}
use Rattle.file_check.specs.Tables.{HasHeldLeaves}

-- ---- the order of revisions

less : (o : Ordering) → is_lt o ≡ true → o ≡ Less
less Less e = refl
less Equal e = cc
less Greater e = cc

number_first : (o p : Ordering) → ordering_then o p ≡ Less → o ≢ Greater
number_first Less p e g = cc
number_first Equal p e g = cc
number_first Greater p e g = cc

lower_number : (r s : Revision) → r.number < s.number → revision_cmp r s ≡ Less
lower_number r s low =
    let is : nat_cmp r.number s.number ≡ Less = grind (arith, nat_tests, low) in
    ap (λ o. ordering_then o (slice_cmp nat_cmp r.hash s.hash)) is

number_of_less : (r s : Revision) → revision_cmp r s ≡ Less → r.number ≤ s.number
number_of_less r s e =
    let not_above = number_first (nat_cmp r.number s.number) (slice_cmp nat_cmp r.hash s.hash) e in
    grind (arith, nat_tests, not_above)

below_found : (r s : Revision) (es : List Node) (x : Entry) → below_all revision_cmp r es ≡ true → find revision_cmp s es ≡ Some x → revision_cmp r s ≡ Less
below_found r s [] x below found = cc
below_found r s (e ∷ es) x below found = by (below_found r s es x (second_so (is_lt (revision_cmp r e.0)) (below_all revision_cmp r es) below)) (eq_by_cmp revision_cmp s e.0) refl found
  where
    by : (find revision_cmp s es ≡ Some x → revision_cmp r s ≡ Less) → (b : Bool) → eq_by_cmp revision_cmp s e.0 ≡ b → cond b (Some e.1) (find revision_cmp s es) ≡ Some x → revision_cmp r s ≡ Less
    by rest true tie f = ap (revision_cmp r) (same s e.0 tie) ∙ less (revision_cmp r e.0) (first_so (is_lt (revision_cmp r e.0)) (below_all revision_cmp r es) below)
    by rest false tie f = rest f

not_tied : (r s : Revision) → revision_cmp r s ≡ Less → eq_by_cmp revision_cmp s r ≡ false
not_tied r s e = ap is_eq (revision_cmp_total.antisymm s r ∙ ap ordering_reverse e)

below_lower : (s r : Revision) (es : List Node) → s.number < r.number → below_all revision_cmp r es ≡ true → below_all revision_cmp s es ≡ true
below_lower s r [] low below = refl
below_lower s r (e ∷ es) low below =
    let above = less (revision_cmp r e.0) (first_so (is_lt (revision_cmp r e.0)) (below_all revision_cmp r es) below) in
    let lower : s.number < e.0.number = omega (arith, low, number_of_less r e.0 above) in
    rw (lower_number s e.0 lower, below_lower s r es low (second_so (is_lt (revision_cmp r e.0)) (below_all revision_cmp r es) below)) refl

abbrev held_in : Option Entry → Option Held
held_in o = option_and_then (λ (e : Entry). e.held) o

abbrev parent_in : Option Entry → Option Revision
parent_in o = option_and_then (λ (e : Entry). e.parent) o

held_known : (h : HistoryContent) (s : Revision) (d : Held) → held_of h s ≡ Some d → is_known h s ≡ true
held_known h s d e = by (get h s) refl e
  where
    by : (o : Option Entry) → get h s ≡ o → held_in o ≡ Some d → is_known h s ≡ true
    by None g u = absurd cc
    by (Some x) g u = ap is_some g

-- ---- what the path of a known revision says of its revisions

module _ (k : HistoryContent) (root : IsRooted k) (body_of : (s : Revision) (d : Held) → held_of k s ≡ Some d → IsBody d.body) where
  positive : (r : Revision) → is_known k r ≡ true → 1 ≤ r.number
  positive r known = by (parent_of k r) refl
    where
      by : (o : Option Revision) → parent_of k r ≡ o → 1 ≤ r.number
      by None up = omega (arith, root.begins r known up)
      by (Some p) up = omega (arith, root.descends r p up)

  -- what the path of r says of s: that of its newest, or of one before it, of which it holds nothing
  record IsBefore (r s : Revision) (e : Entry) : Type 0 where
    low : s.number < r.number
    known : is_known k s ≡ true
    entry : e ≡ record { parent = parent_of k s; held = None }

  abbrev IsSaid : Revision → Option Held → Revision → Entry → Type 0
  IsSaid r d s e = ((s ≡ r) × (e ≡ record { parent = parent_of k r; held = d })) ⊎ IsBefore r s e

  first_of_line : (n : ℕ) (p : Revision) → is_known k p ≡ true → 1 ≤ n → head (path_from k n p) ≡ Some p
  first_of_line zero p known some = absurd (omega (arith, some))
  first_of_line (suc n) p known some = ap head (line_on k n p known)

  line_says : (n : ℕ) (r : Revision) (d : Option Held) → r.number ≡ n → is_known k r ≡ true → (s : Revision) (e : Entry) → find revision_cmp s (path_entries d (path_from k n r)) ≡ Some e → IsSaid r d s e
  line_says zero r d is known s e found = absurd (omega (arith, is, positive r known))
  line_says (suc n) r d is known s e found =
      up (λ p near there f. line_says n p None near there s e f) (parent_of k r) refl (ap (λ (path : List Revision). find revision_cmp s (path_entries d path)) (sym (line_on k n r known)) ∙ found)
    where
      one : Option Revision → List Revision → Entry
      one o rest = record { parent = head rest; held = d }

      here : (o : Option Revision) (rest : List Revision) → parent_of k r ≡ o → head rest ≡ o → (find revision_cmp s (path_entries None rest) ≡ Some e → IsSaid r d s e)
          → (b : Bool) → eq_by_cmp revision_cmp s r ≡ b → cond b (Some (one o rest)) (find revision_cmp s (path_entries None rest)) ≡ Some e → IsSaid r d s e
      here o rest is_up first later true tie f = inl (same s r tie, sym (inside (one o rest) e f) ∙ ap (λ (p : Option Revision). record { parent = p; held = d }) (first ∙ sym is_up))
      here o rest is_up first later false tie f = later f

      lower : (p : Revision) → parent_of k r ≡ Some p → IsSaid p None s e → IsSaid r d s e
      lower p is_up (inl said) =
          inr (record {
            low = omega (arith, root.descends r p is_up, ap (λ (q : Revision). q.number) said.0);
            known = ap (is_known k) said.0 ∙ root.parents_known r p is_up;
            entry = said.1 ∙ ap (λ (q : Revision). record { parent = parent_of k q; held = None }) (sym said.0);
          })
      lower p is_up (inr before) = inr (record { low = omega (arith, before.low, root.descends r p is_up); known = before.known; entry = before.entry })

      up : ((p : Revision) → p.number ≡ n → is_known k p ≡ true → find revision_cmp s (path_entries None (path_from k n p)) ≡ Some e → IsSaid p None s e)
          → (o : Option Revision) → parent_of k r ≡ o → find revision_cmp s (path_entries d (r ∷ onward (λ p. path_from k n p) o)) ≡ Some e → IsSaid r d s e
      up rest None is_up f = here None [] is_up refl (λ g. absurd cc) (eq_by_cmp revision_cmp s r) refl f
      up rest (Some p) is_up f =
          let near : p.number ≡ n = omega (arith, is, root.descends r p is_up) in
          let there = root.parents_known r p is_up in
          here (Some p) (path_from k n p) is_up (first_of_line n p there (omega (arith, near, positive p there))) (λ g. lower p is_up (rest p near there g)) (eq_by_cmp revision_cmp s r) refl f

  -- the path counts down to 1
  line_counts : (n : ℕ) (r : Revision) → r.number ≡ n → is_known k r ≡ true → (length (path_from k n r) ≡ n) × (counts_down (path_from k n r) ≡ true)
  line_counts zero r is known = absurd (omega (arith, is, positive r known))
  line_counts (suc n) r is known =
      subst (λ (path : List Revision). (length path ≡ suc n) × (counts_down path ≡ true)) (sym (line_on k n r known))
      (by (λ p near there. line_counts n p near there) (parent_of k r) refl)
    where
      by : ((p : Revision) → p.number ≡ n → is_known k p ≡ true → (length (path_from k n p) ≡ n) × (counts_down (path_from k n p) ≡ true))
          → (o : Option Revision) → parent_of k r ≡ o → (length (r ∷ onward (λ p. path_from k n p) o) ≡ suc n) × (counts_down (r ∷ onward (λ p. path_from k n p) o) ≡ true)
      by rest None up =
          let one = root.begins r known up in
          (omega (arith, is, one), ap (λ (b : Bool). b && true) (eq-eqb r.number 1 one))
      by rest (Some p) up =
          let l = rest p (omega (arith, is, root.descends r p up)) (root.parents_known r p up) in
          (omega (arith, l.0), rw (l.0, l.1, eq-eqb r.number (suc n) is) refl)

  -- ---- a history that has part of what is known

  abbrev Keeps : HistoryContent → Type 0
  Keeps h = (s : Revision) → is_known h s ≡ true → get h s ≡ get k s

  same_itself : (o : Option Revision) → same_parent o o ≡ true
  same_itself None = refl
  same_itself (Some p) = tied p p refl

  agrees_with : (h : HistoryContent) → Keeps h → (r : Revision) (o : Option Revision) → parent_of k r ≡ o → agrees (get h r) o ≡ true
  agrees_with h keeps r o up = by (get h r) refl
    where
      by : (g : Option Entry) → get h r ≡ g → agrees g o ≡ true
      by None is = refl
      by (Some e) is =
          let mine : e.parent ≡ o = ap parent_in (sym is ∙ keeps r (ap is_some is)) ∙ up in
          ap (λ (p : Option Revision). same_parent p o) mine ∙ same_itself o

  line_kept : (h : HistoryContent) → Keeps h → (n : ℕ) (r : Revision) → r.number ≡ n → is_known k r ≡ true → keeps_parents h (path_from k n r) ≡ true
  line_kept h keeps zero r is known = refl
  line_kept h keeps (suc n) r is known = ap (keeps_parents h) (line_on k n r known) ∙ by (λ p near there. line_kept h keeps n p near there) (parent_of k r) refl
    where
      by : ((p : Revision) → p.number ≡ n → is_known k p ≡ true → keeps_parents h (path_from k n p) ≡ true) → (o : Option Revision) → parent_of k r ≡ o → keeps_parents h (r ∷ onward (λ p. path_from k n p) o) ≡ true
      by rest None up = rw (agrees_with h keeps r None up) refl
      by rest (Some p) up =
          let near : p.number ≡ n = omega (arith, is, root.descends r p up) in
          let there = root.parents_known r p up in
          let first = first_of_line n p there (omega (arith, near, positive p there)) in
          rw (rest p near there, agrees_with h keeps r (head (path_from k n p)) (up ∙ sym first)) refl

  -- ---- nodes in order

  -- what the nodes say of a revision is known of it
  abbrev IsPart : List Node → Type 0
  IsPart es = (s : Revision) (x : Entry) → find revision_cmp s es ≡ Some x → get k s ≡ Some x

  abbrev AreSorted : List Node → Type 0
  AreSorted es = is_sorted revision_cmp es ≡ true

  part_first : (e : Node) (es : List Node) → IsPart (e ∷ es) → get k e.0 ≡ Some e.1
  part_first e es part = part e.0 e.1 (ap (λ b. cond b (Some e.1) (find revision_cmp e.0 es)) (tied e.0 e.0 refl))

  part_rest : (e : Node) (es : List Node) → AreSorted (e ∷ es) → IsPart (e ∷ es) → IsPart es
  part_rest e es sorted part s x found =
      let under = below_found e.0 s es x (first_so (below_all revision_cmp e.0 es) (is_sorted revision_cmp es) sorted) found in
      part s x (ap (λ b. cond b (Some e.1) (find revision_cmp s es)) (not_tied e.0 s under) ∙ found)

  names_is : (o : Option Revision) (r : Revision) → names o r ≡ true → o ≡ Some r
  names_is None r e = absurd cc
  names_is (Some p) r e = ap Some (same p r e)

  child_in : (es : List Node) (r : Revision) → AreSorted es → IsPart es → is_parent_in es r ≡ true → (c : Revision) × (parent_of k c ≡ Some r)
  child_in [] r sorted part h = absurd cc
  child_in (e ∷ es) r sorted part h =
      by (child_in es r (second_so (below_all revision_cmp e.0 es) (is_sorted revision_cmp es) sorted) (part_rest e es sorted part)) (names e.1.parent r) refl h
    where
      by : (is_parent_in es r ≡ true → (c : Revision) × (parent_of k c ≡ Some r)) → (b : Bool) → names e.1.parent r ≡ b → (b || list_any (λ x. names x.1.parent r) es) ≡ true → (c : Revision) × (parent_of k c ≡ Some r)
      by rest true is h = (e.0, ap parent_in (part_first e es part) ∙ names_is e.1.parent r is)
      by rest false is h = rest h

  all_part : IsPart (entries k)
  all_part s x found = get-entries k s ∙ found

  all_sorted : AreSorted (entries k)
  all_sorted = true_from_T _ (entries_sorted k)

  -- ---- one write after the other

  bodies_more : (ws : List Write) (w : Write) → AllByRecursion (λ v. IsBody v.body) ws → IsBody w.body → AllByRecursion (λ v. IsBody v.body) (ws ++ w ∷ [])
  bodies_more [] w h b = (b, tt)
  bodies_more (v ∷ ws) w h b = (h.0, bodies_more ws w h.1 b)

  -- Writes made this history: it has what is known of each of its revisions, none of which is among the nodes to come, and each revision of which something is held is known or among them.
  record Grown (h : HistoryContent) (es : List Node) : Type 0 where
    ws : List Write
    lawful : IsLawfulList ws
    bodied : AllByRecursion (λ w. IsBody w.body) ws
    is : h ≡ content_of ws
    keeps : Keeps h
    below : (s : Revision) → is_known h s ≡ true → below_all revision_cmp s es ≡ true
    held : (s : Revision) (d : Held) → held_of k s ≡ Some d → (is_known h s ≡ true) ⊎ (find revision_cmp s es ≡ get k s)

  -- a revision of which nothing is held is passed over
  passed : (h : HistoryContent) (e : Node) (es : List Node) → e.1.held ≡ None → get k e.0 ≡ Some e.1 → Grown h (e ∷ es) → Grown h es
  passed h e es none at g = record {
    ws = g.ws;
    lawful = g.lawful;
    bodied = g.bodied;
    is = g.is;
    keeps = g.keeps;
    below = λ s known. second_so (is_lt (revision_cmp s e.0)) (below_all revision_cmp s es) (g.below s known);
    held = λ s d holds. later s d holds (g.held s d holds);
  }
    where
      here : (s : Revision) (d : Held) → held_of k s ≡ Some d → (b : Bool) → eq_by_cmp revision_cmp s e.0 ≡ b → cond b (Some e.1) (find revision_cmp s es) ≡ get k s → (is_known h s ≡ true) ⊎ (find revision_cmp s es ≡ get k s)
      here s d holds true tie f =
          let nothing : held_of k s ≡ None = ap (held_of k) (same s e.0 tie) ∙ ap held_in at ∙ none in
          absurd (let z : None ≡ Some d = sym nothing ∙ holds in cc)
      here s d holds false tie f = inr f

      later : (s : Revision) (d : Held) → held_of k s ≡ Some d → (is_known h s ≡ true) ⊎ (find revision_cmp s (e ∷ es) ≡ get k s) → (is_known h s ≡ true) ⊎ (find revision_cmp s es ≡ get k s)
      later s d holds (inl known) = inl known
      later s d holds (inr f) = here s d holds (eq_by_cmp revision_cmp s e.0) refl f

  module _ (h : HistoryContent) (e : Node) (es : List Node) (d : Held) (some : e.1.held ≡ Some d) (at : get k e.0 ≡ Some e.1) (sorted : AreSorted (e ∷ es)) (g : Grown h (e ∷ es)) where
    abbrev w : Write
    w = record { path = path_from k e.0.number e.0; deleted = d.deleted; body = d.body }

    known_there : is_known k e.0 ≡ true
    known_there = ap is_some at

    not_yet : is_known h e.0 ≡ false
    not_yet = by (is_known h e.0) refl
      where
        by : (b : Bool) → is_known h e.0 ≡ b → b ≡ false
        by true known =
            let under = less (revision_cmp e.0 e.0) (first_so (is_lt (revision_cmp e.0 e.0)) (below_all revision_cmp e.0 es) (g.below e.0 known)) in
            absurd (let z : false ≡ true = sym (not_tied e.0 e.0 under) ∙ tied e.0 e.0 refl in cc)
        by false known = refl

    stands : (n : ℕ) → e.0.number ≡ n → StandsIn (path_from k n e.0) e.0
    stands zero is = absurd (omega (arith, is, positive e.0 known_there))
    stands (suc n) is = subst (λ (path : List Revision). StandsIn path e.0) (sym (line_on k n e.0 known_there)) (inl refl)

    first_unknown : (n : ℕ) → e.0.number ≡ n → is_head_known h (path_from k n e.0) ≡ false
    first_unknown zero is = absurd (omega (arith, is, positive e.0 known_there))
    first_unknown (suc n) is = ap (is_head_known h) (line_on k n e.0 known_there) ∙ not_yet

    whole_line : (n : ℕ) → e.0.number ≡ n → is_whole_path (path_from k n e.0) ≡ true
    whole_line zero is = absurd (omega (arith, is, positive e.0 known_there))
    whole_line (suc n) is =
        ap is_whole_path (line_on k n e.0 known_there) ∙ ap counts_down (sym (line_on k n e.0 known_there)) ∙ (line_counts (suc n) e.0 is known_there).1

    placed : placement h w.path ≡ Ok Added
    placed = rw (whole_line e.0.number refl, line_kept h g.keeps e.0.number e.0 refl known_there, first_unknown e.0.number refl) refl

    after : HistoryContent
    after = with_write h w

    -- what is known then and was not before is said by the path
    new_said : (s : Revision) → is_known h s ≡ false → (x : Entry) → get (with_write h w) s ≡ Some x → IsSaid e.0 (Some d) s x
    new_said s new x is =
        line_says e.0.number e.0 (Some d) refl known_there s x
        (ap (λ (b : Bool). cond b (get h s) (find revision_cmp s (write_entries w))) (sym new) ∙ sym (entry_after_write h w s) ∙ is)

    nothing_held : (s : Revision) → is_known h s ≡ false → s.number < e.0.number → held_of k s ≡ None
    nothing_held s new low = by (held_of k s) refl
      where
        among : (y : Entry) → get k s ≡ Some y → (b : Bool) → eq_by_cmp revision_cmp s e.0 ≡ b → cond b (Some e.1) (find revision_cmp s es) ≡ get k s → ⊥
        among y is true tie f = let z = ap (λ (q : Revision). q.number) (same s e.0 tie) in omega (arith, low, z)
        among y is false tie f =
            let above = below_found e.0 s es y (first_so (below_all revision_cmp e.0 es) (is_sorted revision_cmp es) sorted) (f ∙ is) in
            let n = number_of_less e.0 s above in omega (arith, low, n)

        either : (x : Held) → held_of k s ≡ Some x → (is_known h s ≡ true) ⊎ (find revision_cmp s (e ∷ es) ≡ get k s) → ⊥
        either x is (inl known) = let z : true ≡ false = sym known ∙ new in cc
        either x is (inr f) = let y = entry_of_known k s (held_known k s x is) in among y.0 y.1 (eq_by_cmp revision_cmp s e.0) refl f

        by : (o : Option Held) → held_of k s ≡ o → o ≡ None
        by None is = refl
        by (Some x) is = absurd (either x is (g.held s x is))

    kept_new : (s : Revision) (x : Entry) → is_known h s ≡ false → IsSaid e.0 (Some d) s x → Some x ≡ get k s
    kept_new s x new (inl said) =
        let parent : parent_of k e.0 ≡ e.1.parent = ap parent_in at in
        let whole : x ≡ e.1 = said.1 ∙ (λ i. record { parent = parent i; held = sym some i }) in
        ap Some whole ∙ sym at ∙ ap (get k) (sym said.0)
    kept_new s x new (inr before) =
        let y = entry_of_known k s before.known in
        let parent : parent_of k s ≡ y.0.parent = ap parent_in y.1 in
        let held : None ≡ y.0.held = sym (nothing_held s new before.low) ∙ ap held_in y.1 in
        ap Some (before.entry ∙ (λ i. record { parent = parent i; held = held i })) ∙ sym y.1

    after_below : (s : Revision) (x : Entry) → IsSaid e.0 (Some d) s x → below_all revision_cmp s es ≡ true
    after_below s x (inl said) = ap (λ r. below_all revision_cmp r es) said.0 ∙ first_so (below_all revision_cmp e.0 es) (is_sorted revision_cmp es) sorted
    after_below s x (inr before) = below_lower s e.0 es before.low (first_so (below_all revision_cmp e.0 es) (is_sorted revision_cmp es) sorted)

    written : Grown (with_write h w) es
    written = record {
      ws = g.ws ++ w ∷ [];
      lawful = added_goes_on g.ws w g.lawful (ap (λ (c : HistoryContent). placement c w.path) (sym g.is) ∙ placed);
      bodied = bodies_more g.ws w g.bodied (body_of e.0 d (ap held_in at ∙ some));
      is = ap (λ (c : HistoryContent). with_write c w) g.is ∙ sym (one_more_write g.ws w);
      keeps = λ s known. kept s known (is_known h s) refl;
      below = λ s known. under s known (is_known h s) refl;
      held = λ s x holds. holding s (g.held s x holds);
    }
      where
        kept : (s : Revision) → is_known (with_write h w) s ≡ true → (b : Bool) → is_known h s ≡ b → get (with_write h w) s ≡ get k s
        kept s known true was = entry_kept h w s was ∙ g.keeps s was
        kept s known false was = let x = entry_of_known (with_write h w) s known in x.1 ∙ kept_new s x.0 was (new_said s was x.0 x.1)

        under : (s : Revision) → is_known (with_write h w) s ≡ true → (b : Bool) → is_known h s ≡ b → below_all revision_cmp s es ≡ true
        under s known true was = second_so (is_lt (revision_cmp s e.0)) (below_all revision_cmp s es) (g.below s was)
        under s known false was = let x = entry_of_known (with_write h w) s known in after_below s x.0 (new_said s was x.0 x.1)

        here : (s : Revision) → (b : Bool) → eq_by_cmp revision_cmp s e.0 ≡ b → cond b (Some e.1) (find revision_cmp s es) ≡ get k s → (is_known (with_write h w) s ≡ true) ⊎ (find revision_cmp s es ≡ get k s)
        here s true tie f =
            let there = ap is_some (write_shows h w e.0) ∙ right_some (get h e.0) (find revision_cmp e.0 (write_entries w)) (stands_found w.path (Some (held_of_write w)) e.0 (stands e.0.number refl)) in
            inl (ap (is_known (with_write h w)) (same s e.0 tie) ∙ there)
        here s false tie f = inr f

        holding : (s : Revision) → (is_known h s ≡ true) ⊎ (find revision_cmp s (e ∷ es) ≡ get k s) → (is_known (with_write h w) s ≡ true) ⊎ (find revision_cmp s es ≡ get k s)
        holding s (inl known) = inl (ap is_some (entry_kept h w s known) ∙ known)
        holding s (inr f) = here s (eq_by_cmp revision_cmp s e.0) refl f

  -- all revisions of which something is held are written, one after the other
  all_written : (es : List Node) (h : HistoryContent) → AreSorted es → IsPart es → Grown h es → (made : HistoryContent) × Grown made []
  all_written [] h sorted part g = (h, g)
  all_written (e ∷ es) h sorted part g =
      by (λ made. all_written es made (second_so (below_all revision_cmp e.0 es) (is_sorted revision_cmp es) sorted) (part_rest e es sorted part)) e.1.held refl
    where
      by : ((made : HistoryContent) → Grown made es → (last : HistoryContent) × Grown last []) → (o : Option Held) → e.1.held ≡ o → (last : HistoryContent) × Grown last []
      by rest None is = rest h (passed h e es is (part_first e es part) g)
      by rest (Some d) is =
          let path : Write = record { path = path_from k e.0.number e.0; deleted = d.deleted; body = d.body } in
          rest (with_write h path) (written h e es d is (part_first e es part) sorted g)

  none_known : (s : Revision) → is_known empty s ≡ true → ⊥
  none_known s known = let z : false ≡ true = ap is_some (sym (get-empty {X = Entry} revision_cmp s)) ∙ known in cc

  begun : Grown empty (entries k)
  begun = record {
    ws = [];
    lawful = record { whole = tt; heads_new = λ before after w r e. absurd (no_middle before after w e); one_parent = λ r p q h. absurd h };
    bodied = tt;
    is = refl;
    keeps = λ s known. absurd (none_known s known);
    below = λ s known. absurd (none_known s known);
    held = λ s d holds. inr (sym (get-entries k s));
  }
    where
      no_middle : (before after : List Write) (w : Write) → before ++ w ∷ after ≡ [] → ⊥
      no_middle [] after w e = cc
      no_middle (v ∷ before) after w e = cc

  -- ---- and these are all that is known

  total : List Node → ℕ
  total [] = 0
  total (e ∷ es) = e.0.number + total es

  found_low : (es : List Node) (s : Revision) (x : Entry) → find revision_cmp s es ≡ Some x → s.number ≤ total es
  unfolding total
  found_low [] s x found = absurd cc
  found_low (e ∷ es) s x found = by (found_low es s x) (eq_by_cmp revision_cmp s e.0) refl found
    where
      by : (find revision_cmp s es ≡ Some x → s.number ≤ total es) → (b : Bool) → eq_by_cmp revision_cmp s e.0 ≡ b → cond b (Some e.1) (find revision_cmp s es) ≡ Some x → s.number ≤ e.0.number + total es
      by rest true tie f = omega (arith, ap (λ (q : Revision). q.number) (same s e.0 tie))
      by rest false tie f = omega (arith, rest f)

  parent_known : (c s : Revision) → parent_of k c ≡ Some s → is_known k c ≡ true
  parent_known c s up = by (get k c) refl up
    where
      by : (o : Option Entry) → get k c ≡ o → parent_in o ≡ Some s → is_known k c ≡ true
      by None g u = absurd cc
      by (Some x) g u = ap is_some g

  module _ (leaves : HasHeldLeaves k) (h : HistoryContent) (g : Grown h []) where
    goes_up : (c s : Revision) → parent_of k c ≡ Some s → is_known h c ≡ true → is_known h s ≡ true
    goes_up c s up known =
        let root : IsRooted h = subst IsRooted (sym g.is) (rooted g.ws g.lawful) in
        root.parents_known c s (ap parent_in (g.keeps c known) ∙ up)

    reached : (n : ℕ) (s : Revision) → is_known k s ≡ true → total (entries k) < s.number + n → is_known h s ≡ true
    reached zero s known over =
        let x = entry_of_known k s known in
        let low = found_low (entries k) s x.0 (sym (get-entries k s) ∙ x.1) in
        absurd (omega (arith, over, low))
    reached (suc n) s known over = by (λ c there near. reached n c there near) (held_of k s) refl
      where
        leafless : held_of k s ≡ None → has_child k s ≡ false → ⊥
        leafless none childless =
            let leaf : is_leaf k s ≡ true = rw (known, childless) refl in
            let z : false ≡ true = ap is_some (sym none) ∙ leaves s leaf in cc

        child : ((c : Revision) → is_known k c ≡ true → total (entries k) < c.number + n → is_known h c ≡ true) → held_of k s ≡ None → (b : Bool) → has_child k s ≡ b → is_known h s ≡ true
        child rest none true is =
            let c = child_in (entries k) s all_sorted all_part is in
            goes_up c.0 s c.1 (rest c.0 (parent_known c.0 s c.1) (omega (arith, over, root.descends c.0 s c.1)))
        child rest none false is = absurd (leafless none is)

        there : (d : Held) → held_of k s ≡ Some d → (is_known h s ≡ true) ⊎ (find revision_cmp s [] ≡ get k s) → is_known h s ≡ true
        there d is (inl known_in) = known_in
        there d is (inr f) = absurd (let z : false ≡ true = ap is_some f ∙ known in cc)

        by : ((c : Revision) → is_known k c ≡ true → total (entries k) < c.number + n → is_known h c ≡ true) → (o : Option Held) → held_of k s ≡ o → is_known h s ≡ true
        by rest None is = child rest is (has_child k s) refl
        by rest (Some d) is = there d is (g.held s d is)

    all_known : (s : Revision) → is_known k s ≡ true → is_known h s ≡ true
    all_known s known = reached (suc (total (entries k))) s known (omega (arith))

    same_content : h ≡ k
    same_content = same_map revision_cmp_total revision_cmp_exact h k (λ s. by s (is_known h s) refl)
      where
        neither : (s : Revision) → is_known h s ≡ false → (o : Option Entry) → get h s ≡ o → (p : Option Entry) → get k s ≡ p → o ≡ p
        neither s new None g_h None g_k = refl
        neither s new None g_h (Some y) g_k = absurd (let z : false ≡ true = sym new ∙ all_known s (ap is_some g_k) in cc)
        neither s new (Some x) g_h p g_k = absurd (let z : false ≡ true = sym new ∙ ap is_some g_h in cc)

        by : (s : Revision) → (b : Bool) → is_known h s ≡ b → get h s ≡ get k s
        by s true known = g.keeps s known
        by s false new = neither s new (get h s) refl (get k s) refl

    split : (w : Write) (ws : List Write) → (before : List Write) × (last : Write) × (before ++ last ∷ [] ≡ w ∷ ws)
    split w [] = ([], w, refl)
    split w (v ∷ ws) = let rest = split v ws in (w ∷ rest.0, rest.1, (λ i. w ∷ rest.2 i))

    made_by : (s : Revision) → is_known k s ≡ true → (ws : List Write) → g.ws ≡ ws → IsWritten k
    made_by s known [] is = absurd (none_known s (ap (λ (c : HistoryContent). is_known c s) (sym (g.is ∙ ap content_of is)) ∙ all_known s known))
    made_by s known (w ∷ ws) is =
        let parts = split w ws in
        let all : g.ws ≡ parts.0 ++ parts.1 ∷ [] = is ∙ sym parts.2 in
        record {
          before = parts.0;
          last = parts.1;
          lawful = subst IsLawfulList all g.lawful;
          bodies = subst (AllByRecursion (λ v. IsBody v.body)) all g.bodied;
          content = sym same_content ∙ g.is ∙ ap content_of all;
        }

  -- a history of which a revision is known was written
  pub is_written : HasHeldLeaves k → (s : Revision) → is_known k s ≡ true → IsWritten k
  is_written leaves s known =
      let all = all_written (entries k) empty all_sorted all_part begun in
      made_by leaves all.0 all.1 s known all.1.ws refl
