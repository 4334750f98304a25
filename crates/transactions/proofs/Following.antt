-- A revision that follows the winner and is not deleted is the winner then, and such a write asks for no more of a history than its winner.
use Rattle.transactions.proofs.Common.{Addition, Bool, Entry, Err, HasBest, HistoryContent, IsTrue, List, None, Ok, Option, Revision, Some, [], option_map, ap, arith, ancestors_of_parent, cond, entries_before, entries_of, eq_by_cmp, false, head, inl, inr, is_known, length, not, refl, revision_cmp, revision_cmp_total, subst, suc, sym, text_of, true, unknown_in, with_addition, with_entries, ℕ, ◌++◌, ◌<◌, ◌∙◌, ◌∷◌, ◌≡◌, ◌≢◌}
use Rattle.std.proofs.lemmas.Bool.{and_parts, false≢true}
use Rattle.std.proofs.lemmas.Bool.Decides.{nat_tests}
use Rattle.std.proofs.Common.{zero}
use Rattle.std.specs.Cmp.{nat_cmp_is, tied_itself}
use Rattle.std.specs.Cmp.Lexicographic.{slice_cmp}
use Rattle.std.specs.FinMap as finite
use Rattle.std.specs.Ordering.{nat_cmp, ordering_reverse, ordering_then}
use Rattle.std.specs.Prelude.{MatchOption, is_some, ◌==◌, option_and_then, ◌⊎◌}
use Rattle.std.specs.declared.cmp.Ordering.TheVariants.{Less, Equal, Greater}
use Rattle.tree.proofs.Behind.{behind_known, with_followed}
use Rattle.tree.proofs.Contents.{get-with_new, or}
use Rattle.tree.proofs.Leaves.{leaf_is_childless, winner_is_best}
use Rattle.tree.proofs.Revisions.{same, tied}
use Rattle.tree.proofs.Shown.{inside}
use Rattle.tree.specs.History.{IsBetter, held_of, is_deleted, is_leaf, keeps_parents, path_from, onward, parent_of, placement, with_new, winner}
use Rattle.tree.specs.Outline.{marked_revision}
use Rattle.tree.specs.Write.{is_whole_path}
use Rattle.tree.specs.declared.marked_rev.MarkedRev.{MarkedRev}
use Rattle.tree.specs.declared.placement.Placed.TheVariants.{Added, Known}
use Rattle.tree.specs.declared.placement.TreeFault.TheVariants.{BadPath, OtherParent}
use Rattle.tree.specs.declared.entry.Held.{Held}
use Rattle.transactions.specs.inner.Following.{AreParentsKnown, HasPlaceFor, IsFollower, Serves}

none_of : {X : Type 0} (o : Option X) → is_some o ≡ false → o ≡ None
none_of None is = refl
none_of (Some x) is = cc

or_left : {X : Type 0} (o p : Option X) → is_some o ≡ true → or o p ≡ o
or_left None p is = cc
or_left (Some x) p is = refl

apart_not : true ≡ false → ⊥
apart_not e = cc

-- ---- one revision more

module _ (h : HistoryContent) (v : Revision) (e : Entry) (new : is_known h v ≡ false) where
  abbrev more : HistoryContent
  more = with_new h v e

  at_own : finite.get more v ≡ Some e
  at_own =
      get-with_new h v e v
      ∙ ap (λ o. or o (cond (eq_by_cmp revision_cmp v v) (Some e) None)) (none_of (finite.get h v) new)
      ∙ ap (λ b. cond b (Some e) None) (tied v v refl)

  at_known : (r : Revision) → is_known h r ≡ true → finite.get more r ≡ finite.get h r
  at_known r known = get-with_new h v e r ∙ or_left (finite.get h r) _ known

  known_in : (r : Revision) → is_known more r ≡ true → (r ≡ v) ⊎ (is_known h r ≡ true)
  known_in r known = by (finite.get h r) (eq_by_cmp revision_cmp r v) refl refl (ap is_some (sym (get-with_new h v e r)) ∙ known)
    where
      by : (o : Option Entry) (b : Bool) → finite.get h r ≡ o → eq_by_cmp revision_cmp r v ≡ b → is_some (or o (cond b (Some e) None)) ≡ true → (r ≡ v) ⊎ (is_known h r ≡ true)
      by (Some x) b is t k = inr (ap is_some is)
      by None true is t k = inl (same r v t)
      by None false is t k = absurd (false≢true k)

  child_in : (s q : Revision) → parent_of more s ≡ Some q → (parent_of h s ≡ Some q) ⊎ ((s ≡ v) × (e.parent ≡ Some q))
  child_in s q up = by (finite.get h s) (eq_by_cmp revision_cmp s v) refl refl (ap (option_and_then (λ (x : Entry). x.parent)) (sym (get-with_new h v e s)) ∙ up)
    where
      by : (o : Option Entry) (b : Bool) → finite.get h s ≡ o → eq_by_cmp revision_cmp s v ≡ b → option_and_then (λ (x : Entry). x.parent) (or o (cond b (Some e) None)) ≡ Some q → (parent_of h s ≡ Some q) ⊎ ((s ≡ v) × (e.parent ≡ Some q))
      by (Some x) b is t up = inl (ap (option_and_then (λ (x : Entry). x.parent)) is ∙ up)
      by None true is t up = inr (same s v t, up)
      by None false is t up = absurd (cc)

  parent_kept : (s : Revision) → (q : Revision) → parent_of h s ≡ Some q → parent_of more s ≡ Some q
  parent_kept s q up = by (finite.get h s) refl up
    where
      by : (o : Option Entry) → finite.get h s ≡ o → option_and_then (λ (x : Entry). x.parent) o ≡ Some q → parent_of more s ≡ Some q
      by None is up = absurd (cc)
      by (Some x) is up = ap (option_and_then (λ (x : Entry). x.parent)) (at_known s (ap is_some is) ∙ is) ∙ up

  -- it is a leaf, where its parent is another and is known with all others
  new_leaf : AreParentsKnown h → ((q : Revision) → e.parent ≡ Some q → is_known h q ≡ true) → is_leaf more v ≡ true
  new_leaf parents own = (leaf_is_childless more v).1 (ap is_some at_own, childless)
    where
      unknown : is_known h v ≡ true → ⊥
      unknown k = false≢true (sym new ∙ k)

      childless : (s : Revision) → parent_of more s ≢ Some v
      childless s up = elim (child_in s v up) as (λ _. ⊥) [
        | inl old ↦ unknown (parents s v old)
        | inr it ↦ unknown (own v it.1)
      ]

-- ---- a revision that follows the winner

module _ (h : HistoryContent) (w : Revision) (wins : winner h ≡ Some w) where
  best : (is_leaf h w ≡ true) × ((s : Revision) → IsTrue (is_leaf h s) → (s ≡ w) ⊎ IsBetter h w s)
  best = subst (λ o. MatchOption o ((r : Revision) → IsTrue (is_leaf h r) → ⊥) (λ r. IsTrue (is_leaf h r) × ((s : Revision) → IsTrue (is_leaf h s) → (s ≡ r) ⊎ IsBetter h r s))) wins (winner_is_best h)

  pub winner_known : is_known h w ≡ true
  winner_known = ((leaf_is_childless h w).0 best.0).0

  module _ (v : Revision) (d : Held) (new : is_known h v ≡ false) (parents : AreParentsKnown h) where
    abbrev child : Entry
    child = record { parent = Some w; held = Some d }

    leads : is_leaf (with_new h v child) v ≡ true
    leads = new_leaf h v child new parents (λ q is. subst (λ r. is_known h r ≡ true) (inside w q is) winner_known)

    pub child_held : held_of (with_new h v child) v ≡ Some d
    child_held = ap (option_and_then (λ (x : Entry). x.held)) (at_own h v child new)

    pub child_wins : revision_cmp v w ≡ Greater → d.deleted ≡ false → winner (with_new h v child) ≡ Some v
    child_wins above live = go (winner (with_new h v child)) refl (winner_is_best (with_new h v child))
      where
        k : HistoryContent
        k = with_new h v child

        own_mark : is_deleted (held_of k v) ≡ false
        own_mark = ap is_deleted child_held ∙ live

        still_leaf : (x : Revision) → is_leaf k x ≡ true → is_known h x ≡ true → is_leaf h x ≡ true
        still_leaf x leaf known = (leaf_is_childless h x).1 (known, λ s up. ((leaf_is_childless k x).0 leaf).1 s (parent_kept h v child new s x up))

        below : (x : Revision) → revision_cmp w x ≡ Greater → revision_cmp x v ≡ Greater → ⊥
        below x one two =
            let first : revision_cmp x w ≡ Less = revision_cmp_total.antisymm x w ∙ ap ordering_reverse one in
            let second : revision_cmp w v ≡ Less = revision_cmp_total.antisymm w v ∙ ap ordering_reverse above in
            let both : Less ≡ Greater = sym (revision_cmp_total.trans x w v first second) ∙ two in
            absurd (cc)

        old_better : (x : Revision) → is_leaf k x ≡ true → is_known h x ≡ true → is_deleted (held_of k x) ≡ false → revision_cmp x v ≡ Greater → ⊥
        old_better x leaf known mark over = elim (best.1 x (still_leaf x leaf known)) as (λ _. ⊥) [
          | inl it ↦ ((leaf_is_childless k x).0 leaf).1 v (ap (option_and_then (λ (y : Entry). y.parent)) (at_own h v child new) ∙ ap Some (sym it))
          | inr b ↦ elim b as (λ _. ⊥) [
            | inl c ↦ false≢true (sym (ap (λ (o : Option Entry). is_deleted (option_and_then (λ (y : Entry). y.held) o)) (sym (at_known h v child new x known)) ∙ mark) ∙ c.1)
            | inr c ↦ below x c.1 over
          ]
        ]

        no_better : (x : Revision) → is_leaf k x ≡ true → IsBetter k x v → ⊥
        no_better x leaf (inl b) = false≢true (sym own_mark ∙ b.1)
        no_better x leaf (inr b) = elim (known_in h v child new x ((leaf_is_childless k x).0 leaf).0) as (λ _. ⊥) [
          | inl it ↦ let e : Equal ≡ Greater = sym (tied_itself revision_cmp_total v) ∙ ap (λ r. revision_cmp r v) (sym it) ∙ b.1 in absurd (cc)
          | inr known ↦ old_better x leaf known (b.0 ∙ own_mark) b.1
        ]

        go : (o : Option Revision) → winner k ≡ o → MatchOption o ((r : Revision) → IsTrue (is_leaf k r) → ⊥) (λ r. IsTrue (is_leaf k r) × ((s : Revision) → IsTrue (is_leaf k s) → (s ≡ r) ⊎ IsBetter k r s)) → winner k ≡ Some v
        go None is none = absurd (none v leads)
        go (Some x) is some = elim (some.1 v leads) as (λ _. winner k ≡ Some v) [
          | inl it ↦ is ∙ ap Some (sym it)
          | inr better ↦ absurd (no_better x some.0 better)
        ]

    pub has_winner_then : is_some (winner (with_new h v child)) ≡ true
    has_winner_then = go (winner (with_new h v child)) (winner_is_best (with_new h v child))
      where
        go : (o : Option Revision) → MatchOption o ((r : Revision) → IsTrue (is_leaf (with_new h v child) r) → ⊥) (λ r. IsTrue (is_leaf (with_new h v child) r) × ((s : Revision) → IsTrue (is_leaf (with_new h v child) s) → (s ≡ r) ⊎ IsBetter (with_new h v child) r s)) → is_some o ≡ true
        go None none = absurd (none v leads)
        go (Some x) some = refl

-- ---- one revision alone

module _ (w : Revision) where
  abbrev only : Entry
  only = record { parent = None; held = None }

  abbrev nothing : HistoryContent
  nothing = finite.empty

  abbrev pub single : HistoryContent
  single = with_new nothing w only

  unknown : (r : Revision) → is_known nothing r ≡ false
  unknown r = ap is_some (finite.get-empty revision_cmp r)

  no_parents : AreParentsKnown nothing
  no_parents r p up = absurd (none (sym (ap (option_and_then (λ (x : Entry). x.parent)) (finite.get-empty revision_cmp r)) ∙ up))
    where
      none : ◌≡◌ {A = Option Revision} None (Some p) → ⊥
      none e = cc

  pub single_wins : winner single ≡ Some w
  single_wins = go (winner single) refl (winner_is_best single)
    where
      leaf : is_leaf single w ≡ true
      leaf = new_leaf nothing w only (unknown w) no_parents (λ q is. absurd (cc))

      go : (o : Option Revision) → winner single ≡ o → MatchOption o ((r : Revision) → IsTrue (is_leaf single r) → ⊥) (λ r. IsTrue (is_leaf single r) × ((s : Revision) → IsTrue (is_leaf single s) → (s ≡ r) ⊎ IsBetter single r s)) → winner single ≡ Some w
      go None is none = absurd (none w leaf)
      go (Some x) is some = elim (known_in nothing w only (unknown w) x ((leaf_is_childless single x).0 some.0).0) as (λ _. winner single ≡ Some w) [
        | inl it ↦ is ∙ ap Some it
        | inr known ↦ absurd (false≢true (sym (unknown x) ∙ known))
      ]

  pub single_parents : AreParentsKnown single
  single_parents r p up = elim (child_in nothing w only (unknown w) r p up) as (λ _. is_known single p ≡ true) [
    | inl old ↦ absurd (false≢true (sym (unknown p) ∙ no_parents r p old))
    | inr it ↦ absurd (none it.1)
  ]
    where
      none : ◌≡◌ {A = Option Revision} None (Some p) → ⊥
      none e = cc

  pub single_unknown : (v : Revision) → (v ≡ w → ⊥) → is_known single v ≡ false
  single_unknown v apart = by (is_known single v) refl
    where
      by : (b : Bool) → is_known single v ≡ b → is_known single v ≡ false
      by false is = is
      by true is = elim (known_in nothing w only (unknown w) v is) as (λ _. is_known single v ≡ false) [
        | inl it ↦ absurd (apart it)
        | inr known ↦ absurd (false≢true (sym (unknown v) ∙ known))
      ]

-- ---- what a write that follows the winner asks

head_line : (h : HistoryContent) (w : Revision) (n : ℕ) → 0 < n → is_known h w ≡ true → head (path_from h n w) ≡ Some w
head_line h w zero lt known = absurd (omega (arith, lt))
head_line h w (suc n) lt known = ap (λ b. head (cond b (w ∷ onward (λ p. path_from h n p) (parent_of h w)) [])) known

module _ (a : Addition) (w : Revision) (f : IsFollower a w) (positive : 0 < w.number) where
  abbrev held : Held
  held = record { deleted = a.deleted; body = a.body }

  abbrev entry : Entry
  entry = record { parent = Some w; held = Some held }

  module _ (h : HistoryContent) (known : is_known h w ≡ true) where
    follows_it : head (ancestors_of_parent h a.parent) ≡ Some w
    follows_it = ap (λ o. head (ancestors_of_parent h o)) f.follows ∙ head_line h w w.number positive known

    one_entry : entries_of h a ≡ (f.newest, entry) ∷ []
    one_entry = λ i. entries_before (Some held) (f.alone i) (follows_it i)

    one_more : with_addition h a ≡ with_new h f.newest entry
    one_more = with_followed h (Some held) a.path (ancestors_of_parent h a.parent) (behind_known h a.parent) ∙ ap (with_entries h) one_entry

    one_new : is_known h f.newest ≡ false → unknown_in h (entries_of h a) ≡ (f.newest, entry) ∷ []
    one_new new = ap (unknown_in h) one_entry ∙ ap (λ b. cond (not b) ((f.newest, entry) ∷ []) []) new

  -- the history has a place for it, so it is new, and its number is one more
  fits : (a b c : Bool) → cond (not a) (Err BadPath) (cond (not b) (Err OtherParent) (cond c (Ok Known) (Ok Added))) ≡ Ok Added → (a ≡ true) × (c ≡ false)
  fits true true true is = absurd (cc)
  fits true true false is = (refl, refl)
  fits true false c is = absurd (cc)
  fits false b c is = absurd (cc)

  module _ (h : HistoryContent) (wins : winner h ≡ Some w) (parents : AreParentsKnown h) (place : HasPlaceFor h a) where
    there : is_known h w ≡ true
    there = winner_known h w wins

    path_is : a.path ++ ancestors_of_parent h a.parent ≡ f.newest ∷ ancestors_of_parent h (Some w)
    path_is = λ i. f.alone i ++ ancestors_of_parent h (f.follows i)

    fitted : (is_whole_path (f.newest ∷ ancestors_of_parent h (Some w)) ≡ true) × (is_known h f.newest ≡ false)
    fitted = fits (is_whole_path (f.newest ∷ ancestors_of_parent h (Some w))) (keeps_parents h (f.newest ∷ ancestors_of_parent h (Some w))) (is_known h f.newest) (ap (placement h) (sym path_is) ∙ place)

    counts : (n : ℕ) → w.number ≡ n → is_whole_path (f.newest ∷ path_from h n w) ≡ true → w.number < f.newest.number
    counts zero is whole = absurd (omega (arith, is, positive))
    counts (suc n) is whole =
        let tail = onward (λ p. path_from h n p) (parent_of h w) in
        let cut : path_from h (suc n) w ≡ w ∷ tail = ap (λ b. cond b (w ∷ tail) []) there in
        let all : is_whole_path (f.newest ∷ w ∷ tail) ≡ true = ap (λ l. is_whole_path (f.newest ∷ l)) (sym cut) ∙ whole in
        let one = and_parts (f.newest.number == suc (suc (length tail))) _ all in
        let two = and_parts (w.number == suc (length tail)) _ one.1 in
        grind (arith, nat_tests)

    above : revision_cmp f.newest w ≡ Greater
    above = ap (λ o. ordering_then o (slice_cmp nat_cmp f.newest.hash w.hash)) (sym (nat_cmp_is f.newest.number w.number Greater (counts w.number refl fitted.0)))

    apart : f.newest ≡ w → ⊥
    apart it = let e : Equal ≡ Greater = sym (tied_itself revision_cmp_total w) ∙ ap (λ r. revision_cmp r w) (sym it) ∙ above in absurd (cc)

    new_there : is_known (single w) f.newest ≡ false
    new_there = single_unknown w f.newest apart

    known_there : is_known (single w) w ≡ true
    known_there = winner_known (single w) w (single_wins w)

    wins_then : winner (with_addition h a) ≡ Some f.newest
    wins_then = ap winner (one_more h there) ∙ child_wins h w wins f.newest held fitted.1 parents above f.live

    wins_there : winner (with_addition (single w) a) ≡ Some f.newest
    wins_there = ap winner (one_more (single w) known_there) ∙ child_wins (single w) w (single_wins w) f.newest held new_there (single_parents w) above f.live

    held_same : held_of (with_addition (single w) a) f.newest ≡ held_of (with_addition h a) f.newest
    held_same =
        ap (λ (k : HistoryContent). held_of k f.newest) (one_more (single w) known_there) ∙ child_held (single w) w (single_wins w) f.newest held new_there (single_parents w)
        ∙ sym (ap (λ (k : HistoryContent). held_of k f.newest) (one_more h there) ∙ child_held h w wins f.newest held fitted.1 parents)

    pub winner_serves : Serves a h (single w)
    winner_serves = record {
      news = one_new (single w) known_there new_there ∙ sym (one_new h there fitted.1);
      best = λ text deleted b.
          let it : b.best ≡ f.newest = inside b.best f.newest (sym b.best_is ∙ wins_there) in
          record {
            best = f.newest;
            best_is = wins_then;
            text_is = b.text_is ∙ ap text_of it;
            deleted_is = b.deleted_is ∙ ap (λ r. is_deleted (held_of (with_addition (single w) a) r)) it ∙ ap is_deleted held_same;
          };
      begins = ap is_some (single_wins w) ∙ sym (ap is_some wins);
    }

  pub single_has_best : HasBest (with_addition (single w) a)
  single_has_best =
      ap (λ (k : HistoryContent). is_some (winner k)) (one_more (single w) (winner_known (single w) w (single_wins w))) ∙ by (is_known (single w) f.newest) refl
    where
      by : (b : Bool) → is_known (single w) f.newest ≡ b → is_some (winner (with_new (single w) f.newest entry)) ≡ true
      by true known = ap (λ b. is_some (winner (cond b (single w) (finite.insert (single w) f.newest entry)))) known ∙ ap is_some (single_wins w)
      by false new = has_winner_then (single w) w (single_wins w) f.newest held new (single_parents w)

pub serves_itself : (a : Addition) (h : HistoryContent) → Serves a h h
serves_itself a h = record { news = refl; best = λ text deleted b. b; begins = refl }

-- ---- what the code is told

pub one_there : {A : Type 0} (xs : List A) → length xs ≡ 1 → (x : A) × (xs ≡ x ∷ [])
one_there [] is = absurd (cc)
one_there (x ∷ []) is = (x, refl)
one_there (x ∷ y ∷ xs) is = absurd (omega (arith, is))

pub marked_is : (h : HistoryContent) (o : Option Revision) (m : MarkedRev) → Some m ≡ option_map (marked_revision h) o → o ≡ Some m.rev
marked_is h None m is = absurd (cc)
marked_is h (Some r) m is = ap (λ (n : MarkedRev). Some n.rev) (sym (inside m (marked_revision h r) is))
