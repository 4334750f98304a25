-- Histories that agree and know each other's leaves know the same, and so have the same leaves.
use Rattle.std.proofs.Common.{◌≡◌, ◌+◌, ◌≤◌, ℕ, zero, suc, Bool, true, false, List, [], ◌∷◌, length, Option, Some, None, eqb-true, refl, sym, ap, ◌∙◌, arith, inl, inr}
use Rattle.std.specs.Prelude.{IsTrue, is_some, option_and_then}
use Rattle.std.specs.FinMap.{get}
use Rattle.std.proofs.lemmas.Bool.{false≢true}
use Rattle.tree.specs.History.{HistoryContent, IsRooted, LooksAlike, content_of, held_of, is_deleted, is_known, is_leaf, leaves, parent_of}
use Rattle.tree.specs.Revision.{Revision}
use Rattle.tree.specs.Write.{AreWhole, IsKnown, AreLawfulWrites, StandsIn, Write, counts_down}
use Rattle.tree.specs.declared.entry.Entry.{Entry}
use Rattle.tree.specs.declared.entry.Held.{Held}
use Rattle.tree.proofs.LawfulContents.{rooted}
use Rattle.tree.proofs.Leaves.{leaf_alike, leaf_is_childless, leaf_is_held, leaves_same, winner_same}
use Rattle.tree.proofs.RevisionText.{parts}
use Rattle.tree.proofs.Shown.{is_known_writes, whole_counts}
use Rattle.replication.specs.Agreement.{Agrees, HaveSameTree, LeavesAreKnown}

-- ---- truth values

pub both_true : (a b : Bool) → (a ≡ true → b ≡ true) → (b ≡ true → a ≡ true) → a ≡ b
both_true true b there back = sym (there refl)
both_true false true there back = back refl
both_true false false there back = refl

-- ---- numbers are bounded

low_in_path : (path : List Revision) (s : Revision) → counts_down path ≡ true → StandsIn path s → s.number ≤ length path
low_in_path [] s w i = absurd i
low_in_path (r ∷ path) s w (inl e) = let n : r.number ≡ suc (length path) = eqb-true r.number (suc (length path)) (parts _ _ w).0 in omega (arith, n, ap (λ (x : Revision). x.number) e)
low_in_path (r ∷ path) s w (inr i) = omega (arith, low_in_path path s (parts _ _ w).1 i)

-- the lengths of all paths
abbrev total : List Write → ℕ
total [] = 0
total (w ∷ ws) = length w.path + total ws

low : (ws : List Write) (r : Revision) → AreWhole ws → IsKnown ws r → r.number ≤ total ws
low [] r whole k = absurd k
low (w ∷ ws) r whole (inl i) = omega (arith, low_in_path w.path r (whole_counts w.path whole.0) i)
low (w ∷ ws) r whole (inr k) = omega (arith, low ws r whole.1 k)

-- ---- what has a parent is known

pub child_known : (h : HistoryContent) (s p : Revision) → parent_of h s ≡ Some p → is_known h s ≡ true
child_known h s p up = by (get h s) refl up
  where
    by : (o : Option Entry) → get h s ≡ o → option_and_then (λ (e : Entry). e.parent) o ≡ Some p → is_known h s ≡ true
    by None g u = absurd cc
    by (Some e) g u = ap is_some g

pub unknown_parent : (h : HistoryContent) (r : Revision) → is_known h r ≡ false → parent_of h r ≡ None
unknown_parent h r new = by (get h r) refl
  where
    by : (o : Option Entry) → get h r ≡ o → option_and_then (λ (e : Entry). e.parent) o ≡ None
    by None g = refl
    by (Some e) g = absurd (false≢true (sym new ∙ ap is_some g))

-- ---- down from the leaves

-- a parent in the one of a revision that both know is known in the other
pub parent_known : (h k : HistoryContent) → Agrees h k → IsRooted k → (s r : Revision) → parent_of h s ≡ Some r → is_known k s ≡ true → is_known k r ≡ true
parent_known h k agrees root s r up known = root.parents_known s r (sym (agrees.parents s (child_known h s r up) known) ∙ up)

-- n levels below the top: where the leaves are known, what lies behind them is
reached : (h k : HistoryContent) (top n : ℕ) → IsRooted h → IsRooted k → Agrees h k → LeavesAreKnown h k → ((s : Revision) → is_known h s ≡ true → s.number ≤ top)
    → (r : Revision) → top ≤ r.number + n → is_known h r ≡ true → is_known k r ≡ true
reached h k top zero root_h root_k agrees leaves few r le known =
    leaves r ((leaf_is_childless h r).1 (known, λ s up. omega (arith, le, root_h.descends s r up, few s (child_known h s r up))))
reached h k top (suc n) root_h root_k agrees leaves few r le known =
    by (λ s near is. reached h k top n root_h root_k agrees leaves few s near is) (is_known k r) refl
  where
    by : ((s : Revision) → top ≤ s.number + n → is_known h s ≡ true → is_known k s ≡ true) → (b : Bool) → is_known k r ≡ b → is_known k r ≡ true
    by above true is = is
    by above false is =
        leaves r ((leaf_is_childless h r).1 (
          known,
          λ s up.
              false≢true (sym is ∙ parent_known h k agrees root_k s r up (above s (omega (arith, le, root_h.descends s r up)) (child_known h s r up))),
        ))

pub all_reached : (ws : List Write) (k : HistoryContent) → AreLawfulWrites ws → IsRooted k → Agrees (content_of ws) k → LeavesAreKnown (content_of ws) k
    → (r : Revision) → is_known (content_of ws) r ≡ true → is_known k r ≡ true
all_reached ws k lawful root agrees leaves r known =
    reached (content_of ws) k (total ws) (total ws) (rooted ws lawful) root agrees leaves
    (λ s is. low ws s lawful.whole ((is_known_writes ws s).0 is)) r (omega arith) known

-- ---- the other way round

pub agrees_back : (h k : HistoryContent) → Agrees h k → Agrees k h
agrees_back h k a = record { parents = λ r known is. sym (a.parents r is known); held = λ r d e x y. sym (a.held r e d y x) }

-- ---- the same is known

same_parents : (h k : HistoryContent) → Agrees h k → ((r : Revision) → is_known h r ≡ is_known k r) → (r : Revision) → parent_of h r ≡ parent_of k r
same_parents h k agrees same r = by (is_known h r) refl
  where
    by : (b : Bool) → is_known h r ≡ b → parent_of h r ≡ parent_of k r
    by true is = agrees.parents r is (sym (same r) ∙ is)
    by false is = unknown_parent h r is ∙ sym (unknown_parent k r (sym (same r) ∙ is))

both_held : (o p : Option Held) → is_some o ≡ true → is_some p ≡ true → ((d e : Held) → o ≡ Some d → p ≡ Some e → d ≡ e) → o ≡ p
both_held None p x y one = absurd cc
both_held (Some d) None x y one = absurd cc
both_held (Some d) (Some e) x y one = ap Some (one d e refl refl)

pub meeting : (ws vs : List Write) → AreLawfulWrites ws → AreLawfulWrites vs → Agrees (content_of ws) (content_of vs) → ((r : Revision) → is_known (content_of ws) r ≡ is_known (content_of vs) r)
    → HaveSameTree (content_of ws) (content_of vs)
meeting ws vs lawful_ws lawful_vs agrees same =
    let h = content_of ws in
    let k = content_of vs in
    let parents = same_parents h k agrees same in
    let held : (r : Revision) → IsTrue (is_leaf h r) → held_of h r ≡ held_of k r =
    λ r leaf. both_held (held_of h r) (held_of k r) (leaf_is_held ws lawful_ws r leaf) (leaf_is_held vs lawful_vs r (leaf_alike h k same parents r leaf)) (agrees.held r) in
    let alike : LooksAlike h k = record { known = same; parents = parents; marks = λ r leaf. ap is_deleted (held r leaf) } in
    record { known = same; parents = parents; leaves = leaves_same h k alike; winner = winner_same h k alike; held = held }

pub leaves_meet : (ws vs : List Write) → AreLawfulWrites ws → AreLawfulWrites vs → Agrees (content_of ws) (content_of vs) → LeavesAreKnown (content_of ws) (content_of vs)
    → LeavesAreKnown (content_of vs) (content_of ws) → HaveSameTree (content_of ws) (content_of vs)
leaves_meet ws vs lawful_ws lawful_vs agrees there back =
    meeting ws vs lawful_ws lawful_vs agrees
    (λ r. both_true (is_known (content_of ws) r) (is_known (content_of vs) r)
    (all_reached ws (content_of vs) lawful_ws (rooted vs lawful_vs) agrees there r)
    (all_reached vs (content_of ws) lawful_vs (rooted ws lawful_ws) (agrees_back (content_of ws) (content_of vs) agrees) back r))
