-- A history kept as its nodes in order: look-ups and writes by the nodes are those of the content.
use Rattle.std.proofs.Common.{◌≡◌, ℕ, zero, suc, ◌+◌, ◌-◌, ◌<◌, Bool, true, false, cond, length, List, [], ◌∷◌, ◌++◌, Option, Some, None, refl, sym, ap, subst, ◌∙◌, arith, append_assoc, append-nil}
use Rattle.std.specs.Prelude.{IsTrue, is_some, option_and_then}
use Rattle.std.specs.Cmp.{IsTotalOrder, on_total, then_total, nat_cmp_total}
use Rattle.std.specs.Cmp.Lexicographic.{lists_total}
use Rattle.std.specs.FinMap.{find, put, is_sorted, entries, from_sorted, entries-from_sorted, entries-insert, empty, empty_of_len, len-entries, same_entries_map, get, get-entries, get-from_sorted, insert}
use Rattle.std.specs.FinMap.Entries.{is_sorted-put}
use Rattle.tree.specs.Revision.{Revision, revision_cmp}
use Rattle.tree.specs.Nodes.{nodes_with_new, nodes_with}
use Rattle.tree.specs.History.{HistoryContent, with_new, with_entries, is_known, path_from, onward, parent_of}
use Rattle.tree.specs.declared.entry.Entry.{Entry}
use Rattle.std.proofs.Math.Dec.{T}

abbrev pub Node : Type 0
Node = Revision × Entry

pub revision_cmp_total : IsTotalOrder revision_cmp
revision_cmp_total = then_total (on_total (λ r. r.number) nat_cmp_total) (on_total (λ r. r.hash) (lists_total nat_cmp_total))

T_from_true : (b : Bool) → b ≡ true → T b
T_from_true b e = subst T (sym e) tt

pub from_sorted-nil : from_sorted {X = Entry} {R = revision_cmp} [] ≡ empty
from_sorted-nil = empty_of_len _ (len-entries _ ∙ ap (λ (es : List Node). length es) (entries-from_sorted revision_cmp [] tt))

-- the nodes of a content that was made of them
pub nodes_of : (es : List Node) → IsTrue (is_sorted revision_cmp es) → entries (from_sorted {R = revision_cmp} es) ≡ es
nodes_of es h = entries-from_sorted revision_cmp es (T_from_true _ h)

pub entry_of : (es : List Node) (r : Revision) → IsTrue (is_sorted revision_cmp es) → get (from_sorted {R = revision_cmp} es) r ≡ find revision_cmp r es
entry_of es r h = get-from_sorted revision_cmp es r (T_from_true _ h)

entries-with_new : (h : HistoryContent) (r : Revision) (e : Entry) → entries (with_new h r e) ≡ nodes_with_new (entries h) r e
entries-with_new h r e =
    elim (is_some (find revision_cmp r (entries h))) as (λ b. is_some (get h r) ≡ b → entries (cond (is_some (get h r)) h (insert h r e)) ≡ cond b (entries h) (put revision_cmp r e (entries h))) [
      | true ↦ λ known. ap (λ b. entries (cond b h (insert h r e))) known
      | false ↦ λ new. ap (λ b. entries (cond b h (insert h r e))) new ∙ entries-insert revision_cmp_total h r e
    ] (ap is_some (get-entries h r))

entries-with_entries : (h : HistoryContent) (es : List Node) → entries (with_entries h es) ≡ nodes_with (entries h) es
entries-with_entries h [] = refl
entries-with_entries h (e ∷ es) = entries-with_entries (with_new h e.0 e.1) es ∙ ap (λ nodes. nodes_with nodes es) (entries-with_new h e.0 e.1)

pub with_nodes : (old new es : List Node) → IsTrue (is_sorted revision_cmp old) → IsTrue (is_sorted revision_cmp new) → new ≡ nodes_with old es → from_sorted {R = revision_cmp} new ≡ with_entries (from_sorted old) es
with_nodes old new es h k e =
    same_entries_map _ _ (nodes_of new k ∙ e ∙ ap (λ nodes. nodes_with nodes es) (sym (nodes_of old h)) ∙ sym (entries-with_entries (from_sorted old) es))

-- ---- lines and writes

-- a line goes on at a revision that is known, and ends at one that is not
pub line_on : (h : HistoryContent) (n : ℕ) (r : Revision) → is_known h r ≡ true → path_from h (suc n) r ≡ r ∷ onward (λ p. path_from h n p) (parent_of h r)
line_on h n r known = ap (λ b. cond b (r ∷ onward (λ p. path_from h n p) (parent_of h r)) []) known

pub line_off : (h : HistoryContent) (n : ℕ) (r : Revision) → is_known h r ≡ false → path_from h n r ≡ []
line_off h zero r new = refl
line_off h (suc n) r new = ap (λ b. cond b (r ∷ onward (λ p. path_from h n p) (parent_of h r)) []) new

line_more : (h : HistoryContent) (n i : ℕ) (r : Revision) (e : Entry) → i < n → Some e ≡ get h r → path_from h (n - i) r ≡ r ∷ onward (λ p. path_from h (n - (i + 1)) p) e.parent
line_more h n i r e lt is = let less : n - i ≡ suc (n - (i + 1)) = omega arith in ap (λ k. path_from h k r) less ∙ line_on h (n - (i + 1)) r (ap is_some (sym is))
    ∙ ap (λ (o : Option Entry). r ∷ onward (λ p. path_from h (n - (i + 1)) p) (option_and_then (λ (x : Entry). x.parent) o)) (sym is)

pub line_pushed : (h : HistoryContent) (n i : ℕ) (r : Revision) (e : Entry) (revs pushed whole : List Revision) (next after : Option Revision) → i < n → next ≡ Some r → Some e ≡ get h r → after ≡ e.parent → pushed ≡ revs ++ r ∷ []
    → revs ++ onward (λ p. path_from h (n - i) p) next ≡ whole → pushed ++ onward (λ p. path_from h (n - (i + 1)) p) after ≡ whole
line_pushed h n i r e revs pushed whole next after lt is there up push so =
    ap (λ (xs : List Revision). xs ++ onward (λ p. path_from h (n - (i + 1)) p) after) push
    ∙ append_assoc revs (r ∷ []) (onward (λ p. path_from h (n - (i + 1)) p) after)
    ∙ ap (λ (o : Option Revision). revs ++ (r ∷ onward (λ p. path_from h (n - (i + 1)) p) o)) up
    ∙ ap (λ (xs : List Revision). revs ++ xs) (sym (line_more h n i r e lt there))
    ∙ ap (λ (o : Option Revision). revs ++ onward (λ p. path_from h (n - i) p) o) (sym is)
    ∙ so

-- a line ends at a revision that is not known
pub line_ended : (h : HistoryContent) (n : ℕ) (r : Revision) (revs whole : List Revision) (next : Option Revision) → next ≡ Some r → None ≡ get h r
    → revs ++ onward (λ p. path_from h n p) next ≡ whole → revs ≡ whole
line_ended h n r revs whole next is there so =
    sym (append-nil revs) ∙ ap (λ (xs : List Revision). revs ++ xs) (sym (line_off h n r (ap is_some (sym there)))) ∙ ap (λ (o : Option Revision). revs ++ onward (λ p. path_from h n p) o) (sym is) ∙ so

pub true_from_T : (b : Bool) → T b → b ≡ true
true_from_T true h = refl
true_from_T false h = absurd h

pub sorted_put : (es : List Node) (r : Revision) (e : Entry) → IsTrue (is_sorted revision_cmp es) → IsTrue (is_sorted revision_cmp (put revision_cmp r e es))
sorted_put es r e h = true_from_T _ (is_sorted-put revision_cmp revision_cmp_total r e es (T_from_true _ h))
