-- A node that comes in: the maps of the code are the lists of the model, and what came in is taken back.
use Rattle.std.proofs.Common.{◌≡◌, ℕ, suc, ◌+◌, ◌<◌, arith, length, drop, get_or, Bool, true, false, cond, ◌||◌, List, [], ◌∷◌, ◌++◌, Option, Some, None, Ordering, refl, sym, ap, ◌∙◌, is_eq}
use Rattle.std.proofs.Math.Seq.{drop-cons}
use Rattle.std.specs.Prelude.{is_some}
use Rattle.std.specs.declared.cmp.Ordering.TheVariants.{Less, Equal, Greater}
use Rattle.std.specs.Ordering.{match_ordering}
use Rattle.std.specs.Cmp.{tied_itself}
use Rattle.std.specs.Map.{lookup, remove_entry}
use Rattle.std.specs.BTreeMap.{insert_entry, is_at}
use Rattle.std.specs.FinMap.{find, put}
use Rattle.std.specs.FinMap.Entries.{by_order}
use Rattle.tree.specs.Revision.{Revision, revision_cmp}
use Rattle.tree.specs.History.{is_parent_in, names}
use Rattle.tree.specs.Nodes.{Insertion, entries_before, next_of, nodes_before, nodes_with, nodes_with_new}
use Rattle.tree.specs.declared.entry.Held.{Held}
use Rattle.tree.specs.declared.entry.Entry.{Entry}
use Rattle.tree.proofs.Kept.{Node, revision_cmp_total}

false_not_true : false ≡ true → ⊥
false_not_true e = cc

-- ---- look-ups and inserts of a map

pub lookup-find : (r : Revision) (es : List Node) → lookup (is_at (revision_cmp r)) es ≡ find revision_cmp r es
lookup-find r [] = refl
lookup-find r (e ∷ es) = ap (λ o. cond (is_eq (revision_cmp r e.0)) (Some e.1) o) (lookup-find r es)

pub insert_entry-put : (es : List Node) (r : Revision) (e : Entry) → insert_entry revision_cmp es r e ≡ put revision_cmp r e es
insert_entry-put [] r e = refl
insert_entry-put (x ∷ es) r e = by (insert_entry-put es r e) (revision_cmp r x.0)
  where
    by : insert_entry revision_cmp es r e ≡ put revision_cmp r e es → (o : Ordering) → match_ordering o ((r, e) ∷ x ∷ es) ((x.0, e) ∷ es) (x ∷ insert_entry revision_cmp es r e) ≡ by_order o ((r, e) ∷ x ∷ es) ((x.0, e) ∷ es) (x ∷ put revision_cmp r e es)
    by more Less = refl
    by more Equal = refl
    by more Greater = ap (λ rest. x ∷ rest) more

-- ---- what came in is taken back

pub not_found : (r : Revision) (x : Node) (es : List Node) → find revision_cmp r (x ∷ es) ≡ None → (is_eq (revision_cmp r x.0) ≡ false) × (find revision_cmp r es ≡ None)
not_found r x es = by (is_eq (revision_cmp r x.0)) refl
  where
    by : (b : Bool) → is_eq (revision_cmp r x.0) ≡ b → cond b (Some x.1) (find revision_cmp r es) ≡ None → (is_eq (revision_cmp r x.0) ≡ false) × (find revision_cmp r es ≡ None)
    by true t e = cc
    by false t e = (t, e)

own : (r : Revision) → is_eq (revision_cmp r r) ≡ true
own r = ap is_eq (tied_itself revision_cmp_total r)

first_removed : (r : Revision) (e : Entry) (es : List Node) → remove_entry (is_at (revision_cmp r)) ((r, e) ∷ es) ≡ es
first_removed r e es = ap (λ b. cond b es ((r, e) ∷ remove_entry (is_at (revision_cmp r)) es)) (own r)

pub remove_entry-put : (es : List Node) (r : Revision) (e : Entry) → find revision_cmp r es ≡ None → remove_entry (is_at (revision_cmp r)) (put revision_cmp r e es) ≡ es
remove_entry-put [] r e n = first_removed r e []
remove_entry-put (x ∷ es) r e n = by (not_found r x es n).0 (remove_entry-put es r e (not_found r x es n).1) (revision_cmp r x.0) refl
  where
    by : is_eq (revision_cmp r x.0) ≡ false → remove_entry (is_at (revision_cmp r)) (put revision_cmp r e es) ≡ es → (o : Ordering) → revision_cmp r x.0 ≡ o → remove_entry (is_at (revision_cmp r)) (by_order o ((r, e) ∷ x ∷ es) ((x.0, e) ∷ es) (x ∷ put revision_cmp r e es)) ≡ x ∷ es
    by apart more Less t = first_removed r e (x ∷ es)
    by apart more Equal t = absurd (false_not_true (sym apart ∙ ap is_eq t))
    by apart more Greater t =
        ap (λ b. cond b (put revision_cmp r e es) (x ∷ remove_entry (is_at (revision_cmp r)) (put revision_cmp r e es))) apart
        ∙ ap (λ rest. x ∷ rest) more

-- the last that came in is taken back first
pub nodes_before-append : (es : List Node) (is : List Insertion) (i : Insertion) → nodes_before es (is ++ i ∷ []) ≡ nodes_before (nodes_before es (i ∷ [])) is
nodes_before-append es [] i = refl
nodes_before-append es (j ∷ is) i = ap (remove_entry (is_at (revision_cmp j.rev))) (nodes_before-append es is i)

pub nodes_less : (es fs : List Node) (all rest : List Insertion) (i : Insertion) (start : List Node) → all ≡ rest ++ i ∷ []
    → fs ≡ remove_entry (is_at (revision_cmp i.rev)) es → nodes_before es all ≡ start → nodes_before fs rest ≡ start
nodes_less es fs all rest i start split is all_back = ap (λ xs. nodes_before xs rest) is ∙ sym (nodes_before-append es rest i) ∙ ap (nodes_before es) (sym split) ∙ all_back

-- ---- the parents after a node came in

or_swap : (a b c : Bool) → (a || (b || c)) ≡ (b || (a || c))
or_swap true true c = refl
or_swap true false c = refl
or_swap false b c = refl

pub parents-put : (r s : Revision) (e : Entry) (es : List Node) → find revision_cmp s es ≡ None → is_parent_in (put revision_cmp s e es) r ≡ (names e.parent r || is_parent_in es r)
parents-put r s e [] n = refl
parents-put r s e (x ∷ es) n = by (not_found s x es n).0 (parents-put r s e es (not_found s x es n).1) (revision_cmp s x.0) refl
  where
    by : is_eq (revision_cmp s x.0) ≡ false → is_parent_in (put revision_cmp s e es) r ≡ (names e.parent r || is_parent_in es r) → (o : Ordering) → revision_cmp s x.0 ≡ o → is_parent_in (by_order o ((s, e) ∷ x ∷ es) ((x.0, e) ∷ es) (x ∷ put revision_cmp s e es)) r ≡ (names e.parent r || (names x.1.parent r || is_parent_in es r))
    by apart more Less t = refl
    by apart more Equal t = absurd (false_not_true (sym apart ∙ ap is_eq t))
    by apart more Greater t = ap (λ b. names x.1.parent r || b) more ∙ or_swap (names x.1.parent r) (names e.parent r) (is_parent_in es r)

-- ---- what a call of the maps says, in these words

pub absent : (r : Revision) (es : List Node) (known : Bool) → known ≡ is_some (lookup (is_at (revision_cmp r)) es) → known ≡ false → find revision_cmp r es ≡ None
absent r es known is not_known = by (find revision_cmp r es) (sym (ap is_some (lookup-find r es)) ∙ sym is ∙ not_known)
  where
    by : (o : Option Entry) → is_some o ≡ false → o ≡ None
    by None e = refl
    by (Some x) e = absurd (false_not_true (sym e))

pub node_new : (es : List Node) (r : Revision) (e : Entry) → find revision_cmp r es ≡ None → insert_entry revision_cmp es r e ≡ nodes_with_new es r e
node_new es r e n = insert_entry-put es r e ∙ sym (ap (λ o. cond (is_some o) es (put revision_cmp r e es)) n)

pub node_back : (new old : List Node) (r : Revision) (e : Entry) → find revision_cmp r old ≡ None → new ≡ insert_entry revision_cmp old r e → remove_entry (is_at (revision_cmp r)) new ≡ old
node_back new old r e n is = ap (remove_entry (is_at (revision_cmp r))) (is ∙ insert_entry-put old r e) ∙ remove_entry-put old r e n

-- one revision of a path after another
pub path_step : (nodes new : List Node) (path : List Revision) (last : Option Revision) (i : ℕ) (r : Revision) (parent : Option Revision) (held taken after : Option Held) (all : List Node)
    → i < length path → r ≡ get_or path i r → parent ≡ next_of (drop (i + 1) path) last → taken ≡ held → after ≡ None
    → new ≡ nodes_with_new nodes r (record { parent = parent; held = taken })
    → nodes_with nodes (entries_before held (drop i path) last) ≡ all → nodes_with new (entries_before after (drop (i + 1) path) last) ≡ all
path_step nodes new path last i r parent held taken after all lt is up took empty put_in so_far =
    let next : suc i ≡ i + 1 = omega arith in
    let cut : drop i path ≡ r ∷ drop (i + 1) path = drop-cons path i r lt ∙ (λ j. sym is j ∷ drop (next j) path) in
    ap (λ o. nodes_with new (entries_before o (drop (i + 1) path) last)) empty
    ∙ ap (λ es. nodes_with es (entries_before None (drop (i + 1) path) last)) (put_in ∙ (λ j. nodes_with_new nodes r (record { parent = up j; held = took j })))
    ∙ ap (λ p. nodes_with nodes (entries_before held p last)) (sym cut) ∙ so_far
