-- The content of a list of writes: what it has at a revision, and what one more write makes of it.
use Rattle.std.proofs.Common.{◌≡◌, Bool, true, false, cond, List, [], ◌∷◌, ◌++◌, Option, Some, None, refl, sym, ap, ◌∙◌, append-nil}
use Rattle.std.specs.Prelude.{IsTrue, is_some, flat_map}
use Rattle.std.proofs.lemmas.Grind.{flat_map-append}
use Rattle.std.specs.Ordering.{eq_by_cmp}
use Rattle.std.specs.FinMap.{empty, entries, find, get, insert, get-empty, get-entries, get-from_entries, get-insert, same_map}
use Rattle.tree.specs.Revision.{Revision, revision_cmp}
use Rattle.tree.specs.Write.{Write}
use Rattle.tree.specs.History.{HistoryContent, is_known, write_entries, content_of, with_new, with_entries, with_write, entry_after}
use Rattle.tree.specs.declared.entry.Entry.{Entry}
use Rattle.tree.proofs.Kept.{Node, revision_cmp_total}
use Rattle.tree.proofs.Revisions.{revision_cmp_exact, same}

-- ---- options

abbrev pub or : {X : Type 0} → Option X → Option X → Option X
or None o = o
or (Some x) o = Some x

or_assoc : {X : Type 0} (a b c : Option X) → or (or a b) c ≡ or a (or b c)
or_assoc None b c = refl
or_assoc (Some x) b c = refl

or_cond : {X : Type 0} (b : Bool) (x : X) (o : Option X) → cond b (Some x) o ≡ or (cond b (Some x) None) o
or_cond true x o = refl
or_cond false x o = refl

some_not_none : {X : Type 0} (x : X) → Some x ≡ None → ⊥
some_not_none x e = cc

-- ---- look-ups in lists

at : Revision → List Node → Option Entry
at r es = find revision_cmp r es

pub find-append : (r : Revision) (xs ys : List Node) → find revision_cmp r (xs ++ ys) ≡ or (find revision_cmp r xs) (find revision_cmp r ys)
find-append r [] ys = refl
find-append r (x ∷ xs) ys =
    elim (eq_by_cmp revision_cmp r x.0) as (λ b. cond b (Some x.1) (find revision_cmp r (xs ++ ys)) ≡ or (cond b (Some x.1) (find revision_cmp r xs)) (find revision_cmp r ys)) [
      | true ↦ refl
      | false ↦ find-append r xs ys
    ]

pub get-content : (ws : List Write) (r : Revision) → get (content_of ws) r ≡ find revision_cmp r (flat_map write_entries ws)
get-content ws r = get-from_entries revision_cmp_total (flat_map write_entries ws) r

pub get-with_new : (h : HistoryContent) (k : Revision) (e : Entry) (r : Revision) → get (with_new h k e) r ≡ or (get h r) (cond (eq_by_cmp revision_cmp r k) (Some e) None)
get-with_new h k e r = by (is_known h k) refl
  where
    hit : (o : Option Entry) (b : Bool) → (b ≡ true → is_some o ≡ true) → o ≡ or o (cond b (Some e) None)
    hit None true f = let z = f refl in cc
    hit None false f = refl
    hit (Some x) b f = refl

    miss : (o : Option Entry) (b : Bool) → (b ≡ true → is_some o ≡ false) → cond b (Some e) o ≡ or o (cond b (Some e) None)
    miss None true f = refl
    miss None false f = refl
    miss (Some x) true f = let z = f refl in cc
    miss (Some x) false f = refl

    at_same : (c : Bool) → is_some (get h k) ≡ c → eq_by_cmp revision_cmp r k ≡ true → is_some (get h r) ≡ c
    at_same c known t = ap (λ x. is_some (get h x)) (same r k t) ∙ known

    by : (b : Bool) → is_known h k ≡ b → get (cond b h (insert h k e)) r ≡ or (get h r) (cond (eq_by_cmp revision_cmp r k) (Some e) None)
    by true known = hit (get h r) (eq_by_cmp revision_cmp r k) (at_same true known)
    by false new = get-insert revision_cmp_total h k e r ∙ miss (get h r) (eq_by_cmp revision_cmp r k) (at_same false new)

pub get-with_entries : (h : HistoryContent) (es : List Node) (r : Revision) → get (with_entries h es) r ≡ or (get h r) (find revision_cmp r es)
get-with_entries h [] r = by (get h r)
  where
    by : (o : Option Entry) → o ≡ or o None
    by None = refl
    by (Some x) = refl
get-with_entries h (e ∷ es) r =
    get-with_entries (with_new h e.0 e.1) es r
    ∙ ap (λ o. or o (find revision_cmp r es)) (get-with_new h e.0 e.1 r)
    ∙ or_assoc (get h r) (cond (eq_by_cmp revision_cmp r e.0) (Some e.1) None) (find revision_cmp r es)
    ∙ ap (or (get h r)) (sym (or_cond (eq_by_cmp revision_cmp r e.0) e.1 (find revision_cmp r es)))

-- a write keeps what is known, and of the rest says what its path says
pub write_shows : (h : HistoryContent) (w : Write) (r : Revision) → get (with_write h w) r ≡ or (get h r) (find revision_cmp r (write_entries w))
write_shows h w r = get-with_entries h (write_entries w) r

pub entry_kept : (h : HistoryContent) (w : Write) (r : Revision) → IsTrue (is_known h r) → get (with_write h w) r ≡ get h r
entry_kept h w r known = write_shows h w r ∙ by (get h r) known
  where
    by : (o : Option Entry) → is_some o ≡ true → or o (find revision_cmp r (write_entries w)) ≡ o
    by None k = cc
    by (Some x) k = refl

pub entry_after_write : (h : HistoryContent) (w : Write) (r : Revision) → get (with_write h w) r ≡ entry_after h w r
entry_after_write h w r = write_shows h w r ∙ by (get h r)
  where
    by : (o : Option Entry) → or o (find revision_cmp r (write_entries w)) ≡ cond (is_some o) o (find revision_cmp r (write_entries w))
    by None = refl
    by (Some x) = refl

pub one_more_write : (ws : List Write) (w : Write) → content_of (ws ++ w ∷ []) ≡ with_write (content_of ws) w
one_more_write ws w =
    same_map revision_cmp_total revision_cmp_exact (content_of (ws ++ w ∷ [])) (with_write (content_of ws) w)
    (λ r. get-content (ws ++ w ∷ []) r
    ∙ ap (find revision_cmp r) (flat_map-append write_entries ws (w ∷ []) ∙ ap (λ xs. flat_map write_entries ws ++ xs) (append-nil (write_entries w)))
    ∙ find-append r (flat_map write_entries ws) (write_entries w)
    ∙ ap (λ o. or o (find revision_cmp r (write_entries w))) (sym (get-content ws r))
    ∙ sym (write_shows (content_of ws) w r))

-- ---- a history from its rows

-- rows that say of each revision what the history knows of it make the history
pub rows_make : (h : HistoryContent) (rows : List Node) → ((r : Revision) → find revision_cmp r rows ≡ get h r) → with_entries empty rows ≡ h
rows_make h rows are = same_map revision_cmp_total revision_cmp_exact (with_entries empty rows) h (λ r. get-with_entries empty rows r ∙ ap (λ o. or o (find revision_cmp r rows)) (get-empty revision_cmp r) ∙ are r)

pub entries_make : (h : HistoryContent) → with_entries empty (entries h) ≡ h
entries_make h = rows_make h (entries h) (λ r. sym (get-entries h r))
