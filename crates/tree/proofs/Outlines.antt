-- An outline agrees with its history in all but the bodies.
use Rattle.std.proofs.Common.{◌≡◌, Bool, true, false, cond, ◌&&◌, List, [], ◌∷◌, Option, Some, None, refl, sym, ap, ◌∙◌, ℕ, zero, suc}
use Rattle.std.specs.Prelude.{is_some, not, option_and_then, option_map, Result, Ok, Err}
use Rattle.std.specs.Ordering.{eq_by_cmp}
use Rattle.std.specs.FinMap.{empty, entries, find, get, get-empty, get-entries, get-from_entries}
use Rattle.tree.specs.History.{HistoryContent, agrees, chain, is_deleted, is_head_known, is_known, held_of, keeps_parents, leaves, path_from, onward, parent_of, placement, winner, with_entries, LooksAlike}
use Rattle.tree.specs.Outline.{all_bare, bare, held_bare, outline_of}
use Rattle.tree.specs.Revision.{Revision, revision_cmp}
use Rattle.tree.specs.Write.{head, is_whole_path}
use Rattle.tree.specs.declared.entry.Entry.{Entry}
use Rattle.tree.specs.declared.entry.Held.{Held}
use Rattle.tree.specs.declared.placement.Placed.{Placed}
use Rattle.tree.specs.declared.placement.Placed.TheVariants.{Added, Known}
use Rattle.tree.specs.declared.placement.TreeFault.{TreeFault}
use Rattle.tree.specs.declared.placement.TreeFault.TheVariants.{BadPath, OtherParent}
use Rattle.tree.proofs.Contents.{get-with_entries, or, rows_make}
use Rattle.tree.proofs.Kept.{Node, revision_cmp_total}
use Rattle.tree.proofs.Leaves.{leaves_same, winner_same}

pub find_bare : (r : Revision) (es : List Node) → find revision_cmp r (all_bare es) ≡ option_map bare (find revision_cmp r es)
find_bare r [] = refl
find_bare r (e ∷ es) = by (eq_by_cmp revision_cmp r e.0) (find_bare r es)
  where
    by : (b : Bool) → find revision_cmp r (all_bare es) ≡ option_map bare (find revision_cmp r es)
        → cond b (Some (bare e.1)) (find revision_cmp r (all_bare es)) ≡ option_map bare (cond b (Some e.1) (find revision_cmp r es))
    by true rest = refl
    by false rest = rest

pub get_outline : (h : HistoryContent) (r : Revision) → get (outline_of h) r ≡ option_map bare (get h r)
get_outline h r = get-from_entries revision_cmp_total (all_bare (entries h)) r ∙ find_bare r (entries h) ∙ ap (option_map bare) (sym (get-entries h r))

-- ---- an outline from its rows

pub outline_made : (h : HistoryContent) → with_entries empty (all_bare (entries h)) ≡ outline_of h
outline_made h = rows_make (outline_of h) (all_bare (entries h)) (λ r. sym (get-from_entries revision_cmp_total (all_bare (entries h)) r))

found : (rows : List Node) (r : Revision) → get (with_entries empty rows) r ≡ find revision_cmp r rows
found rows r = get-with_entries empty rows r ∙ ap (λ o. or o (find revision_cmp r rows)) (get-empty revision_cmp r)

pub outline_of_rows : (rows : List Node) → with_entries empty (all_bare rows) ≡ outline_of (with_entries empty rows)
outline_of_rows rows =
    rows_make (outline_of (with_entries empty rows)) (all_bare rows) (λ r.
    find_bare r rows ∙ ap (option_map bare) (sym (found rows r)) ∙ sym (get_outline (with_entries empty rows) r))

-- ---- what it says of each revision

known : (o : Option Entry) → is_some (option_map bare o) ≡ is_some o
known None = refl
known (Some e) = refl

parent : (o : Option Entry) → option_and_then (λ (e : Entry). e.parent) (option_map bare o) ≡ option_and_then (λ (e : Entry). e.parent) o
parent None = refl
parent (Some e) = refl

mark : (o : Option Entry) → is_deleted (option_and_then (λ (e : Entry). e.held) (option_map bare o)) ≡ is_deleted (option_and_then (λ (e : Entry). e.held) o)
mark None = refl
mark (Some e) = by e.held
  where
    by : (o : Option Held) → is_deleted (option_map held_bare o) ≡ is_deleted o
    by None = refl
    by (Some d) = refl

same_parent_agrees : (o : Option Entry) (p : Option Revision) → agrees (option_map bare o) p ≡ agrees o p
same_parent_agrees None p = refl
same_parent_agrees (Some e) p = refl

pub is_known_in : (h : HistoryContent) (r : Revision) → is_known (outline_of h) r ≡ is_known h r
is_known_in h r = ap is_some (get_outline h r) ∙ known (get h r)

parent_in : (h : HistoryContent) (r : Revision) → parent_of (outline_of h) r ≡ parent_of h r
parent_in h r = ap (option_and_then (λ (e : Entry). e.parent)) (get_outline h r) ∙ parent (get h r)

mark_in : (h : HistoryContent) (r : Revision) → is_deleted (held_of (outline_of h) r) ≡ is_deleted (held_of h r)
mark_in h r = ap (λ o. is_deleted (option_and_then (λ (e : Entry). e.held) o)) (get_outline h r) ∙ mark (get h r)

alike : (h : HistoryContent) → LooksAlike (outline_of h) h
alike h = record { known = is_known_in h; parents = parent_in h; marks = λ r _. mark_in h r }

pub leaves_in : (h : HistoryContent) → leaves (outline_of h) ≡ leaves h
leaves_in h = leaves_same (outline_of h) h (alike h)

pub winner_in : (h : HistoryContent) → winner (outline_of h) ≡ winner h
winner_in h = winner_same (outline_of h) h (alike h)

-- ---- paths

line_in : (h : HistoryContent) (n : ℕ) (r : Revision) → path_from (outline_of h) n r ≡ path_from h n r
line_in h zero r = refl
line_in h (suc n) r =
    ap (λ b. cond b (r ∷ onward (λ p. path_from (outline_of h) n p) (parent_of (outline_of h) r)) []) (is_known_in h r)
    ∙ ap (λ q. cond (is_known h r) (r ∷ onward (λ p. path_from (outline_of h) n p) q) []) (parent_in h r)
    ∙ ap (λ rest. cond (is_known h r) (r ∷ rest) []) (behind (λ p. line_in h n p) (parent_of h r))
  where
    behind : ((p : Revision) → path_from (outline_of h) n p ≡ path_from h n p) → (q : Option Revision) → onward (λ p. path_from (outline_of h) n p) q ≡ onward (λ p. path_from h n p) q
    behind below None = refl
    behind below (Some p) = below p

pub chain_in : (h : HistoryContent) (r : Revision) → chain (outline_of h) r ≡ chain h r
chain_in h r =
    ap (λ b. cond b (Some (path_from (outline_of h) r.number r)) None) (is_known_in h r)
    ∙ ap (λ l. cond (is_known h r) (Some l) None) (line_in h r.number r)

keeps_in : (h : HistoryContent) (path : List Revision) → keeps_parents (outline_of h) path ≡ keeps_parents h path
keeps_in h [] = refl
keeps_in h (r ∷ rest) =
    ap (λ o. agrees o (head rest) && keeps_parents (outline_of h) rest) (get_outline h r)
    ∙ ap (λ b. b && keeps_parents (outline_of h) rest) (same_parent_agrees (get h r) (head rest))
    ∙ ap (λ b. agrees (get h r) (head rest) && b) (keeps_in h rest)

head_in : (h : HistoryContent) (path : List Revision) → is_head_known (outline_of h) path ≡ is_head_known h path
head_in h [] = refl
head_in h (r ∷ rest) = is_known_in h r

pub placement_in : (h : HistoryContent) (path : List Revision) → placement (outline_of h) path ≡ placement h path
placement_in h path = ap (λ b. judged b (is_head_known (outline_of h) path)) (keeps_in h path) ∙ ap (judged (keeps_parents h path)) (head_in h path)
  where
    judged : Bool → Bool → Result Placed TreeFault
    judged keeps is_head = cond (not (is_whole_path path)) (Err BadPath) (cond (not keeps) (Err OtherParent) (cond is_head (Ok Known) (Ok Added)))
