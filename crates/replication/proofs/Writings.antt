-- What a write that comes from one history brings to another.
use Rattle.std.proofs.Common.{◌≡◌, ◌⊎◌, ◌≤◌, ℕ, zero, suc, Bool, true, false, cond, List, [], ◌∷◌, Option, Some, None, refl, sym, ap, ◌∙◌, arith, inl, inr}
use Rattle.std.specs.Prelude.{is_some, option_and_then}
use Rattle.std.specs.FinMap.{find, get}
use Rattle.std.specs.Ordering.{eq_by_cmp}
use Rattle.tree.specs.History.{HistoryContent, IsRooted, chain, held_of, is_known, path_from, onward, parent_of, path_entries, with_write, write_entries}
use Rattle.tree.specs.Revision.{Revision, revision_cmp}
use Rattle.tree.specs.Write.{Write, head, held_of_write}
use Rattle.tree.specs.declared.entry.Entry.{Entry}
use Rattle.tree.specs.declared.entry.Held.{Held}
use Rattle.tree.proofs.Contents.{entry_after_write, entry_kept}
use Rattle.tree.proofs.Kept.{line_off, line_on}
use Rattle.tree.proofs.Revisions.{same}
use Rattle.tree.proofs.Shown.{entry_of_known, inside}
use Rattle.replication.specs.Agreement.{Agrees}

-- ---- numbers begin at 1

pub positive : (h : HistoryContent) → IsRooted h → (r : Revision) → is_known h r ≡ true → 1 ≤ r.number
positive h root r known = by (parent_of h r) refl
  where
    by : (o : Option Revision) → parent_of h r ≡ o → 1 ≤ r.number
    by None up = omega (arith, root.begins r known up)
    by (Some p) up = omega (arith, root.descends r p up)

-- ---- what the path of a known revision says of its revisions

-- what the history knows of s, where the path says e of it, and d of its newest revision r
pub record IsOf (k : HistoryContent) (r : Revision) (d : Option Held) (s : Revision) (e : Entry) : Type 0 where
  pub known : is_known k s ≡ true
  pub parent : e.parent ≡ parent_of k s
  pub held : (g : Held) → e.held ≡ Some g → (s ≡ r) × (d ≡ Some g)

first_of_line : (k : HistoryContent) (n : ℕ) (p : Revision) → is_known k p ≡ true → 1 ≤ n → head (path_from k n p) ≡ Some p
first_of_line k zero p known some = absurd (omega (arith, some))
first_of_line k (suc n) p known some = ap head (line_on k n p known)

line_says : (k : HistoryContent) → IsRooted k → (n : ℕ) (r : Revision) (d : Option Held) → r.number ≡ n → (s : Revision) (e : Entry)
    → find revision_cmp s (path_entries d (path_from k n r)) ≡ Some e → IsOf k r d s e
line_says k root zero r d is s e found = absurd cc
line_says k root (suc n) r d is s e found = known_or_not (λ p near f. line_says k root n p None near s e f) (is_known k r) refl
  where
    one : Option Revision → List Revision → Entry
    one up rest = record { parent = head rest; held = d }

    here : (up : Option Revision) (rest : List Revision) → is_known k r ≡ true → parent_of k r ≡ up → head rest ≡ up
        → (find revision_cmp s (path_entries None rest) ≡ Some e → IsOf k r d s e)
        → (b : Bool) → eq_by_cmp revision_cmp s r ≡ b → cond b (Some (one up rest)) (find revision_cmp s (path_entries None rest)) ≡ Some e → IsOf k r d s e
    here up rest known is_up first later true t f =
        let it = inside (one up rest) e f in
        let at = same s r t in
        record {
          known = ap (is_known k) at ∙ known;
          parent = ap (λ (x : Entry). x.parent) (sym it) ∙ first ∙ sym is_up ∙ ap (parent_of k) (sym at);
          held = λ g h. (at, ap (λ (x : Entry). x.held) it ∙ h);
        }
    here up rest known is_up first later false t f = later f

    up_or_root : ((p : Revision) → p.number ≡ n → find revision_cmp s (path_entries None (path_from k n p)) ≡ Some e → IsOf k p None s e)
        → is_known k r ≡ true → (o : Option Revision) → parent_of k r ≡ o → find revision_cmp s (path_entries d (r ∷ onward (λ p. path_from k n p) o)) ≡ Some e → IsOf k r d s e
    up_or_root rest known None up f = here None [] known up refl (λ g. absurd cc) (eq_by_cmp revision_cmp s r) refl f
    up_or_root rest known (Some p) up f =
        let below : p.number ≡ n = omega (arith, is, root.descends r p up) in
        let there = root.parents_known r p up in
        let first = first_of_line k n p there (omega (arith, below, positive k root p there)) in
        here (Some p) (path_from k n p) known up first
        (λ g. let k = rest p below g in record { known = k.known; parent = k.parent; held = λ x h. absurd (let z : None ≡ Some x = (k.held x h).1 in cc) })
        (eq_by_cmp revision_cmp s r) refl f

    known_or_not : ((p : Revision) → p.number ≡ n → find revision_cmp s (path_entries None (path_from k n p)) ≡ Some e → IsOf k p None s e)
        → (b : Bool) → is_known k r ≡ b → IsOf k r d s e
    known_or_not rest true known = up_or_root rest known (parent_of k r) refl (ap (λ (path : List Revision). find revision_cmp s (path_entries d path)) (sym (line_on k n r known)) ∙ found)
    known_or_not rest false new = absurd (let z : None ≡ Some e = ap (λ (path : List Revision). find revision_cmp s (path_entries d path)) (sym (line_off k (suc n) r new)) ∙ found in cc)

-- ---- a write that comes from a history

-- the path is that of a revision there, and what it brings is what is held there
pub record IsCopied (k : HistoryContent) (r : Revision) (w : Write) : Type 0 where
  pub path : chain k r ≡ Some w.path
  pub held : held_of k r ≡ Some (held_of_write w)

chained : (k : HistoryContent) (r : Revision) (path : List Revision) → chain k r ≡ Some path → path ≡ path_from k r.number r
chained k r path e = by (is_known k r) e
  where
    by : (b : Bool) → cond b (Some (path_from k r.number r)) None ≡ Some path → path ≡ path_from k r.number r
    by true f = sym (inside (path_from k r.number r) path f)
    by false f = absurd cc

-- what a write says of a revision, where it says anything, is what its source says
copied_says : (k : HistoryContent) (r : Revision) (w : Write) → IsRooted k → IsCopied k r w → (s : Revision) (e : Entry) → find revision_cmp s (write_entries w) ≡ Some e → IsOf k r (Some (held_of_write w)) s e
copied_says k r w root c s e f =
    line_says k root r.number r (Some (held_of_write w)) refl s e
    (ap (λ (path : List Revision). find revision_cmp s (path_entries (Some (held_of_write w)) path)) (sym (chained k r w.path c.path)) ∙ f)

-- what is known of a revision after a write: what was known, or what the source of the write says
pub data IsThere (k h : HistoryContent) (r : Revision) (w : Write) (s : Revision) : Type 0 where
  before : is_known h s ≡ true → get (with_write h w) s ≡ get h s → IsThere k h r w s
  brought : (e : Entry) → get (with_write h w) s ≡ Some e → IsOf k r (Some (held_of_write w)) s e → IsThere k h r w s

pub known_there : (k h : HistoryContent) (r : Revision) (w : Write) → IsRooted k → IsCopied k r w → (s : Revision) → is_known (with_write h w) s ≡ true → IsThere k h r w s
known_there k h r w root c s known = by (is_known h s) refl
  where
    new : (e : Entry) → get (with_write h w) s ≡ Some e → is_known h s ≡ false → IsThere k h r w s
    new e g is =
        let said : find revision_cmp s (write_entries w) ≡ Some e =
        ap (λ (b : Bool). cond b (get h s) (find revision_cmp s (write_entries w))) (sym is) ∙ sym (entry_after_write h w s) ∙ g in
        brought e g (copied_says k r w root c s e said)

    by : (b : Bool) → is_known h s ≡ b → IsThere k h r w s
    by true is = before is (entry_kept h w s is)
    by false is = let e = entry_of_known (with_write h w) s known in new e.0 e.1 is

abbrev pub parent_in : Option Entry → Option Revision
parent_in o = option_and_then (λ (e : Entry). e.parent) o

abbrev pub held_in : Option Entry → Option Held
held_in o = option_and_then (λ (e : Entry). e.held) o

pub held_known : (h : HistoryContent) (s : Revision) (d : Held) → held_of h s ≡ Some d → is_known h s ≡ true
held_known h s d e = by (get h s) refl e
  where
    by : (o : Option Entry) → get h s ≡ o → held_in o ≡ Some d → is_known h s ≡ true
    by None g u = absurd cc
    by (Some x) g u = ap is_some g

-- a write from a history keeps what agrees with that one
pub agrees_on : (k h : HistoryContent) (r : Revision) (w : Write) → IsRooted k → IsCopied k r w → Agrees k h → Agrees k (with_write h w)
agrees_on k h r w root c agrees = record {
  parents = λ s in_k in_h. parents s in_k (known_there k h r w root c s in_h);
  held = λ s d e in_k in_h. held s d e in_k in_h (known_there k h r w root c s (held_known (with_write h w) s e in_h));
}
  where
    parents : (s : Revision) → is_known k s ≡ true → IsThere k h r w s → parent_of k s ≡ parent_of (with_write h w) s
    parents s in_k (before is g) = agrees.parents s in_k is ∙ ap parent_in (sym g)
    parents s in_k (brought e g of) = sym of.parent ∙ ap parent_in (sym g)

    held : (s : Revision) (d e : Held) → held_of k s ≡ Some d → held_of (with_write h w) s ≡ Some e → IsThere k h r w s → d ≡ e
    held s d e in_k in_h (before is g) = agrees.held s d e in_k (ap held_in (sym g) ∙ in_h)
    held s d e in_k in_h (brought x g of) =
        let b = of.held e (ap held_in (sym g) ∙ in_h) in
        let both : Some d ≡ Some (held_of_write w) = sym in_k ∙ ap (held_of k) b.0 ∙ c.held in
        let last : Some (held_of_write w) ≡ Some e = b.1 in
        inside d e (both ∙ last)

-- what is known after it was known before, or its source knows it
pub known_from : (k h : HistoryContent) (r : Revision) (w : Write) → IsRooted k → IsCopied k r w → (s : Revision) → is_known (with_write h w) s ≡ true → (is_known h s ≡ true) ⊎ (is_known k s ≡ true)
known_from k h r w root c s known = by (known_there k h r w root c s known)
  where
    by : IsThere k h r w s → (is_known h s ≡ true) ⊎ (is_known k s ≡ true)
    by (before is g) = inl is
    by (brought e g of) = inr of.known

-- what is held after it was held before, or its source holds it
pub held_from : (k h : HistoryContent) (r : Revision) (w : Write) → IsRooted k → IsCopied k r w → (s : Revision) (d : Held) → held_of (with_write h w) s ≡ Some d
    → (held_of h s ≡ Some d) ⊎ (held_of k s ≡ Some d)
held_from k h r w root c s d e = by (known_there k h r w root c s (held_known (with_write h w) s d e))
  where
    by : IsThere k h r w s → (held_of h s ≡ Some d) ⊎ (held_of k s ≡ Some d)
    by (before is g) = inl (ap held_in (sym g) ∙ e)
    by (brought x g of) = let b = of.held d (ap held_in (sym g) ∙ e) in inr (ap (held_of k) b.0 ∙ c.held ∙ b.1)

-- ---- a history that keeps what another knows

-- what is known is known as it was
abbrev pub Keeps : HistoryContent → HistoryContent → Type 0
Keeps old new = (r : Revision) → is_known old r ≡ true → get new r ≡ get old r

pub kept_held : (old new : HistoryContent) → Keeps old new → (r : Revision) (d : Held) → held_of old r ≡ Some d → held_of new r ≡ Some d
kept_held old new keeps r d e = ap held_in (keeps r (held_known old r d e)) ∙ e

pub kept_known : (old new : HistoryContent) → Keeps old new → (r : Revision) → is_known old r ≡ true → is_known new r ≡ true
kept_known old new keeps r known = ap is_some (keeps r known) ∙ known

pub kept_parent : (old new : HistoryContent) → Keeps old new → (r : Revision) → is_known old r ≡ true → parent_of new r ≡ parent_of old r
kept_parent old new keeps r known = ap parent_in (keeps r known)

kept_line : (old new : HistoryContent) → IsRooted old → Keeps old new → (n : ℕ) (r : Revision) → is_known old r ≡ true → path_from new n r ≡ path_from old n r
kept_line old new root keeps zero r known = refl
kept_line old new root keeps (suc n) r known =
    line_on new n r (kept_known old new keeps r known)
    ∙ ap (λ (o : Option Revision). r ∷ onward (λ p. path_from new n p) o) (kept_parent old new keeps r known)
    ∙ ap (λ (rest : List Revision). r ∷ rest) (next (λ p is. kept_line old new root keeps n p is) (parent_of old r) refl)
    ∙ sym (line_on old n r known)
  where
    next : ((p : Revision) → is_known old p ≡ true → path_from new n p ≡ path_from old n p) → (o : Option Revision) → parent_of old r ≡ o
        → onward (λ p. path_from new n p) o ≡ onward (λ p. path_from old n p) o
    next rest None up = refl
    next rest (Some p) up = rest p (root.parents_known r p up)

-- the path of a known revision stays
pub kept_chain : (old new : HistoryContent) → IsRooted old → Keeps old new → (r : Revision) → is_known old r ≡ true → chain new r ≡ chain old r
kept_chain old new root keeps r known =
    ap (λ (b : Bool). cond b (Some (path_from new r.number r)) None) (kept_known old new keeps r known)
    ∙ ap Some (kept_line old new root keeps r.number r known)
    ∙ sym (ap (λ (b : Bool). cond b (Some (path_from old r.number r)) None) known)
