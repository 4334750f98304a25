-- In a lawful database the path of an edit fits its history, unless the new revision is known.
use Rattle.std.proofs.Common.{◌≡◌, ◌⊎◌, ◌↔◌, ℕ, suc, ◌+◌, Bool, true, false, not, ◌&&◌, ◌==◌, cond, eqb-true, is_some, List, [], ◌∷◌, length, Option, Some, None, option_and_then, Ok, Err, refl, sym, ap, subst, ◌∙◌, inl, inr, arith}
use Rattle.std.proofs.lemmas.Bool.Decides.{nat_tests}
use Rattle.std.specs.FinMap.{get}
use Rattle.couch_json.specs.Value.{Value}
use Rattle.tree.specs.Revision.{Revision}
use Rattle.tree.specs.NextRevision.{next_revision, number_before}
use Rattle.tree.specs.Write.{Write, AreWhole, EndsWith, IsBehind, IsKnown, AreLawfulWrites as AreWritten, IsParent, IsPathEnd, StandsIn, counts_down, is_whole_path}
use Rattle.tree.specs.History.{HistoryContent, chain, content_of, held_of, is_deleted, is_known, is_leaf, keeps_parents, path_from, placement, winner}
use Rattle.tree.specs.declared.entry.Entry.{Entry}
use Rattle.tree.specs.declared.placement.Placed.TheVariants.{Added, Known}
use Rattle.tree.specs.declared.placement.TreeFault.TheVariants.{BadPath, OtherParent}
use Rattle.tree.proofs.RevisionText.{parts}
use Rattle.tree.proofs.Continued.{keeps_where_one_parent}
use Rattle.tree.proofs.LawfulContents.{chain_is_path}
use Rattle.tree.proofs.Shown.{inside, is_known_writes, whole_counts}
use Rattle.store.specs.Database.{Database, history_at}
use Rattle.store.specs.Lawful.{IsLawfulDatabase}
use Rattle.store.proofs.Lawfuls.{writes_behind}
use Rattle.tree.specs.History.{ancestors_of_parent}
use Rattle.write.specs.Admission.{parent_for_edit, implicit_parent}

-- ---- the path behind a known revision

pub record Behind (ws : List Write) (r : Revision) : Type 0 where
  pub rest : List Revision
  pub ending : IsPathEnd ws (r ∷ rest)
  pub counts : counts_down (r ∷ rest) ≡ true
  pub parents : (s p : Revision) → IsBehind (r ∷ rest) s p → IsParent ws s p

record Ending (path : List Revision) (r : Revision) : Type 0 where
  pub rest : List Revision
  pub ending : EndsWith path (r ∷ rest)
  pub counts : counts_down (r ∷ rest) ≡ true
  pub behind : (s p : Revision) → IsBehind (r ∷ rest) s p → IsBehind path s p

ending_at : (path : List Revision) (r : Revision) → counts_down path ≡ true → StandsIn path r → Ending path r
ending_at [] r c i = absurd i
ending_at (t ∷ path) r c (inl e) =
    record {
      rest = path;
      ending = inl (ap (λ x. x ∷ path) e);
      counts = subst (λ x. counts_down (x ∷ path) ≡ true) e c;
      behind = λ s p b. subst (λ x. IsBehind (x ∷ path) s p) (sym e) b;
    }
ending_at (t ∷ path) r c (inr i) = let k = ending_at path r (parts _ _ c).1 i in record { rest = k.rest; ending = inr k.ending; counts = k.counts; behind = λ s p b. inr (k.behind s p b) }

behind_known : (ws : List Write) (r : Revision) → AreWhole ws → IsKnown ws r → Behind ws r
behind_known [] r whole known = absurd known
behind_known (w ∷ ws) r whole (inl i) =
    let k = ending_at w.path r (whole_counts w.path whole.0) i in record { rest = k.rest; ending = inl k.ending; counts = k.counts; parents = λ s p b. inl (k.behind s p b) }
behind_known (w ∷ ws) r whole (inr i) = let k = behind_known ws r whole.1 i in record { rest = k.rest; ending = inr k.ending; counts = k.counts; parents = λ s p b. inr (k.parents s p b) }

-- ---- a revision to follow

-- what stands behind a revision is whole by itself and keeps the parents that are known, and there is nothing behind none
pub record MayBeFollowed (h : HistoryContent) (parent : Option Revision) : Type 0 where
  pub counts : counts_down (ancestors_of_parent h parent) ≡ true
  pub keeps : keeps_parents h (ancestors_of_parent h parent) ≡ true
  pub number : number_before parent ≡ length (ancestors_of_parent h parent)

number_of : (r : Revision) (rest : List Revision) → counts_down (r ∷ rest) ≡ true → r.number ≡ suc (length rest)
number_of r rest c = eqb-true r.number (suc (length rest)) (parts _ _ c).0

known_line : (h : HistoryContent) (r : Revision) (path : List Revision) → is_known h r ≡ true → chain h r ≡ Some path → path_from h r.number r ≡ path
known_line h r path known is = inside (path_from h r.number r) path (sym (ap (λ b. cond b (Some (path_from h r.number r)) None) known) ∙ is)

known_goes_on : (ws : List Write) (r : Revision) → AreWritten ws → is_known (content_of ws) r ≡ true → MayBeFollowed (content_of ws) (Some r)
known_goes_on ws r lawful known =
    let back = behind_known ws r lawful.whole ((is_known_writes ws r).0 known) in
    let same : path_from (content_of ws) r.number r ≡ r ∷ back.rest = known_line (content_of ws) r (r ∷ back.rest) known (chain_is_path ws lawful r back.rest back.ending) in
    record {
      counts = ap counts_down same ∙ back.counts;
      keeps = ap (keeps_parents (content_of ws)) same
          ∙ keeps_where_one_parent ws lawful.whole (r ∷ back.rest) back.counts (λ s p q a b. lawful.one_parent s p q a (back.parents s q b));
      number = number_of r back.rest back.counts ∙ sym (ap length same);
    }

none_goes_on : (h : HistoryContent) → MayBeFollowed h None
none_goes_on h = record { counts = refl; keeps = refl; number = refl }

deleted_known : (h : HistoryContent) (r : Revision) (o : Option Entry) → get h r ≡ o → is_deleted (option_and_then (λ (e : Entry). e.held) o) ≡ true → is_known h r ≡ true
deleted_known h r None is d = cc
deleted_known h r (Some e) is d = ap is_some is

leaf_known : (known childless : Bool) → (known && childless) ≡ true → known ≡ true
leaf_known true childless e = refl
leaf_known false childless e = e

followed : (ws : List Write) (r : Revision) (parent : Option Revision) → AreWritten ws → is_known (content_of ws) r ≡ true → Some (Some r) ≡ Some parent → MayBeFollowed (content_of ws) parent
followed ws r parent lawful known is = subst (MayBeFollowed (content_of ws)) (inside (Some r) parent is) (known_goes_on ws r lawful known)

extended_goes_on : (ws : List Write) (o parent : Option Revision) → AreWritten ws → implicit_parent (content_of ws) o ≡ Some parent → MayBeFollowed (content_of ws) parent
extended_goes_on ws None parent lawful e = subst (MayBeFollowed (content_of ws)) (inside None parent e) (none_goes_on (content_of ws))
extended_goes_on ws (Some r) parent lawful e = by (is_deleted (held_of (content_of ws) r)) refl e
  where
    by : (b : Bool) → is_deleted (held_of (content_of ws) r) ≡ b → cond b (Some (Some r)) None ≡ Some parent → MayBeFollowed (content_of ws) parent
    by true d k = followed ws r parent lawful (deleted_known (content_of ws) r (get (content_of ws) r) refl d) k
    by false d k = cc

base_goes_on : (ws : List Write) (named parent : Option Revision) → AreWritten ws → parent_for_edit (content_of ws) named ≡ Some parent → MayBeFollowed (content_of ws) parent
base_goes_on ws None parent lawful e = extended_goes_on ws (winner (content_of ws)) parent lawful e
base_goes_on ws (Some r) parent lawful e = by (is_leaf (content_of ws) r) refl e
  where
    by : (b : Bool) → is_leaf (content_of ws) r ≡ b → cond b (Some (Some r)) None ≡ Some parent → MayBeFollowed (content_of ws) parent
    by true d k = followed ws r parent lawful (leaf_known (is_known (content_of ws) r) _ d) k
    by false d k = cc

-- ---- the new revision before it

unknown : (o : Option Entry) → is_some o ≡ false → o ≡ None
unknown None h = refl
unknown (Some e) h = cc

whole_next : (h : HistoryContent) (parent : Option Revision) (deleted : Bool) (body : Value) → MayBeFollowed h parent → is_whole_path (next_revision parent deleted body ∷ ancestors_of_parent h parent) ≡ true
whole_next h parent deleted body k =
    let number : (number_before parent + 1 == suc (length (ancestors_of_parent h parent))) ≡ true = grind (arith, nat_tests, k.number) in rw (number, k.counts) refl

-- the write with a new revision comes in
placed_next : (h : HistoryContent) (parent : Option Revision) (deleted : Bool) (body : Value) → MayBeFollowed h parent → is_known h (next_revision parent deleted body) ≡ false
    → placement h (next_revision parent deleted body ∷ ancestors_of_parent h parent) ≡ Ok Added
placed_next h parent deleted body k new =
    let r = next_revision parent deleted body in
    let whole = whole_next h parent deleted body k in
    let none = unknown (get h r) new in
    let keeps : keeps_parents h (r ∷ ancestors_of_parent h parent) ≡ true = rw (none, k.keeps) refl in
    by (is_whole_path (r ∷ ancestors_of_parent h parent)) (keeps_parents h (r ∷ ancestors_of_parent h parent)) (is_known h r) whole keeps new
  where
    by : (a b c : Bool) → a ≡ true → b ≡ true → c ≡ false → cond (not a) (Err BadPath) (cond (not b) (Err OtherParent) (cond c (Ok Known) (Ok Added))) ≡ Ok Added
    by a b c x y z = rw (x, y, z) refl

-- the history that stands behind what was lawfully written, and a revision that an edit may follow
pub goes_on : (ws : List Write) (h : HistoryContent) (named parent : Option Revision) → AreWritten ws → h ≡ content_of ws → parent_for_edit h named ≡ Some parent → MayBeFollowed h parent
goes_on ws h named parent lawful is follows =
    subst (λ (k : HistoryContent). MayBeFollowed k parent) (sym is) (base_goes_on ws named parent lawful (ap (λ (k : HistoryContent). parent_for_edit k named) (sym is) ∙ follows))

pub edit_placed : (ws : List Write) (h : HistoryContent) (named parent : Option Revision) (deleted : Bool) (body : Value) → AreWritten ws → h ≡ content_of ws → parent_for_edit h named ≡ Some parent
    → is_known h (next_revision parent deleted body) ≡ false → placement h (next_revision parent deleted body ∷ ancestors_of_parent h parent) ≡ Ok Added
edit_placed ws h named parent deleted body lawful is follows new = placed_next h parent deleted body (goes_on ws h named parent lawful is follows) new

-- ---- as laws

added_new : (h : HistoryContent) (r : Revision) (rest : List Revision) → placement h (r ∷ rest) ≡ Ok Added → is_known h r ≡ false
added_new h r rest is = by (is_whole_path (r ∷ rest)) (keeps_parents h (r ∷ rest)) (is_known h r) refl is
  where
    by : (a b c : Bool) → is_known h r ≡ c → cond (not a) (Err BadPath) (cond (not b) (Err OtherParent) (cond c (Ok Known) (Ok Added))) ≡ Ok Added → is_known h r ≡ false
    by true true true z e = cc
    by true true false z e = z
    by true false c z e = cc
    by false b c z e = cc

pub edit_fits : (db : Database) (id : List ℕ) (named parent : Option Revision) (deleted : Bool) (body : Value) → IsLawfulDatabase db → parent_for_edit (history_at db id) named ≡ Some parent
    → (placement (history_at db id) (next_revision parent deleted body ∷ ancestors_of_parent (history_at db id) parent) ≡ Ok Added) ↔ (is_known (history_at db id) (next_revision parent deleted body) ≡ false)
edit_fits db id named parent deleted body lawful is =
    let past = writes_behind db id lawful in (
      added_new (history_at db id) (next_revision parent deleted body) (ancestors_of_parent (history_at db id) parent),
      edit_placed past.0 (history_at db id) named parent deleted body past.1 past.2 is,
    )

pub edit_known : (db : Database) (id : List ℕ) (named parent : Option Revision) (deleted : Bool) (body : Value) → IsLawfulDatabase db → parent_for_edit (history_at db id) named ≡ Some parent
    → is_known (history_at db id) (next_revision parent deleted body) ≡ true
    → (placement (history_at db id) (next_revision parent deleted body ∷ ancestors_of_parent (history_at db id) parent) ≡ Ok Known)
    ⊎ (placement (history_at db id) (next_revision parent deleted body ∷ ancestors_of_parent (history_at db id) parent) ≡ Err OtherParent)
edit_known db id named parent deleted body lawful is known =
    let h = history_at db id in
    let past = writes_behind db id lawful in
    let whole = whole_next h parent deleted body (goes_on past.0 h named parent past.1 past.2 is) in
    by (is_whole_path (next_revision parent deleted body ∷ ancestors_of_parent h parent)) (keeps_parents h (next_revision parent deleted body ∷ ancestors_of_parent h parent)) (is_known h (next_revision parent deleted body))
    whole known
  where
    by : (a b c : Bool) → a ≡ true → c ≡ true
        → (cond (not a) (Err BadPath) (cond (not b) (Err OtherParent) (cond c (Ok Known) (Ok Added))) ≡ Ok Known)
        ⊎ (cond (not a) (Err BadPath) (cond (not b) (Err OtherParent) (cond c (Ok Known) (Ok Added))) ≡ Err OtherParent)
    by true true true x z = inl refl
    by true false c x z = inr refl
    by false b c x z = cc
    by true true false x z = cc
