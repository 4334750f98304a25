-- Where a script stops.
use Rattle.std.proofs.Common.{ℕ, zero, suc, ◌≡◌, ◌≢◌, ◌∙◌, ◌+◌, ◌<◌, ◌≤◌, Bool, true, false, cond, List, [], Option, Some, None, ap, sym, subst, refl, arith, add-one, inl, inr, ◌⊎◌}
use Rattle.std.proofs.lemmas.Bool.{cases_lt}
use Rattle.std.specs.Prelude.{IfSome, Result, Ok, Err, is_some, option_and_then}
use Rattle.std.specs.Result.{IsErrAnd}
use Rattle.std.specs.Io.BufRead.{first_piece, strip_last, take_through}
use Rattle.std.specs.Io.KnownBytes.{IsAtEnd}
use Rattle.auth.specs.Callers.{Configuration}
use Rattle.command_line.specs.Faults.{IsOfNoLine}
use Rattle.command_line.specs.declared.fault.ProgramFault.{ProgramFault}
use Rattle.command_line.specs.declared.fault.ProgramFault.TheVariants as program
use Rattle.store.specs.declared.store.Store.{Ghosts}
use Rattle.lab.specs.Playing.{ReadsLines, after_lines}
use Rattle.lab.specs.Scene.{Scene, laying}
use Rattle.lab.specs.Script.{ScriptLine, line_of}
use Rattle.lab.specs.Stages.{AreBytesPlayed}
use Rattle.lab.specs.Stopping.{ArePlayable, IsStoppedAt, ScriptNames, StopsAt, can_be_played, names_after, names_at, names_behind, names_in, no_names}
use Rattle.lab.proofs.PlayLemmas.{after_lines-end}
use Rattle.lab.proofs.StoppingLemmas.{AreSameNames, plays_names, same_after, same_playable, same_then, same_themselves}

-- the first so many lines of a script can be played, and have named what the program has
pub record HaveNamed {S : Type 0} (g : Ghosts S) (n : ℕ) (script : List ℕ) (scene : Scene S) : Type 0 where
  pub names : ScriptNames
  pub at : names_at n script ≡ Some names
  pub same : AreSameNames names (names_in g scene)

-- no line has
pub HaveNamed-none : {S : Type 0} (g : Ghosts S) (old : Option (List ℕ)) (scene : Scene S) → scene ≡ laying [] → IfSome old (λ script. HaveNamed g 0 script scene)
HaveNamed-none g None scene same = tt
HaveNamed-none {S} g (Some script) scene same = record {
  names = no_names;
  at = refl;
  same = subst (λ (s : Scene S). AreSameNames no_names (names_in g s)) (sym same) (same_themselves no_names);
}

named_more : {S : Type 0} (g : Ghosts S) (c : Configuration) (n : ℕ) (script bytes : List ℕ) (b d : Option (List ℕ)) (before after : Scene S)
    → HaveNamed g n script before → bytes ≡ first_piece 10 (after_lines n script) → AreBytesPlayed g c before bytes b d after → HaveNamed g (n + 1) script after
named_more g c n script bytes b d before after p same q =
    let f = plays_names g c before after q.0 q.2.0 q.2.1 in
    let can : can_be_played p.names q.0 ≡ true = same_playable p.names (names_in g before) q.0 p.same ∙ f.can in
    let at = p.at in
    let said : line_of (first_piece 10 (after_lines n script)) ≡ Some q.0 = ap line_of (sym same) ∙ q.1 in
    record {
      names = names_after p.names q.0;
      at = rw (add-one, at, said, can) refl;
      same = same_then (names_after p.names q.0) (names_after (names_in g before) q.0) (names_in g after) (same_after p.names (names_in g before) q.0 p.same) f.names;
    }

-- one more line was read and played
pub HaveNamed-more : {S : Type 0} (g : Ghosts S) (c : Configuration) (n : ℕ) (old now : Option (List ℕ)) (line : List ℕ) (b d : Option (List ℕ)) (before after : Scene S)
    → IfSome old (λ script. HaveNamed g n script before) → ReadsLines n old now → IfSome now (λ rest. line ≡ take_through 10 rest)
    → AreBytesPlayed g c before (strip_last 10 line) b d after → IfSome old (λ script. HaveNamed g (n + 1) script after)
HaveNamed-more g c n None now line b d before after p reads is q = tt
HaveNamed-more g c n (Some script) now line b d before after p reads is q =
    let same : line ≡ take_through 10 (after_lines n script) = rw reads at is in
    named_more g c n script (strip_last 10 line) b d before after p (ap (strip_last 10) same) q

-- ---- lines that can't be played

none_only_false : {A : Type 0} (b : Bool) (x : A) → cond b (Some x) None ≡ None → b ≡ false
none_only_false true x e = absurd cc
none_only_false false x e = refl

-- a line that is bad behind these names is bad behind the same names
bad_alike : (a b : ScriptNames) (line : Option ScriptLine) → AreSameNames a b
    → option_and_then (λ l. cond (can_be_played b l) (Some (names_after b l)) None) line ≡ None
    → option_and_then (λ l. cond (can_be_played a l) (Some (names_after a l)) None) line ≡ None
bad_alike a b None p e = refl
bad_alike a b (Some line) p e =
    let can : can_be_played a line ≡ false = same_playable a b line p ∙ none_only_false (can_be_played b line) (names_after b line) e in
    rw can refl

stops_at : {S : Type 0} (g : Ghosts S) (n m : ℕ) (script bytes : List ℕ) (scene : Scene S) → HaveNamed g n script scene → after_lines n script ≢ []
    → bytes ≡ first_piece 10 (after_lines n script) → names_behind (names_in g scene) bytes ≡ None → n + 1 ≡ m → StopsAt m script
stops_at g n m script bytes scene p there same bad is =
    let at = p.at in
    let none : names_behind p.names bytes ≡ None = bad_alike p.names (names_in g scene) (line_of bytes) p.same bad in
    let here : names_behind p.names (first_piece 10 (after_lines n script)) ≡ None = ap (names_behind p.names) (sym same) ∙ none in
    (n, sym is, there, ap is_some at, (rw at here))

-- the next line can't be played
pub StopsAt-here : {S : Type 0} (g : Ghosts S) (n m : ℕ) (old now : Option (List ℕ)) (line : List ℕ) (scene : Scene S)
    → IfSome old (λ script. HaveNamed g n script scene) → ReadsLines n old now → IfSome now (λ rest. rest ≢ []) → IfSome now (λ rest. line ≡ take_through 10 rest)
    → names_behind (names_in g scene) (strip_last 10 line) ≡ None → n + 1 ≡ m → IfSome old (StopsAt m)
StopsAt-here g n m None now line scene p reads some is bad e = tt
StopsAt-here g n m (Some script) now line scene p reads some is bad e =
    let same : line ≡ take_through 10 (after_lines n script) = rw reads at is in
    let there : after_lines n script ≢ [] = rw reads at some in
    stops_at g n m script (strip_last 10 line) scene p there (ap (strip_last 10) same) bad e

-- ---- fewer lines

some_before : {A B : Type 0} (f : A → Option B) (o : Option A) → is_some (option_and_then f o) ≡ true → is_some o ≡ true
some_before f None e = e
some_before f (Some x) e = refl

one_before : (script : List ℕ) (n k : ℕ) → (k ≤ n → is_some (names_at n script) ≡ true → is_some (names_at k script) ≡ true) → k ≤ suc n → is_some (names_at (suc n) script) ≡ true
    → (k < suc n) ⊎ (suc n ≤ k) → is_some (names_at k script) ≡ true
one_before script n k before le e (inl lt) =
    before (omega (arith, lt)) (some_before (λ (names : ScriptNames). names_behind names (first_piece 10 (after_lines n script))) (names_at n script) e)
one_before script n k before le e (inr ge) = let same : k ≡ suc n = omega (arith, le, ge) in rw same e

names_at-before : (script : List ℕ) (n k : ℕ) → k ≤ n → is_some (names_at n script) ≡ true → is_some (names_at k script) ≡ true
names_at-before script zero k le e = let same : k ≡ zero = omega arith in rw same e
names_at-before script (suc n) k le e = one_before script n k (names_at-before script n k) le e (cases_lt k (suc n))

playable_read : (n : ℕ) (script : List ℕ) → after_lines n script ≡ [] → is_some (names_at n script) ≡ true → ArePlayable script
playable_read n script over all k there = go (cases_lt k n)
  where
    go : (k < n) ⊎ (n ≤ k) → is_some (names_at (suc k) script) ≡ true
    go (inl lt) = names_at-before script n (suc k) (omega (arith, lt)) all
    go (inr le) = absurd (there (after_lines-end script n k over le))

-- at the end all lines of the script were played
pub ArePlayable-end : {S : Type 0} (g : Ghosts S) (n : ℕ) (old now : Option (List ℕ)) (scene : Scene S) → IfSome old (λ script. HaveNamed g n script scene) → ReadsLines n old now → IsAtEnd now
    → IfSome old ArePlayable
ArePlayable-end g n None now scene p reads end = tt
ArePlayable-end g n (Some script) now scene p reads end = playable_read n script (rw reads at end) (ap is_some p.at)

-- ---- what a result says of a script with a bad line

none_is_not_some : {A : Type 0} (o : Option A) → o ≡ None → is_some o ≡ true → ⊥
none_is_not_some None e some = absurd cc
none_is_not_some (Some x) e some = absurd cc

not_before : (script : List ℕ) (n m : ℕ) (p : StopsAt n script) (q : StopsAt m script) → p.0 < q.0 → ⊥
not_before script n m p q lt = none_is_not_some (names_at (suc p.0) script) p.4 (names_at-before script q.0 (suc p.0) (omega (arith, lt)) q.3)

pub stops_once : (script : List ℕ) (n m : ℕ) → StopsAt n script → StopsAt m script → m ≡ n
stops_once script n m p q = go (cases_lt p.0 q.0) (cases_lt q.0 p.0)
  where
    go : (p.0 < q.0) ⊎ (q.0 ≤ p.0) → (q.0 < p.0) ⊎ (p.0 ≤ q.0) → m ≡ n
    go (inl lt) other = absurd (not_before script n m p q lt)
    go (inr le) (inl lt) = absurd (not_before script m n q p lt)
    go (inr le) (inr ge) = let here = p.1 in let there = q.1 in omega (arith, here, there, le, ge)

pub stopped-ok : (old : Option (List ℕ)) (status : ℕ) → IfSome old ArePlayable → IfSome old (λ script. (n : ℕ) → StopsAt n script → IsStoppedAt n (Ok status))
stopped-ok None status p = tt
stopped-ok (Some script) status p = λ n s. none_is_not_some (names_at (suc s.0) script) s.4 (p s.0 s.2)

pub stopped-err : (old : Option (List ℕ)) (fault : ProgramFault) → ((m : ℕ) → fault ≡ program.Line m → IfSome old (StopsAt m))
    → IfSome old (λ script. (n : ℕ) → StopsAt n script → IsStoppedAt n (Err fault))
stopped-err None fault p = tt
stopped-err (Some script) fault p = λ n s m e. stops_once script n m s (p m e)

pub stopped-other : (old : Option (List ℕ)) (fault : ProgramFault) → IsOfNoLine fault → IfSome old (λ script. (n : ℕ) → StopsAt n script → IsStoppedAt n (Err fault))
stopped-other old fault p = stopped-err old fault (λ m e. absurd (p m e))

-- a fault of no line
pub stopped_fault : (old : Option (List ℕ)) (r : Result ℕ ProgramFault) → IsErrAnd r IsOfNoLine → IfSome old (λ script. (n : ℕ) → StopsAt n script → IsStoppedAt n r)
stopped_fault old (Ok x) p = absurd p
stopped_fault old (Err fault) p = stopped-other old fault p

-- one that is passed on
pub stopped_passed : (old : Option (List ℕ)) (fault : ProgramFault) (r : Result ℕ ProgramFault) → IsErrAnd r (λ made. made ≡ fault) → IsOfNoLine fault
    → IfSome old (λ script. (n : ℕ) → StopsAt n script → IsStoppedAt n r)
stopped_passed old fault (Ok x) p j = absurd p
stopped_passed old fault (Err made) p j = stopped-other old made (subst IsOfNoLine (sym p) j)
