-- What a fault leaves of a line that was to be printed.
use Rattle.std.proofs.Common.{◌≡◌, ◌∙◌, [], ℕ, List, Option, inl, inr, refl, subst, sym}
use Rattle.std.proofs.KnownBytes.{Appends-nil}
use Rattle.std.specs.Io.KnownBytes.{Appends}
use Rattle.std.specs.Prelude.{◌⊎◌, IfErr, IsErrAnd, Result, Ok, Err, false}
use Rattle.command_line.specs.declared.fault.ProgramFault.{ProgramFault}
use Rattle.command_line.specs.declared.fault.ProgramFault.TheVariants.{File, Line, Memory, Socket}
use Rattle.couch_http.specs.Writing.{Takes}
use Rattle.sync.specs.Ending.{IsUntold, IsUnwritten, StandsIn}
use Rattle.sync.specs.Turns.{RunsOut, TurnOf}

-- the fault that is told is the one that came
pub same_fault : {X : Type 0} (r : Result X ProgramFault) (came told : ProgramFault) → IsErrAnd r (λ f. f ≡ came) → r ≡ Err told → came ≡ told
same_fault (Ok x) came told is e = absurd is
same_fault (Err f) came told is e = cc

-- it is one of two
pub told_fault : {X : Type 0} (r : Result X ProgramFault) (came : ProgramFault) → IsErrAnd r (λ f. f ≡ came) → (came ≡ File) ⊎ (came ≡ Memory) → IfErr r (λ f. (f ≡ File) ⊎ (f ≡ Memory))
told_fault (Ok x) came is one = tt
told_fault (Err f) came is (inl file) = inl (is ∙ file)
told_fault (Err f) came is (inr memory) = inr (is ∙ memory)

-- a pass whose end was not reached, of which nothing was printed
pub untold : {A P : Type 0} (turn : TurnOf A) (before after : A) (old : Option (List ℕ)) → P ⊎ RunsOut turn before after → (P × (old ≡ old)) ⊎ IsUntold turn before after old old
untold turn before after old (inl p) = inl (p, refl)
untold turn before after old (inr r) = inr (inl (r, refl))

module _ (old new : Option (List ℕ)) (text : List ℕ) where
  -- whichever fault it is, what was printed before stands
  pub stands_in : (fault : ProgramFault) → IsUnwritten old new text fault → StandsIn old new
  stands_in Memory same = ([], subst (λ (now : Option (List ℕ)). Appends old now []) (sym same) (Appends-nil old))
  stands_in File taken = (taken.0, taken.1)
  stands_in Socket none = absurd none
  stands_in (Line n) none = absurd none

  pub unwritten_fault : (fault : ProgramFault) → IsUnwritten old new text fault → (fault ≡ File) ⊎ (fault ≡ Memory)
  unwritten_fault Memory same = inr refl
  unwritten_fault File taken = inl refl
  unwritten_fault Socket none = absurd none
  unwritten_fault (Line n) none = absurd none

  -- where memory ran out nothing was printed
  pub nothing_written : {X : Type 0} (r : Result X ProgramFault) (fault : ProgramFault) → IsErrAnd r (λ f. f ≡ fault) → r ≡ Err Memory → IsUnwritten old new text fault → new ≡ old
  nothing_written (Ok x) fault is memory unwritten = absurd is
  nothing_written (Err f) fault is memory unwritten =
      let same : fault ≡ Memory = cc in
      subst (λ (one : ProgramFault). IsUnwritten old new text one) same unwritten

  -- else no more was printed than a first part
  pub not_whole : {X : Type 0} (r : Result X ProgramFault) (fault : ProgramFault) → IsErrAnd r (λ f. f ≡ fault) → r ≡ Err File → IsUnwritten old new text fault → Takes old new text false
  not_whole (Ok x) fault is file unwritten = absurd is
  not_whole (Err f) fault is file unwritten =
      let same : fault ≡ File = cc in
      subst (λ (one : ProgramFault). IsUnwritten old new text one) same unwritten
