-- Lines read one after the other, and what they print.
use Rattle.std.proofs.Common.{ℕ, ◌≡◌, ◌∙◌, ◌+◌, ◌<◌, ◌≤◌, ◌++◌, zero, suc, true, List, [], Option, Some, None, ap, sym, refl, append-nil, inl, inr, ◌⊎◌, arith, add-one, below_more}
use Rattle.std.specs.Prelude.{IfSome, OnOk, Result, Ok, Err, is_some}
use Rattle.std.specs.Io.BufRead.{drop_through, first_piece, strip_last, take_through}
use Rattle.std.specs.Io.KnownBytes.{IsAtEnd, Keeps}
use Rattle.std.proofs.lemmas.Bool.{cases_lt}
use Rattle.lab.specs.Playing.{AreLines, Prints, ReadsLines, after_lines, fault_at}
use Rattle.lab.specs.Script.{line_of}
use Rattle.lab.specs.declared.fault.LineFault.{LineFault}
use Rattle.lab.specs.declared.fault.LineFault.TheVariants as line
use Rattle.command_line.specs.declared.fault.ProgramFault.TheVariants as program
use Rattle.lab.proofs.ReplyLemmas.{Appends-then}

pub OnOk-then : {T E P Q : Type 0} (r : Result T E) → OnOk r P → (P → Q) → OnOk r Q
OnOk-then (Ok v) p f = f p
OnOk-then (Err e) p f = tt

pub OnOk-always : {T E P : Type 0} (r : Result T E) → P → OnOk r P
OnOk-always (Ok v) p = p
OnOk-always (Err e) p = tt

pub Prints-nothing : (a : Option (List ℕ)) → Prints a a
Prints-nothing None = ([], tt)
Prints-nothing (Some a) = ([], sym (append-nil a))

pub Prints-then : (a b c : Option (List ℕ)) → Prints a b → Prints b c → Prints a c
Prints-then a b c p q = (p.0 ++ q.0, Appends-then a b c p.0 q.0 p.1 q.1)

pub Keeps-prints : (a b : Option (List ℕ)) → Keeps a b → Prints a b
Keeps-prints None b p = ([], tt)
Keeps-prints (Some a) None p = absurd p
Keeps-prints (Some a) (Some b) p = ([], p ∙ sym (append-nil a))

-- no line was read
pub ReadsLines-none : (a : Option (List ℕ)) → ReadsLines 0 a a
ReadsLines-none None = tt
ReadsLines-none (Some script) = refl

pub lines-none : (a : Option (List ℕ)) → IfSome a (λ script. (k : ℕ) → k < 0 → is_some (line_of (first_piece 10 (after_lines k script))) ≡ true)
lines-none None = tt
lines-none (Some script) = λ k below. absurd (omega (arith, below))

-- one more line was read
pub ReadsLines-more : (n : ℕ) (a b c : Option (List ℕ)) → ReadsLines n a b → IfSome b (λ script. c ≡ Some (drop_through 10 script)) → ReadsLines (n + 1) a c
ReadsLines-more n None b c p q = tt
ReadsLines-more n (Some script) b c p q = rw add-one (rw p at q)

-- and it is a line
pub lines-more : (n : ℕ) (a b : Option (List ℕ)) (bytes : List ℕ) → ReadsLines n a b → IfSome b (λ script. bytes ≡ take_through 10 script)
    → is_some (line_of (strip_last 10 bytes)) ≡ true → IfSome a (λ script. (k : ℕ) → k < n → is_some (line_of (first_piece 10 (after_lines k script))) ≡ true)
    → IfSome a (λ script. (k : ℕ) → k < n + 1 → is_some (line_of (first_piece 10 (after_lines k script))) ≡ true)
lines-more n None b bytes p q is lines = tt
lines-more n (Some script) b bytes p q is lines = below_more _ _ lines (rw (rw p at q) at is)

after_lines-step : (script : List ℕ) (n k : ℕ) → after_lines n script ≡ [] → n ≤ suc k → (n ≤ k → after_lines k script ≡ []) → (k < n) ⊎ (n ≤ k)
    → after_lines (suc k) script ≡ []
after_lines-step script n k at le before (inl lt) = let same : n ≡ suc k = omega arith in rw same at at
after_lines-step script n k at le before (inr within) = ap (drop_through 10) (before within)

-- behind the end there are no lines
pub after_lines-end : (script : List ℕ) (n k : ℕ) → after_lines n script ≡ [] → n ≤ k → after_lines k script ≡ []
after_lines-end script n zero at le = let same : n ≡ zero = omega arith in rw same at at
after_lines-end script n (suc k) at le = after_lines-step script n k at le (λ within. after_lines-end script n k at within) (cases_lt k n)

AreLines-read : (n : ℕ) (script : List ℕ) → after_lines n script ≡ []
    → ((k : ℕ) → k < n → is_some (line_of (first_piece 10 (after_lines k script))) ≡ true) → AreLines script
AreLines-read n script at lines k there = go (cases_lt k n)
  where
    go : (k < n) ⊎ (n ≤ k) → is_some (line_of (first_piece 10 (after_lines k script))) ≡ true
    go (inl lt) = lines k lt
    go (inr le) = absurd (there (after_lines-end script n k at le))

-- at the end all lines of the script were read
pub AreLines-end : (n : ℕ) (a b : Option (List ℕ)) → ReadsLines n a b → IsAtEnd b
    → IfSome a (λ script. (k : ℕ) → k < n → is_some (line_of (first_piece 10 (after_lines k script))) ≡ true) → IfSome a AreLines
AreLines-end n None b p at lines = tt
AreLines-end n (Some script) b p at lines = AreLines-read n script (rw p at at) lines

-- and nothing is left
pub nothing-left : (n : ℕ) (a b c : Option (List ℕ)) → ReadsLines n a b → IsAtEnd b → IfSome b (λ script. c ≡ Some (drop_through 10 script)) → IfSome a (λ _. c ≡ Some [])
nothing-left n None b c p at rest = tt
nothing-left n (Some script) b c p at rest =
    let end : after_lines n script ≡ [] = rw p at at in
    (rw p at rest) ∙ ap (λ xs. Some (drop_through 10 xs)) end

-- the number in the fault of a line
pub fault_at-line : (fault : LineFault) (k n : ℕ) → fault_at fault k ≡ program.Line n → k ≡ n
fault_at-line line.Line k n e = cc
fault_at-line line.File k n e = absurd (cc)
fault_at-line line.Memory k n e = absurd (cc)

pub fault_at-is_line : (fault : LineFault) (k n : ℕ) → fault_at fault k ≡ program.Line n → fault ≡ line.Line
fault_at-is_line line.Line k n e = refl
fault_at-is_line line.File k n e = absurd (cc)
fault_at-is_line line.Memory k n e = absurd (cc)
