-- The search for the end of a head, over bytes that come in parts.
use Rattle.std.proofs.Common.{◌≡◌, ℕ, ◌<◌, Bool, true, false, cond, List, [], ◌∷◌, ◌++◌, length, refl, ap, arith}
use Rattle.couch_http.specs.declared.scan.Line.{Line}
use Rattle.couch_http.specs.Head.{within, complete, scan_from, ends_head, lines_with, line_with}

-- more bytes come after the rest
pub scan-append_complete : (bytes more : List ℕ) (lines : ℕ) (line : Line) (n : ℕ) (rest : List ℕ)
    → scan_from lines line bytes ≡ complete n rest → scan_from lines line (bytes ++ more) ≡ complete n (rest ++ more)
scan-append_complete [] more lines line n rest e = cc
scan-append_complete (b ∷ bytes) more lines line n rest e =
    by_test (ends_head lines line b) (scan-append_complete bytes more (lines_with lines line b) (line_with line b) n rest) e
  where
    by_test : (t : Bool)
        → (scan_from (lines_with lines line b) (line_with line b) bytes ≡ complete n rest
        → scan_from (lines_with lines line b) (line_with line b) (bytes ++ more) ≡ complete n (rest ++ more))
        → cond t (complete lines bytes) (scan_from (lines_with lines line b) (line_with line b) bytes) ≡ complete n rest
        → cond t (complete lines (bytes ++ more)) (scan_from (lines_with lines line b) (line_with line b) (bytes ++ more))
        ≡ complete n (rest ++ more)
    by_test true again e = cc
    by_test false again e = again e

-- a search that found no end goes on in them
pub scan-append_within : (bytes more : List ℕ) (lines : ℕ) (line : Line) (n : ℕ) (m : Line)
    → scan_from lines line bytes ≡ within n m → scan_from lines line (bytes ++ more) ≡ scan_from n m more
scan-append_within [] more lines line n m e = cc
scan-append_within (b ∷ bytes) more lines line n m e =
    by_test (ends_head lines line b) (scan-append_within bytes more (lines_with lines line b) (line_with line b) n m) e
  where
    by_test : (t : Bool)
        → (scan_from (lines_with lines line b) (line_with line b) bytes ≡ within n m
        → scan_from (lines_with lines line b) (line_with line b) (bytes ++ more) ≡ scan_from n m more)
        → cond t (complete lines bytes) (scan_from (lines_with lines line b) (line_with line b) bytes) ≡ within n m
        → cond t (complete lines (bytes ++ more)) (scan_from (lines_with lines line b) (line_with line b) (bytes ++ more))
        ≡ scan_from n m more
    by_test true again e = cc
    by_test false again e = again e

-- what a search found, as the head that it passed
pub record Passed (bytes : List ℕ) (lines : ℕ) (line : Line) (n : ℕ) (rest : List ℕ) : Type 0 where
  pub head : List ℕ
  pub joined : bytes ≡ head ++ rest
  pub alone : scan_from lines line head ≡ complete n []
  pub shorter : length rest < length bytes

pub scan_front : (bytes : List ℕ) (lines : ℕ) (line : Line) (n : ℕ) (rest : List ℕ)
    → scan_from lines line bytes ≡ complete n rest → Passed bytes lines line n rest
scan_front [] lines line n rest e = cc
scan_front (b ∷ bytes) lines line n rest e =
    by_test (ends_head lines line b) refl (scan_front bytes (lines_with lines line b) (line_with line b) n rest) e
  where
    by_test : (t : Bool) → ends_head lines line b ≡ t
        → (scan_from (lines_with lines line b) (line_with line b) bytes ≡ complete n rest
        → Passed bytes (lines_with lines line b) (line_with line b) n rest)
        → cond t (complete lines bytes) (scan_from (lines_with lines line b) (line_with line b) bytes) ≡ complete n rest
        → Passed (b ∷ bytes) lines line n rest
    by_test true is again e = record {
      head = b ∷ [];
      joined = cc;
      alone = rw is cc;
      shorter = let same : bytes ≡ rest = cc in omega (arith, ap length same);
    }
    by_test false is again e =
        let found = again e in
        record {
          head = b ∷ found.head;
          joined = ap (λ (l : List ℕ). b ∷ l) found.joined;
          alone = rw is found.alone;
          shorter = omega (arith, found.shorter);
        }
