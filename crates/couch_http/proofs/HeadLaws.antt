-- A search for the end of a head passes just what the lines say.
use Rattle.std.proofs.Common.{◌≡◌, ◌≢◌, ℕ, ◌+◌, ◌<◌, ◌≤◌, Bool, true, false, cond, not, ◌&&◌, List, [], ◌∷◌, ◌++◌, length, refl, sym, ap, ◌∙◌, arith, append_assoc, inl, inr, eqb, add-zero}
use Rattle.std.proofs.lemmas.List.{append_cancel_right}
use Rattle.std.proofs.lemmas.List.Elements.{All-head, All-tail, All-cons, All-nil, All-append}
use Rattle.std.proofs.lemmas.Bool.Decides.{nat_tests}
use Rattle.std.specs.Prelude.{All, nat_lt}
use Rattle.std.specs.List.{flat_map}
use Rattle.couch_http.specs.declared.scan.Line.{Line}
use Rattle.couch_http.specs.declared.scan.Line.TheVariants.{Empty, Return, Text}
use Rattle.couch_http.specs.Head.{complete, scan_from, head_scan, line_with, is_empty_so_far, IsEmptyLine, IsTextLine, IsHead}
use Rattle.couch_http.proofs.ScanLemmas.{scan_front}

abbrev all_lines : List (List ℕ) → List ℕ
all_lines lines = flat_map (λ line. line) lines

-- ---- lines are passed

pass_blank : (line more : List ℕ) → IsEmptyLine line → scan_from 0 Empty (line ++ more) ≡ scan_from 0 Empty more
pass_blank line more (inl e) = rw e refl
pass_blank line more (inr e) = rw e refl

pass_blanks : (lines : List (List ℕ)) (more : List ℕ) → All IsEmptyLine lines → scan_from 0 Empty (all_lines lines ++ more) ≡ scan_from 0 Empty more
pass_blanks [] more all = refl
pass_blanks (line ∷ lines) more all =
    ap (scan_from 0 Empty) (append_assoc line (all_lines lines) more)
    ∙ pass_blank line (all_lines lines ++ more) (All-head IsEmptyLine line lines all)
    ∙ pass_blanks lines more (All-tail IsEmptyLine line lines all)

-- a line that has text goes on to its line feed
pass_text : (n : ℕ) (text more : List ℕ) → All (λ b. b ≢ 10) text → scan_from n Text (text ++ 10 ∷ more) ≡ scan_from (n + 1) Empty more
pass_text n [] more all = refl
pass_text n (b ∷ text) more all =
    let other : eqb b 10 ≡ false = grind (arith, nat_tests, All-head (λ b. b ≢ 10) b text all) in
    rw other (pass_text n text more (All-tail (λ b. b ≢ 10) b text all))

pass_return : (n : ℕ) (text more : List ℕ) → All (λ b. b ≢ 10) text → text ≢ [] → scan_from n Return (text ++ 10 ∷ more) ≡ scan_from (n + 1) Empty more
pass_return n [] more all some = absurd (some refl)
pass_return n (b ∷ text) more all some =
    let other : eqb b 10 ≡ false = grind (arith, nat_tests, All-head (λ b. b ≢ 10) b text all) in
    rw other (pass_text n text more (All-tail (λ b. b ≢ 10) b text all))

pass_line : (n : ℕ) (text more : List ℕ) → All (λ b. b ≢ 10) text → text ≢ [] → text ≢ 13 ∷ []
    → scan_from n Empty (text ++ 10 ∷ more) ≡ scan_from (n + 1) Empty more
pass_line n [] more all some blank = absurd (some refl)
pass_line n (b ∷ text) more all some blank =
    let other : eqb b 10 ≡ false = grind (arith, nat_tests, All-head (λ b. b ≢ 10) b text all) in
    rw other (by_return (eqb b 13) refl)
  where
    by_return : (t : Bool) → eqb b 13 ≡ t → scan_from n (cond t Return Text) (text ++ 10 ∷ more) ≡ scan_from (n + 1) Empty more
    by_return true is =
        let same : b ≡ 13 = grind (arith, nat_tests) in
        pass_return n text more (All-tail (λ b. b ≢ 10) b text all) (λ none. blank (rw (same, none) refl))
    by_return false is = pass_text n text more (All-tail (λ b. b ≢ 10) b text all)

pass_lines : (n : ℕ) (lines : List (List ℕ)) (more : List ℕ) → All IsTextLine lines
    → scan_from n Empty (all_lines lines ++ more) ≡ scan_from (n + length lines) Empty more
pass_lines n [] more all = rw add-zero refl
pass_lines n (line ∷ lines) more all =
    let first = All-head IsTextLine line lines all in
    let count : n + 1 + length lines ≡ n + length (line ∷ lines) = omega arith in
    let whole : line ++ all_lines lines ++ more ≡ first.text ++ 10 ∷ (all_lines lines ++ more) =
    ap (λ (l : List ℕ). l ++ all_lines lines ++ more) first.ends
    ∙ append_assoc (first.text ++ 10 ∷ []) (all_lines lines) more ∙ append_assoc first.text (10 ∷ []) (all_lines lines ++ more) in
    ap (scan_from n Empty) whole
    ∙ pass_line n first.text (all_lines lines ++ more) first.one_line first.not_blank.0 first.not_blank.1
    ∙ pass_lines (n + 1) lines more (All-tail IsTextLine line lines all) ∙ ap (λ (k : ℕ). scan_from k Empty more) count

pass_end : (n : ℕ) (line more : List ℕ) → 0 < n → IsEmptyLine line → scan_from n Empty (line ++ more) ≡ complete n more
pass_end n line more some (inl e) = let t : nat_lt 0 n ≡ true = grind (arith, nat_tests) in rw (e, t) refl
pass_end n line more some (inr e) = let t : nat_lt 0 n ≡ true = grind (arith, nat_tests) in rw (e, t) refl

pub head_is_found : (head rest : List ℕ) (lines : ℕ) → IsHead head lines → head_scan (head ++ rest) ≡ complete lines rest
head_is_found head rest lines is =
    let parts : head ++ rest ≡ all_lines is.blank ++ (all_lines is.text ++ (is.end ++ rest)) =
    rw is.joined (append_assoc _ is.end rest ∙ append_assoc (all_lines is.blank) (all_lines is.text) (is.end ++ rest)) in
    let total : 0 + length is.text ≡ lines = omega (arith, is.count.0) in
    ap head_scan parts ∙ pass_blanks is.blank _ is.blank_lines ∙ pass_lines 0 is.text _ is.text_lines
    ∙ ap (λ (k : ℕ). scan_from k Empty (is.end ++ rest)) total ∙ pass_end lines is.end rest is.count.1 is.empty_end

-- ---- what is passed is made of lines

-- what has come of a line
pub data IsSoFar : Line → List ℕ → Type 0 where
  nothing : IsSoFar Empty []
  a_return : IsSoFar Return (13 ∷ [])
  some_text : {text : List ℕ} → All (λ b. b ≢ 10) text → text ≢ [] → text ≢ 13 ∷ [] → IsSoFar Text text

pub no_nil : (b : ℕ) (text : List ℕ) → text ++ b ∷ [] ≢ []
no_nil b [] e = cc
no_nil b (c ∷ text) e = cc

-- one byte more than some is no carriage return alone
pub no_return : (b : ℕ) (text : List ℕ) → text ≢ [] → text ++ b ∷ [] ≢ 13 ∷ []
no_return b [] some e = some refl
no_return b (c ∷ text) some e = no_nil b text cc

pub other_byte : (b : ℕ) → eqb b 10 ≡ false → All (λ c. c ≢ 10) (b ∷ [])
other_byte b is = All-cons (λ c. c ≢ 10) b [] (grind (arith, nat_tests)) (All-nil _)

-- one more byte that is no line feed
so_far_more : (line : Line) (text : List ℕ) (b : ℕ) → eqb b 10 ≡ false → IsSoFar line text → IsSoFar (line_with line b) (text ++ b ∷ [])
so_far_more line text b is nothing = rw is (by_return (eqb b 13) refl)
  where
    by_return : (t : Bool) → eqb b 13 ≡ t → IsSoFar (cond t Return Text) (b ∷ [])
    by_return true same = let e : b ≡ 13 = grind (arith, nat_tests) in rw e a_return
    by_return false same = some_text (other_byte b is) (λ (e : b ∷ [] ≡ []). cc) (λ (e : b ∷ [] ≡ 13 ∷ []). let h : b ≡ 13 = cc in grind (arith, nat_tests))
so_far_more line text b is a_return =
    rw is (some_text (All-append (λ c. c ≢ 10) (13 ∷ []) (b ∷ []) (other_byte 13 refl) (other_byte b is)) (no_nil b (13 ∷ [])) (no_return b (13 ∷ []) (λ (e : 13 ∷ [] ≡ []). cc)))
so_far_more line text b is (some_text all some blank) =
    rw is (some_text (All-append (λ c. c ≢ 10) text (b ∷ []) all (other_byte b is)) (no_nil b text) (no_return b text some))

-- behind so many lines of text, the bytes are empty lines if there were none, lines of text and an empty line
record Rest (lines : ℕ) (bytes : List ℕ) (n : ℕ) : Type 0 where
  blank : List (List ℕ)
  text : List (List ℕ)
  end : List ℕ
  first : 0 < lines → blank ≡ []
  blank_lines : All IsEmptyLine blank
  text_lines : All IsTextLine text
  empty_end : IsEmptyLine end
  count : (lines + length text ≡ n) × (0 < n)
  whole : bytes ≡ all_lines blank ++ (all_lines text ++ end)

-- the line that ends here is empty
ended_empty : (line : Line) (text : List ℕ) → is_empty_so_far line ≡ true → IsSoFar line text → IsEmptyLine (text ++ 10 ∷ [])
ended_empty line text is nothing = inl refl
ended_empty line text is a_return = inr refl
ended_empty line text is (some_text all some blank) = cc

ended_text : (line : Line) (text : List ℕ) → is_empty_so_far line ≡ false → IsSoFar line text → IsTextLine (text ++ 10 ∷ [])
ended_text line text is nothing = cc
ended_text line text is a_return = cc
ended_text line text is (some_text all some blank) = record { text = text; one_line = all; not_blank = (some, blank); ends = refl }

line_fed : (line : Line) (b : ℕ) → eqb b 10 ≡ true → line_with line b ≡ Empty
line_fed Empty b is = rw is refl
line_fed Return b is = rw is refl
line_fed Text b is = rw is refl

rest_of : (head : List ℕ) (lines : ℕ) (line : Line) (text : List ℕ) (n : ℕ) → IsSoFar line text
    → scan_from lines line head ≡ complete n [] → Rest lines (text ++ head) n
rest_of [] lines line text n so e = cc
rest_of (b ∷ head) lines line text n so e =
    by_feed (eqb b 10) refl (rest_of head) e
  where
    again_at : Type 0
    again_at = (k : ℕ) (l : Line) (t : List ℕ) (m : ℕ) → IsSoFar l t → scan_from k l head ≡ complete m [] → Rest k (t ++ head) m

    at_once : b ≡ 10 → is_empty_so_far line ≡ true → nat_lt 0 lines ≡ true → complete lines head ≡ complete n [] → Rest lines (text ++ b ∷ head) n
    at_once fed blank some e =
        let none : head ≡ [] = cc in
        let same : lines ≡ n = cc in
        let more : 0 < lines = grind (arith, nat_tests) in
        record {
          blank = [];
          text = [];
          end = text ++ 10 ∷ [];
          first = λ _. refl;
          blank_lines = All-nil IsEmptyLine;
          text_lines = All-nil IsTextLine;
          empty_end = ended_empty line text blank so;
          count = (omega arith, omega arith);
          whole = rw (fed, none) refl;
        }

    one_blank : b ≡ 10 → is_empty_so_far line ≡ true → nat_lt 0 lines ≡ false → Rest lines head n → Rest lines (text ++ b ∷ head) n
    one_blank fed blank none r =
        let zero : lines ≤ 0 = grind (arith, nat_tests) in
        record {
          blank = (text ++ 10 ∷ []) ∷ r.blank;
          text = r.text;
          end = r.end;
          first = λ (more : 0 < lines). absurd (omega arith);
          blank_lines = All-cons IsEmptyLine (text ++ 10 ∷ []) r.blank (ended_empty line text blank so) r.blank_lines;
          text_lines = r.text_lines;
          empty_end = r.empty_end;
          count = r.count;
          whole =
              rw (fed, ← append_assoc text (10 ∷ []) head)
              (ap (λ (l : List ℕ). (text ++ 10 ∷ []) ++ l) r.whole
              ∙ sym (append_assoc (text ++ 10 ∷ []) (all_lines r.blank) (all_lines r.text ++ r.end)));
        }

    one_text : b ≡ 10 → is_empty_so_far line ≡ false → Rest (lines + 1) head n → Rest lines (text ++ b ∷ head) n
    one_text fed some r =
        let plain : head ≡ all_lines r.text ++ r.end =
        r.whole ∙ ap (λ (l : List (List ℕ)). all_lines l ++ (all_lines r.text ++ r.end)) (r.first (omega arith)) in
        record {
          blank = [];
          text = (text ++ 10 ∷ []) ∷ r.text;
          end = r.end;
          first = λ _. refl;
          blank_lines = All-nil IsEmptyLine;
          text_lines = All-cons IsTextLine (text ++ 10 ∷ []) r.text (ended_text line text some so) r.text_lines;
          empty_end = r.empty_end;
          count = (omega (arith, r.count.0), r.count.1);
          whole =
              rw (fed, ← append_assoc text (10 ∷ []) head)
              (ap (λ (l : List ℕ). (text ++ 10 ∷ []) ++ l) plain ∙ sym (append_assoc (text ++ 10 ∷ []) (all_lines r.text) r.end));
        }

    by_count : (t : Bool) → b ≡ 10 → is_empty_so_far line ≡ true → nat_lt 0 lines ≡ t → again_at
        → cond t (complete lines head) (scan_from lines Empty head) ≡ complete n [] → Rest lines (text ++ b ∷ head) n
    by_count true fed blank is again e = at_once fed blank is e
    by_count false fed blank is again e = one_blank fed blank is (again lines Empty [] n nothing e)

    by_blank : (t : Bool) → b ≡ 10 → is_empty_so_far line ≡ t → again_at
        → cond (t && nat_lt 0 lines) (complete lines head) (scan_from (cond (not t) (lines + 1) lines) Empty head) ≡ complete n []
        → Rest lines (text ++ b ∷ head) n
    by_blank true fed is again e = by_count (nat_lt 0 lines) fed is refl again e
    by_blank false fed is again e = one_text fed is (again (lines + 1) Empty [] n nothing e)

    by_feed : (t : Bool) → eqb b 10 ≡ t → again_at → scan_from lines line (b ∷ head) ≡ complete n [] → Rest lines (text ++ b ∷ head) n
    by_feed false is again e =
        rw append_assoc at (again lines (line_with line b) (text ++ b ∷ []) n (so_far_more line text b is so) (rw is at e))
    by_feed true is again e =
        let fed : b ≡ 10 = grind (arith, nat_tests) in
        by_blank (is_empty_so_far line) fed refl again (rw is at (rw (line_fed line b is) at e))

pub head_is_lines : (head rest : List ℕ) (lines : ℕ) → head_scan (head ++ rest) ≡ complete lines rest → IsHead head lines
head_is_lines head rest lines e =
    let passed = scan_front (head ++ rest) 0 Empty lines rest e in
    let same : passed.head ≡ head = append_cancel_right passed.head head rest (sym passed.joined) in
    let r = rest_of head 0 Empty [] lines nothing (rw same at passed.alone) in
    record {
      blank = r.blank;
      text = r.text;
      end = r.end;
      blank_lines = r.blank_lines;
      text_lines = r.text_lines;
      empty_end = r.empty_end;
      count = (omega (arith, r.count.0), r.count.1);
      joined = r.whole ∙ sym (append_assoc (all_lines r.blank) (all_lines r.text) r.end);
    }
