-- How streams begin: with a head that is whole, or with less.
use Rattle.std.proofs.Common.{◌≡◌, ℕ, ◌+◌, ◌-◌, ◌<◌, ◌≤◌, Bool, true, false, cond, List, [], ◌++◌, length, take, drop, refl, sym, ap, ◌∙◌, arith, append_assoc, take-append-drop, length-append, length-drop, Ok, Err, Result, map, inl, inr}
use Rattle.std.proofs.lemmas.List.{append_cancel_right, drop_at, drop-drop}
use Rattle.std.proofs.lemmas.Bool.{le-ltb, lt-ltb}
use Rattle.std.proofs.Math.Seq.{take-append-add}
use Rattle.std.specs.Prelude.{MatchBool, nat_lt}
use Rattle.couch_http.specs.declared.scan.Line.{Line}
use Rattle.couch_http.specs.declared.scan.Line.TheVariants.{Empty}
use Rattle.couch_http.specs.declared.fault.HttpFault.{HttpFault}
use Rattle.couch_http.specs.declared.fault.HttpFault.TheVariants.{Encoding, TooLarge}
use Rattle.couch_http.specs.Message.{HeaderField, Message}
use Rattle.couch_http.specs.Fields.{has_transfer_encoding, request_length}
use Rattle.couch_http.specs.Head.{HeadScan, within, complete, scan_from, head_scan}
use Rattle.couch_http.specs.Stream.{Front, waits, broken, whole, head_limit, Begins, AtHead, AtScan, ReadsHead, is_too_large, unfinished_head, StandsAtHead, BeginsBy, field_of, announced_request, with_content, with_body, with_length, after_head}
use Rattle.couch_http.proofs.ScanLemmas.{scan-append_complete, scan-append_within, scan_front}

-- a stream whose head is whole
pub BeginsBy-head : {A : Type 0} (Reads : List ℕ → List ℕ → Front A → Type 0) (head rest : List ℕ) (lines : ℕ) (front : Front A)
    → head_scan head ≡ complete lines [] → StandsAtHead Reads head lines rest front → BeginsBy Reads (head ++ rest) front
BeginsBy-head Reads head rest lines front scanned at =
    rw (scan-append_complete head rest 0 Empty lines [] scanned) (head, refl, at)

pub Begins-head : (head rest : List ℕ) (lines : ℕ) (front : Front Message) → head_scan head ≡ complete lines []
    → AtHead head lines rest front → Begins (head ++ rest) front
unfolding Begins
Begins-head head rest lines front scanned at = BeginsBy-head ReadsHead head rest lines front scanned at

pub Begins-large : (head rest : List ℕ) (lines : ℕ) → head_scan head ≡ complete lines []
    → is_too_large head lines ≡ true → Begins (head ++ rest) (broken TooLarge)
Begins-large head rest lines scanned large = Begins-head head rest lines _ scanned (rw large refl)

pub Begins-read : (head rest : List ℕ) (lines : ℕ) (front : Front Message) → head_scan head ≡ complete lines []
    → is_too_large head lines ≡ false → ReadsHead head rest front → Begins (head ++ rest) front
Begins-read head rest lines front scanned small read = Begins-head head rest lines _ scanned (rw small read)

-- a stream without a whole head
pub BeginsBy-unfinished : {A : Type 0} (Reads : List ℕ → List ℕ → Front A → Type 0) (bytes : List ℕ) (n : ℕ) (line : Line)
    → head_scan bytes ≡ within n line → BeginsBy Reads bytes (unfinished_head bytes)
BeginsBy-unfinished Reads bytes n line scanned = rw scanned refl

pub Begins-unfinished : (bytes : List ℕ) (n : ℕ) (line : Line) → head_scan bytes ≡ within n line
    → Begins bytes (unfinished_head bytes)
unfolding Begins
Begins-unfinished bytes n line scanned = BeginsBy-unfinished ReadsHead bytes n line scanned

pub Begins-waits : (bytes : List ℕ) (n : ℕ) (line : Line) → head_scan bytes ≡ within n line
    → nat_lt (length bytes) head_limit ≡ true → Begins bytes waits
Begins-waits bytes n line scanned short = rw short at (Begins-unfinished bytes n line scanned)

pub Begins-long : (bytes : List ℕ) (n : ℕ) (line : Line) → head_scan bytes ≡ within n line
    → nat_lt (length bytes) head_limit ≡ false → Begins bytes (broken TooLarge)
Begins-long bytes n line scanned long = rw long at (Begins-unfinished bytes n line scanned)

-- the head that a search passed is whole by itself
pub head_scan-take : (bytes : List ℕ) (len n : ℕ) → head_scan bytes ≡ complete n (drop len bytes)
    → head_scan (take len bytes) ≡ complete n []
head_scan-take bytes len n scanned =
    let passed = scan_front bytes 0 Empty n (drop len bytes) scanned in
    let same : take len bytes ≡ passed.head =
    append_cancel_right (take len bytes) passed.head (drop len bytes) (take-append-drop len bytes ∙ passed.joined) in
    rw same passed.alone

-- the same where the head came in two parts
pub record EndsIn (old piece : List ℕ) (len n : ℕ) : Type 0 where
  pub whole : head_scan (old ++ take len piece) ≡ complete n []
  pub joined : (old ++ take len piece) ++ drop len piece ≡ old ++ piece

pub head_ends : (old piece : List ℕ) (lines : ℕ) (line : Line) (len n : ℕ) → head_scan old ≡ within lines line
    → complete n (drop len piece) ≡ scan_from lines line piece → EndsIn old piece len n
head_ends old piece lines line len n before scanned =
    let past : drop (length old + len) (old ++ piece) ≡ drop len piece =
    sym (drop-drop len (length old) (old ++ piece)) ∙ ap (drop len) (drop_at old piece (length old) refl) in
    let found : head_scan (old ++ piece) ≡ complete n (drop (length old + len) (old ++ piece)) =
    scan-append_within old piece 0 Empty lines line before ∙ sym scanned ∙ ap (complete n) (sym past) in
    record {
      whole = ap head_scan (sym (take-append-add old piece len)) ∙ head_scan-take (old ++ piece) (length old + len) n found;
      joined = append_assoc old (take len piece) (drop len piece) ∙ ap (λ (l : List ℕ). old ++ l) (take-append-drop len piece);
    }

-- a request leaves less than the stream had
pub whole_shorter : (m n : Message) (rest after : List ℕ) (size : Result ℕ HttpFault) → whole m rest ≡ with_length n size after
    → length rest ≤ length after
whole_shorter m n rest after (Err fault) e = cc
whole_shorter m n rest after (Ok size) e = by_test (nat_lt (length after) size) e
  where
    by_test : (t : Bool) → whole m rest ≡ cond t waits (whole (record n { body = take size after }) (drop size after))
        → length rest ≤ length after
    by_test true e = cc
    by_test false e =
        let same : rest ≡ drop size after = cc in
        omega (arith, ap length same, length-drop size after)

pub after_head_shorter : (m : Message) (rest method target : List ℕ) (minor : ℕ) (headers : List HeaderField) (after : List ℕ)
    → whole m rest ≡ after_head method target minor headers after → length rest ≤ length after
after_head_shorter m rest method target minor headers after e = by_test (has_transfer_encoding headers) e
  where
    by_test : (t : Bool)
        → whole m rest ≡ cond t (broken Encoding) (with_length (announced_request method target minor headers) (request_length headers) after)
        → length rest ≤ length after
    by_test true e = cc
    by_test false e = whole_shorter m (announced_request method target minor headers) rest after (request_length headers) e

pub Begins_shorter : (bytes : List ℕ) (m : Message) (rest : List ℕ) → Begins bytes (whole m rest) → length rest < length bytes
unfolding Begins
Begins_shorter bytes m rest begins = by_scan (head_scan bytes) refl begins
  where
    by_test : (t : Bool) → whole m rest ≡ cond t waits (broken TooLarge) → length rest < length bytes
    by_test true e = cc
    by_test false e = cc

    by_size : (t : Bool) (head after : List ℕ) → length after < length bytes
        → MatchBool t (whole m rest ≡ broken TooLarge) (ReadsHead head after (whole m rest)) → length rest < length bytes
    by_size true head after shorter e = cc
    by_size false head after shorter (inl (h, of, e)) =
        omega (arith, shorter, after_head_shorter m rest h.method h.target h.minor (map field_of h.fields) after e)
    by_size false head after shorter (inr (none, e)) = cc

    by_scan : (s : HeadScan) → head_scan bytes ≡ s → AtScan s bytes (whole m rest) → length rest < length bytes
    by_scan (within n line) is at = by_test (nat_lt (length bytes) head_limit) at
    by_scan (complete n after) is at =
        by_size (is_too_large at.0 n) at.0 after (scan_front bytes 0 Empty n after is).shorter at.2

-- a body that is whole with the next piece
pub with_content-done : {A : Type 0} (made : List ℕ → A) (size : ℕ) (body piece : List ℕ) → length body ≤ size → size - length body ≤ length piece
    → with_content made size (body ++ piece) ≡ whole (made (body ++ take (size - length body) piece)) (drop (size - length body) piece)
with_content-done made size body piece inside enough =
    let long : size ≤ length (body ++ piece) = omega (arith, length-append body piece) in
    let all : nat_lt (length (body ++ piece)) size ≡ false = le-ltb (length (body ++ piece)) size long in
    let sum : length body + (size - length body) ≡ size = omega arith in
    let front : take size (body ++ piece) ≡ body ++ take (size - length body) piece =
    ap (λ (n : ℕ). take n (body ++ piece)) (sym sum) ∙ take-append-add body piece (size - length body) in
    let after : drop size (body ++ piece) ≡ drop (size - length body) piece =
    ap (λ (n : ℕ). drop n (body ++ piece)) (sym sum) ∙ sym (drop-drop (size - length body) (length body) (body ++ piece))
    ∙ ap (drop (size - length body)) (drop_at body piece (length body) refl) in
    rw all (λ i. whole (made (front i)) (after i))

pub with_body-done : (m : Message) (size : ℕ) (body piece : List ℕ) → length body < size → size - length body ≤ length piece
    → with_body m size (body ++ piece)
    ≡ whole (record m { body = body ++ take (size - length body) piece }) (drop (size - length body) piece)
with_body-done m size body piece short enough =
    with_content-done (λ content. record m { body = content }) size body piece (omega (arith, short)) enough

-- a body that isn't whole
pub with_content-waits : {A : Type 0} (made : List ℕ → A) (size : ℕ) (bytes : List ℕ) → length bytes < size → with_content made size bytes ≡ waits
with_content-waits made size bytes short = rw (lt-ltb (length bytes) size short) refl

pub with_body-waits : (m : Message) (size : ℕ) (bytes : List ℕ) → length bytes < size → with_body m size bytes ≡ waits
with_body-waits m size bytes short = with_content-waits (λ content. record m { body = content }) size bytes short
