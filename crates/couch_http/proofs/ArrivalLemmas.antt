-- A request comes with its last byte.
use Rattle.std.proofs.Common.{◌≡◌, ℕ, ◌<◌, ◌≤◌, Bool, true, false, cond, List, [], ◌∷◌, ◌++◌, length, take, drop, refl, sym, ap, ◌∙◌, arith, append_assoc, length-append, length-drop, Ok, Err, Result, map, inl, inr}
use Rattle.std.proofs.lemmas.Bool.{ltb-true, ltb-false}
use Rattle.std.proofs.lemmas.List.{append_cancel_right}
use Rattle.std.proofs.lemmas.List.Elements.{All-cons, All-nil, All-weaker}
use Rattle.std.specs.Prelude.{MatchBool, nat_lt, All}
use Rattle.httparse.specs.Grammar.{RequestHead}
use Rattle.httparse.proofs.GrammarLemmas.{request_unique}
use Rattle.couch_http.specs.declared.scan.Line.{Line}
use Rattle.couch_http.specs.declared.scan.Line.TheVariants.{Empty}
use Rattle.couch_http.specs.declared.fault.HttpFault.{HttpFault}
use Rattle.couch_http.specs.declared.fault.HttpFault.TheVariants.{Encoding, TooLarge}
use Rattle.couch_http.specs.Message.{HeaderField, Message}
use Rattle.couch_http.specs.Fields.{has_transfer_encoding, request_length}
use Rattle.couch_http.specs.Head.{HeadScan, within, complete, scan_from, head_scan}
use Rattle.couch_http.specs.Stream.{Front, waits, broken, whole, head_limit, Begins, AtScan, ReadsHead, is_too_large, field_of, announced_request, with_body, with_length, after_head, front_of}
use Rattle.couch_http.specs.Places.{EndsAt}
use Rattle.couch_http.proofs.ScanLemmas.{scan-append_complete, scan-append_within, scan_front}
use Rattle.couch_http.proofs.BeginLemmas.{Begins_shorter, after_head_shorter}

-- ---- a body that waits lacks its last byte

body_arrives : (m n : Message) (size : ℕ) (after piece rest : List ℕ) → waits ≡ with_body n size after
    → whole m rest ≡ with_body n size (after ++ piece) → length rest < length piece
body_arrives m n size after piece rest w e = by_tests (nat_lt (length after) size) (nat_lt (length (after ++ piece)) size) refl refl w e
  where
    by_tests : (s t : Bool) → nat_lt (length after) size ≡ s → nat_lt (length (after ++ piece)) size ≡ t
        → waits ≡ cond s waits (whole (record n { body = take size after }) (drop size after))
        → whole m rest ≡ cond t waits (whole (record n { body = take size (after ++ piece) }) (drop size (after ++ piece)))
        → length rest < length piece
    by_tests true true is at w e = cc
    by_tests true false is at w e =
        let left : rest ≡ drop size (after ++ piece) = cc in
        let short : length after < size = ltb-true (length after) size is in
        let enough : size ≤ length (after ++ piece) = ltb-false (length (after ++ piece)) size at in
        omega (arith, ap length left, length-drop size (after ++ piece), length-append after piece)
    by_tests false t is at w e = cc

length_arrives : (m n : Message) (size : Result ℕ HttpFault) (after piece rest : List ℕ) → waits ≡ with_length n size after
    → whole m rest ≡ with_length n size (after ++ piece) → length rest < length piece
length_arrives m n (Ok size) after piece rest w e = body_arrives m n size after piece rest w e
length_arrives m n (Err fault) after piece rest w e = cc

head_arrives : (m : Message) (rest method target : List ℕ) (minor : ℕ) (headers : List HeaderField) (after piece : List ℕ)
    → waits ≡ after_head method target minor headers after → whole m rest ≡ after_head method target minor headers (after ++ piece)
    → length rest < length piece
head_arrives m rest method target minor headers after piece w e = by_test (has_transfer_encoding headers) w e
  where
    by_test : (t : Bool)
        → waits ≡ cond t (broken Encoding) (with_length (announced_request method target minor headers) (request_length headers) after)
        → whole m rest
        ≡ cond t (broken Encoding) (with_length (announced_request method target minor headers) (request_length headers) (after ++ piece))
        → length rest < length piece
    by_test true w e = cc
    by_test false w e = length_arrives m (announced_request method target minor headers) (request_length headers) after piece rest w e

reads_arrive : (head after piece : List ℕ) (m : Message) (rest : List ℕ) → ReadsHead head after waits
    → ReadsHead head (after ++ piece) (whole m rest) → length rest < length piece
reads_arrive head after piece m rest (inl (h, of, w)) (inl (k, also, e)) =
    let same : k ≡ h = (request_unique head k h [] [] also.reads of.reads).0 in
    head_arrives m rest h.method h.target h.minor (map field_of h.fields) after piece w
    (e ∙ ap (λ (g : RequestHead). front_of g (after ++ piece)) same)
reads_arrive head after piece m rest (inl (h, of, w)) (inr (none, e)) = cc
reads_arrive head after piece m rest (inr (none, w)) e = cc

sizes_arrive : (large : Bool) (head after piece : List ℕ) (m : Message) (rest : List ℕ)
    → MatchBool large (◌≡◌ {A = Front Message} waits (broken TooLarge)) (ReadsHead head after waits)
    → MatchBool large (whole m rest ≡ broken TooLarge) (ReadsHead head (after ++ piece) (whole m rest)) → length rest < length piece
sizes_arrive true head after piece m rest w e = cc
sizes_arrive false head after piece m rest w e = reads_arrive head after piece m rest w e

-- ---- a head that waits lacks its last byte

head_comes : (left piece : List ℕ) (n : ℕ) (line : Line) (m : Message) (rest : List ℕ) → head_scan left ≡ within n line
    → AtScan (head_scan (left ++ piece)) (left ++ piece) (whole m rest) → length rest < length piece
head_comes left piece n line m rest scanned at =
    by_scan (scan_from n line piece) refl (rw (scan-append_within left piece 0 Empty n line scanned) at at)
  where
    by_test : (t : Bool) → whole m rest ≡ cond t waits (broken TooLarge) → length rest < length piece
    by_test true e = cc
    by_test false e = cc

    by_size : (t : Bool) (head after : List ℕ) → length after < length piece
        → MatchBool t (whole m rest ≡ broken TooLarge) (ReadsHead head after (whole m rest)) → length rest < length piece
    by_size true head after shorter e = cc
    by_size false head after shorter (inl (h, of, e)) =
        omega (arith, shorter, after_head_shorter m rest h.method h.target h.minor (map field_of h.fields) after e)
    by_size false head after shorter (inr (none, e)) = cc

    by_scan : (s : HeadScan) → scan_from n line piece ≡ s → AtScan s (left ++ piece) (whole m rest) → length rest < length piece
    by_scan (within k other) is at = by_test (nat_lt (length (left ++ piece)) head_limit) at
    by_scan (complete k after) is (head, joined, at) =
        by_size (is_too_large head k) head after (scan_front piece n line k after is).shorter at

pub Begins_arrives : (left piece : List ℕ) (m : Message) (rest : List ℕ) → Begins left waits → Begins (left ++ piece) (whole m rest)
    → length rest < length piece
unfolding Begins
Begins_arrives left piece m rest waiting begins = by_scan (head_scan left) refl waiting
  where
    by_scan : (s : HeadScan) → head_scan left ≡ s → AtScan s left waits → length rest < length piece
    by_scan (within n line) is w = head_comes left piece n line m rest is begins
    by_scan (complete n after) is (head, joined, w) =
        let at : AtScan (complete n (after ++ piece)) (left ++ piece) (whole m rest) =
        rw (scan-append_complete left piece 0 Empty n after is) at begins in
        let split : at.0 ++ (after ++ piece) ≡ head ++ (after ++ piece) =
        sym at.1 ∙ ap (λ (l : List ℕ). l ++ piece) joined ∙ append_assoc head after piece in
        let same : at.0 ≡ head = append_cancel_right at.0 head (after ++ piece) split in
        sizes_arrive (is_too_large head n) head after piece m rest w (rw same at at.2)

-- ---- places

-- a last request has nothing behind it
behind_last : (last : Bool) (P : ℕ → Type 0) (messages : List Message) (rest : List ℕ) (place : ℕ) (places : List ℕ)
    → MatchBool last ((messages ≡ []) × (places ≡ [])) (EndsAt place rest messages places)
    → (EndsAt place rest messages places → All P places) → All P places
behind_last true P messages rest place places ends again = rw ends.1 (All-nil P)
behind_last false P messages rest place places ends again = again ends

-- each place lies behind the bytes before
EndsAt_after : (before : ℕ) (bytes : List ℕ) (messages : List Message) (places : List ℕ) → EndsAt before bytes messages places
    → All (λ place. before < place) places
EndsAt_after before bytes [] places none = rw none (All-nil (λ place. before < place))
EndsAt_after before bytes (m ∷ messages) [] ends = absurd ends
EndsAt_after before bytes (m ∷ messages) (place ∷ places) (rest, begins, at, ends) =
    let later : before < place = omega (arith, Begins_shorter bytes m rest begins, at) in
    All-cons (λ p. before < p) place places later
    (All-weaker (λ p. place < p) (λ p. before < p) (λ p h. omega arith) places
    (behind_last m.last (λ p. place < p) messages rest place places ends (EndsAt_after place rest messages places)))

pub EndsAt_comes : (left piece : List ℕ) (messages : List Message) (places : List ℕ) → Begins left waits
    → EndsAt 0 (left ++ piece) messages places → All (λ place. length left < place) places
EndsAt_comes left piece [] places waiting none = rw none (All-nil (λ place. length left < place))
EndsAt_comes left piece (m ∷ messages) [] waiting ends = absurd ends
EndsAt_comes left piece (m ∷ messages) (place ∷ places) waiting (rest, begins, at, ends) =
    let later : length left < place = omega (arith, Begins_arrives left piece m rest waiting begins, at, length-append left piece) in
    All-cons (λ p. length left < p) place places later
    (All-weaker (λ p. place < p) (λ p. length left < p) (λ p h. omega arith) places
    (behind_last m.last (λ p. place < p) messages rest place places ends (EndsAt_after place rest messages places)))
