-- At most two requests end in a part.
use Rattle.std.proofs.Common.{◌≡◌, ◌∙◌, inl, inr, ℕ, suc, ◌+◌, ◌-◌, ◌<◌, ◌≤◌, ◌&&◌, ◌||◌, Bool, true, false, cond, List, [], ◌∷◌, ◌++◌, length, map, take, drop, nat_le, Result, Ok, Err, if◌then◌else◌, length-append, length-drop, refl, sym, ap, ap₂, subst, true≢false, arith}
use Rattle.std.proofs.lemmas.Bool.{ltb-true}
use Rattle.std.proofs.lemmas.Bool.Decides.{nat_tests}
use Rattle.std.proofs.lemmas.List.{drop-drop, drop_at, nil_from_length, take-append-drop}
use Rattle.std.specs.List.{flat_map}
use Rattle.std.specs.Prelude.{MatchBool, ◌==◌, nat_lt}
use Rattle.httparse.specs.Grammar.{LineEnd, crlf, lf, RequestHead, ReadsRequest, print_field, print_blank, print_end, print_section, print_version}
use Rattle.httparse.proofs.GrammarLemmas.{print_request-append}
use Rattle.couch_http.proofs.ArrivalLemmas.{Begins_arrives}
use Rattle.couch_http.proofs.CutLemmas.{Begins-nothing}
use Rattle.couch_http.proofs.ScanLemmas.{scan_front}
use Rattle.couch_http.proofs.StreamLaws.{Begins_unique}
use Rattle.couch_http.specs.Fields.{has_transfer_encoding, request_length}
use Rattle.couch_http.specs.Head.{HeadScan, within, complete, ends_head, head_scan, is_empty_so_far, line_with, lines_with, scan_from}
use Rattle.couch_http.specs.Message.{HeaderField, Message}
use Rattle.couch_http.specs.Stream.{AtScan, Begins, Cuts, ReadsHead, StreamEnd, after_head, announced_request, broken, ended, field_of, head_limit, is_too_large, waits, whole, with_body, with_length}
use Rattle.couch_http.specs.declared.fault.HttpFault.{HttpFault}
use Rattle.couch_http.specs.declared.fault.HttpFault.TheVariants.{Encoding, TooLarge}
use Rattle.couch_http.specs.declared.scan.Line.{Line}
use Rattle.couch_http.specs.declared.scan.Line.TheVariants.{Empty, Return, Text}
use Rattle.hub.specs.Parts.{FewEndInAPart, IsPart, carriage_return, least_request, line_feed, part_from}

-- ---- a head has as many bytes as the shortest request

no_fewer : (e : LineEnd) → 0 < length (print_end e)
no_fewer crlf = omega arith
no_fewer lf = omega arith

section_ends : (h : RequestHead) → 0 < length (print_section h.fields h.last)
section_ends h =
    let some = no_fewer h.last in
    let parts = length-append (flat_map print_field h.fields) (print_end h.last) in omega (arith, some, parts)

version_length : (minor : ℕ) → length (print_version minor) ≡ 8
version_length minor = refl

count : (a b c d e f : List ℕ) → length (a ++ (b ++ 32 ∷ (c ++ 32 ∷ (d ++ (e ++ (f ++ [])))))) ≡ length a + (length b + (1 + (length c + (1 + (length d + (length e + length f))))))
count a b c d e f =
    let last = f ++ [] in
    let line = e ++ last in
    let version = d ++ line in
    let target = c ++ 32 ∷ version in
    let method = b ++ 32 ∷ target in
    omega (arith, length-append a method, length-append b (32 ∷ target), length-append c (32 ∷ version), length-append d line, length-append e last, length-append f [])

pub least_head : (head : List ℕ) (h : RequestHead) → ReadsRequest head h [] → least_request ≤ length head
least_head head h (is, printed) =
    let parts = ap length (printed ∙ print_request-append h [])
    ∙ count (print_blank h.blank) h.method h.target (print_version h.minor) (print_end h.line_end) (print_section h.fields h.last) in
    let method : 0 < length h.method = is.method.0 in
    let target : 0 < length h.target = is.target.0 in
    let line = no_fewer h.line_end in
    let last = section_ends h in
    let version = version_length h.minor in
    omega (arith, parts, method, target, line, last, version)

-- ---- the rest of a stream is its end

is_end : (size : ℕ) (after : List ℕ) (m n : Message) (rest : List ℕ) → whole m rest ≡ with_body n size after → (k : ℕ) × (rest ≡ drop k after)
is_end size after m n rest e = by (nat_lt (length after) size) e
  where
    by : (t : Bool) → whole m rest ≡ cond t waits (whole (record n { body = take size after }) (drop size after)) → (k : ℕ) × (rest ≡ drop k after)
    by true e = absurd cc
    by false e = let same : rest ≡ drop size after = cc in (size, same)

length_end : (m n : Message) (size : Result ℕ HttpFault) (after rest : List ℕ) → whole m rest ≡ with_length n size after → (k : ℕ) × (rest ≡ drop k after)
length_end m n (Ok size) after rest e = is_end size after m n rest e
length_end m n (Err fault) after rest e = absurd cc

head_end : (m : Message) (rest method target : List ℕ) (minor : ℕ) (headers : List HeaderField) (after : List ℕ) → whole m rest ≡ after_head method target minor headers after
    → (k : ℕ) × (rest ≡ drop k after)
head_end m rest method target minor headers after e = by (has_transfer_encoding headers) e
  where
    by : (t : Bool) → whole m rest ≡ cond t (broken Encoding) (with_length (announced_request method target minor headers) (request_length headers) after) → (k : ℕ) × (rest ≡ drop k after)
    by true e = absurd cc
    by false e = length_end m (announced_request method target minor headers) (request_length headers) after rest e

-- a request at the front of a stream: its head, and what comes behind it
record Fronts (bytes : List ℕ) (rest : List ℕ) : Type 0 where
  pub lines : ℕ
  pub head : List ℕ
  pub after : List ℕ
  pub found : head_scan bytes ≡ complete lines after
  pub joined : head ++ after ≡ bytes
  pub least : least_request ≤ length head
  pub size : ℕ
  pub left : rest ≡ drop size after

begins_with : (bytes : List ℕ) (m : Message) (rest : List ℕ) → Begins bytes (whole m rest) → Fronts bytes rest
unfolding Begins
begins_with bytes m rest begins = by_scan (head_scan bytes) refl begins
  where
    by_test : (t : Bool) → whole m rest ≡ cond t waits (broken TooLarge) → Fronts bytes rest
    by_test true e = absurd cc
    by_test false e = absurd cc

    by_size : (t : Bool) (n : ℕ) (head after : List ℕ) → head_scan bytes ≡ complete n after → bytes ≡ head ++ after
        → MatchBool t (whole m rest ≡ broken TooLarge) (ReadsHead head after (whole m rest)) → Fronts bytes rest
    by_size true n head after is joined e = absurd cc
    by_size false n head after is joined (inl (h, of, e)) =
        let end = head_end m rest h.method h.target h.minor (map field_of h.fields) after e in
        record { lines = n; head = head; after = after; found = is; joined = sym joined; least = least_head head h of.reads; size = end.0; left = end.1 }
    by_size false n head after is joined (inr (none, e)) = absurd cc

    by_scan : (s : HeadScan) → head_scan bytes ≡ s → AtScan s bytes (whole m rest) → Fronts bytes rest
    by_scan (within n line) is at = by_test (nat_lt (length bytes) head_limit) at
    by_scan (complete n after) is (head, joined, at) = by_size (is_too_large head n) n head after is joined at

-- ---- an empty line that ends a head ends a part

-- where lines of a head have ended and the line is empty so far, so is that of the part
abbrev AreAlike : ℕ → Line → Bool → Type 0
AreAlike lines line is_empty = 0 < lines → is_empty_so_far line ≡ true → is_empty ≡ true

alike_next : (lines : ℕ) (line : Line) (is_empty : Bool) (b : ℕ) → AreAlike lines line is_empty
    → AreAlike (lines_with lines line b) (line_with line b) (b == line_feed || (is_empty && b == carriage_return))
alike_next lines Empty is_empty b alike = by (b == line_feed) (b == carriage_return)
  where
    by : (feed back : Bool) → 0 < (if feed && false then lines + 1 else lines) → is_empty_so_far (if feed then Empty else (if back then Return else Text)) ≡ true
        → feed || (is_empty && back) ≡ true
    by true back some empty = refl
    by false true some empty = ap (λ (x : Bool). x && true) (alike some refl)
    by false false some empty = absurd (true≢false (sym empty))
alike_next lines Return is_empty b alike = by (b == line_feed) (b == carriage_return)
  where
    by : (feed back : Bool) → 0 < (if feed && false then lines + 1 else lines) → is_empty_so_far (if feed then Empty else Text) ≡ true → feed || (is_empty && back) ≡ true
    by true back some empty = refl
    by false back some empty = absurd (true≢false (sym empty))
alike_next lines Text is_empty b alike = by (b == line_feed) (b == carriage_return)
  where
    by : (feed back : Bool) → 0 < (if feed && true then lines + 1 else lines) → is_empty_so_far (if feed then Empty else Text) ≡ true → feed || (is_empty && back) ≡ true
    by true back some empty = refl
    by false back some empty = absurd (true≢false (sym empty))

and_left : (x y : Bool) → x && y ≡ true → x ≡ true
and_left true y e = refl
and_left false y e = e

and_right : (x y : Bool) → x && y ≡ true → y ≡ true
and_right true y e = e
and_right false y e = absurd (true≢false (sym e))

part_stops : (bytes : List ℕ) (place lines n : ℕ) (line : Line) (is_empty : Bool) (after : List ℕ) (size : ℕ) → scan_from lines line bytes ≡ complete n after → AreAlike lines line is_empty
    → length bytes ≡ size + length after → least_request ≤ place + size → part_from place is_empty bytes ≤ place + size
part_stops [] place lines n line is_empty after size found alike joined far = absurd cc
part_stops (b ∷ bytes) place lines n line is_empty after size found alike joined far =
    by (ends_head lines line b) refl found
    (λ on shorter. part_stops bytes (suc place) (lines_with lines line b) n (line_with line b) (b == line_feed || (is_empty && b == carriage_return)) after (size - 1) on
    (alike_next lines line is_empty b alike) (omega (arith, joined, shorter)) (omega (arith, far, joined, shorter)))
  where
    next : Bool
    next = b == line_feed || (is_empty && b == carriage_return)

    by_end : (t : Bool) → 0 < size → part_from (suc place) next bytes ≤ suc place + (size - 1) → (if t then suc place else part_from (suc place) next bytes) ≤ place + size
    by_end true some le = omega (arith, some)
    by_end false some le = omega (arith, some, le)

    by : (t : Bool) → ends_head lines line b ≡ t → cond t (complete lines bytes) (scan_from (lines_with lines line b) (line_with line b) bytes) ≡ complete n after
        → (scan_from (lines_with lines line b) (line_with line b) bytes ≡ complete n after → length after < length bytes → part_from (suc place) next bytes ≤ suc place + (size - 1))
        → (if (b == line_feed && is_empty) && nat_le least_request (suc place) then suc place else part_from (suc place) next bytes) ≤ place + size
    by true ends e again =
        let same : bytes ≡ after = cc in
        let one : size ≡ 1 = let lengths = ap length same in omega (arith, joined, lengths) in
        let feed : b == line_feed ≡ true = and_left (b == line_feed) (is_empty_so_far line) (and_left (b == line_feed && is_empty_so_far line) (nat_lt 0 lines) ends) in
        let blank : is_empty_so_far line ≡ true = and_right (b == line_feed) (is_empty_so_far line) (and_left (b == line_feed && is_empty_so_far line) (nat_lt 0 lines) ends) in
        let some : 0 < lines = ltb-true 0 lines (and_right (b == line_feed && is_empty_so_far line) (nat_lt 0 lines) ends) in
        let reached : nat_le least_request (suc place) ≡ true = let le : least_request ≤ suc place = omega (arith, far, one) in grind (arith, nat_tests) in
        let test : (b == line_feed && is_empty) && nat_le least_request (suc place) ≡ true =
        ap₂ (λ (x y : Bool). x && y) (ap₂ (λ (x y : Bool). x && y) feed (alike some blank)) reached in
        let stops = ap (λ (t : Bool). if t then suc place else part_from (suc place) next bytes) test in omega (arith, stops, one)
    by false ends e again =
        let shorter = (scan_front bytes (lines_with lines line b) (line_with line b) n after e).shorter in
        by_end ((b == line_feed && is_empty) && nat_le least_request (suc place)) (omega (arith, shorter, joined)) (again e shorter)

-- a part that goes on past its front
past_front : (front more : List ℕ) (place : ℕ) (is_empty : Bool) → 0 < length more → part_from place is_empty (front ++ more) ≡ place + (length front + length more)
    → (next : Bool) × (part_from (place + length front) next more ≡ place + (length front + length more))
past_front [] more place is_empty some is =
    let same : place ≡ place + 0 = omega arith in
    (is_empty, subst (λ (p : ℕ). part_from p is_empty more ≡ place + (0 + length more)) same is)
past_front (b ∷ front) more place is_empty some is =
    by ((b == line_feed && is_empty) && nat_le least_request (suc place)) is (λ on. past_front front more (suc place) (b == line_feed || (is_empty && b == carriage_return)) some on)
  where
    next : Bool
    next = b == line_feed || (is_empty && b == carriage_return)

    by : (t : Bool) → (if t then suc place else part_from (suc place) next (front ++ more)) ≡ place + (suc (length front) + length more)
        → (part_from (suc place) next (front ++ more) ≡ suc place + (length front + length more)
        → (last : Bool) × (part_from (suc place + length front) last more ≡ suc place + (length front + length more)))
        → (last : Bool) × (part_from (place + suc (length front)) last more ≡ place + (suc (length front) + length more))
    by true at again = absurd (omega (arith, at, some))
    by false at again =
        let found = again (omega (arith, at)) in
        let same : suc place + length front ≡ place + suc (length front) = omega arith in
        let e = found.1 in
        (found.0, subst (λ (p : ℕ). part_from p found.0 more ≡ place + (suc (length front) + length more)) same (omega (arith, e)))

-- ---- the requests of a part

-- what is left of a stream is an end of its last piece
end_of_part : (left part rest head after : List ℕ) (size : ℕ) → head ++ after ≡ left ++ part → rest ≡ drop size after → length rest < length part → (k : ℕ) × (rest ≡ drop k part)
end_of_part left part rest head after size joined is shorter =
    let whole_end : rest ≡ drop (length head + size) (left ++ part) =
    is ∙ ap (drop size) (sym (drop_at head after (length head) refl)) ∙ drop-drop size (length head) (head ++ after) ∙ ap (drop (length head + size)) joined in
    let lengths = ap length whole_end ∙ length-drop (length head + size) (left ++ part) in
    let both = length-append left part in
    let more : (k : ℕ) × (length head + size ≡ length left + k) = ((length head + size) - length left, omega (arith, lengths, both, shorter)) in
    (more.0, whole_end ∙ ap (λ (n : ℕ). drop n (left ++ part)) more.1 ∙ sym (drop-drop more.0 (length left) (left ++ part)) ∙ ap (drop more.0) (drop_at left part (length left) refl))

-- nothing is left behind a second request
second_ends : (part rest last : List ℕ) (k : ℕ) (m : Message) → IsPart part → rest ≡ drop k part → Begins rest (whole m last) → last ≡ []
second_ends part rest last k m one is begins =
    let f = begins_with rest m last begins in
    let front = take k part in
    let joined : front ++ rest ≡ part = ap (λ (l : List ℕ). front ++ l) is ∙ take-append-drop k part in
    let lengths = sym (length-append front rest) ∙ ap length joined in
    let behind = sym (length-append f.head f.after) ∙ ap length f.joined in
    let some : 0 < length rest = let least = f.least in omega (arith, behind, least) in
    let found = past_front front rest 0 false some (let e = ap (part_from 0 false) joined ∙ one in omega (arith, e, lengths)) in
    let stops = part_stops rest (0 + length front) 0 f.lines Empty found.0 f.after (length f.head) f.found (λ none. absurd (omega (arith, none))) (omega (arith, behind))
    (let least = f.least in omega (arith, least)) in
    let at = found.1 in
    let left = ap length f.left ∙ length-drop f.size f.after in
    nil_from_length last (omega (arith, stops, at, behind, left))

none_begins : (messages : List Message) (end : StreamEnd) → Cuts [] messages end → length messages ≡ 0
none_begins [] end cuts = refl
none_begins (m ∷ messages) end (rest, begins, next) = let e = Begins_unique [] waits (whole m rest) Begins-nothing begins in absurd cc

no_more : (last : Bool) (messages : List Message) (rest : List ℕ) (end : StreamEnd) (n : ℕ) → (Cuts rest messages end → length messages ≤ n)
    → MatchBool last ((messages ≡ []) × (end ≡ ended)) (Cuts rest messages end) → length messages ≤ n
no_more true messages rest end n on ends = let e = ap length ends.0 in omega (arith, e)
no_more false messages rest end n on cuts = on cuts

pub few_end : FewEndInAPart
few_end left part [] end waiting one cuts = omega arith
few_end left part (m ∷ messages) end waiting one (rest, begins, next) =
    let f = begins_with (left ++ part) m rest begins in
    let found = end_of_part left part rest f.head f.after f.size f.joined f.left (Begins_arrives left part m rest waiting begins) in
    let le : length messages ≤ 1 = no_more m.last messages rest end 1 (second found.0 found.1 messages) next in
    omega (arith, le)
  where
    second : (k : ℕ) → rest ≡ drop k part → (ms : List Message) → Cuts rest ms end → length ms ≤ 1
    second k is [] cuts = omega arith
    second k is (n ∷ ns) (last, starts, on) =
        let none : last ≡ [] = second_ends part rest last k n one is starts in
        let le : length ns ≤ 0 = no_more n.last ns last end 0
        (λ cuts. let e = none_begins ns end (subst (λ (l : List ℕ). Cuts l ns end) none cuts) in omega (arith, e)) on in
        omega (arith, le)
