-- A stream begins in one way, and more bytes leave what it began with.
use Rattle.std.proofs.Common.{◌≡◌, ℕ, ◌<◌, ◌≤◌, Bool, true, false, cond, List, [], ◌++◌, length, take, drop, refl, sym, ap, ◌∙◌, arith, append_assoc, length-append, Ok, Err, Result, map, inl, inr}
use Rattle.std.proofs.lemmas.Bool.{le-ltb, lt-ltb, ltb-false}
use Rattle.std.proofs.lemmas.List.{append_cancel_right, take-append-le, drop-append-le}
use Rattle.std.specs.Prelude.{MatchBool, nat_lt}
use Rattle.httparse.specs.Grammar.{RequestHead}
use Rattle.httparse.proofs.GrammarLemmas.{request_unique}
use Rattle.couch_http.specs.declared.scan.Line.{Line}
use Rattle.couch_http.specs.declared.scan.Line.TheVariants.{Empty}
use Rattle.couch_http.specs.declared.fault.HttpFault.{HttpFault}
use Rattle.couch_http.specs.declared.fault.HttpFault.TheVariants.{Encoding, TooLarge}
use Rattle.couch_http.specs.Message.{HeaderField, Message}
use Rattle.couch_http.specs.Fields.{has_transfer_encoding, request_length}
use Rattle.couch_http.specs.Head.{HeadScan, within, complete, scan_from, head_scan}
use Rattle.couch_http.specs.Stream.{Front, waits, broken, whole, head_limit, Begins, BeginsBy, StandsAtScan, ReadsHead, is_too_large, field_of, announced_request, with_content, with_content_length, with_length, after_head, front_of}
use Rattle.couch_http.proofs.ScanLemmas.{scan-append_complete, scan-append_within, scan_front}

-- ---- one way

at_unique : {A : Type 0} (Reads : List ℕ → List ℕ → Front A → Type 0) → ((head rest : List ℕ) (x y : Front A) → Reads head rest x → Reads head rest y → x ≡ y)
    → (large : Bool) (head rest : List ℕ) (x y : Front A)
    → MatchBool large (x ≡ broken TooLarge) (Reads head rest x) → MatchBool large (y ≡ broken TooLarge) (Reads head rest y) → x ≡ y
at_unique Reads one true head rest x y e f = e ∙ sym f
at_unique Reads one false head rest x y e f = one head rest x y e f

-- where a head is read in one way
pub BeginsBy_unique : {A : Type 0} (Reads : List ℕ → List ℕ → Front A → Type 0) → ((head rest : List ℕ) (x y : Front A) → Reads head rest x → Reads head rest y → x ≡ y)
    → (bytes : List ℕ) (x y : Front A) → BeginsBy Reads bytes x → BeginsBy Reads bytes y → x ≡ y
BeginsBy_unique {A} Reads one bytes x y = by_scan (head_scan bytes)
  where
    by_scan : (s : HeadScan) → StandsAtScan Reads s bytes x → StandsAtScan Reads s bytes y → x ≡ y
    by_scan (within n line) e f = e ∙ sym f
    by_scan (complete n rest) (head, joined, at) (other, again, also) =
        let same : other ≡ head = append_cancel_right other head rest (sym again ∙ joined) in
        at_unique Reads one (is_too_large head n) head rest x y at (rw same at also)

heads_unique : (head : List ℕ) (rest : List ℕ) (x y : Front Message) → ReadsHead head rest x → ReadsHead head rest y → x ≡ y
heads_unique head rest x y (inl (h, of, e)) (inl (k, also, f)) =
    let same : h ≡ k = (request_unique head h k [] [] of.reads also.reads).0 in
    e ∙ ap (λ (g : RequestHead). front_of g rest) same ∙ sym f
heads_unique head rest x y (inl (h, of, e)) (inr (none, f)) = absurd (none h of)
heads_unique head rest x y (inr (none, e)) (inl (k, also, f)) = absurd (none k also)
heads_unique head rest x y (inr (none, e)) (inr (also, f)) = e ∙ sym f

pub Begins_unique : (bytes : List ℕ) (x y : Front Message) → Begins bytes x → Begins bytes y → x ≡ y
unfolding Begins
Begins_unique bytes x y = BeginsBy_unique ReadsHead heads_unique bytes x y

-- ---- more bytes after a message

content_append : {A : Type 0} (m : A) (made : List ℕ → A) (size : ℕ) (rest after more : List ℕ) → whole m rest ≡ with_content made size after
    → whole m (rest ++ more) ≡ with_content made size (after ++ more)
content_append {A} m made size rest after more e = by_test (nat_lt (length after) size) refl e
  where
    by_test : (t : Bool) → nat_lt (length after) size ≡ t → whole m rest ≡ cond t waits (whole (made (take size after)) (drop size after))
        → whole m (rest ++ more) ≡ with_content made size (after ++ more)
    by_test true is e = cc
    by_test false is e =
        let enough : size ≤ length after = ltb-false (length after) size is in
        let longer : size ≤ length (after ++ more) = omega (arith, length-append after more) in
        let message : m ≡ made (take size after) = cc in
        let left : rest ≡ drop size after = cc in
        rw (le-ltb (length (after ++ more)) size longer, take-append-le size after more enough, drop-append-le size after more enough, message, left) refl

pub content_length_append : {A : Type 0} (m : A) (made : List ℕ → A) (size : Result ℕ HttpFault) (rest after more : List ℕ)
    → whole m rest ≡ with_content_length made size after → whole m (rest ++ more) ≡ with_content_length made size (after ++ more)
content_length_append m made (Ok size) rest after more e = content_append m made size rest after more e
content_length_append m made (Err fault) rest after more e = cc

head_append : (m : Message) (rest method target : List ℕ) (minor : ℕ) (headers : List HeaderField) (after more : List ℕ)
    → whole m rest ≡ after_head method target minor headers after
    → whole m (rest ++ more) ≡ after_head method target minor headers (after ++ more)
head_append m rest method target minor headers after more e = by_test (has_transfer_encoding headers) e
  where
    by_test : (t : Bool)
        → whole m rest ≡ cond t (broken Encoding) (with_length (announced_request method target minor headers) (request_length headers) after)
        → whole m (rest ++ more)
        ≡ cond t (broken Encoding) (with_length (announced_request method target minor headers) (request_length headers) (after ++ more))
    by_test true e = cc
    by_test false e =
        content_length_append m (λ content. record (announced_request method target minor headers) { body = content }) (request_length headers) rest after more e

-- where more bytes leave the message of a head that was read
pub BeginsBy-append_whole : {A : Type 0} (Reads : List ℕ → List ℕ → Front A → Type 0) (more : List ℕ) (m : A) (rest : List ℕ)
    → ((head after : List ℕ) → Reads head after (whole m rest) → Reads head (after ++ more) (whole m (rest ++ more)))
    → (bytes : List ℕ) → BeginsBy Reads bytes (whole m rest) → BeginsBy Reads (bytes ++ more) (whole m (rest ++ more))
BeginsBy-append_whole {A} Reads more m rest leaves bytes begins = by_scan (head_scan bytes) refl begins
  where
    by_test : (t : Bool) → whole m rest ≡ cond t waits (broken TooLarge)
        → StandsAtScan Reads (head_scan (bytes ++ more)) (bytes ++ more) (whole m (rest ++ more))
    by_test true e = cc
    by_test false e = cc

    by_size : (t : Bool) (head after : List ℕ) → MatchBool t (whole m rest ≡ broken TooLarge) (Reads head after (whole m rest))
        → MatchBool t (whole m (rest ++ more) ≡ broken TooLarge) (Reads head (after ++ more) (whole m (rest ++ more)))
    by_size true head after e = cc
    by_size false head after read = leaves head after read

    by_scan : (s : HeadScan) → head_scan bytes ≡ s → StandsAtScan Reads s bytes (whole m rest)
        → StandsAtScan Reads (head_scan (bytes ++ more)) (bytes ++ more) (whole m (rest ++ more))
    by_scan (within n line) is at = by_test (nat_lt (length bytes) head_limit) at
    by_scan (complete n after) is (head, joined, at) =
        rw (scan-append_complete bytes more 0 Empty n after is)
        (head, ap (λ (l : List ℕ). l ++ more) joined ∙ append_assoc head after more, by_size (is_too_large head n) head after at)

head_leaves : (more : List ℕ) (m : Message) (rest head after : List ℕ) → ReadsHead head after (whole m rest) → ReadsHead head (after ++ more) (whole m (rest ++ more))
head_leaves more m rest head after (inl (h, of, e)) = inl (h, of, head_append m rest h.method h.target h.minor (map field_of h.fields) after more e)
head_leaves more m rest head after (inr (none, e)) = cc

pub Begins-append_whole : (bytes more : List ℕ) (m : Message) (rest : List ℕ) → Begins bytes (whole m rest)
    → Begins (bytes ++ more) (whole m (rest ++ more))
unfolding Begins
Begins-append_whole bytes more m rest begins = BeginsBy-append_whole ReadsHead more m rest (head_leaves more m rest) bytes begins

-- ---- more bytes after a fault

content_fault : {A : Type 0} (f : HttpFault) (made : List ℕ → A) (size : ℕ) (after more : List ℕ) → broken f ≡ with_content made size after
    → broken f ≡ with_content made size (after ++ more)
content_fault {A} f made size after more e = by_test (nat_lt (length after) size) e
  where
    by_test : (t : Bool) → broken f ≡ cond t waits (whole (made (take size after)) (drop size after))
        → broken f ≡ with_content made size (after ++ more)
    by_test true e = cc
    by_test false e = cc

pub content_length_fault : {A : Type 0} (f : HttpFault) (made : List ℕ → A) (size : Result ℕ HttpFault) (after more : List ℕ)
    → broken f ≡ with_content_length made size after → broken f ≡ with_content_length made size (after ++ more)
content_length_fault f made (Ok size) after more e = content_fault f made size after more e
content_length_fault f made (Err fault) after more e = e

head_fault : (f : HttpFault) (method target : List ℕ) (minor : ℕ) (headers : List HeaderField) (after more : List ℕ)
    → broken f ≡ after_head method target minor headers after → broken f ≡ after_head method target minor headers (after ++ more)
head_fault f method target minor headers after more e = by_test (has_transfer_encoding headers) e
  where
    by_test : (t : Bool)
        → broken f ≡ cond t (broken Encoding) (with_length (announced_request method target minor headers) (request_length headers) after)
        → broken f
        ≡ cond t (broken Encoding) (with_length (announced_request method target minor headers) (request_length headers) (after ++ more))
    by_test true e = e
    by_test false e =
        content_length_fault f (λ content. record (announced_request method target minor headers) { body = content }) (request_length headers) after more e

-- a stream without a head that is as long as a head may be stays too large
still_long : {A : Type 0} (Reads : List ℕ → List ℕ → Front A → Type 0) (bytes more : List ℕ) (n : ℕ) (line : Line) (f : HttpFault) → head_scan bytes ≡ within n line
    → head_limit ≤ length bytes → ◌≡◌ {A = Front A} (broken f) (broken TooLarge) → StandsAtScan Reads (head_scan (bytes ++ more)) (bytes ++ more) (broken f)
still_long Reads bytes more n line f scanned long e =
    rw (scan-append_within bytes more 0 Empty n line scanned) (by_scan (scan_from n line more) refl)
  where
    by_scan : (s : HeadScan) → scan_from n line more ≡ s → StandsAtScan Reads s (bytes ++ more) (broken f)
    by_scan (within k other) is =
        let longer : head_limit ≤ length (bytes ++ more) = omega (arith, length-append bytes more) in
        rw (le-ltb (length (bytes ++ more)) head_limit longer) e
    by_scan (complete k after) is =
        let passed = scan_front more n line k after is in
        let head = bytes ++ passed.head in
        let over : head_limit < length head =
        omega (arith, length-append bytes passed.head, length-append passed.head after, ap length passed.joined, passed.shorter) in
        (head, ap (λ (l : List ℕ). bytes ++ l) passed.joined ∙ sym (append_assoc bytes passed.head after), rw (lt-ltb head_limit (length head) over) e)

-- where more bytes leave the fault of a head that was read
pub BeginsBy-append_broken : {A : Type 0} (Reads : List ℕ → List ℕ → Front A → Type 0) (more : List ℕ) (f : HttpFault)
    → ((head after : List ℕ) → Reads head after (broken f) → Reads head (after ++ more) (broken f))
    → (bytes : List ℕ) → BeginsBy Reads bytes (broken f) → BeginsBy Reads (bytes ++ more) (broken f)
BeginsBy-append_broken {A} Reads more f leaves bytes begins = by_scan (head_scan bytes) refl begins
  where
    by_test : (t : Bool) (n : ℕ) (line : Line) → nat_lt (length bytes) head_limit ≡ t → head_scan bytes ≡ within n line
        → ◌≡◌ {A = Front A} (broken f) (cond t waits (broken TooLarge)) → StandsAtScan Reads (head_scan (bytes ++ more)) (bytes ++ more) (broken f)
    by_test true n line is scanned e = cc
    by_test false n line is scanned e = still_long Reads bytes more n line f scanned (ltb-false (length bytes) head_limit is) e

    by_size : (t : Bool) (head after : List ℕ) → MatchBool t (◌≡◌ {A = Front A} (broken f) (broken TooLarge)) (Reads head after (broken f))
        → MatchBool t (◌≡◌ {A = Front A} (broken f) (broken TooLarge)) (Reads head (after ++ more) (broken f))
    by_size true head after e = e
    by_size false head after read = leaves head after read

    by_scan : (s : HeadScan) → head_scan bytes ≡ s → StandsAtScan Reads s bytes (broken f)
        → StandsAtScan Reads (head_scan (bytes ++ more)) (bytes ++ more) (broken f)
    by_scan (within n line) is at = by_test (nat_lt (length bytes) head_limit) n line refl is at
    by_scan (complete n after) is (head, joined, at) =
        rw (scan-append_complete bytes more 0 Empty n after is)
        (head, ap (λ (l : List ℕ). l ++ more) joined ∙ append_assoc head after more, by_size (is_too_large head n) head after at)

head_keeps : (more : List ℕ) (f : HttpFault) (head after : List ℕ) → ReadsHead head after (broken f) → ReadsHead head (after ++ more) (broken f)
head_keeps more f head after (inl (h, of, e)) = inl (h, of, head_fault f h.method h.target h.minor (map field_of h.fields) after more e)
head_keeps more f head after (inr (none, e)) = inr (none, e)

pub Begins-append_broken : (bytes more : List ℕ) (f : HttpFault) → Begins bytes (broken f) → Begins (bytes ++ more) (broken f)
unfolding Begins
Begins-append_broken bytes more f begins = BeginsBy-append_broken ReadsHead more f (head_keeps more f) bytes begins
