-- Requests one after another.
use Rattle.std.proofs.Common.{◌≡◌, ℕ, Bool, true, false, List, [], ◌∷◌, ◌++◌, refl, sym, ap, ◌∙◌, append_assoc, append-nil}
use Rattle.std.specs.Prelude.{MatchBool}
use Rattle.couch_http.specs.declared.fault.HttpFault.{HttpFault}
use Rattle.couch_http.specs.declared.scan.Line.TheVariants.{Empty}
use Rattle.couch_http.specs.Message.{Message}
use Rattle.couch_http.specs.Stream.{waits, broken, whole, Begins, StreamEnd, unfinished, ended, faulty, Cuts}
use Rattle.couch_http.specs.Front.{head_limit}
use Rattle.couch_http.specs.Pieces.{bytes_of_pieces, CutInPieces, GivesFirst}
use Rattle.couch_http.proofs.BeginLemmas.{Begins-waits}
use Rattle.couch_http.proofs.StreamLaws.{Begins_unique, Begins-append_whole, Begins-append_broken}

-- whatever cuts the rest cuts all, behind the requests so far
abbrev pub CutsOn : List ℕ → List Message → List ℕ → Type 0
CutsOn bytes messages rest =
    (others : List Message) (end : StreamEnd) → Cuts rest others end → Cuts bytes (messages ++ others) end

pub CutsOn-push : (bytes : List ℕ) (messages : List Message) (rest : List ℕ) (m : Message) (more : List ℕ)
    → CutsOn bytes messages rest → Begins rest (whole m more) → m.last ≡ false → CutsOn bytes (messages ++ m ∷ []) more
CutsOn-push bytes messages rest m more on begins goes others end cuts =
    rw append_assoc (on (m ∷ others) end (more, begins, rw goes cuts))

pub Cuts-last : (bytes : List ℕ) (messages : List Message) (rest : List ℕ) (m : Message) (more : List ℕ)
    → CutsOn bytes messages rest → Begins rest (whole m more) → m.last ≡ true → Cuts bytes (messages ++ m ∷ []) ended
Cuts-last bytes messages rest m more on begins last = on (m ∷ []) ended (more, begins, rw last (refl, refl))

-- ---- one reading

pub Cuts_unique : (bytes : List ℕ) (ms ns : List Message) (e f : StreamEnd) → Cuts bytes ms e → Cuts bytes ns f → (ms ≡ ns) × (e ≡ f)
Cuts_unique bytes [] [] (unfinished r) (unfinished s) (a, p) (b, q) = (refl, ap unfinished (p ∙ sym q))
Cuts_unique bytes [] [] (unfinished r) ended a b = absurd b
Cuts_unique bytes [] [] (unfinished r) (faulty g) (a, p) b = let e = Begins_unique bytes waits (broken g) a b in cc
Cuts_unique bytes [] [] ended f a b = absurd a
Cuts_unique bytes [] [] (faulty g) (unfinished s) a (b, q) = let e = Begins_unique bytes waits (broken g) b a in cc
Cuts_unique bytes [] [] (faulty g) ended a b = absurd b
Cuts_unique bytes [] [] (faulty g) (faulty h) a b =
    let e = Begins_unique bytes (broken g) (broken h) a b in
    let same : g ≡ h = cc in
    (refl, ap faulty same)
Cuts_unique bytes [] (n ∷ ns) (unfinished r) f (a, p) (s, b, y) = let e = Begins_unique bytes waits (whole n s) a b in cc
Cuts_unique bytes [] (n ∷ ns) ended f a b = absurd a
Cuts_unique bytes [] (n ∷ ns) (faulty g) f a (s, b, y) = let e = Begins_unique bytes (broken g) (whole n s) a b in cc
Cuts_unique bytes (m ∷ ms) [] e (unfinished s) (r, a, x) (b, q) = let e' = Begins_unique bytes waits (whole m r) b a in cc
Cuts_unique bytes (m ∷ ms) [] e ended a b = absurd b
Cuts_unique bytes (m ∷ ms) [] e (faulty g) (r, a, x) b = let e' = Begins_unique bytes (broken g) (whole m r) b a in cc
Cuts_unique bytes (m ∷ ms) (n ∷ ns) e f (r, a, x) (s, b, y) =
    let same = Begins_unique bytes (whole m r) (whole n s) a b in
    let message : n ≡ m = cc in
    let rest : s ≡ r = cc in
    by_last m.last message x (rw (message, rest) at y) (Cuts_unique r ms ns e f)
  where
    by_last : (t : Bool) → n ≡ m → MatchBool t ((ms ≡ []) × (e ≡ ended)) (Cuts r ms e) → MatchBool t ((ns ≡ []) × (f ≡ ended)) (Cuts r ns f)
        → (Cuts r ms e → Cuts r ns f → (ms ≡ ns) × (e ≡ f)) → (m ∷ ms ≡ n ∷ ns) × (e ≡ f)
    by_last true message x y again = (cc (x.0, y.0), x.1 ∙ sym y.1)
    by_last false message x y again =
        let found = again x y in
        (cc (found.0), found.1)

-- ---- more bytes

pub Cuts-append : (bytes more : List ℕ) (ms ns : List Message) (rest : List ℕ) (end : StreamEnd) → Cuts bytes ms (unfinished rest)
    → Cuts (rest ++ more) ns end → Cuts (bytes ++ more) (ms ++ ns) end
Cuts-append bytes more [] ns rest end (begins, same) cuts = rw same at cuts
Cuts-append bytes more (m ∷ ms) ns rest end (r, begins, next) cuts =
    (r ++ more, Begins-append_whole bytes more m r begins, by_last m.last next (λ on. Cuts-append r more ms ns rest end on cuts))
  where
    by_last : (t : Bool) → MatchBool t ((ms ≡ []) × (unfinished rest ≡ ended)) (Cuts r ms (unfinished rest))
        → (Cuts r ms (unfinished rest) → Cuts (r ++ more) (ms ++ ns) end)
        → MatchBool t ((ms ++ ns ≡ []) × (end ≡ ended)) (Cuts (r ++ more) (ms ++ ns) end)
    by_last true next on = cc (next.1)
    by_last false next on = on next

pub Cuts-append_ended : (bytes more : List ℕ) (ms : List Message) → Cuts bytes ms ended → Cuts (bytes ++ more) ms ended
Cuts-append_ended bytes more [] cuts = cuts
Cuts-append_ended bytes more (m ∷ ms) (r, begins, next) =
    (r ++ more, Begins-append_whole bytes more m r begins, by_last m.last next (λ on. Cuts-append_ended r more ms on))
  where
    by_last : (t : Bool) → MatchBool t ((ms ≡ []) × (ended ≡ ended)) (Cuts r ms ended) → (Cuts r ms ended → Cuts (r ++ more) ms ended)
        → MatchBool t ((ms ≡ []) × (ended ≡ ended)) (Cuts (r ++ more) ms ended)
    by_last true next on = next
    by_last false next on = on next

pub Cuts-append_faulty : (bytes more : List ℕ) (ms : List Message) (fault : HttpFault) → Cuts bytes ms (faulty fault)
    → Cuts (bytes ++ more) ms (faulty fault)
Cuts-append_faulty bytes more [] fault cuts = Begins-append_broken bytes more fault cuts
Cuts-append_faulty bytes more (m ∷ ms) fault (r, begins, next) =
    (r ++ more, Begins-append_whole bytes more m r begins, by_last m.last next (λ on. Cuts-append_faulty r more ms fault on))
  where
    by_last : (t : Bool) → MatchBool t ((ms ≡ []) × (faulty fault ≡ ended)) (Cuts r ms (faulty fault))
        → (Cuts r ms (faulty fault) → Cuts (r ++ more) ms (faulty fault))
        → MatchBool t ((ms ≡ []) × (faulty fault ≡ ended)) (Cuts (r ++ more) ms (faulty fault))
    by_last true next on = next
    by_last false next on = on next

-- ---- pieces

-- what is left waits
pub Cuts-unfinished : (bytes : List ℕ) (ms : List Message) (rest : List ℕ) → Cuts bytes ms (unfinished rest) → Begins rest waits
Cuts-unfinished bytes [] rest (begins, same) = rw same begins
Cuts-unfinished bytes (m ∷ ms) rest (r, begins, next) = by_last m.last next (Cuts-unfinished r ms rest)
  where
    by_last : (t : Bool) → MatchBool t ((ms ≡ []) × (unfinished rest ≡ ended)) (Cuts r ms (unfinished rest))
        → (Cuts r ms (unfinished rest) → Begins rest waits) → Begins rest waits
    by_last true next on = cc (next.1)
    by_last false next on = on next

-- cut in pieces, a stream holds what it holds as a whole
pub CutInPieces-whole : (pieces : List (List ℕ)) (left : List ℕ) (ms : List Message) (end : StreamEnd) → Begins left waits
    → CutInPieces left pieces ms end → Cuts (left ++ bytes_of_pieces pieces) ms end
CutInPieces-whole [] left ms end begins (none, same) =
    rw (append-nil, none, same) (begins, refl)
CutInPieces-whole (piece ∷ pieces) left ms end begins (first, middle, cuts, on) =
    rw (← append_assoc) (by_middle middle cuts on (λ after others waiting then. CutInPieces-whole pieces after others end waiting then))
  where
    by_middle : (e : StreamEnd) → Cuts (left ++ piece) first e
        → GivesFirst e (λ after others. CutInPieces after pieces others end) first ms end
        → ((after : List ℕ) (others : List Message) → Begins after waits → CutInPieces after pieces others end
        → Cuts (after ++ bytes_of_pieces pieces) others end)
        → Cuts (left ++ piece ++ bytes_of_pieces pieces) ms end
    by_middle (unfinished after) cuts (others, then, same) again =
        rw same (Cuts-append (left ++ piece) (bytes_of_pieces pieces) first others after end cuts
        (again after others (Cuts-unfinished (left ++ piece) first after cuts) then))
    by_middle ended cuts (same, e) again = rw (same, e) (Cuts-append_ended (left ++ piece) (bytes_of_pieces pieces) first cuts)
    by_middle (faulty fault) cuts (same, e) again =
        rw (same, e) (Cuts-append_faulty (left ++ piece) (bytes_of_pieces pieces) first fault cuts)

-- nothing has come of the first request
pub Begins-nothing : Begins [] waits
unfolding head_limit
Begins-nothing = Begins-waits [] 0 Empty refl refl
