-- The faults of a stream are Syntax, Encoding and TooLarge.
use Rattle.std.proofs.Common.{◌≡◌, ℕ, Bool, true, false, cond, List, [], ◌∷◌, ◌++◌, length, map, sym, subst, Ok, Err, Result, Option, Some, None, inl, inr}
use Rattle.std.specs.Prelude.{⊤, IfErr, MatchBool, nat_lt, codes}
use Rattle.couch_http.specs.declared.cut.Cut.{Cut}
use Rattle.couch_http.specs.declared.cut.Ending.{Ending}
use Rattle.couch_http.specs.declared.cut.Ending.TheVariants.{Open, Last, Fault}
use Rattle.couch_http.specs.declared.fault.HttpFault.{HttpFault}
use Rattle.couch_http.specs.declared.fault.HttpFault.TheVariants.{Syntax, Encoding, TooLarge}
use Rattle.couch_http.specs.Cutting.{CutsPiece, CutsTo, HasStreamFault, messages_of}
use Rattle.couch_http.specs.Fields.{body_limit, length_of_values, request_length, has_transfer_encoding, values_of_header}
use Rattle.couch_http.specs.Head.{HeadScan, within, complete, head_scan}
use Rattle.couch_http.specs.Message.{HeaderField, Message}
use Rattle.couch_http.specs.ReplyStream.{reply_length, reply_limit}
use Rattle.couch_http.specs.Stream.{Front, waits, broken, whole, head_limit, with_length, announced_request, after_head, field_of, ReadsHead, AtScan, is_too_large, Begins, ended, faulty, Cuts, IsStreamFault}

-- a front that isn't broken by the fault of a call
abbrev IsSound : Front Message → Type 0
IsSound waits = ⊤
IsSound (broken fault) = IsStreamFault fault
IsSound (whole m rest) = ⊤

abbrev IsLength : Result ℕ HttpFault → Type 0
IsLength (Ok n) = ⊤
IsLength (Err fault) = IsStreamFault fault

number_sound : (large : Bool) (n : ℕ) → IsLength (cond large (Err TooLarge) (Ok n))
number_sound true n = tt
number_sound false n = tt

text_sound : (written : Bool) (large : Bool) (n : ℕ) → IsLength (cond written (cond large (Err TooLarge) (Ok n)) (Err Syntax))
text_sound true large n = number_sound large n
text_sound false large n = tt

length_sound : (limit : ℕ) (absent : Result ℕ HttpFault) → IsLength absent → (values : List (List ℕ)) → IsLength (length_of_values limit absent values)
length_sound limit absent h [] = h
length_sound limit absent h (value ∷ []) = text_sound _ _ _
length_sound limit absent h (value ∷ other ∷ more) = tt

pub reply_length_sound : (headers : List HeaderField) (r : Result ℕ HttpFault) → r ≡ reply_length headers → IfErr r IsStreamFault
reply_length_sound headers r same =
    subst (λ (x : Result ℕ HttpFault). IfErr x IsStreamFault) (sym same) (as_fault (reply_length headers) (length_sound reply_limit (Err Syntax) tt (values_of_header (codes "Content-Length") headers)))
  where
    as_fault : (x : Result ℕ HttpFault) → IsLength x → IfErr x IsStreamFault
    as_fault (Ok n) h = tt
    as_fault (Err fault) h = h

body_sound : (short : Bool) (m : Message) (rest : List ℕ) → IsSound (cond short waits (whole m rest))
body_sound true m rest = tt
body_sound false m rest = tt

with_length_sound : (m : Message) (size : Result ℕ HttpFault) (rest : List ℕ) → IsLength size → IsSound (with_length m size rest)
with_length_sound m (Ok size) rest h = body_sound (nat_lt (length rest) size) _ _
with_length_sound m (Err fault) rest h = h

head_sound : (encoded : Bool) (m : Message) (size : Result ℕ HttpFault) (rest : List ℕ) → IsLength size → IsSound (cond encoded (broken Encoding) (with_length m size rest))
head_sound true m size rest h = tt
head_sound false m size rest h = with_length_sound m size rest h

after_head_sound : (method target : List ℕ) (minor : ℕ) (headers : List HeaderField) (rest : List ℕ) → IsSound (after_head method target minor headers rest)
after_head_sound method target minor headers rest =
    head_sound (has_transfer_encoding headers) (announced_request method target minor headers) (request_length headers) rest
    (length_sound body_limit (Ok 0) tt (values_of_header (codes "Content-Length") headers))

reads_sound : (head rest : List ℕ) (front : Front Message) → ReadsHead head rest front → IsSound front
reads_sound head rest front (inl (h, of, e)) = subst IsSound (sym e) (after_head_sound h.method h.target h.minor (map field_of h.fields) rest)
reads_sound head rest front (inr (none, e)) = subst IsSound (sym e) tt

unfinished_sound : (short : Bool) → IsSound (cond short waits (broken TooLarge))
unfinished_sound true = tt
unfinished_sound false = tt

size_sound : (large : Bool) (head rest : List ℕ) (front : Front Message) → MatchBool large (front ≡ broken TooLarge) (ReadsHead head rest front) → IsSound front
size_sound true head rest front e = subst IsSound (sym e) tt
size_sound false head rest front reads = reads_sound head rest front reads

pub Begins_sound : (bytes : List ℕ) (front : Front Message) → Begins bytes front → IsSound front
unfolding Begins
Begins_sound bytes front begins = by_scan (head_scan bytes) begins
  where
    by_scan : (s : HeadScan) → AtScan s bytes front → IsSound front
    by_scan (within n line) e = subst IsSound (sym e) (unfinished_sound (nat_lt (length bytes) head_limit))
    by_scan (complete n rest) (head, joined, at) = size_sound (is_too_large head n) head rest front at

pub Cuts_fault : (bytes : List ℕ) (messages : List Message) (fault : HttpFault) → Cuts bytes messages (faulty fault) → IsStreamFault fault
Cuts_fault bytes [] fault begins = Begins_sound bytes (broken fault) begins
Cuts_fault bytes (m ∷ messages) fault (rest, begins, next) = by_last m.last next (Cuts_fault rest messages fault)
  where
    by_last : (t : Bool) → MatchBool t ((messages ≡ []) × (faulty fault ≡ ended)) (Cuts rest messages (faulty fault))
        → (Cuts rest messages (faulty fault) → IsStreamFault fault) → IsStreamFault fault
    by_last true next on = cc (next.1)
    by_last false next on = on next

-- what a cutter answers
ending_sound : (bytes : List ℕ) (messages : List Message) (ending : Ending) (left : Option (List ℕ)) → CutsTo bytes messages ending left → HasStreamFault ending
ending_sound bytes messages Open left cuts = tt
ending_sound bytes messages Last left cuts = tt
ending_sound bytes messages (Fault fault) None cuts = Cuts_fault bytes messages fault cuts
ending_sound bytes messages (Fault fault) (Some left) cuts = absurd cuts

pub HasStreamFault_answer : (old : Option (List ℕ)) (piece : List ℕ) (cut : Cut) (left : Option (List ℕ)) → CutsPiece old piece cut left → HasStreamFault cut.ending
HasStreamFault_answer None piece cut left answers = absurd answers
HasStreamFault_answer (Some old) piece cut left answers = ending_sound (old ++ piece) (messages_of cut) cut.ending left answers
