-- What the program's reading of one head answers, in the words of `Stream`.
use Rattle.std.specs.Prelude.{◌≡◌, ℕ, List, map}
use Rattle.httparse.specs.Grammar.{RequestHead}
use Rattle.httparse.specs.Spans.{span_bytes, IsRequestAt}
use Rattle.httparse.specs.declared.spans.HeaderSpan.{HeaderSpan}
use Rattle.httparse.specs.declared.spans.RequestSpans.{RequestSpans}
use Rattle.couch_http.specs.declared.head.HeadRead.{HeadRead}
use Rattle.couch_http.specs.declared.head.HeadRead.TheVariants.{Broken, Announced}
use Rattle.couch_http.specs.Message.{HeaderField, Message, message_of}
use Rattle.couch_http.specs.Stream.{Front, broken, with_body, after_head, IsHeadOf, ReadsHead}

-- how a stream begins with the head that was read, and then these bytes
abbrev pub read_front : HeadRead → List ℕ → Front Message
read_front (Broken fault) rest = broken fault
read_front (Announced request size) rest = with_body (message_of request) size rest

abbrev pub IsHeadRead : List ℕ → HeadRead → Type 0
IsHeadRead head read = (rest : List ℕ) → ReadsHead head rest (read_front read rest)

-- the header that the spans cover
abbrev pub field_at : List ℕ → HeaderSpan → HeaderField
field_at head s = record { name = span_bytes head s.name; value = span_bytes head s.value }

-- the same for a head whose parts were found
abbrev pub IsReadOf : List ℕ → RequestSpans → List HeaderSpan → HeadRead → Type 0
IsReadOf head found spans read =
    (rest : List ℕ) → read_front read rest
    ≡ after_head (span_bytes head found.method) (span_bytes head found.path) found.version (map (field_at head) spans) rest

-- the parts that were found are those of a head that is all of these bytes
abbrev pub IsWholeRequest : List ℕ → List HeaderSpan → RequestSpans → Type 0
IsWholeRequest head spans found = (h : RequestHead) × IsHeadOf head h × IsRequestAt head spans found h
