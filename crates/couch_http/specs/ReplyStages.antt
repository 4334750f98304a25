-- What a reply cutter keeps between two pieces, in the words of `ReplyStream`.
use Rattle.std.specs.Prelude.{◌≡◌, ⊤, ◌≤◌, List, ◌++◌, length, map, Option, Some, None, ℕ}
use Rattle.httparse.specs.Grammar.{ResponseHead}
use Rattle.httparse.specs.Spans.{IsResponseAt}
use Rattle.httparse.specs.declared.spans.HeaderSpan.{HeaderSpan}
use Rattle.httparse.specs.declared.spans.ResponseSpans.{ResponseSpans}
use Rattle.couch_http.specs.declared.reply_head.ReplyHeadRead.{ReplyHeadRead}
use Rattle.couch_http.specs.declared.reply_head.ReplyHeadRead.TheVariants.{Broken, Announced}
use Rattle.couch_http.specs.declared.reply_stage.PartialReply.{PartialReply}
use Rattle.couch_http.specs.declared.reply_stage.ReplyRefused.{ReplyRefused}
use Rattle.couch_http.specs.declared.reply_stage.ReplyStage.{ReplyStage}
use Rattle.couch_http.specs.declared.reply_stage.ReplyStage.TheVariants.{Head, Body, Closed}
use Rattle.couch_http.specs.declared.reply_stage.ReplyTaken.{ReplyTaken}
use Rattle.couch_http.specs.declared.reply_stage.ReplyTaken.TheVariants.{Waits, Whole}
use Rattle.couch_http.specs.Beginning.{field_at}
use Rattle.couch_http.specs.Front.{Front, waits, broken, whole, with_content}
use Rattle.couch_http.specs.Reply.{Reply}
use Rattle.couch_http.specs.ReplyStream.{BeginsReply, IsReplyHeadOf, ReadsReplyHead, RefusesReply, after_reply_head, reply_with}
use Rattle.couch_http.specs.Stages.{IsPartialHead}
use Rattle.couch_http.specs.Stream.{IsStreamFault}

-- how a stream begins with the head that was read, and then these bytes
abbrev pub read_reply_front : List ℕ → ReplyHeadRead → List ℕ → Front Reply
read_reply_front head (Broken fault) rest = broken fault
read_reply_front head (Announced status size) rest = with_content (λ body. reply_with status head body) size rest

abbrev pub IsReplyHeadRead : List ℕ → ReplyHeadRead → Type 0
IsReplyHeadRead head read = (rest : List ℕ) → ReadsReplyHead head rest (read_reply_front head read rest)

-- the same of a head at the front of a stream
abbrev pub IsReplyBegun : List ℕ → ReplyHeadRead → Type 0
IsReplyBegun head read = (rest : List ℕ) → BeginsReply (head ++ rest) (read_reply_front head read rest)

-- a fault that was read is one that a stream may have
abbrev pub IsSoundRead : ReplyHeadRead → Type 0
IsSoundRead (Broken fault) = IsStreamFault fault
IsSoundRead (Announced status size) = ⊤

-- the parts that were found are those of a head that is all of these bytes
abbrev pub IsWholeReplyHead : List ℕ → List HeaderSpan → ResponseSpans → Type 0
IsWholeReplyHead head spans found = (h : ResponseHead) × IsReplyHeadOf head h × IsResponseAt head spans found h

-- what was read of a head whose parts were found
abbrev pub IsReplyReadOf : List ℕ → ResponseSpans → List HeaderSpan → ReplyHeadRead → Type 0
IsReplyReadOf head found spans read =
    (rest : List ℕ) → read_reply_front head read rest ≡ after_reply_head head found.code (map (field_at head) spans) rest

-- The bytes are a head and no more than its body, and the reply comes with the last byte of that.
pub record IsPartialReply (p : PartialReply) : Type 0 where
  pub head : List ℕ
  pub body : List ℕ
  pub parts : p.bytes.items ≡ head ++ body
  pub at : p.head_len ≡ length head
  pub within : length body ≤ p.size
  pub awaits : (rest : List ℕ) → BeginsReply (head ++ rest) (with_content (λ content. reply_with p.status head content) p.size rest)

-- nothing of a piece was taken behind the head
abbrev pub IsReplyKept : PartialReply → PartialReply → Type 0
IsReplyKept old new = IsPartialReply new × (new.bytes.items ≡ old.bytes.items)

abbrev pub IsReplyStage : ReplyStage → Type 0
IsReplyStage (Head p) = IsPartialHead p
IsReplyStage (Body p) = IsPartialReply p
IsReplyStage Closed = Unit {0}

-- what has come of the reply, where it is waited for
abbrev pub reply_rest : ReplyStage → Option (List ℕ)
reply_rest (Head p) = Some p.bytes.items
reply_rest (Body p) = Some p.bytes.items
reply_rest Closed = None

-- what these bytes are the front of, and what is kept of them
abbrev pub IsReplyTaken : List ℕ → ReplyTaken → Type 0
IsReplyTaken bytes (Waits stage) = BeginsReply bytes waits × (reply_rest stage ≡ Some bytes) × IsReplyStage stage
IsReplyTaken bytes (Whole reply) = (rest : List ℕ) × BeginsReply bytes (whole reply rest)

-- the same for what had come and a piece
abbrev pub IsReplyTakenFrom : Option (List ℕ) → List ℕ → ReplyTaken → Type 0
IsReplyTakenFrom (Some old) piece taken = IsReplyTaken (old ++ piece) taken
IsReplyTakenFrom None piece taken = ⊥

-- why nothing was taken, and what is still kept
abbrev pub IsReplyRefused : Option (List ℕ) → List ℕ → ReplyRefused → Type 0
IsReplyRefused old piece r = IsReplyStage r.stage × RefusesReply old piece r.fault (reply_rest r.stage)
