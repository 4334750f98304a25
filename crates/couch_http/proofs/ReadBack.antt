-- Replies of ours are read back.
use Rattle.std.proofs.Common.{◌≡◌, ℕ, ◌<◌, ◌≤◌, ◌^◌, Bool, true, false, List, [], ◌++◌, length, map, nat_lt, Ok, refl, sym, ap, ◌∙◌, subst, arith, append_assoc, append-nil, length-append, inl}
use Rattle.std.proofs.Math.Seq.{drop-append_seam, take-append_seam}
use Rattle.std.proofs.lemmas.Bool.{le-ltb}
use Rattle.http.specs.StatusCode.{IsStatusCode}
use Rattle.httparse.specs.Grammar.{status_code}
use Rattle.couch_http.specs.declared.fixed.Fixed.{Fixed}
use Rattle.couch_http.specs.declared.fixed.Fixed.TheVariants.{Syntax, Encoding, TooLarge, Store, NoRoom}
use Rattle.couch_http.specs.Fields.{has_transfer_encoding}
use Rattle.couch_http.specs.Front.{whole, with_content}
use Rattle.couch_http.specs.Head.{complete, head_scan}
use Rattle.couch_http.specs.Laws.{RepliesAreReadBack}
use Rattle.couch_http.specs.Message.{HeaderField}
use Rattle.couch_http.specs.Reply.{fixed_reply, reply_head, reply_of}
use Rattle.couch_http.specs.ReplyStream.{BeginsReply, IsReplyHeadOf, ReadsReplyHead, after_reply_head, reply_length, reply_limit, reply_with}
use Rattle.couch_http.specs.Stream.{field_of}
use Rattle.couch_http.proofs.HeadLaws.{head_is_found}
use Rattle.couch_http.proofs.ReplyHeads.{IsHead-reply_head, IsResponseHead-head_of, few_fields, head_of, is_too_large-reply_head, line_count, no_encoding, print_head_of, reply_length-head_of, status_code-head_of}
use Rattle.couch_http.proofs.ReplyLemmas.{BeginsReply-read}

-- a body that has come whole, and the bytes behind it
with_content-all : {A : Type 0} (made : List ℕ → A) (body rest : List ℕ) → with_content made (length body) (body ++ rest) ≡ whole (made body) rest
with_content-all made body rest =
    let come : nat_lt (length (body ++ rest)) (length body) ≡ false =
    le-ltb (length (body ++ rest)) (length body) (omega (arith, length-append body rest)) in
    rw (come, take-append_seam, drop-append_seam) refl

-- a head that says how long the body is
after_reply_head-all : (head : List ℕ) (code status : ℕ) (headers : List HeaderField) (body rest : List ℕ) → code ≡ status
    → has_transfer_encoding headers ≡ false → reply_length headers ≡ Ok (length body)
    → after_reply_head head code headers (body ++ rest) ≡ whole (reply_with status head body) rest
after_reply_head-all head code status headers body rest same plain size =
    rw (same, plain, size) (with_content-all (λ body. reply_with status head body) body rest)

-- the limit of a body is a number that is written in few digits
small_body : (size : ℕ) → size ≤ reply_limit → size < 2 ^ 64
unfolding reply_limit
small_body size most = omega (arith, most)

IsReplyHeadOf-reply_head : (status size : ℕ) (last : Bool) → IsStatusCode status → size < 2 ^ 64
    → IsReplyHeadOf (reply_head status size last) (head_of status size last)
IsReplyHeadOf-reply_head status size last is small = record {
  reads = (IsResponseHead-head_of status size last is small, sym (print_head_of status size last) ∙ sym (append-nil _));
  few = few_fields status size last;
}

head_scan-reply_head : (status size : ℕ) (last : Bool) → IsStatusCode status → size < 2 ^ 64
    → head_scan (reply_head status size last) ≡ complete (line_count last) []
head_scan-reply_head status size last is small =
    let head = reply_head status size last in
    ap head_scan (sym (append-nil head)) ∙ head_is_found head [] (line_count last) (IsHead-reply_head status size last is small)

reads_reply : (status : ℕ) (body : List ℕ) (last : Bool) (rest : List ℕ) → IsStatusCode status → length body ≤ reply_limit
    → ReadsReplyHead (reply_head status (length body) last) (body ++ rest) (whole (reply_of status body last) rest)
reads_reply status body last rest is most =
    let size = length body in
    let small = small_body size most in
    let h = head_of status size last in
    let front : after_reply_head (reply_head status size last) (status_code h) (map field_of h.fields) (body ++ rest) ≡ whole (reply_of status body last) rest =
    after_reply_head-all (reply_head status size last) (status_code h) status (map field_of h.fields) body rest (status_code-head_of status size last is)
    (no_encoding status size last) (reply_length-head_of status size last small most) in
    inl (h, IsReplyHeadOf-reply_head status size last is small, sym front)

made_reply : (status : ℕ) (body : List ℕ) (last : Bool) (rest : List ℕ) → IsStatusCode status → length body ≤ reply_limit
    → BeginsReply ((reply_of status body last).bytes ++ rest) (whole (reply_of status body last) rest)
made_reply status body last rest is most =
    let head = reply_head status (length body) last in
    let small = small_body (length body) most in
    subst (λ (bytes : List ℕ). BeginsReply bytes (whole (reply_of status body last) rest)) (sym (append_assoc head body rest))
    (BeginsReply-read head (body ++ rest) (line_count last) (whole (reply_of status body last) rest) (head_scan-reply_head status (length body) last is small)
    (is_too_large-reply_head status (length body) last is small) (reads_reply status body last rest is most))

fixed_replies : (fixed : Fixed) (rest : List ℕ) → BeginsReply ((fixed_reply fixed).bytes ++ rest) (whole (fixed_reply fixed) rest)
unfolding reply_limit
fixed_replies Syntax rest = made_reply 400 (fixed_reply Syntax).body true rest (omega arith, omega arith) (omega arith)
fixed_replies Encoding rest = made_reply 501 (fixed_reply Encoding).body true rest (omega arith, omega arith) (omega arith)
fixed_replies TooLarge rest = made_reply 413 (fixed_reply TooLarge).body true rest (omega arith, omega arith) (omega arith)
fixed_replies (Store last) rest = made_reply 500 (fixed_reply (Store last)).body last rest (omega arith, omega arith) (omega arith)
fixed_replies (NoRoom last) rest = made_reply 503 (fixed_reply (NoRoom last)).body last rest (omega arith, omega arith) (omega arith)

pub our_replies : RepliesAreReadBack
our_replies = (made_reply, fixed_replies)
