-- A stream of replies begins in one way, and more bytes leave what it began with.
use Rattle.std.proofs.Common.{◌≡◌, ◌∙◌, ℕ, Bool, true, false, cond, List, [], ◌++◌, map, sym, ap, inl, inr}
use Rattle.httparse.specs.Grammar.{ResponseHead, status_code}
use Rattle.httparse.proofs.GrammarLemmas.{response_unique}
use Rattle.couch_http.specs.declared.fault.HttpFault.{HttpFault}
use Rattle.couch_http.specs.declared.fault.HttpFault.TheVariants.{Encoding}
use Rattle.couch_http.specs.Fields.{has_transfer_encoding}
use Rattle.couch_http.specs.Front.{Front, broken, whole, with_content_length}
use Rattle.couch_http.specs.Laws.{RepliesHaveOneReading}
use Rattle.couch_http.specs.Message.{HeaderField}
use Rattle.couch_http.specs.Reply.{Reply}
use Rattle.couch_http.specs.ReplyStream.{BeginsReply, ReadsReplyHead, after_reply_head, reply_front, reply_length, reply_with}
use Rattle.couch_http.specs.Stream.{field_of}
use Rattle.couch_http.proofs.StreamLaws.{BeginsBy-append_broken, BeginsBy-append_whole, BeginsBy_unique, content_length_append, content_length_fault}

heads_unique : (head rest : List ℕ) (x y : Front Reply) → ReadsReplyHead head rest x → ReadsReplyHead head rest y → x ≡ y
heads_unique head rest x y (inl (h, of, e)) (inl (k, also, f)) =
    let same : h ≡ k = (response_unique head h k [] [] of.reads also.reads).0 in
    e ∙ ap (λ (g : ResponseHead). reply_front head g rest) same ∙ sym f
heads_unique head rest x y (inl (h, of, e)) (inr (none, f)) = absurd (none h of)
heads_unique head rest x y (inr (none, e)) (inl (k, also, f)) = absurd (none k also)
heads_unique head rest x y (inr (none, e)) (inr (also, f)) = e ∙ sym f

BeginsReply_unique : (bytes : List ℕ) (x y : Front Reply) → BeginsReply bytes x → BeginsReply bytes y → x ≡ y
unfolding BeginsReply
BeginsReply_unique bytes x y = BeginsBy_unique ReadsReplyHead heads_unique bytes x y

head_append : (r : Reply) (rest head : List ℕ) (status : ℕ) (headers : List HeaderField) (after more : List ℕ) → whole r rest ≡ after_reply_head head status headers after
    → whole r (rest ++ more) ≡ after_reply_head head status headers (after ++ more)
head_append r rest head status headers after more e = by_test (has_transfer_encoding headers) e
  where
    by_test : (t : Bool) → whole r rest ≡ cond t (broken Encoding) (with_content_length (λ body. reply_with status head body) (reply_length headers) after)
        → whole r (rest ++ more) ≡ cond t (broken Encoding) (with_content_length (λ body. reply_with status head body) (reply_length headers) (after ++ more))
    by_test true e = cc
    by_test false e = content_length_append r (λ body. reply_with status head body) (reply_length headers) rest after more e

head_leaves : (more : List ℕ) (r : Reply) (rest head after : List ℕ) → ReadsReplyHead head after (whole r rest) → ReadsReplyHead head (after ++ more) (whole r (rest ++ more))
head_leaves more r rest head after (inl (h, of, e)) = inl (h, of, head_append r rest head (status_code h) (map field_of h.fields) after more e)
head_leaves more r rest head after (inr (none, e)) = cc

BeginsReply-append_whole : (bytes more : List ℕ) (r : Reply) (rest : List ℕ) → BeginsReply bytes (whole r rest) → BeginsReply (bytes ++ more) (whole r (rest ++ more))
unfolding BeginsReply
BeginsReply-append_whole bytes more r rest begins = BeginsBy-append_whole ReadsReplyHead more r rest (head_leaves more r rest) bytes begins

head_fault : (f : HttpFault) (head : List ℕ) (status : ℕ) (headers : List HeaderField) (after more : List ℕ) → broken f ≡ after_reply_head head status headers after
    → broken f ≡ after_reply_head head status headers (after ++ more)
head_fault f head status headers after more e = by_test (has_transfer_encoding headers) e
  where
    by_test : (t : Bool) → broken f ≡ cond t (broken Encoding) (with_content_length (λ body. reply_with status head body) (reply_length headers) after)
        → broken f ≡ cond t (broken Encoding) (with_content_length (λ body. reply_with status head body) (reply_length headers) (after ++ more))
    by_test true e = e
    by_test false e = content_length_fault f (λ body. reply_with status head body) (reply_length headers) after more e

head_keeps : (more : List ℕ) (f : HttpFault) (head after : List ℕ) → ReadsReplyHead head after (broken f) → ReadsReplyHead head (after ++ more) (broken f)
head_keeps more f head after (inl (h, of, e)) = inl (h, of, head_fault f head (status_code h) (map field_of h.fields) after more e)
head_keeps more f head after (inr (none, e)) = inr (none, e)

BeginsReply-append_broken : (bytes more : List ℕ) (f : HttpFault) → BeginsReply bytes (broken f) → BeginsReply (bytes ++ more) (broken f)
unfolding BeginsReply
BeginsReply-append_broken bytes more f begins = BeginsBy-append_broken ReadsReplyHead more f (head_keeps more f) bytes begins

pub any_pieces : RepliesHaveOneReading
any_pieces = (BeginsReply_unique, BeginsReply-append_whole, BeginsReply-append_broken)
