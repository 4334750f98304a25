-- How streams of replies begin: with a head that is whole, or with less.
use Rattle.std.proofs.Common.{◌≡◌, ℕ, ◌-◌, ◌<◌, ◌≤◌, true, false, List, [], ◌++◌, length, take, drop, refl, sym, ap, ◌∙◌, subst, append_assoc}
use Rattle.std.proofs.lemmas.List.{drop_at}
use Rattle.std.specs.Prelude.{nat_lt}
use Rattle.couch_http.specs.declared.scan.Line.{Line}
use Rattle.couch_http.specs.declared.fault.HttpFault.TheVariants.{TooLarge}
use Rattle.couch_http.specs.Front.{Front, waits, broken, whole, head_limit, is_too_large, unfinished_head, with_content}
use Rattle.couch_http.specs.Head.{within, complete, head_scan}
use Rattle.couch_http.specs.Reply.{Reply}
use Rattle.couch_http.specs.ReplyStream.{BeginsReply, ReadsReplyHead, reply_with}
use Rattle.couch_http.proofs.BeginLemmas.{BeginsBy-head, BeginsBy-unfinished, with_content-done, with_content-waits}

-- a stream whose head is whole
pub BeginsReply-large : (head rest : List ℕ) (lines : ℕ) → head_scan head ≡ complete lines [] → is_too_large head lines ≡ true → BeginsReply (head ++ rest) (broken TooLarge)
unfolding BeginsReply
BeginsReply-large head rest lines scanned large = BeginsBy-head ReadsReplyHead head rest lines _ scanned (rw large refl)

pub BeginsReply-read : (head rest : List ℕ) (lines : ℕ) (front : Front Reply) → head_scan head ≡ complete lines [] → is_too_large head lines ≡ false
    → ReadsReplyHead head rest front → BeginsReply (head ++ rest) front
unfolding BeginsReply
BeginsReply-read head rest lines front scanned small read = BeginsBy-head ReadsReplyHead head rest lines front scanned (rw small read)

-- a stream without a whole head
BeginsReply-unfinished : (bytes : List ℕ) (n : ℕ) (line : Line) → head_scan bytes ≡ within n line → BeginsReply bytes (unfinished_head bytes)
unfolding BeginsReply
BeginsReply-unfinished bytes n line scanned = BeginsBy-unfinished ReadsReplyHead bytes n line scanned

pub BeginsReply-waits : (bytes : List ℕ) (n : ℕ) (line : Line) → head_scan bytes ≡ within n line → nat_lt (length bytes) head_limit ≡ true → BeginsReply bytes waits
BeginsReply-waits bytes n line scanned short = rw short at (BeginsReply-unfinished bytes n line scanned)

pub BeginsReply-long : (bytes : List ℕ) (n : ℕ) (line : Line) → head_scan bytes ≡ within n line → nat_lt (length bytes) head_limit ≡ false → BeginsReply bytes (broken TooLarge)
BeginsReply-long bytes n line scanned long = rw long at (BeginsReply-unfinished bytes n line scanned)

-- a piece behind a head and part of its body, which is not yet all of it
pub reply_waits : (status size : ℕ) (head body piece : List ℕ)
    → ((rest : List ℕ) → BeginsReply (head ++ rest) (with_content (λ content. reply_with status head content) size rest)) → length (body ++ piece) < size
    → BeginsReply ((head ++ body) ++ piece) waits
reply_waits status size head body piece awaits short =
    rw append_assoc (rw (with_content-waits (λ content. reply_with status head content) size (body ++ piece) short) at (awaits (body ++ piece)))

-- and which is
pub reply_done : (status size missing : ℕ) (head body piece : List ℕ) (reply : Reply)
    → ((rest : List ℕ) → BeginsReply (head ++ rest) (with_content (λ content. reply_with status head content) size rest)) → length body ≤ size
    → missing ≡ size - length body → missing ≤ length piece → (bytes : List ℕ) → bytes ≡ (head ++ body) ++ take missing piece
    → reply ≡ record { status = status; body = drop (length head) bytes; bytes = bytes }
    → (rest : List ℕ) × BeginsReply ((head ++ body) ++ piece) (whole reply rest)
reply_done status size missing head body piece reply awaits inside same enough bytes all is =
    let done = with_content-done (λ content. reply_with status head content) size body piece inside (rw same at enough) in
    let joined : bytes ≡ head ++ (body ++ take missing piece) = all ∙ append_assoc head body (take missing piece) in
    let content : drop (length head) bytes ≡ body ++ take missing piece =
    ap (drop (length head)) joined ∙ drop_at head (body ++ take missing piece) (length head) refl in
    let seen : reply ≡ reply_with status head (body ++ take missing piece) =
    is ∙ (λ i. record { status = status; body = content i; bytes = joined i }) in
    let front : whole reply (drop missing piece) ≡ with_content (λ content. reply_with status head content) size (body ++ piece) =
    ap (λ (r : Reply). whole r (drop missing piece)) seen
    ∙ ap (λ (n : ℕ). whole (reply_with status head (body ++ take n piece)) (drop n piece)) same ∙ sym done in
    (drop missing piece, subst (λ (f : Front Reply). BeginsReply ((head ++ body) ++ piece) f) (sym front) (rw append_assoc (awaits (body ++ piece))))
