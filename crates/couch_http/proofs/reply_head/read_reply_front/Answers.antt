use Rattle.std.proofs.Common.{sym}
use Rattle.couch_http.proofs.ReplyLemmas.{BeginsReply-large, BeginsReply-read}
use Rattle.couch_http.proofs.reply_head.read_reply_front.Goals as goal

pub returns-then-is_too_large-clause-begun : goal.returns-then-is_too_large-clause-begun
returns-then-is_too_large-clause-begun c = λ rest.
    BeginsReply-large c.args.head.now rest c.args.lines c.requires (sym c.if-is_too_large.ensures)

pub returns-clause-begun : goal.returns-clause-begun
returns-clause-begun c = λ rest.
    BeginsReply-read c.args.head.now rest c.args.lines _ c.requires (sym c.if-is_too_large.ensures) (c.in_ok-read.ensures.read rest)
