use Rattle.std.proofs.Common.{◌∙◌, inl}
use Rattle.std.proofs.lemmas.Result.{IfOk-weaker}
use Rattle.couch_http.specs.ReplyStages.{IsReplyHeadRead}
use Rattle.couch_http.proofs.HeadLemmas.{after_reply_head-found}
use Rattle.couch_http.proofs.reply_head.read_reply_head.Goals as goal

pub returns-in-Some-clause-read : goal.returns-in-Some-clause-read
returns-in-Some-clause-read c =
    let found = c.in-Some.ensures.found in
    IfOk-weaker c.announce_reply.result _ (IsReplyHeadRead c.args.head.now)
    (λ read is rest. inl (found.0, found.1, is rest ∙ after_reply_head-found c.args.head.now c.find_reply_parts.new.spans c.in-Some.found found.0 found.2 rest))
    c.announce_reply.ensures.read
