-- The reply of an answer.
-- This project's own.
use Rattle.std.specs.Prelude.{Option, Some, None}
use Rattle.couch_http.specs.Reply as http
use Rattle.sync.specs.declared.answer.Answer.{Answer}
use Rattle.sync.specs.declared.answer.Answer.TheVariants.{Reply, Lost, Unreadable}

-- the reply, where there is one
abbrev pub reply_of : Answer → Option http.Reply
reply_of (Reply reply) = Some reply
reply_of Lost = None
reply_of Unreadable = None
