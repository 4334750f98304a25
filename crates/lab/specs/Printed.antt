-- What a script prints.
-- This project's own.
use Rattle.std.specs.Prelude.{ℕ, Bool, ◌==◌, List, [], ◌∷◌, ◌++◌, codes, decimal, if◌then◌else◌}
use Rattle.couch_http.specs.Message.{Message}
use Rattle.couch_http.specs.Reply.{Reply}
use Rattle.couch_http.specs.RequestText.{query_text}
use Rattle.repl.specs.Ending.{summary_text, why_text}
use Rattle.repl.specs.Passes.{Asked, to_source, to_target, done, stopped_by}

-- a reply on the connection of this name: `c STATUS BODY` and a line feed
abbrev pub reply_line : List ℕ → Reply → List ℕ
reply_line name reply = ((name ++ (codes " " ++ (decimal reply.status ++ codes " "))) ++ reply.body) ++ 10 ∷ []

-- replies in order
abbrev pub reply_lines : List ℕ → List Reply → List ℕ
reply_lines name [] = []
reply_lines name (reply ∷ replies) = reply_line name reply ++ reply_lines name replies

-- that the connection of this name has ended: `c closed` and a line feed
abbrev pub closed_line : List ℕ → List ℕ
closed_line name = name ++ (codes " closed" ++ 10 ∷ [])

-- ---- replication passes

-- the name of a pass and the side that a request goes to
abbrev pub side_words : List ℕ → Bool → List ℕ
side_words name at_target = name ++ (if at_target then codes " target " else codes " source ")

-- the target of a request as it is sent: its path and, where it has a query, `?` and the query
abbrev pub target_of : Message → List ℕ
target_of m = m.path ++ query_text m.query

-- `METHOD TARGET`
abbrev pub request_words : Message → List ℕ
request_words m = m.method ++ (codes " " ++ target_of m)

-- a status in decimal, and `lost` in place of 0
abbrev pub outcome_text : ℕ → List ℕ
outcome_text status = if status == 0 then codes "lost" else decimal status

-- a space, the status and a line feed
abbrev pub outcome_end : ℕ → List ℕ
outcome_end status = codes " " ++ (outcome_text status ++ 10 ∷ [])

-- an exchange of the pass of this name: `r source METHOD TARGET STATUS`, or `r target ..`, and a line feed
abbrev pub step_line_of : List ℕ → Bool → Message → ℕ → List ℕ
step_line_of name at_target m status = side_words name at_target ++ (request_words m ++ outcome_end status)

-- the end of the pass of this name: `r done REPORT` or `r stopped WHY REPORT`, and a line feed; nothing while it has a request
abbrev pub end_line_of : List ℕ → Asked → List ℕ
end_line_of name (to_source m) = []
end_line_of name (to_target m) = []
end_line_of name (done s) = name ++ (codes " done " ++ (summary_text s ++ 10 ∷ []))
end_line_of name (stopped_by why s) = name ++ (codes " stopped " ++ (why_text why ++ (codes " " ++ (summary_text s ++ 10 ∷ []))))
