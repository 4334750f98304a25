-- Which requests are made again where they were lost, and after which pauses.
-- RFC 9110, section 9.2.2, for what may be repeated; that a POST of a pass reads, or brings revisions by their names, is this project's own.
use Rattle.std.specs.Prelude.{ℕ, Bool, ◌||◌, ◌*◌, min, bytes_eq, codes}
use Rattle.couch_http.specs.Message.{Message}

-- a GET or a POST
abbrev pub may_be_repeated : Message → Bool
may_be_repeated m = bytes_eq m.method (codes "GET") || bytes_eq m.method (codes "POST")

-- the pause after another one, in milliseconds: twice as long, and 10 seconds at most
abbrev pub next_pause : ℕ → ℕ
next_pause pause = min (pause * 2) 10000
