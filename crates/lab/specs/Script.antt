-- The lines of a script for the laboratory.
-- This project's own.
use Rattle.std.specs.Prelude.{ℕ, ◌&&◌, List, codes, Option, Some, None, option_map, option_and_then, bytes_eq, if◌then◌else◌}
use Rattle.store.specs.DatabaseName.{is_database_name}
use Rattle.lab.specs.Words.{parts_at_space, is_word, is_node_name}
use Rattle.lab.specs.Escapes.{unescaped_text}
use Rattle.lab.specs.PassLines.{PassWords, batch_pass_of, pass_words_of}
use Rattle.lab.specs.declared.turn.Turn.{Turn}
use Rattle.lab.specs.declared.turn.Turn.TheVariants.{Step, Lose, Unsent, Run}

-- what a line says
pub data ScriptLine : Type 0 where
  -- there is a node of this name
  node_line : List ℕ → ScriptLine
  -- a node has a database of this name that is open to everyone
  public_line : List ℕ → List ℕ → ScriptLine
  -- a connection to a node has this name
  conn_line : List ℕ → List ℕ → ScriptLine
  -- a connection is sent these bytes
  send_line : List ℕ → List ℕ → ScriptLine
  -- a connection is closed
  close_line : List ℕ → ScriptLine
  -- there is a replication pass
  repl_line : PassWords → ScriptLine
  -- a pass makes exchanges
  turn_line : Turn → List ℕ → ScriptLine

-- `node A`, where this is `A`
abbrev pub node_of : List ℕ → Option ScriptLine
node_of name = if is_node_name name then Some (node_line name) else None

-- `public A db`, where these are `A` and `db`
abbrev pub public_of : List ℕ → List ℕ → Option ScriptLine
public_of node name = if is_node_name node && is_database_name name then Some (public_line node name) else None

-- `conn A c`, where these are `A` and `c`
abbrev pub conn_of : List ℕ → List ℕ → Option ScriptLine
conn_of node name = if is_node_name node && is_word name then Some (conn_line node name) else None

-- `send c TEXT`, where these are `c` and `TEXT`, which is the rest of the line and may be empty
abbrev pub send_of : List ℕ → List ℕ → Option ScriptLine
send_of name text = if is_word name then option_map (λ piece. send_line name piece) (unescaped_text text) else None

-- `close c`, where this is `c`
abbrev pub close_of : List ℕ → Option ScriptLine
close_of name = if is_word name then Some (close_line name) else None

-- `repl r A/db B/db SESSION [NAME]`, where this is all but the first word
abbrev pub repl_of : List ℕ → Option ScriptLine
repl_of words = option_map (λ pass. repl_line pass) (pass_words_of None words)

-- `batch N r A/db B/db SESSION [NAME]`, where this is all but the first word
abbrev pub batch_repl_of : List ℕ → Option ScriptLine
batch_repl_of words = option_map (λ pass. repl_line pass) (batch_pass_of words)

-- what the first word of a line has a pass do
abbrev pub turn_named : List ℕ → Option Turn
turn_named word =
    if bytes_eq word (codes "step") then Some Step
    else if bytes_eq word (codes "lose") then Some Lose
    else if bytes_eq word (codes "unsent") then Some Unsent
    else if bytes_eq word (codes "run") then Some Run
    else None

-- `step r`, where this is `r`; or `lose r`, `unsent r` or `run r`
abbrev pub turn_of : Turn → List ℕ → Option ScriptLine
turn_of turn name = if is_word name then Some (turn_line turn name) else None

-- the line of a replication pass whose first word this is, with what stands behind it
abbrev pub pass_line_with : List ℕ → List ℕ → Option ScriptLine
pass_line_with word rest =
    if bytes_eq word (codes "repl") then repl_of rest
    else if bytes_eq word (codes "batch") then batch_repl_of rest
    else option_and_then (λ turn. turn_of turn rest) (turn_named word)

-- the line whose first word this is, with what stands behind it
abbrev pub line_with : List ℕ → List ℕ → Option ScriptLine
line_with word rest =
    if bytes_eq word (codes "node") then node_of rest
    else if bytes_eq word (codes "public") then option_and_then (λ p. public_of p.0 p.1) (parts_at_space rest)
    else if bytes_eq word (codes "conn") then option_and_then (λ p. conn_of p.0 p.1) (parts_at_space rest)
    else if bytes_eq word (codes "send") then option_and_then (λ p. send_of p.0 p.1) (parts_at_space rest)
    else if bytes_eq word (codes "close") then close_of rest
    else pass_line_with word rest

-- what the bytes of a line say, without its line feed, or none where they are no line of a script
abbrev pub line_of : List ℕ → Option ScriptLine
line_of bytes = option_and_then (λ p. line_with p.0 p.1) (parts_at_space bytes)
