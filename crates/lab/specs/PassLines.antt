-- What a script says of a replication pass: its name, its two databases, its session, and maybe its batch, and the user in whose name it asks.
-- This project's own.
use Rattle.std.specs.Prelude.{ℕ, ◌&&◌, List, Option, Some, None, option_map, option_and_then, if◌then◌else◌}
use Rattle.store.specs.DatabaseName.{is_database_name}
use Rattle.repl.specs.Configuration.{batch_of}
use Rattle.command_line.specs.Plan.{number_between}
use Rattle.lab.specs.Words.{parts_at_space, parts_at_slash, is_word, is_text_word, is_node_name}

-- a database of a node: both names, and how they are written together
pub record PassSide : Type 0 where
  pub text : List ℕ
  pub node : List ℕ
  pub database : List ℕ

-- a pass
pub record PassWords : Type 0 where
  pub name : List ℕ
  pub source : PassSide
  pub target : PassSide
  pub session : List ℕ
  pub user : Option (List ℕ)
  pub batch : Option ℕ

-- the side whose text has these names before and behind its first slash
abbrev pub side_with : List ℕ → List ℕ → List ℕ → Option PassSide
side_with text node database =
    if is_node_name node && is_database_name database then Some (record { text = text; node = node; database = database }) else None

-- `A/db`
abbrev pub side_of : List ℕ → Option PassSide
side_of text = option_and_then (λ p. side_with text p.0 p.1) (parts_at_slash text)

-- a side, and what stands behind its space
pub record SideThen : Type 0 where
  pub side : PassSide
  pub rest : List ℕ

-- `A/db REST`
abbrev pub side_then_of : List ℕ → Option SideThen
side_then_of words =
    option_and_then (λ p. option_map (λ side. record { side = side; rest = p.1 }) (side_of p.0)) (parts_at_space words)

-- the session of a pass, and its user where one is named
pub record PassSession : Type 0 where
  pub session : List ℕ
  pub user : Option (List ℕ)

-- `SESSION NAME`, where these are `SESSION` and `NAME`
abbrev pub session_and_user : List ℕ → List ℕ → Option PassSession
session_and_user session user =
    if is_text_word session && is_text_word user then Some (record { session = session; user = Some user }) else None

-- `SESSION`
abbrev pub session_alone : List ℕ → Option PassSession
session_alone session = if is_text_word session then Some (record { session = session; user = None }) else None

-- the same of the words and their parts at the first space, if there is one
abbrev pub session_in : List ℕ → Option (List ℕ × List ℕ) → Option PassSession
session_in words None = session_alone words
session_in words (Some p) = session_and_user p.0 p.1

-- `SESSION` or `SESSION NAME`
abbrev pub session_of : List ℕ → Option PassSession
session_of words = session_in words (parts_at_space words)

-- a pass with this batch and this name between these sides
abbrev pub pass_with : Option ℕ → List ℕ → PassSide → PassSide → PassSession → PassWords
pass_with batch name source target s =
    record { name = name; source = source; target = target; session = s.session; user = s.user; batch = batch }

-- `B/db SESSION [NAME]`, for a pass of this name from this source
abbrev pub pass_from : Option ℕ → List ℕ → PassSide → List ℕ → Option PassWords
pass_from batch name source words =
    option_and_then (λ t. option_map (λ s. pass_with batch name source t.side s) (session_of t.rest)) (side_then_of words)

-- `r A/db B/db SESSION [NAME]`, where the first of these is `r`
abbrev pub pass_named : Option ℕ → List ℕ → List ℕ → Option PassWords
pass_named batch name words =
    if is_word name then option_and_then (λ s. pass_from batch name s.side s.rest) (side_then_of words) else None

-- `r A/db B/db SESSION [NAME]`
abbrev pub pass_words_of : Option ℕ → List ℕ → Option PassWords
pass_words_of batch words = option_and_then (λ p. pass_named batch p.0 p.1) (parts_at_space words)

-- the batch that a word spells
abbrev pub batch_in : List ℕ → Option ℕ
batch_in word = if is_text_word word then option_and_then batch_of (number_between 1 1000 word) else None

-- `N r A/db B/db SESSION [NAME]`
abbrev pub batch_pass_of : List ℕ → Option PassWords
batch_pass_of words =
    option_and_then (λ p. option_and_then (λ size. pass_words_of (Some size) p.1) (batch_in p.0)) (parts_at_space words)
