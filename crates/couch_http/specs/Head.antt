-- Where the head of a request ends in a stream: any number of empty lines, lines that aren't empty, and an empty line.
-- RFC 9112, sections 2.1 and 2.2: lines end in CR LF, or in LF alone; empty lines before a request line are skipped.
use Rattle.std.specs.Prelude.{◌≡◌, ◌≢◌, ℕ, ◌+◌, ◌<◌, ◌⊎◌, Bool, true, false, ◌&&◌, not, List, [], ◌∷◌, ◌++◌, length, if◌then◌else◌, ◌==◌, nat_lt, All}
use Rattle.std.specs.List.{flat_map}
use Rattle.httparse.specs.Ascii.{line_feed, carriage_return}
use Rattle.couch_http.specs.declared.scan.Line.{Line}
use Rattle.couch_http.specs.declared.scan.Line.TheVariants.{Empty, Return, Text}

-- nothing of the line but a carriage return stands there yet
abbrev pub is_empty_so_far : Line → Bool
is_empty_so_far Empty = true
is_empty_so_far Return = true
is_empty_so_far Text = false

-- the line with one more byte
abbrev pub line_with : Line → ℕ → Line
line_with Empty b = if b == line_feed then Empty else (if b == carriage_return then Return else Text)
line_with Return b = if b == line_feed then Empty else Text
line_with Text b = if b == line_feed then Empty else Text

-- how many lines that aren't empty have ended
abbrev pub lines_with : ℕ → Line → ℕ → ℕ
lines_with lines line b = if b == line_feed && not (is_empty_so_far line) then lines + 1 else lines

-- the byte ends an empty line that comes after lines of text
abbrev pub ends_head : ℕ → Line → ℕ → Bool
ends_head lines line b = (b == line_feed && is_empty_so_far line) && nat_lt 0 lines

-- what a reading of bytes from the left finds
pub data HeadScan : Type 0 where
  -- no whole head: so many lines of text have ended, and this has come of the next line
  within : ℕ → Line → HeadScan
  -- a head of so many lines of text, and the bytes after it
  complete : ℕ → List ℕ → HeadScan

-- reading on, after so many lines of text and this much of a line
abbrev pub scan_from : ℕ → Line → List ℕ → HeadScan
scan_from lines line [] = within lines line
scan_from lines line (b ∷ bytes) =
    if ends_head lines line b then complete lines bytes else scan_from (lines_with lines line b) (line_with line b) bytes

-- reading a stream from its front
abbrev pub head_scan : List ℕ → HeadScan
head_scan bytes = scan_from 0 Empty bytes

-- the same without a reading from the left: CR LF or LF alone is an empty line
abbrev pub IsEmptyLine : List ℕ → Type 0
IsEmptyLine line = (line ≡ line_feed ∷ []) ⊎ (line ≡ carriage_return ∷ line_feed ∷ [])

-- a line that isn't empty: bytes that are no line feed, more than a carriage return, and a line feed
pub record IsTextLine (line : List ℕ) : Type 0 where
  pub text : List ℕ
  pub one_line : All (λ b. b ≢ line_feed) text
  pub not_blank : (text ≢ []) × (text ≢ carriage_return ∷ [])
  pub ends : line ≡ text ++ line_feed ∷ []

-- the bytes are a head with so many lines that aren't empty
pub record IsHead (head : List ℕ) (lines : ℕ) : Type 0 where
  pub blank : List (List ℕ)
  pub text : List (List ℕ)
  pub end : List ℕ
  pub blank_lines : All IsEmptyLine blank
  pub text_lines : All IsTextLine text
  pub empty_end : IsEmptyLine end
  pub count : (length text ≡ lines) × (0 < lines)
  pub joined : head ≡ (flat_map (λ line. line) blank ++ flat_map (λ line. line) text) ++ end
