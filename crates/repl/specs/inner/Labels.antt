-- A text that may be missing, as an enum of the code says it: for private clauses.
use Rattle.std.specs.Prelude.{ℕ, List, Option, Some, None}
use Rattle.repl.specs.declared.label.Label.{Label}
use Rattle.repl.specs.declared.label.Label.TheVariants.{Absent, Malformed, Text}

-- the text, or that there is none; nothing where something else stands there
abbrev pub label_of : Label → Option (Option (List ℕ))
label_of Absent = Some None
label_of Malformed = None
label_of (Text s) = Some (Some s.now)

-- the text, where it is one
abbrev pub text_of : Label → Option (List ℕ)
text_of Absent = None
text_of Malformed = None
text_of (Text s) = Some s.now
