-- The end of a pass: what is printed of it, and the program's status.
-- This project's own.
use Rattle.std.specs.Prelude.{◌≡◌, ◌⊎◌, ℕ, false, List, [], ◌∷◌, ◌++◌, codes, Option}
use Rattle.std.specs.Io.KnownBytes.{Appends}
use Rattle.command_line.specs.declared.fault.ProgramFault.{ProgramFault}
use Rattle.command_line.specs.declared.fault.ProgramFault.TheVariants.{File, Line, Memory, Socket}
use Rattle.couch_json.specs.Value.{Value}
use Rattle.repl.specs.Ending.{summary_text, why_text}
use Rattle.repl.specs.Passes.{Asked, to_source, to_target, done, stopped_by}
use Rattle.couch_http.specs.Writing.{Takes}
use Rattle.sync.specs.Turns.{ComesToEnd, RunsOut, TurnOf}

-- the report as a line, behind `stopped WHY ` where the pass stopped; nothing while it has a request
abbrev pub end_text : Asked → List ℕ
end_text (to_source m) = []
end_text (to_target m) = []
end_text (done s) = summary_text s ++ 10 ∷ []
end_text (stopped_by why s) = codes "stopped " ++ (why_text why ++ (codes " " ++ (summary_text s ++ 10 ∷ [])))

-- something was refused, or nothing
abbrev pub status_of_refused : List Value → ℕ
status_of_refused [] = 0
status_of_refused (v ∷ vs) = 3

-- the program's status: 0 where the pass is done and nothing was refused, 3 where something was, 4 where it stopped
abbrev pub status_of : Asked → ℕ
status_of (to_source m) = 0
status_of (to_target m) = 0
status_of (done s) = status_of_refused s.refused
status_of (stopped_by why s) = 4

-- what was printed before stands at the front of what a writer holds
abbrev pub StandsIn : Option (List ℕ) → Option (List ℕ) → Type 0
StandsIn old new = (written : List ℕ) × Appends old new written

-- what a fault says of a line that was to be written: nothing was, or it was not written whole
abbrev pub IsUnwritten : Option (List ℕ) → Option (List ℕ) → List ℕ → ProgramFault → Type 0
IsUnwritten old new text Memory = new ≡ old
IsUnwritten old new text File = Takes old new text false
IsUnwritten old new text Socket = ⊥
IsUnwritten old new text (Line n) = ⊥

-- The end of a pass was not told: the pass had not ended, and nothing was printed; or it had, and its line was not printed whole.
abbrev pub IsUntold : {A : Type 0} → TurnOf A → A → A → Option (List ℕ) → Option (List ℕ) → Type 0
IsUntold turn before after old new =
    (RunsOut turn before after × (new ≡ old)) ⊎ ((asked : Asked) × ComesToEnd turn before asked after × Takes old new (end_text asked) false)
