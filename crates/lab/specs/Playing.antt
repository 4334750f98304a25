-- How far a script was read, what it has printed, and which fault of the program a fault of a line is.
-- This project's own.
use Rattle.std.specs.Prelude.{◌≡◌, ◌≢◌, ℕ, zero, suc, true, List, [], Option, Some, is_some, IfSome}
use Rattle.std.specs.Io.BufRead.{drop_through, first_piece}
use Rattle.std.specs.Io.KnownBytes.{Appends}
use Rattle.command_line.specs.declared.fault.ProgramFault.{ProgramFault}
use Rattle.command_line.specs.declared.fault.ProgramFault.TheVariants as program
use Rattle.store.specs.declared.fault.StoreFault.{StoreFault}
use Rattle.store.specs.declared.fault.StoreFault.TheVariants as store
use Rattle.world.specs.declared.fault.WorldFaultKind.{WorldFaultKind}
use Rattle.world.specs.declared.fault.WorldFaultKind.TheVariants as world
use Rattle.lab.specs.Script.{line_of}
use Rattle.lab.specs.declared.fault.LineFault.{LineFault}
use Rattle.lab.specs.declared.fault.LineFault.TheVariants as line

-- a script without its first so many lines
abbrev pub after_lines : ℕ → List ℕ → List ℕ
after_lines zero script = script
after_lines (suc n) script = drop_through 10 (after_lines n script)

-- every line of a script is one that a script may have; its last may lack the line feed
abbrev pub AreLines : List ℕ → Type 0
AreLines script = (k : ℕ) → after_lines k script ≢ [] → is_some (line_of (first_piece 10 (after_lines k script))) ≡ true

-- so many lines were read of what a reader had left
abbrev pub ReadsLines : ℕ → Option (List ℕ) → Option (List ℕ) → Type 0
ReadsLines n old new = IfSome old (λ script. new ≡ Some (after_lines n script))

-- what was printed stands, and some more, or nothing more, was printed behind it
abbrev pub Prints : Option (List ℕ) → Option (List ℕ) → Type 0
Prints old new = (bytes : List ℕ) × Appends old new bytes

-- the fault of the program where this is that of the line of this number
abbrev pub fault_at : LineFault → ℕ → ProgramFault
fault_at line.Line n = program.Line n
fault_at line.File n = program.File
fault_at line.Memory n = program.Memory

-- the fault of a line that a fault of a store is
abbrev pub fault_of_store : StoreFault → LineFault
fault_of_store store.Memory = line.Memory
fault_of_store store.Exists = line.Line
fault_of_store store.NoDatabase = line.Line
fault_of_store store.Failed = line.File
fault_of_store store.Damaged = line.File
fault_of_store store.Full = line.File

-- the fault of a line that a fault of the world of this kind is
abbrev pub fault_of_world : WorldFaultKind → LineFault
fault_of_world world.Unknown = line.Line
fault_of_world world.Memory = line.Memory
