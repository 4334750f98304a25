-- Which faults of the program are of no line of a script.
-- This project's own.
use Rattle.std.specs.Prelude.{◌≢◌, ℕ}
use Rattle.command_line.specs.declared.fault.ProgramFault.{ProgramFault}
use Rattle.command_line.specs.declared.fault.ProgramFault.TheVariants.{Line}

-- the fault is of no line
abbrev pub IsOfNoLine : ProgramFault → Type 0
IsOfNoLine fault = (n : ℕ) → fault ≢ Line n
