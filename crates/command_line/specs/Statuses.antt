-- The status that the program ends with where it ends with a fault.
-- This project's own.
use Rattle.std.specs.Prelude.{ℕ}
use Rattle.command_line.specs.declared.command_fault.CommandFault.{CommandFault}
use Rattle.command_line.specs.declared.command_fault.CommandFault.TheVariants.{Plan, Program}
use Rattle.command_line.specs.declared.plans.PlanFault.TheVariants.{Usage, Memory}

-- 2 where the command line is invalid; 1 where memory ran out as it was read, or where what it asked for ended early
abbrev pub status_of : CommandFault → ℕ
status_of (Plan Usage) = 2
status_of (Plan Memory) = 1
status_of (Program fault) = 1
