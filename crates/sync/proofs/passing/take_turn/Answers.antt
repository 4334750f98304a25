use Rattle.std.proofs.Common.{◌≡◌}
use Rattle.command_line.specs.declared.fault.ProgramFault.TheVariants.{File}
use Rattle.sync.proofs.Refusals.{breaks_off, was_never_started}
use Rattle.sync.proofs.passing.take_turn.Goals as goal

pub returns-in-Err-clause-early : goal.returns-in-Err-clause-early
returns-in-Err-clause-early g c = λ honest.
    breaks_off g.S.Store c.args.repl c.in-Err.fault.kind c.args.world.now c.play.new.self c.in-Err.fault.played c.in-Err.ensures.within (c.in-Err.ensures.stands honest)

pub returns-in-Err-clause-file : goal.returns-in-Err-clause-file
returns-in-Err-clause-file g c = λ file.
    let is : c.program_fault.result ≡ File = cc in
    was_never_started c.args.world.now.connections c.args.world.now.transfers c.args.repl c.in-Err.fault.played (c.in-Err.ensures.unknown (c.program_fault.ensures.file is))
