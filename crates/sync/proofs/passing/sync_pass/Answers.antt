use Rattle.sync.proofs.passing.sync_pass.Goals as goal

pub returns-clause-ended : goal.returns-clause-ended
returns-clause-ended g c = c.watch_pass.ensures.ended

pub returns-clause-early : goal.returns-clause-early
returns-clause-early g c = c.watch_pass.ensures.early

pub returns-clause-kept : goal.returns-clause-kept
returns-clause-kept g c = c.watch_pass.ensures.kept

pub returns-clause-unknown : goal.returns-clause-unknown
returns-clause-unknown g c = c.watch_pass.ensures.unknown

pub returns-clause-faults : goal.returns-clause-faults
returns-clause-faults g c = c.watch_pass.ensures.faults

pub returns-clause-memory : goal.returns-clause-memory
returns-clause-memory g c = c.watch_pass.ensures.memory

pub returns-clause-file : goal.returns-clause-file
returns-clause-file g c = c.watch_pass.ensures.file
