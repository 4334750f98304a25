use Rattle.sqlite.specs.Steps.{over_memory}
use Rattle.sqlstore.proofs.Answering.{same_contents}
use Rattle.sqlstore.proofs.Common.{memory_is_clean, ◌∙◌}
use Rattle.sqlstore.proofs.in_memory.MemoryStore.reopen.Goals as goal

pub returns-in-Ok : goal.returns-in-Ok
returns-in-Ok c =
    same_contents over_memory c.in-Ok.store c.set_segment_length.new.self c.set_segment_length.ensures.stands ∙ (c.in-Ok.ensures.same c.args.self.honest (memory_is_clean c.in-Ok.store.conn)).1
