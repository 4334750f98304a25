use Rattle.sqlstore.proofs.Common.{memory_is_clean}
use Rattle.sqlstore.proofs.in_memory.MemoryStore.new.Goals as goal

pub invariant_of-result : goal.invariant_of-result
invariant_of-result c = record { honest = c.set_segment_length.ensures.honest (c.in-Ok.ensures.made (memory_is_clean c.in-Ok.store.conn) c.in_ok-conn.ensures.empty.2).0 }
