-- Checkpoints of the program, in the words of `Checkpoints`.
use Rattle.std.specs.Prelude.{ℕ, List, Option, map, option_map, string_bytes, String}
use Rattle.std.specs.BTreeMap.{BTreeMap, get_by_text}
use Rattle.std.specs.declared.alloc.Global.{Global}
use Rattle.repl.specs.Checkpoints.{Checkpoint, Session}
use Rattle.repl.specs.declared.checkpoint.KeptCheckpoint.{KeptCheckpoint}
use Rattle.repl.specs.declared.checkpoint.KeptSession.{KeptSession}
use Rattle.repl.specs.declared.count.Count.{Count}

abbrev pub session_of : KeptSession → Session
session_of s = record { session = string_bytes s.session; sequence = s.sequence.value }

abbrev pub checkpoint_of : KeptCheckpoint → Checkpoint
checkpoint_of c = record {
  session = string_bytes c.session;
  sequence = c.sequence.value;
  history = map session_of c.history.items;
}

-- the sequence that an index has for a session
abbrev pub sequence_at : BTreeMap (String Global) Count → List ℕ → Option ℕ
sequence_at index name = option_map (λ c. c.value) (get_by_text index name)
