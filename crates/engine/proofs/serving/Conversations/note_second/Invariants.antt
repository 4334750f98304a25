use Rattle.std.proofs.Common.{◌≡◌}
use Rattle.engine.specs.inner.Rounds.{standings_of}
use Rattle.engine.proofs.serving.Conversations.note_second.Given as goal

abbrev pub invariant-loop-conn : goal.invariant-loop-conn
invariant-loop-conn l = record {
  alike : standings_of l.self.conversations.entries ≡ standings_of l.initial.self.conversations.entries;
  accepted : l.self.accepted ≡ l.initial.self.accepted;
}
