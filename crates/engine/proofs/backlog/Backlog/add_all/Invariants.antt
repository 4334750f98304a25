use Rattle.std.proofs.Common.{◌≡◌, ◌≤◌, ◌++◌, drop, length}
use Rattle.hub.specs.Service.{bytes_of}
use Rattle.engine.specs.Standing.{greatest_owed}
use Rattle.engine.proofs.backlog.Backlog.add_all.Given as goal

abbrev pub invariant-loop-reply : goal.invariant-loop-reply
invariant-loop-reply l = record {
  whole : l.self ++ bytes_of (drop l.reply-index l.replies) ≡ l.initial.self ++ bytes_of l.replies;
  bound : length l.initial.self ≤ greatest_owed → length l.self ≤ greatest_owed;
}
