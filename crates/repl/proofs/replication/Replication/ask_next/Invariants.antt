use Rattle.std.proofs.Common.{◌≡◌, map, take}
use Rattle.couch_http.specs.Message.{message_of}
use Rattle.repl.specs.Asks.{pass_of}
use Rattle.repl.specs.Passes.{asked_next}
use Rattle.repl.proofs.replication.Replication.ask_next.Given as goal

-- as many requests were made as turns were taken
abbrev pub invariant-loop-index : goal.invariant-loop-index
invariant-loop-index l = map message_of l.requests.items ≡ take l.index (asked_next (pass_of l.self))
