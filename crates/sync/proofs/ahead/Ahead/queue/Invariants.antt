use Rattle.std.proofs.Common.{◌≡◌, ◌++◌, ◌∷◌, map, take}
use Rattle.std.specs.List.{concat}
use Rattle.couch_http.specs.Message.{message_of}
use Rattle.couch_http.specs.RequestText.{request_text}
use Rattle.sync.specs.Sending.{awaited_of}
use Rattle.sync.proofs.ahead.Ahead.queue.Given as goal

-- so many requests were taken, and their bytes stand behind those of the first
abbrev pub invariant-loop-request : goal.invariant-loop-request
invariant-loop-request l = record {
  awaited : awaited_of l.self ≡ awaited_of l.fn.self ++ take l.request-index (map (λ r. request_text (message_of r)) l.next);
  bytes : l.bytes.items ≡ concat (request_text (message_of l.first) ∷ take l.request-index (map (λ r. request_text (message_of r)) l.next));
}
