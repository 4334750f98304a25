use Rattle.std.proofs.Common.{◌≡◌, ◌++◌, drop, map}
use Rattle.couch_http.specs.Message.{header_field}
use Rattle.couch_http.specs.Beginning.{field_at}
use Rattle.couch_http.proofs.head.headers_at.Given as goal

-- the headers so far and those of the spans that are left
abbrev pub invariant-loop-span : goal.invariant-loop-span
invariant-loop-span l =
    map header_field l.headers.items ++ map (field_at l.head) (drop l.span-index l.spans) ≡ map (field_at l.head) l.spans
