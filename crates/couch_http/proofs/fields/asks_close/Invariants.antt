use Rattle.std.proofs.Common.{◌≡◌, drop, map}
use Rattle.couch_http.specs.Message.{header_field}
use Rattle.couch_http.specs.Fields.{asks_close}
use Rattle.couch_http.proofs.fields.asks_close.Given as goal

-- what is left decides
abbrev pub invariant-loop-header : goal.invariant-loop-header
invariant-loop-header l =
    asks_close (map header_field (drop l.header-index l.headers)) ≡ asks_close (map header_field l.headers)
