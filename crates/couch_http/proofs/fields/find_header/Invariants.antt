use Rattle.std.proofs.Common.{◌≡◌, drop, map}
use Rattle.couch_http.specs.Message.{header_field}
use Rattle.couch_http.specs.Fields.{values_of_header}
use Rattle.couch_http.proofs.fields.find_header.Given as goal

-- none of those so far has the name
abbrev pub invariant-loop-i : goal.invariant-loop-i
invariant-loop-i l = values_of_header l.name (map header_field (drop l.i l.headers)) ≡ values_of_header l.name (map header_field l.headers)
