use Rattle.std.proofs.Common.{◌≡◌, ◌++◌, drop, map}
use Rattle.couch_http.specs.Message.{header_field}
use Rattle.couch_http.specs.RequestText.{field_lines}
use Rattle.couch_http.proofs.request_lines.push_fields.Given as goal

abbrev pub invariant-loop-header : goal.invariant-loop-header
invariant-loop-header l =
    l.out.items ++ field_lines (map header_field (drop l.header-index l.headers)) ≡ l.fn.out.items ++ field_lines (map header_field l.headers)
