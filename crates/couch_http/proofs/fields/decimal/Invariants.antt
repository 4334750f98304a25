use Rattle.std.proofs.Common.{◌≡◌, ◌≤◌, drop}
use Rattle.couch_http.specs.Fields.{decimal_after}
use Rattle.couch_http.proofs.fields.decimal.Given as goal

-- the number so far and the digits that are left make the number
abbrev pub invariant-loop-digit : goal.invariant-loop-digit
invariant-loop-digit l = record {
  made : decimal_after l.number (drop l.digit-index l.digits) ≡ decimal_after 0 l.digits;
  small : l.number ≤ l.limit;
}
