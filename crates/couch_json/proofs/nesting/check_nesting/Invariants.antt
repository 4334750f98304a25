use Rattle.std.proofs.Common.{◌≡◌, ◌≤◌, drop, nat_lt}
use Rattle.std.specs.List.{list_any}
use Rattle.couch_json.specs.Nesting.{open_counts, max_open, nests_too_deep}
use Rattle.couch_json.proofs.nesting.check_nesting.Given as goal

abbrev pub invariant-loop-byte : goal.invariant-loop-byte
invariant-loop-byte l = record {
  rest : list_any (nat_lt max_open) (open_counts l.place l.open_count (drop l.byte-index l.bytes)) ≡ nests_too_deep l.bytes;
  few : l.open_count ≤ max_open;
}
