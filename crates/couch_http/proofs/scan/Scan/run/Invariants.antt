use Rattle.std.proofs.Common.{◌≡◌, ◌+◌, ◌≤◌, drop}
use Rattle.couch_http.specs.Head.{scan_from}
use Rattle.couch_http.proofs.scan.Scan.run.Given as goal

-- what is left decides, and no line is counted twice
abbrev pub invariant-loop-i : goal.invariant-loop-i
invariant-loop-i l = record {
  found : scan_from l.scan.lines l.scan.line (drop l.i l.bytes) ≡ scan_from l.fn.self.lines l.fn.self.line l.bytes;
  counted : l.scan.lines ≤ l.fn.self.lines + l.i;
}
