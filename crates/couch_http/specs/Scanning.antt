-- What the program's search for the end of a head answers, in the words of `Head`.
use Rattle.std.specs.Prelude.{ℕ, ◌+◌, ◌≤◌, List, length, drop}
use Rattle.couch_http.specs.declared.scan.Scanned.{Scanned}
use Rattle.couch_http.specs.declared.scan.Scanned.TheVariants.{Within, Complete}
use Rattle.couch_http.specs.Head.{HeadScan, within, complete}

-- the answer for these bytes
abbrev pub scan_found : List ℕ → Scanned → HeadScan
scan_found bytes (Within scan) = within scan.lines scan.line
scan_found bytes (Complete head) = complete head.lines (drop head.len bytes)

-- no more lines were counted than there are bytes, and the head lies in them
abbrev pub IsScanOf : ℕ → List ℕ → Scanned → Type 0
IsScanOf lines bytes (Within scan) = scan.lines ≤ lines + length bytes
IsScanOf lines bytes (Complete head) = head.len ≤ length bytes
