use Rattle.std.proofs.Common.{◌≡◌, drop, map}
use Rattle.std.specs.List.{list_all}
use Rattle.httparse.specs.Spans.{header_bytes}
use Rattle.sync.specs.Persistence.{leaves_open}
use Rattle.sync.proofs.persistence.leave_open.Given as goal

abbrev pub invariant-loop-span : goal.invariant-loop-span
invariant-loop-span l = list_all leaves_open (map (header_bytes l.bytes) (drop l.span-index l.spans)) ≡ list_all leaves_open (map (header_bytes l.bytes) l.spans)
