use Rattle.std.proofs.Common.{rules, Some, sym, ap}
use Rattle.std.proofs.lemmas.Bool.Decides.{nat_tests}
use Rattle.couch_http.proofs.BeginLemmas.{Begins-waits, Begins-long, head_scan-take}
use Rattle.couch_http.proofs.cutting.begin.Goals as goal

pub returns-then-not-may_go_on : goal.returns-then-not-may_go_on
returns-then-not-may_go_on c =
    Begins-long c.args.bytes.now c.in-Within.scan.lines c.in-Within.scan.line (sym c.in-Within.ensures.found) (search (rules, nat_tests))

pub returns-in_ok-bytes-in-Within : goal.returns-in_ok-bytes-in-Within
returns-in_ok-bytes-in-Within c = (
  Begins-waits c.args.bytes.now c.in-Within.scan.lines c.in-Within.scan.line (sym c.in-Within.ensures.found) (search (rules, nat_tests)),
  ap Some c.in_ok-bytes-in-Within.ensures.items,
  record {
    scanned = rw c.in_ok-bytes-in-Within.ensures.items (sym c.in-Within.ensures.found);
    counted = rw c.in_ok-bytes-in-Within.ensures.items (search rules);
    short = rw c.in_ok-bytes-in-Within.ensures.items (search rules);
  },
)

pub after_head-requires : goal.after_head-requires
after_head-requires c =
    rw c.split_at.ensures.front
    (head_scan-take c.args.bytes.now c.in-Complete.field-0.len c.in-Complete.field-0.lines (sym c.in-Complete.ensures.found))
