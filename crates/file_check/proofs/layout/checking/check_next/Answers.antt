use Rattle.tables.proofs.Common.{None, Some, rules, ◌≡◌}
use Rattle.file_check.proofs.Going.{goes_map, goes_of, goes_pure}
use Rattle.file_check.proofs.Walked.{next_found, next_stops}
use Rattle.file_check.proofs.layout.checking.check_next.Goals as goal

pub returns-in-Some : goal.returns-in-Some
returns-in-Some g c =
    let some : c.args.found ≡ Some c.in-Some.found = search rules in
    goes_pure c.args.conn.now _ _ (λ trees. next_stops trees c.args.table c.args.found c.in-Some.found some)

pub returns-in-None : goal.returns-in-None
returns-in-None g c =
    let none : c.args.found ≡ None = search rules in
    goes_map _ c.check_table.result (λ trees found h. next_found trees c.args.table c.args.found found none h) (goes_of c.check_table.ensures)
