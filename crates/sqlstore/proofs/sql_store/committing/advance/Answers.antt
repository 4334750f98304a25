use Rattle.sqlstore.proofs.Common.{rules, ◌≡◌}
use Rattle.std.specs.Cmp.Rules.{comparing}
use Rattle.sqlstore.proofs.sql_store.committing.advance.Goals as goal

pub returns-then-eq : goal.returns-then-eq
returns-then-eq c =
    let named : c.in_ok-known.known.name ≡ c.args.name.now = search (comparing, rules) in
    (c.in_ok-known.known, c.in_ok-known.was, named, c.at_sequence.ensures)
