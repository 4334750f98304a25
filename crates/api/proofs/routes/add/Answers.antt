use Rattle.std.proofs.Common.{rules}
use Rattle.matchit.specs.Route.{parse_route}
use Rattle.api.proofs.Apart.{no_conflict}
use Rattle.api.proofs.routes.add.Goals as goal

pub unreachable-requires : goal.unreachable-requires
unreachable-requires c =
    no_conflict (parse_route c.args.text.now) c.args.page c.args.router.now c.insert.new.self c.insert.result c.in-Err-Conflict.field-0-0 c.requires c.insert.ensures (search rules)
