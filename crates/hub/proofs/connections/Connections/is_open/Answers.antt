use Rattle.std.proofs.Common.{◌∙◌, sym}
use Rattle.hub.proofs.Rests.{contains_open}
use Rattle.hub.proofs.connections.Connections.is_open.Goals as goal

pub returns-then-was_opened : goal.returns-then-was_opened
returns-then-was_opened c =
    contains_open c.self.inside.cutters.entries c.self.inside.opened c.args.conn c.args.self.now c.contains_key.result c.self.view_is
    (sym c.was_opened.ensures ∙ c.if-was_opened.true) c.contains_key.ensures
