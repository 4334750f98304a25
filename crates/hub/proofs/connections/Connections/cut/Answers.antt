use Rattle.std.proofs.Common.{◌∙◌, sym}
use Rattle.hub.proofs.Rests.{table_closed}
use Rattle.hub.proofs.connections.Connections.cut.Goals as goal

pub returns-clause-closed : goal.returns-clause-closed
returns-clause-closed c =
    let opened = sym c.was_opened.ensures ∙ c.if-not-was_opened.false in
    let iff = table_closed c.self.inside.cutters.entries c.self.inside.opened c.args.conn c.args.self.now c.self.view_is opened in
    (λ e. (opened, iff.0 (c.cut_piece.ensures.closed.0 e)), λ e. c.cut_piece.ensures.closed.1 (iff.1 e.1))
