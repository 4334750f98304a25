use Rattle.std.proofs.Common.{◌∙◌, ◌-◌, length, Some, None, refl}
use Rattle.std.proofs.lemmas.Option.{slice_get_past, slice_get_read}
use Rattle.world.proofs.Exchanges.{ended_at}
use Rattle.world.proofs.exchanging.has_ended.Goals as goal

pub returns-in-Some : goal.returns-in-Some
returns-in-Some c =
    c.has_ended.ensures ∙ ended_at c.args.transfers.now c.args.repl (Some c.in-Some.transfer.now) c.if-repl-eq0.false
    (slice_get_read c.args.transfers.now (length c.args.transfers.now) (c.args.repl - 1) c.in-Some.transfer.now refl c.in-Some.ensures.lookup.3.0 c.in-Some.ensures.lookup.1)

pub returns-in-None : goal.returns-in-None
returns-in-None c = ended_at c.args.transfers.now c.args.repl None c.if-repl-eq0.false (slice_get_past c.args.transfers.now (c.args.repl - 1) c.in-None.ensures.lookup.3)
