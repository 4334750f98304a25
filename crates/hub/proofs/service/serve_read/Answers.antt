use Rattle.std.proofs.Common.{Some, arith}
use Rattle.hub.proofs.ServiceLemmas.{nothing_read, serves_none, unread}
use Rattle.hub.specs.declared.service_end.ServiceEnd.TheVariants.{EndOfInput, ReadFailed}
use Rattle.hub.proofs.service.serve_read.Goals as goal

pub returns-in-Ok-eq0-clause-served : goal.returns-in-Ok-eq0-clause-served
returns-in-Ok-eq0-clause-served g c =
    let before = g.R.Read.remaining c.args.reader.now in
    let after = g.R.Read.remaining c.read_some.new.reader in (
      0,
      λ e. absurd (cc),
      serves_none g.S.Store c.args.hub.now c.args.conn (Some EndOfInput) before after (g.W.Write.contents c.args.writer.now) (λ e. absurd (cc)) (λ e. absurd (cc))
          (nothing_read before after c.in-Ok-eq0.field-0 c.read_some.new.room c.in-Ok-eq0.field-0-test c.in-Ok-eq0.ensures.bytes.0)
          (λ _. c.in-Ok-eq0.ensures.bytes.1 c.in-Ok-eq0.field-0-test (omega (arith, c.requires.room, c.read_some.auto.room))) c.requires.open,
    )

pub returns-in-Err-clause-served : goal.returns-in-Err-clause-served
returns-in-Err-clause-served g c =
    let before = g.R.Read.remaining c.args.reader.now in
    let after = g.R.Read.remaining c.read_some.new.reader in (
      0,
      λ e. absurd (cc),
      serves_none g.S.Store c.args.hub.now c.args.conn (Some ReadFailed) before after (g.W.Write.contents c.args.writer.now) (λ e. absurd (cc)) (λ e. absurd (cc))
          (unread before after c.in-Err.ensures.bytes) (λ e. absurd (cc)) c.requires.open,
    )
