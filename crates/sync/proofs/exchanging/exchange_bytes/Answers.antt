use Rattle.std.proofs.lemmas.Result.{IfOk-weaker}
use Rattle.sync.specs.Exchange.{Standing}
use Rattle.sync.specs.Streams.{outcomes_of}
use Rattle.sync.proofs.Made.{sent, unsent}
use Rattle.sync.proofs.exchanging.exchange_bytes.Goals as goal

pub returns-then-not-write_logged-clause-exchange :
    goal.returns-then-not-write_logged-clause-exchange
returns-then-not-write_logged-clause-exchange g c =
    let input : Standing = record { bytes = g.R.Read.remaining c.args.reader.now.stream; log = outcomes_of c.args.reader.now.log.items } in
    let output : Standing = record { bytes = g.W.Write.contents c.args.writer.now.stream; log = outcomes_of c.args.writer.now.log.items } in
    let after : Standing = record { bytes = g.W.Write.contents c.write_logged.new.writer.stream; log = outcomes_of c.write_logged.new.writer.log.items } in
    unsent c.args.bytes.now input input output after c.write_logged.result c.write_logged.ensures c.if-not-write_logged.true

pub returns-clause-exchange : goal.returns-clause-exchange
returns-clause-exchange g c =
    let input : Standing = record { bytes = g.R.Read.remaining c.args.reader.now.stream; log = outcomes_of c.args.reader.now.log.items } in
    let rest : Standing = record { bytes = g.R.Read.remaining c.read_reply.new.reader.stream; log = outcomes_of c.read_reply.new.reader.log.items } in
    let output : Standing = record { bytes = g.W.Write.contents c.args.writer.now.stream; log = outcomes_of c.args.writer.now.log.items } in
    let after : Standing = record { bytes = g.W.Write.contents c.write_logged.new.writer.stream; log = outcomes_of c.write_logged.new.writer.log.items } in
    IfOk-weaker c.read_reply.result _ _ (λ end read.
    sent c.args.bytes.now input rest output after c.write_logged.result c.write_logged.ensures end.answer end.read c.if-not-write_logged.false read)
    c.read_reply.ensures
