-- An honest store holds what its rows say.
use Rattle.std.proofs.Common.{◌≡◌, Err, rules}
use Rattle.std.proofs.Math.Logic.{∥∥₁_elim}
use Rattle.read.specs.Answers.{fault_of_store}
use Rattle.find.proofs.Live.{live_held, stopped_damaged}
use Rattle.find.proofs.matching.read_live.Goals as goal

pub returns-in_err-body-clause-stops : goal.returns-in_err-body-clause-stops
returns-in_err-body-clause-stops g c =
    let s = c.args.store.now in
    let e = c.in_err-body.ensures.err in
    let is : c.from_residual-in_err-body.result ≡ Err (fault_of_store c.in_err-body.field-0.0) = search rules in
    stopped_damaged g.S.Store s c.revision.new.self _ c.from_residual-in_err-body.result c.in_err-body.field-0.0 is e.0
    (λ honest.
    let before = c.revision.ensures.reads.goes_on.honest honest in
    ∥∥₁_elim (g.met.S.Store.lawful s before) (λ p q. absurd p)
    (λ lawful. e.1 (live_held c.args.id.now c.args.rev.now c.in_ok-known.known (g.S.Store.contents s) c.args.db.now lawful (c.requires before) (c.in_ok-known.ensures.answer honest))))
