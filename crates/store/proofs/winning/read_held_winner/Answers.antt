use Rattle.std.proofs.Common.{◌≡◌, Err, ap, rules, sym, ◌∙◌}
use Rattle.std.proofs.Math.Logic.{∥∥₁_elim}
use Rattle.std.specs.FinMap as map
use Rattle.store.proofs.HeldWinners.{held_there, told_damaged}
use Rattle.store.specs.Contents.{Contents}
use Rattle.store.specs.Database.{Database, history_at}
use Rattle.std.specs.Prelude.{Some, option_map}
use Rattle.store.proofs.winning.read_held_winner.Goals as goal

pub returns-in_err-body-clause-answer : goal.returns-in_err-body-clause-answer
returns-in_err-body-clause-answer g c =
    let s = c.args.store.now in
    let mid = c.winner.new.self in
    let id = c.args.id.now in
    let w = c.in-Some.winner in
    let e = c.in_err-body.ensures.err in
    let is : c.from_residual-in_err-body.result ≡ Err c.in_err-body.field-0.0 = search rules in
    told_damaged g.S.Store s c.revision.new.self _ _ c.from_residual-in_err-body.result c.in_err-body.field-0.0 is e.0
    (λ honest.
    let first = c.revision.ensures.reads.goes_on.honest honest in
    let same = ap (λ (k : Contents). map.get k c.args.db.now) (c.winner.ensures.reads.same first) in
    let won = c.in_ok-winner.ensures.answer first ∙ ap Some c.in-Some.is in
    let known = ap (option_map (λ (d : Database). map.get (history_at d id) w.rev)) (sym same) ∙ c.in_ok-known.ensures.answer honest in
    ∥∥₁_elim (g.met.S.Store.lawful s (c.winner.ensures.reads.goes_on.honest first)) (λ p q. absurd p)
    (λ lawful. e.1 (held_there id w c.in_ok-known.known (g.S.Store.contents s) c.args.db.now lawful won known)))
