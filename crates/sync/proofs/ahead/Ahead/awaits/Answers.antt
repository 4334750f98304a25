use Rattle.std.proofs.Common.{◌∙◌, sym}
use Rattle.std.proofs.lemmas.Bool.{ltb-true}
use Rattle.std.proofs.lemmas.Slice.Eq.{bytes_eq-Decides}
use Rattle.std.specs.Prelude.{length}
use Rattle.sync.proofs.Queued.{first_awaited}
use Rattle.sync.proofs.ahead.Ahead.awaits.Goals as goal

pub returns-in-Some : goal.returns-in-Some
returns-in-Some c = λ same.
    first_awaited (λ request. request.items) c.args.self.now.requests.items c.in-Some.first.now c.as_slice.result.now c.args.request.now
    (ltb-true 0 (length c.args.self.now.requests.items) (sym c.in-Some.ensures.item.0)) c.in-Some.ensures.lookup c.as_slice.ensures.value
    ((bytes_eq-Decides c.as_slice.result.now c.args.request.now).0 (sym c.eq.ensures ∙ same))
