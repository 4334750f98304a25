use Rattle.std.proofs.Common.{sym}
use Rattle.couch_http.proofs.BeginLemmas.{Begins-large, Begins-read}
use Rattle.couch_http.proofs.cutting.after_head.Goals as goal

pub returns-then-is_too_large : goal.returns-then-is_too_large
returns-then-is_too_large c =
    Begins-large c.args.head.now c.args.rest.now c.args.lines c.requires (sym c.if-is_too_large.ensures)

pub with_body-requires : goal.with_body-requires
with_body-requires c =
    λ more. Begins-read c.args.head.now more c.args.lines _ c.requires (sym c.if-is_too_large.ensures)
    ((rw c.in-Announced.is at c.in_ok-fault.ensures) more)

pub returns-in-Broken : goal.returns-in-Broken
returns-in-Broken c =
    Begins-read c.args.head.now c.args.rest.now c.args.lines _ c.requires (sym c.if-is_too_large.ensures)
    ((rw c.in-Broken.is at c.in_ok-fault.ensures) c.args.rest.now)
