use Rattle.std.proofs.Common.{◌+◌, length, sym}
use Rattle.std.proofs.lemmas.Bool.{ltb-true}
use Rattle.couch_http.specs.Message.{message_of}
use Rattle.repl.specs.Calls.{Revisions, open_revisions, request_of}
use Rattle.repl.specs.Configuration.{configuration_of}
use Rattle.repl.specs.Listed.{revisions_of}
use Rattle.repl.specs.declared.side.Side.TheVariants.{Source}
use Rattle.repl.proofs.NextLemmas.{makes_next}
use Rattle.repl.proofs.replication.Replication.ask_next.Goals as goal

pub loop-index-preserved : goal.loop-index-preserved
loop-index-preserved c =
    makes_next revisions_of (λ (r : Revisions). request_of (configuration_of c.args.self.now.config) Source (open_revisions r)) message_of c.loop-index.requests.items c.push.new.self.items
    c.in_ok-open_revisions.field-0 c.args.self.now.pending.items c.loop-index.index c.in-Some.document.now c.in_ok-push.ensures.items c.loop-index.invariant c.in_ok-open_revisions.ensures
    (ltb-true (c.loop-index.index + 1) (length c.args.self.now.pending.items) (sym c.in-Some.ensures.item.0)) c.in-Some.ensures.lookup
