use Rattle.std.proofs.Common.{◌≡◌, ◌∙◌, ◌+◌, ℕ, Option, None, Some, refl, ap, subst}
use Rattle.std.proofs.KnownBytes.{Consumes-nil}
use Rattle.store.proofs.Calls.{goes_on_itself, goes_on_then}
use Rattle.hub.proofs.ServiceLemmas.{serves_more, serves_none}
use Rattle.hub.specs.Service.{Serves}
use Rattle.hub.specs.declared.service_end.ServiceEnd.{ServiceEnd}
use Rattle.hub.proofs.service.serve_pieces.Goals as goal

pub loop-number-init : goal.loop-number-init
loop-number-init g c = record {
  served = serves_none g.S.Store c.args.hub.now c.args.conn None (g.R.Read.remaining c.args.reader.now) (g.R.Read.remaining c.args.reader.now) (g.W.Write.contents c.args.writer.now)
      (λ e. absurd (cc)) (λ e. absurd (cc)) (Consumes-nil (g.R.Read.remaining c.args.reader.now)) (λ e. absurd (cc)) c.requires;
  room = refl;
  configuration = refl;
  onward = goes_on_itself g.S.Store c.args.hub.now.node.store;
}

pub returns-in-Some-clause-served : goal.returns-in-Some-clause-served
returns-in-Some-clause-served g c =
    let more = c.in-Some.ensures.served in (
      c.loop-number._number + more.0,
      λ e. absurd (c.in-Some.ensures.reads (ap Some e)),
      serves_more g.S.Store c.args.conn (Some c.in-Some.end) c.loop-number._number more.0 c.loop-number.invariant.served more.2,
    )

pub loop-number-preserved : goal.loop-number-preserved
loop-number-preserved g c =
    let more = c.serve_read.ensures.served in
    let one : more.0 ≡ 1 = more.1 c.in_default.is in
    let next = subst (λ (e : Option ServiceEnd). Serves g.S.Store c.args.conn e more.0
    (record { hub = c.loop-number.hub; input = g.R.Read.remaining c.loop-number.reader; output = g.W.Write.contents c.loop-number.writer })
    (record { hub = c.serve_read.new.hub; input = g.R.Read.remaining c.serve_read.new.reader; output = g.W.Write.contents c.serve_read.new.writer })) c.in_default.is more.2 in
    let all = serves_more g.S.Store c.args.conn None c.loop-number._number more.0 c.loop-number.invariant.served next in
    record {
      served = subst (λ (k : ℕ). Serves g.S.Store c.args.conn None (c.loop-number._number + k)
          (record { hub = c.args.hub.now; input = g.R.Read.remaining c.args.reader.now; output = g.W.Write.contents c.args.writer.now })
          (record { hub = c.serve_read.new.hub; input = g.R.Read.remaining c.serve_read.new.reader; output = g.W.Write.contents c.serve_read.new.writer })) one all;
      room = c.in_default.ensures.room;
      configuration = c.in_default.ensures.configuration ∙ c.loop-number.invariant.configuration;
      onward = goes_on_then g.S.Store c.args.hub.now.node.store c.loop-number.hub.node.store c.serve_read.new.hub.node.store c.loop-number.invariant.onward c.in_default.ensures.onward;
    }
