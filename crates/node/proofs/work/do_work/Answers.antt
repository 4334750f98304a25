use Rattle.std.proofs.Common.{rules}
use Rattle.couch_http.specs.Message.{message_of}
use Rattle.node.specs.inner.Drafts.{work_of}
use Rattle.node.proofs.Comings.{entry_stops}
use Rattle.node.proofs.work.do_work.Goals as goal

pub returns : goal.returns
returns g c = record {
  judges = record {
    comes = λ honest.
        entry_stops (g.S.Store.contents c.args.store.now) c.args.caller.now c.args.action (message_of c.args.request.now)
        (work_of c.args.work c.args.caller.now (message_of c.args.request.now)) c.in_ok-name.name c.in-Err.stop (rw c.deref.ensures at c.in_ok-name.ensures) (c.in-Err.ensures.comes honest);
    may = search rules;
    ends = search rules;
    reads = search rules;
  };
}
