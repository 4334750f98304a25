use Rattle.std.proofs.Common.{◌≤◌, sym, subst}
use Rattle.engine.specs.Counts.{accepted_in}
use Rattle.engine.specs.Desks.{acts_in, new_desk}
use Rattle.engine.specs.inner.Rounds.{standings_of}
use Rattle.engine.proofs.Keeping.{runs_keep}
use Rattle.engine.proofs.Steps.{all_ended, begun_within}
use Rattle.engine.proofs.serving.serve_all.Goals as goal

pub returns-clause-served : goal.returns-clause-served
returns-clause-served g c =
    let l = begun_within g.S.Store c.args.limits.now.at_once c.args.hub.now c.take_rounds.new.hub c.new-conversations.result.conversations.entries c.take_rounds.new.self.conversations.entries
    c.new-conversations.result.accepted c.take_rounds.new.self.accepted (g.W.Sockets.log c.args.sockets.now) (g.W.Sockets.log c.take_rounds.new.sockets) c.new-conversations.ensures.none
    c.new-conversations.ensures.accepted c.take_rounds.ensures.goes_on in
    record { deeds = l.deeds; standings = standings_of c.take_rounds.new.self.conversations.entries; logs = l.logs; runs = l.plain }

pub returns-clause-within : goal.returns-clause-within
returns-clause-within g c =
    let l = begun_within g.S.Store c.args.limits.now.at_once c.args.hub.now c.take_rounds.new.hub c.new-conversations.result.conversations.entries c.take_rounds.new.self.conversations.entries
    c.new-conversations.result.accepted c.take_rounds.new.self.accepted (g.W.Sockets.log c.args.sockets.now) (g.W.Sockets.log c.take_rounds.new.sockets) c.new-conversations.ensures.none
    c.new-conversations.ensures.accepted c.take_rounds.ensures.goes_on in
    record {
      deeds = l.deeds;
      standings = standings_of c.take_rounds.new.self.conversations.entries;
      logs = l.logs;
      runs = l.runs;
      accepts = subst (λ n. n ≤ c.args.limits.now.conns) (sym l.count) c.take_rounds.ensures.accepted;
      opens = l.opens;
      ends = all_ended c.take_rounds.result c.take_rounds.new.self.conversations.entries c.args.limits.now.conns c.take_rounds.new.self.accepted (accepted_in (acts_in l.deeds))
          c.take_rounds.ensures.ends l.count;
    }

pub returns-clause-configuration : goal.returns-clause-configuration
returns-clause-configuration g c =
    let l = begun_within g.S.Store c.args.limits.now.at_once c.args.hub.now c.take_rounds.new.hub c.new-conversations.result.conversations.entries c.take_rounds.new.self.conversations.entries
    c.new-conversations.result.accepted c.take_rounds.new.self.accepted (g.W.Sockets.log c.args.sockets.now) (g.W.Sockets.log c.take_rounds.new.sockets) c.new-conversations.ensures.none
    c.new-conversations.ensures.accepted c.take_rounds.ensures.goes_on in
    (runs_keep g.S.Store (new_desk c.args.hub.now) (record { hub = c.take_rounds.new.hub; standings = standings_of c.take_rounds.new.self.conversations.entries }) l.deeds l.plain).0

pub returns-clause-onward : goal.returns-clause-onward
returns-clause-onward g c =
    let l = begun_within g.S.Store c.args.limits.now.at_once c.args.hub.now c.take_rounds.new.hub c.new-conversations.result.conversations.entries c.take_rounds.new.self.conversations.entries
    c.new-conversations.result.accepted c.take_rounds.new.self.accepted (g.W.Sockets.log c.args.sockets.now) (g.W.Sockets.log c.take_rounds.new.sockets) c.new-conversations.ensures.none
    c.new-conversations.ensures.accepted c.take_rounds.ensures.goes_on in
    (runs_keep g.S.Store (new_desk c.args.hub.now) (record { hub = c.take_rounds.new.hub; standings = standings_of c.take_rounds.new.self.conversations.entries }) l.deeds l.plain).1
