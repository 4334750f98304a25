use Rattle.engine.proofs.Handlings.{handles_all}
use Rattle.engine.proofs.Takings.{takes_all}
use Rattle.engine.proofs.memory_sockets.MemorySockets.serve.Goals as goal

pub returns : goal.returns
returns g c =
    let s = c.serve_all.ensures.served in
    record {
      deeds = s.deeds;
      standings = s.standings;
      logs = s.logs;
      runs = s.runs;
      takes = λ conn. takes_all g.S.Store c.args.hub.now s.deeds (record { hub = c.serve_all.new.hub; standings = s.standings }) conn s.runs;
      handles = λ honest. handles_all g.S.Store c.args.hub.now s.deeds (record { hub = c.serve_all.new.hub; standings = s.standings }) s.runs honest;
    }
