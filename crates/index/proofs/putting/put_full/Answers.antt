use Rattle.index.proofs.Common.{Ok, entries_tree, map, state}
use Rattle.index.proofs.Going.{only_itself}
use Rattle.index.proofs.StepLemmas.{steps_none}
use Rattle.index.specs.inner.Gathering.{AreToPut, HasEntriesBeside, entry_of}
use Rattle.index.proofs.putting.put_full.Goals as goal

pub returns-then-not-is_full-clause-puts : goal.returns-then-not-is_full-clause-puts
returns-then-not-is_full-clause-puts g c due =
    let all = map entry_of c.args.gathered.now.entries.items in
    steps_none g.S.Store (AreToPut due all) (HasEntriesBeside due all) c.args.tx.now.conn.now (Ok tt)
    (λ fit. record { entries = fit.entries; only = only_itself entries_tree (state g.S.Store c.args.tx.now.conn.now).now }) tt
