use Rattle.std.proofs.Common.{ℕ, Bool, cond, List, ap₂, subst}
use Rattle.std.proofs.lemmas.Result.{IfOk-weaker}
use Rattle.sqlite_disk.specs.Events.{Event, replay}
use Rattle.sqlite.specs.Files.{file_state}
use Rattle.sqlite.specs.Recovery.{Image}
use Rattle.sqlite.specs.Start.{FindsIn}
use Rattle.files.proofs.opening.open_store.Goals as goal

abbrev image : List ℕ → List ℕ → Image
image log db = record { log = log; db = db }

abbrev seen : List ℕ → List ℕ → Bool → List Event → List ℕ
seen log db is_log history = (replay (cond is_log log db) history).seen

pub returns-clause-found : goal.returns-clause-found
returns-clause-found g c =
    IfOk-weaker c.open_tables.result _ _
    (λ s over clean.
    let (log, db) = c.in_ok-files.ensures.fresh in
    let found = c.in_ok-conn.ensures.found (over.clean clean) in
    let same = ap₂ image (ap₂ (seen g.S.Start.log g.S.Start.db) log.0 log.1) (ap₂ (seen g.S.Start.log g.S.Start.db) db.0 db.1) in
    record {
      was = c.in_ok-conn.conn;
      found = subst (λ i. FindsIn i (file_state c.in_ok-conn.conn)) same (record { holds = found.holds; reads = found.reads });
      opened = over.opened clean;
      carried = over.carried clean;
      made = over.made clean;
    })
    c.open_tables.ensures.opened
