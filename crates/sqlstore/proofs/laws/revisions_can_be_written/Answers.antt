use Rattle.std.proofs.Math.Bool.{Bool-set}
use Rattle.std.proofs.Math.Logic.{∥∥₁_elim}
use Rattle.tables.proofs.KnownRevisions.{known_are_revisions}
use Rattle.sqlstore.proofs.Standing.{indexed_store}
use Rattle.sqlstore.proofs.laws.revisions_can_be_written.Goals as goal

pub returns : goal.returns
returns g c s honest name id db r there known =
    ∥∥₁_elim (s.standing.held honest.0 honest.1) (Bool-set _ _) (λ h. known_are_revisions _ (indexed_store h).store.laid name id db r there known)
