use Rattle.transactions.proofs.Common.{AllByRecursion, IsTrue, drop, is_revision}
use Rattle.transactions.proofs.document_write.walk_path.Given as goal

abbrev pub invariant-loop-rev : goal.invariant-loop-rev
invariant-loop-rev l = AllByRecursion (λ v. IsTrue (is_revision v)) (drop l.rev-index l.path) → AllByRecursion (λ v. IsTrue (is_revision v)) l.path
