use Rattle.std.proofs.Common.{◌≡◌, drop, Some}
use Rattle.std.specs.Prelude.{flat_map}
use Rattle.std.specs.FinMap as finite
use Rattle.policy.specs.UpdateRules.{rules_of, with_rules}
use Rattle.store.specs.Calls.{OnlyReads}
use Rattle.store.specs.Database.{Database}
use Rattle.write.specs.TermsRead.{document_at}
use Rattle.write.proofs.terms.take_rules.Given as goal

-- the rules so far and those of the rows to come are those of all rows
abbrev pub invariant-loop-row : goal.invariant-loop-row
invariant-loop-row g l = record {
  taken : g.S.Store.is_honest l.store → (d : Database) → finite.get (g.S.Store.contents l.initial.store) l.db ≡ Some d
      → with_rules l.rules (flat_map (λ r. document_at d r.id) (drop l.row-index l.rows)) ≡ rules_of (flat_map (λ r. document_at d r.id) l.rows);
  reads : OnlyReads g.S.Store l.initial.store l.store;
}
