use Rattle.std.proofs.Common.{◌≡◌, ◌++◌, List, Some, drop}
use Rattle.std.specs.FinMap as finite
use Rattle.couch_json.specs.Value.{Value}
use Rattle.store.specs.Calls.{OnlyReads}
use Rattle.store.specs.Database.{Database}
use Rattle.find.specs.inner.Matching.{completion, matches_at}
use Rattle.find.specs.inner.Sources.{ids_of}
use Rattle.find.proofs.in_order.put_matches.Given as goal

-- the part, completed with the matches of the candidates to come and with others, is what it was, completed with those of all candidates
-- and with others
abbrev pub invariant-loop-candidate : goal.invariant-loop-candidate
invariant-loop-candidate g l = record {
  put : g.S.Store.is_honest l.store → (d : Database) → finite.get (g.S.Store.contents l.initial.store) l.db ≡ Some d → (rest : List Value)
      → completion l.part (matches_at l.query.selector d (ids_of (drop l.candidate-index l.candidates)) ++ rest) ≡ completion l.initial.part (matches_at l.query.selector d (ids_of l.candidates) ++ rest);
  reads : OnlyReads g.S.Store l.initial.store l.store;
}
