use Rattle.sqlstore.proofs.Common.{IfSome, Option}
use Rattle.sqlstore.proofs.Lemmas.{List, rules, subst, sym, trees_of, ℕ, ◌≡◌}
use Rattle.ranks.specs.Counts.{AreRanksOf}
use Rattle.ranks.specs.Seen.{Ranks}
use Rattle.sqlstore.specs.declared.sql_store.key_marking.CountedKeys.{CountedKeys}
use Rattle.sqlstore.specs.inner.CountedKeys.{IsCounted}
use Rattle.sqlstore.specs.inner.Keys.{AreKeyChanges, AreKeys, document_keys}
use Rattle.sqlstore.specs.inner.Marks.{documents_at}
use Rattle.sqlstore.proofs.sql_store.SqlStore.move_one_index.Goals as goal

pub returns-clause-ranks : goal.returns-clause-ranks
returns-clause-ranks g c honest known old counted keeps =
    let trees = trees_of g.S.Store c.args.self.now in
    let n = c.args.number.now in
    let documents = documents_at trees n in
    let parts = c.split-ranks.result in
    let whole : CountedKeys = record { ranks = parts.0; keys = parts.1 } in
    let same : c.args.counted ≡ whole = (λ i. record { ranks = sym c.split-ranks.ensures.ranks i; keys = sym c.split-ranks.ensures.keys i }) in
    let given = subst (IsCounted old) same counted in
    let fields = parts.0.declaration.fields.items in
    let changed = subst (λ (f : List (List ℕ)). AreKeys f parts.1 old → AreKeyChanges f c.in-Ok.changes.items old documents) c.deref.ensures.value (λ keys. c.in-Ok.ensures.changes honest old keys keeps) in
    let changes = subst (λ l. AreKeyChanges fields l old documents) (sym c.deref-2.ensures.value) (changed given.1) in (
      c.has_index.ensures trees known (search rules),
      subst (λ (o : Option Ranks). IfSome o (λ r. AreRanksOf r (document_keys fields documents))) c.in_ok-ranks.was (c.move_keys.ensures fields old documents changes given.0),
    )
