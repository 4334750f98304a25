use Rattle.transactions.proofs.Lemmas.{HasBest, HistoryContent, IfErr, IsUnwritten, addition_of, ap, never_written, rules, state, subst, sym, with_addition, ◌∙◌, ◌≡◌}
use Rattle.transactions.specs.inner.Histories.{stored_history}
use Rattle.transactions.proofs.Common.{None, Option, Revision, Some, false, option_map, refl}
use Rattle.std.specs.FinMap as finite
use Rattle.std.specs.Prelude.{is_some}
use Rattle.transactions.specs.inner.Following.{HasPlaceFor}
use Rattle.tree.specs.History.{winner}
use Rattle.tree.specs.Outline.{marked_revision, marked_winner}
use Rattle.transactions.proofs.commits.write_by_winner.Goals as goal

none_marked : (h : HistoryContent) → is_some (winner h) ≡ false → marked_winner h ≡ None
none_marked h none = by (winner h) none
  where
    by : (o : Option Revision) → is_some o ≡ false → option_map (marked_revision h) o ≡ None
    by None is = refl
    by (Some r) is = absurd (cc)

pub returns-then-is_none-clause-puts : goal.returns-then-is_none-clause-puts
returns-then-is_none-clause-puts g c =
    let old = state g.S.Store c.args.tx.now.conn.now in
    let db = c.args.db.now in
    let a = addition_of c.args.write.now in
    let h = stored_history old.now.trees db a.id in
    let none : winner c.args.history ≡ None = search rules in
    let empty = c.requires none in
    let p = c.insert_first_write.ensures.puts in
    record {
      ok = λ clean store suits.
          let new : h ≡ finite.empty = never_written old.now.trees db a.id store.laid (none_marked h (sym suits.1.begins ∙ ap is_some none)) in
          p.ok clean store (suits.1, empty, subst (λ (k : HistoryContent). HasPlaceFor k a) new suits.0);
      err = subst (λ (k : HistoryContent). IfErr c.insert_first_write.result (IsUnwritten (HasBest (with_addition k a)))) (sym empty) p.err;
      lawful = p.lawful;
      inside = p.inside;
      proceeds = p.proceeds;
    }

pub returns-clause-puts : goal.returns-clause-puts
returns-clause-puts g c =
    let p = c.insert_write.ensures.puts in
    record { ok = λ clean store suits. p.ok clean store suits.1; err = p.err; lawful = p.lawful; inside = p.inside; proceeds = p.proceeds }
