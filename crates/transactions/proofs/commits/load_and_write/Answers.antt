use Rattle.transactions.proofs.Lemmas.{Database, HasBest, HasCleanDisk, HistoryContent, IsStore, addition_of, arith, document_written, history_in_rows, history_with, revs_tree, rules, state, subst, sym, with_addition, written_in, ◌≡◌, asks_then}
use Rattle.transactions.specs.inner.Histories.{stored_history}
use Rattle.transactions.proofs.Readers.{looks_next, same_next, told_next}
use Rattle.transactions.proofs.Common.{Option, Trees, ⊤}
use Rattle.std.specs.Prelude.{IfSome}
use Rattle.transactions.specs.inner.Following.{HasPlaceFor, Serves}
use Rattle.transactions.specs.inner.Placed.{IsPlacedWrite}
use Rattle.tree.specs.Outline.{marked_winner}
use Rattle.transactions.proofs.Loading.{load_failed, load_unput, load_unread}
use Rattle.transactions.proofs.commits.load_and_write.Goals as goal

pub returns-in_err-winner-clause-writes : goal.returns-in_err-winner-clause-writes
returns-in_err-winner-clause-writes g c =
    load_unread g.S.Store c.args.db.now (addition_of c.args.write.now) _ _ _ c.args.tx.now.conn.now c.read_followed.new.tx.conn.now c.in_err-winner.field-0.0 c.from_residual.result (search rules) (λ trees holds. tt) c.in_err-winner.ensures.finds

pub returns-in_err-write_by_winner-in-Some-clause-writes : goal.returns-in_err-write_by_winner-in-Some-clause-writes
returns-in_err-write_by_winner-in-Some-clause-writes g c =
    let a = addition_of c.args.write.now in
    let p = c.in_err-write_by_winner-in-Some.ensures.puts in
    load_unput g.S.Store c.args.db.now a _ _ c.args.tx.now.conn.now c.read_followed.new.tx.conn.now c.write_by_winner.new.tx.conn.now c.in_ok-winner.ensures.finds c.in_err-write_by_winner-in-Some.field-0.0
    c.from_residual-in_err-write_by_winner-in-Some.result (search rules) (HasBest (with_addition c.in-Some.history a))
    (λ store best read. subst (λ (o : Option HistoryContent). IfSome o (λ k. HasBest (with_addition k a))) c.in-Some.is (read.has_best best)) p.proceeds p.err

pub returns-in_err-write_by_rows-in-None-clause-writes : goal.returns-in_err-write_by_rows-in-None-clause-writes
returns-in_err-write_by_rows-in-None-clause-writes g c =
    let db = c.args.db.now in
    let a = addition_of c.args.write.now in
    let e = c.in_err-write_by_rows-in-None.ensures.writes in
    let read = c.in_ok-winner.ensures.finds in
    let fault = c.in_err-write_by_rows-in-None.field-0.0 in
    let first = c.args.tx.now.conn.now in
    let last = c.write_by_rows.new.tx.conn.now in
    let Best : Trees → Type 0 = λ trees. ⊤ × HasBest (history_with trees db a) in
    let Both : Trees → Type 0 = λ trees. (c.in_ok-winner.winner ≡ marked_winner (stored_history trees db a.id)) × HasBest (history_with trees db a) in
    load_failed g.S.Store db a _ _ first last fault c.from_residual-in_err-write_by_rows-in-None.result (search rules) (looks_next g.S.Store read last e.looks e.asks)
    (asks_then (state g.S.Store first) (state g.S.Store c.read_followed.new.tx.conn.now) (state g.S.Store last) read.asks e.asks)
    (told_next g.S.Store read Best Both last fault e.asks (λ d store holds found. (found.winner_is, holds.1)) e.err)

pub returns-in_ok-write_by_winner-in-Some-clause-ok : goal.returns-in_ok-write_by_winner-in-Some-clause-ok
returns-in_ok-write_by_winner-in-Some-clause-ok g c clean store place =
    let old = state g.S.Store c.args.tx.now.conn.now in
    let mid = state g.S.Store c.read_followed.new.tx.conn.now in
    let new = state g.S.Store c.write_by_winner.new.tx.conn.now in
    let db = c.args.db.now in
    let a = addition_of c.args.write.now in
    let e = c.in_ok-write_by_winner-in-Some.ensures.puts in
    let read = c.in_ok-winner.ensures.finds in
    let was : HasCleanDisk mid = omega (arith, e.proceeds.survives.clean, clean) in
    let same : mid.now ≡ old.now = (read.stands store.schema_is was).0.now_is in
    let serves = subst (λ (o : Option HistoryContent). IfSome o (Serves a (stored_history old.now.trees db a.id))) c.in-Some.is ((read.ok was store).serves place) in
    document_written db c.args.sequence.now a c.in-Some.history old.now mid.now new.now same store serves
    (λ is s. e.ok clean is (subst (λ (d : Database). HasPlaceFor (stored_history d.trees db a.id) a) (sym same) place, s))

pub returns-in_ok-write_by_rows-in-None-clause-ok : goal.returns-in_ok-write_by_rows-in-None-clause-ok
returns-in_ok-write_by_rows-in-None-clause-ok g c clean store place =
    let old = state g.S.Store c.args.tx.now.conn.now in
    let mid = state g.S.Store c.read_followed.new.tx.conn.now in
    let db = c.args.db.now in
    let a = addition_of c.args.write.now in
    let e = c.in_ok-write_by_rows-in-None.ensures in
    let was : HasCleanDisk mid = omega (arith, e.writes.asks.survives.clean, clean) in
    let same : mid.now ≡ old.now = (c.in_ok-winner.ensures.finds.stands store.schema_is was).0.now_is in
    let Is : Database → Type 0 = λ d. IsStore d → IsPlacedWrite db c.args.sequence.now (written_in (history_in_rows (d.trees revs_tree) db a.id) a) d (state g.S.Store c.write_by_rows.new.tx.conn.now).now in
    subst Is same (e.ok clean) store

pub returns-in_ok-write_by_rows-in-None-clause-writes : goal.returns-in_ok-write_by_rows-in-None-clause-writes
returns-in_ok-write_by_rows-in-None-clause-writes g c =
    let a = addition_of c.args.write.now in
    let e = c.in_ok-write_by_rows-in-None.ensures.writes in
    let read = c.in_ok-winner.ensures.finds in
    let first = c.args.tx.now.conn.now in
    let last = c.write_by_rows.new.tx.conn.now in
    record {
      after = λ clean store.
          let Is : Database → Type 0 = λ d. IsStore d → c.in_ok-write_by_rows-in-None.field-0 ≡ history_with d.trees c.args.db.now a in
          subst Is (same_next g.S.Store read last e.asks clean store) (e.after clean) store;
      err = tt;
      lawful = e.lawful;
      inside = e.inside;
      looks = looks_next g.S.Store read last e.looks e.asks;
      asks = asks_then (state g.S.Store first) (state g.S.Store c.read_followed.new.tx.conn.now) (state g.S.Store last) read.asks e.asks;
    }
