use Rattle.transactions.proofs.Lemmas.{addition_of, ap, asks_changed, history_in_rows, left_within, own_serves, put_again, revs_tree, state, sym, with_addition, with_within, ◌∙◌}
use Rattle.transactions.proofs.commits.write_by_cached_history.Goals as goal

pub returns-in-Some-clause-ok : goal.returns-in-Some-clause-ok
returns-in-Some-clause-ok g c clean store held place =
    let revs = (state g.S.Store c.args.tx.now.conn.now).now.trees revs_tree in
    let a = addition_of c.args.write.now in
    let known = held a.id c.in-Some.history (sym c.remove.ensures.value ∙ c.in-Some.is) in
    c.in_ok-history.ensures.puts.ok clean store (own_serves a (history_in_rows revs c.args.db.now a.id) c.in-Some.history known)

pub returns-in-Some-clause-writes : goal.returns-in-Some-clause-writes
returns-in-Some-clause-writes g c =
    let a = addition_of c.args.write.now in
    let p = c.in_ok-history.ensures.puts in
    record {
      after = λ clean store held.
          let known = held a.id c.in-Some.history (sym c.remove.ensures.value ∙ c.in-Some.is) in
          with_within c.args.histories.now c.put_history.new.histories a.id _
          (put_again c.args.histories.now c.remove.new.self c.put_history.new.histories a.id c.in_ok-history.history _ c.remove.ensures.updates.0 c.in_ok-put_history.ensures
          (c.in_ok-history.ensures.after ∙ ap (λ h. with_addition h a) known));
      err = tt;
      lawful = p.lawful;
      inside = λ clean. let on = p.inside clean in (on.is_open, on.inside);
      looks = λ has. p.proceeds;
      asks = asks_changed (state g.S.Store c.args.tx.now.conn.now) (state g.S.Store c.write_by_history.new.tx.conn.now) p.proceeds;
    }

pub returns-in_default-2-clause-writes : goal.returns-in_default-2-clause-writes
returns-in_default-2-clause-writes g c =
    let a = addition_of c.args.write.now in
    let w = c.in_ok-history-2.ensures.writes in
    record {
      after = λ clean store held.
          left_within c.args.histories.now c.remove.new.self a.id (with_addition (history_in_rows ((state g.S.Store c.args.tx.now.conn.now).now.trees revs_tree) c.args.db.now a.id) a) c.remove.ensures.updates.0;
      err = tt;
      lawful = w.lawful;
      inside = w.inside;
      looks = w.looks;
      asks = w.asks;
    }
