use Rattle.std.proofs.Common.{Err, None, Ok, Some, rules, sym, ◌≡◌, ◌∙◌}
use Rattle.std.specs.Prelude.{option_and_then}
use Rattle.sqlite.specs.Held.{state}
use Rattle.store.specs.Winning.{IsHeldSo, single, winner_alone}
use Rattle.tables.specs.Layout.{IsStore}
use Rattle.tables.specs.Rows.{history_in_rows}
use Rattle.tables.specs.Schema.{revs_tree}
use Rattle.transactions.proofs.WinnerMarks.{winner_known}
use Rattle.tree.specs.declared.entry.Entry.{Entry}
use Rattle.file_check.proofs.CheckSteps.{checks_none, checks_so, checks_stop, checks_then}
use Rattle.file_check.proofs.EntrySteps.{checks_both}
use Rattle.file_check.proofs.Winning.{alone_known, alone_none}
use Rattle.file_check.proofs.indexes.stored.read_winning.Goals as goal

pub returns-in_err-winner : goal.returns-in_err-winner
returns-in_err-winner g c =
    let e = c.in_err-winner.field-0.0 in
    let is : c.from_residual.result ≡ Err e = search rules in
    checks_stop g.S.Store e c.from_residual.result is c.in_err-winner.ensures

pub returns-in_default : goal.returns-in_default
returns-in_default g c =
    let trees = (state g.S.Store c.args.conn.now).now.trees in
    let none : c.in_ok-winner.field-0 ≡ None = search rules in
    checks_so g.S.Store IsStore IsStore (λ trees history. history ≡ winner_alone (history_in_rows (trees revs_tree) c.args.db.now c.args.id.now)) c.in_ok-winner.ensures (λ fit. fit)
    (λ fit is. c.new.ensures ∙ alone_none (history_in_rows (trees revs_tree) c.args.db.now c.args.id.now) (sym is ∙ none))

pub returns-in_err-known : goal.returns-in_err-known
returns-in_err-known g c =
    let e = c.in_err-known.field-0.0 in
    let is : c.from_residual-in_err-known.result ≡ Err e = search rules in
    checks_stop g.S.Store e c.from_residual-in_err-known.result is (checks_both g.S.Store IsStore IsStore IsStore c.in_ok-winner.ensures c.in_err-known.ensures (λ fit. fit) (λ fit. fit))

pub returns : goal.returns
returns g c =
    let trees = (state g.S.Store c.args.conn.now).now.trees in
    let db = c.args.db.now in
    let id = c.args.id.now in
    let w = c.in-Some.winner in
    let known = c.in_ok-known.known in
    let held = option_and_then (λ (e : Entry). e.held) known in
    let some : c.in_ok-winner.field-0 ≡ Some w = search rules in
    checks_then g.S.Store IsStore IsStore {C = λ trees history. history ≡ winner_alone (history_in_rows (trees revs_tree) db id)}
    (checks_both g.S.Store IsStore IsStore IsStore c.in_ok-winner.ensures c.in_ok-known.ensures (λ fit. fit) (λ fit. fit))
    (checks_none g.S.Store IsStore (λ trees history. IsHeldSo w.deleted held → history ≡ single w.rev held) c.find_revision.new.conn c.make_winning.result (λ fit. c.make_winning.ensures))
    (λ fit is. fit)
    (λ fit is history says. says (winner_known trees db id fit.laid w known (sym is.0 ∙ some) is.1) ∙ alone_known (history_in_rows (trees revs_tree) db id) w known (sym is.0 ∙ some) is.1)
