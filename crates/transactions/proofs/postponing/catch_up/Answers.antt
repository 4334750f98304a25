use Rattle.transactions.proofs.Lemmas.{CommitFault, Database, Err, HasCleanDisk, IfErr, IsUnwritten, Result, arith, asks_itself, asks_then, keeps_itself, keeps_then, map, rules, state, subst, sym, unwritten_of, ⊤, ◌∙◌, ◌≡◌}
use Rattle.transactions.proofs.Common.{List, [], false, true, ℕ, ◌≢◌}
use Rattle.std.proofs.Common.{Global, Vec}
use Rattle.index.proofs.Going.{if_err, on_ok}
use Rattle.index.specs.Shown.{declared}
use Rattle.index.specs.Steps.{AreFit}
use Rattle.index.specs.declared.declaration.Declaration.{Declaration}
use Rattle.transactions.proofs.IndexSteps.{if_both, store_still}
use Rattle.transactions.proofs.Postponed.{none_waited, some_waited}
use Rattle.transactions.specs.Indexing.{AreAllIndexes, IsIndexedStoreBut, IsLeft, IsSoundIndexed}
use Rattle.transactions.specs.inner.Postponing.{IsCaughtUp}
use Rattle.transactions.proofs.postponing.catch_up.Goals as goal

pub returns-then-is_empty-clause-ok : goal.returns-then-is_empty-clause-ok
returns-then-is_empty-clause-ok g c clean was every =
    (none_waited c.args.db.now c.args.postponed.now.keys (state g.S.Store c.args.tx.now.conn.now).now (c.is_empty.ensures.0 c.if-is_empty.true) was, every)

pub returns-then-is_empty-clause-kept : goal.returns-then-is_empty-clause-kept
returns-then-is_empty-clause-kept g c clean has = keeps_itself (state g.S.Store c.args.tx.now.conn.now)

pub returns-then-is_empty-clause-asks : goal.returns-then-is_empty-clause-asks
returns-then-is_empty-clause-asks g c = asks_itself (state g.S.Store c.args.tx.now.conn.now)

pub returns-in_err-redeclare_postponed-clause-err : goal.returns-in_err-redeclare_postponed-clause-err
returns-in_err-redeclare_postponed-clause-err g c =
    let first = c.args.tx.now.conn.now in
    let last = c.redeclare_postponed.new.tx.conn.now in
    let ids : List (List ℕ) = c.args.postponed.now.keys in
    let Fit : Type 0 = AreFit g.S.Store (IsIndexedStoreBut c.args.db.now ids) first last in
    let fault = c.in_err-redeclare_postponed.field-0.0 in
    let is : c.from_residual.result ≡ Err fault = search rules in
    subst (λ (r : Result (Vec Declaration Global) CommitFault). IfErr r (IsUnwritten (ids ≢ [] → Fit))) (sym is)
    (unwritten_of Fit (ids ≢ [] → Fit) fault (λ it. it (some_waited ids (λ none. let no : true ≡ false = sym (c.is_empty.ensures.1 none) ∙ c.if-is_empty.false in cc))) c.in_err-redeclare_postponed.ensures.makes.err)

pub returns-clause-ok : goal.returns-clause-ok
returns-clause-ok g c clean was every =
    let old = state g.S.Store c.args.tx.now.conn.now in
    let mid = state g.S.Store c.redeclare_postponed.new.tx.conn.now in
    let new = state g.S.Store c.list_unknown.new.tx.conn.now in
    let db = c.args.db.now in
    let list = c.list_unknown.ensures in
    let mid-clean : HasCleanDisk mid = omega (arith, list.asks.survives.clean, clean) in
    let made = c.in_ok-redeclare_postponed.ensures.makes.steps.ok mid-clean was in
    let store = store_still old.now mid.now was.store made.only in
    if_both c.list_unknown.result
    (λ (all : Vec Declaration Global) (left : IsLeft mid new) (these : AreAllIndexes (map declared all.items) db mid.now.trees).
    subst (λ (d : Database). IsCaughtUp old.now d × AreAllIndexes (map declared all.items) db d.trees) (sym left.now_is) (made, these))
    (list.stays clean store.schema_is) (list.ok clean (record { store = store; indexed = made.indexed }) tt)

pub returns-clause-err : goal.returns-clause-err
returns-clause-err g c =
    let first = c.args.tx.now.conn.now in
    let between = c.redeclare_postponed.new.tx.conn.now in
    let last = c.list_unknown.new.tx.conn.now in
    let old = state g.S.Store first in
    let mid = state g.S.Store between in
    let ids : List (List ℕ) = c.args.postponed.now.keys in
    let Given : Type 0 = ids ≢ [] → AreFit g.S.Store (IsIndexedStoreBut c.args.db.now ids) first last in
    let list = c.list_unknown.ensures in
    if_err {P = IsUnwritten (IsSoundIndexed g.S.Store (λ _. ⊤) between last)} {Q = IsUnwritten Given} c.list_unknown.result
    (λ (fault : CommitFault) h.
    unwritten_of (IsSoundIndexed g.S.Store (λ _. ⊤) between last) Given fault
    (λ given.
    let it = given (some_waited ids (λ none. let no : true ≡ false = sym (c.is_empty.ensures.1 none) ∙ c.if-is_empty.false in cc)) in
    let mid-clean : HasCleanDisk mid = omega (arith, list.asks.survives.clean, it.0) in
    let made = c.in_ok-redeclare_postponed.ensures.makes.steps.ok mid-clean it.1 in
    (it.0, λ up. (record { store = store_still old.now mid.now it.1.store made.only; indexed = made.indexed }, tt))) h) list.err

pub returns-clause-kept : goal.returns-clause-kept
returns-clause-kept g c clean has =
    let old = state g.S.Store c.args.tx.now.conn.now in
    let mid = state g.S.Store c.redeclare_postponed.new.tx.conn.now in
    let new = state g.S.Store c.list_unknown.new.tx.conn.now in
    let s = c.in_ok-redeclare_postponed.ensures.makes.steps in
    let list = c.list_unknown.ensures in
    let mid-clean : HasCleanDisk mid = omega (arith, list.asks.survives.clean, clean) in
    keeps_then old mid new (s.kept mid-clean has) ((list.looks (s.keeps mid-clean has)).kept clean)

pub returns-clause-inside : goal.returns-clause-inside
returns-clause-inside g c clean has opened within =
    let mid = state g.S.Store c.redeclare_postponed.new.tx.conn.now in
    let new = state g.S.Store c.list_unknown.new.tx.conn.now in
    let ids : List (List ℕ) = c.args.postponed.now.keys in
    let s = c.in_ok-redeclare_postponed.ensures.makes.steps in
    let list = c.list_unknown.ensures in
    let mid-clean : HasCleanDisk mid = omega (arith, list.asks.survives.clean, clean) in
    let went = s.goes_on mid-clean has (opened (some_waited ids (λ none. let no : true ≡ false = sym (c.is_empty.ensures.1 none) ∙ c.if-is_empty.false in cc))) within in
    on_ok c.list_unknown.result (λ (left : IsLeft mid new). left.mode ∙ went.1) (list.stays clean (s.keeps mid-clean has))

pub returns-in_err-redeclare_postponed-clause-kept : goal.returns-in_err-redeclare_postponed-clause-kept
returns-in_err-redeclare_postponed-clause-kept g c clean has = c.in_err-redeclare_postponed.ensures.makes.steps.kept clean has

pub returns-in_err-redeclare_postponed-clause-asks : goal.returns-in_err-redeclare_postponed-clause-asks
returns-in_err-redeclare_postponed-clause-asks g c = c.in_err-redeclare_postponed.ensures.makes.steps.asks

pub returns-clause-asks : goal.returns-clause-asks
returns-clause-asks g c =
    asks_then (state g.S.Store c.args.tx.now.conn.now) (state g.S.Store c.redeclare_postponed.new.tx.conn.now) (state g.S.Store c.list_unknown.new.tx.conn.now) c.in_ok-redeclare_postponed.ensures.makes.steps.asks c.list_unknown.ensures.asks
