use Rattle.transactions.proofs.Lemmas.{CommitFault, Database, Err, HasCleanDisk, HistoryContent, IfErr, IsUnwritten, Result, ap, arith, asks_then, history_in_rows, keeps_then, revs_tree, rules, state, subst, sym, ◌∙◌, ◌≡◌}
use Rattle.transactions.proofs.Common.{None}
use Rattle.transactions.proofs.IndexSteps.{with_winner}
use Rattle.transactions.proofs.IndexRests.{refused_of}
use Rattle.transactions.specs.Indexing.{IsRedeclared, of_index_fault}
use Rattle.index.specs.Declaring.{IsRebuildable}
use Rattle.index.specs.Steps.{Steps, WasFit}
use Rattle.index.specs.Calls.{ChangesIndexes}
use Rattle.store.proofs.Winnings.{body_alone}
use Rattle.store.specs.Indexes.{winning_body}
use Rattle.transactions.proofs.indexing.redeclare.Goals as goal

pub returns-in_err-rebuild-clause-steps : goal.returns-in_err-rebuild-clause-steps
returns-in_err-rebuild-clause-steps g c declares sees design =
    let first = c.args.tx.now.conn.now in
    let last = c.rebuild.new.tx.conn.now in
    let old = state g.S.Store first in
    let mid = state g.S.Store c.find_winning.new.tx.conn.now in
    let end = state g.S.Store last in
    let db = c.args.db.now in
    let find = c.in_ok-history.ensures.finds in
    let e = c.in_err-rebuild.ensures.rebuilds declares sees in
    let fault = of_index_fault c.in_err-rebuild.field-0.0 in
    let is : c.from_residual-in_err-rebuild.result ≡ Err fault = search rules in
    subst (λ (r : Result (Unit {0}) CommitFault). Steps g.S.Store (IsRebuildable declares sees db) (IsRedeclared declares sees db c.args.id.now) first last r) (sym is)
    (record {
      ok = λ clean fit. tt;
      keeps = λ clean has. tt;
      kept = λ clean has.
          let mid-clean : HasCleanDisk mid = omega (arith, e.asks.survives.clean, clean) in
          let same : mid.now ≡ old.now = (find.stands has mid-clean).0.now_is in
          keeps_then old mid end ((find.looks has).kept mid-clean) (e.kept clean (ap (λ (d : Database). d.schema) same ∙ has));
      goes_on = λ clean has up inside. tt;
      asks = asks_then old mid end find.asks e.asks;
    })

pub returns-in_err-rebuild-clause-asks : goal.returns-in_err-rebuild-clause-asks
returns-in_err-rebuild-clause-asks g c =
    asks_then (state g.S.Store c.args.tx.now.conn.now) (state g.S.Store c.find_winning.new.tx.conn.now) (state g.S.Store c.rebuild.new.tx.conn.now) c.in_ok-history.ensures.finds.asks
    (c.in_err-rebuild.ensures.rebuilds (λ db design name. None) (λ db id. None)).asks

pub returns-in_err-rebuild-clause-err : goal.returns-in_err-rebuild-clause-err
returns-in_err-rebuild-clause-err g c declares sees =
    let first = c.args.tx.now.conn.now in
    let between = c.find_winning.new.tx.conn.now in
    let last = c.rebuild.new.tx.conn.now in
    let mid = state g.S.Store between in
    let db = c.args.db.now in
    let find = c.in_ok-history.ensures.finds in
    let e = c.in_err-rebuild.ensures in
    let fault = c.in_err-rebuild.field-0.0 in
    let Fit : Database → Type 0 = IsRebuildable declares sees db in
    let is : c.from_residual-in_err-rebuild.result ≡ Err (of_index_fault fault) = search rules in
    subst (λ (r : Result (Unit {0}) CommitFault). IfErr r (IsUnwritten (WasFit g.S.Store Fit first last))) (sym is)
    (refused_of (WasFit g.S.Store Fit between last) (WasFit g.S.Store Fit first last) fault
    (λ it. (
      it.0,
      λ up.
          let mid-clean : HasCleanDisk mid = omega (arith, (e.rebuilds declares sees).asks.survives.clean, it.0) in
          let fit = it.1 (find.served mid-clean) in
          subst Fit (sym (find.stands fit.store.schema_is mid-clean).0.now_is) fit,
    )) (e.err declares sees))

pub returns-clause-asks : goal.returns-clause-asks
returns-clause-asks g c =
    asks_then (state g.S.Store c.args.tx.now.conn.now) (state g.S.Store c.find_winning.new.tx.conn.now) (state g.S.Store c.rebuild.new.tx.conn.now) c.in_ok-history.ensures.finds.asks
    (c.in_ok-rebuild.ensures.rebuilds (λ db design name. None) (λ db id. None)).asks

pub returns-clause-steps : goal.returns-clause-steps
returns-clause-steps g c declares sees design =
    let old = state g.S.Store c.args.tx.now.conn.now in
    let mid = state g.S.Store c.find_winning.new.tx.conn.now in
    let end = state g.S.Store c.rebuild.new.tx.conn.now in
    let db = c.args.db.now in
    let id = c.args.id.now in
    let find = c.in_ok-history.ensures.finds in
    let e = c.in_ok-rebuild.ensures.rebuilds declares sees in
    let h : HistoryContent = history_in_rows (old.now.trees revs_tree) db id in
    record {
      ok = λ clean fit.
          let mid-clean : HasCleanDisk mid = omega (arith, e.asks.survives.clean, clean) in
          let same : mid.now ≡ old.now = (find.stands fit.store.schema_is mid-clean).0.now_is in
          let made = e.ok clean (subst (IsRebuildable declares sees db) (sym same) fit) in
          record {
            indexed = with_winner declares sees db id _ h _ end.now.trees design (c.as_bytes.ensures.value ∙ c.as_str.ensures.text)
                (c.find_winning_body-body.ensures ∙ ap winning_body (find.ok mid-clean fit.store) ∙ body_alone h) made.indexed;
            only = subst (λ (d : Database). ChangesIndexes d end.now) same made.only;
          };
      keeps = λ clean has.
          let mid-clean : HasCleanDisk mid = omega (arith, e.asks.survives.clean, clean) in
          e.keeps clean (ap (λ (d : Database). d.schema) (find.stands has mid-clean).0.now_is ∙ has);
      kept = λ clean has.
          let mid-clean : HasCleanDisk mid = omega (arith, e.asks.survives.clean, clean) in
          let same : mid.now ≡ old.now = (find.stands has mid-clean).0.now_is in
          keeps_then old mid end ((find.looks has).kept mid-clean) (e.kept clean (ap (λ (d : Database). d.schema) same ∙ has));
      goes_on = λ clean has up inside.
          let mid-clean : HasCleanDisk mid = omega (arith, e.asks.survives.clean, clean) in
          let stands = (find.stands has mid-clean).0 in
          e.goes_on clean (ap (λ (d : Database). d.schema) stands.now_is ∙ has) stands.is_open (stands.mode ∙ inside);
      asks = asks_then old mid end find.asks e.asks;
    }
