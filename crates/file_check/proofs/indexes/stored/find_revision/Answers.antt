use Rattle.std.proofs.Common.{Err, List, Option, ap, rules, ◌≡◌, ◌∙◌}
use Rattle.std.specs.FinMap as finite
use Rattle.std.specs.Prelude.{filter, map, option_map, slice_get}
use Rattle.sqlite.specs.Held.{state}
use Rattle.sqlite_value.specs.Order.{Row}
use Rattle.tables.specs.Layout.{IsStore}
use Rattle.tables.specs.Rows.{history_in_rows, is_revision_of, shown_revision}
use Rattle.tables.specs.Schema.{revs_tree}
use Rattle.transactions.proofs.Lemmas.{revision_found, revision_intact}
use Rattle.transactions.specs.Reading.{known_shown}
use Rattle.tree.specs.declared.entry.Entry.{Entry}
use Rattle.file_check.proofs.CheckSteps.{checks_err, checks_none, checks_read, checks_then, if_ok}
use Rattle.file_check.specs.declared.finding.CheckFault.TheVariants as fault
use Rattle.file_check.proofs.indexes.stored.find_revision.Goals as goal

pub returns-in_err-rows : goal.returns-in_err-rows
returns-in_err-rows g c =
    let e = c.in_err-rows.field-0.0 in
    let is : c.from_residual.result ≡ Err (fault.Sqlite e) = search rules in
    checks_err g.S.Store IsStore IsStore (fault.Sqlite e) c.from_residual.result is (λ fit. fit) (checks_read g.S.Store (λ fit. fit.schema_is) c.in_err-rows.ensures)

pub returns : goal.returns
returns g c =
    let trees = (state g.S.Store c.args.conn.now).now.trees in
    let db = c.args.db.now in
    let id = c.args.id.now in
    let rev = c.args.rev.now in
    let b = c.one_revision_rows.new.conn in
    let rows = c.deref.result.now in
    let said : List Row → Option Entry = λ rs. option_map known_shown (slice_get rs 0) in
    checks_then g.S.Store IsStore IsStore {C = λ trees found. found ≡ finite.get (history_in_rows (trees revs_tree) db id) rev} (checks_read g.S.Store (λ fit. fit.schema_is) c.in_ok-rows.ensures)
    (checks_none g.S.Store IsStore (λ trees found. rows ≡ map shown_revision (filter (is_revision_of db id rev) (trees revs_tree)) → found ≡ finite.get (history_in_rows (trees revs_tree) db id) rev) b c.read_revision.result
    (λ fit. if_ok c.read_revision.result
    (λ found made same. made (revision_intact (state g.S.Store b).now.trees (is_revision_of db id rev) rows fit.laid same) ∙ ap said same ∙ revision_found (state g.S.Store b).now.trees db id rev) c.read_revision.ensures))
    (λ fit same. fit)
    (λ fit same found says. says (c.deref.ensures.value ∙ same ∙ search rules))
