use Rattle.std.proofs.Common.{Err, List, Option, ap, rules, ◌≡◌, ◌∙◌}
use Rattle.std.specs.Prelude.{filter, map, option_and_then, slice_get}
use Rattle.sqlite.specs.Held.{state}
use Rattle.sqlite_value.specs.Order.{Row}
use Rattle.tables.specs.Layout.{IsStore}
use Rattle.tables.specs.Rows.{history_in_rows, is_row_of_document, listed_document}
use Rattle.tables.specs.Schema.{docs_tree, revs_tree}
use Rattle.transactions.proofs.Lemmas.{documents_intact, winner_found}
use Rattle.transactions.specs.Reading.{winner_shown}
use Rattle.tree.specs.Outline.{marked_winner}
use Rattle.tree.specs.declared.marked_rev.MarkedRev.{MarkedRev}
use Rattle.file_check.proofs.CheckSteps.{checks_err, checks_none, checks_read, checks_then, if_ok}
use Rattle.file_check.specs.declared.finding.CheckFault.TheVariants as fault
use Rattle.file_check.proofs.indexes.stored.find_winner.Goals as goal

pub returns-in_err-rows : goal.returns-in_err-rows
returns-in_err-rows g c =
    let e = c.in_err-rows.field-0.0 in
    let is : c.from_residual.result ≡ Err (fault.Sqlite e) = search rules in
    checks_err g.S.Store IsStore IsStore (fault.Sqlite e) c.from_residual.result is (λ fit. fit) (checks_read g.S.Store (λ fit. fit.schema_is) c.in_err-rows.ensures.reads)

pub returns : goal.returns
returns g c =
    let trees = (state g.S.Store c.args.conn.now).now.trees in
    let db = c.args.db.now in
    let id = c.args.id.now in
    let b = c.document_rows.new.conn in
    let rows = c.deref.result.now in
    let said : List Row → Option MarkedRev = λ rs. option_and_then winner_shown (slice_get rs 0) in
    let named : c.as_bytes.result.now ≡ id = c.as_bytes.ensures.value ∙ c.as_str.ensures.text in
    checks_then g.S.Store IsStore IsStore {C = λ trees found. found ≡ marked_winner (history_in_rows (trees revs_tree) db id)} (checks_read g.S.Store (λ fit. fit.schema_is) c.in_ok-rows.ensures.reads)
    (checks_none g.S.Store IsStore (λ trees found. rows ≡ map listed_document (filter (is_row_of_document db id) (trees docs_tree)) → found ≡ marked_winner (history_in_rows (trees revs_tree) db id)) b c.read_winner.result
    (λ fit. if_ok c.read_winner.result
    (λ found made same. made (documents_intact (state g.S.Store b).now.trees db id fit.laid rows same) ∙ ap said same ∙ winner_found (state g.S.Store b).now.trees db id fit.laid) c.read_winner.ensures))
    (λ fit same. fit)
    (λ fit same found says. says (c.deref.ensures.value ∙ same ∙ ap (λ i. map listed_document (filter (is_row_of_document db i) (trees docs_tree))) named))
