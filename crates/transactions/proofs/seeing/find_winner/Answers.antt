use Rattle.transactions.proofs.Lemmas.{ap, inside, documents_intact, is_row_of_document, filter, lost, map, rules, slice_get, sym, winner_found, ◌∙◌, ◌≡◌}
use Rattle.transactions.proofs.Common.{List, Option, Trees, ℕ}
use Rattle.transactions.proofs.Readers.{finds_lost, finds_shown, finds_so}
use Rattle.std.specs.Prelude.{option_and_then}
use Rattle.sqlite_value.specs.Order.{Row}
use Rattle.tables.specs.Rows.{listed_document}
use Rattle.tables.specs.Schema.{docs_tree}
use Rattle.tree.specs.declared.marked_rev.MarkedRev.{MarkedRev}
use Rattle.transactions.specs.Reading.{winner_shown}
use Rattle.transactions.specs.declared.commit_fault.CommitFault.TheVariants as write
use Rattle.transactions.proofs.seeing.find_winner.Goals as goal

pub returns-in_err-first_winner-clause-finds : goal.returns-in_err-first_winner-clause-finds
returns-in_err-first_winner-clause-finds g c =
    let fault = c.in_err-first_winner.field-0.0 in
    finds_lost g.S.Store (finds_shown g.S.Store c.in_ok-rows.ensures.reads) (write.Store fault) c.from_residual-in_err-first_winner.result (search rules) _
    (λ trees laid holds found. documents_intact trees c.args.db.now c.as_bytes.result.now laid c.deref.result.now (c.deref.ensures.value ∙ found))
    (lost (option_and_then winner_shown (slice_get c.deref.result.now 0)) _ _ fault c.in_err-first_winner.ensures (λ intact. intact))

pub returns-clause-finds : goal.returns-clause-finds
returns-clause-finds g c =
    let db = c.args.db.now in
    let said : List Row → Option MarkedRev = λ rs. option_and_then winner_shown (slice_get rs 0) in
    finds_so g.S.Store (finds_shown g.S.Store c.in_ok-rows.ensures.reads)
    (λ (trees : Trees) laid found.
    let shown : List ℕ → List Row = λ i. map listed_document (filter (is_row_of_document db i) (trees docs_tree)) in
    let rows : c.deref.result.now ≡ shown c.args.id.now = c.deref.ensures.value ∙ found ∙ ap shown (c.as_bytes.ensures.value ∙ c.as_str.ensures.text) in
    sym (inside (said c.deref.result.now) c.in_ok-first_winner.field-0 c.in_ok-first_winner.ensures) ∙ ap said rows ∙ winner_found trees db c.args.id.now laid)
