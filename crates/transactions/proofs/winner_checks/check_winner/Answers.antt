use Rattle.transactions.proofs.Lemmas.{filter, map, outlines_intact, revs_tree, rules, subst, sym, winner_has_mark, ◌∙◌, ◌≡◌}
use Rattle.transactions.proofs.Common.{List, Revision, Row, Trees, ℕ}
use Rattle.transactions.proofs.Readers.{finds_lost, finds_shown, finds_so}
use Rattle.tables.specs.Rows.{is_revision_of, shown_outline}
use Rattle.transactions.specs.Reading.{HasMark}
use Rattle.transactions.specs.declared.commit_fault.CommitFault.TheVariants as write
use Rattle.transactions.proofs.winner_checks.check_winner.Goals as goal

pub returns-in_err-check_mark-clause-finds : goal.returns-in_err-check_mark-clause-finds
returns-in_err-check_mark-clause-finds g c =
    let db = c.args.db.now in
    let id : List ℕ = c.args.id.now in
    let w = c.args.winner.now in
    let rows : List Row = c.deref.result.now in
    finds_lost g.S.Store (finds_shown g.S.Store c.in_ok-rows.ensures.reads) (write.Store c.in_err-check_mark.field-0.0) c.from_residual-in_err-check_mark.result (search rules) _
    (λ (trees : Trees) laid won found.
    let shown : List ℕ → Revision → List Row = λ i q. map shown_outline (filter (is_revision_of db i q) (trees revs_tree)) in
    let are : rows ≡ shown id w.rev = c.deref.ensures.value ∙ found ∙ search rules in
    (outlines_intact trees _ rows laid are, subst (HasMark w.deleted) (sym are) (winner_has_mark trees db id laid w won)))
    c.in_err-check_mark.ensures.err

pub returns-clause-finds : goal.returns-clause-finds
returns-clause-finds g c = finds_so g.S.Store (finds_shown g.S.Store c.in_ok-rows.ensures.reads) (λ trees laid found. tt)
