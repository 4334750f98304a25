use Rattle.transactions.proofs.Lemmas.{ap, inside, filter, lost, map, revision_found, revision_intact, revs_tree, rules, shown_revision, slice_get, sym, ◌∙◌, ◌≡◌}
use Rattle.transactions.proofs.Common.{List, Option, Revision, Trees, ℕ}
use Rattle.transactions.proofs.Readers.{finds_lost, finds_shown, finds_so}
use Rattle.std.specs.Prelude.{option_map}
use Rattle.sqlite_value.specs.Order.{Row}
use Rattle.tables.specs.Rows.{is_revision_of}
use Rattle.tree.specs.declared.entry.Entry.{Entry}
use Rattle.transactions.specs.Reading.{known_shown}
use Rattle.transactions.specs.declared.commit_fault.CommitFault.TheVariants as write
use Rattle.transactions.proofs.seeing.find_revision.Goals as goal

pub returns-in_err-first_revision-clause-finds : goal.returns-in_err-first_revision-clause-finds
returns-in_err-first_revision-clause-finds g c =
    let fault = c.in_err-first_revision.field-0.0 in
    finds_lost g.S.Store (finds_shown g.S.Store c.in_ok-rows.ensures.reads) (write.Store fault) c.from_residual-in_err-first_revision.result (search rules) _
    (λ trees laid holds found. revision_intact trees _ c.deref.result.now laid (c.deref.ensures.value ∙ found))
    (lost (option_map known_shown (slice_get c.deref.result.now 0)) _ _ fault c.in_err-first_revision.ensures (λ intact. intact))

pub returns-clause-finds : goal.returns-clause-finds
returns-clause-finds g c =
    let db = c.args.db.now in
    let said : List Row → Option Entry = λ rs. option_map known_shown (slice_get rs 0) in
    finds_so g.S.Store (finds_shown g.S.Store c.in_ok-rows.ensures.reads)
    (λ (trees : Trees) laid found.
    let shown : List ℕ → Revision → List Row = λ i q. map shown_revision (filter (is_revision_of db i q) (trees revs_tree)) in
    let rows : c.deref.result.now ≡ shown c.args.id.now c.args.rev.now = c.deref.ensures.value ∙ found ∙ search rules in
    sym (inside (said c.deref.result.now) c.in_ok-first_revision.field-0 c.in_ok-first_revision.ensures) ∙ ap said rows ∙ revision_found trees db c.args.id.now c.args.rev.now)
