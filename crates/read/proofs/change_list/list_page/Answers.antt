-- The rows of a page, as the store gives them, are the next of those that are still to come.
use Rattle.std.proofs.Common.{◌≡◌, Some, ap, arith, false, min, option_map, sym, take, ◌∙◌}
use Rattle.std.proofs.lemmas.List.{length-map}
use Rattle.store.specs.Pages.{SequencePage, last_sequence, page_by_sequence}
use Rattle.store.specs.PageStructs.{sequence_page_of, sequence_row_of, sequence_rows}
use Rattle.store.specs.declared.listing.SeqRange.{SeqRange}
use Rattle.tree.proofs.Shown.{inside}
use Rattle.read.specs.inner.ChangesSoFar.{later_than, left_after}
use Rattle.read.proofs.ChangePages.{advanced, all_rows, ended}
use Rattle.read.proofs.change_list.list_page.Goals as goal

pub returns-then-page-so_far-clause-end : goal.returns-then-page-so_far-clause-end
returns-then-page-so_far-clause-end g c = λ honest no d there.
    let before = c.args.so_far.now in
    let page = c.in_ok-page.page in
    let next : SeqRange = record { since = before.since; limit = Some c.page_size.result; all_leaves = c.args.all_leaves; counted = false } in
    let paged : page_by_sequence next d ≡ sequence_page_of page = inside _ _ (sym (ap (option_map (page_by_sequence next)) there) ∙ c.in_ok-page.ensures.answer honest) in
    let rows = sym (ap (λ (p : SequencePage). p.rows) paged) in
    let last = sym (ap (λ (p : SequencePage). p.last) paged) in
    ended c.args.all_leaves before (sequence_rows page.rows.items) page.last_seq d
    (rows ∙ ap (λ n. take n (later_than before.since (all_rows c.args.all_leaves d))) c.page_size.ensures)
    (last ∙ ap (last_sequence (min before.since d.length)) (sym rows)) (omega (arith, c.if-page-so_far.true))

pub returns-clause-ok : goal.returns-clause-ok
returns-clause-ok g c = λ honest d there.
    let before = c.args.so_far.now in
    let page = c.in_ok-page.page in
    let next : SeqRange = record { since = before.since; limit = Some c.page_size.result; all_leaves = c.args.all_leaves; counted = false } in
    let paged : page_by_sequence next d ≡ sequence_page_of page = inside _ _ (sym (ap (option_map (page_by_sequence next)) there) ∙ c.in_ok-page.ensures.answer honest) in
    let rows = sym (ap (λ (p : SequencePage). p.rows) paged) in
    let last = sym (ap (λ (p : SequencePage). p.last) paged) in
    advanced c.args.all_leaves before c.take_page.new.so_far (sequence_rows page.rows.items) page.last_seq d
    (rows ∙ ap (λ n. take n (later_than before.since (all_rows c.args.all_leaves d))) c.page_size.ensures)
    (last ∙ ap (last_sequence (min before.since d.length)) (sym rows)) (omega (arith, c.if-page-so_far.false))
    c.in_ok-take_page.ensures.results c.in_ok-take_page.ensures.since c.in_ok-take_page.ensures.last
    (c.in_ok-take_page.ensures.left ∙ ap (left_after before.left) (sym (length-map page.rows.items sequence_row_of)))
