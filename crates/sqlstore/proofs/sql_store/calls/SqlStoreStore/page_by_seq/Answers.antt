use Rattle.sqlstore.proofs.Lemmas.{DatabaseNumbers, SequencePage, Some, Trees, afterwards, ap, false, found_at, history_in_rows, inside, leaves_there, listed_by_sequence, not_found, numbers_in, page_with_leaves, revs_tree, rules, sequence_page_of, stands_same, stands_then, sym, trees_of, true, was_honest, winners_page, winners_there, ◌∙◌, ◌≡◌}
use Rattle.sqlstore.proofs.sql_store.calls.SqlStoreStore.page_by_seq.Goals as goal

pub returns-in_err-found-clause-answer : goal.returns-in_err-found-clause-answer
returns-in_err-found-clause-answer g c = not_found {X = DatabaseNumbers} g.S.Store c.args.self.now c.find_bounded.new.self c.args.name.now numbers_in (λ d. (d.number, d.sequence)) _ _ _ _ c.in_err-found.ensures.answer (search rules)

pub returns-then-not-range-clause-answer : goal.returns-then-not-range-clause-answer
returns-then-not-range-clause-answer g c honest =
    let mid = c.find_bounded.new.self in
    let range = c.args.range.now in
    let k = c.in_ok-found.found in
    let was = was_honest g.S.Store mid c.find_page_by_sequence.new.self c.find_page_by_sequence.ensures.stands honest in
    let winners : c.args.range.now.all_leaves ≡ false = search rules in
    found_at g.S.Store c.args.self.now mid c.args.name.now _ c.find_bounded.ensures.stands was (c.in_ok-found.ensures.answer was)
    (λ t. Some (winners_page range k.sequence (listed_by_sequence t k.number))) (λ lay t. winners_there _ _ _ lay t range winners)
    ∙ c.in_ok-page.ensures.answer honest

pub returns-clause-answer : goal.returns-clause-answer
returns-clause-answer g c =
    let s = c.args.self.now in
    let first = c.find_bounded.new.self in
    let second = c.find_page_by_sequence.new.self in
    let end = c.show_page_leaves.new.self in
    let range = c.args.range.now in
    let k = c.in_ok-found.found in
    let stood = c.find_bounded.ensures.stands in
    let both = stands_then g.S.Store s first second stood c.find_page_by_sequence.ensures.stands in
    let leaves : c.args.range.now.all_leaves ≡ true = search rules in
    afterwards g.S.Store s second end sequence_page_of _ _ c.show_page_leaves.result both
    (λ honest.
    let then = was_honest g.S.Store second end c.show_page_leaves.ensures.stands honest in
    let was = was_honest g.S.Store first second c.find_page_by_sequence.ensures.stands then in
    found_at g.S.Store s first c.args.name.now _ stood was (c.in_ok-found.ensures.answer was)
    (λ t. Some (page_with_leaves (history_in_rows (t revs_tree) k.number) (winners_page range k.sequence (listed_by_sequence t k.number)))) (λ lay t. leaves_there _ _ _ lay t range leaves)
    ∙ ap (λ (p : SequencePage). Some (page_with_leaves (history_in_rows (trees_of g.S.Store first revs_tree) k.number) p)) (inside _ _ (c.in_ok-page.ensures.answer then))
    ∙ ap (λ (t : Trees). Some (page_with_leaves (history_in_rows (t revs_tree) k.number) (sequence_page_of c.in_ok-page.page))) (sym (stands_same g.S.Store first second c.find_page_by_sequence.ensures.stands)))
    c.show_page_leaves.ensures.answer
