use Rattle.index.specs.Places.{AreEntriesAt}
use Rattle.index.specs.Shown.{declared}
use Rattle.store.specs.Database.{Database}
use Rattle.store.specs.KeyPageStructs.{key_page_in, key_page_of}
use Rattle.store.specs.declared.index_page.PageByKey.{PageByKey}
use Rattle.sqlstore.proofs.Common.{Err, IndexPlace, NumberValues, Option, Result, Some, SqlStore, StoreFault, Trees, [], contents_of, get, key_page, option_map, page_of_keys}
use Rattle.sqlstore.proofs.KeyEntries.{fault_any, no_page_found, page_found, pages_set}
use Rattle.sqlstore.proofs.KeyRanking.{has_index}
use Rattle.sqlstore.proofs.Lemmas.{DatabaseNumbers, List, ap, inside, not_found, numbers_in, rules, stands_same, stands_then, subst, sym, trees_of, was_honest, ∥∥₁_elim, ◌∙◌, ◌≡◌}
use Rattle.sqlstore.specs.Model.{Answers, fault_count, is_honest}
use Rattle.sqlstore.specs.inner.Keys.{HasIndex}
use Rattle.tables.specs.Schema.{entries_tree}
use Rattle.sqlstore.proofs.sql_store.calls.SqlStoreStore.page_by_key.Goals as goal

pub returns-in_err-found-clause-answer : goal.returns-in_err-found-clause-answer
returns-in_err-found-clause-answer g c = not_found {X = DatabaseNumbers} g.S.Store c.args.self.now c.find.new.self c.args.name.now numbers_in (λ d. (d.number, d.sequence)) _ _ _ _ c.in_err-found.ensures.answer (search rules)

pub returns-in_ok-find_page_by_key-in-Some-clause-answer : goal.returns-in_ok-find_page_by_key-in-Some-clause-answer
returns-in_ok-find_page_by_key-in-Some-clause-answer g c honest =
    let s = c.args.self.now in
    let first = c.find.new.self in
    let second = c.find_declaration.new.self in
    let end = c.find_page_by_key.new.self in
    let k : NumberValues = (c.in_ok-found.found.number, c.in_ok-found.found.sequence) in
    let then = was_honest g.S.Store second end c.find_page_by_key.ensures.stands honest in
    let was = was_honest g.S.Store first second c.find_declaration.ensures.stands then in
    let to_end = stands_then g.S.Store s first end c.find.ensures.stands (stands_then g.S.Store first second end c.find_declaration.ensures.stands c.find_page_by_key.ensures.stands) in
    let told = inside _ _ (c.in_ok-declaration.ensures.answer then) ∙ ap (option_map declared) c.in-Some.is in
    ∥∥₁_elim
    (page_found g.S.Store s first second c.args.range.now c.args.name.now c.args.design.now c.args.index.now k c.find.ensures.stands c.find_declaration.ensures.stands then (c.in_ok-found.ensures.answer was) (declared c.in-Some.declaration) told)
    (pages_set _ _)
    (λ p.
    p.page
    ∙ ap Some
    (c.in_ok-find_page_by_key-in-Some.ensures.answer p.places
    (honest, subst (λ (t : Trees). AreEntriesAt c.in-Some.declaration.number p.places (t entries_tree)) (sym (stands_same g.S.Store s end to_end)) p.entries)))

pub returns-in-None-clause-answer : goal.returns-in-None-clause-answer
returns-in-None-clause-answer g c honest =
    let s = c.args.self.now in
    let first = c.find.new.self in
    let second = c.find_declaration.new.self in
    let k : NumberValues = (c.in_ok-found.found.number, c.in_ok-found.found.sequence) in
    let was = was_honest g.S.Store first second c.find_declaration.ensures.stands honest in
    no_page_found g.S.Store s first second c.args.range.now c.args.name.now c.args.design.now c.args.index.now k c.find.ensures.stands c.find_declaration.ensures.stands honest (c.in_ok-found.ensures.answer was)
    (inside _ _ (c.in_ok-declaration.ensures.answer honest) ∙ ap (option_map declared) c.in-None.is)

pub returns-in_err-find_page_by_key-in-Some-clause-answer : goal.returns-in_err-find_page_by_key-in-Some-clause-answer
returns-in_err-find_page_by_key-in-Some-clause-answer g c =
    let s = c.args.self.now in
    let first = c.find.new.self in
    let second = c.find_declaration.new.self in
    let end = c.find_page_by_key.new.self in
    let n = c.in-Some.declaration.number in
    let k : NumberValues = (c.in_ok-found.found.number, c.in_ok-found.found.sequence) in
    let Is : List IndexPlace → SqlStore g.row.S.Denot g.S.Store → Type 0 = λ places x. is_honest g.S.Store x × AreEntriesAt n places (trees_of g.S.Store x entries_tree) in
    let defined = option_map (λ (db : Database). page_of_keys c.args.range.now c.args.design.now c.args.index.now db) (get (contents_of g.S.Store s) c.args.name.now) in
    let to_second = stands_then g.S.Store s first second c.find.ensures.stands c.find_declaration.ensures.stands in
    let to_end = stands_then g.S.Store s second end to_second c.find_page_by_key.ensures.stands in
    let fault = c.in_err-find_page_by_key-in-Some.field-0.0 in
    let is : c.from_residual-in_err-find_page_by_key-in-Some.result ≡ Err fault = search rules in
    subst (λ (r : Result (Option PageByKey) StoreFault). Answers g.S.Store s end key_page_in defined r) (sym is)
    (fault_any Is (is_honest g.S.Store) (fault_count g.S.Store) s second end key_page_of key_page_in (λ places. key_page c.args.range.now places) defined fault [] to_second.counted
    (λ honest none.
    let then = was_honest g.S.Store second end c.find_page_by_key.ensures.stands honest in
    let was = was_honest g.S.Store first second c.find_declaration.ensures.stands then in
    let told = inside _ _ (c.in_ok-declaration.ensures.answer then) ∙ ap (option_map declared) c.in-Some.is in
    ∥∥₁_elim
    (page_found g.S.Store s first second c.args.range.now c.args.name.now c.args.design.now c.args.index.now k c.find.ensures.stands c.find_declaration.ensures.stands then (c.in_ok-found.ensures.answer was) (declared c.in-Some.declaration) told)
    (λ p q. absurd p)
    (λ p. none (p.places, (honest, subst (λ (t : Trees). AreEntriesAt n p.places (t entries_tree)) (sym (stands_same g.S.Store s end to_end)) p.entries))))
    (λ places. c.in_err-find_page_by_key-in-Some.ensures.answer places))

pub find_page_by_key-requires : goal.find_page_by_key-requires
find_page_by_key-requires g c honest =
    let first = c.find.new.self in
    let second = c.find_declaration.new.self in
    let n = c.in_ok-found.found.number in
    let d = declared c.in-Some.declaration in
    let told = inside _ _ (c.in_ok-declaration.ensures.answer honest) ∙ ap (option_map declared) c.in-Some.is in
    subst (λ (t : Trees). HasIndex t n d) (sym (stands_same g.S.Store first second c.find_declaration.ensures.stands))
    (has_index (trees_of g.S.Store first) n c.args.design.now c.args.index.now d told)
