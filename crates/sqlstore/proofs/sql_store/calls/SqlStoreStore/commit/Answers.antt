use Rattle.sqlstore.proofs.Lemmas.{Bool, Held, addition_of, additions, ap, arith, false, length, length-map, missing, numbers_in, rules, state, there, told, trees_of, true, was_honest, ◌≡◌}
use Rattle.sqlstore.proofs.Committed.{due_at, due_there, lacks_there}
use Rattle.sqlstore.proofs.sql_store.calls.SqlStoreStore.commit.Goals as goal

true_not_false : (b : Bool) → b ≡ true → b ≡ false → ⊥
true_not_false b has lacks = cc

pub returns-in_err-found-clause-missing : goal.returns-in_err-found-clause-missing
returns-in_err-found-clause-missing g c honest told = missing g.S.Store c.args.self.now c.find.new.self c.args.name.now _ _ c.in_err-found.ensures.answer (search rules) told honest

pub returns-then-not-has_room-clause-caused : goal.returns-then-not-has_room-clause-caused
returns-then-not-has_room-clause-caused g c honest =
    let trees = trees_of g.S.Store c.args.self.now in
    let name = c.args.name.now in
    let all = additions c.args.writes.now in
    let count : length all ≡ length c.args.writes.now = length-map c.args.writes.now addition_of in
    lacks_there all trees name _ (there numbers_in trees name _ (c.in_ok-found.ensures.answer honest))
    (λ room.
    let has : c.has_room.result ≡ true = c.has_room.ensures.1 (omega (arith, room, count)) in
    absurd (true_not_false c.has_room.result has (search rules)))

pub append_counted-requires-clause-due : goal.append_counted-requires-clause-due
append_counted-requires-clause-due g c honest =
    let s = c.args.self.now in
    let mid = c.find.new.self in
    let name = c.args.name.now in
    let all = additions c.args.writes.now in
    let found = there numbers_in (trees_of g.S.Store s) name _ (c.in_ok-found.ensures.answer honest) in
    due_at all name _ _ (trees_of g.S.Store mid) (trees_of g.S.Store s) (ap (λ (h : Held g.row.S.Denot). (state g.S.Store h).now.trees) c.find.ensures.stands.last)
    (due_there all (trees_of g.S.Store s) name _ found (c.requires (was_honest g.S.Store s mid c.find.ensures.stands honest)))
