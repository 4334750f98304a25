use Rattle.index.proofs.Common.{Err, Ok, [], entries_tree, map, rules, state, subst, sym, ◌≡◌}
use Rattle.std.specs.Prelude.{IsPermutation}
use Rattle.index.proofs.Beside.{beside_sorted}
use Rattle.index.proofs.StepLemmas.{steps_stop, steps_weaker}
use Rattle.index.specs.inner.Gathering.{AreToPut, HasEntriesBeside, entry_of}
use Rattle.std.proofs.lemmas.List.Sorted.{IsPermutation-map}
use Rattle.index.proofs.putting.put_gathered.Goals as goal

pub returns-in_err-put_entries-clause-puts : goal.returns-in_err-put_entries-clause-puts
returns-in_err-put_entries-clause-puts g c due =
    let first = c.args.tx.now.conn.now in
    let second = c.put_entries.new.tx.conn.now in
    let before = map entry_of c.args.gathered.now.entries.items in
    let sorted = map entry_of c.deref.result.now in
    let order : IsPermutation before sorted = subst (λ l. IsPermutation before (map entry_of l)) (sym c.deref.ensures.value) (IsPermutation-map entry_of _ _ c.sort.ensures.same) in
    let fault = c.in_err-put_entries.field-0.0 in
    let is : c.from_residual.result ≡ Err fault = search rules in
    steps_stop g.S.Store {X = Unit {0}} (AreToPut due before) (HasEntriesBeside due []) (HasEntriesBeside due (map entry_of c.sort.new.self.entries.items)) first second fault fault c.from_residual.result is
    (steps_weaker g.S.Store (AreToPut due before) (AreToPut due sorted) (HasEntriesBeside due []) (HasEntriesBeside due []) first second (Err fault) (c.in_err-put_entries.ensures.puts due)
    (λ fit. record { schema_is = fit.schema_is; entries = beside_sorted due before sorted ((state g.S.Store first).now.trees entries_tree) order fit.entries }) (λ fit made. made))

pub returns-clause-puts : goal.returns-clause-puts
returns-clause-puts g c due =
    let first = c.args.tx.now.conn.now in
    let second = c.put_entries.new.tx.conn.now in
    let before = map entry_of c.args.gathered.now.entries.items in
    let sorted = map entry_of c.deref.result.now in
    let after = map entry_of c.clear.new.self.entries.items in
    let order : IsPermutation before sorted = subst (λ l. IsPermutation before (map entry_of l)) (sym c.deref.ensures.value) (IsPermutation-map entry_of _ _ c.sort.ensures.same) in
    steps_weaker g.S.Store (AreToPut due before) (AreToPut due sorted) (HasEntriesBeside due after) (HasEntriesBeside due []) first second (Ok tt) (c.in_ok-put_entries.ensures.puts due)
    (λ fit. record { schema_is = fit.schema_is; entries = beside_sorted due before sorted ((state g.S.Store first).now.trees entries_tree) order fit.entries })
    (λ fit made. subst (λ l. HasEntriesBeside due (map entry_of l) (state g.S.Store first).now (state g.S.Store second).now) (sym c.clear.ensures) made)
