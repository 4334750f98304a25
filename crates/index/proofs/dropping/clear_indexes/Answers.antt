use Rattle.index.proofs.Common.{AreDeclarationRows, Declared, HasCleanDisk, HasEntries, arith, decls_tree, is_due, map, state, subst, sym, without_numbers, ◌∙◌}
use Rattle.index.proofs.Dropped.{dropped}
use Rattle.index.proofs.Going.{declarations_stay, on_ok}
use Rattle.index.proofs.dropping.clear_indexes.Goals as goal

pub returns-clause-clears : goal.returns-clause-clears
returns-clause-clears g c clean has declares sees h all =
    let old = state g.S.Store c.args.tx.now.conn.now in
    let mid = state g.S.Store c.clear_all_entries.new.tx.conn.now in
    let new = state g.S.Store c.clear_declarations.new.tx.conn.now in
    let decls = old.now.trees decls_tree in
    let was : HasCleanDisk mid = omega (arith, c.clear_declarations.ensures.alters.proceeds.survives.clean, clean) in
    let first = c.in_ok-clear_all_entries.ensures.clears was has (is_due sees decls) h.entries in
    let due = subst (λ ds. HasEntries (without_numbers (is_due sees decls) (map (λ (d : Declared). d.number) ds)) old.now mid.now) all first in
    on_ok c.clear_declarations.result (dropped declares sees c.args.db.now old.now mid.now new.now has h due)
    (c.clear_declarations.ensures.alters.ok clean (due.only.schema ∙ has) (subst AreDeclarationRows (sym (declarations_stay old.now mid.now has due.only)) h.decls))
