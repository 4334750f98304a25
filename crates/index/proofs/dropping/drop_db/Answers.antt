use Rattle.index.proofs.Common.{AreIndexed, Database, HasCleanDisk, HasIndexRows, IsDropped, ap, arith, declared, declared_at, decls_tree, filter, is_at_home, map, schema, state, subst, ◌∙◌, ◌≡◌}
use Rattle.index.proofs.dropping.drop_db.Goals as goal

pub returns-clause-drops : goal.returns-clause-drops
returns-clause-drops g c clean has declares sees h =
    let old = state g.S.Store c.args.tx.now.conn.now in
    let mid = state g.S.Store c.list_declarations.new.tx.conn.now in
    let new = state g.S.Store c.clear_indexes.new.tx.conn.now in
    let db = c.args.db.now in
    let still : HasCleanDisk mid = omega (arith, c.clear_indexes.ensures.proceeds.survives.clean, clean) in
    let fit : HasIndexRows old.now = record { schema_is = has; decls = h.decls; entries = h.entries.laid } in
    let same : mid.now ≡ old.now = (c.in_ok-declarations.ensures.stands has still).0.now_is in
    let all : map declared c.deref.result.now ≡ map declared_at (filter (is_at_home db) (old.now.trees decls_tree)) = ap (map declared) c.deref.ensures.value ∙ c.in_ok-declarations.ensures.ok still fit in
    let P : Database → Type 0 = λ d. d.schema ≡ schema → AreIndexed declares sees d.trees → map declared c.deref.result.now ≡ map declared_at (filter (is_at_home db) (d.trees decls_tree)) → IsDropped declares sees db d new.now in
    let made : P mid.now = λ ours indexed ds. c.in_ok-clear_indexes.ensures.clears clean ours declares sees indexed ds in
    subst P same made has h all
