use Rattle.transactions.proofs.Lemmas.{Database, HasCleanDisk, IsStore, Ok, addition_of, ap, arith, rules, state, subst, sym, ⊤, ◌∙◌, ◌≡◌}
use Rattle.transactions.proofs.Common.{IsWrite, List, Row, map, option_map, ℕ}
use Rattle.transactions.proofs.IndexSteps.{seen_copied, seen_followed}
use Rattle.transactions.proofs.IndexRests.{refused_of}
use Rattle.transactions.proofs.NextWrites.{followed_by, followed_stop, followed_then, read_failed, write_failed, written_next}
use Rattle.transactions.proofs.Redeclared.{unwritten_as}
use Rattle.transactions.specs.Indexing.{of_index_fault, write_in}
use Rattle.couch_json.specs.View.{view}
use Rattle.index.specs.Calls.{AreUpToDate, HasEntries}
use Rattle.index.specs.Indexed.{is_due}
use Rattle.index.specs.Meaning.{Documents, sees_in, with_seen}
use Rattle.index.specs.Shown.{declared}
use Rattle.tables.specs.Schema.{entries_tree}
use Rattle.transactions.proofs.indexing.write_and_refresh.Goals as goal

pub returns-in_err-before-clause-writes : goal.returns-in_err-before-clause-writes
returns-in_err-before-clause-writes g c =
    read_failed g.S.Store c.args.histories.now c.args.histories.now c.args.db.now c.args.sequence.now (addition_of c.args.write.now) c.args.tx.now.conn.now c.see_document.new.tx.conn.now
    c.in_err-before.field-0.0 c.from_residual.result (search rules) c.in_err-before.ensures.finds

pub returns-in_err-write_and_advance-clause-writes : goal.returns-in_err-write_and_advance-clause-writes
returns-in_err-write_and_advance-clause-writes g c =
    write_failed g.S.Store c.args.histories.now c.write_and_advance.new.histories c.args.db.now c.args.sequence.now (addition_of c.args.write.now) c.args.tx.now.conn.now c.see_document.new.tx.conn.now c.in_ok-before.ensures.finds
    c.write_and_advance.new.tx.conn.now c.in_err-write_and_advance.field-0.0 c.from_residual-in_err-write_and_advance.result (search rules) c.in_err-write_and_advance.ensures.writes

pub returns-in_err-after-clause-writes : goal.returns-in_err-after-clause-writes
returns-in_err-after-clause-writes g c =
    let w = c.in_ok-write_and_advance.ensures in
    let fault = c.in_err-after.field-0.0 in
    let a = addition_of c.args.write.now in
    followed_stop g.S.Store c.args.histories.now c.write_and_advance.new.histories c.args.db.now c.args.sequence.now a c.args.tx.now.conn.now c.see_document-2.new.tx.conn.now fault c.from_residual-in_err-after.result (search rules)
    (followed_by g.S.Store c.args.histories.now c.write_and_advance.new.histories c.args.db.now c.args.sequence.now a c.args.tx.now.conn.now c.see_document.new.tx.conn.now c.in_ok-before.ensures.finds
    c.write_and_advance.new.tx.conn.now w.writes w.ok c.see_document-2.new.tx.conn.now _ c.in_err-after.ensures.finds)

pub returns-in_err-refresh_indexes-clause-writes : goal.returns-in_err-refresh_indexes-clause-writes
returns-in_err-refresh_indexes-clause-writes g c =
    let w = c.in_ok-write_and_advance.ensures in
    let e = c.in_err-refresh_indexes.ensures in
    let fault = c.in_err-refresh_indexes.field-0.0 in
    let a = addition_of c.args.write.now in
    followed_then g.S.Store c.args.histories.now c.write_and_advance.new.histories c.args.db.now c.args.sequence.now a c.args.tx.now.conn.now c.see_document-2.new.tx.conn.now c.refresh_indexes.new.tx.conn.now c.in_ok-after.after
    (followed_by g.S.Store c.args.histories.now c.write_and_advance.new.histories c.args.db.now c.args.sequence.now a c.args.tx.now.conn.now c.see_document.new.tx.conn.now c.in_ok-before.ensures.finds
    c.write_and_advance.new.tx.conn.now w.writes w.ok c.see_document-2.new.tx.conn.now _ c.in_ok-after.ensures.finds)
    e.proceeds c.from_residual-in_err-refresh_indexes.result (λ clean up inside. search rules) (unwritten_as ⊤ c.from_residual-in_err-refresh_indexes.result (of_index_fault fault) (search rules) (refused_of ⊤ ⊤ fault (λ it. tt) e.err))

pub returns-clause-writes : goal.returns-clause-writes
returns-clause-writes g c =
    let w = c.in_ok-write_and_advance.ensures in
    let e = c.in_ok-refresh_indexes.ensures in
    let a = addition_of c.args.write.now in
    followed_then g.S.Store c.args.histories.now c.write_and_advance.new.histories c.args.db.now c.args.sequence.now a c.args.tx.now.conn.now c.see_document-2.new.tx.conn.now c.refresh_indexes.new.tx.conn.now c.in_ok-after.after
    (followed_by g.S.Store c.args.histories.now c.write_and_advance.new.histories c.args.db.now c.args.sequence.now a c.args.tx.now.conn.now c.see_document.new.tx.conn.now c.in_ok-before.ensures.finds
    c.write_and_advance.new.tx.conn.now w.writes w.ok c.see_document-2.new.tx.conn.now _ c.in_ok-after.ensures.finds)
    e.proceeds (Ok tt) (λ clean up inside. e.goes_on clean up inside) tt

pub returns-clause-ok : goal.returns-clause-ok
returns-clause-ok g c ids plain clean was every held due =
    let old = state g.S.Store c.args.tx.now.conn.now in
    let mid = state g.S.Store c.see_document.new.tx.conn.now in
    let put = state g.S.Store c.write_and_advance.new.tx.conn.now in
    let look = state g.S.Store c.see_document-2.new.tx.conn.now in
    let end = state g.S.Store c.refresh_indexes.new.tx.conn.now in
    let db = c.args.db.now in
    let a = addition_of c.args.write.now in
    let read = c.in_ok-before.ensures.finds in
    let again = c.in_ok-after.ensures.finds in
    let w = c.in_ok-write_and_advance.ensures in
    let e = c.in_ok-refresh_indexes.ensures in
    let look-clean : HasCleanDisk look = omega (arith, e.proceeds.survives.clean, clean) in
    let put-clean : HasCleanDisk put = omega (arith, again.asks.survives.clean, look-clean) in
    let mid-clean : HasCleanDisk mid = omega (arith, w.writes.asks.survives.clean, put-clean) in
    let write = written_next g.S.Store c.args.histories.now c.write_and_advance.new.histories db c.args.sequence.now a c.args.tx.now.conn.now c.see_document.new.tx.conn.now read c.write_and_advance.new.tx.conn.now w.writes w.ok put-clean was.store held due in
    let left = due.store w.writes.lawful put.now write in
    let seen : look.now ≡ put.now = (again.stands left.schema_is look-clean).0.now_is in
    let id : c.as_bytes-id.result.now ≡ a.id = c.as_bytes-id.ensures.value ∙ c.as_str.ensures.text in
    let before : option_map (λ v. view v.now) c.as_ref.result ≡ sees_in old.now.trees db a.id =
    seen_copied c.as_ref.result ∙ ap (option_map view) c.as_ref.ensures.value ∙ read.ok mid-clean was.store in
    let after : option_map (λ v. view v.now) c.as_ref-2.result ≡ sees_in look.now.trees db a.id =
    seen_copied c.as_ref-2.result ∙ ap (option_map view) c.as_ref-2.ensures.value ∙ again.ok look-clean left ∙ ap (λ (d : Database). sees_in d.trees db a.id) (sym seen) in
    seen_followed due.row a db ids _ _ _ old.now look.now end.now was every plain due.numbered (subst (IsWrite due.row (write_in old.now.trees due.row a) old.now) (sym seen) write) (subst IsStore (sym seen) left)
    before after
    (subst (λ (i : List ℕ). (decls : List Row) (sees : Documents) → AreUpToDate db (map declared c.args.indexes.now) i (option_map (λ v. view v.now) c.as_ref.result) decls sees (look.now.trees entries_tree)
    → HasEntries (is_due (with_seen sees db i (option_map (λ v. view v.now) c.as_ref-2.result)) decls) look.now end.now) id
    (e.follows clean (ap (λ (d : Database). d.schema) seen ∙ left.schema_is)))
