use Rattle.std.proofs.Common.{Some, filter, map, rules, ◌≡◌}
use Rattle.couch_json.specs.View.{view}
use Rattle.sqlite.specs.Held.{state}
use Rattle.index.specs.Layout.{HasIndexRows}
use Rattle.index.specs.Rows.{is_at_home}
use Rattle.store.specs.Indexes.{queried_document}
use Rattle.tables.specs.Schema.{decls_tree}
use Rattle.file_check.proofs.CheckSteps.{checks_read, checks_then, checks_weaker}
use Rattle.file_check.proofs.FollowedDocuments.{home_answer, home_indexes}
use Rattle.file_check.specs.inner.IndexRows.{AreShownIndexes, shown_index}
use Rattle.file_check.specs.Indexes.{HaveItsKeys, IsAnswer, IsReadable}
use Rattle.file_check.proofs.indexes.followed.are_entered.Goals as goal

pub returns : goal.returns
returns g c =
    let d = (state g.S.Store c.args.conn.now).now in
    let home = c.args.db.now in
    let id = c.args.id.now in
    let sees = queried_document id c.args.history.now in
    let seen : Some (view c.in-Some.seen) ≡ sees = search rules in
    let decls = filter (is_at_home home) (d.trees decls_tree) in
    checks_then g.S.Store IsReadable (AreShownIndexes c.deref.result.now decls) {A = λ trees rows. rows.items ≡ map shown_index (filter (is_at_home home) (trees decls_tree))} {C = λ trees are. IsAnswer (HaveItsKeys home id sees trees) are}
    (checks_weaker g.S.Store IsReadable HasIndexRows (checks_read g.S.Store (λ fit. fit.schema_is) c.in_ok-rows.ensures) (λ fit. fit.rows) (λ fit x is. is)) (c.have_keys.ensures decls)
    (λ fit is. home_indexes d fit home c.deref.result.now c.in_ok-rows.rows.items c.deref.ensures.value is)
    (λ fit is b told. home_answer home id (Some (view c.in-Some.seen)) sees d.trees b seen told)
