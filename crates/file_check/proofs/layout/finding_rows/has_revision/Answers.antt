use Rattle.tables.proofs.Common.{List, list_any, revs_tree, rules, subst, ℕ, ◌≡◌}
use Rattle.file_check.specs.Inspecting.{Inspects}
use Rattle.file_check.specs.Tables.{IsShaped}
use Rattle.file_check.specs.inner.Queries.{is_stored}
use Rattle.file_check.proofs.layout.finding_rows.has_revision.Goals as goal

pub returns-in-Ok : goal.returns-in-Ok
returns-in-Ok g c =
    let same : c.in-Ok.hash.now ≡ c.args.hash.now = search rules in
    subst (λ (h : List ℕ). Inspects g.S.Store IsShaped c.args.conn.now c.has_text_hash.new.conn (λ trees found. found ≡ list_any (is_stored c.args.db.now c.args.id.now c.args.number.now h) (trees revs_tree)) c.has_text_hash.result) same
    c.has_text_hash.ensures
