use Rattle.tables.proofs.Common.{rules, subst, sym, ◌≡◌}
use Rattle.file_check.specs.Inspecting.{Goes}
use Rattle.file_check.specs.Tables.{IsShaped, IsSoundRow}
use Rattle.file_check.specs.inner.Queries.{HasCells, IsBefore, Judges}
use Rattle.file_check.specs.declared.layout.checked.Checked.TheVariants.{Databases, Documents, Locals, Revisions}
use Rattle.file_check.proofs.Going.{goes_map, goes_of}
use Rattle.file_check.proofs.layout.checking.check_row.Goals as goal

pub returns-in-Databases : goal.returns-in-Databases
returns-in-Databases g c =
    let is : c.args.table ≡ Databases = search rules in
    subst (λ t. Goes g.S.Store IsShaped c.args.conn.now c.check_database.new.conn (λ trees found. HasCells t c.args.row.now → IsBefore t trees → Judges (IsSoundRow t trees c.args.row.now) found) c.check_database.result) (sym is)
    (goes_map _ c.check_database.result (λ trees found h cells before. h cells) (goes_of c.check_database.ensures))

pub returns-in-Documents : goal.returns-in-Documents
returns-in-Documents g c =
    let is : c.args.table ≡ Documents = search rules in
    subst (λ t. Goes g.S.Store IsShaped c.args.conn.now c.check_document.new.conn (λ trees found. HasCells t c.args.row.now → IsBefore t trees → Judges (IsSoundRow t trees c.args.row.now) found) c.check_document.result) (sym is)
    (goes_of c.check_document.ensures)

pub returns-in-Revisions : goal.returns-in-Revisions
returns-in-Revisions g c =
    let is : c.args.table ≡ Revisions = search rules in
    subst (λ t. Goes g.S.Store IsShaped c.args.conn.now c.check_revision.new.conn (λ trees found. HasCells t c.args.row.now → IsBefore t trees → Judges (IsSoundRow t trees c.args.row.now) found) c.check_revision.result) (sym is)
    (goes_map _ c.check_revision.result (λ trees found h cells before. h cells) (goes_of c.check_revision.ensures))

pub returns-in-Locals : goal.returns-in-Locals
returns-in-Locals g c =
    let is : c.args.table ≡ Locals = search rules in
    subst (λ t. Goes g.S.Store IsShaped c.args.conn.now c.check_local.new.conn (λ trees found. HasCells t c.args.row.now → IsBefore t trees → Judges (IsSoundRow t trees c.args.row.now) found) c.check_local.result) (sym is)
    (goes_map _ c.check_local.result (λ trees found h cells before. h cells) (goes_of c.check_local.ensures))
