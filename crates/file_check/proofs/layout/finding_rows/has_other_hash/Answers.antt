use Rattle.tables.proofs.Common.{Err, ap, list_any, rules, ◌∙◌, ◌≡◌}
use Rattle.file_check.proofs.Found.{hashes_found}
use Rattle.file_check.proofs.Inspecting.{inspects_nothing, inspects_of, inspects_refused, inspects_so}
use Rattle.file_check.specs.inner.Queries.{is_shown_hash}
use Rattle.file_check.specs.declared.finding.CheckFault.TheVariants as fault
use Rattle.file_check.proofs.layout.finding_rows.has_other_hash.Goals as goal

pub returns-in_err-rows : goal.returns-in_err-rows
returns-in_err-rows g c =
    let is : c.from_residual.result ≡ Err (fault.Sqlite c.in_err-rows.field-0.0) = search rules in
    inspects_nothing _ _ c.from_residual.result is (inspects_refused c.in_err-rows.ensures.reads c.in_err-rows.ensures.failed)

pub returns : goal.returns
returns g c = inspects_so _ c.in_ok-rows.rows _ (λ trees is. c.is_hash_among.ensures ∙ ap (list_any (is_shown_hash c.args.hash.now)) c.deref.ensures.value ∙ hashes_found trees c.args.db.now c.args.id.now c.args.number.now c.args.hash.now c.in_ok-rows.rows.items is) (inspects_of c.in_ok-rows.ensures.reads)
