use Rattle.tables.proofs.Common.{Err, None, ap, rules, sym, ◌∙◌, ◌≡◌}
use Rattle.file_check.proofs.Inspecting.{inspects_nothing, inspects_of, inspects_refused, inspects_so}
use Rattle.file_check.specs.declared.finding.CheckFault.TheVariants as fault
use Rattle.file_check.proofs.counting.count.Goals as goal

pub returns-in_err-rows : goal.returns-in_err-rows
returns-in_err-rows g c =
    let is : c.from_residual.result ≡ Err (fault.Sqlite c.in_err-rows.field-0.0) = search rules in
    inspects_nothing _ _ c.from_residual.result is (inspects_refused c.in_err-rows.ensures.reads c.in_err-rows.ensures.failed)

pub returns : goal.returns
returns g c =
    let h = c.in_ok-rows.ensures.reads in
    let none : c.read_count.result ≡ None = search rules in
    record {
      found = λ clean fit. tt;
      served = λ clean. tt;
      stands = λ has clean. tt;
      looks = λ has. (h.looks has).rows;
      asks = h.asks;
      accounts = record {
        failed = λ has clean. absurd (let never = sym none ∙ c.read_count.ensures _ (c.deref.ensures.value ∙ h.found clean has) in cc);
        same = λ has clean. tt;
        counts = λ has clean. (h.looks has).survives.counts;
      };
    }
