use Rattle.std.proofs.Common.{◌≡◌, drop, get_or, true, false, Some, None, option_map, ◌==◌, sym, ap, ◌∙◌, subst, arith, take_all, length-drop}
use Rattle.std.specs.Prelude.{IfOk, IfErr}
use Rattle.fast_float.specs.Text.{scan}
use Rattle.serde_json.specs.Find.{as_integer}
use Rattle.serde_json.specs.Read.{number_of, number_from}
use Rattle.couch_json.specs.declared.fault.JsonFault.TheVariants.{Syntax}
use Rattle.couch_json.proofs.numeral.read_number.Goals as goal

pub returns-then-has_minus-clause-read : goal.returns-then-has_minus-clause-read
unfolding number_of
returns-then-has_minus-clause-read c =
    let s = c.as_bytes-bytes.result.now in
    let signed : (get_or s 0 0 == 45) ≡ true = sym c.if-has_minus.ensures.value in
    let parts : c.scan.result ≡ scan (drop 1 s) = c.scan.ensures.parts ∙ ap scan (take_all _ (drop 1 s) (omega (arith, length-drop 1 s))) in
    let read : number_from true (scan (drop 1 s)) ≡ number_of s = rw signed in
    let is = ap (number_from true) parts ∙ read ∙ ap number_of c.as_bytes-bytes.ensures.value in
    subst (λ o. IfOk c.read_below_zero.result (λ found. option_map as_integer o ≡ Some found)) is c.read_below_zero.ensures.read

pub returns-then-has_minus-clause-fault : goal.returns-then-has_minus-clause-fault
unfolding number_of
returns-then-has_minus-clause-fault c =
    let s = c.as_bytes-bytes.result.now in
    let signed : (get_or s 0 0 == 45) ≡ true = sym c.if-has_minus.ensures.value in
    let parts : c.scan.result ≡ scan (drop 1 s) = c.scan.ensures.parts ∙ ap scan (take_all _ (drop 1 s) (omega (arith, length-drop 1 s))) in
    let read : number_from true (scan (drop 1 s)) ≡ number_of s = rw signed in
    let is = ap (number_from true) parts ∙ read ∙ ap number_of c.as_bytes-bytes.ensures.value in
    subst (λ o. IfErr c.read_below_zero.result (λ e. (e ≡ Syntax) × (o ≡ None))) is c.read_below_zero.ensures.fault

pub returns-else-has_minus-clause-read : goal.returns-else-has_minus-clause-read
unfolding number_of
returns-else-has_minus-clause-read c =
    let s = c.as_bytes-bytes.result.now in
    let unsigned : (get_or s 0 0 == 45) ≡ false = sym c.if-has_minus.ensures.value in
    let read : number_from false (scan s) ≡ number_of s = rw unsigned in
    let is = ap (number_from false) c.scan-else-has_minus.ensures.parts ∙ read ∙ ap number_of c.as_bytes-bytes.ensures.value in
    subst (λ o. IfOk c.read_from_zero.result (λ found. option_map as_integer o ≡ Some found)) is c.read_from_zero.ensures.read

pub returns-else-has_minus-clause-fault : goal.returns-else-has_minus-clause-fault
unfolding number_of
returns-else-has_minus-clause-fault c =
    let s = c.as_bytes-bytes.result.now in
    let unsigned : (get_or s 0 0 == 45) ≡ false = sym c.if-has_minus.ensures.value in
    let read : number_from false (scan s) ≡ number_of s = rw unsigned in
    let is = ap (number_from false) c.scan-else-has_minus.ensures.parts ∙ read ∙ ap number_of c.as_bytes-bytes.ensures.value in
    subst (λ o. IfErr c.read_from_zero.result (λ e. (e ≡ Syntax) × (o ≡ None))) is c.read_from_zero.ensures.fault
