use Rattle.std.proofs.Common.{rules, ◌≡◌, ◌≢◌, ◌≤◌, [], IfErr, Err, subst, sym, ap, ◌∙◌, append-nil}
use Rattle.couch_json.specs.Key.{key}
use Rattle.couch_json.specs.Lawful.{IsLawful}
use Rattle.couch_json.specs.Nesting.{max_open}
use Rattle.couch_json.specs.Value.{Value, depth}
use Rattle.couch_json.specs.View.{view}
use Rattle.couch_json.specs.declared.key_fault.KeyFault.TheVariants.{Memory}
use Rattle.couch_json.proofs.KeyReading.{found_value}
use Rattle.couch_json.proofs.key_reading.key_of.Goals as goal

pub returns-in_err-value-clause-none : goal.returns-in_err-value-clause-none
returns-in_err-value-clause-none c =
    let is : c.from_residual.result ≡ Err c.in_err-value.field-0.0 = search rules in
    subst (λ result. IfErr result (λ fault. fault ≢ Memory → (v : Value) → IsLawful v → depth v ≤ max_open → key v ≢ c.args.bytes.now)) (sym is)
    (λ other v h d e. absurd (cc (c.in_err-value.ensures.none other v [] h d (append-nil (key v) ∙ e))))

-- the value that was read is the only one whose key the bytes can be
pub returns-then-ne-clause-none : goal.returns-then-ne-clause-none
returns-then-ne-clause-none c =
    let spelled_otherwise : key (view c.in_ok-value.value) ≢ c.args.bytes.now = search rules in
    λ _ v h d e. spelled_otherwise (ap (λ found. key (found_value v [] found).0) (c.in_ok-value.ensures.value v [] h d (append-nil (key v) ∙ e)) ∙ e)
