use Rattle.std.proofs.Common.{◌≡◌, ◌++◌, false, encode_utf8, string_bytes, sym, ap, ◌∙◌, rules}
use Rattle.couch_json.specs.FieldPath.{names_from, with_held}
use Rattle.couch_json.proofs.Signs.{plain_sign}
use Rattle.couch_json.proofs.field_path.take_sign.Goals as goal
use Rattle.couch_json.proofs.field_path.take_sign.Goals.{then-held+in_ok-push, else-held}

pub returns : goal.returns
returns c = λ bytes.
    let held : string_bytes c.if-held.name ≡ with_held c.args.held (string_bytes c.args.name.now) =
    elim c.if-held.branch [ then-held+in_ok-push w ↦ search (rules, w) | else-held w ↦ search (rules, w) ] in
    let taken : string_bytes c.push-2.new.self ≡ string_bytes c.if-held.name ++ encode_utf8 c.args.sign = search rules in
    plain_sign c.args.held (string_bytes c.args.name.now) c.args.sign bytes c.requires c.if-sign-eq92.false
    ∙ ap (λ n. names_from false n bytes) (sym (taken ∙ ap (λ n. n ++ encode_utf8 c.args.sign) held))
