use Rattle.std.proofs.Common.{◌≡◌, string_bytes, ap, ◌∙◌, rules}
use Rattle.json.specs.Print.{print}
use Rattle.couch_json.specs.View.{view}
use Rattle.couch_json.specs.inner.Written.{value_tokens}
use Rattle.couch_json.specs.Reading.{reading}
use Rattle.couch_json.proofs.ReadingBack.{reading-canonical}
use Rattle.couch_json.proofs.Texts.{print-value_tokens}
use Rattle.couch_json.proofs.writing.canon.Goals as goal

pub returns-clause-text : goal.returns-clause-text
returns-clause-text c =
    let v = view c.args.value.now in
    let tokens : c.put_value.new.out.tokens ≡ value_tokens v = cc (c.in_ok-put_value.ensures.tokens, c.new-out.ensures.tokens) in
    let text : string_bytes c.in-Ok.text ≡ print c.put_value.new.out.tokens = search rules in
    text ∙ ap print tokens ∙ print-value_tokens v

pub returns-clause-reads_back : goal.returns-clause-reads_back
returns-clause-reads_back c = λ shallow. ap reading (returns-clause-text c) ∙ reading-canonical (view c.args.value.now) c.in_ok-put_value.ensures.lawful shallow
