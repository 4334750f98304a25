use Rattle.std.proofs.Common.{◌≡◌, ◌∙◌, true, false, Some, ap, sym, refl}
use Rattle.std.specs.Str.{is_utf8}
use Rattle.std.proofs.lemmas.Bool.{false_from_ne_true}
use Rattle.std.proofs.lemmas.Str.{IsUtf8-from_is_utf8, is_utf8-from_IsUtf8}
use Rattle.lab.specs.Words.{is_word}
use Rattle.lab.proofs.words.read_text.Goals as goal

pub returns-in-Ok : goal.returns-in-Ok
returns-in-Ok c =
    let word : is_word c.args.bytes.now ≡ true = sym c.is_word.ensures ∙ c.if-not-is_word.false in
    let text : is_utf8 c.args.bytes.now ≡ true = is_utf8-from_IsUtf8 _ c.in-Ok.ensures.cases.1 in
    rw (word, text) (ap Some c.in-Ok.ensures.cases.0)

pub returns-in-Err : goal.returns-in-Err
returns-in-Err c =
    let word : is_word c.args.bytes.now ≡ true = sym c.is_word.ensures ∙ c.if-not-is_word.false in
    let text : is_utf8 c.args.bytes.now ≡ false = false_from_ne_true _ (λ e. c.in-Err.ensures.cases.0 (IsUtf8-from_is_utf8 _ e)) in
    rw (word, text) refl
