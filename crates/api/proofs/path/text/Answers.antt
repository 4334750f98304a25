use Rattle.std.proofs.Common.{◌≡◌, Bool, true, false, List, ℕ, Some, None, ap, refl}
use Rattle.std.specs.Str.{is_utf8}
use Rattle.std.proofs.lemmas.Str.{is_utf8-from_IsUtf8, IsUtf8-from_is_utf8}
use Rattle.api.specs.Paths.{text_if}
use Rattle.api.proofs.path.text.Goals as goal

text_if_true : (b : Bool) (t s : List ℕ) → b ≡ true → s ≡ t → Some s ≡ text_if b t
text_if_true true t s e same = ap Some same
text_if_true false t s e same = search

text_if_not : (b : Bool) (t : List ℕ) → (b ≡ true → ⊥) → None ≡ text_if b t
text_if_not true t h = absurd (h refl)
text_if_not false t h = refl

pub returns-in-Ok : goal.returns-in-Ok
returns-in-Ok c =
    text_if_true (is_utf8 c.args.bytes.now) c.args.bytes.now _ (is_utf8-from_IsUtf8 c.args.bytes.now c.in-Ok.ensures.cases.1) c.in-Ok.ensures.cases.0

pub returns-in-Err : goal.returns-in-Err
returns-in-Err c =
    text_if_not (is_utf8 c.args.bytes.now) c.args.bytes.now (λ e. c.in-Err.ensures.cases.0 (IsUtf8-from_is_utf8 c.args.bytes.now e))
