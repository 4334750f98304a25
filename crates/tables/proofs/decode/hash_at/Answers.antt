use Rattle.tables.proofs.Common.{IsUtf8-revision, List, Text, ap, column, subst, sym, ℕ, ◌∙◌, ◌≡◌}
use Rattle.std.proofs.Common.{IsUtf8}
use Rattle.sqlite_value.specs.Value.{owned}
use Rattle.tables.proofs.decode.hash_at.Goals as goal

same_text : (a b : List ℕ) → Text a ≡ Text b → a ≡ b
same_text a b e = cc

pub returns-in-Err-clause-damaged : goal.returns-in-Err-clause-damaged
returns-in-Err-clause-damaged c is below spells =
    let here : Text c.in-Ok-Text.text.now ≡ column c.args.row.now c.args.at = ap owned (sym c.in-Ok-Text.field-0-is) ∙ c.in-Ok-Text.ensures.ok.1 in
    let same : c.in-Ok-Text.text.now ≡ spells.0 = same_text _ _ (here ∙ spells.2) in
    c.in-Err.ensures.cases.0 (subst IsUtf8 (sym same) (IsUtf8-revision (record { number = 1; hash = spells.0 }) spells.1))
