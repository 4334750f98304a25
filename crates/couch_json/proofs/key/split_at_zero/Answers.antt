use Rattle.std.proofs.Common.{◌++◌, ◌∷◌, [], sym, subst, ◌≡◌, ◌∙◌}
use Rattle.std.specs.Prelude.{MatchOption}
use Rattle.couch_json.specs.Key.{text_key}
use Rattle.couch_json.proofs.TextKeys.{at_zero, without_zero}
use Rattle.couch_json.proofs.key.split_at_zero.Goals as goal

pub returns-in_err-zero-clause-key : goal.returns-in_err-zero-clause-key
returns-in_err-zero-clause-key c =
    let bytes = c.args.bytes.now in
    subst (λ r. MatchOption r (text_key bytes ≡ bytes ++ 0 ∷ 0 ∷ []) (λ parts. text_key bytes ≡ parts.0.now ++ 0 ∷ 255 ∷ text_key parts.1.now)) (sym c.from_residual.ensures)
    (without_zero bytes (sym c.find_zero.ensures ∙ c.in_err-zero.was))

pub returns-clause-key : goal.returns-clause-key
returns-clause-key c = at_zero c.args.bytes.now c.in_ok-zero.zero (sym c.find_zero.ensures ∙ c.in_ok-zero.was)
