use Rattle.std.proofs.lemmas.Map.Text.{text_keys}
use Rattle.std.proofs.Common.{arith}
use Rattle.selector.proofs.field_bounds.FieldBounds.put.Goals as goal

pub returns : goal.returns
returns c = λ other. grind (arith, text_keys)
