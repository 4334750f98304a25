use Rattle.std.proofs.Common.{◌∙◌, ap, codes, List, [], Option, map, string_bytes, unwrap_or}
use Rattle.std.proofs.lemmas.Result.{IfOk-weaker}
use Rattle.clap.specs.Words.{Text, found_of}
use Rattle.clap.proofs.WalkLemmas.{raw_values-rows}
use Rattle.command_line.proofs.command_line.admins_of.Goals as goal

abbrev or_none : Option (List Text) → List Text
or_none names = unwrap_or names []

pub returns-in-Some : goal.returns-in-Some
returns-in-Some c =
    IfOk-weaker c.copies.result _ _ (λ v h. h ∙ ap or_none (c.in-Some.ensures ∙ raw_values-rows (found_of c.args.matches.now) (codes "admin"))) c.copies.ensures

pub returns-in-None : goal.returns-in-None
returns-in-None c = ap (map string_bytes) c.new.ensures.items ∙ ap or_none (c.in-None.ensures ∙ raw_values-rows (found_of c.args.matches.now) (codes "admin"))
