use Rattle.std.proofs.Common.{ap, sym, ◌∙◌, ◌++◌, option_map}
use Rattle.lab.proofs.EscapeLemmas.{option_map-put}
use Rattle.lab.specs.Escapes.{unescaped_text}
use Rattle.lab.proofs.escapes.unescape.Goals as goal

pub loop-rest-preserved : goal.loop-rest-preserved
loop-rest-preserved c =
    rw c.in_ok-push.ensures.items (sym (option_map-put c.loop-rest.bytes.items c.in-Some.byte (unescaped_text c.in-Some.after.now))
    ∙ ap (option_map (λ more. c.loop-rest.bytes.items ++ more)) (sym c.in-Some.ensures.first) ∙ c.loop-rest.invariant)
