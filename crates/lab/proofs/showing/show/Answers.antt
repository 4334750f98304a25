use Rattle.std.proofs.Common.{◌∙◌, ap, map, sym, refl}
use Rattle.lab.specs.Replies.{says_end, sight_lines}
use Rattle.world.specs.OneEvent.{sight_of}
use Rattle.lab.proofs.showing.show.Goals as goal

pub returns-in-Ok-clause-shown : goal.returns-in-Ok-clause-shown
returns-in-Ok-clause-shown g c = λ honest. (
  map sight_of c.in-Ok.seen.items,
  sight_lines c.args.name.now (map sight_of c.in-Ok.seen.items),
  (c.in-Ok.ensures.played honest, refl),
  sym (c.says_end.ensures ∙ ap (λ xs. says_end (map sight_of xs)) c.deref-in-Ok.ensures.value),
  rw c.deref.ensures.value at c.in_ok-print_all-in-Ok.ensures.printed,
)
