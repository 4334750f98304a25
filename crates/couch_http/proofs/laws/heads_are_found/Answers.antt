use Rattle.couch_http.proofs.HeadLaws.{head_is_found, head_is_lines}
use Rattle.couch_http.proofs.laws.heads_are_found.Goals as goal

pub returns : goal.returns
returns c = λ head rest lines. (head_is_found head rest lines, head_is_lines head rest lines)
