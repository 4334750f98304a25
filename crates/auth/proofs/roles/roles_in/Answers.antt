use Rattle.std.proofs.Common.{ℕ, List, [], ◌∷◌, ◌∙◌, ap, map, sym, lit<, Bor}
use Rattle.std.proofs.lemmas.List.{map-append}
use Rattle.std.proofs.lemmas.Iterator.Consumers.{YieldsList-end}
use Rattle.std.proofs.lemmas.Iterator.Splits.{YieldsList-from_str_split}
use Rattle.auth.proofs.RoleLemmas.{roles_of_pieces, roles_of_pieces-push}
use Rattle.auth.proofs.roles.roles_in.Goals as goal

pub loop-piece-preserved : goal.loop-piece-preserved
loop-piece-preserved c =
    let now = λ (x : Bor (List ℕ)). x.now in
    roles_of_pieces-push (map now c.loop-piece.yielded) c.in-Some.piece.now c.trim_blanks.result.now _ _ c.loop-piece.invariant c.trim_blanks.ensures c.in_ok-push_role.ensures
    ∙ ap roles_of_pieces (sym (map-append now c.loop-piece.yielded (c.in-Some.piece ∷ [])))

pub returns : goal.returns
returns c =
    let t = YieldsList-end (YieldsList-from_str_split {s = c.into_iter-piece-iterator.result} 44 c.args.value.now (lit< tt) (cc) (cc) (cc)) c.loop-piece.yielded _ c.loop-piece.yielded_by _ _ c.in-None.is c.next.ensures.steps in
    c.loop-piece.invariant ∙ ap roles_of_pieces t.0
