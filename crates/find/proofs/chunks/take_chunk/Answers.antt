-- A chunk is the next of the candidates that are left.
use Rattle.std.proofs.Common.{◌≡◌, ◌+◌, ap, length, nat_lt, option_map, refl, rules, sym, take, ◌∙◌}
use Rattle.tree.proofs.Shown.{inside}
use Rattle.find.proofs.Behind.{chunk_left}
use Rattle.find.specs.inner.Sources.{ids_ahead, ids_of, ids_unless, last_of}
use Rattle.find.proofs.chunks.take_chunk.Goals as goal

pub returns-clause-ok : goal.returns-clause-ok
returns-clause-ok g c = λ honest d there.
    let source = c.args.source.now in
    let reached = c.args.chunks.now.reached in
    let most = c.chunk_size-most.result in
    let candidates = c.in_ok-candidates.candidates.items in
    let got : take most (ids_ahead source reached d) ≡ ids_of candidates = inside _ _ (ap (option_map (λ e. take most (ids_ahead source reached e))) (sym there) ∙ c.in_ok-candidates.ensures.ok honest) in
    let count : c.len.result ≡ length candidates = search rules in
    ap (λ b. ids_unless b (ids_ahead source reached d)) c.requires
    ∙ chunk_left source reached (record { last = c.in_ok-last.last; count = reached.count + most }) most (nat_lt c.len.result most) d candidates c.chunk_size-most.ensures.some (sym got) (ap (λ n. nat_lt n most) (sym count))
    (c.in_ok-last.ensures ∙ ap (last_of source) c.deref.ensures.value) refl
