use Rattle.std.proofs.Common.{◌≡◌, ◌≤◌, ◌++◌, ◌-◌, length, take, drop, rules, arith, append_assoc}
use Rattle.couch_http.specs.Message.{message_of}
use Rattle.couch_http.proofs.BeginLemmas.{with_body-done}
use Rattle.couch_http.proofs.cutting.take_in_body.Goals as goal

pub returns-in-Ok-cut_after-clause-ok : goal.returns-in-Ok-cut_after-clause-ok
returns-in-Ok-cut_after-clause-ok c =
    let body = c.args.partial.request.body.items in
    let size = c.args.partial.length in
    let piece = c.args.piece.now in
    let had : c.len-had.result ≡ length body = search rules in
    let enough : size - length body ≤ length piece = omega (arith, c.if-piece-missing.false) in
    let grown : c.extend_from_slice.new.self.items ≡ body ++ c.split_at.result.0.now = search rules in
    let front : c.split_at.result.0.now ≡ take (size - length body) piece = rw had at c.split_at.ensures.front in
    let back : c.split_at.result.1.now ≡ drop (size - length body) piece = rw had at c.split_at.ensures.back in
    c.in-Ok-cut_after.ensures.ok (c.args.partial.head.items ++ body ++ piece)
    (rw (append_assoc, grown, front, back)
    (rw (with_body-done (message_of c.args.partial.request) size body piece c.requires.short enough) at (c.requires.awaits (body ++ piece))))
