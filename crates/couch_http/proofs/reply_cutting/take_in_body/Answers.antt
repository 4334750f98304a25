use Rattle.std.proofs.Common.{◌≡◌, ◌∙◌, ◌++◌, ◌-◌, ◌<◌, ◌≤◌, Some, length, take, length-append, append_assoc, sym, ap, subst, arith, rules, List, ℕ}
use Rattle.couch_http.specs.Front.{waits, whole}
use Rattle.couch_http.specs.ReplyStream.{BeginsReply}
use Rattle.couch_http.proofs.ReplyLemmas.{reply_done, reply_waits}
use Rattle.couch_http.proofs.reply_cutting.take_in_body.Goals as goal

pub returns-in-Ok-clause-ok : goal.returns-in-Ok-clause-ok
returns-in-Ok-clause-ok c =
    let p = c.requires in
    let piece = c.args.piece.now in
    let grown : c.extend_from_slice.new.self.items ≡ c.args.partial.bytes.items ++ piece = search rules in
    let len : length c.args.partial.bytes.items ≡ length (p.head ++ p.body) = ap length p.parts in
    let short : length (p.body ++ piece) < c.args.partial.size = omega (arith, c.if-piece-missing.true, len, p.at, p.within, length-append p.head p.body, length-append p.body piece) in (
      subst (λ (bytes : List ℕ). BeginsReply (bytes ++ piece) waits) (sym p.parts) (reply_waits c.args.partial.status c.args.partial.size p.head p.body piece p.awaits short),
      ap Some grown,
      record {
        head = p.head;
        body = p.body ++ piece;
        parts = grown ∙ ap (λ bytes. bytes ++ piece) p.parts ∙ append_assoc p.head p.body piece;
        at = p.at;
        within = omega (arith, short);
        awaits = p.awaits;
      },
    )

pub returns-in-Ok-extend_from_slice-clause-ok : goal.returns-in-Ok-extend_from_slice-clause-ok
returns-in-Ok-extend_from_slice-clause-ok c =
    let p = c.requires in
    let piece = c.args.piece.now in
    let missing = c.args.partial.size - (length c.args.partial.bytes.items - c.args.partial.head_len) in
    let grown : c.extend_from_slice-2.new.self.items ≡ c.args.partial.bytes.items ++ take missing piece = search rules in
    let len : length c.args.partial.bytes.items ≡ length (p.head ++ p.body) = ap length p.parts in
    let left : missing ≡ c.args.partial.size - length p.body = omega (arith, len, p.at, p.within, length-append p.head p.body) in
    let enough : missing ≤ length piece = omega (arith, c.if-piece-missing.false, len, p.at, p.within, length-append p.head p.body) in
    let done = reply_done c.args.partial.status c.args.partial.size missing p.head p.body piece c.read.result p.awaits p.within left enough c.extend_from_slice-2.new.self.items
    (grown ∙ ap (λ bytes. bytes ++ take missing piece) p.parts) (rw (sym p.at) c.read.ensures) in
    (done.0, subst (λ (bytes : List ℕ). BeginsReply (bytes ++ piece) (whole c.read.result done.0)) (sym p.parts) done.1)
