use Rattle.std.proofs.Common.{◌≡◌, ◌++◌, true, false, Some, length, length-append, refl, ap, inr, rules}
use Rattle.std.specs.Prelude.{nat_lt}
use Rattle.couch_http.specs.Front.{head_limit}
use Rattle.couch_http.proofs.ReplyLemmas.{BeginsReply-long, BeginsReply-waits}
use Rattle.couch_http.proofs.reply_cutting.take_in_head.Goals as goal

pub returns-then-not-may_go_on-clause-err : goal.returns-then-not-may_go_on-clause-err
returns-then-not-may_go_on-clause-err c =
    let old = c.args.partial.bytes.items in
    let piece = c.args.piece.now in
    let long : nat_lt (length (old ++ piece)) head_limit ≡ false = search (rules, length-append old piece) in
    (tt, inr (tt, BeginsReply-long (old ++ piece) c.args.scan.lines c.args.scan.line c.requires.scanned long, refl))

pub returns-clause-ok : goal.returns-clause-ok
returns-clause-ok c =
    let old = c.args.partial.bytes.items in
    let piece = c.args.piece.now in
    let grown : c.extend_from_slice.new.self.items ≡ old ++ piece = search rules in
    let short : nat_lt (length (old ++ piece)) head_limit ≡ true = search (rules, length-append old piece) in (
      BeginsReply-waits (old ++ piece) c.args.scan.lines c.args.scan.line c.requires.scanned short,
      ap Some grown,
      record {
        scanned = rw grown c.requires.scanned;
        counted = search (rules, length-append old piece);
        short = search (rules, length-append old piece);
      },
    )
