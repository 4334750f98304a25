use Rattle.std.proofs.Common.{◌∙◌, sym}
use Rattle.couch_http.specs.declared.scan.Line.TheVariants.{Empty}
use Rattle.couch_http.proofs.BeginLemmas.{head_ends}
use Rattle.couch_http.proofs.ScanLemmas.{scan-append_within}
use Rattle.couch_http.proofs.reply_cutting.take_reply_piece.Goals as goal

pub take_in_head-requires-clause-scanned : goal.take_in_head-requires-clause-scanned
take_in_head-requires-clause-scanned c =
    scan-append_within c.in-Head.partial.bytes.items c.args.piece.now 0 Empty _ _ (rw c.in-Head.is at c.requires).scanned ∙ sym c.in-Within.ensures.found

pub take_at_head-requires-clause-scanned : goal.take_at_head-requires-clause-scanned
take_at_head-requires-clause-scanned c =
    (head_ends c.in-Head.partial.bytes.items c.args.piece.now _ _ c.in-Complete.whole.len c.in-Complete.whole.lines (rw c.in-Head.is at c.requires).scanned
    c.in-Complete.ensures.found).whole
