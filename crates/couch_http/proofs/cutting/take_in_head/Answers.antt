use Rattle.std.proofs.Common.{◌≡◌, ◌++◌, ◌∙◌, true, false, length, take, length-append, refl, sym, rules}
use Rattle.std.specs.Prelude.{nat_lt}
use Rattle.couch_http.specs.declared.scan.Line.TheVariants.{Empty}
use Rattle.couch_http.specs.Stream.{head_limit}
use Rattle.couch_http.proofs.ScanLemmas.{scan-append_within}
use Rattle.couch_http.proofs.BeginLemmas.{Begins-waits, Begins-long, head_ends}
use Rattle.couch_http.proofs.cutting.take_in_head.Goals as goal

pub cut_at_head-requires : goal.cut_at_head-requires
cut_at_head-requires c =
    let old = c.args.partial.bytes.items in
    let piece = c.args.piece.now in
    let len = c.in-Complete.field-0.len in
    let grown : c.deref.result.now ≡ old ++ take len piece = search rules in
    rw grown (head_ends old piece _ _ len c.in-Complete.field-0.lines c.requires.scanned c.in-Complete.ensures.found).whole

pub returns-then-not-may_go_on-clause-ok : goal.returns-then-not-may_go_on-clause-ok
returns-then-not-may_go_on-clause-ok c =
    let old = c.args.partial.bytes.items in
    let piece = c.args.piece.now in
    let long : nat_lt (length (old ++ piece)) head_limit ≡ false = search (rules, length-append old piece) in
    rw (c.empty_cut.ensures.stage, c.empty_cut.ensures.ending, c.empty_cut.ensures.requests) (
      tt,
      Begins-long (old ++ piece) c.in-Within.scan.lines c.in-Within.scan.line
          (scan-append_within old piece 0 Empty _ _ c.requires.scanned ∙ sym c.in-Within.ensures.found) long,
    )

pub returns-else-is_err-2-clause-ok : goal.returns-else-is_err-2-clause-ok
returns-else-is_err-2-clause-ok c =
    let old = c.args.partial.bytes.items in
    let piece = c.args.piece.now in
    let grown : c.extend_from_slice.new.self.items ≡ old ++ piece = search rules in
    let short : nat_lt (length (old ++ piece)) head_limit ≡ true = search (rules, length-append old piece) in
    let scanned = scan-append_within old piece 0 Empty _ _ c.requires.scanned ∙ sym c.in-Within.ensures.found in
    rw (c.empty_cut-in-Within.ensures.stage, c.empty_cut-in-Within.ensures.ending, c.empty_cut-in-Within.ensures.requests) (
      record {
        scanned = rw grown scanned;
        counted = search rules;
        short = search rules;
      },
      rw grown (Begins-waits (old ++ piece) c.in-Within.scan.lines c.in-Within.scan.line scanned short, refl),
    )
