use Rattle.std.proofs.Common.{◌≡◌, ◌<◌, ◌≤◌, [], IfSome, Option, length, is_some, sym, ap, subst, ◌∙◌, rules, arith}
use Rattle.std.proofs.lemmas.List.{length-map}
use Rattle.store.specs.Pages.{SequencePage, document_counts, if_counted, in_sequence, page_with, rows_of, sequence_page}
use Rattle.store.specs.Plain.{gathered_after}
use Rattle.store.specs.Writing.{addition_of, additions}
use Rattle.store.specs.declared.listing.DocumentCounts.{DocumentCounts}
use Rattle.store.proofs.Bounds.{page_bounded}
use Rattle.store.proofs.PageStructs.{counts_below, is_counted}
use Rattle.store.proofs.plain_sequence_pages.page_by_seq.Goals as goal

pub returns-clause-page : goal.returns-clause-page
returns-clause-page c =
    let range = c.args.range.now in
    let made = c.in_ok-documents.ensures in
    let rows = c.in_ok-rows-2.ensures ∙ ap in_sequence (c.in_ok-rows.ensures ∙ ap (rows_of range.all_leaves) made) in
    let counts = c.counts_of-counts.ensures.counts ∙ ap (λ ds. if_counted range.counted (document_counts ds)) made in
    let writes : c.len-sequence.result ≡ length c.args.writes.now.items = search rules in
    c.cut_by_sequence.ensures.page ∙ (λ i. sequence_page range (writes i) (counts i) (rows i))

pub returns-clause-bounded : goal.returns-clause-bounded
returns-clause-bounded c =
    let cut = c.cut_by_sequence.result in
    let es = gathered_after 0 [] (additions c.args.writes.now.items) in
    let writes : c.len-sequence.result ≡ length c.args.writes.now.items = search rules in
    let lt : length c.args.writes.now.items < 9223372036854775808 = search rules in
    let fewer : length c.in_ok-documents.documents.items < 9223372036854775808 = search rules in
    let n : c.cut_by_sequence.result.sequence ≡ length c.args.writes.now.items = ap (λ (p : SequencePage). p.sequence) c.cut_by_sequence.ensures.page ∙ writes in
    let told : c.cut_by_sequence.result.counts ≡ c.counts_of-counts.result = ap (λ (p : SequencePage). p.counts) c.cut_by_sequence.ensures.page in
    let long : length (additions c.args.writes.now.items) ≡ length c.args.writes.now.items = length-map c.args.writes.now.items addition_of in
    let page = returns-clause-page c ∙ ap (λ k. page_with c.args.range.now k es) (sym n) in
    let h = page_bounded c.args.range.now (additions c.args.writes.now.items) cut.last_seq cut.sequence cut.rows.items cut.counts (n ∙ sym long) page in
    record {
      sequence = omega (arith, n, lt);
      last = omega (arith, h.0, n, lt);
      rows = λ k d i. omega (arith, h.1 k d i, n, lt);
      counted = ap is_some (told ∙ c.counts_of-counts.ensures.counts) ∙ is_counted c.args.range.now.counted _;
      counts = counts_below (length c.in_ok-documents.documents.items) cut.counts
          (subst (λ (o : Option DocumentCounts). IfSome {T = DocumentCounts} o (λ k. (k.documents ≤ length c.in_ok-documents.documents.items) × (k.deleted ≤ length c.in_ok-documents.documents.items))) (sym told) c.counts_of-counts.ensures.within) fewer;
    }
