use Rattle.std.proofs.Common.{◌≡◌, length, map, sym, ap, ◌∙◌, rules}
use Rattle.store.specs.Pages.{put_in_sequence}
use Rattle.store.specs.PageStructs.{sequence_rows}
use Rattle.store.proofs.PageStructs.{keyed, no_length, one_put, seconds-keyed}
use Rattle.store.proofs.plain_sequence_pages.sort_by_sequence.Goals as goal

pub loop-row-preserved : goal.loop-row-preserved
loop-row-preserved c =
    one_put c.loop-row.rows.items c.pop.new.self.items c.in-Some.row c.loop-row.ordered.entries c.put_sorted.new.entries.entries c.in-Some.ensures.items c.in_ok-put_sorted.ensures.ok
    ∙ c.loop-row.invariant

pub returns : goal.returns
returns c =
    let ordered = c.loop-row.ordered.entries in
    let count : length c.loop-row.rows.items ≡ 0 = search rules in
    let none = no_length c.loop-row.rows.items count in
    let all = ap (λ rs. put_in_sequence (sequence_rows rs) (keyed ordered)) (sym none) ∙ c.loop-row.invariant in
    ap sequence_rows c.in_ok-list_values.ensures ∙ sym (seconds-keyed ordered) ∙ ap (map (λ e. e.1)) all
